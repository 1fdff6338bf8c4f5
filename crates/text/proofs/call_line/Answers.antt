use Rattle.std.proofs.Common.{append_assoc}
use Rattle.text.specs.Lines.{call_line}
use Rattle.text.proofs.Lines.{answer_is}
use Rattle.text.proofs.call_line.Goals as goal

pub returns : goal.returns
unfolding call_line
returns c =
    rw (
      c.put-5.ensures,
      c.put_place.ensures.text,
      append_assoc,
      c.put-4.ensures,
      append_assoc,
      c.put_value-6.ensures.text,
      append_assoc,
      c.put_value-5.ensures.text,
      append_assoc,
      c.put_value-4.ensures.text,
      append_assoc,
      c.put_value-3.ensures.text,
      append_assoc,
      c.put_value-2.ensures.text,
      append_assoc,
      c.put_value.ensures.text,
      append_assoc,
      c.put_answer.ensures.text,
      append_assoc,
      c.put-3.ensures,
      append_assoc,
      c.put-2.ensures,
      append_assoc,
      c.put.ensures,
      append_assoc,
      c.new-text.ensures,
      c.call_word.ensures.word,
      c.parts_of-parts.ensures,
      answer_is c.args.a.reply,
    )
