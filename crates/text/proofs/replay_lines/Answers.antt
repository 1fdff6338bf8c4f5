use Rattle.std.proofs.Common.{append_assoc}
use Rattle.text.specs.Lines.{replay_lines}
use Rattle.text.proofs.Lines.{state_is}
use Rattle.text.proofs.replay_lines.Goals as goal

pub returns : goal.returns
unfolding replay_lines
returns c =
    rw (
      c.put-3.ensures,
      c.put_value-5.ensures.text,
      append_assoc,
      c.put-2.ensures,
      append_assoc,
      c.put.ensures,
      append_assoc,
      c.put_value-4.ensures.text,
      append_assoc,
      c.put_value-3.ensures.text,
      append_assoc,
      c.put_value-2.ensures.text,
      append_assoc,
      c.put_value.ensures.text,
      append_assoc,
      c.new-text.ensures,
      c.state_word.ensures,
      c.parts_of-parts.ensures,
      state_is c.args.a.reply,
    )
