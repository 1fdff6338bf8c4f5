use mathlib.Core.Path.{refl, sym, ap, ◌∙◌}
use borrow.Author.Tests.{le-leb, lt-leb}
use Rattle.model.proofs.Refusals.{none_first}
use Rattle.model.specs.Command.{header_rules}
use Rattle.model.specs.Numbers.{number_of_check}
use Rattle.model.specs.Refusals.{positive}
use Rattle.command.specs.Look.{look}
use Rattle.command.proofs.Numbers.{number_some}
use Rattle.command.proofs.Head.look.Goals as goal

pub returns-then-waiting_words-needed_words : goal.returns-then-waiting_words-needed_words
unfolding look
returns-then-waiting_words-needed_words c =
    rw (← c.check-check.ensures, ← c.needed_words.ensures, ← c.waiting_words.ensures.0, lt-leb _ _ c.if-waiting_words-needed_words.true)

-- a command that nothing refuses has no bad count word
pub whole-requires : goal.whole-requires
unfolding positive
whole-requires c =
    let h = c.args.self in
    (none_first (header_rules c.args.wants h.size h.read h.header h.counted) refl (sym c.check-check.ensures ∙ ap number_of_check c.in-Ok.is)).1.1.1.0

pub returns-in-Ok : goal.returns-in-Ok
unfolding look
returns-in-Ok c =
    rw (← c.check-check.ensures, ← c.needed_words.ensures, ← c.waiting_words.ensures.0, le-leb _ _ c.if-waiting_words-needed_words.false, c.in-Ok.is) c.whole.ensures

pub returns-in-Err : goal.returns-in-Err
unfolding look
returns-in-Err c =
    rw (← c.check-check.ensures, ← c.needed_words.ensures, ← c.waiting_words.ensures.0, le-leb _ _ c.if-waiting_words-needed_words.false, c.in-Err.is, number_some c.in-Err.refusal)
