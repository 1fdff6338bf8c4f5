use native.Mathlib.Omega.{arith}
use Rattle.model.specs.Refusals.{first}
use borrow.Author.Tests.{le-leb, le-ltb, lt-leb, lt-ltb}
use Rattle.ring.proofs.check_position.Goals as goal

pub returns-then-size-p : goal.returns-then-size-p
unfolding first
returns-then-size-p c = let a = c.args in simp (le-ltb a.p a.size (omega arith))

pub returns-then-gap-waiting_words : goal.returns-then-gap-waiting_words
unfolding first
returns-then-gap-waiting_words c = let a = c.args in
    simp (
      ← c.waiting_words.ensures.0,
      ← c.gap.ensures.is,
      lt-ltb a.p a.size (omega arith),
      lt-leb _ _ c.if-gap-waiting_words.true,
    )

pub returns-else-gap-waiting_words : goal.returns-else-gap-waiting_words
unfolding first
returns-else-gap-waiting_words c = let a = c.args in
    simp (
      ← c.waiting_words.ensures.0,
      ← c.gap.ensures.is,
      lt-ltb a.p a.size (omega arith),
      le-leb _ _ c.if-gap-waiting_words.false,
    )
