use mathlib.Core.Path.{sym, ◌∙◌}
use mathlib.Core.Bool.{true, false}
use native.Mathlib.Omega.{arith}
use Rattle.model.specs.Command.{word_registers}
use Rattle.command.proofs.Loads.{load_word, load_end}
use Rattle.command.proofs.load_each.Goals as goal
use Rattle.command.proofs.load_each.Goals.{then-is_set, else-is_set}

pub loop-i-preserved : goal.loop-i-preserved
loop-i-preserved c = let a = c.args in
    let l = c.loop-i in
    let on = sym c.is_set.ensures in
    let word = load_word a.ring.now a.read a.header (word_registers c.kind_of-kind.result) l.i l.out in
    elim c.if-is_set.branch [
      | then-is_set w ↦ rw (w.out-is, w.register_of-r.ensures.0, w.word_at.ensures) (l.invariant ∙ word true (omega arith) (on ∙ w.if-is_set.true))
      | else-is_set w ↦ rw w.out-is (l.invariant ∙ word false (omega arith) (on ∙ w.if-is_set.false))
    ]

pub returns : goal.returns
returns c = let a = c.args in
    let l = c.loop-i in
    sym (rw (← c.kind_of-kind.ensures) (l.invariant ∙ load_end a.ring.now a.read a.header (word_registers c.kind_of-kind.result) l.i l.out (omega arith)))
