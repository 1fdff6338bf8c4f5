use mathlib.Core.Path.{sym, ◌∙◌}
use native.Mathlib.Omega.{arith}
use Rattle.model.specs.Command.{word_registers}
use Rattle.command.proofs.Loads.{load_chosen, load_end}
use Rattle.command.proofs.load_piece.Goals as goal

pub loop-i-preserved : goal.loop-i-preserved
loop-i-preserved c = λ ring read p.
    let l = c.loop-i in
    l.invariant ring read p
    ∙ load_chosen ring read c.args.header (word_registers c.args.kind) l.i l.out c.is_set-enabled.result (omega arith) (sym c.is_set-enabled.ensures)
    (sym c.register_of-r.ensures.0) (p l.i (omega arith)) c.chosen.ensures

pub returns : goal.returns
returns c = λ ring read p.
    rw c.requires.kind_is
    (sym (c.loop-i.invariant ring read p ∙ load_end ring read c.args.header (word_registers c.args.kind) c.loop-i.i c.loop-i.out (omega arith)))
