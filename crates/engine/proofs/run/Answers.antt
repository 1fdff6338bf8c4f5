use Rattle.judging.specs.Checks.{refusal_some}
use Rattle.engine.proofs.Runs.{run_wellformed, run_refused, run_finished}
use Rattle.std.proofs.Common.{refl, ◌∙◌}
use Rattle.engine.proofs.run.Goals as goal

pub returns-in-Err : goal.returns-in-Err
returns-in-Err c = let h = run_refused c.args.ring.now c.args.s c.args.frame.now c.args.budget c.in-Err.ensures (refusal_some c.in-Err.refusal) in
    (rw c.refused.ensures h.0, h.1)

pub do_units-turn-requires : goal.do_units-turn-requires
do_units-turn-requires c = run_wellformed c.args.ring.now c.args.s c.args.frame.now c.args.budget c.in_default.ensures refl

pub returns : goal.returns
returns c = let h = run_finished c.args.ring.now c.args.s c.args.frame.now c.args.budget c.in_default.ensures refl c.do_units-turn.ensures in
    (rw (c.word_of.ensures, c.room_left.ensures) h.0, h.1)
