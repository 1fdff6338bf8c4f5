use Rattle.std.proofs.Common.{◌∙◌}
use Rattle.tracing.specs.Trace.{reached_then}
use Rattle.trace.proofs.records.Goals as goal

pub returns-in-Break : goal.returns-in-Break
returns-in-Break g c = reached_then _ _ _ c.loop-turn.invariant.2 c.in-Break.ensures

pub loop-turn-preserved : goal.loop-turn-preserved
loop-turn-preserved g c = (
  c.do_record.auto.ring ∙ c.loop-turn.invariant.0,
  c.do_record.auto.frame ∙ c.loop-turn.invariant.1,
  reached_then _ _ _ c.loop-turn.invariant.2 c.do_record.ensures,
)
