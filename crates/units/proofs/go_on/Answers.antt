use Rattle.units.proofs.Advances.{plain_then, finished_rests}
use Rattle.units.proofs.go_on.Goals as goal

pub loop-more-preserved : goal.loop-more-preserved
loop-more-preserved c = plain_then c.loop-more.invariant.going c.in-Some.ensures.1

pub returns : goal.returns
returns c = finished_rests c.loop-more.invariant c.in_default.ensures
