use Rattle.units.proofs.Advances.{stepped_some}
use Rattle.units.proofs.advance_both.Goals as goal

pub returns : goal.returns
returns c = stepped_some c.in_ok-used.ensures c.do_plain-plain.ensures
