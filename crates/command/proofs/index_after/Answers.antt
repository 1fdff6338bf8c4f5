use native.Mathlib.Omega.{arith}
use Rattle.model.proofs.Lookup.{index_after_lem}
use Rattle.command.proofs.index_after.Goals as goal

pub returns : goal.returns
returns c = let e = c.bits-low.ensures.0 in rw (index_after_lem c.args.count c.args.index) (omega arith)
