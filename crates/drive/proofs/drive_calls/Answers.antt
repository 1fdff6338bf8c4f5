use Rattle.std.proofs.Common.{arith}
use Rattle.std.proofs.Math.ListN.{drop_of_length-le}
use Rattle.drive.specs.Demanded.{demanded}
use Rattle.drive.proofs.drive_calls.Goals as goal

pub returns : goal.returns
returns c = demanded _ _ _ _ _ (rw (drop_of_length-le c.args.calls.now {i = c.loop-call.call-index} (omega (arith, c.loop-call-test.false))) at c.loop-call.invariant.onward)
