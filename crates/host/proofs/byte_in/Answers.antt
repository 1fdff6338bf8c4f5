use Rattle.laws.specs.Pictures.{word_byte}
use native.Mathlib.Omega.{arith}
use mathlib.Core.Path.{◌≡◌, sym}
use Prim.Native.Nat.{◌+◌, ◌*◌, ◌/◌, ◌%◌}
use Rattle.host.proofs.byte_in.Goals as goal

pub returns : goal.returns
returns c = let e : 4 * (c.args.at / 4) + c.args.at % 4 ≡ c.args.at = omega arith in
    sym (rw e at (word_byte c.args.ring.now (c.args.at / 4) (c.args.at % 4) (omega arith)))
