use Prim.Native.Nat.{◌+◌, ◌-◌, ◌/◌, ◌^◌}
use native.Mathlib.Omega.{arith}
use native.Mathlib.Nat.{mod-lt}
use lib.Pow.{pow_pos}
use Rattle.fields.proofs.Shifts.{one_shifted}
use mathlib.Core.Path.{refl}
use Rattle.fields.proofs.bits.Goals as goal

pub nonzero_rem-result : goal.nonzero_rem-result
nonzero_rem-result c = let w = c.args.high + 1 - c.args.low in rw (one_shifted w (omega arith)) (pow_pos w)

pub returns : goal.returns
returns c = let w = c.args.high + 1 - c.args.low in
    rw (one_shifted w (omega arith)) (refl, mod-lt (c.args.word / 2 ^ c.args.low) (pow_pos w))
