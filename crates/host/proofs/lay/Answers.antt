use Rattle.host.proofs.Parts.{head_ends}
use Rattle.laws.specs.Moves.{laid_up}
use native.Mathlib.Omega.{arith}
use Rattle.host.proofs.lay.Goals as goal

pub lay_fours-requires : goal.lay_fours-requires
lay_fours-requires c = (λ z. head_ends c.args.n c.args.from c.min-head.ensures z, omega arith, omega (arith, c.lay_bytes.ensures.same))

pub returns : goal.returns
returns c = laid_up (omega arith) (omega arith) (laid_up (omega arith) (omega arith) c.lay_bytes.ensures c.lay_fours.ensures) c.lay_bytes-2.ensures
