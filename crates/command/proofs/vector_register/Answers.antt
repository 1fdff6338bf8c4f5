use mathlib.Core.Path.{◌≡◌, refl}
use native.Mathlib.Omega.{arith}
use Rattle.command.proofs.Tables.{none_of, last_one}
use Rattle.command.proofs.vector_register.Goals as goal

pub returns-in_default : goal.returns-in_default
returns-in_default c = let e : c.args.i ≡ 12 = last_one c.args.i c.requires (none_of 12 c.args.i c.in_default.in_default-own.rest) in rw e (refl, omega arith)
