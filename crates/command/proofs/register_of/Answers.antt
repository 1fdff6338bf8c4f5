use Prim.Native.Nat.{◌<◌}
use mathlib.Core.Path.{◌≡◌, refl, sym}
use native.Mathlib.Omega.{arith}
use Rattle.command.proofs.Tables.{blt_register}
use Rattle.command.proofs.register_of.Goals as goal

pub vector_register-requires : goal.vector_register-requires
vector_register-requires c = rw c.in-Vector.is at c.requires

pub returns-in-Blt : goal.returns-in-Blt
returns-in-Blt c = let h : c.args.i < 16 = rw c.in-Blt.is at c.requires in
    rw c.in-Blt.is (sym (blt_register c.args.i h), omega arith)

pub returns-in-Vector : goal.returns-in-Vector
returns-in-Vector c = rw c.in-Vector.is c.vector_register.ensures

pub returns-in-Table : goal.returns-in-Table
returns-in-Table c = let h : c.args.i < 1 = rw c.in-Table.is at c.requires in
    let z : c.args.i ≡ 0 = omega arith in
    rw (c.in-Table.is, z) (refl, omega arith)

pub returns-in-Data : goal.returns-in-Data
returns-in-Data c = let h : c.args.i < 0 = rw c.in-Data.is at c.requires in
    absurd (omega arith)
