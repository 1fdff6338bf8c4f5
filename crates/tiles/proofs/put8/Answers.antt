use Rattle.model.specs.Pixel.{store_pixel}
use mathlib.Core.Path.{refl}
use native.Mathlib.Omega.{arith}
use lib.ListN.{length-set}
use Rattle.tiles.proofs.put8.Goals as goal

pub bounds-row-b : goal.bounds-row-b
bounds-row-b c = simp length-set (omega arith)

pub bounds-row-c : goal.bounds-row-c
bounds-row-c c = simp length-set (omega arith)

pub bounds-row-d : goal.bounds-row-d
bounds-row-d c = simp length-set (omega arith)

pub bounds-row-e : goal.bounds-row-e
bounds-row-e c = simp length-set (omega arith)

pub bounds-row-g : goal.bounds-row-g
bounds-row-g c = simp length-set (omega arith)

pub bounds-row-h : goal.bounds-row-h
bounds-row-h c = simp length-set (omega arith)

pub bounds-row-i : goal.bounds-row-i
bounds-row-i c = simp length-set (omega arith)

pub shape_of-row : goal.shape_of-row
shape_of-row c = simp length-set refl

pub returns : goal.returns
unfolding store_pixel
returns c = refl
