use mathlib.Core.Path.{refl, ◌∙◌}
use native.Mathlib.Omega.{arith}
use Rattle.laws.specs.Moves.{row_most, copy_bytes, copy_row}
use Rattle.moves.proofs.copy_at.Goals as goal

pub bytes_of-requires : goal.bytes_of-requires
bytes_of-requires c = omega (arith, row_most c.requires.0)

pub move_bytes-requires : goal.move_bytes-requires
move_bytes-requires c =
    let w = copy_bytes c.requires.0 c.requires.1 c.requires.2 c.requires.5 c.requires.6 in
    record { few = omega (arith, row_most c.requires.0); source_in = omega arith; row_in = omega arith }

pub returns : goal.returns
returns c = c.move_bytes.ensures
    ∙ rw c.bytes_of.ensures
    (copy_row c.requires.0 c.requires.1 c.requires.2 c.requires.5 c.requires.6 c.requires.3 c.requires.4 _ refl c.requires.7 (λ x. (c.slice_known-1.given x).fits))
