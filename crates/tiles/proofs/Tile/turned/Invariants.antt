use Prim.Native.Nat.{ℕ, ◌+◌, ◌%◌}
use mathlib.Core.Path.{◌≡◌}
use mathlib.Core.List.{List, []}
use lib.ListN.{length, get_or, take}
use Rattle.laws.specs.Tiles.{up_to}
use Rattle.tiles.proofs.Tile.turned.Given as goal

-- the colour that is x further on
abbrev pub further : List (List ℕ) → (row column x : ℕ) → ℕ
further tile row column x = get_or (get_or tile row []) ((column + x) % 8) 0

abbrev pub invariant-loop-x : goal.invariant-loop-x
invariant-loop-x l = (length l.colors ≡ 8) × (take l.x l.colors ≡ up_to l.x (further l.self.colors l.row l.column))
