-- Pixels by their numbers, where what draws them, and what that asks, is known by column and row.
use Rattle.std.specs.Prelude.{ℕ, ◌+◌, ◌<◌, List}
use Rattle.model.specs.Rectangle.{column_of, row_of}
use Rattle.model.specs.declared.Blt.{Blt}

-- what pixel number k makes of frame memory
abbrev pub numbered : Blt → ((i j : ℕ) → List ℕ → List ℕ) → ℕ → List ℕ → List ℕ
numbered b pixel k = pixel (column_of b.destination k) (row_of b.destination k)

-- what is asked of each of n pixels of row j, from column i, and of each of n pixels from number k
abbrev pub AskedInRow : ((i j : ℕ) → Type 0) → (i j n : ℕ) → Type 0
AskedInRow Asks i j n = (x : ℕ) → x < n → Asks (i + x) j

abbrev pub Asked : Blt → ((i j : ℕ) → Type 0) → (k n : ℕ) → Type 0
Asked b Asks k n = (x : ℕ) → x < n → Asks (column_of b.destination (k + x)) (row_of b.destination (k + x))
