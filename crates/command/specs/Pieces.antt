-- Words after a header that stand in one piece.
use Rattle.std.specs.Prelude.{ℕ, ◌+◌, ◌<◌, ◌≡◌, List, length, get_or}
use Rattle.model.specs.Ring.{word_at}

-- they are the ring's words after the header at `read`
abbrev pub InPiece : List ℕ → ℕ → List ℕ → Type 0
InPiece ring read words = (i : ℕ) → i < length words → get_or words i 0 ≡ word_at ring read (i + 1)
