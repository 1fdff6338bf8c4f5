-- The ring: words waiting, room, the positions that publishing accepts, and reading by wrapped position (document 01, The
-- ring). Pointers count words from the ring's first word and are below its size.
use Rattle.std.specs.Prelude.{ℕ, ◌+◌, ◌-◌, ◌%◌, ◌<◌, ◌≡◌, not, List, [], ◌∷◌, length, get_or}
use Rattle.model.specs.Choice.{◌<?◌, ◌≤?◌}
use Rattle.model.specs.Refusals.{Rule, ◌when◌}

-- (to - from) modulo the ring size; the size is added so that the difference is not below 0
unfoldable pub distance : ℕ → ℕ → ℕ → ℕ
distance size from to = (to + size - from) % size

-- "Words waiting = (write - read) modulo ring size. Equal pointers mean empty."
unfoldable pub waiting : ℕ → ℕ → ℕ → ℕ
waiting size read write = distance size read write

-- "Room = ring size - 1 - waiting."
unfoldable pub room : ℕ → ℕ → ℕ → ℕ
room size read write = size - 1 - waiting size read write

-- "Publishing position p is accepted exactly when p is below the ring size and (p - read) modulo size is at least the words
-- waiting": 5 "position not below ring size", 6 "position accepted by 5 but not by the ring rule"
abbrev pub position_rules : ℕ → ℕ → ℕ → ℕ → List Rule
position_rules size read write p =
    5 when not (p <? size) ∷ 6 when not (waiting size read write ≤? distance size read p) ∷ []

-- word number i from position `at`, "read by wrapped position"
unfoldable pub word_at : List ℕ → ℕ → ℕ → ℕ
word_at ring at i = get_or ring ((at + i) % length ring) 0

-- two rings have the same words from position `from` up to position `to`, which is not among them
abbrev pub Agree : List ℕ → List ℕ → ℕ → ℕ → ℕ → Type 0
Agree ring other size from to =
    (x : ℕ) → x < size → distance size from x < distance size from to → get_or ring x 0 ≡ get_or other x 0
