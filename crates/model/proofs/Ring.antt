-- What is proved of specs/Ring.
use Rattle.std.specs.Prelude.{ℕ, ◌+◌, ◌-◌, ◌%◌, ◌<◌, ◌≡◌, refl, [], ◌∷◌}
use Rattle.std.proofs.Common.{ap, ◌∙◌, arith, mod-lt, mod-eq_of_lt}
use Rattle.std.proofs.Math.Nat.{mod_self, add-mod-mod, add-mod_right}
use Rattle.model.specs.Refusals.{first}
use Rattle.model.specs.Ring.{distance, waiting, position_rules, word_at}

-- ---- laws

-- the distance is the one number below the ring size that leads from one position to the other
pub distance_lt : (size from to : ℕ) → from < size → distance size from to < size
unfolding distance
distance_lt size from to h = mod-lt (to + size - from) (omega arith)

pub distance_leads : (size from to : ℕ) → from < size → to < size → (from + distance size from to) % size ≡ to
unfolding distance
distance_leads size from to h l =
    let e : from + (to + size - from) ≡ to + size = omega arith in
    add-mod-mod from (to + size - from) size ∙ ap (λ (x : ℕ). x % size) e ∙ add-mod_right to size ∙ mod-eq_of_lt l

-- equal pointers mean empty, wherever they stand
pub empty : (size p : ℕ) → waiting size p p ≡ 0
unfolding waiting distance
empty size p = let e : p + size - p ≡ size = omega arith in ap (λ (x : ℕ). x % size) e ∙ mod_self size

abbrev publishes : ℕ → ℕ → ℕ → ℕ → ℕ
publishes size read write p = first (position_rules size read write p)

-- the write position again is accepted, a position beyond the ring is 5, and one between the pointers is 6
pub publishing :
    (publishes 64 20 40 40 ≡ 0)
    × (publishes 64 20 40 19 ≡ 0)
    × (publishes 64 20 40 64 ≡ 5)
    × (publishes 64 20 40 39 ≡ 6)
    × (publishes 64 20 40 20 ≡ 6)
unfolding first waiting distance
publishing = (refl, refl, refl, refl, refl)

-- past the last word comes word 0
pub wrapped : (word_at (10 ∷ 11 ∷ 12 ∷ []) 1 1 ≡ 12) × (word_at (10 ∷ 11 ∷ 12 ∷ []) 1 2 ≡ 10)
unfolding word_at
wrapped = (refl, refl)
