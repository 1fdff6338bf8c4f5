-- Positions round the ring by cases: at or behind the other, before or past the ring's end.
use Rattle.std.specs.Prelude.{ℕ, ◌+◌, ◌-◌, ◌%◌, ◌≤◌, ◌<◌, ◌≡◌, refl, Bool, true, false, ◌⊎◌, ltb, leb}
use Rattle.std.proofs.Common.{◌∙◌, inl, inr, ⊎_elim, arith, mod-lt, mod-eq_of_lt, ltb-true, ltb-false, leb-true, leb-false}
use Rattle.std.proofs.Math.Nat.{mod-eq-sub-mod, add-mod_right}
use Rattle.std.proofs.lemmas.Bool.{not-false}
use Rattle.model.specs.Refusals.{NoRule}
use Rattle.model.specs.Ring.{distance, waiting, position_rules}

pub distance_ahead : (size from to : ℕ) → from ≤ to → to < size → distance size from to ≡ to - from
unfolding distance
distance_ahead size from to h l =
    let e : to + size - from ≡ to - from + size = omega arith in
    rw e (add-mod_right (to - from) size ∙ mod-eq_of_lt (omega arith))

pub distance_behind : (size from to : ℕ) → to < from → from < size → distance size from to ≡ size - from + to
unfolding distance
distance_behind size from to h l =
    let e : to + size - from ≡ size - from + to = omega arith in
    rw e (mod-eq_of_lt (omega arith))

-- a position that has not passed the ring's end, and one that has
pub wrap_before : (size at : ℕ) → at < size → at % size ≡ at
wrap_before size at h = mod-eq_of_lt h

pub wrap_past : (size at : ℕ) → size ≤ at → at < size + size → at % size ≡ at - size
wrap_past size at h l = mod-eq-sub-mod h ∙ mod-eq_of_lt (omega arith)

-- the two by cases, as facts on numbers
abbrev pub DistanceCases : ℕ → ℕ → ℕ → Type 0
DistanceCases size from to =
    ((from ≤ to) × (distance size from to ≡ to - from)) ⊎ ((to < from) × (distance size from to ≡ size - from + to))

pub distance_cases : (size from to : ℕ) → from < size → to < size → DistanceCases size from to
distance_cases size from to h l = go (leb from to) refl
  where
    go : (b : Bool) → leb from to ≡ b → DistanceCases size from to
    go true e = inl (leb-true from to e, distance_ahead size from to (leb-true from to e) l)
    go false e = inr (leb-false from to e, distance_behind size from to (leb-false from to e) h)

abbrev pub WrapCases : ℕ → ℕ → Type 0
WrapCases size at = ((at < size) × (at % size ≡ at)) ⊎ ((size ≤ at) × (at % size ≡ at - size))

pub wrap_cases : (size at : ℕ) → at < size + size → WrapCases size at
wrap_cases size at h = go (ltb at size) refl
  where
    go : (b : Bool) → ltb at size ≡ b → WrapCases size at
    go true e = inl (ltb-true at size e, wrap_before size at (ltb-true at size e))
    go false e = inr (ltb-false at size e, wrap_past size at (ltb-false at size e) h)

-- from o to r and on to w, where r does not lie behind w as seen from o
pub distance_sum : (size o r w : ℕ) → o < size → r < size → w < size → distance size o r ≤ distance size o w
    → distance size o r + distance size r w ≡ distance size o w
distance_sum size o r w ho hr hw h =
    ⊎_elim
    (λ a. ⊎_elim (λ b. ⊎_elim (λ d. omega arith) (λ d. omega arith) r_w) (λ b. ⊎_elim (λ d. omega arith) (λ d. omega arith) r_w) o_w)
    (λ a. ⊎_elim (λ b. ⊎_elim (λ d. omega arith) (λ d. omega arith) r_w) (λ b. ⊎_elim (λ d. omega arith) (λ d. omega arith) r_w) o_w)
    (distance_cases size o r ho hr)
  where
    o_w : DistanceCases size o w
    o_w = distance_cases size o w ho hw

    r_w : DistanceCases size r w
    r_w = distance_cases size r w hr hw

-- k words further
pub distance_next : (size o r k : ℕ) → o < size → r < size → distance size o r + k < size
    → distance size o ((r + k) % size) ≡ distance size o r + k
distance_next size o r k ho hr h =
    ⊎_elim
    (λ a. ⊎_elim (λ b. ⊎_elim (λ d. omega arith) (λ d. omega arith) o_next) (λ b. ⊎_elim (λ d. omega arith) (λ d. omega arith) o_next) next)
    (λ a. ⊎_elim (λ b. ⊎_elim (λ d. omega arith) (λ d. omega arith) o_next) (λ b. ⊎_elim (λ d. omega arith) (λ d. omega arith) o_next) next)
    (distance_cases size o r ho hr)
  where
    next : WrapCases size (r + k)
    next = wrap_cases size (r + k) (omega arith)

    o_next : DistanceCases size o ((r + k) % size)
    o_next = distance_cases size o ((r + k) % size) ho (mod-lt (r + k) (omega arith))

-- a position that publishing accepts is the ring's, and leaves no fewer words waiting
pub accepted_in : (size read write p : ℕ) → NoRule (position_rules size read write p)
    → (p < size) × (waiting size read write ≤ waiting size read p)
unfolding waiting
accepted_in size read write p h = (ltb-true _ _ (not-false _ h.0), leb-true _ _ (not-false _ h.1.0))
