-- What is proved of specs/Lookup.
use Rattle.std.specs.Prelude.{ℕ, zero, suc, ◌+◌, ◌*◌, ◌/◌, ◌%◌, ◌<◌, ◌≡◌, refl, [], ◌∷◌, map}
use Rattle.std.proofs.Common.{◌∙◌, arith}
use Rattle.model.specs.Lookup.{next_index, index_after}

-- ---- laws

-- the index goes round: 511 to 0, with bits 31:9 as they were
pub indices : map next_index (0 ∷ 510 ∷ 511 ∷ 512 ∷ 0xFFFFFFFF ∷ []) ≡ 1 ∷ 511 ∷ 0 ∷ 513 ∷ 0xFFFFFE00 ∷ []
unfolding next_index
indices = refl

-- n words further on it stands n further, modulo the table's length
splits : (q r : ℕ) → r < 512 → ((q * 512 + r) / 512 ≡ q) × ((q * 512 + r) % 512 ≡ r)
splits q r l = (omega arith, omega arith)

next_splits : (index : ℕ) → (next_index index / 512 ≡ index / 512) × (next_index index % 512 ≡ (index % 512 + 1) % 512)
unfolding next_index
next_splits index =
    let e : next_index index ≡ index / 512 * 512 + (index % 512 + 1) % 512 = omega arith in
    rw e (splits (index / 512) ((index % 512 + 1) % 512) (omega arith))

pub index_after_lem : (n index : ℕ) → index_after n index ≡ index / 512 * 512 + (index % 512 + n) % 512
unfolding index_after
index_after_lem zero index = omega arith
index_after_lem (suc n) index =
    let s = next_splits index in
    let e : ((index % 512 + 1) % 512 + n) % 512 ≡ (index % 512 + suc n) % 512 = omega arith in
    index_after_lem n (next_index index) ∙ rw (s.0, s.1, e)
