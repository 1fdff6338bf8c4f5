-- The data of a table load word by word: the next place in the ring and in the table, and the end.
use Prim.Native.Nat.{ℕ, zero, suc, ◌+◌, ◌*◌, ◌/◌, ◌%◌, ◌<◌}
use mathlib.Core.Path.{◌≡◌, refl, sym, ◌∙◌}
use mathlib.Core.List.{List}
use native.Mathlib.Omega.{arith}
use lib.ListN.{set}
use Rattle.model.specs.Bits.{field}
use Rattle.model.specs.Ring.{word_at}
use Rattle.model.specs.Lookup.{next_index, data_stored}

low_field : (index : ℕ) → field index 8 0 ≡ index % 512
low_field index = omega arith

-- bits 8:0 of the next index, and the next index at a place of the table
next_low : (index : ℕ) → next_index index % 512 ≡ (index % 512 + 1) % 512
unfolding next_index
next_low index =
    let e : next_index index ≡ index / 512 * 512 + (index % 512 + 1) % 512 = omega arith in
    rw e (go (index / 512) ((index % 512 + 1) % 512) (omega arith))
  where
    go : (q r : ℕ) → r < 512 → (q * 512 + r) % 512 ≡ r
    go q r l = omega arith

next_place : (to : ℕ) → to < 512 → next_index to ≡ (to + 1) % 512
unfolding next_index
next_place to h = omega arith

module _ (ring : List ℕ) (read : ℕ) where
  -- of the index only bits 8:0 say where the data go
  pub low_index : (i n index : ℕ) (table : List ℕ)
      → data_stored ring read i n index table ≡ data_stored ring read i n (field index 8 0) table
  unfolding data_stored
  low_index i zero index table = refl
  low_index i (suc n) index table =
      let f : field (field index 8 0) 8 0 ≡ field index 8 0 = omega arith in
      let low = field index 8 0 in
      let g : low % 512 ≡ index % 512 = omega arith in
      let e : field (next_index index) 8 0 ≡ field (next_index low) 8 0 =
      low_field (next_index index) ∙ next_low index ∙ sym (low_field (next_index low) ∙ next_low low ∙ rw g) in
      let word = word_at ring read i in
      low_index (i + 1) n (next_index index) (set table (field index 8 0) word)
      ∙ rw (f, e) (sym (low_index (i + 1) n (next_index (field index 8 0)) (set table (field index 8 0) word)))

  -- the next word, at a place of the table
  pub stored_next : (i n to : ℕ) (table : List ℕ) → to < 512
      → data_stored ring read i (suc n) to table ≡ data_stored ring read (i + 1) n ((to + 1) % 512) (set table to (word_at ring read i))
  unfolding data_stored
  stored_next i n to table h =
      let f : field to 8 0 ≡ to = omega arith in
      rw (next_place to h, f)

  pub stored_end : (i n to : ℕ) (table : List ℕ) → n ≡ 0 → data_stored ring read i n to table ≡ table
  unfolding data_stored
  stored_end i n to table e = rw e
