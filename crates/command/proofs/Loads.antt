-- Loading word by word: one word of the table, enabled or not, and the end of the table; and what loading is by the command's kind.
use Prim.Native.Nat.{ℕ, ◌+◌, ◌-◌, ◌≤◌, ◌<◌}
use mathlib.Core.Path.{◌≡◌, refl, sym, ap, ◌∙◌}
use mathlib.Core.Bool.{Bool, true, false}
use mathlib.Core.List.{List, ◌∷◌}
use native.Mathlib.Omega.{arith}
use native.Mathlib.Nat.{mod-eq_of_lt}
use native.Mathlib.Numerals.{add-one}
use lib.ListN.{length, get_or, set, take, drop, length-drop, drop_of_length-le}
use lib.Seq.{drop-cons, get_or-take, get_or-drop, length-take-le}
use Rattle.std.specs.Prelude.{if◌then◌else◌}
use Rattle.model.specs.Bits.{set?}
use Rattle.model.specs.Ring.{word_at}
use Rattle.model.specs.Registers.{LUT_INDEX, word}
use Rattle.model.specs.Lookup.{data_count, index_after, data_stored}
use Rattle.model.specs.Command.{kind_of, count_word, load_words, enabled, advanced, loaded, filled, loaded_table}
use Rattle.model.specs.declared.Kind.{Kind}
use Rattle.model.specs.declared.Kind.TheVariants.{Blt, Vector, Table, Data}
use Rattle.laws.specs.Pixels.{set_same}
use Rattle.command.specs.Pieces.{InPiece}

module _ (ring : List ℕ) (read header : ℕ) (table : List ℕ) (i : ℕ) (registers : List ℕ) where
  pub load_word : (enabled : Bool) → i < length table → set? header i ≡ enabled
      → load_words ring read header (drop i table) i registers
      ≡ load_words ring read header (drop (i + 1) table) (i + 1)
      (if enabled then set registers (get_or table i 0) (word_at ring read (i + 1)) else registers)
  unfolding load_words
  load_word enabled h e =
      rw (← e)
      (ap (λ (l : List ℕ). load_words ring read header l i registers)
      (drop-cons table i 0 h ∙ ap (λ (n : ℕ). get_or table i 0 ∷ drop n table) (sym (add-one i))))

  -- the same where a register that is not enabled gets what it has
  pub load_chosen : (enabled : Bool) {r word next : ℕ} → i < length table → set? header i ≡ enabled → get_or table i 0 ≡ r
      → word ≡ word_at ring read (i + 1) → next ≡ (if enabled then word else get_or registers r 0)
      → load_words ring read header (drop i table) i registers
      ≡ load_words ring read header (drop (i + 1) table) (i + 1) (set registers r next)
  load_chosen true h e t w n = load_word true h e ∙ rw (n, t, w)
  load_chosen false {r} h e t w n = load_word false h e ∙ rw (n, set_same registers r)

  pub load_end : length table ≤ i → load_words ring read header (drop i table) i registers ≡ registers
  unfolding load_words
  load_end h = rw (drop_of_length-le table h)

module _ (ring : List ℕ) (read header : ℕ) (registers : List ℕ) where
  -- loading a BLT or a vector is no more than that
  pub plain_loaded : (kind_of header ≡ Table → ⊥) → loaded ring read header registers ≡ enabled ring read header registers
  unfolding loaded
  plain_loaded h = go (kind_of header) refl
    where
      go : (k : Kind) → kind_of header ≡ k → loaded ring read header registers ≡ enabled ring read header registers
      go Blt e = rw e
      go Vector e = rw e
      go Table e = absurd (h e)
      go Data e = rw e

  -- loading a table load advances its index, and stores its data
  module _ {out : List ℕ} {count : ℕ} (kind : kind_of header ≡ Table) (words : out ≡ enabled ring read header registers)
      (counts : count ≡ data_count (count_word Table ring read)) where
    pub table_loaded : {index : ℕ} → index ≡ index_after count (word out LUT_INDEX) → set out LUT_INDEX index ≡ loaded ring read header registers
    unfolding loaded
    table_loaded e =
        rw (e, counts, words) (sym (ap (λ (k : Kind). advanced k (count_word k ring read) (enabled ring read header registers)) kind))

    pub table_filled : (table : List ℕ) {after : List ℕ} → after ≡ data_stored ring read 3 count (word out LUT_INDEX) table
        → after ≡ loaded_table ring read header registers table
    unfolding loaded_table
    table_filled table e =
        e
        ∙ rw (counts, words)
        (sym (ap (λ (k : Kind). filled k ring read (word (enabled ring read header registers) LUT_INDEX) table) kind))

-- the words after a header, where they stand in one piece
module _ (n : ℕ) (ring : List ℕ) (read : ℕ) (l : read + (n + 1) ≤ length ring) where
  abbrev words : List ℕ
  words = take (read + 1 + n - (read + 1)) (drop (read + 1) ring)

  pub piece_length : length words ≡ n
  piece_length =
      let e : read + 1 + n - (read + 1) ≡ n = omega arith in
      rw e (length-take-le n (drop (read + 1) ring) (omega (arith, length-drop (read + 1) ring)))

  pub piece_words : InPiece ring read words
  unfolding word_at
  piece_words i h =
      let s = piece_length in
      let e : read + 1 + i ≡ read + (i + 1) = omega arith in
      get_or-take (read + 1 + n - (read + 1)) (drop (read + 1) ring) i 0 (omega arith) ∙ get_or-drop (read + 1) ring i 0
      ∙ rw (e, mod-eq_of_lt {n = read + (i + 1)} {m = length ring} (omega arith))
