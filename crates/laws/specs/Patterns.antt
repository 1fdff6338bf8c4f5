-- The mono pattern's bit in its word, by one shift.
use Rattle.std.specs.Prelude.{ℕ, ◌+◌, ◌-◌, ◌*◌, ◌/◌, ◌%◌, ◌^◌, ◌≤◌, ◌<◌, ◌≡◌, if◌then◌else◌}
use Rattle.std.proofs.Common.{ap, arith, mod-lt, lt-ltb, le-ltb, shr-shr}
use Rattle.std.proofs.Math.Pow.{field as low_field, mod-mod-pow}
use Rattle.model.specs.Bits.{bit, field}
use Rattle.model.specs.Choice.{◌<?◌}
use Rattle.model.specs.Pattern.{pattern_byte, pattern_bit}
use Rattle.laws.specs.Windows.{joined_bit}

-- bit k of byte number r of a word
byte_bit : (word r k : ℕ) → k < 8 → bit (field word (8 * r + 7) (8 * r)) k ≡ word / 2 ^ (8 * r + k) % 2
byte_bit word r k h =
    let x = word / 2 ^ (8 * r) in
    let e : 8 * r + 7 + 1 - 8 * r ≡ 8 - k + k = omega arith in
    let f : 8 - k ≡ 7 - k + 1 = omega arith in
    rw (e, low_field x (8 - k) k, f, mod-mod-pow (x / 2 ^ k) (7 - k) 1) (ap (λ (y : ℕ). y % 2) (shr-shr word (8 * r) k))

module _ (data0 data1 row column : ℕ) where
  pub bit_upper : row < 4 → pattern_bit data0 data1 row column ≡ data0 / 2 ^ (8 * (row % 4) + (7 - column)) % 2
  unfolding pattern_bit pattern_byte
  bit_upper h = rw (lt-ltb row 4 h) (byte_bit data0 (row % 4) (7 - column) (omega arith))

  pub bit_lower : 4 ≤ row → pattern_bit data0 data1 row column ≡ data1 / 2 ^ (8 * (row % 4) + (7 - column)) % 2
  unfolding pattern_bit pattern_byte
  bit_lower h = rw (le-ltb row 4 h) (byte_bit data1 (row % 4) (7 - column) (omega arith))

-- eight bits that are a pattern row's, from a column on and round: bit 7 first
pub record Turned (data0 data1 row column bits : ℕ) : Type 0 where
  pub turns : (x : ℕ) → bit bits (7 - x % 8) ≡ pattern_bit data0 data1 row ((column + x) % 8)

-- a byte twice over, moved to the right by 8 less the column
twice : (byte column x : ℕ) → byte < 256 → column < 8 → bit (257 * byte / 2 ^ (8 - column)) (7 - x % 8) ≡ bit byte (7 - (column + x) % 8)
twice byte column x b c =
    let e : 257 * byte ≡ byte * 256 + byte = omega arith in
    let f : (column + x) % 8 ≡ (column + x % 8) % 8 = omega arith in
    rw (e, f) (joined_bit (λ _. byte) column 8 (x % 8) c (omega arith) (mod-lt x (omega arith)) b)

pub turned : (data0 data1 row column : ℕ) {word bits : ℕ} → row < 8 → column < 8 → word ≡ (if row <? 4 then data0 else data1)
    → bits ≡ 257 * (word / 2 ^ (8 * (row % 4)) % 256) / 2 ^ (8 - column) → Turned data0 data1 row column bits
unfolding pattern_bit pattern_byte
turned data0 data1 row column {word} r c w e = record {
  turns = λ x.
      let f : 8 * (row % 4) + 7 + 1 - 8 * (row % 4) ≡ 8 = omega arith in
      rw (e, f, ← w) (twice (word / 2 ^ (8 * (row % 4)) % 256) column x (mod-lt _ (omega arith)) c);
}
