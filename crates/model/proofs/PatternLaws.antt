-- What is proved of specs/Pattern.
use Rattle.std.specs.Prelude.{◌≡◌, refl, true, false, [], ◌∷◌, map}
use Rattle.model.specs.Pattern.{pattern_byte, pattern_bit, pattern_index}

-- ---- laws

-- the example of 000, Table 6-16: 14h 22h 41h 80h 41h 22h 14h 08h from row 0 down
pub example_rows :
    map (pattern_byte 0x80412214 0x08142241) (0 ∷ 1 ∷ 2 ∷ 3 ∷ 4 ∷ 5 ∷ 6 ∷ 7 ∷ [])
    ≡ 0x14 ∷ 0x22 ∷ 0x41 ∷ 0x80 ∷ 0x41 ∷ 0x22 ∷ 0x14 ∷ 0x08 ∷ []
unfolding pattern_byte
example_rows = refl

-- and of its row 3, 80h, the leftmost pixel is set; of row 7, 08h, the one at column 4
pub example_bits :
    (map (pattern_bit 0x80412214 0x08142241 3) (0 ∷ 1 ∷ 4 ∷ 7 ∷ []) ≡ 1 ∷ 0 ∷ 0 ∷ 0 ∷ [])
    × (map (pattern_bit 0x80412214 0x08142241 7) (0 ∷ 3 ∷ 4 ∷ 7 ∷ []) ≡ 0 ∷ 0 ∷ 1 ∷ 0 ∷ [])
unfolding pattern_bit pattern_byte
example_bits = (refl, refl)

-- back from 0: 0 7 6 5; further from 6: 6 7 0 1
pub indices :
    (map (pattern_index true 0) (0 ∷ 1 ∷ 2 ∷ 3 ∷ []) ≡ 0 ∷ 7 ∷ 6 ∷ 5 ∷ [])
    × (map (pattern_index false 6) (0 ∷ 1 ∷ 2 ∷ 3 ∷ []) ≡ 6 ∷ 7 ∷ 0 ∷ 1 ∷ [])
unfolding pattern_index
indices = (refl, refl)
