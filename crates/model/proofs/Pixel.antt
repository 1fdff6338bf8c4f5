-- What is proved of specs/Pixel.
use Rattle.std.specs.Prelude.{◌≡◌, refl, [], ◌∷◌}
use Rattle.model.specs.Pixel.{read_pixel, store_pixel}

-- ---- laws

-- the lowest byte comes first, at every depth and from any byte
pub little_endian :
    (read_pixel 4 (0x78 ∷ 0x56 ∷ 0x34 ∷ 0x12 ∷ 0xFF ∷ []) 0 ≡ 0x12345678)
    × (read_pixel 2 (0x78 ∷ 0x56 ∷ 0x34 ∷ 0x12 ∷ 0xFF ∷ []) 3 ≡ 0xFF12)
    × (read_pixel 1 (0x78 ∷ 0x56 ∷ 0x34 ∷ 0x12 ∷ 0xFF ∷ []) 1 ≡ 0x56)
    × (store_pixel 4 (0 ∷ 0 ∷ 0 ∷ 0 ∷ 0 ∷ []) 1 0x12345678 ≡ 0 ∷ 0x78 ∷ 0x56 ∷ 0x34 ∷ 0x12 ∷ [])
    × (store_pixel 2 (0 ∷ 0 ∷ 0 ∷ 0 ∷ 0 ∷ []) 2 0x12345678 ≡ 0 ∷ 0 ∷ 0x78 ∷ 0x56 ∷ 0 ∷ [])
    × (store_pixel 1 (0 ∷ 0 ∷ 0 ∷ 0 ∷ 0 ∷ []) 0 0x12345678 ≡ 0x78 ∷ 0 ∷ 0 ∷ 0 ∷ 0 ∷ [])
unfolding read_pixel store_pixel
little_endian = (refl, refl, refl, refl, refl, refl)
