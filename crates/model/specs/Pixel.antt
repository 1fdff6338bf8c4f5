-- A pixel of n bytes in frame memory, a list of bytes. "Pixels are little-endian and may start at any byte."
use Rattle.std.specs.Prelude.{ℕ, zero, suc, ◌+◌, ◌*◌, ◌/◌, ◌%◌, List, get_or, set}

-- the value of the n bytes from `at`, the lowest byte first
unfoldable pub read_pixel : ℕ → List ℕ → ℕ → ℕ
read_pixel zero frame at = 0
read_pixel (suc n) frame at = get_or frame at 0 + 256 * read_pixel n frame (at + 1)

-- frame memory with the n low bytes of a value from `at`, the lowest byte first
unfoldable pub store_pixel : ℕ → List ℕ → ℕ → ℕ → List ℕ
store_pixel zero frame at value = frame
store_pixel (suc n) frame at value = store_pixel n (set frame at (value % 256)) (at + 1) (value / 256)
