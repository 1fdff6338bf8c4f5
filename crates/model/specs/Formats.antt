-- "The colour format is a decision over all sixteen codes" (document 01, Formats).
use Rattle.std.specs.Prelude.{ℕ, ◌||◌, if◌then◌else◌, Option, Some, None}
use Rattle.model.specs.Choice.{◌=?◌}

-- "0000 (3:3:2) is one byte a pixel; 0100, 0101 and 0110 (4:4:4:4, 1:5:5:5, 5:6:5) are two; 1000 (8:8:8:8) is four; the rest
-- are refused"
unfoldable pub format_of : ℕ → Option ℕ
format_of code =
    if code =? 0b0000 then Some 1
    else if code =? 0b0100 || code =? 0b0101 || code =? 0b0110 then Some 2
    else if code =? 0b1000 then Some 4
    else None

-- the bytes a pixel that a decision gives; nothing reads them of a format that is refused
abbrev pub depth_of : Option ℕ → ℕ
depth_of (Some n) = n
depth_of None = 0

-- a number of bytes that a format can give: what is shown of pixels is shown over it
pub data Depth : ℕ → Type 0 where
  one : Depth 1
  two : Depth 2
  four : Depth 4
