-- What a pixel gets, and what is written: nothing, or the raster operation on a pattern value, a source value and what stands
-- there.
use Rattle.std.specs.Prelude.{ℕ, ◌*◌, List, Option, Some, None}
use Rattle.model.specs.Pixel.{read_pixel, store_pixel}
use Rattle.model.specs.Raster.{raster}
use Rattle.model.specs.declared.Operands.{Operands}

-- both values
abbrev pub values : (pattern source : ℕ) → Option Operands
values p s = Some (record { pattern = p; source = s })

-- "Each pixel reads source, pattern and destination as memory then stands, and writes the destination." "Every colour register
-- gives its low bytes at the depth."
unfoldable pub draw_operands : (depth code at : ℕ) → Option Operands → List ℕ → List ℕ
draw_operands depth code at None frame = frame
draw_operands depth code at (Some o) frame =
    store_pixel depth frame at (raster (8 * depth) code o.pattern o.source (read_pixel depth frame at))
