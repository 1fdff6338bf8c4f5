-- "the completion number is a u32 that wraps on purpose, from 4,294,967,295 to 0"
use Rattle.std.specs.Prelude.{ℕ, ◌+◌, ◌%◌, ◌^◌}

-- the completion number once one more command is retired
unfoldable pub retired : ℕ → ℕ
retired completion = (completion + 1) % 2 ^ 32
