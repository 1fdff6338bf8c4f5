-- Text as bytes.
use Rattle.std.specs.Prelude.{ℕ, List, [], ◌∷◌}
use Prim.Native.Char.{code}
use Prim.Native.String.{String, [] as nothing, ◌∷◌ as ◌then◌}

-- the bytes of a text, whose characters are all ASCII
abbrev pub ascii : String → List ℕ
ascii nothing = []
ascii (c then more) = code c ∷ ascii more
