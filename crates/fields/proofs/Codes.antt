-- The colour format's decision by the tests of the code.
use Rattle.std.proofs.Common.{None}
use Prim.Native.Nat.{ℕ}
use mathlib.Core.Path.{◌≡◌}
use borrow.Author.Tests.{ne_eqb}
use Rattle.model.specs.Formats.{format_of}

-- none of the five codes
pub no_format : (code : ℕ) → (code ≡ 0 → ⊥) → (code ≡ 4 → ⊥) → (code ≡ 5 → ⊥) → (code ≡ 6 → ⊥) → (code ≡ 8 → ⊥)
    → None ≡ format_of code
unfolding format_of
no_format code a b c d e = rw (ne_eqb code 0 a, ne_eqb code 4 b, ne_eqb code 5 c, ne_eqb code 6 d, ne_eqb code 8 e)
