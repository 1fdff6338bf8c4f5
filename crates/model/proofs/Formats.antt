-- What is proved of specs/Formats.
use Rattle.std.specs.Prelude.{◌≡◌, refl, [], ◌∷◌, map, Some, None}
use Rattle.model.specs.Formats.{format_of}

-- ---- laws

-- the sixteen codes, 0000 to 1111
pub formats :
    map format_of (0 ∷ 1 ∷ 2 ∷ 3 ∷ 4 ∷ 5 ∷ 6 ∷ 7 ∷ 8 ∷ 9 ∷ 10 ∷ 11 ∷ 12 ∷ 13 ∷ 14 ∷ 15 ∷ [])
    ≡ Some 1 ∷ None ∷ None ∷ None
    ∷ Some 2 ∷ Some 2 ∷ Some 2 ∷ None
    ∷ Some 4 ∷ None ∷ None ∷ None
    ∷ None ∷ None ∷ None ∷ None ∷ []
unfolding format_of
formats = refl
