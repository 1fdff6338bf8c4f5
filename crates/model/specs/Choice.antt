-- Tests on numbers. (The choice by a test, `if .. then .. else ..`, is std's.)
use Rattle.std.specs.Prelude.{ℕ, Bool, ltb, leb, eqb}

infix 40 ◌<?◌ ◌≤?◌ ◌=?◌
abbrev pub ◌<?◌ : ℕ → ℕ → Bool
m <? n = ltb m n

abbrev pub ◌≤?◌ : ℕ → ℕ → Bool
m ≤? n = leb m n

abbrev pub ◌=?◌ : ℕ → ℕ → Bool
m =? n = eqb m n
