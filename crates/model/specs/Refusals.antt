-- Refusals: rules in the order in which they are judged, each a number and a test. What is answered is the number of the first
-- whose test holds, or 0 where none does. (A later number can be judged before an earlier one, so the order is the list's.)
use Rattle.std.specs.Prelude.{ℕ, ◌+◌, ◌*◌, ◌<◌, ◌≡◌, Bool, true, false, ◌&&◌, ◌||◌, ◌↔◌, List, [], ◌∷◌, if◌then◌else◌}
use Rattle.model.specs.Choice.{◌<?◌, ◌=?◌}

pub record Rule : Type 0 where
  pub number : ℕ
  pub applies : Bool

infix 68 ◌when◌
abbrev pub ◌when◌ : ℕ → Bool → Rule
number when applies = record { number = number; applies = applies }

unfoldable pub first : List Rule → ℕ
first [] = 0
first (rule ∷ rules) = if rule.applies then rule.number else first rules

-- some test of a list holds
unfoldable pub any : List Bool → Bool
any [] = false
any (test ∷ tests) = test || any tests

-- ---- "given exactly when"

-- n is the number of the first rule that applies
pub data First : List Rule → ℕ → Type 0 where
  here : {rule : Rule} {rules : List Rule} → rule.applies ≡ true → First (rule ∷ rules) rule.number
  later : {rule : Rule} {rules : List Rule} {n : ℕ} → rule.applies ≡ false → First rules n → First (rule ∷ rules) n

-- no rule applies
abbrev pub NoRule : List Rule → Type 0
NoRule [] = Unit {0}
NoRule (rule ∷ rules) = (rule.applies ≡ false) × NoRule rules

-- a number is given exactly when it is that of the first rule that applies, and 0 exactly where none does
pub record Exactly (rules : List Rule) (number : ℕ) : Type 0 where
  pub given : (n : ℕ) → 0 < n → (number ≡ n) ↔ First rules n
  pub not_given : (number ≡ 0) ↔ NoRule rules

-- ---- "Where several apply the lowest wins"

-- the order of the numbers: between 21 and 22 W5 has first 30 and 31 judged, "before every other number", and then 32, in whose
-- place W4 has 29, "before 22"
abbrev pub order : ℕ → ℕ
order n =
    if n =? 30 then 5 * 21 + 1
    else if n =? 31 then 5 * 21 + 2
    else if n =? 29 then 5 * 21 + 3
    else if n =? 32 then 5 * 21 + 4
    else 5 * n

-- the numbers rise in that order: the first above `least`, each above the one before
unfoldable pub rising : ℕ → List Rule → Bool
rising least [] = true
rising least (rule ∷ rules) = least <? order rule.number && rising (order rule.number) rules

-- some rule with number n applies
pub data Applies : List Rule → ℕ → Type 0 where
  this : {rule : Rule} {rules : List Rule} → rule.applies ≡ true → Applies (rule ∷ rules) rule.number
  other : {rule : Rule} {rules : List Rule} {n : ℕ} → Applies rules n → Applies (rule ∷ rules) n

-- the lowest number that applies
abbrev pub Lowest : List Rule → ℕ → Type 0
Lowest rules n = Applies rules n × ((m : ℕ) → order m < order n → Applies rules m → ⊥)

-- ---- words of the laws

-- every number is above 0
unfoldable pub positive : List Rule → Bool
positive [] = true
positive (rule ∷ rules) = 0 <? rule.number && positive rules

-- what holds of every number of a list
abbrev pub Each : (ℕ → Type 0) → List Rule → Type 0
Each P [] = Unit {0}
Each P (rule ∷ rules) = P rule.number × Each P rules

-- no test of a list holds
abbrev pub NoTest : List Bool → Type 0
NoTest [] = Unit {0}
NoTest (test ∷ tests) = (test ≡ false) × NoTest tests
