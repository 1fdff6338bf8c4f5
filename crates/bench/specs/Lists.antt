-- What a list of calls comes to from setup on.
use Rattle.std.specs.Prelude.{ℕ, ◌≤◌, ◌≡◌, Bool, true, false, ◌&&◌, List, length, if◌then◌else◌}
use Rattle.std.proofs.Math.Path.{refl}
use Rattle.std.proofs.Common.{leb-true}
use Rattle.model.specs.Choice.{◌≤?◌}
use Rattle.model.proofs.Choice.{both}
use Rattle.model.specs.Calls.{setup}
use Rattle.model.specs.Course.{Configuration, course}
use Rattle.model.specs.Perform.{lent, start}
use Rattle.model.specs.declared.Answer.{Answer}
use Rattle.drive.specs.Numbers.{calls_of}
use Rattle.drive.specs.Demanded.{Demanded}

-- a position and a budget for each call, and the sum of units, at most 4,294,967,295 a call, in 64 bits
abbrev pub is_list : (calls positions budgets : ℕ) → Bool
is_list calls positions budgets = calls ≤? positions && calls ≤? budgets && calls ≤? 4_294_967_295

-- the state that setup gives, refused or not, and this frame memory; then document 01's plain course over the calls, or none of
-- them
unfoldable pub driven : (ring frame kinds positions budgets : List ℕ) → Configuration
driven ring frame kinds positions budgets =
    let begin = start (setup (length ring) (length frame)).state frame in
    if is_list (length kinds) (length positions) (length budgets)
    then course (lent ring (calls_of kinds positions budgets (length kinds) 0)) begin
    else begin

-- what is told of it: the sum of units, the completion number, and frame memory
pub record Drove (y : Configuration) (units retired : ℕ) (frame : List ℕ) : Type 0 where
  pub units_are : units ≡ y.sum
  pub retired_is : retired ≡ y.state.core.completion
  pub frame_is : frame ≡ y.frame

-- ---- laws

-- what a drive asks of its lists
pub list_serves : (calls positions budgets : ℕ) → is_list calls positions budgets ≡ true
    → (calls ≤ positions) × (calls ≤ budgets) × (calls ≤ 4_294_967_295)
list_serves calls positions budgets e =
    let a = both (calls ≤? positions && calls ≤? budgets) _ e in
    let b = both (calls ≤? positions) _ a.0 in
    (leb-true _ _ b.0, leb-true _ _ b.1, leb-true _ _ a.1)

module _ (ring frame kinds positions budgets : List ℕ) (made : Answer) (is : made ≡ setup (length ring) (length frame)) where
  pub drove_none : is_list (length kinds) (length positions) (length budgets) ≡ false
      → Drove (driven ring frame kinds positions budgets) 0 made.state.core.completion frame
  unfolding driven
  drove_none e = rw (e, is) (record { units_are = refl; retired_is = refl; frame_is = refl })

  pub drove : is_list (length kinds) (length positions) (length budgets) ≡ true → (y : Configuration)
      → Demanded ring made.state frame (calls_of kinds positions budgets (length kinds) 0) y
      → Drove (driven ring frame kinds positions budgets) y.sum y.state.core.completion y.frame
  unfolding driven
  drove e y d = rw (e, ← is, ← d.is_course) (record { units_are = refl; retired_is = refl; frame_is = refl })
