-- A check refuses exactly where its number is not 0.
use Rattle.std.proofs.Common.{◌≡◌, ℕ, Bool, true, false, not, Result, Ok, Err, refl, ◌∙◌, ap}
use Rattle.std.specs.Prelude.{⊤, is_err}
use Rattle.model.specs.Choice.{◌=?◌}
use Rattle.model.proofs.Choice.{not_both}
use Rattle.model.specs.Numbers.{number, number_of_check}
use Rattle.model.specs.declared.Refusal.{Refusal}
use Rattle.model.specs.declared.Refusal.TheVariants.{RingLength, FrameLength, UnfitState, LentLength, NoPosition, NoRoom, NotStopped, BadHeader, BadReturn, BadFormat, BadModes, NoPixels, BadTerms, DestinationOutside, SourceOutside, BadTableCount, DataWanted, DataUnwanted, BadDataCount}

pub refuses_number : (r : Result ⊤ Refusal) → is_err r ≡ not (number_of_check r =? 0)
refuses_number (Ok x) = refl
refuses_number (Err RingLength) = refl
refuses_number (Err FrameLength) = refl
refuses_number (Err UnfitState) = refl
refuses_number (Err LentLength) = refl
refuses_number (Err NoPosition) = refl
refuses_number (Err NoRoom) = refl
refuses_number (Err NotStopped) = refl
refuses_number (Err BadHeader) = refl
refuses_number (Err BadReturn) = refl
refuses_number (Err BadFormat) = refl
refuses_number (Err BadModes) = refl
refuses_number (Err NoPixels) = refl
refuses_number (Err BadTerms) = refl
refuses_number (Err DestinationOutside) = refl
refuses_number (Err SourceOutside) = refl
refuses_number (Err BadTableCount) = refl
refuses_number (Err DataWanted) = refl
refuses_number (Err DataUnwanted) = refl
refuses_number (Err BadDataCount) = refl

-- no refusal has the number 0
pub refusal_some : (refusal : Refusal) → number refusal ≡ 0 → ⊥
refusal_some refusal z = absurd (not_both true refl (refuses_number (Err refusal) ∙ ap (λ (n : ℕ). not (n =? 0)) z))
