-- No refusal has the number 0.
use mathlib.Core.Path.{◌≡◌, refl}
use mathlib.Core.Bool.{false}
use Rattle.model.specs.Choice.{◌=?◌}
use Rattle.model.specs.Numbers.{number}
use Rattle.model.specs.declared.Refusal.{Refusal}
use Rattle.model.specs.declared.Refusal.TheVariants.{RingLength, FrameLength, UnfitState, LentLength, NoPosition, NoRoom, NotStopped, BadHeader, BadReturn, BadFormat, BadModes, NoPixels, BadTerms, DestinationOutside, SourceOutside, BadTableCount, DataWanted, DataUnwanted, BadDataCount}

pub number_some : (refusal : Refusal) → (number refusal =? 0) ≡ false
number_some RingLength = refl
number_some FrameLength = refl
number_some UnfitState = refl
number_some LentLength = refl
number_some NoPosition = refl
number_some NoRoom = refl
number_some NotStopped = refl
number_some BadHeader = refl
number_some BadReturn = refl
number_some BadFormat = refl
number_some BadModes = refl
number_some NoPixels = refl
number_some BadTerms = refl
number_some DestinationOutside = refl
number_some SourceOutside = refl
number_some BadTableCount = refl
number_some DataWanted = refl
number_some DataUnwanted = refl
number_some BadDataCount = refl
