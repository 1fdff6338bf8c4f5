-- The refusals by their names, and the numbers that document 01 gives them (Refusal numbers).
use Rattle.std.specs.Prelude.{ℕ, Result, Ok, Err, ⊤}
use Rattle.model.specs.declared.Refusal.{Refusal}
use Rattle.model.specs.declared.Refusal.TheVariants.{RingLength, FrameLength, UnfitState, LentLength, NoPosition, NoRoom, NotStopped, BadHeader, BadReturn, BadFormat, BadModes, NoPixels, BadTerms, DestinationOutside, SourceOutside, BadTableCount, DataWanted, DataUnwanted, BadDataCount}

abbrev pub number : Refusal → ℕ
number RingLength = 1
number FrameLength = 2
number UnfitState = 3
number LentLength = 4
number NoPosition = 5
number NoRoom = 6
number NotStopped = 7
number BadHeader = 21
number BadReturn = 22
number BadFormat = 23
number BadModes = 24
number NoPixels = 25
number BadTerms = 26
number DestinationOutside = 27
number SourceOutside = 28
number BadTableCount = 29
number DataWanted = 30
number DataUnwanted = 31
number BadDataCount = 32

-- what a check comes to: the number that it refuses by, or 0 where nothing is refused
abbrev pub number_of_check : Result ⊤ Refusal → ℕ
number_of_check (Ok x) = 0
number_of_check (Err refusal) = number refusal
