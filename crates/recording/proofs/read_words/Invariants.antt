use Rattle.std.proofs.Common.{◌≡◌, take}
use Rattle.recording.specs.Recording.{file_words}
use Rattle.recording.proofs.read_words.Given as goal

abbrev pub invariant-loop-i : goal.invariant-loop-i
invariant-loop-i l = take l.i l.ring ≡ file_words l.file 4 l.i
