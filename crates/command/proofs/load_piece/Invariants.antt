use Prim.Native.Nat.{ℕ}
use mathlib.Core.Path.{◌≡◌}
use mathlib.Core.List.{List}
use lib.ListN.{drop}
use Rattle.model.specs.Command.{word_registers, load_words}
use Rattle.command.specs.Pieces.{InPiece}
use Rattle.command.proofs.load_piece.Given as goal

abbrev pub invariant-loop-i : goal.invariant-loop-i
invariant-loop-i l = (ring : List ℕ) (read : ℕ) → InPiece ring read l.words
    → load_words ring read l.header (word_registers l.kind) 0 l.initial.out ≡ load_words ring read l.header (drop l.i (word_registers l.kind)) l.i l.out
