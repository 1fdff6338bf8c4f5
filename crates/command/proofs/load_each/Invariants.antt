use mathlib.Core.Path.{◌≡◌}
use lib.ListN.{drop}
use Rattle.model.specs.Command.{word_registers, load_words}
use Rattle.command.proofs.load_each.Given as goal

abbrev pub invariant-loop-i : goal.invariant-loop-i
invariant-loop-i l =
    load_words l.ring l.read l.header (word_registers l.kind) 0 l.initial.out ≡ load_words l.ring l.read l.header (drop l.i (word_registers l.kind)) l.i l.out
