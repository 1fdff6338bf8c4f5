use Prim.Native.Nat.{◌+◌, ◌-◌, ◌<◌}
use mathlib.Core.Path.{◌≡◌}
use Rattle.model.specs.Lookup.{data_stored}
use Rattle.command.proofs.store_data.Given as goal

abbrev pub invariant-loop-i : goal.invariant-loop-i
invariant-loop-i l = (l.to < 512)
    × (data_stored l.ring l.read 3 l.count l.index l.initial.table ≡ data_stored l.ring l.read l.i (3 + l.count - l.i) l.to l.table)
