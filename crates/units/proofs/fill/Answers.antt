use Rattle.std.proofs.Common.{◌∙◌}
use Rattle.model.specs.Unit.{table_after}
use Rattle.units.proofs.Loads.{load_fills, table_filled}
use Rattle.units.proofs.fill.Goals as goal

pub returns-clause-core : goal.returns-clause-core
returns-clause-core c = let l = rw c.requires.header_is at c.load_table-core.ensures in
    rw c.retire-core.ensures (load_fills _ _ l.registers c.requires)

pub returns-clause-table : goal.returns-clause-table
unfolding table_after
returns-clause-table c = let l = rw c.requires.header_is at c.load_table-core.ensures in
    l.table ∙ table_filled _ _ c.requires.accepted _
