use Rattle.command.proofs.Loads.{table_loaded, table_filled}
use Rattle.command.proofs.load_table.Goals as goal

pub returns : goal.returns
returns c = let a = c.args in
    let p = c.requires in
    let loads = c.load_each-out.ensures in record {
      registers = table_loaded a.ring.now a.read a.header a.registers p.0 loads p.1 c.index_after.ensures;
      table = table_filled a.ring.now a.read a.header a.registers p.0 loads p.1 a.table.now c.store_data.ensures;
    }
