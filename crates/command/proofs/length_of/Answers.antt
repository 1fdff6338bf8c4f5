use Rattle.command.specs.Look.{good_count}
use Rattle.model.proofs.Choice.{not_both}
use mathlib.Core.Bool.{true}
use mathlib.Core.Path.{refl}
use native.Mathlib.Omega.{arith}
use Rattle.command.proofs.length_of.Goals as goal

pub returns-in-Table : goal.returns-in-Table
returns-in-Table c = let d = c.data_count.ensures in
    rw c.in-Table.is (rw d, λ n e. let g = good_count _ e in omega arith)

pub returns-in-Data : goal.returns-in-Data
returns-in-Data c = let d = c.data_count-in-Data.ensures in
    rw c.in-Data.is (rw d, λ e. absurd (not_both true refl e))
