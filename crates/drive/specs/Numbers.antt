-- Calls written as numbers.
use Rattle.std.specs.Prelude.{ℕ, zero, suc, ◌+◌, List, [], ◌∷◌, get_or, if◌then◌else◌}
use Rattle.model.specs.Choice.{◌=?◌}
use Rattle.model.specs.Course.{Call, publishing, running, asking, restarting}

-- 0 publishes the position, 1 runs with the budget, 2 asks for the room, any other restarts
abbrev pub numbered_call : ℕ → ℕ → ℕ → Call
numbered_call kind position budget =
    if kind =? 0 then publishing position
    else if kind =? 1 then running budget
    else if kind =? 2 then asking
    else restarting

-- n calls from number i on
unfoldable pub calls_of : List ℕ → List ℕ → List ℕ → ℕ → ℕ → List Call
calls_of kinds positions budgets zero i = []
calls_of kinds positions budgets (suc n) i =
    numbered_call (get_or kinds i 0) (get_or positions i 0) (get_or budgets i 0) ∷ calls_of kinds positions budgets n (i + 1)
