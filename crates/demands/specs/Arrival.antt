-- Units along one run of words: as long as the write pointer stays on the run, each unit is the unit of the whole run, and
-- could be done with the final pointer in.
use Rattle.std.specs.Prelude.{ℕ, ◌≤◌, ◌<◌, ◌≡◌}
use Rattle.model.specs.Ring.{distance}
use Rattle.model.specs.declared.Core.{Core}
use Rattle.laws.specs.Fit.{Fit}

-- where an engine stands on the run of words from o to the final position f, with the write pointer at w: a state that row 3 does
-- not refuse, so that while a data command feeds pixels its words lie before w
pub record OnRun (n o f w : ℕ) (c : Core) : Type 0 where
  pub size_is : c.ringlength ≡ n
  pub origin_in : o < n
  pub final_in : f < n
  pub past : distance n o c.read ≤ distance n o w
  pub ahead : distance n o w ≤ distance n o f
  pub fit : Fit c w
