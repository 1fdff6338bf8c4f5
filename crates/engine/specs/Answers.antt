-- What the calls' inner functions are handed.
use Rattle.std.specs.Prelude.{◌<◌}
use Rattle.model.specs.declared.State.{State}

-- a state whose pointers lie in its ring
pub record InRing (s : State) : Type 0 where
  pub read_in : s.core.read < s.core.ringlength
  pub write_in : s.write < s.core.ringlength
