-- What is told of a replay in plain numbers.
use Rattle.std.specs.Prelude.{ℕ, ◌≡◌}
use Rattle.model.specs.Calls.{units_of}
use Rattle.model.specs.declared.Answer.{Answer}
use Rattle.text.specs.Lines.{last_number}

-- of the answer of its last call: the units, the completion number, and the number that refused or stopped, or 0
pub record Told (a : Answer) (units retired number : ℕ) : Type 0 where
  pub units_are : units ≡ units_of a.reply
  pub retired_is : retired ≡ a.state.core.completion
  pub number_is : number ≡ last_number a.reply a.state.core.stop
