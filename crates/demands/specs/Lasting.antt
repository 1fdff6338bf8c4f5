-- An accepted state stays accepted: every list of calls, lent whatever rings, refused calls and accepted restarts included,
-- leaves a state that row 3 does not refuse, with frame memory and rings of its lengths.
use Rattle.std.specs.Prelude.{ℕ, List}
use Rattle.model.specs.Course.{Lent, Configuration}
use Rattle.model.specs.Perform.{performs, Fixed}

-- ---- the statement

abbrev pub Lasts : List ℕ → Configuration → Type 0
Lasts ring y = Fixed ring y.state y.frame

abbrev pub Lasting : Type 0
Lasting = (ring : List ℕ) (y : Configuration) (calls : List Lent) → Lasts ring y → Lasts ring (performs calls y)
