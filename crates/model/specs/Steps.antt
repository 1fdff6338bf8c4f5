-- Short laws that pin the units down: what a unit is in each case, what a refusal leaves, and that a unit that can be done
-- can be done with a later write pointer.
use Rattle.std.specs.Prelude.{ℕ, ◌+◌, ◌≡◌, List}
use Rattle.std.proofs.Math.Bool.{true, false}
use Rattle.model.specs.Command.{kind_of, is_data}
use Rattle.model.specs.Host.{host_word, draw_host}
use Rattle.model.specs.Unit.{Machine, header_at, command_refusal, stopped, loaded_core, taken_core, table_after, drawn_core, draw_pixel, fed_word, fed_core, unit, drawing}
use Rattle.model.specs.declared.Core.{Core}
use Rattle.model.specs.declared.Feed.{Feed}
use Rattle.model.specs.declared.Place.TheVariants.{Drawing, Fed}
use Rattle.model.specs.declared.Primitive.{Primitive}

-- ---- what a unit is

abbrev pub machine : Core → (table frame : List ℕ) → Machine
machine c table frame = record { core = c; table = table; frame = frame }

-- it loads a command, accepts a data command, refuses a command, or draws a pixel, by itself or from a data word. "A bad command
-- stops the engine with its number, unexecuted, registers and frame memory unchanged"
pub data Step (ring : List ℕ) (m : Machine) : Type 0 where
  loads : drawing m.core.place ≡ false → command_refusal ring m.core ≡ 0 → is_data (kind_of (header_at ring m.core)) ≡ false
      → unit ring m ≡ machine (loaded_core ring m.core) (table_after ring m.core m.table) m.frame → Step ring m
  takes : drawing m.core.place ≡ false → command_refusal ring m.core ≡ 0 → is_data (kind_of (header_at ring m.core)) ≡ true
      → unit ring m ≡ machine (taken_core ring m.core) (table_after ring m.core m.table) m.frame → Step ring m
  refuses : drawing m.core.place ≡ false → (command_refusal ring m.core ≡ 0 → ⊥)
      → unit ring m ≡ machine (stopped m.core (command_refusal ring m.core)) m.table m.frame → Step ring m
  draws : (primitive : Primitive) (k : ℕ) → m.core.place ≡ Drawing primitive k
      → unit ring m
      ≡ machine (drawn_core m.core primitive (k + 1)) m.table (draw_pixel primitive m.core.registers m.table k m.frame)
      → Step ring m
  feeds : (k : ℕ) (feed : Feed) → m.core.place ≡ Fed k feed
      → unit ring m
      ≡ machine (fed_core m.core (k + 1) feed) m.table
      (draw_host m.core.registers m.table k (fed_word ring m.core feed (host_word m.core.registers k)) m.frame)
      → Step ring m
