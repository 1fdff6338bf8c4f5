-- Waiting, in the words of demand 1: "nothing is being drawn and no whole command waits", and none that its header or its count word
-- refuses.
use Rattle.std.specs.Prelude.{ℕ, ◌-◌, ◌≤◌, ◌<◌, List}
use Rattle.std.proofs.Math.Path.{◌≡◌}
use Rattle.std.proofs.Math.Bool.{true, false}
use Rattle.model.specs.Refusals.{NoRule}
use Rattle.model.specs.Ring.{waiting}
use Rattle.model.specs.Command.{kind_of, bad_start, judged_words, whole_words}
use Rattle.model.specs.Unit.{header_at, length_at, returns_at, rules_at, refused_words, needed, wants, drawing}
use Rattle.model.specs.declared.Core.{Core}
use Rattle.model.specs.declared.State.{State}

-- ---- the definitions, of the command at the read pointer

-- "It is whole when all its words wait and, with W, when the words waiting also reach the ring's end." (A table load has three words
-- and its data, a data command two and its data, so its count word waits then.)
pub record Whole (ring : List ℕ) (c : Core) (write : ℕ) : Type 0 where
  pub words_wait : length_at ring c ≤ waiting c.ringlength c.read write
  pub reach_end : returns_at ring c ≡ true → c.ringlength - c.read ≤ waiting c.ringlength c.read write

-- none of 21, 30, 31 and 22 applies to its header, nor, of a table load, 29 to its count word, or, of a data command, 32
abbrev pub GoodHeader : List ℕ → Core → Type 0
GoodHeader ring c = NoRule (rules_at ring c)

-- none of 21, 30 and 31 applies, and fewer words wait than the other numbers are judged on: W4 has 29 "judged as soon as three words
-- wait and before 22, which for this kind waits for them too", W5 has 32 "when the count word waits, then 22, which for this kind
-- waits for the count word"
pub record Unjudged (ring : List ℕ) (c : Core) (write : ℕ) : Type 0 where
  pub good_start : bad_start (wants c.place) (header_at ring c) ≡ false
  pub words_few : waiting c.ringlength c.read write < judged_words (kind_of (header_at ring c))

-- no word waits, or the header is good and the command is not whole, or too few words of a table load or a data command wait to tell
pub data NoCommand (ring : List ℕ) (c : Core) (write : ℕ) : Type 0 where
  no_word : waiting c.ringlength c.read write ≡ 0 → NoCommand ring c write
  not_whole : GoodHeader ring c → (Whole ring c write → ⊥) → NoCommand ring c write
  not_judged : Unjudged ring c write → NoCommand ring c write

-- the engine waits. W5: "In demand 1 a BLT that wants data, with no data command accepted, counts as not being drawn."
pub record Waits (ring : List ℕ) (s : State) : Type 0 where
  pub not_stopped : s.core.stop ≡ 0
  pub nothing_drawn : drawing s.core.place ≡ false
  pub no_command : NoCommand ring s.core s.write

-- ---- they are the tests of the model

-- the words that it needs before it is loaded or refused
pub data Needs (ring : List ℕ) (c : Core) : Type 0 where
  its_header : (GoodHeader ring c → ⊥) → needed ring c ≡ refused_words ring c → Needs ring c
  all_words : GoodHeader ring c → needed ring c ≡ whole_words c.ringlength c.read (length_at ring c) (returns_at ring c)
      → length_at ring c ≤ needed ring c → Needs ring c
