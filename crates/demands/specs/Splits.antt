-- Splits. "The picture does not depend on how its words are split into data commands": two splits of the same words give the same frame
-- memory and completion number. (Document 02, W5: a BLT with host source "takes its pixels from the data commands that follow".)
-- The units here ask for no write pointer: demand 2 has those of a run be as many of them as it reports, and demand 3 has what they come
-- to not depend on when the words are published.
use Prim.Native.Nat.{ℕ, ◌+◌, ◌-◌, ◌<◌}
use Rattle.std.specs.Prelude.{◌≡◌, false, List, [], ◌++◌, length, get_or}
use Rattle.std.proofs.Math.Bool.{true}
use Rattle.model.specs.Ring.{word_at}
use Rattle.model.specs.Lookup.{data_count}
use Rattle.model.specs.Completion.{retired}
use Rattle.model.specs.Command.{returns, kind_of, bad_header, data_length, bad_return, bad_data_word, read_after}
use Rattle.model.specs.Host.{from_host, host_word, draw_host}
use Rattle.model.specs.Judging.{judge}
use Rattle.model.specs.Unit.{Machine, pixel_count, times}
use Rattle.model.specs.declared.Kind.TheVariants.{Data}
use Rattle.model.specs.declared.Place.TheVariants.{Idle, Wanting}
use Rattle.model.specs.declared.Primitive.TheVariants.{Blt}
use Rattle.laws.specs.Order.{in_order}

-- ---- the statement

-- a data command stands at `read`, one that 21, 32 and 22 do not refuse, and these are its data words
pub record DataAt (ring : List ℕ) (size read : ℕ) (words : List ℕ) : Type 0 where
  pub kind : kind_of (get_or ring read 0) ≡ Data
  pub not_21 : bad_header (get_or ring read 0) ≡ false
  pub not_32 : bad_data_word size (word_at ring read 1) ≡ false
  pub not_22 : bad_return size read (data_length (length words)) (returns (get_or ring read 0)) ≡ false
  pub count : data_count (word_at ring read 1) ≡ length words
  pub holds : (i : ℕ) → i < length words → word_at ring read (2 + i) ≡ get_or words i 0

-- data commands stand one after the other from `read` on, and these are their data words, the first command's first
pub data Split (ring : List ℕ) (size : ℕ) : (read : ℕ) → List ℕ → Type 0 where
  none : {read : ℕ} → Split ring size read []
  more : {read : ℕ} {words rest : List ℕ} → DataAt ring size read words
      → Split ring size (read_after size read (data_length (length words)) (returns (get_or ring read 0))) rest
      → Split ring size read (words ++ rest)

-- A picture is sent: a BLT is loaded and wants data from pixel 0 on (row 3 has `judged` and `host` of every state in that place), and
-- from the read pointer on stand data commands with these words, at least as many as its last pixel needs.
pub record Sent (ring : List ℕ) (m : Machine) (words : List ℕ) : Type 0 where
  pub wanting : m.core.place ≡ Wanting 0
  pub judged : judge Blt m.core.registers m.core.framelength ≡ 0
  pub host : from_host m.core.registers ≡ true
  pub split : Split ring m.core.ringlength m.core.read words
  pub enough : host_word m.core.registers (pixel_count Blt m.core.registers - 1) < length words

-- the command in progress ends with the last of n units
pub record Ends (ring : List ℕ) (m : Machine) (n : ℕ) : Type 0 where
  pub ended : (times ring n m).core.place ≡ Idle
  pub until : (k : ℕ) → k < n → (times ring k m).core.place ≡ Idle → ⊥

-- The same words, in any data commands of two rings, sent to BLTs with the same registers, lookup table, frame memory and completion
-- number: when they end, frame memory is the same, and the completion number. Ruled out: an engine that begins a row anew with each
-- data command; one that leaves out a command's last word; one that raises the completion number for a data command.
abbrev pub SplitsAlike : Type 0
SplitsAlike =
    (ring other : List ℕ) (m n : Machine) (words : List ℕ) → Sent ring m words → Sent other n words
    → m.core.registers ≡ n.core.registers → m.table ≡ n.table → m.frame ≡ n.frame → m.core.completion ≡ n.core.completion
    → (i j : ℕ) → Ends ring m i → Ends other n j
    → ((times ring i m).frame ≡ (times other j n).frame) × ((times ring i m).core.completion ≡ (times other j n).core.completion)

-- what the words alone give: frame memory once every pixel, in order, is drawn from the word that holds it
abbrev pub picture : (registers table words : List ℕ) → List ℕ → List ℕ
picture registers table words =
    in_order (λ k. draw_host registers table k (get_or words (host_word registers k) 0)) 0 (pixel_count Blt registers)

-- that is what the BLT leaves, with one more command retired
pub record Leaves (m : Machine) (words : List ℕ) (n : Machine) : Type 0 where
  pub frame_is : n.frame ≡ picture m.core.registers m.table words m.frame
  pub completion_is : n.core.completion ≡ retired m.core.completion
  pub registers_kept : n.core.registers ≡ m.core.registers
  pub table_kept : n.table ≡ m.table
  pub stop_kept : n.core.stop ≡ m.core.stop

-- and it does end
abbrev pub PictureDrawn : Type 0
PictureDrawn =
    (ring : List ℕ) (m : Machine) (words : List ℕ) → Sent ring m words → (n : ℕ) × Ends ring m n × Leaves m words (times ring n m)

pub record Splits : Type 0 where
  pub splits_alike : SplitsAlike
  pub picture_drawn : PictureDrawn
