-- What `replay` and `frame` write of a recording, as a function of the file's bytes (document 01, Shop cases: "The replay
-- program reads a recording ..").
use Rattle.std.specs.Prelude.{ℕ, zero, suc, ◌+◌, ◌*◌, ◌≤◌, ◌<◌, ◌≡◌, refl, Bool, true, false, not, ◌||◌, List, [], ◌∷◌, ◌++◌, length, take, replicate, Option, None, Some, if◌then◌else◌}
use Rattle.std.proofs.Common.{ap, arith, add-zero, eqb-true, length-take}
use Rattle.std.proofs.lemmas.Bool.{not-false}
use Rattle.io.specs.Counts.{IsPrefixLen}
use Rattle.model.specs.Choice.{◌=?◌}
use Rattle.model.proofs.Choice.{neither}
use Rattle.model.specs.Pixel.{read_pixel}
use Rattle.model.specs.Calls.{setup}
use Rattle.model.specs.declared.Answer.{Answer}
use Rattle.text.specs.Lines.{replay_lines, bad_line}
use Rattle.recording.specs.Replay.{ring_limit, frame_limit, bad_lengths, good_lengths, is_refused, replay, replay_frame}
use Rattle.recording.specs.declared.Head.{Head}

-- ---- the file

-- "little-endian 32-bit words": word number i
unfoldable pub file_word : List ℕ → ℕ → ℕ
file_word file i = read_pixel 4 file (4 * i)

-- n words from number `from` on
abbrev pub file_words : List ℕ → ℕ → ℕ → List ℕ
file_words file from zero = []
file_words file from (suc n) = file_word file from ∷ file_words file (from + 1) n

-- "ring length, frame length, write position, budget, then every ring word"
abbrev pub head_of : List ℕ → Head
head_of file = record {
  ringlength = file_word file 0;
  framelength = file_word file 1;
  write = file_word file 2;
  budget = file_word file 3;
}

abbrev pub ring_of : List ℕ → List ℕ
ring_of file = file_words file 4 (head_of file).ringlength

-- "a ring length above 4,096, a frame length above 32,768 or a file that isn't exactly 4 + ring length words"
unfoldable pub bad_recording : List ℕ → Bool
bad_recording file =
    bad_lengths (head_of file).ringlength (head_of file).framelength || not (length file =? 4 * (4 + (head_of file).ringlength))

-- ---- what comes out

-- "It does setup, one publish and one run on a zeroed frame"
abbrev pub zeroed : List ℕ → List ℕ
zeroed file = replicate (head_of file).framelength 0

unfoldable pub replayed : List ℕ → Answer
replayed file = replay (ring_of file) (zeroed file) (head_of file).write (head_of file).budget

unfoldable pub replayed_frame : List ℕ → List ℕ
replayed_frame file = replay_frame (ring_of file) (zeroed file) (head_of file).write (head_of file).budget

-- what `replay` writes: "the one line `recording=bad`", or the lines of the last call
unfoldable pub replay_text : List ℕ → List ℕ
replay_text file = if bad_recording file then bad_line else replay_lines (replayed file)

-- how much frame memory there is: none where setup is refused
abbrev pub made : List ℕ → Answer
made file = setup (head_of file).ringlength (head_of file).framelength

abbrev pub frame_size : List ℕ → ℕ
frame_size file = if is_refused (made file) then 0 else (head_of file).framelength

-- what `frame` writes: frame memory after the same calls; nothing of a bad recording or where setup is refused
unfoldable pub frame_bytes : List ℕ → List ℕ
frame_bytes file = if bad_recording file || is_refused (made file) then [] else replayed_frame file

-- ---- the same as the code has it

-- the first words of a recording that is not bad
abbrev pub good_head : List ℕ → Option Head
good_head file = if bad_recording file then None else Some (head_of file)

-- a recording that is not bad, taken out of a file: its first words, and its ring at the start of a buffer
pub record Loaded (file ring : List ℕ) (head : Head) : Type 0 where
  pub fine : bad_recording file ≡ false
  pub head_is : head ≡ head_of file
  pub ring_in : IsPrefixLen head.ringlength ring
  pub ring_is : take head.ringlength ring ≡ ring_of file

-- and none of a bad one
abbrev pub Loads : List ℕ → List ℕ → Option Head → Type 0
Loads file ring None = bad_recording file ≡ true
Loads file ring (Some head) = Loaded file ring head

-- `frame_size`, from the first words
abbrev pub size_of_frame : Head → ℕ
size_of_frame head = if is_refused (setup head.ringlength head.framelength) then 0 else head.framelength

-- ---- laws

-- what holds of a recording that is not bad
pub record Good (file : List ℕ) : Type 0 where
  pub ring_most_holds : (head_of file).ringlength ≤ ring_limit
  pub frame_most_holds : (head_of file).framelength ≤ frame_limit
  pub length_is : length file ≡ 4 * (4 + (head_of file).ringlength)

pub good : (file : List ℕ) → bad_recording file ≡ false → Good file
unfolding bad_recording
good file e =
    let n = neither (bad_lengths (head_of file).ringlength (head_of file).framelength) _ e in
    let l = good_lengths (head_of file).ringlength (head_of file).framelength n.0 in
    record { ring_most_holds = l.0; frame_most_holds = l.1; length_is = eqb-true _ _ (not-false _ n.1) }

-- a file longer than the longest recording is bad, and so is as much of it as the longest frame memory holds: what is written of
-- the two is the same
long_file : (file : List ℕ) → 4 * (4 + ring_limit) < length file → bad_recording file ≡ true
long_file file h = go (bad_recording file) refl
  where
    go : (b : Bool) → bad_recording file ≡ b → bad_recording file ≡ true
    go true e = e
    go false e = let g = good file e in absurd (omega arith)

pub cut_file : (file : List ℕ) → frame_limit < length file
    → (replay_text (take frame_limit file) ≡ replay_text file) × (frame_bytes (take frame_limit file) ≡ frame_bytes file)
unfolding replay_text frame_bytes
cut_file file h =
    let part = long_file (take frame_limit file) (omega (arith, length-take frame_limit file)) in
    let whole = long_file file (omega arith) in
    (rw (part, whole), rw (part, whole))

-- one word more
pub file_words_more : (file : List ℕ) (n from : ℕ) → file_words file from (suc n) ≡ file_words file from n ++ (file_word file (from + n) ∷ [])
file_words_more file zero from = rw (add-zero from)
file_words_more file (suc n) from =
    let e : from + 1 + n ≡ from + suc n = omega arith in
    ap (λ (x : List ℕ). file_word file from ∷ x) (rw e at (file_words_more file n (from + 1)))

pub length_words : (file : List ℕ) (n from : ℕ) → length (file_words file from n) ≡ n
length_words file zero from = refl
length_words file (suc n) from = ap suc (length_words file n (from + 1))
