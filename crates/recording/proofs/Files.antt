-- A recording that is not bad, in a buffer that becomes frame memory.
use Rattle.std.proofs.Common.{ℕ, ◌+◌, ◌*◌, ◌≤◌, ◌<◌, ◌≡◌, refl, sym, ap, ◌∙◌, arith, Bool, true, false, not, List, ◌++◌, length, take, drop, replicate, Some, ne_eqb, take_at, length-append}
use Rattle.io.specs.Counts.{IsPrefixLen}
use Rattle.model.proofs.Choice.{or_right}
use Rattle.model.specs.Calls.{setup}
use Rattle.model.specs.declared.Answer.{Answer}
use Rattle.text.specs.Buffers.{Holds, holds}
use Rattle.recording.specs.Parts.{part_length}
use Rattle.recording.specs.Replay.{ring_limit, frame_limit, bad_lengths, is_refused, replay, replay_frame}
use Rattle.recording.specs.Recording.{file_words, length_words, head_of, good_head, ring_of, bad_recording, Loaded, replayed, replayed_frame, size_of_frame, frame_bytes, good}
use Rattle.recording.specs.declared.Head.{Head}
use Rattle.recording.proofs.Options.{some_false}

-- of another length than its words
pub other_length_bad : (file : List ℕ) → (length file ≡ 4 * (4 + (head_of file).ringlength) → ⊥) → bad_recording file ≡ true
unfolding bad_recording
other_length_bad file other = or_right (bad_lengths (head_of file).ringlength (head_of file).framelength) _ (ap not (ne_eqb _ _ other))

-- too short for its first words
pub short_bad : (file : List ℕ) → length file < 16 → bad_recording file ≡ true
short_bad file h = other_length_bad file (λ e. omega arith)

counts : (n : ℕ) (xs : List ℕ) → n ≤ length xs → IsPrefixLen n xs
counts n xs h = (h, part_length n xs h)

-- the first words of a recording that is not bad
pub taken : (file : List ℕ) (head : Head) → Some head ≡ good_head file → (bad_recording file ≡ false) × (head ≡ head_of file)
taken file head is = some_false (bad_recording file) (head_of file) head is

module _ (file : List ℕ) (head : Head) (fine : bad_recording file ≡ false) (head_is : head ≡ head_of file) where
  -- its ring fits into a buffer
  module _ (buffer : List ℕ) (room : ring_limit ≤ length buffer) where
    pub ring_in : IsPrefixLen head.ringlength buffer
    ring_in = counts head.ringlength buffer (rw head_is (omega (arith, (good file fine).ring_most_holds)))

    pub words_in : 4 * (4 + length (take head.ringlength buffer)) ≤ length file
    words_in = let n : head.ringlength ≡ (head_of file).ringlength = ap (λ (h : Head). h.ringlength) head_is in
        omega (arith, (good file fine).length_is, ring_in.1)

    -- read into its first part
    pub loaded : (words : List ℕ) → words ≡ file_words file 4 (length (take head.ringlength buffer))
        → Loaded file (words ++ drop head.ringlength buffer) head
    loaded words words_are =
        let n : head.ringlength ≡ (head_of file).ringlength = ap (λ (h : Head). h.ringlength) head_is in
        let is : words ≡ ring_of file = words_are ∙ ap (file_words file 4) (sym ring_in.1 ∙ n) in
        let size : length words ≡ head.ringlength = ap length is ∙ length_words file (head_of file).ringlength 4 ∙ sym n in
        let start = take_at words (drop head.ringlength buffer) head.ringlength size in
        record {
          fine = fine;
          head_is = head_is;
          ring_in = counts head.ringlength _ (omega (arith, size, length-append words (drop head.ringlength buffer)));
          ring_is = start ∙ is;
        }

  -- and so does its frame memory
  pub frame_in : (memory : List ℕ) → frame_limit ≤ length memory → IsPrefixLen head.framelength memory
  frame_in memory room = counts head.framelength memory (rw head_is (omega (arith, (good file fine).frame_most_holds)))

-- no more is written than there is
pub size_most : (head : Head) → size_of_frame head ≤ head.framelength
size_most head = go (is_refused (setup head.ringlength head.framelength)) refl
  where
    go : (b : Bool) → is_refused (setup head.ringlength head.framelength) ≡ b → size_of_frame head ≤ head.framelength
    go true e = rw e (omega arith)
    go false e = rw e (omega arith)

-- a replay of what is loaded
module _ (file ring memory : List ℕ) (head : Head) (l : Loaded file ring head) (room : frame_limit ≤ length memory) where
  size : length (take head.framelength memory) ≡ head.framelength
  size = sym (frame_in file head l.fine l.head_is memory room).1

  pub answer_is : (answer : Answer)
      → answer ≡ replay (take head.ringlength ring) (replicate (length (take head.framelength memory)) 0) head.write head.budget
      → answer ≡ replayed file
  unfolding replayed
  answer_is answer e = e ∙ rw (l.ring_is, size, l.head_is)

  pub frame_is : (after : List ℕ)
      → after ≡ replay_frame (take head.ringlength ring) (replicate (length (take head.framelength memory)) 0) head.write head.budget
      → after ≡ replayed_frame file
  unfolding replayed_frame
  frame_is after e = e ∙ rw (l.ring_is, size, l.head_is)

  -- and the part of it that is written
  pub written_is : (after rest : List ℕ) → length after ≡ length (take head.framelength memory) → after ≡ replayed_frame file
      → take (size_of_frame head) (after ++ rest) ≡ frame_bytes file
  unfolding frame_bytes
  written_is after rest same is = go (is_refused (setup head.ringlength head.framelength)) refl
    where
      go : (b : Bool) → is_refused (setup head.ringlength head.framelength) ≡ b
          → take (size_of_frame head) (after ++ rest) ≡ frame_bytes file
      go true e = rw (e, l.fine, rw l.head_is at e)
      go false e = rw (e, l.fine, rw l.head_is at e) (take_at after rest head.framelength (same ∙ size) ∙ is)

  -- which the buffer holds
  pub frame_held : (after rest : List ℕ) → length after ≡ length (take head.framelength memory) → after ≡ replayed_frame file
      → Holds (frame_bytes file) (after ++ rest) (size_of_frame head)
  frame_held after rest same is =
      holds (omega (arith, same, size, size_most head, length-append after rest)) (written_is after rest same is)

-- nothing of a bad recording
pub bad_held : (file memory : List ℕ) → bad_recording file ≡ true → Holds (frame_bytes file) memory 0
unfolding frame_bytes
bad_held file memory e = rw e (holds (omega arith) refl)
