-- Text put into a buffer, piece by piece.
use Rattle.std.specs.Prelude.{ℕ, ◌+◌, ◌-◌, ◌≤◌, ◌≡◌, List, ◌++◌, length, take, drop, replicate}
use Rattle.std.proofs.Common.{ap, ◌∙◌, append_assoc, arith, length-take}
use Rattle.std.proofs.lemmas.List.{length-take-le, take-append-drop}
use Rattle.io.specs.Counts.{IsPrefixLen}

-- the length of a text's buffer, which holds every line
abbrev pub buffer_length : ℕ
buffer_length = 512

-- a text at the front of its buffer, with zeros behind it
abbrev pub padded : List ℕ → List ℕ
padded text = text ++ replicate (buffer_length - length text) 0

abbrev pub text_length : List ℕ → ℕ
text_length text = length text

-- the bytes of a buffer are a text that ends at `end`, and zeros
pub record IsPadded (end : ℕ) (bytes : List ℕ) : Type 0 where
  pub in_buffer : end ≤ buffer_length
  pub whole : length bytes ≡ buffer_length
  pub zeros : drop end bytes ≡ replicate (buffer_length - end) 0

-- `after` is the buffer `before` with a text put into it at a place; the text ends at `end`, and is at most `most` bytes long
pub record Put (before : List ℕ) (at : ℕ) (text : List ℕ) (most : ℕ) (after : List ℕ) (end : ℕ) : Type 0 where
  pub end_most : end ≤ at + most
  pub text_is : take end after ≡ take at before ++ text

-- the first bytes of a buffer are a text
pub record Holds (text : List ℕ) (after : List ℕ) (end : ℕ) : Type 0 where
  pub counts : IsPrefixLen end after
  pub text_is : take end after ≡ text

-- ---- laws

-- so the text alone gives its end and the buffer
pub end_of_text : (end : ℕ) (bytes : List ℕ) → IsPadded end bytes → text_length (take end bytes) ≡ end
end_of_text end bytes h = length-take-le end bytes (omega (arith, h.in_buffer, h.whole))

pub padded_text : (end : ℕ) (bytes : List ℕ) → IsPadded end bytes → padded (take end bytes) ≡ bytes
padded_text end bytes h =
    rw (end_of_text end bytes h, ← h.zeros) (take-append-drop end bytes)

-- one text after another
pub put_then : {a b c s t : List ℕ} {at p e m n : ℕ} → Put a at s m b p → Put b p t n c e → Put a at (s ++ t) (m + n) c e
put_then {a} {b} {c} {s} {t} {at} g h = record {
  end_most = omega arith;
  text_is = h.text_is ∙ ap (λ (x : List ℕ). x ++ t) g.text_is ∙ append_assoc (take at a) s t;
}

pub put_most : {a b s : List ℕ} {at e m n : ℕ} → m ≤ n → Put a at s m b e → Put a at s n b e
put_most l h = record { end_most = omega arith; text_is = h.text_is }

-- the same text
pub holds_is : {b s t : List ℕ} {e : ℕ} → s ≡ t → Holds s b e → Holds t b e
holds_is e h = record { counts = h.counts; text_is = h.text_is ∙ e }

-- a text with room for it
pub holds : {b s : List ℕ} {e : ℕ} → e ≤ length b → take e b ≡ s → Holds s b e
holds {b} {s} {e} l is = record { counts = (l, omega (arith, length-take e b)); text_is = is }
