use Rattle.std.proofs.Common.{ℕ, ◌+◌, ◌-◌, ◌≤◌, ◌≡◌, List, length, sym, subst, ◌∙◌, ap, arith, length-append, length-take, length-drop}
use Rattle.std.proofs.lemmas.List.{drop-drop, drop-replicate}
use Rattle.std.proofs.lemmas.Slice.{drop-put_mid}
use borrow.Rule.Slice.PartMut.{put_mid}
use Rattle.text.specs.Buffers.{buffer_length, IsPadded, end_of_text}
use Rattle.text.proofs.Text.put.Goals as goal

-- zeros stay behind a text that more is put after
put_padded : (at k : ℕ) (before text : List ℕ) → IsPadded at before → k ≡ length text → at + k ≤ buffer_length
    → IsPadded (at + k) (put_mid at k before text)
put_padded at k before text h e l =
    let a : at ≤ length before = omega (arith, h.whole, h.in_buffer) in
    let rest : buffer_length - at - k ≡ buffer_length - (at + k) = omega arith in
    record {
      in_buffer = l;
      whole = omega (arith, length-append {A = ℕ}, length-take {A = ℕ}, length-drop {A = ℕ}, e, h.whole);
      zeros = drop-put_mid at k before text (at + k) (omega arith) a (sym e) ∙ sym (drop-drop k at before)
          ∙ rw (h.zeros, drop-replicate {X = ℕ} k (buffer_length - at) 0, rest);
    }

pub invariant_of-self : goal.invariant_of-self
invariant_of-self c =
    let at = c.self.inside.length in
    let k = length c.args.bytes.now in
    let put : at + k - at ≡ k = omega arith in
    let here : length c.args.self.now ≡ at = ap length (sym c.self.view_is) ∙ end_of_text at c.self.inside.bytes c.self.invariant in
    subst (λ (n : ℕ). IsPadded (at + k) (put_mid at n c.self.inside.bytes c.copy_from_slice.new.self)) (sym put)
    (put_padded at k c.self.inside.bytes c.copy_from_slice.new.self c.self.invariant (ap length (sym c.copy_from_slice.ensures.after))
    (omega (arith, here, c.requires)))
