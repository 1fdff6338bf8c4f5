-- What a record that is read says of the bytes that it is read from.
use Rattle.std.proofs.Common.{ℕ, zero, suc, ◌≡◌, ◌≤◌, ◌||◌, refl, ap, arith, Bool, true, false, List, length, None, Some, eqb-true, ltb-false}
use Rattle.model.specs.Choice.{◌=?◌, ◌<?◌}
use Rattle.model.proofs.Choice.{neither}
use Rattle.recording.specs.Recording.{file_word}
use Rattle.recording.proofs.Options.{none_true, some_false}
use Rattle.tracing.specs.Trace.{asked, asked_frame, Held, bad_record, call_step, bad_begin, call_of, op_of, argument_of, record_of, good_record, good_begin}
use Rattle.tracing.specs.declared.Call.{Call}
use Rattle.tracing.specs.declared.Record.{Record}
use Rattle.tracing.specs.declared.Record.TheVariants.{Store, Called}

pub none_begins_bad : (head : List ℕ) → None ≡ good_begin head → bad_begin head ≡ true
none_begins_bad head is = none_true (bad_begin head) (file_word head 0, file_word head 1) is

pub some_begins : (head : List ℕ) (lengths : ℕ × ℕ) → Some lengths ≡ good_begin head
    → (bad_begin head ≡ false) × (lengths.0 ≡ file_word head 0) × (lengths.1 ≡ file_word head 1)
some_begins head lengths is =
    let some = some_false (bad_begin head) (file_word head 0, file_word head 1) lengths is in
    (some.0, ap (λ (p : ℕ × ℕ). p.0) some.1, ap (λ (p : ℕ × ℕ). p.1) some.1)

module _ (part : List ℕ) (n : ℕ) where
  abbrev record_there : Record
  record_there = record_of (file_word part 0) (file_word part 1) (file_word part 2)

  pub none_bad : None ≡ good_record part n → bad_record part n ≡ true
  none_bad is = none_true (bad_record part n) record_there is

  pub some_good : (r : Record) → Some r ≡ good_record part n
      → (bad_record part n ≡ false) × (r ≡ record_of (file_word part 0) (file_word part 1) (file_word part 2))
  some_good r is = some_false (bad_record part n) record_there r is

pub store_is : (op a b at word : ℕ) → Store at word ≡ record_of op a b → (op ≡ 0) × (at ≡ a) × (word ≡ b)
store_is op a b at word is = go (op =? 0) refl
  where
    go : (z : Bool) → op =? 0 ≡ z → (op ≡ 0) × (at ≡ a) × (word ≡ b)
    go true e = let same = rw e at is in (eqb-true op 0 e, cc, cc)
    go false e = absurd (let other = rw e at is in cc)

pub called_is : (op a b : ℕ) (call : Call) → Called call ≡ record_of op a b → (op ≡ 0 → ⊥) × (call ≡ call_of op a)
called_is op a b call is = go (op =? 0) refl
  where
    go : (z : Bool) → op =? 0 ≡ z → (op ≡ 0 → ⊥) × (call ≡ call_of op a)
    go true e = absurd (let other = rw e at is in cc)
    go false e = let same = rw e at is in (λ zero_op. absurd (let none = rw zero_op at e in cc), cc)

-- a call under the op that it is read from
pub op_most : (part : List ℕ) (n : ℕ) → bad_record part n ≡ false → file_word part 0 ≤ 4
op_most part n e =
    ltb-false 4 (file_word part 0) (neither (length part <? 12) _ (neither (length part <? 12 || 4 <? file_word part 0) _ e).0).1

pub same_call : (op a : ℕ) (t : Held) → (op ≡ 0 → ⊥) → op ≤ 4
    → call_step (op_of (call_of op a)) (argument_of (call_of op a)) t ≡ call_step op a t
unfolding asked asked_frame
same_call zero a t some most = absurd (some refl)
same_call (suc zero) a t some most = refl
same_call (suc (suc zero)) a t some most = refl
same_call (suc (suc (suc zero))) a t some most = refl
same_call (suc (suc (suc (suc zero)))) a t some most = refl
same_call (suc (suc (suc (suc (suc n))))) a t some most = absurd (omega arith)
