-- Options: what a value that is there or not says of the test that it came from.
use Rattle.std.proofs.Common.{◌≡◌, refl, Bool, true, false, None, Some, if◌then◌else◌}

pub none_true : {A : Type 0} (b : Bool) (x : A) → None ≡ (if b then None else Some x) → b ≡ true
none_true true x is = refl
none_true false x is = absurd cc

pub some_false : {A : Type 0} (b : Bool) (x y : A) → Some y ≡ (if b then None else Some x) → (b ≡ false) × (y ≡ x)
some_false true x y is = absurd cc
some_false false x y is = (refl, cc)
