-- The value that serves as the source of every pixel, if one does.
use Rattle.std.specs.Prelude.{ℕ, ◌≡◌, Bool, true, false, Some, None, is_some, if◌then◌else◌}
use Rattle.std.specs.declared.option.Option.{Option}
use Rattle.std.proofs.Common.{refl}
use Rattle.model.specs.declared.Source.{Source}
use Rattle.laws.specs.Plain.{Plain, is_plain, plain_value, plain}

-- what the code answers
abbrev pub serving : ℕ → Source → Option ℕ
serving code s = if is_plain code s then Some (plain_value s) else None

module _ (code : ℕ) (s : Source) where
  pub serves : {value : ℕ} → serving code s ≡ Some value → Plain code s value
  serves {value} e = go (is_plain code s) (plain code s) e
    where
      go : (b : Bool) → (b ≡ true → Plain code s (plain_value s)) → (if b then Some (plain_value s) else None) ≡ Some value → Plain code s value
      go true p f = let same : plain_value s ≡ value = cc in rw same at (p refl)
      go false p f = absurd cc

  pub serves_some : {o : Option ℕ} → o ≡ serving code s → is_some o ≡ true → Plain code s (plain_value s)
  serves_some e f = go (is_plain code s) (plain code s) (rw e at f)
    where
      go : (b : Bool) → (b ≡ true → Plain code s (plain_value s)) → is_some (if b then Some (plain_value s) else None) ≡ true
          → Plain code s (plain_value s)
      go true p f = p refl
      go false p f = absurd cc
