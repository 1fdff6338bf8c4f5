-- A value that serves as a source is one fact: there is no second way in which it serves. And under F0h, where one value serves, 0 does.
use Rattle.std.specs.Prelude.{ℕ, ◌≡◌, Option, Some}
use Rattle.std.proofs.Props.{props}
use Rattle.std.proofs.Common.{sym, ◌∙◌}
use mathlib.Core.HLevel.{Σ_prop_path}
use Rattle.model.proofs.Raster.{raster_pattern}
use Rattle.model.specs.Raster.{raster}
use Rattle.model.specs.BltPixel.{source_value}
use Rattle.model.specs.declared.Source.{Source}
use Rattle.laws.specs.Plain.{Plain}

abbrev Serves : ℕ → Option ℕ → ℕ → ℕ → Type 0
Serves code read value v = (read ≡ Some v) × ((m p d : ℕ) → raster m code p v d ≡ raster m code p value d)

serves_one : (code : ℕ) (read : Option ℕ) (value : ℕ) → IsProp ((v : ℕ) × Serves code read value v)
serves_one code read value x y =
    let e : Some x.0 ≡ Some y.0 = sym x.1.0 ∙ y.1.0 in
    Σ_prop_path {A = ℕ} {B = Serves code read value} (λ v. Prim.hlevel props) {u = x} {v = y} (cc)

pub Plain-prop : (code : ℕ) (s : Source) (value : ℕ) → IsProp (Plain code s value)
Plain-prop code s value x y =
    λ t. record {
      serves = λ i j frame.
          let p = x.serves i j frame in
          let q = y.serves i j frame in
          let r = serves_one code (source_value s i j frame) value (p.0, (p.1, p.2)) (q.0, (q.1, q.2)) t in
          (r.0, r.1.0, r.1.1);
    }

-- so a fill asks 0 of its source, whatever value serves
pub serves_fill : (code : ℕ) (s : Source) → code ≡ 0xF0 → {value : ℕ} → Plain code s value → Plain code s 0
serves_fill code s e p = record {
  serves = λ i j frame.
      let o = p.serves i j frame in
      (o.0, o.1, λ m q d. rw e (raster_pattern m q o.0 d ∙ sym (raster_pattern m q 0 d)));
}
