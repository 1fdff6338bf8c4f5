use Rattle.std.proofs.Common.{◌≡◌, ◌||◌, Bool, List, ℕ, false, sym, ap, ◌∙◌, ne_eqb, pos}
use Rattle.std.specs.Int.Signed.{lt_z}
use Rattle.model.specs.Judging.{row25, row26}
use Rattle.model.specs.VectorPixel.{vector_of}
use Rattle.model.specs.declared.Vector.{Vector}
use Rattle.model.specs.declared.Primitive.TheVariants.{Vector as VectorPrimitive}
use Rattle.laws.specs.Ranges.{ranged_vector}
use Rattle.judging.proofs.check_vector.Goals as goal

-- 25 does not apply to a vector that was looked at and has pixels; 26 by its terms
some_length : (registers : List ℕ) {v : Vector} → v ≡ vector_of registers → (v.length ≡ 0 → ⊥) → row25 registers VectorPrimitive ≡ false
unfolding vector_of
some_length registers is some = ne_eqb _ _ (λ z. some (ap (λ (v : Vector). v.length) is ∙ z))

by_terms : (registers : List ℕ) {v : Vector} {bad : Bool} → bad ≡ lt_z v.axial (pos 0) || lt_z (pos 0) v.diagonal → v ≡ vector_of registers
    → row26 registers VectorPrimitive ≡ bad
by_terms registers told is = sym (told ∙ ap (λ (v : Vector). lt_z v.axial (pos 0) || lt_z (pos 0) v.diagonal) is)

pub outside-requires : goal.outside-requires
outside-requires c = let format = sym c.bad_format.ensures ∙ c.if-bad_format.false in
    let some = some_length c.args.registers c.vector_of-v.ensures c.if-v-eq0.false in
    rw c.vector_of-v.ensures (ranged_vector _ format some (by_terms c.args.registers c.bad_terms.ensures c.vector_of-v.ensures ∙ c.if-bad_terms.false))
