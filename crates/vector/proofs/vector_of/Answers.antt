use Prim.Native.Nat.{ℕ}
use mathlib.Core.Path.{◌≡◌, ap, ◌∙◌}
use mir.Syntax.{w16}
use mir.Val.{to_z, of_z}
use mir.ValLaws.{to_z-of_z}
use Rattle.model.specs.Formats.{format_of, depth_of}
use Rattle.model.specs.VectorPixel.{signed16, vector_of}
use borrow.Author.Rules.{rules}
use Rattle.vector.proofs.vector_of.Goals as goal

-- Each field of the vector is the register field that the definition names.
pub returns : goal.returns
unfolding vector_of
returns c = let v = vector_of c.args.registers in
    let axial : to_z w16 (of_z w16 c.signed-axial.result) ≡ v.axial = to_z-of_z w16 c.signed-axial.result (search rules) ∙ c.signed-axial.ensures ∙ ap signed16 c.bits-2.ensures.0 in
    let diagonal : to_z w16 (of_z w16 c.signed-diagonal.result) ≡ v.diagonal = to_z-of_z w16 c.signed-diagonal.result (search rules) ∙ c.signed-diagonal.ensures ∙ ap signed16 c.bits-3.ensures.0 in
    let initial : to_z w16 (of_z w16 c.signed-initial.result) ≡ v.initial = to_z-of_z w16 c.signed-initial.result (search rules) ∙ c.signed-initial.ensures ∙ ap signed16 c.bits-4.ensures.0 in
    λ t. record {
      depth = (c.depth_of-depth.ensures ∙ ap (λ (x : ℕ). depth_of (format_of x)) c.bits.ensures.0) t;
      length = c.number-length.ensures.0 t;
      offset = c.destination_address-offset.ensures t;
      stride = c.number-stride.ensures.0 t;
      axial = axial t;
      diagonal = diagonal t;
      initial = initial t;
      ymajor = c.is_set-ymajor.ensures t;
      majorpositive = c.is_set-majorpositive.ensures t;
      minorpositive = c.is_set-minorpositive.ensures t;
      code = c.bits-code.ensures.0 t;
      foreground = v.foreground;
      color = v.color;
    }
