use Rattle.std.proofs.Common.{arith, sym, ◌∙◌, leb-true, leb-false, ltb-false}
use Rattle.laws.specs.Extremes.{extent_below, extent_above, extent_in}
use Rattle.rectangle.proofs.extent.Goals as goal
use Rattle.rectangle.proofs.extent.Goals.{then-r-fall, else-r-fall}

pub returns-then-framelength-r : goal.returns-then-framelength-r
returns-then-framelength-r c =
    elim c.if-r-fall.branch [
      | then-r-fall w ↦ sym (extent_below _ c.requires _ (omega (arith, w.if-r-fall.true, c.back.ensures.value, c.back-2.ensures.value)))
      | else-r-fall w ↦
          sym (extent_above _ c.requires _
          (omega (arith, leb-true _ _ (sym w.value-is ∙ c.if-framelength-r.true), c.further.ensures.value, c.further-2.ensures.value)))
    ]

pub returns-else-framelength-r : goal.returns-else-framelength-r
returns-else-framelength-r c =
    rw (c.back.ensures.value, c.back-2.ensures.value, c.further.ensures.value, c.further-2.ensures.value)
    (elim c.if-r-fall.branch [
      | then-r-fall w ↦ absurd (omega (arith, w.if-r-fall.true, ltb-false _ _ (sym w.value-is ∙ c.if-framelength-r.false)))
      | else-r-fall w ↦
          sym (extent_in _ c.requires _
          (omega (arith, w.if-r-fall.false, c.back.ensures.value, c.back-2.ensures.value))
          (omega (arith, leb-false _ _ (sym w.value-is ∙ c.if-framelength-r.false), c.further.ensures.value, c.further-2.ensures.value)))
    ])
