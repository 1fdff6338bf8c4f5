use Rattle.pixel.proofs.blend_of.Goals as goal

pub returns : goal.returns
returns c = let op = c.prepare-op.ensures in
    (rw (c.combine-flip.ensures, op.code, op.pattern), rw (c.combine-flip.ensures, c.combine-set.ensures, op.code, op.pattern))
