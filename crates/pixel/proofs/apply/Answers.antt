use Rattle.pixel.proofs.apply.Goals as goal

pub returns : goal.returns
returns c = rw (← c.get-old.ensures) (rw c.blend.ensures at c.put.ensures)
