use Rattle.drawing.proofs.takes_data.Goals as goal

pub returns-in-Blt : goal.returns-in-Blt
returns-in-Blt c = rw (c.in-Blt.is, ← c.bits.ensures.0)
