use Rattle.rows.proofs.mono_bits.Goals as goal

pub returns : goal.returns
returns c = rw (← c.pattern_index-row.ensures.0, ← c.pattern_index-column.ensures.0) c.pattern_bits.ensures
