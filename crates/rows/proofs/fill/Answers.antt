use Rattle.laws.specs.Lows.{destination_span, low_asked}
use Rattle.laws.specs.Plain.{fill_changes}
use Rattle.rows.proofs.fill.Goals as goal

pub low_byte-a-requires : goal.low_byte-a-requires
low_byte-a-requires c = low_asked (destination_span c.requires.0 c.requires.1)

pub fill_at-requires : goal.fill_at-requires
fill_at-requires c = (c.requires.0, c.requires.1, fill_changes c.args.b c.requires.4.1 c.requires.2 _ _ _ c.requires.3, c.low_byte-a.ensures)
