use Rattle.laws.specs.Lows.{destination_span, low_asked}
use Rattle.laws.specs.Plain.{blend_changes}
use Rattle.rows.proofs.blend.Goals as goal

pub low_byte-a-requires : goal.low_byte-a-requires
low_byte-a-requires c = low_asked (destination_span c.requires.0 c.requires.1)

pub blend_at-requires : goal.blend_at-requires
blend_at-requires c = (
  c.requires.0,
  c.requires.1,
  blend_changes c.args.b c.requires.3 c.requires.2 _ _ _ c.requires.0.fit.destination_fit.ranged.deep c.blend_of-v.ensures.0 c.blend_of-v.ensures.1,
  c.low_byte-a.ensures,
)
