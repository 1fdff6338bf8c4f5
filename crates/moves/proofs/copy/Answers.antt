use native.Mathlib.Omega.{arith}
use Rattle.laws.specs.Lows.{destination_span, source_span, low_asked}
use Rattle.laws.specs.Moves.{row_most, copy_bytes}
use Rattle.moves.proofs.copy.Goals as goal

pub low_byte-from-requires : goal.low_byte-from-requires
low_byte-from-requires c = low_asked (source_span c.requires.0 c.requires.1 c.requires.2)

pub low_byte-to-requires : goal.low_byte-to-requires
low_byte-to-requires c = low_asked (destination_span c.requires.0 c.requires.1)

pub bytes_of-requires : goal.bytes_of-requires
bytes_of-requires c = omega (arith, row_most c.requires.0)

pub is_clear-requires : goal.is_clear-requires
is_clear-requires c = omega (arith, copy_bytes c.requires.0 c.requires.1 c.requires.2 c.low_byte-from.ensures c.low_byte-to.ensures, c.requires.0.small)

pub copy_at-requires : goal.copy_at-requires
copy_at-requires c = (
  c.requires.0,
  c.requires.1,
  c.requires.2,
  c.requires.3,
  c.requires.4,
  c.low_byte-from.ensures,
  c.low_byte-to.ensures,
  rw (← c.bytes_of.ensures) (c.is_clear.ensures c.if-is_clear.true),
)
