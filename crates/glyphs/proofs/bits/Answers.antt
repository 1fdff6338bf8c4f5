use mathlib.Core.Path.{refl}
use native.Mathlib.Omega.{arith}
use Rattle.laws.specs.Rows.{destination_within, row_pixel, row_reached, bits_within}
use Rattle.laws.specs.Moves.{row_most}
use Rattle.glyphs.proofs.bits.Goals as goal

pub pixel_byte-to-requires : goal.pixel_byte-to-requires
pixel_byte-to-requires c = row_reached c.requires.0 (omega (arith, c.requires.1))

pub pixel_byte-from-requires : goal.pixel_byte-from-requires
pixel_byte-from-requires c = (bits_within c.requires.0 c.requires.1 refl c.requires.3).begins

pub overflow_add-x : goal.overflow_add-x
overflow_add-x c = omega (arith, (bits_within c.requires.0 c.requires.1 refl c.requires.3).bit_near)

pub overflow_add-q : goal.overflow_add-q
overflow_add-q c = omega (arith, (bits_within c.requires.0 c.requires.1 refl c.requires.3).bit_in, c.pixel_byte-from.ensures, c.requires.0.small)

pub is_apart-requires : goal.is_apart-requires
is_apart-requires c = let h = (destination_within (row_pixel c.requires.0 {x = c.args.i} (omega (arith, c.requires.1)) refl)).bytes_in in (
  c.requires.1,
  omega (arith, c.requires.0.columns, c.requires.0.fit.destination_fit.ranged.wide_most),
  omega (arith, row_most c.requires.0),
  omega (arith, c.pixel_byte-to.ensures, c.requires.0.small),
  omega (arith, (bits_within c.requires.0 c.requires.1 refl c.requires.3).bit_in, c.pixel_byte-from.ensures, c.requires.0.small),
  omega arith,
)

pub by_windows-requires : goal.by_windows-requires
by_windows-requires c = record {
  row = c.requires.0;
  some = c.requires.1;
  source = c.args.s;
  inked = c.inks_of-inks.ensures;
  begins = c.pixel_byte-to.ensures;
  byte_is = omega (arith, c.pixel_byte-from.ensures);
  shift_is = refl;
  apart = c.is_apart.ensures c.if-is_apart.true;
}
