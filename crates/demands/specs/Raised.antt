-- A screen among others: BLTs and vectors that lie m bytes higher do in a memory with m bytes before a screen, and some after it, what they
-- do on the screen alone.
use Prim.Native.Nat.{ℕ, ◌+◌}
use Rattle.std.specs.Prelude.{List, ◌++◌}
use Rattle.model.specs.declared.Blt.{Blt as BltRecord}
use Rattle.model.specs.declared.MonoSource.{MonoSource}
use Rattle.model.specs.declared.Rectangle.{Rectangle}
use Rattle.model.specs.declared.Source.{Source}
use Rattle.model.specs.declared.Source.TheVariants.{Unselected, Frame, Bits}
use Rattle.model.specs.declared.Vector.{Vector as VectorRecord}

-- ---- the bytes of a screen among others

module _ (before after : List ℕ) where
  abbrev pub around : List ℕ → List ℕ
  around screen = before ++ (screen ++ after)

-- ---- BLTs m bytes higher

abbrev pub raised : ℕ → Rectangle → Rectangle
raised m r = record { offset = m + r.offset; depth = r.depth; columns = r.columns; rows = r.rows }

abbrev pub raised_bits : ℕ → MonoSource → MonoSource
raised_bits m s = record {
  bytes = raised m s.bytes;
  skip = s.skip;
  foreground = s.foreground;
  background = s.background;
  inversion = s.inversion;
  transparent = s.transparent;
}

abbrev pub raised_source : ℕ → Source → Source
raised_source m (Unselected color) = Unselected color
raised_source m (Frame r) = Frame (raised m r)
raised_source m (Bits s) = Bits (raised_bits m s)

abbrev pub raised_blt : ℕ → BltRecord → BltRecord
raised_blt m b = record {
  destination = raised m b.destination;
  source = raised_source m b.source;
  pattern = b.pattern;
  code = b.code;
}

-- ---- vectors m bytes higher

abbrev pub raised_vector : ℕ → VectorRecord → VectorRecord
raised_vector m v = record {
  depth = v.depth;
  length = v.length;
  offset = m + v.offset;
  stride = v.stride;
  axial = v.axial;
  diagonal = v.diagonal;
  initial = v.initial;
  ymajor = v.ymajor;
  majorpositive = v.majorpositive;
  minorpositive = v.minorpositive;
  code = v.code;
  foreground = v.foreground;
  color = v.color;
}
