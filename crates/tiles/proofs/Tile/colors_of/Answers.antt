use Prim.Native.Nat.{ℕ, ◌+◌, ◌%◌}
use mathlib.Core.List.{[]}
use lib.ListN.{get_or}
use Rattle.laws.specs.Tiles.{upto_at}
use Rattle.tiles.proofs.Tile.colors_of.Goals as goal

pub returns : goal.returns
returns c = record {
  comes = λ x l.
      rw (c.turned.ensures, ← c.low_column-low.ensures.0, ← c.pattern_index-y.ensures.0, ← c.pattern_index-x.ensures.0)
      (upto_at {A = ℕ} (λ x. get_or (get_or c.args.self.now.colors c.pattern_index-y.result []) ((c.pattern_index-x.result + x) % 8) 0) 8 x 0 l);
}
