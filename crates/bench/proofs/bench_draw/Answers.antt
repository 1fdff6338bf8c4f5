use mathlib.Core.Path.{refl}
use Rattle.bench.proofs.bench_draw.Goals as goal

pub returns : goal.returns
returns c = record {
  told = rw (c.parts_of-parts.ensures, c.replay-a.ensures.answer) (record { units_are = refl; retired_is = refl; number_is = refl });
  frame_after = c.replay-a.ensures.frame;
}
