use mathlib.Core.Path.{refl}
use native.Mathlib.Omega.{arith}
use Rattle.laws.specs.Lows.{destination_span, bytes_in}
use Rattle.laws.specs.Changes.{changes_part}
use Rattle.rows.proofs.fill_at.Goals as goal

pub overflow_add-a : goal.overflow_add-a
overflow_add-a c = omega (arith, bytes_in (destination_span c.requires.0 c.requires.1) c.requires.3, c.requires.0.small)

pub slice_bounds-fill-end : goal.slice_bounds-fill-end
slice_bounds-fill-end c = bytes_in (destination_span c.requires.0 c.requires.1) c.requires.3

pub returns : goal.returns
returns c = changes_part c.requires.0 c.requires.1 c.requires.2 c.requires.3 _ refl (λ i. (c.slice_known-1.given i).fits) c.fill.ensures
