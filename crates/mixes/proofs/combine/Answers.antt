use Prim.Native.Nat.{◌+◌, ◌-◌}
use mathlib.Core.Path.{◌≡◌, ap, ◌∙◌}
use native.Mathlib.Omega.{arith}
use lib.ListN.{length}
use Rattle.model.specs.BltPixel.{draw_at}
use Rattle.laws.specs.Order.{order_add}
use Rattle.laws.specs.Rows.{row_within, length_row}
use Rattle.mixes.proofs.combine.Goals as goal

pub pieces-m-requires : goal.pieces-m-requires
pieces-m-requires c = (c.requires.0, c.requires.1, record { color = c.args.color; solid = c.requires.2; source = c.requires.3; code_is = c.prepare-op.ensures.code; pattern_is = c.prepare-op.ensures.pattern ∙ c.repeat.ensures })

pub in_order-requires : goal.in_order-requires
in_order-requires c = (row_within c.requires.0 (omega (arith, c.pieces-m.ensures.0)) (ap length c.pieces-m.ensures.1 ∙ length_row _ _ _ _ _), omega (arith, c.if-m-n.true), record { color = c.args.color; solid = c.requires.2; source = c.requires.3; code_is = c.prepare-op.ensures.code; pattern_is = c.prepare-op.ensures.pattern ∙ c.repeat.ensures })

pub returns-else-m-n : goal.returns-else-m-n
returns-else-m-n c = let e : c.pieces-m.result ≡ c.args.n = omega (arith, c.pieces-m.ensures.0, c.if-m-n.false) in rw e at c.pieces-m.ensures.1

pub returns-then-m-n : goal.returns-then-m-n
returns-then-m-n c = let e : c.pieces-m.result + (c.args.n - c.pieces-m.result) ≡ c.args.n = omega (arith, c.pieces-m.ensures.0) in
    c.in_order.ensures
    ∙ rw c.pieces-m.ensures.1 (rw e at (order_add (λ x. draw_at c.args.b x c.args.j) c.pieces-m.result c.args.i (c.args.n - c.pieces-m.result) c.args.f.now))
