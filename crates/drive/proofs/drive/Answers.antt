use Rattle.std.proofs.Common.{◌≡◌, ℕ, suc, ◌+◌, ◌-◌, ◌<◌, List, length, get_or, sym, refl, ap, ◌∙◌, arith}
use Rattle.model.specs.Course.{Configuration}
use Rattle.model.specs.Perform.{perform, performs, lent}
use Rattle.drive.specs.Numbers.{numbered_call, calls_of}
use Rattle.drive.specs.Demanded.{demanded}
use Rattle.drive.proofs.drive.Goals as goal

-- what is left of the calls begins with call i
next : (ring kinds positions budgets : List ℕ) (i : ℕ) → i < length kinds → (y : Configuration)
    → performs (lent ring (calls_of kinds positions budgets (length kinds - i) i)) y
    ≡ performs (lent ring (calls_of kinds positions budgets (length kinds - (i + 1)) (i + 1)))
    (perform (record { ring = ring; call = numbered_call (get_or kinds i 0) (get_or positions i 0) (get_or budgets i 0) }) y)
unfolding calls_of
next ring kinds positions budgets i l y =
    let e : length kinds - i ≡ suc (length kinds - (i + 1)) = omega arith in
    rw e refl

pub loop-i-preserved : goal.loop-i-preserved
loop-i-preserved c = record {
  small = omega (arith, c.loop-i.invariant.small, c.perform.ensures.counted);
  onward = c.loop-i.invariant.onward
      ∙ next c.args.ring.now c.args.kinds.now c.args.positions.now c.args.budgets.now c.loop-i.i (omega arith) _
      ∙ ap (performs (lent c.args.ring.now (calls_of c.args.kinds.now c.args.positions.now c.args.budgets.now (length c.args.kinds.now - (c.loop-i.i + 1)) (c.loop-i.i + 1))))
      (sym (rw c.numbered_call.ensures at c.perform.ensures.performed));
}

pub returns : goal.returns
unfolding calls_of
returns c = let e : length c.args.kinds.now - c.loop-i.i ≡ 0 = omega (arith, c.loop-i-test.false) in
    demanded _ _ _ _ _ (rw e at c.loop-i.invariant.onward)
