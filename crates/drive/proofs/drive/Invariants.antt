use Rattle.std.proofs.Common.{◌≡◌, ◌*◌, ◌-◌, ◌≤◌, length}
use Rattle.model.specs.Perform.{performs, lent}
use Rattle.drive.specs.Calls.{configuration}
use Rattle.drive.specs.Numbers.{calls_of}
use Rattle.drive.proofs.drive.Given as goal

abbrev pub invariant-loop-i : goal.invariant-loop-i
invariant-loop-i l = record {
  small : l.driven.sum ≤ 4294967295 * l.i;
  onward : performs (lent l.ring (calls_of l.kinds l.positions l.budgets (length l.kinds) 0)) (configuration l.initial.driven l.initial.frame)
      ≡ performs (lent l.ring (calls_of l.kinds l.positions l.budgets (length l.kinds - l.i) l.i)) (configuration l.driven l.frame);
}
