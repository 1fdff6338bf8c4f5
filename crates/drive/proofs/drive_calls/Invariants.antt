use Rattle.std.proofs.Common.{◌≡◌, ◌*◌, ◌≤◌, drop, map}
use Rattle.model.specs.Perform.{performs, lent}
use Rattle.drive.specs.Calls.{call_of, configuration}
use Rattle.drive.proofs.drive_calls.Given as goal

abbrev pub invariant-loop-call : goal.invariant-loop-call
invariant-loop-call l = record {
  small : l.driven.sum ≤ 4294967295 * l.call-index;
  onward : performs (lent l.ring (map call_of l.calls)) (configuration l.initial.driven l.initial.frame)
      ≡ performs (lent l.ring (map call_of (drop l.call-index l.calls))) (configuration l.driven l.frame);
}
