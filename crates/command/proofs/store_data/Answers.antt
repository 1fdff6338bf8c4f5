use Prim.Native.Nat.{suc, ◌+◌, ◌-◌}
use mathlib.Core.Path.{◌≡◌, sym, ◌∙◌}
use native.Mathlib.Omega.{arith}
use Rattle.command.proofs.Stores.{low_index, stored_next, stored_end}
use Rattle.command.proofs.store_data.Goals as goal

pub loop-i-init : goal.loop-i-init
loop-i-init c = let a = c.args in
    let e : 3 + a.count - 3 ≡ a.count = omega arith in
    (omega (arith, c.number-to.ensures.1), rw (c.number-to.ensures.0, e) (low_index a.ring.now a.read 3 a.count a.index a.table.now))

pub loop-i-preserved : goal.loop-i-preserved
loop-i-preserved c = let a = c.args in
    let l = c.loop-i in
    let n = 3 + a.count - (l.i + 1) in
    let s : 3 + a.count - l.i ≡ suc n = omega arith in
    (c.ahead-to.ensures.1, rw (c.ahead-to.ensures.0, c.word_at.ensures) (rw s at l.invariant.1 ∙ stored_next a.ring.now a.read l.i n l.to l.table l.invariant.0))

pub returns : goal.returns
returns c = let a = c.args in
    let l = c.loop-i in
    sym (l.invariant.1 ∙ stored_end a.ring.now a.read l.i (3 + a.count - l.i) l.to l.table (omega arith))
