use lib.ListN.{get_or}
use mathlib.Core.Path.{◌≡◌}
use native.Mathlib.Omega.{arith}
use Prim.Native.Nat.{◌+◌, ◌*◌, ◌/◌}
use Rattle.model.specs.Pixel.{read_pixel}
use Rattle.laws.specs.Pictures.{word_bytes, word_bytes_lem}
use Rattle.laws.specs.Moves.{laid_none, laid_up, laid_pixel}
use Rattle.host.proofs.Parts.{read_whole}
use Rattle.host.proofs.lay_fours.Goals as goal

pub loop-i-init : goal.loop-i-init
loop-i-init c = laid_none (omega arith)

pub store-requires : goal.store-requires
store-requires c = omega (arith, c.loop-i.invariant.same)

pub loop-i-preserved : goal.loop-i-preserved
loop-i-preserved c = let ring = c.args.ring.now in
    let q = (c.args.from + c.args.a) / 4 + c.loop-i.i in
    let aligned = c.requires.0 (omega arith) in
    let v : get_or ring q 0 ≡ read_pixel 4 (word_bytes ring) (c.args.from + c.args.a + 4 * c.loop-i.i) =
    read_whole ring q (c.args.from + c.args.a + 4 * c.loop-i.i) (omega (arith, c.shared_slice_known-in-loop-i-1.given q)) (omega arith) in
    rw (c.store.ensures, v) (laid_up (omega arith) (omega arith) c.loop-i.invariant (laid_pixel (word_bytes_lem ring) 4 (omega arith) (omega arith) (omega arith) (omega (arith, c.loop-i.invariant.same))))
