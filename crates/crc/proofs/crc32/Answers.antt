use mathlib.Core.List.{[]}
use mathlib.Core.Path.{◌≡◌, sym, ap, ◌∙◌}
use native.Mathlib.Numerals.{add-one}
use Prim.Native.Nat.{ℕ, ◌<◌}
use lib.Bits.{bit_xor}
use lib.Seq.{drop-cons, drop-length}
use native.Mathlib.Omega.{arith}
use lib.ListN.{length, drop}
use Rattle.crc.specs.Crc.{crc_over, crc32}
use Rattle.crc.proofs.crc32.Goals as goal

pub loop-byte-preserved : goal.loop-byte-preserved
unfolding crc_over
loop-byte-preserved c = let l = c.loop-byte in
    let h : l.byte-index < length c.args.bytes.now = omega arith in
    rw (c.crc_byte-c.ensures, add-one) (sym (ap (crc_over l.c) (drop-cons _ _ 0 h)) ∙ l.invariant)

pub returns : goal.returns
unfolding crc_over crc32
returns c = let l = c.loop-byte in
    let e : l.byte-index ≡ length c.args.bytes.now = omega arith in
    let d : drop l.byte-index c.args.bytes.now ≡ [] = rw e (drop-length c.args.bytes.now) in
    ap (λ (x : ℕ). bit_xor x 0xFFFFFFFF) (sym (ap (crc_over l.c) d) ∙ l.invariant)
