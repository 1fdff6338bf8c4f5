use mathlib.Core.List.{[]}
use mathlib.Core.Path.{◌≡◌, refl}
use Prim.Native.Nat.{◌+◌}
use native.Mathlib.Omega.{arith}
use Rattle.laws.specs.Lows.{destination_span, low_asked, bytes_in}
use Rattle.laws.specs.Moves.{row_most}
use Rattle.laws.specs.Pictures.{host_copied}
use Rattle.host.proofs.HostCopyRowsRowPainter.paint.Goals as goal

pub overflow_sub-at : goal.overflow_sub-at
overflow_sub-at c =
    let z : c.args.i + 0 ≡ c.args.i = omega arith in
    let held = rw z at (c.requires.asked 0 c.requires.some) in
    omega (arith, c.byte_of-at.ensures.0, held.begun)

pub ahead-place-requires : goal.ahead-place-requires
ahead-place-requires c =
    let z : c.args.i + 0 ≡ c.args.i = omega arith in
    let held = rw z at (c.requires.asked 0 c.requires.some) in
    (omega (arith, c.args.self.now.rows.now.within), omega (arith, c.byte_of-at.ensures.0, held.begun, held.ended))

pub overflow_mul-bytes : goal.overflow_mul-bytes
overflow_mul-bytes c = omega (arith, row_most c.requires.row)

pub overflow_add-from-2 : goal.overflow_add-from-2
overflow_add-from-2 c = omega (arith, row_most c.requires.row, c.ahead-place.ensures.1)

pub low_byte-requires : goal.low_byte-requires
low_byte-requires c = low_asked (destination_span c.requires.row c.requires.some)

pub lay-requires : goal.lay-requires
lay-requires c = (omega arith, bytes_in (destination_span c.requires.row c.requires.some) c.low_byte.ensures)

pub returns-then-from-bytes : goal.returns-then-from-bytes
returns-then-from-bytes c =
    let rows = c.args.self.now.rows.now in
    let copied = c.args.self.now.copied in
    let row = c.requires.row in
    let at = c.byte_of-at.ensures.0 in
    let z : c.args.i + 0 ≡ c.args.i = omega arith in
    let held = rw z at (c.requires.asked 0 c.requires.some) in
    rw copied.color
    (host_copied row c.requires.some copied.up copied.code copied.full (rows.ranged.colored copied.color)
    (λ x l. rows.ranged.inside copied.color (c.args.i + x) c.args.j (omega (arith, row.columns)) row.row)
    rows.ring.now rows.read held.begun c.low_byte.ensures (rw at at c.ahead-place.ensures.0) (rw at) (omega (arith, at)) [] rows.picture.bits _ refl c.lay.ensures)
