use Rattle.std.proofs.Common.{ℕ, Bool, true, false, ◌-◌, ◌≡◌, ◌+◌, ◌*◌, ◌/◌, ◌≤◌, ◌<◌, length, rules, sym, ap, ◌∙◌, ⊎_elim, arith, mul-le-mul_right, div-mul-le_self}
use Rattle.std.proofs.Math.Nat.{mul_comm, mul-sub}
use Rattle.model.specs.Formats.{Depth}
use Rattle.model.specs.BltPixel.{draw_at}
use Rattle.laws.specs.Numbers.{less_or_not}
use Rattle.laws.specs.Pixels.{depth_least}
use Rattle.laws.specs.Order.{order_zero, order_add}
use Rattle.laws.specs.Rows.{Row, length_row}
use Rattle.laws.specs.Lows.{low_byte, low_place, destination_span, source_span, low_asked}
use Rattle.laws.specs.Moves.{copy_bytes}
use Rattle.laws.specs.Mixes.{Ready, piece_in, piece_drawn}
use Rattle.model.specs.declared.Blt.{Blt}
use Rattle.model.specs.declared.Rectangle.{Rectangle}
use Rattle.mixes.proofs.pieces.Goals as goal

-- as many pieces as the bytes of n pixels hold have no more pixels
pieces_fit : {depth : ℕ} → Depth depth → (p c n : ℕ) → c * depth ≡ 16 → p * 16 ≤ n * depth → p * c ≤ n
pieces_fit {depth} deep p c n whole l =
    ⊎_elim
    (λ h.
    let e : p * (c * depth) ≡ p * 16 = ap (λ (x : ℕ). p * x) whole in
    absurd (omega (arith, e, mul-le-mul_right depth h, depth_least deep)))
    (λ h. h)
    (less_or_not n (p * c))

next_fits : {depth : ℕ} → Depth depth → (k c n : ℕ) → c * depth ≡ 16 → k < n * depth / 16 → k * c + c ≤ n
next_fits {depth} deep k c n whole l = omega (arith, pieces_fit deep (k + 1) c n whole (omega arith))

-- places counted in bytes are those counted in pixels
place_is : (depth : ℕ) (negative : Bool) (n k c : ℕ) → low_place negative (n * depth) (c * depth * k) (c * depth) ≡ low_place negative n (k * c) c * depth
place_is depth true n k c =
    let a : c * depth * k ≡ depth * (k * c) = omega arith in
    let b : c * depth ≡ depth * c = omega arith in
    let e : (n - k * c - c) * depth ≡ depth * n - depth * (k * c) - depth * c =
    mul_comm (n - k * c - c) depth ∙ mul-sub depth (n - k * c) c ∙ ap (λ (x : ℕ). x - depth * c) (mul-sub depth n (k * c)) in
    omega (arith, a, b, e)
place_is depth false n k c = omega arith

-- where piece k of them lies
piece_there : {size : ℕ} {b : Blt} {i j n : ℕ} (r : Row size b i j n) → 0 < n → {s : Rectangle} {code pattern : ℕ} → Ready b s code pattern
    → {from to : ℕ} → from ≡ low_byte s i j n → to ≡ low_byte b.destination i j n → (k c : ℕ) → 0 < c → c * b.destination.depth ≡ 16
    → k < n * b.destination.depth / 16 → {x : ℕ} → x ≡ low_place b.destination.columns.negative n (k * c) c * b.destination.depth
    → (from + x + 16 ≤ size) × (to + x + 16 ≤ size)
piece_there {n = n} r some y f t k c z whole l =
    piece_in r some y f t (k * c) c z (next_fits r.fit.destination_fit.ranged.deep k c n whole l) whole

pub low_byte-from-requires : goal.low_byte-from-requires
low_byte-from-requires c = low_asked (source_span c.requires.0 c.requires.1 c.requires.2.source)

pub low_byte-to-requires : goal.low_byte-to-requires
low_byte-to-requires c = low_asked (destination_span c.requires.0 c.requires.1)

pub is_clear-requires : goal.is_clear-requires
is_clear-requires c =
    omega (arith, copy_bytes c.requires.0 c.requires.1 c.requires.2.source c.low_byte-from.ensures c.low_byte-to.ensures, c.requires.0.small)

pub returns-then-size-lt16 : goal.returns-then-size-lt16
returns-then-size-lt16 c = (omega arith, sym (order_zero _ _ _))

pub returns-then-not-is_clear : goal.returns-then-not-is_clear
returns-then-not-is_clear c = (omega arith, sym (order_zero _ _ _))

pub loop-k-init : goal.loop-k-init
loop-k-init c = let z : 0 * c.piece_of-c.result ≡ 0 = omega arith in (search rules, rw z (sym (order_zero _ _ _)))

pub offset-x-requires : goal.offset-x-requires
offset-x-requires c = omega (arith, ap (λ (x : ℕ). x * c.loop-k.k + x) c.piece_of-c.ensures.whole, c.loop-k-test.true)

pub overflow_add-from : goal.overflow_add-from
overflow_add-from c =
    omega (arith, piece_there c.requires.0 c.requires.1 c.requires.2 c.low_byte-from.ensures c.low_byte-to.ensures c.loop-k.k c.piece_of-c.result c.piece_of-c.ensures.some c.piece_of-c.ensures.whole c.loop-k-test.true (c.offset-x.ensures ∙ place_is c.args.b.destination.depth c.args.b.destination.columns.negative c.args.n c.loop-k.k c.piece_of-c.result), c.requires.0.small)

pub overflow_add-to : goal.overflow_add-to
overflow_add-to c =
    omega (arith, piece_there c.requires.0 c.requires.1 c.requires.2 c.low_byte-from.ensures c.low_byte-to.ensures c.loop-k.k c.piece_of-c.result c.piece_of-c.ensures.some c.piece_of-c.ensures.whole c.loop-k-test.true (c.offset-x.ensures ∙ place_is c.args.b.destination.depth c.args.b.destination.columns.negative c.args.n c.loop-k.k c.piece_of-c.result), c.requires.0.small)

pub piece-requires : goal.piece-requires
piece-requires c =
    let w = piece_there c.requires.0 c.requires.1 c.requires.2 c.low_byte-from.ensures c.low_byte-to.ensures c.loop-k.k c.piece_of-c.result c.piece_of-c.ensures.some c.piece_of-c.ensures.whole c.loop-k-test.true (c.offset-x.ensures ∙ place_is c.args.b.destination.depth c.args.b.destination.columns.negative c.args.n c.loop-k.k c.piece_of-c.result) in
    let l : length c.loop-k.f ≡ length c.args.f.now = ap length c.loop-k.invariant.1 ∙ length_row _ _ _ _ _ in
    (omega arith, omega arith)

pub loop-k-preserved : goal.loop-k-preserved
loop-k-preserved c =
    let e : (c.loop-k.k + 1) * c.piece_of-c.result ≡ c.loop-k.k * c.piece_of-c.result + c.piece_of-c.result = omega arith in (
      search rules,
      rw e
          (c.piece.ensures
          ∙ piece_drawn c.requires.0 c.requires.1 c.requires.2 c.low_byte-from.ensures c.low_byte-to.ensures (c.loop-k.k * c.piece_of-c.result) c.piece_of-c.result c.piece_of-c.ensures.some (next_fits c.requires.0.fit.destination_fit.ranged.deep _ _ _ c.piece_of-c.ensures.whole c.loop-k-test.true) c.piece_of-c.ensures.whole (c.offset-x.ensures ∙ place_is c.args.b.destination.depth c.args.b.destination.columns.negative c.args.n c.loop-k.k c.piece_of-c.result) (c.is_clear.ensures c.if-not-is_clear.false) _ c.loop-k.invariant.0
          ∙ rw c.loop-k.invariant.1 (order_add (λ x. draw_at c.args.b x c.args.j) (c.loop-k.k * c.piece_of-c.result) c.args.i c.piece_of-c.result c.args.f.now)),
    )

pub returns : goal.returns
returns c =
    let e : c.loop-k.k ≡ c.args.n * c.args.b.destination.depth / 16 = omega (arith, c.loop-k.auto.k-end, c.loop-k-test.false) in (
      pieces_fit c.requires.0.fit.destination_fit.ranged.deep _ _ _ c.piece_of-c.ensures.whole (div-mul-le_self _ 16),
      rw e at c.loop-k.invariant.1,
    )
