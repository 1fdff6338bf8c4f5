use Rattle.std.proofs.Common.{ℕ, ◌∙◌, arith, length-append}
use Rattle.text.specs.Numerals.{fewest_hexadecimal}
use Rattle.text.proofs.Text.put_hexadecimal.Goals as goal

pub put-requires : goal.put-requires
put-requires c = omega (arith, c.hex-k.ensures.in_bounds, (fewest_hexadecimal c.args.n c.hex-k.result (omega arith) c.hex-k.ensures.len).0)

pub returns-clause-text : goal.returns-clause-text
returns-clause-text c =
    rw (c.hex-k.ensures.digits ∙ (fewest_hexadecimal c.args.n c.hex-k.result (omega arith) c.hex-k.ensures.len).1) at c.put.ensures

pub returns-clause-most : goal.returns-clause-most
returns-clause-most c =
    rw c.put.ensures (omega (arith, length-append {A = ℕ}, c.hex-k.ensures.in_bounds, (fewest_hexadecimal c.args.n c.hex-k.result (omega arith) c.hex-k.ensures.len).0))
