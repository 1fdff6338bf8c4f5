use Rattle.std.proofs.Common.{◌∙◌}
use Rattle.text.specs.Numerals.{fewest_decimal}
use Rattle.text.proofs.Text.put_decimal.Goals as goal

pub returns-clause-text : goal.returns-clause-text
returns-clause-text c =
    rw (c.decimal-k.ensures.digits ∙ fewest_decimal c.args.n c.decimal-k.result c.decimal-k.ensures.len) at c.put.ensures
