use Rattle.command.specs.Look.{ready_at}
use Rattle.std.proofs.Common.{◌∙◌}
use Rattle.units.proofs.is_ready.Goals as goal

pub returns : goal.returns
returns c = rw (c.count_word.ensures, c.kind_of.ensures, c.is_wanting.ensures) at c.is_ready.ensures ∙ ready_at c.args.ring.now c.args.c c.args.write
