use Rattle.std.proofs.Common.{sym, ◌∙◌}
use Rattle.bench.specs.Lists.{drove_none, drove}
use Rattle.bench.proofs.bench_drive.Goals as goal

pub returns-then-is_list : goal.returns-then-is_list
returns-then-is_list c = drove _ _ _ _ _ c.setup.result c.setup.ensures (sym c.is_list.ensures ∙ c.if-is_list.true) _ c.drive-end.ensures

pub returns-else-is_list : goal.returns-else-is_list
returns-else-is_list c = drove_none _ _ _ _ _ c.setup.result c.setup.ensures (sym c.is_list.ensures ∙ c.if-is_list.false)
