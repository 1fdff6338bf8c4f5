use Rattle.std.proofs.Common.{sym, ◌∙◌}
use Rattle.laws.specs.Ranges.{ranged_destination, ranged_source}
use Rattle.judging.proofs.check_blt.Goals as goal

pub extent-requires : goal.extent-requires
extent-requires c = let format = sym c.bad_format.ensures ∙ c.if-bad_format.false in
    let empty = sym c.no_area.ensures ∙ c.if-no_area.false in
    rw c.destination_of.ensures (ranged_destination _ format empty)

pub source_outside-requires : goal.source_outside-requires
source_outside-requires c = let format = sym c.bad_format.ensures ∙ c.if-bad_format.false in
    let empty = sym c.no_area.ensures ∙ c.if-no_area.false in
    rw c.source_of.ensures (ranged_source _ format empty)
