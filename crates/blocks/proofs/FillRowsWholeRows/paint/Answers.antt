use Rattle.laws.specs.Plain.{fill_changes}
use Rattle.blocks.proofs.Parts.{some, asked_next, low_next}
use Rattle.blocks.proofs.FillRowsWholeRows.paint.Goals as goal

pub fill_at-requires : goal.fill_at-requires
fill_at-requires c =
    rw c.width.ensures
    (c.requires.row, some c.requires.row, fill_changes c.args.self.now.blt c.args.self.now.plain c.args.self.now.solid _ _ _ c.args.self.now.code, c.requires.begun)

pub next-requires : goal.next-requires
next-requires c = asked_next c.requires.row c.requires.begun

pub returns-clause-next : goal.returns-clause-next
returns-clause-next c = λ after. low_next c.requires.row after c.requires.begun c.next.ensures
