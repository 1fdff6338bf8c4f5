use Rattle.blocks.proofs.Parts.{some, asked_next, asked_next_source, copy_next}
use Rattle.blocks.proofs.CopyRowsWholeRows.paint.Goals as goal

pub copy_at-requires : goal.copy_at-requires
copy_at-requires c =
    let rows = c.args.self.now in
    rw c.width.ensures
    (c.requires.row, some c.requires.row, rows.framed, rows.code, rows.full, c.requires.begun.0, c.requires.begun.1, c.requires.begun.3)

pub next-requires : goal.next-requires
next-requires c = asked_next_source c.requires.row c.args.self.now.framed c.requires.begun.0

pub next-requires-2 : goal.next-requires-2
next-requires-2 c = asked_next c.requires.row c.requires.begun.1

pub returns-clause-next : goal.returns-clause-next
returns-clause-next c = λ after.
    copy_next c.requires.row after c.requires.begun.1 c.next-2.ensures c.args.self.now.framed c.requires.begun.2 c.requires.begun.0 c.next.ensures c.requires.begun.3
