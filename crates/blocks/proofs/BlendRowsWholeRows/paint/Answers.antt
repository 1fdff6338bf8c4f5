use Rattle.laws.specs.Plain.{blend_changes}
use Rattle.blocks.proofs.Parts.{some, asked_next, low_next}
use Rattle.blocks.proofs.BlendRowsWholeRows.paint.Goals as goal

pub blend_at-requires : goal.blend_at-requires
blend_at-requires c =
    rw c.width.ensures (
      c.requires.row,
      some c.requires.row,
      blend_changes c.args.self.now.blt c.args.self.now.plain c.args.self.now.solid _ _ _ c.requires.row.fit.destination_fit.ranged.deep
          c.requires.begun.1 c.requires.begun.2,
      c.requires.begun.0,
    )

pub next-requires : goal.next-requires
next-requires c = asked_next c.requires.row c.requires.begun.0

pub returns-clause-next : goal.returns-clause-next
returns-clause-next c = λ after. (low_next c.requires.row after c.requires.begun.0 c.next.ensures, c.requires.begun.1, c.requires.begun.2)
