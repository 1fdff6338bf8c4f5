use Rattle.laws.specs.Moves.{laid_one, laid_through, laid_moved}
use Rattle.moves.proofs.move_bytes.Goals as goal

pub returns : goal.returns
returns c = laid_one (laid_through c.lay.ensures c.lay-2.ensures) (laid_moved _ _ _ _ c.requires.source_in c.requires.row_in)
