use Rattle.model.specs.Formats.{Depth}
use Rattle.laws.specs.Mixes.{mix_part}
use Rattle.mixes.proofs.piece.Goals as goal

pub returns : goal.returns
returns c = mix_part Depth.four c.args.op.code c.args.op.pattern 4 c.lay.ensures c.args.to c.requires.1 c.words.ensures
