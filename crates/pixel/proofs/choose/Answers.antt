use Rattle.laws.specs.Whole.{choose_whole}
use borrow.Author.Rules.{rules}
use Rattle.pixel.proofs.choose.Goals as goal

pub returns : goal.returns
returns c = choose_whole 32 c.args.x c.args.y c.args.by (search rules) (search rules)
