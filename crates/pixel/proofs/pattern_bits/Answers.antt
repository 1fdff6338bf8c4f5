use Rattle.laws.specs.Patterns.{turned}
use mathlib.Core.Path.{refl}
use Rattle.pixel.proofs.pattern_bits.Goals as goal

pub returns : goal.returns
returns c = turned _ _ _ _ c.requires.0 c.requires.1 c.pattern_word-word.ensures refl
