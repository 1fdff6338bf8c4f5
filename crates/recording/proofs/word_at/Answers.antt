use Rattle.recording.specs.Recording.{file_word}
use Rattle.recording.proofs.word_at.Goals as goal

pub returns : goal.returns
unfolding file_word
returns c = c.load.ensures
