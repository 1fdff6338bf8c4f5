use Rattle.recording.proofs.Files.{frame_in}
use Rattle.recording.proofs.replay_text.Goals as goal

pub slice_bounds-play-end-in-Some : goal.slice_bounds-play-end-in-Some
slice_bounds-play-end-in-Some c = let l = c.in-Some.ensures in (frame_in _ _ l.fine l.head_is c.args.memory.now c.requires.room).0
