use Rattle.recording.proofs.Files.{frame_in, frame_is, frame_held}
use Rattle.recording.proofs.replay_frame.Goals as goal

pub slice_bounds-play-end-2 : goal.slice_bounds-play-end-2
slice_bounds-play-end-2 c = let l = c.in-Some.ensures in (frame_in _ _ l.fine l.head_is c.args.memory.now c.requires.room).0

pub returns : goal.returns
returns c = let l = c.in-Some.ensures in
    rw c.frame_size.ensures (frame_held _ _ _ _ l c.requires.room _ _ c.play.auto.frame (frame_is _ _ _ _ l c.requires.room _ c.play.ensures.frame))
