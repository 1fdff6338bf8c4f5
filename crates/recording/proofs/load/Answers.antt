use Rattle.recording.proofs.Files.{taken, ring_in}
use Rattle.recording.proofs.load.Goals as goal

pub slice_bounds-read_words-end : goal.slice_bounds-read_words-end
slice_bounds-read_words-end c = let t = taken _ _ c.in_ok-head.ensures in (ring_in _ _ t.0 t.1 c.args.ring.now c.requires).0
