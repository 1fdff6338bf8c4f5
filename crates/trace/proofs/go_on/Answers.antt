use Rattle.tracing.specs.Trace.{lendable}
use Rattle.trace.proofs.go_on.Goals as goal

pub slice_bounds-records-end : goal.slice_bounds-records-end
slice_bounds-records-end g c =
    (lendable c.args.head.now c.args.s _ _ _ _ c.requires.more c.requires.state c.word_at-ringlength.ensures c.word_at-framelength.ensures c.ring_buffer-ring.ensures c.frame_buffer-frame.ensures).ring_in.1

pub slice_bounds-records-end-2 : goal.slice_bounds-records-end-2
slice_bounds-records-end-2 g c =
    (lendable c.args.head.now c.args.s _ _ _ _ c.requires.more c.requires.state c.word_at-ringlength.ensures c.word_at-framelength.ensures c.ring_buffer-ring.ensures c.frame_buffer-frame.ensures).frame_in.1

pub records-requires : goal.records-requires
records-requires g c =
    (lendable c.args.head.now c.args.s _ _ _ _ c.requires.more c.requires.state c.word_at-ringlength.ensures c.word_at-framelength.ensures c.ring_buffer-ring.ensures c.frame_buffer-frame.ensures).held_is
