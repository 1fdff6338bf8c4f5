use Rattle.std.proofs.Common.{◌<◌, sym, add-one, arith, length}
use lib.Seq.{take-suc-set}
use Rattle.recording.specs.Recording.{file_words_more}
use Rattle.recording.proofs.read_words.Goals as goal

pub loop-i-preserved : goal.loop-i-preserved
loop-i-preserved c =
    let l = c.loop-i in
    let h : l.i < length l.ring = omega arith in
    rw (add-one l.i, take-suc-set l.ring l.i c.word_at.result h, l.invariant, c.word_at.ensures) (sym (file_words_more c.args.file.now l.i 4))
