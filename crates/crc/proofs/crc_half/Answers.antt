use Rattle.crc.proofs.crc_half.Goals as goal

pub returns : goal.returns
returns c = cc
