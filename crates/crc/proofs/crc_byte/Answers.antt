use Rattle.crc.specs.Crc.{crc_byte}
use Rattle.crc.proofs.crc_byte.Goals as goal

pub returns : goal.returns
unfolding crc_byte
returns c = cc
