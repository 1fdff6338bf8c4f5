use mathlib.Core.Path.{◌≡◌}
use lib.ListN.{drop}
use Rattle.crc.specs.Crc.{crc_over}
use Rattle.crc.proofs.crc32.Given as goal

abbrev pub invariant-loop-byte : goal.invariant-loop-byte
invariant-loop-byte l = crc_over l.c (drop l.byte-index l.bytes) ≡ crc_over 0xFFFFFFFF l.bytes
