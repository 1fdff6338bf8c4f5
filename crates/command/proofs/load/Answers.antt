use Prim.Native.Nat.{◌+◌, ◌≤◌}
use mathlib.Core.Path.{sym, ◌∙◌}
use native.Mathlib.Omega.{arith}
use lib.ListN.{length}
use Rattle.command.proofs.Loads.{plain_loaded, piece_words}
use Rattle.command.proofs.load.Goals as goal

pub returns-in-Blt : goal.returns-in-Blt
returns-in-Blt c = let a = c.args in
    let l : a.read + 17 ≤ length a.ring.now = omega arith in
    c.load_piece.ensures a.ring.now a.read (piece_words 16 a.ring.now a.read l) ∙ sym (plain_loaded a.ring.now a.read a.header a.registers c.requires.0)

pub returns-in-Vector : goal.returns-in-Vector
returns-in-Vector c = let a = c.args in
    let l : a.read + 14 ≤ length a.ring.now = omega arith in
    c.load_piece-in-Vector.ensures a.ring.now a.read (piece_words 13 a.ring.now a.read l)
    ∙ sym (plain_loaded a.ring.now a.read a.header a.registers c.requires.0)

pub returns-in_default : goal.returns-in_default
returns-in_default c = let a = c.args in c.load_each.ensures ∙ sym (plain_loaded a.ring.now a.read a.header a.registers c.requires.0)
