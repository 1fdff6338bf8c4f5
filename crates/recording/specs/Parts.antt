-- Parts of a buffer from its start.
use Rattle.std.specs.Prelude.{ℕ, ◌+◌, ◌-◌, ◌≤◌, ◌≡◌, List, length, take, replicate}
use Rattle.std.proofs.Common.{sym, ap, ◌∙◌, arith, length-take, take_at}
use Rattle.std.proofs.lemmas.List.{length-replicate, replicate-append-replicate}

-- a part from the start has the length that it is given
pub part_length : (n : ℕ) (xs : List ℕ) → n ≤ length xs → n ≡ length (take n xs)
part_length n xs h = omega (arith, length-take n xs)

-- the start of zeros
pub take_zeros : (n m : ℕ) → n ≤ m → take {A = ℕ} n (replicate m 0) ≡ replicate n 0
take_zeros n m h =
    let e : m ≡ n + (m - n) = omega arith in
    ap (λ (k : ℕ). take {A = ℕ} n (replicate k 0)) e ∙ ap (take n) (sym (replicate-append-replicate n (m - n) 0))
    ∙ take_at (replicate n 0) (replicate (m - n) 0) n (length-replicate n 0)
