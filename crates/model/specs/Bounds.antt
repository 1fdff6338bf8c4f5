-- Where pixels lie. "Positions are signed whole numbers, never reduced": a position is kept as two natural numbers, what is
-- added to the offset and what is taken away from it.
use Rattle.std.specs.Prelude.{ℕ, zero, suc, ◌+◌, ◌-◌, Bool, false, ◌||◌, if◌then◌else◌, Option, Some, None}
use Rattle.model.specs.Choice.{◌<?◌, ◌≤?◌}
use Rattle.model.specs.declared.Extent.{Extent}

-- "further, or back if .. is negative": what n bytes along an axis add, and what they take away
abbrev pub added : Bool → ℕ → ℕ
added negative n = if negative then 0 else n

abbrev pub taken : Bool → ℕ → ℕ
taken negative n = if negative then n else 0

-- the byte plus - minus lies outside a frame memory of so many bytes: below 0, or not below its length
unfoldable pub byte_outside : ℕ → ℕ → ℕ → Bool
byte_outside framelength plus minus = plus <? minus || framelength + minus ≤? plus

-- some number below n has the property
unfoldable pub some : ℕ → (ℕ → Bool) → Bool
some zero has = false
some (suc n) has = some n has || has n

-- "some byte of some .. pixel lies outside frame memory": of `count` pixels of `depth` bytes, pixel k lying at
-- offset + plus k - minus k
unfoldable pub outside : (framelength depth count offset : ℕ) → (plus minus : ℕ → ℕ) → Bool
outside framelength depth count offset plus minus =
    some count (λ k. some depth (λ i. byte_outside framelength (offset + plus k + i) (minus k)))

-- the first byte of a pixel that lies in frame memory
abbrev pub first_byte : ℕ → ℕ → ℕ → ℕ
first_byte offset plus minus = offset + plus - minus

-- the least and the greatest of f 0 to f n
unfoldable pub least : ℕ → (ℕ → ℕ) → ℕ
least zero f = f 0
least (suc n) f = if f (suc n) <? least n f then f (suc n) else least n f

unfoldable pub greatest : ℕ → (ℕ → ℕ) → ℕ
greatest zero f = f 0
greatest (suc n) f = if greatest n f <? f (suc n) then f (suc n) else greatest n f

-- from the lowest byte to the highest
abbrev pub inside : (low high : ℕ) → Option Extent
inside low high = Some (record { low = low; high = high })

-- where the same pixels lie: the lowest and the highest of their bytes, the last byte of a pixel included, or outside
unfoldable pub extent : (framelength depth count offset : ℕ) → (plus minus : ℕ → ℕ) → Option Extent
extent framelength depth count offset plus minus =
    if outside framelength depth count offset plus minus then None
    else inside (least (count - 1) (λ k. first_byte offset (plus k) (minus k)))
    (greatest (count - 1) (λ k. first_byte offset (plus k) (minus k)) + (depth - 1))
