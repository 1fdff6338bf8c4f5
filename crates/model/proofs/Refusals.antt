-- What is proved of specs/Refusals.
use Rattle.std.specs.Prelude.{ℕ, zero, suc, ◌<◌, ◌≡◌, refl, Bool, true, false, ◌↔◌, ◌⊎◌, List, [], ◌∷◌, ◌++◌, if◌then◌else◌}
use Rattle.std.proofs.Common.{sym, ap, subst, inl, inr, ⊎_elim, arith, ltb-true, lt-ltb, ne_eqb}
use Rattle.model.specs.Choice.{◌<?◌, ◌=?◌}
use Rattle.model.proofs.Choice.{not_both, both, neither, if_both}
use Rattle.model.specs.Refusals.{Rule, first, any, First, here, later, NoRule, Exactly, order, rising, Applies, this, other, Lowest, positive, Each, NoTest}

-- ---- laws

order_positive : (n : ℕ) → 0 < order n → 0 < n
order_positive zero l = l
order_positive (suc n) l = omega arith

pub rising_positive : (least : ℕ) (rules : List Rule) → rising least rules ≡ true → positive rules ≡ true
unfolding rising positive
rising_positive least [] e = refl
rising_positive least (rule ∷ rules) e =
    let h = both (least <? order rule.number) _ e in
    let l = order_positive rule.number (omega (arith, ltb-true least (order rule.number) h.0)) in
    rw (lt-ltb 0 rule.number l) (rising_positive (order rule.number) rules h.1)

-- a list from its head on, test by test
pub first_here : (rule : Rule) (rules : List Rule) → rule.applies ≡ true → rule.number ≡ first (rule ∷ rules)
unfolding first
first_here rule rules e = rw e

pub first_later : (rule : Rule) (rules : List Rule) {n : ℕ} → rule.applies ≡ false → n ≡ first rules → n ≡ first (rule ∷ rules)
unfolding first
first_later rule rules e p = rw e p

pub first_none : 0 ≡ first []
unfolding first
first_none = refl

-- the first rule that applies, or none
data Search (rules : List Rule) : Type 0 where
  none : NoRule rules → first rules ≡ 0 → Search rules
  found : First rules (first rules) → 0 < first rules → Search rules

search_rules : (rules : List Rule) → positive rules ≡ true → Search rules
unfolding first positive
search_rules [] e = none tt refl
search_rules (rule ∷ rules) e =
    let h = both (0 <? rule.number) _ e in
    go rule.applies refl (ltb-true 0 rule.number h.0) (search_rules rules h.1)
  where
    go : (b : Bool) → rule.applies ≡ b → 0 < rule.number → Search rules → Search (rule ∷ rules)
    go true p l s =
        let e : first (rule ∷ rules) ≡ rule.number = rw p in
        found (subst (First (rule ∷ rules)) (sym e) (here p)) (omega arith)
    go false p l (none n z) = none (p, n) (rw p z)
    go false p l (found f z) =
        let e : first (rule ∷ rules) ≡ first rules = rw p in
        found (subst (First (rule ∷ rules)) (sym e) (later p f)) (omega arith)

pub first_alone : {rules : List Rule} {m n : ℕ} → First rules m → First rules n → m ≡ n
first_alone (here p) (here q) = refl
first_alone (here p) (later q g) = absurd (not_both _ p q)
first_alone (later p f) (here q) = absurd (not_both _ q p)
first_alone (later p f) (later q g) = first_alone f g

first_some : {rules : List Rule} {n : ℕ} → First rules n → NoRule rules → ⊥
first_some (here p) h = not_both _ p h.0
first_some (later p f) h = first_some f h.1

pub exactly : (rules : List Rule) → positive rules ≡ true → Exactly rules (first rules)
exactly rules e = go (search_rules rules e)
  where
    go : Search rules → Exactly rules (first rules)
    go (none h z) = record {
      given = λ n l. ((λ p. absurd (omega arith)), (λ f. absurd (first_some f h)));
      not_given = ((λ p. h), (λ p. z));
    }
    go (found f l) = record {
      given = λ n k. ((λ p. subst (First rules) p f), (λ g. first_alone f g));
      not_given = ((λ p. absurd (omega arith)), (λ h. absurd (first_some f h)));
    }

first_applies : {rules : List Rule} {n : ℕ} → First rules n → Applies rules n
first_applies (here p) = this p
first_applies (later p f) = other (first_applies f)

rising_above : (least : ℕ) {rules : List Rule} {n : ℕ} → rising least rules ≡ true → Applies rules n → least < order n
unfolding rising
rising_above least e (this {rule} p) = ltb-true least (order rule.number) (both (least <? order rule.number) _ e).0
rising_above least e (other {rule} a) =
    let h = both (least <? order rule.number) _ e in
    omega (arith, ltb-true least (order rule.number) h.0, rising_above (order rule.number) h.1 a)

-- of a rising list the first that applies comes before every other that does
rising_first : (least : ℕ) {rules : List Rule} {m n : ℕ} → rising least rules ≡ true → First rules n → Applies rules m
    → (n ≡ m) ⊎ (order n < order m)
unfolding rising
rising_first least e (here p) (this q) = inl refl
rising_first least e (here {rule} p) (other a) = inr (rising_above (order rule.number) (both (least <? order rule.number) _ e).1 a)
rising_first least e (later p f) (this q) = absurd (not_both _ q p)
rising_first least e (later {rule} p f) (other a) = rising_first (order rule.number) (both (least <? order rule.number) _ e).1 f a

-- where the numbers rise the first is the lowest
pub first_lowest : (rules : List Rule) → rising 0 rules ≡ true → (n : ℕ) → First rules n ↔ Lowest rules n
first_lowest rules e n = (
  (λ f. (first_applies f, λ m l a. ⊎_elim (λ q. let s = ap order q in omega arith) (λ q. omega arith) (rising_first 0 e f a))),
  (λ h. go h (search_rules rules (rising_positive 0 rules e))),
)
  where
    none_applies : {rules : List Rule} {m : ℕ} → NoRule rules → Applies rules m → ⊥
    none_applies h (this p) = not_both _ p h.0
    none_applies h (other a) = none_applies h.1 a

    go : Lowest rules n → Search rules → First rules n
    go h (none q z) = absurd (none_applies q h.0)
    go h (found f l) =
        ⊎_elim (λ t. subst (First rules) t f) (λ t. absurd (h.1 (first rules) t (first_applies f))) (rising_first 0 e f h.0)

-- holds of the first too, if it holds of 0
pub first_each : (P : ℕ → Type 0) (rules : List Rule) → P 0 → Each P rules → P (first rules)
unfolding first
first_each P [] z h = z
first_each P (rule ∷ rules) z h = if_both P rule.applies h.0 (first_each P rules z h.1)

-- no rule applies exactly where the number is 0
pub none_first : (rules : List Rule) → positive rules ≡ true → first rules ≡ 0 → NoRule rules
none_first rules e z = (exactly rules e).not_given.0 z

-- a list after another
pub first_append : (rules more : List Rule) → positive rules ≡ true
    → first (rules ++ more) ≡ (if first rules =? 0 then first more else first rules)
unfolding first positive
first_append [] more e = refl
first_append (rule ∷ rules) more e =
    let h = both (0 <? rule.number) _ e in
    go rule.applies (ltb-true 0 rule.number h.0) (first_append rules more h.1)
  where
    go : (b : Bool) → 0 < rule.number → first (rules ++ more) ≡ (if first rules =? 0 then first more else first rules)
        → (if b then rule.number else first (rules ++ more))
        ≡ (if (if b then rule.number else first rules) =? 0 then first more else if b then rule.number else first rules)
    go true l i = rw (ne_eqb rule.number 0 (λ q. omega arith))
    go false l i = i

-- a list from its head on, test by test
pub any_here : (test : Bool) (tests : List Bool) → test ≡ true → true ≡ any (test ∷ tests)
unfolding any
any_here test tests e = rw e

pub any_later : (test : Bool) (tests : List Bool) {b : Bool} → test ≡ false → b ≡ any tests → b ≡ any (test ∷ tests)
unfolding any
any_later test tests e p = rw e p

pub any_last : (test : Bool) → test ≡ any (test ∷ [])
unfolding any
any_last true = refl
any_last false = refl

pub any_none : (tests : List Bool) → any tests ≡ false → NoTest tests
unfolding any
any_none [] e = tt
any_none (test ∷ tests) e = let h = neither test (any tests) e in (h.0, any_none tests h.1)

pub none_any : (tests : List Bool) → NoTest tests → any tests ≡ false
unfolding any
none_any [] h = refl
none_any (test ∷ tests) h = rw h.0 (none_any tests h.1)
