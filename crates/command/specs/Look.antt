-- What stands at the read pointer, by the header there and, of a table load or a data command, its count word: a command that waits for
-- more words, one that these refuse, or a whole one.
use Rattle.std.specs.Prelude.{ℕ, ◌+◌, ◌≤◌, ◌<◌, ◌≡◌, Bool, not, ◌||◌, List, if◌then◌else◌, Option, None}
use Rattle.std.proofs.Math.Path.{refl}
use Rattle.std.proofs.Common.{ap, subst, ◌∙◌, arith}
use Rattle.std.proofs.Math.Bool.{true, false}
use borrow.Author.Tests.{eqb-true, eqb-false, ltb-false, not-false}
use Rattle.model.specs.Choice.{◌<?◌, ◌≤?◌, ◌=?◌}
use Rattle.model.proofs.Choice.{neither, nonzero}
use Rattle.model.specs.Bits.{field}
use Rattle.model.specs.Limits.{table_length}
use Rattle.model.specs.Numbers.{number}
use Rattle.model.specs.Refusals.{first, positive}
use Rattle.model.proofs.Refusals.{none_first}
use Rattle.model.specs.Ring.{waiting}
use Rattle.model.specs.Lookup.{data_type, data_count, bad_count}
use Rattle.model.specs.Command.{returns, kind_of, bad_header, is_data, count_word, command_length, drawn_by, bad_return, bad_table, bad_data_word, header_rules, bad_start, judged_words, whole_words, read_after, loaded_table}
use Rattle.model.specs.Unit.{wants, header_at, loaded_at, counted_at, length_at, returns_at, rules_at, header_refusal, drawn_rules, command_refusal, needed, ready, table_after}
use Rattle.model.specs.declared.Core.{Core}
use Rattle.model.specs.declared.Primitive.{Primitive}
use Rattle.model.specs.declared.Kind.{Kind}
use Rattle.model.specs.declared.Kind.TheVariants.{Blt as BltKind, Vector as VectorKind, Table as TableKind, Data as DataKind}
use Rattle.laws.specs.Fit.{command_first}
use Rattle.command.specs.declared.Seen.{Seen}
use Rattle.command.specs.declared.Seen.TheVariants.{Waits as SeenWaits, Refused as SeenRefused, Whole as SeenWhole, Table as SeenTable, Data as SeenData}

-- what stands there, with a refusal by its number
pub data Sight : Type 0 where
  Waits : Sight
  Refused : (number : ℕ) → Sight
  Whole : Option Primitive → (next : ℕ) → Sight
  Table : (count next : ℕ) → Sight
  Data : (count : ℕ) (returns : Bool) → Sight

abbrev pub numbered : Seen → Sight
numbered SeenWaits = Waits
numbered (SeenRefused refusal) = Refused (number refusal)
numbered (SeenWhole drawn next) = Whole drawn next
numbered (SeenTable count next) = Table count next
numbered (SeenData count w) = Data count w

-- so many words must wait before the command is accepted or, where its header or its count word gives a number, refused by that;
-- `wanting` says whether a BLT wants data
abbrev pub needed_words : (wanting : Bool) → (size read header length number : ℕ) → ℕ
needed_words wanting size read header length number =
    if number =? 0 then whole_words size read length (returns header)
    else if bad_start wanting header then 1 else judged_words (kind_of header)

-- a whole command: a table load or a data command with its count, any other with what it draws
abbrev pub whole : Kind → Option Primitive → (count next : ℕ) → (w : Bool) → Sight
whole BltKind drawn count next w = Whole drawn next
whole VectorKind drawn count next w = Whole drawn next
whole TableKind drawn count next w = Table count next
whole DataKind drawn count next w = Data count w

unfoldable pub look : (wanting : Bool) → (size read write header counted : ℕ) → Sight
look wanting size read write header counted =
    let length = command_length (kind_of header) counted in
    let number = first (header_rules wanting size read header counted) in
    if needed_words wanting size read header length number ≤? waiting size read write
    then if number =? 0
    then whole (kind_of header) (drawn_by header) (data_count counted) (read_after size read length (returns header)) (returns header)
    else Refused number
    else Waits

-- whether the command can be accepted or refused
abbrev pub is_ready : (wanting : Bool) → (size read write header counted : ℕ) → Bool
is_ready wanting size read write header counted =
    needed_words wanting size read header (command_length (kind_of header) counted) (first (header_rules wanting size read header counted))
    ≤? waiting size read write

-- ---- the same by cases

-- a number that is judged as soon as so many words wait
abbrev pub refused_at : (there judged number : ℕ) → Sight
refused_at there judged number = if judged ≤? there then Refused number else Waits

-- a BLT or vector of so many words
abbrev pub plain_seen : (size read there length : ℕ) → Bool → Option Primitive → Sight
plain_seen size read there length w drawn =
    if bad_return size read length w then refused_at there 1 22
    else if whole_words size read length w ≤? there then Whole drawn (read_after size read length w)
    else Waits

abbrev pub table_seen : (size read there : ℕ) → Bool → (counted : ℕ) → Sight
table_seen size read there w counted =
    let length = command_length TableKind counted in
    if bad_count counted then refused_at there 3 29
    else if bad_return size read length w then refused_at there 3 22
    else if whole_words size read length w ≤? there then Table (data_count counted) (read_after size read length w)
    else Waits

abbrev pub data_seen : (size read there : ℕ) → Bool → (counted : ℕ) → Sight
data_seen size read there w counted =
    let length = command_length DataKind counted in
    if bad_data_word size counted then refused_at there 2 32
    else if bad_return size read length w then refused_at there 2 22
    else if whole_words size read length w ≤? there then Data (data_count counted) w
    else Waits

-- while a BLT wants data
abbrev pub wanted_seen : (size read there : ℕ) → Bool → Kind → (counted : ℕ) → Sight
wanted_seen size read there w kind counted = if is_data kind then data_seen size read there w counted else refused_at there 1 30

-- a number of two rules that are judged with as many words, or a whole command
counted_seen : (there judged bad across whole : ℕ) (a b : Bool) (seen : Sight) → (bad =? 0) ≡ false → (across =? 0) ≡ false
    → (if (if (if a then bad else if b then across else 0) =? 0 then whole else judged) ≤? there
    then (if (if a then bad else if b then across else 0) =? 0 then seen else Refused (if a then bad else if b then across else 0))
    else Waits)
    ≡ (if a then refused_at there judged bad else if b then refused_at there judged across else if whole ≤? there then seen else Waits)
counted_seen there judged bad across whole true b seen p q = rw p
counted_seen there judged bad across whole false true seen p q = rw q
counted_seen there judged bad across whole false false seen p q = refl

module _ (size read write header counted : ℕ) where
  abbrev there : ℕ
  there = waiting size read write

  pub look_bad : (wanting : Bool) → bad_header header ≡ true → look wanting size read write header counted ≡ refused_at there 1 21
  unfolding look first
  look_bad wanting b = rw b

  module _ (b : bad_header header ≡ false) where
    pub look_table : kind_of header ≡ TableKind
        → look false size read write header counted ≡ table_seen size read there (returns header) counted
    unfolding look first
    look_table k =
        rw (b, k)
        (counted_seen there 3 29 22 _ (bad_count counted) (bad_return size read (3 + data_count counted) (returns header)) _ refl refl)

    pub look_unasked : kind_of header ≡ DataKind → look false size read write header counted ≡ refused_at there 1 31
    unfolding look first
    look_unasked k = rw (b, k)

    pub look_wanted : look true size read write header counted ≡ wanted_seen size read there (returns header) (kind_of header) counted
    unfolding look first
    look_wanted = go (kind_of header) refl
      where
        go : (k : Kind) → kind_of header ≡ k
            → look true size read write header counted ≡ wanted_seen size read there (returns header) (kind_of header) counted
        go BltKind k = rw (b, k)
        go VectorKind k = rw (b, k)
        go TableKind k = rw (b, k)
        go DataKind k =
            rw (b, k)
            (counted_seen there 2 32 22 _ (bad_data_word size counted) (bad_return size read (2 + data_count counted) (returns header)) _ refl refl)

    abbrev plain : ℕ → Type 0
    plain length = look false size read write header counted ≡ plain_seen size read there length (returns header) (drawn_by header)

    plains : (length : ℕ) (back : Bool)
        → (if (if (if back then 22 else 0) =? 0 then whole_words size read length (returns header) else 1) ≤? there
        then (if (if back then 22 else 0) =? 0 then Whole (drawn_by header) (read_after size read length (returns header))
        else Refused (if back then 22 else 0))
        else Waits)
        ≡ (if back then refused_at there 1 22
        else if whole_words size read length (returns header) ≤? there then Whole (drawn_by header) (read_after size read length (returns header))
        else Waits)
    plains length true = refl
    plains length false = refl

    pub look_blt : kind_of header ≡ BltKind → plain 17
    unfolding look first
    look_blt k = rw (b, k) (plains 17 (bad_return size read 17 (returns header)))

    pub look_vector : kind_of header ≡ VectorKind → plain 14
    unfolding look first
    look_vector k = rw (b, k) (plains 14 (bad_return size read 14 (returns header)))

-- while nobody wants data only a table load is asked for its count word
pub look_count : (size read write header a b : ℕ) → (kind_of header ≡ TableKind → a ≡ b)
    → look false size read write header a ≡ look false size read write header b
unfolding look first
look_count size read write header a b h = go (kind_of header) (bad_header header) refl refl
  where
    go : (k : Kind) (bad : Bool) → kind_of header ≡ k → bad_header header ≡ bad
        → look false size read write header a ≡ look false size read write header b
    go BltKind bad e f = rw e
    go VectorKind bad e f = rw e
    go TableKind bad e f = ap (look false size read write header) (h e)
    go DataKind true e f = rw (e, f)
    go DataKind false e f = rw (e, f)

-- ---- what that says of the unit of an engine that draws nothing

pub record WholeAt (ring : List ℕ) (c : Core) (write : ℕ) (drawn : Option Primitive) (next : ℕ) : Type 0 where
  pub is_ready_holds : ready ring c write ≡ true
  pub header_taken : header_refusal ring c ≡ 0
  pub refusal : command_refusal ring c ≡ first (drawn_rules drawn (loaded_at ring c) c.framelength)
  pub drawn_is : drawn_by (header_at ring c) ≡ drawn
  pub next_is : read_after c.ringlength c.read (length_at ring c) (returns_at ring c) ≡ next
  pub no_table_holds : kind_of (header_at ring c) ≡ TableKind → ⊥
  pub no_data : is_data (kind_of (header_at ring c)) ≡ false

pub record TableAt (ring : List ℕ) (c : Core) (write count next : ℕ) : Type 0 where
  pub is_ready_holds : ready ring c write ≡ true
  pub accepted : command_refusal ring c ≡ 0
  pub drawn_is : drawn_by (header_at ring c) ≡ None
  pub next_is : read_after c.ringlength c.read (length_at ring c) (returns_at ring c) ≡ next
  pub kind_is : kind_of (header_at ring c) ≡ TableKind
  pub count_is : count ≡ data_count (counted_at ring c)
  pub some : 0 < count
  pub most : count ≤ table_length

pub record DataAt (ring : List ℕ) (c : Core) (write count : ℕ) (w : Bool) : Type 0 where
  pub is_ready_holds : ready ring c write ≡ true
  pub accepted : command_refusal ring c ≡ 0
  pub kind_is : kind_of (header_at ring c) ≡ DataKind
  pub count_is : count ≡ data_count (counted_at ring c)
  pub returns_is : w ≡ returns_at ring c

abbrev pub SeenAt : List ℕ → Core → ℕ → Sight → Type 0
SeenAt ring c write Waits = ready ring c write ≡ false
SeenAt ring c write (Refused number) = (ready ring c write ≡ true) × (command_refusal ring c ≡ number) × (0 < number)
SeenAt ring c write (Whole drawn next) = WholeAt ring c write drawn next
SeenAt ring c write (Table count next) = TableAt ring c write count next
SeenAt ring c write (Data count w) = DataAt ring c write count w

-- a count that 29 does not refuse
pub good_count : (counted : ℕ) → bad_count counted ≡ false → (0 < data_count counted) × (data_count counted ≤ table_length)
unfolding bad_count
good_count counted e =
    let other = not (data_type counted =? 0b011) || not (field counted 28 16 =? 0) in
    let h = neither (other || data_count counted =? 0) (table_length <? data_count counted) e in
    let n = neither other (data_count counted =? 0) h.0 in
    (nonzero (data_count counted) n.1, ltb-false table_length (data_count counted) h.1)

module _ (ring : List ℕ) (c : Core) where
  -- a header that is accepted has no bad count word
  header_count : header_refusal ring c ≡ 0 → bad_table (kind_of (header_at ring c)) (counted_at ring c) ≡ false
  unfolding header_refusal positive
  header_count e = (none_first (rules_at ring c) refl e).1.1.1.0

  -- a command that is no table load leaves the table
  pub plain_table : (kind_of (header_at ring c) ≡ TableKind → ⊥) → (table : List ℕ) → table_after ring c table ≡ table
  unfolding table_after loaded_table
  plain_table h table = go (kind_of (header_at ring c)) refl
    where
      go : (k : Kind) → kind_of (header_at ring c) ≡ k → table_after ring c table ≡ table
      go BltKind e = rw e
      go VectorKind e = rw e
      go TableKind e = absurd (h e)
      go DataKind e = rw e

module _ (ring : List ℕ) (c : Core) (write : ℕ) where
  abbrev whole_at : Kind → Sight
  whole_at k =
      whole k (drawn_by (header_at ring c)) (data_count (counted_at ring c))
      (read_after c.ringlength c.read (length_at ring c) (returns_at ring c)) (returns_at ring c)

  whole_at_lem : header_refusal ring c ≡ 0 → ready ring c write ≡ true → SeenAt ring c write (whole_at (kind_of (header_at ring c)))
  whole_at_lem p q = go (kind_of (header_at ring c)) refl
    where
      refusal : command_refusal ring c ≡ first (drawn_rules (drawn_by (header_at ring c)) (loaded_at ring c) c.framelength)
      refusal = command_first ring c ∙ rw p

      go : (k : Kind) → kind_of (header_at ring c) ≡ k → SeenAt ring c write (whole_at k)
      go BltKind e = record {
        is_ready_holds = q;
        header_taken = p;
        refusal = refusal;
        drawn_is = refl;
        next_is = refl;
        no_table_holds = λ t. let z : ◌≡◌ {A = ℕ} 0 1 = cc in omega arith;
        no_data = rw e;
      }
      go VectorKind e = record {
        is_ready_holds = q;
        header_taken = p;
        refusal = refusal;
        drawn_is = refl;
        next_is = refl;
        no_table_holds = λ t. let z : ◌≡◌ {A = ℕ} 0 1 = cc in omega arith;
        no_data = rw e;
      }
      go TableKind e =
          let g = good_count (counted_at ring c) (subst (λ (k : Kind). bad_table k (counted_at ring c) ≡ false) e (header_count ring c p)) in
          let d : drawn_by (header_at ring c) ≡ None = unfold drawn_by in rw e in
          record {
            is_ready_holds = q;
            accepted = refusal ∙ rw d (unfold first in refl);
            drawn_is = d;
            next_is = refl;
            kind_is = e;
            count_is = refl;
            some = g.0;
            most = g.1;
          }
      go DataKind e =
          let d : drawn_by (header_at ring c) ≡ None = unfold drawn_by in rw e in
          record {
            is_ready_holds = q;
            accepted = refusal ∙ rw d (unfold first in refl);
            kind_is = e;
            count_is = refl;
            returns_is = refl;
          }

  pub ready_at : is_ready (wants c.place) c.ringlength c.read write (header_at ring c) (counted_at ring c) ≡ ready ring c write
  unfolding ready needed header_refusal
  ready_at = refl

  pub look_at : (seen : Sight) → seen ≡ look (wants c.place) c.ringlength c.read write (header_at ring c) (counted_at ring c)
      → SeenAt ring c write seen
  unfolding look ready needed header_refusal
  look_at seen e = rw e (go (header_refusal ring c =? 0) (ready ring c write) refl refl)
    where
      go : (none is : Bool) → (header_refusal ring c =? 0) ≡ none → ready ring c write ≡ is
          → SeenAt ring c write (if is then if none then whole_at (kind_of (header_at ring c)) else Refused (header_refusal ring c) else Waits)
      go none false p q = q
      go false true p q = (q, command_first ring c ∙ rw p, omega (arith, eqb-false (header_refusal ring c) 0 p))
      go true true p q = whole_at_lem (eqb-true _ _ p) q

  -- with nothing in progress, by the count word of a table load
  pub look_idle : wants c.place ≡ false
      → look false c.ringlength c.read write (header_at ring c) (count_word TableKind ring c.read)
      ≡ look (wants c.place) c.ringlength c.read write (header_at ring c) (counted_at ring c)
  look_idle z =
      look_count c.ringlength c.read write (header_at ring c) (count_word TableKind ring c.read) (counted_at ring c) (λ e. rw e)
      ∙ rw z

  -- a BLT that wants data takes no other command
  pub taken_wanted : header_refusal ring c ≡ 0 → wants c.place ≡ true → is_data (kind_of (header_at ring c)) ≡ true
  unfolding header_refusal positive
  taken_wanted e w = not-false _ (rw w at (none_first (rules_at ring c) refl e).1.0)
