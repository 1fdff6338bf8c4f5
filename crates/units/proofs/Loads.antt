-- The load of a whole command, by what it draws.
use Rattle.std.proofs.Common.{◌≡◌, ℕ, Bool, true, false, List, sym, refl, ap, ◌∙◌, arith, eq-eqb, ne_eqb, eqb-true}
use Rattle.std.specs.Prelude.{if◌then◌else◌, Some, None}
use Rattle.model.specs.Choice.{◌=?◌}
use Rattle.model.proofs.Choice.{not_both, if_both}
use Rattle.model.specs.Refusals.{first}
use Rattle.model.specs.Completion.{retired}
use Rattle.model.specs.Judging.{judge}
use Rattle.model.specs.Command.{kind_of, is_data}
use Rattle.model.specs.Host.{host_word}
use Rattle.model.specs.Unit.{wants, pixels_drawn, header_at, loaded_at, command_refusal, ready, stopped, place_after, loaded_core, taken_core, table_after}
use Rattle.model.specs.declared.Core.{Core}
use Rattle.model.specs.declared.Kind.TheVariants.{Table, Data}
use Rattle.model.specs.declared.Place.{Place}
use Rattle.model.specs.declared.Place.TheVariants.{Idle, Fed}
use Rattle.model.specs.declared.Primitive.{Primitive}
use Rattle.laws.specs.Fit.{accepted_header}
use Rattle.command.specs.Look.{plain_table, taken_wanted}
use Rattle.units.specs.Turns.{Loadable, Fillable, Acceptable, load_unit, table_unit, command_table}

-- a core with other registers, read pointer, completion number and place
abbrev pub moved_core : Core → List ℕ → ℕ → ℕ → Place → Core
moved_core c registers read completion place = record {
  registers = registers;
  read = read;
  ringlength = c.ringlength;
  framelength = c.framelength;
  completion = completion;
  stop = c.stop;
  place = place;
}

module _ (ring : List ℕ) (c : Core) where
  pub refuses : {number : ℕ} → command_refusal ring c ≡ number → (number ≡ 0 → ⊥) → stopped c number ≡ load_unit ring c
  unfolding load_unit
  refuses {number} e h = rw (e, ne_eqb number 0 h)

  -- the table of a command that is refused, or that is no table load, and of one that is
  pub table_refused : {number : ℕ} → command_refusal ring c ≡ number → (number ≡ 0 → ⊥) → (table : List ℕ) → table ≡ table_unit ring c table
  unfolding table_unit
  table_refused {number} e h table = rw (e, ne_eqb number 0 h)

  pub table_stays : ((table : List ℕ) → table_after ring c table ≡ table) → (table : List ℕ) → table ≡ table_unit ring c table
  unfolding table_unit
  table_stays h table = sym (if_both (λ t. t ≡ table) (command_refusal ring c =? 0) (h table) refl)

  -- of a BLT that wants data nothing goes into the table
  pub wanting_table : wants c.place ≡ true → (table : List ℕ) → table_unit ring c table ≡ table
  unfolding table_unit
  wanting_table w table = go (command_refusal ring c =? 0) refl
    where
      go : (b : Bool) → command_refusal ring c =? 0 ≡ b → (if command_refusal ring c =? 0 then table_after ring c table else table) ≡ table
      go true e =
          rw e
          (plain_table ring c
          (λ t. not_both (is_data (kind_of (header_at ring c))) (taken_wanted ring c 0 (accepted_header ring c (eqb-true _ _ e)) w) (ap is_data t)) table)
      go false e = rw e

  pub wanting_command : (write : ℕ) → wants c.place ≡ true → (table : List ℕ) → command_table ring c write table ≡ table
  unfolding command_table
  wanting_command write w table = if_both (λ t. t ≡ table) (ready ring c write) (wanting_table w table) refl

  pub data_no_table : kind_of (header_at ring c) ≡ Data → kind_of (header_at ring c) ≡ Table → ⊥
  data_no_table d t = let z : ◌≡◌ {A = ℕ} 0 1 = cc in omega arith

  pub table_filled : command_refusal ring c ≡ 0 → (table : List ℕ) → table_after ring c table ≡ table_unit ring c table
  unfolding table_unit
  table_filled e table = rw (eq-eqb _ _ e)

  accepts : command_refusal ring c ≡ 0 → is_data (kind_of (header_at ring c)) ≡ false → loaded_core ring c ≡ load_unit ring c
  unfolding load_unit
  accepts e d = rw (eq-eqb _ _ e, d)

  -- a data command that is accepted
  pub takes_data_holds : {count before : ℕ} {w : Bool} → Acceptable ring c count w → before ≡ host_word c.registers (pixels_drawn c.place)
      → moved_core c c.registers c.read c.completion (Fed (pixels_drawn c.place) (record { before = before; count = count; returns = w }))
      ≡ load_unit ring c
  unfolding load_unit taken_core
  takes_data_holds h e =
      let d : is_data (kind_of (header_at ring c)) ≡ true = ap is_data h.kind_is in
      rw (eq-eqb _ _ h.accepted, d, e, h.count_is, h.returns_is)

  -- the registers as they are after loading
  module _ {header next : ℕ} {registers : List ℕ} (loads : registers ≡ loaded_at ring c) where
    pub load_nothing : Loadable ring c header None next
        → moved_core c registers next (retired c.completion) Idle ≡ load_unit ring c
    unfolding loaded_core first
    load_nothing h = rw loads (rw (h.drawn_is, h.next_is) at (accepts h.refusal_is h.no_data))

    pub load_fills : {count : ℕ} → Fillable ring c header count next
        → moved_core c registers next (retired c.completion) Idle ≡ load_unit ring c
    unfolding loaded_core
    load_fills h = rw loads (rw (h.drawn_is, h.next_is) at (accepts h.accepted (ap is_data h.kind_is)))

    -- what judging says of them
    module _ {primitive : Primitive} (h : Loadable ring c header (Some primitive) next) where
      refusal : command_refusal ring c ≡ judge primitive registers c.framelength
      unfolding judge
      refusal = rw loads h.refusal_is

      pub load_refuses : {number : ℕ} → number ≡ judge primitive registers c.framelength → (number ≡ 0 → ⊥) → stopped c number ≡ load_unit ring c
      load_refuses judges z = refuses (refusal ∙ sym judges) z

      pub load_draws : judge primitive registers c.framelength ≡ 0 → {place : Place} → place ≡ place_after (Some primitive) registers
          → moved_core c registers next c.completion place ≡ load_unit ring c
      unfolding loaded_core
      load_draws z e = rw (e, loads) (rw (h.drawn_is, h.next_is) at (accepts (refusal ∙ z) h.no_data))
