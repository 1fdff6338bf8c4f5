use Rattle.units.proofs.Loads.{refuses, table_refused, table_stays}
use Rattle.units.specs.Turns.{command_core, command_table}
use Rattle.laws.specs.Fit.{accepted_wanted}
use Rattle.model.specs.declared.Kind.{Kind}
use Rattle.model.specs.declared.Kind.TheVariants.{Table as TableKind}
use Rattle.model.specs.declared.Core.{Core}
use Rattle.model.specs.Unit.{wants, header_at, ready}
use Rattle.model.specs.Command.{is_data, count_word}
use Rattle.model.specs.Lookup.{data_count}
use Rattle.model.proofs.Choice.{not_both}
use Rattle.command.specs.declared.Seen.{Seen}
use Rattle.command.specs.declared.Seen.TheVariants.{Waits as SeenWaits, Data as SeenData}
use Rattle.command.specs.Look.{Sight, Waits, Data, numbered, look, SeenAt, look_at, look_idle, plain_table}
use Rattle.std.proofs.Common.{◌≡◌, ℕ, Bool, ◌⊎◌, inl, inr, List, false, sym, refl, ap, ◌∙◌, arith}
use Rattle.units.proofs.take.Goals as goal

-- what is seen of the command at the read pointer
seen : (ring : List ℕ) (c : Core) (write : ℕ) {counted : ℕ} {seen : Sight} → wants c.place ≡ false → counted ≡ count_word TableKind ring c.read
    → seen ≡ look false c.ringlength c.read write (header_at ring c) counted → SeenAt ring c write seen
seen ring c write idle counts e = look_at ring c write _ (e ∙ rw counts (look_idle ring c write idle))

-- it waits, or is a data command, which nobody wants
waits : (ring : List ℕ) (c : Core) (write : ℕ) {counted : ℕ} {s : Seen} → wants c.place ≡ false → counted ≡ count_word TableKind ring c.read
    → (s ≡ SeenWaits) ⊎ ((count : ℕ) × (w : Bool) × (s ≡ SeenData count w))
    → numbered s ≡ look false c.ringlength c.read write (header_at ring c) counted → ready ring c write ≡ false
waits ring c write idle counts (inl e) q = seen ring c write {seen = Waits} idle counts (ap numbered (sym e) ∙ q)
waits ring c write idle counts (inr (count, w, e)) q =
    let d = seen ring c write {seen = Data count w} idle counts (ap numbered (sym e) ∙ q) in
    absurd (not_both (wants c.place) (accepted_wanted ring c d.accepted (ap is_data d.kind_is)) idle)

pub load-requires : goal.load-requires
load-requires c = let s = seen c.args.ring.now c.args.core.now c.args.write c.requires.idle c.count_word.ensures c.in-Whole.ensures in
    record {
      ring_least_holds = omega (arith, c.requires.fit.ring_least_holds, c.requires.fit.ring_is);
      read_in = omega (arith, c.requires.fit.read_in, c.requires.fit.ring_is);
      header_is = refl;
      drawn_is = s.drawn_is;
      next_is = s.next_is;
      refusal_is = s.refusal;
      no_table_holds = s.no_table_holds;
      no_data = s.no_data;
    }

pub fill-requires : goal.fill-requires
fill-requires c = let s = seen c.args.ring.now c.args.core.now c.args.write c.requires.idle c.count_word.ensures c.in-Table.ensures in
    record {
      ring_least_holds = omega (arith, c.requires.fit.ring_least_holds, c.requires.fit.ring_is);
      read_in = omega (arith, c.requires.fit.read_in, c.requires.fit.ring_is);
      header_is = refl;
      kind_is = s.kind_is;
      count_is = s.count_is ∙ ap (λ (k : Kind). data_count (count_word k c.args.ring.now c.args.core.now.read)) s.kind_is;
      count_most_holds = s.most;
      drawn_is = s.drawn_is;
      next_is = s.next_is;
      accepted = s.accepted;
    }

pub returns-in-Waits : goal.returns-in-Waits
unfolding command_core command_table
returns-in-Waits c = rw (waits c.args.ring.now c.args.core.now c.args.write c.requires.idle c.count_word.ensures c.in-Waits.is c.look.ensures)
    (record { taken = refl; core = refl; table = refl })

pub returns-in-Refused : goal.returns-in-Refused
unfolding command_core command_table
returns-in-Refused c = let s = seen c.args.ring.now c.args.core.now c.args.write c.requires.idle c.count_word.ensures c.in-Refused.ensures in
    rw s.0
    (record {
      taken = refl;
      core = c.halt.ensures ∙ refuses _ _ s.1 (λ z. omega (arith, s.2));
      table = table_refused _ _ s.1 (λ z. omega (arith, s.2)) _;
    })

pub returns-in-Whole : goal.returns-in-Whole
unfolding command_core command_table
returns-in-Whole c = let s = seen c.args.ring.now c.args.core.now c.args.write c.requires.idle c.count_word.ensures c.in-Whole.ensures in
    rw s.is_ready_holds (record { taken = refl; core = c.load.ensures; table = table_stays _ _ (plain_table _ _ s.no_table_holds) _ })

pub returns-in-Table : goal.returns-in-Table
unfolding command_core command_table
returns-in-Table c = let s = seen c.args.ring.now c.args.core.now c.args.write c.requires.idle c.count_word.ensures c.in-Table.ensures in
    rw s.is_ready_holds (record { taken = refl; core = c.fill.ensures.core; table = c.fill.ensures.table })
