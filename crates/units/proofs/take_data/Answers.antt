use Rattle.units.proofs.Feeds.{fit_deep}
use Rattle.units.proofs.Loads.{refuses}
use Rattle.units.specs.Turns.{command_core}
use Rattle.laws.specs.Fit.{wanting_fit, wanting_is, accepted_header}
use Rattle.model.specs.declared.Core.{Core}
use Rattle.model.specs.Unit.{wants, pixels_drawn, header_at, counted_at, ready}
use Rattle.model.specs.declared.Primitive.{Primitive}
use Rattle.model.specs.Command.{is_data, count_word}
use Rattle.model.specs.declared.Kind.{Kind}
use Rattle.model.proofs.Choice.{not_both}
use Rattle.command.specs.declared.Seen.{Seen}
use Rattle.command.specs.declared.Seen.TheVariants.{Waits as SeenWaits, Whole as SeenWhole, Table as SeenTable}
use Rattle.command.specs.Look.{Sight, Waits, Whole, Table, numbered, look, SeenAt, look_at, taken_wanted}
use Rattle.std.proofs.Common.{◌≡◌, ℕ, Option, ◌⊎◌, inl, inr, List, true, false, sym, refl, ap, ◌∙◌, arith}
use Rattle.units.proofs.take_data.Goals as goal

-- what is seen of the command at the read pointer
seen : (ring : List ℕ) (c : Core) (write : ℕ) {counted : ℕ} {seen : Sight} → wants c.place ≡ true → counted ≡ counted_at ring c
    → seen ≡ look true c.ringlength c.read write (header_at ring c) counted → SeenAt ring c write seen
seen ring c write wanting counts e = look_at ring c write _ (e ∙ rw (counts, wanting))

-- it waits; no other command is accepted
waits : (ring : List ℕ) (c : Core) (write : ℕ) {counted : ℕ} {s : Seen} → wants c.place ≡ true → counted ≡ counted_at ring c
    → (s ≡ SeenWaits) ⊎ ((drawn : Option Primitive) × (next : ℕ) × (s ≡ SeenWhole drawn next)) ⊎ ((count : ℕ) × (next : ℕ) × (s ≡ SeenTable count next))
    → numbered s ≡ look true c.ringlength c.read write (header_at ring c) counted → ready ring c write ≡ false
waits ring c write wanting counts (inl e) q = seen ring c write {seen = Waits} wanting counts (ap numbered (sym e) ∙ q)
waits ring c write wanting counts (inr (inl (drawn, next, e))) q =
    let d = seen ring c write {seen = Whole drawn next} wanting counts (ap numbered (sym e) ∙ q) in
    absurd (not_both _ (taken_wanted ring c write d.header_taken wanting) d.no_data)
waits ring c write wanting counts (inr (inr (count, next, e))) q =
    let d = seen ring c write {seen = Table count next} wanting counts (ap numbered (sym e) ∙ q) in
    absurd (not_both _ (taken_wanted ring c write (accepted_header ring c d.accepted) wanting) (ap is_data d.kind_is))

pub accept-requires : goal.accept-requires
accept-requires c = let s = seen c.args.ring.now c.args.core.now c.args.write c.requires.wanting (c.count_word.ensures ∙ ap (λ (k : Kind). count_word k c.args.ring.now c.args.core.now.read) c.kind_of.ensures) c.in-Data.ensures in
    let f = wanting_fit c.args.core.now c.args.write c.requires.fit (pixels_drawn c.args.core.now.place) (wanting_is c.args.core.now.place c.requires.wanting) in
    record {
      kind_is = s.kind_is;
      count_is = s.count_is;
      returns_is = s.returns_is;
      accepted = s.accepted;
      deep = fit_deep c.args.core.now (pixels_drawn c.args.core.now.place) f.pixel;
      within = f.pixel.within;
    }

pub returns-in-Waits : goal.returns-in-Waits
unfolding command_core
returns-in-Waits c = rw (waits c.args.ring.now c.args.core.now c.args.write c.requires.wanting (c.count_word.ensures ∙ ap (λ (k : Kind). count_word k c.args.ring.now c.args.core.now.read) c.kind_of.ensures) c.in-Waits.is c.look.ensures)
    (record { taken = refl; core = refl })

pub returns-in-Refused : goal.returns-in-Refused
unfolding command_core
returns-in-Refused c = let s = seen c.args.ring.now c.args.core.now c.args.write c.requires.wanting (c.count_word.ensures ∙ ap (λ (k : Kind). count_word k c.args.ring.now c.args.core.now.read) c.kind_of.ensures) c.in-Refused.ensures in
    rw s.0 (record { taken = refl; core = c.halt.ensures ∙ refuses _ _ s.1 (λ z. omega (arith, s.2)) })

pub returns-in-Data : goal.returns-in-Data
unfolding command_core
returns-in-Data c = let s = seen c.args.ring.now c.args.core.now c.args.write c.requires.wanting (c.count_word.ensures ∙ ap (λ (k : Kind). count_word k c.args.ring.now c.args.core.now.read) c.kind_of.ensures) c.in-Data.ensures in
    rw s.is_ready_holds (record { taken = refl; core = c.accept.ensures })
