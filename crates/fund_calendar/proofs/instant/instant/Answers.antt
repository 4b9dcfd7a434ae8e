-- That `instant` keeps its contract.
use Rattle.std.proofs.Common.{◌≡◌, ℕ, ◌+◌, ◌-◌, ◌*◌, ◌<◌, ◌≤◌, Some, None, refl, inl, inr, arith}
use Rattle.std.proofs.lemmas.Bool.Decides.{leb_tells}
use Rattle.fund_calendar.specs.declared.zone.ZoneRule.{ZoneRule}
use Rattle.fund_calendar.specs.ZoneRules.{instant, daylight_minutes}
use Rattle.fund_calendar.proofs.instant.instant.Goals as goal

there : (r : ZoneRule) (local later earlier : ℕ) → later ≡ local + r.offset.behind → earlier ≡ r.offset.ahead + daylight_minutes r local → earlier ≤ later → Some (60 * (later - earlier)) ≡ instant r local
unfolding instant
there r local later earlier el ee h = rw (← el, ← ee) (elim (leb_tells earlier later) [ inl (t, _) ↦ rw t refl | inr (_, gt) ↦ absurd (omega arith) ])

absent : (r : ZoneRule) (local later earlier : ℕ) → later ≡ local + r.offset.behind → earlier ≡ r.offset.ahead + daylight_minutes r local → later < earlier → None ≡ instant r local
unfolding instant
absent r local later earlier el ee h = rw (← el, ← ee) (elim (leb_tells earlier later) [ inl (_, le) ↦ absurd (omega arith) | inr (t, _) ↦ rw t refl ])

pub returns-then-earlier-later : goal.returns-then-earlier-later
returns-then-earlier-later c =
    there c.args.rule.now (1440 * c.args.day + c.args.minute) _ _ (rw c.local_minute.ensures.value refl) (rw c.daylight_minutes.ensures.value refl) c.if-earlier-later.true

pub returns-else-earlier-later : goal.returns-else-earlier-later
returns-else-earlier-later c =
    absent c.args.rule.now (1440 * c.args.day + c.args.minute) _ _ (rw c.local_minute.ensures.value refl) (rw c.daylight_minutes.ensures.value refl) c.if-earlier-later.false
