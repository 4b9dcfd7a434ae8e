-- What has a name, by the look-ups of the book and the prices.
use Rattle.std.proofs.Common.{Bool, false, is_some, position, refl, true, ℕ, ◌&&◌, ◌==◌, ◌||◌, ◌∙◌, ◌≡◌}
use Rattle.std.specs.List.{list_any}
use Rattle.std.specs.Option.{option_map_or}
use Rattle.agent_events.specs.Events.{order_request}
use Rattle.agent_events.specs.declared.event.EventKind.{EventKind}
use Rattle.agent_events.specs.declared.event.Source.{Source}
use Rattle.order_book.specs.Brought.{brings}
use Rattle.order_book.specs.declared.identity.Identity.{Identity}
use Rattle.request_rules.proofs.Declared.{same-any}
use Rattle.request_rules.proofs.LookUps.{place_any}
use Rattle.register_machine.specs.journal.Journals.{Journal}
use Rattle.register_machine.specs.rules.Identities.{brings_fix, brings_reference, fix_of, reference_of}

or-false : (b : Bool) → (b || false) ≡ b
or-false true = refl
or-false false = refl

pub reference-brought : (account ref_no : ℕ) (moment : ℕ) (kind : EventKind) → brings (Identity.Reference account ref_no) (record { moment = moment; kind = kind }) ≡ brings_reference (account, ref_no) (record { moment = moment; kind = kind })
reference-brought account ref_no moment (EventKind.Calendar form) = refl
reference-brought account ref_no moment (EventKind.Close form) = refl
reference-brought account ref_no moment (EventKind.Class form) = refl
reference-brought account ref_no moment (EventKind.Dealer form) = refl
reference-brought account ref_no moment (EventKind.Household form) = refl
reference-brought account ref_no moment (EventKind.Account form) = refl
reference-brought account ref_no moment (EventKind.Order placed) = by_source placed.source
  where
    by_source : (source : Source) → ((placed.order.account == account && placed.order.ref_no == ref_no) || false) ≡ option_map_or (λ (other : ℕ × ℕ). other.0 == account && other.1 == ref_no) (reference_of (order_request source placed.receipt placed.order)) false
    by_source Source.Direct = or-false (placed.order.account == account && placed.order.ref_no == ref_no)
    by_source Source.Dealer = or-false (placed.order.account == account && placed.order.ref_no == ref_no)
reference-brought account ref_no moment (EventKind.Cancel form) = or-false (form.account == account && form.ref_no == ref_no)
reference-brought account ref_no moment (EventKind.Sheet form) = refl
reference-brought account ref_no moment (EventKind.Dividend form) = refl
reference-brought account ref_no moment (EventKind.FixPrice form) = refl
reference-brought account ref_no moment (EventKind.FixRate form) = refl
reference-brought account ref_no moment (EventKind.Enter form) = refl
reference-brought account ref_no moment (EventKind.Replace form) = refl
reference-brought account ref_no moment (EventKind.Void form) = refl

pub fix-brought : (fix : ℕ) (moment : ℕ) (kind : EventKind) → brings (Identity.Fix fix) (record { moment = moment; kind = kind }) ≡ brings_fix fix (record { moment = moment; kind = kind })
fix-brought fix moment (EventKind.Calendar form) = refl
fix-brought fix moment (EventKind.Close form) = refl
fix-brought fix moment (EventKind.Class form) = refl
fix-brought fix moment (EventKind.Dealer form) = refl
fix-brought fix moment (EventKind.Household form) = refl
fix-brought fix moment (EventKind.Account form) = refl
fix-brought fix moment (EventKind.Order placed) = by_source placed.source
  where
    by_source : (source : Source) → false ≡ option_map_or (λ (other : ℕ). other == fix) (fix_of (order_request source placed.receipt placed.order)) false
    by_source Source.Direct = refl
    by_source Source.Dealer = refl
fix-brought fix moment (EventKind.Cancel form) = refl
fix-brought fix moment (EventKind.Sheet form) = refl
fix-brought fix moment (EventKind.Dividend form) = refl
fix-brought fix moment (EventKind.FixPrice form) = or-false (form.fix == fix)
fix-brought fix moment (EventKind.FixRate form) = or-false (form.fix == fix)
fix-brought fix moment (EventKind.Enter form) = or-false (form.fix == fix)
fix-brought fix moment (EventKind.Replace form) = or-false (form.fix == fix)
fix-brought fix moment (EventKind.Void form) = or-false (form.fix == fix)

pub reference_placed : (account ref_no : ℕ) (journal : Journal) → is_some (position (brings (Identity.Reference account ref_no)) journal) ≡ list_any (brings_reference (account, ref_no)) journal
reference_placed account ref_no journal =
    place_any (brings (Identity.Reference account ref_no)) journal
    ∙ same-any (brings (Identity.Reference account ref_no)) (brings_reference (account, ref_no)) journal (λ event. reference-brought account ref_no event.moment event.kind)

pub fix_placed : (fix : ℕ) (journal : Journal) → is_some (position (brings (Identity.Fix fix)) journal) ≡ list_any (brings_fix fix) journal
fix_placed fix journal =
    place_any (brings (Identity.Fix fix)) journal
    ∙ same-any (brings (Identity.Fix fix)) (brings_fix fix) journal (λ event. fix-brought fix event.moment event.kind)
