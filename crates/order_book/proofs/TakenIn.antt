-- The place of an identity once an event is taken in.
use Rattle.std.proofs.Common.{None, Option, Some, ap, cond, false, length, sym, ℕ, ◌∙◌, ◌≡◌, ◌||◌}
use Rattle.std.specs.List.{position}
use Rattle.std.specs.Option.{option_map_or, option_or}
use Rattle.agent_events.specs.Events.{Event}
use Rattle.order_book.proofs.Places.{or-twice, position-more}
use Rattle.order_book.specs.Brought.{brings, identity_in, reference_entered, same_identity}
use Rattle.order_book.specs.declared.identity.Identity.{Identity}
use Rattle.register_machine.specs.journal.Journals.{Journal, with_event}

-- both identities put in turn
pub taken-in : (old mid new : Identity → Option ℕ) (journal : Journal) (event : Event) (first : Identity) (second : Option Identity) (place : ℕ)
    → place ≡ length journal → first ≡ identity_in event.kind → second ≡ reference_entered event.kind
    → ((q : Identity) → old q ≡ position (brings q) journal)
    → ((q : Identity) → mid q ≡ option_or (old q) (cond (same_identity first q) (Some place) None))
    → ((q : Identity) → new q ≡ option_or (mid q) (cond (option_map_or (λ entered. same_identity entered q) second false) (Some place) None))
    → (q : Identity) → new q ≡ position (brings q) (with_event journal event)
taken-in old mid new journal event first second place at first_is second_is kept once twice q =
    twice q
    ∙ (ap (λ (found : Option ℕ). option_or found (cond (option_map_or (λ entered. same_identity entered q) second false) (Some place) None)) (once q)
    ∙ (or-twice (old q) (same_identity first q) (option_map_or (λ entered. same_identity entered q) second false) place
    ∙ (ap (λ (found : Option ℕ). option_or found (cond (same_identity first q || option_map_or (λ entered. same_identity entered q) second false) (Some place) None)) (kept q)
    ∙ (ap (λ (own : Identity). option_or (position (brings q) journal) (cond (same_identity own q || option_map_or (λ entered. same_identity entered q) second false) (Some place) None)) first_is
    ∙ (ap (λ (own : Option Identity). option_or (position (brings q) journal) (cond (same_identity (identity_in event.kind) q || option_map_or (λ entered. same_identity entered q) own false) (Some place) None)) second_is
    ∙ (ap (λ n. option_or (position (brings q) journal) (cond (brings q event) (Some n) None)) at
    ∙ sym (position-more (brings q) journal event)))))))
