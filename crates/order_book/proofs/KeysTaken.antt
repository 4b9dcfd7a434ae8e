-- The place of a key once an event is taken in.
use Rattle.std.proofs.Common.{List, None, Option, Some, [], ap, arith, cond, drop, false, length, refl, replicate, subst, sym, take, true, ℕ, ◌++◌, ◌==◌, ◌∙◌, ◌∷◌, ◌≡◌, ◌≤◌}
use Rattle.std.proofs.lemmas.Bool.{and_from, and_parts, eq-eqb, eqb-true, false≢true, le-leb, leb-true}
use Rattle.std.proofs.lemmas.Bool.Decides.{same_from_decides}
use Rattle.std.proofs.lemmas.List.{take-append-le}
use Rattle.std.proofs.lemmas.Slice.Eq.{bytes_eq-Decides}
use Rattle.std.specs.HashMap.{get}
use Rattle.std.specs.List.{position}
use Rattle.std.specs.Option.{option_map_or, option_or}
use Rattle.std.specs.Prelude.{bytes_eq, nat_le}
use Rattle.agent_events.specs.Events.{Event}
use Rattle.agent_events.specs.Fields.{is_dealer_key, is_household_key}
use Rattle.agent_events.specs.declared.event.EventKind.{EventKind}
use Rattle.agent_events.specs.declared.request.DealerForm.{DealerForm}
use Rattle.agent_events.specs.declared.request.HouseholdForm.{HouseholdForm}
use Rattle.order_book.proofs.Places.{position-more}
use Rattle.order_book.specs.Brought.{brings_key, dealer_key_in, household_key_in}
use Rattle.order_book.specs.Indexes.{key_text, same_text}
use Rattle.order_book.specs.Kept.{KeepsKeys}
use Rattle.order_book.specs.declared.keys.KeyText.{KeyText}
use Rattle.order_book.specs.declared.keys.Keys.{Keys}
use Rattle.register_laws.proofs.Tests.{is-false}
use Rattle.register_machine.proofs.FoundFacts.{option_or-none}
use Rattle.register_machine.specs.journal.Journals.{Journal, with_event}

front : (a pad : List ℕ) → take (length a) (a ++ pad) ≡ a
front a pad = take-append-le (length a) a pad ≤-self ∙ take-whole a
  where
    ≤-self : length a ≤ length a
    ≤-self = omega arith

    take-whole : (xs : List ℕ) → take (length xs) xs ≡ xs
    take-whole [] = refl
    take-whole (x ∷ xs) = ap (λ later. x ∷ later) (take-whole xs)

-- two keys are the same as they are kept exactly where their bytes are
pub same-padded : (a b : List ℕ) → same_text (key_text a) (key_text b) ≡ bytes_eq a b
same-padded a b = same_from_decides (same_text (key_text a) (key_text b)) (bytes_eq a b) (one, alike) (bytes_eq-Decides a b)
  where
    one : same_text (key_text a) (key_text b) ≡ true → a ≡ b
    one same =
        let both = and_parts (bytes_eq (key_text a).bytes (key_text b).bytes) (length a == length b) same in
        sym (front a (drop (length a) (replicate 64 0)))
        ∙ (ap (take (length a)) ((bytes_eq-Decides (key_text a).bytes (key_text b).bytes).0 both.0)
        ∙ (ap (λ n. take n (key_text b).bytes) (eqb-true (length a) (length b) both.1)
        ∙ front b (drop (length b) (replicate 64 0))))

    alike : a ≡ b → same_text (key_text a) (key_text b) ≡ true
    alike same =
        and_from (bytes_eq (key_text a).bytes (key_text b).bytes) (length a == length b)
        ((bytes_eq-Decides (key_text a).bytes (key_text b).bytes).1 (ap (λ key. (key_text key).bytes) same))
        (eq-eqb (length a) (length b) (ap length same))

key-put : (chosen : EventKind → Option (List ℕ)) (old new : KeyText → Option ℕ) (journal : Journal) (event : Event) (own : List ℕ) (text : KeyText) (place : ℕ)
    → place ≡ length journal → chosen event.kind ≡ Some own → text ≡ key_text own
    → ((q : KeyText) → new q ≡ option_or (old q) (cond (same_text text q) (Some place) None))
    → ((key : List ℕ) → length key ≤ 64 → old (key_text key) ≡ position (brings_key chosen key) journal)
    → (key : List ℕ) → length key ≤ 64 → new (key_text key) ≡ position (brings_key chosen key) (with_event journal event)
key-put chosen old new journal event own text place at key_is text_is put kept key short =
    put (key_text key)
    ∙ (ap (λ (found : Option ℕ). option_or found (cond (same_text text (key_text key)) (Some place) None)) (kept key short)
    ∙ (ap (λ (t : KeyText). option_or (position (brings_key chosen key) journal) (cond (same_text t (key_text key)) (Some place) None)) text_is
    ∙ (ap (λ is. option_or (position (brings_key chosen key) journal) (cond is (Some place) None)) (same-padded own key ∙ ap (λ found. option_map_or (λ k. bytes_eq k key) found false) (sym key_is))
    ∙ (ap (λ n. option_or (position (brings_key chosen key) journal) (cond (brings_key chosen key event) (Some n) None)) at
    ∙ sym (position-more (brings_key chosen key) journal event)))))

other-length : (own key : List ℕ) → length own ≤ 64 → nat_le (length key) 64 ≡ false → bytes_eq own key ≡ false
other-length own key short long =
    is-false (bytes_eq own key) (λ same. false≢true (sym long ∙ le-leb (length key) 64 (subst (λ (k : List ℕ). length k ≤ 64) ((bytes_eq-Decides own key).0 same) short)))

pub short-household : (key : List ℕ) → is_household_key key ≡ true → length key ≤ 64
short-household key e = omega (arith, leb-true (length key) 58 (and_parts _ _ (and_parts _ _ (and_parts _ _ e).1).1).0)

pub short-dealer : (key : List ℕ) → is_dealer_key key ≡ true → length key ≤ 64
short-dealer key e = omega (arith, leb-true (length key) 58 (and_parts _ _ (and_parts _ _ (and_parts _ _ e).1).1).0)

pub key-taken : (chosen : EventKind → Option (List ℕ)) (old new : Keys) (journal : Journal) (moment place : ℕ) (kind by : EventKind) (own : List ℕ) (text : KeyText)
    → kind ≡ by → chosen by ≡ Some own → length own ≤ 64 → place ≡ length journal → text ≡ key_text own
    → ((q : KeyText) → get same_text new.places q ≡ option_or (get same_text old.places q) (cond (same_text text q) (Some place) None))
    → KeepsKeys chosen old journal → KeepsKeys chosen new (with_event journal (record { moment = moment; kind = kind }))
key-taken chosen old new journal moment place kind by own text kind_is key_is short at text_is put kept = record {
  places = key-put chosen (get same_text old.places) (get same_text new.places) journal (record { moment = moment; kind = kind }) own text place at (ap chosen kind_is ∙ key_is) text_is put kept.places;
  long = λ key is_long.
      position-more (brings_key chosen key) journal (record { moment = moment; kind = kind })
      ∙ (ap (λ found. option_or (position (brings_key chosen key) journal) (cond (option_map_or (λ k. bytes_eq k key) found false) (Some (length journal)) None)) (ap chosen kind_is ∙ key_is)
      ∙ (ap (λ is. option_or (position (brings_key chosen key) journal) (cond is (Some (length journal)) None)) (other-length own key short is_long)
      ∙ (option_or-none (position (brings_key chosen key) journal) ∙ kept.long key is_long)));
}

pub no-dealer-key : (kind : EventKind) → ((form : DealerForm) → kind ≡ EventKind.Dealer form → ⊥) → dealer_key_in kind ≡ None
no-dealer-key (EventKind.Dealer form) no_dealer = absurd (no_dealer form refl)
no-dealer-key _ no_dealer = refl

pub no-household-key : (kind : EventKind) → ((form : HouseholdForm) → kind ≡ EventKind.Household form → ⊥) → household_key_in kind ≡ None
no-household-key (EventKind.Household form) no_household = absurd (no_household form refl)
no-household-key _ no_household = refl

pub keys-left : (chosen : EventKind → Option (List ℕ)) (keys : Keys) (journal : Journal) (event : Event) → chosen event.kind ≡ None → KeepsKeys chosen keys journal → KeepsKeys chosen keys (with_event journal event)
keys-left chosen keys journal event none kept = record {
  places = λ key short.
      kept.places key short
      ∙ (sym (option_or-none (position (brings_key chosen key) journal))
      ∙ (ap (λ found. option_or (position (brings_key chosen key) journal) (cond (option_map_or (λ own. bytes_eq own key) found false) (Some (length journal)) None)) (sym none)
      ∙ sym (position-more (brings_key chosen key) journal event)));
  long = λ key is_long.
      position-more (brings_key chosen key) journal event
      ∙ (ap (λ found. option_or (position (brings_key chosen key) journal) (cond (option_map_or (λ own. bytes_eq own key) found false) (Some (length journal)) None)) none
      ∙ (option_or-none (position (brings_key chosen key) journal) ∙ kept.long key is_long));
}
