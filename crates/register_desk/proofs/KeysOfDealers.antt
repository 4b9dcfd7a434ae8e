-- A dealer that is found by its key is found by its number.
use Rattle.std.proofs.Common.{Bool, List, None, Option, Some, [], cond, eq-eqb, false, find, is_some, option_map, refl, subst, sym, true, ℕ, ◌==◌, ◌∷◌, ◌≡◌}
use Rattle.std.specs.Option.{option_or}
use Rattle.std.specs.Prelude.{bytes_eq, unwrap_or}
use Rattle.std.proofs.lemmas.Option.{none-some, same_Some}
use Rattle.agent_events.specs.declared.request.DealerForm.{DealerForm}
use Rattle.agent_events.specs.declared.verdict.Caller.{Caller}
use Rattle.register_desk.specs.Answered.{IsCaller}
use Rattle.register_machine.specs.journal.Journals.{Journal}
use Rattle.register_machine.specs.journal.Kinds.{dealer_numbered, dealers_of}
use Rattle.register_machine.specs.rules.Callers.{caller_of, dealer_with_key, household_with_key, known_caller}

-- one that passes is found by its number
abbrev IsNumbered : List DealerForm → ℕ → Type 0
IsNumbered dealers number = is_some (dealer_numbered dealers number) ≡ true

abbrev keyed : List DealerForm → List ℕ → Option ℕ
keyed dealers key = option_map (λ (form : DealerForm). form.dealer) (find (λ (form : DealerForm). bytes_eq form.key key) dealers)

by-number : (form : DealerForm) (dealers : List DealerForm) (number : ℕ) (b : Bool) → (form.dealer == number) ≡ b → IsNumbered dealers number → IsNumbered (form ∷ dealers) number
by-number form dealers number true same later = rw same refl
by-number form dealers number false other later = rw other later

by-key : (form : DealerForm) (dealers : List DealerForm) (key : List ℕ) (number : ℕ) (b : Bool) → bytes_eq form.key key ≡ b → keyed (form ∷ dealers) key ≡ Some number
    → (keyed dealers key ≡ Some number → IsNumbered dealers number) → IsNumbered (form ∷ dealers) number
by-key form dealers key number true same is later =
    let own : form.dealer ≡ number = same_Some form.dealer number (rw same at is) in
    rw (eq-eqb form.dealer number own) refl
by-key form dealers key number false other is later =
    by-number form dealers number (form.dealer == number) refl (later (rw other at is))

numbered : (dealers : List DealerForm) (key : List ℕ) (number : ℕ) → keyed dealers key ≡ Some number → IsNumbered dealers number
numbered [] key number is = absurd (none-some number is)
numbered (form ∷ dealers) key number is =
    by-key form dealers key number (bytes_eq form.key key) refl is (λ later. numbered dealers key number later)

-- the caller with a key is one of the journal
dealer-known : (journal : Journal) (key : List ℕ) (dealer : Option ℕ) → dealer_with_key journal key ≡ dealer → IsCaller journal (unwrap_or (option_map Caller.Dealer dealer) Caller.Stranger)
dealer-known journal key None is = tt
dealer-known journal key (Some number) is = numbered (dealers_of journal) key number is

household-known : (journal : Journal) (key : List ℕ) (household : Option ℕ)
    → IsCaller journal (unwrap_or (option_or (option_map Caller.Household household) (option_map Caller.Dealer (dealer_with_key journal key))) Caller.Stranger)
household-known journal key None = dealer-known journal key (dealer_with_key journal key) refl
household-known journal key (Some number) = tt

operator-known : (journal : Journal) (key : List ℕ) (b : Bool) → IsCaller journal (cond b Caller.Operator (unwrap_or (known_caller journal key) Caller.Stranger))
operator-known journal key true = tt
operator-known journal key false = household-known journal key (household_with_key journal key)

pub caller_known : (journal : Journal) (operator key : List ℕ) (caller : Caller) → caller ≡ caller_of journal operator key → IsCaller journal caller
caller_known journal operator key caller is = subst (IsCaller journal) (sym is) (operator-known journal key (bytes_eq key operator))
