-- What the households come to behind the last sheet can be kept of them.
use Rattle.std.proofs.Common.{All, Bool, Contains, List, None, Some, ap, cond, eqb-true, false, length, nat_eq, refl, subst, sym, true, true≢false, ℕ, ◌==◌, ◌∙◌, ◌≡◌, ◌⊎◌, inl, inr}
use Rattle.std.proofs.lemmas.List.Elements.{All-contains, All-weaker}
use Rattle.std.specs.Option.{is_some}
use Rattle.checkpoint_replay.specs.Parts.{part_in, state_in}
use Rattle.checkpoint_replay.specs.declared.part.HouseholdPart.{HouseholdPart}
use Rattle.household_fold.specs.Households.{Household}
use Rattle.ledger_laws.proofs.StatesStay.{last_is_as_of}
use Rattle.ledger_laws.specs.KeptOfBooks.{AreKeptOf, IsAsOf}
use Rattle.checkpoint_replay.specs.KeptStates.{states_in}
use Rattle.checkpoint_replay.specs.declared.states.KeptState.{KeptState}
use Rattle.ledger_laws.specs.Ledgers.{IsLedgerOf}
use Rattle.register_machine.specs.pricing.CorrectedBook.{Book}
use Rattle.register_machine.specs.replay.Trades.{Day}
use Rattle.standing_orders.specs.SettledOrders.{AllAreSettled}

-- the state of a household, where there is one, has its number and its positions
there : (empty : Bool) (own state : Household) → cond empty None (Some own) ≡ Some state → state ≡ own
there true own state same = absurd (true≢false (sym (ap is_some same)))
there false own state same = cc

state-there : (parts : List (ℕ × HouseholdPart)) (household : ℕ) (state : Household) → state_in parts household ≡ Some state → state ≡ record { number = household; register = (part_in parts household).register }
state-there parts household state same =
    let register = (part_in parts household).register in
    there (length register == 0) (record { number = household; register = register }) state same

-- one that the ledger shows, kept with the last sheet
pub shown-is-as-of : (book : Book) (parts : List (ℕ × HouseholdPart)) (household : ℕ) (kept : KeptState) → IsLedgerOf book parts → kept.sheet ≡ length book.table.sheets → state_in parts household ≡ Some kept.state → kept.trades ≡ length (part_in parts household).trades → AllAreSettled book kept.orders kept.sheet → IsAsOf book household kept
shown-is-as-of book parts household kept ledger last shown counted settled =
    let is = state-there parts household kept.state shown in
    last_is_as_of book household kept (record {
      sheet = last;
      own = ap (λ (state : Household). state.number) is;
      register = ap (λ (state : Household). state.register) is ∙ ap (λ (day : Day). day.register) (ledger.part household);
      counted = counted ∙ ap (λ (day : Day). length day.trades) (ledger.part household);
      begun = settled.begun;
      settled = settled.settled household;
    })

-- with one more, kept states are still what the households came to
pub one-more-kept : (book : Book) (household : ℕ) (state : KeptState) (old new : List (ℕ × List KeptState)) → All (λ kept. Contains (states_in old household) kept ⊎ (kept ≡ state)) (states_in new household) → ((other : ℕ) → nat_eq household other ≡ false → states_in new other ≡ states_in old other) → IsAsOf book household state → AreKeptOf book old → AreKeptOf book new
one-more-kept book household state old new own others is are other = by (nat_eq household other) refl
  where
    each : (kept : KeptState) → Contains (states_in old household) kept ⊎ (kept ≡ state) → IsAsOf book household kept
    each kept (inl among) = All-contains (IsAsOf book household) (states_in old household) kept (are household) among
    each kept (inr same) = subst (IsAsOf book household) (sym same) is

    by : (same : Bool) → nat_eq household other ≡ same → All (IsAsOf book other) (states_in new other)
    by true same =
        subst (λ number. All (IsAsOf book number) (states_in new number)) (eqb-true household other same)
        (All-weaker (λ kept. Contains (states_in old household) kept ⊎ (kept ≡ state)) (IsAsOf book household) each (states_in new household) own)
    by false apart = subst (All (IsAsOf book other)) (sym (others other apart)) (are other)
