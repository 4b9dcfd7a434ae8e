-- The trades of a ledger, household by household, bring what all trades of the replay bring.
use Rattle.std.proofs.Common.{All, Bool, List, None, Option, Some, [], ap, arith, cond, eq-eqb, eqb-true, false, filter, is_some, nat_eq, pos, refl, subst, sym, true, true≢false, ℕ, ℤ, ◌+ℤ◌, ◌==◌, ◌∙◌, ◌∷◌, ◌≡◌, ◌||◌}
use Rattle.std.proofs.lemmas.Int.{ints}
use Rattle.std.proofs.lemmas.List.Elements.{All-head, All-tail}
use Rattle.std.proofs.lemmas.Map.Keys.{IsDistinct-cons, IsDistinct-head, IsDistinct-tail}
use Rattle.std.specs.Cmp.{nat_eq_equiv}
use Rattle.std.specs.List.{IsDistinct, list_any}
use Rattle.std.specs.Option.{option_map_or}
use Rattle.agent_events.specs.declared.request.AccountForm.{AccountForm}
use Rattle.agent_events.specs.declared.trade.Trade.{Trade}
use Rattle.checkpoint_replay.proofs.FlowsOfMoves.{IsAdditive, all-same, same-flows}
use Rattle.checkpoint_replay.proofs.SheetMoves.{none-from-apart}
use Rattle.checkpoint_replay.proofs.TalliedLaw.{none-apart}
use Rattle.checkpoint_replay.specs.Parts.{part_in}
use Rattle.checkpoint_replay.specs.Tallied.{IsSumOver, flow_of_all}
use Rattle.checkpoint_replay.specs.declared.part.HouseholdPart.{HouseholdPart}
use Rattle.gain_loss_book.proofs.PostedFacts.{flow-in, flow-out}
use Rattle.gain_loss_book.specs.Flows.{net, with_flow}
use Rattle.gain_loss_book.specs.declared.flows.Flow.{Flow}
use Rattle.register_machine.specs.journal.Kinds.{household_of}
use Rattle.register_machine.specs.replay.Trades.{Day}

abbrev owner_of : List AccountForm → Trade → Option ℕ
owner_of accounts trade = household_of accounts trade.account

abbrev is_by : Option ℕ → ℕ → Bool
is_by owner household = option_map_or (λ number. number == household) owner false

-- the trades of a household among these
abbrev trades_by : List AccountForm → List Trade → ℕ → List Trade
trades_by accounts trades household = filter (λ (trade : Trade). is_by (owner_of accounts trade) household) trades

abbrev days_by : List AccountForm → List Trade → ℕ → Day
days_by accounts trades household = record { register = []; trades = trades_by accounts trades household }

-- ---- each trade is of one household

-- what one trade more brings, where its household is among these
abbrev brought_once : Bool → ℤ → ℤ
brought_once there more = cond there more (pos 0)

-- one household more: the trade is its own, or of those behind
first-more : (flow : List Trade → Flow) → IsAdditive flow → (trade : Trade) (own : List Trade) (here later : Bool) (rest more : Flow) → (here ≡ true → later ≡ false) → net more ≡ net rest +ℤ brought_once later (net (flow (trade ∷ []))) → net (with_flow (flow (cond here (trade ∷ own) own)) more) ≡ net (with_flow (flow own) rest) +ℤ brought_once (here || later) (net (flow (trade ∷ [])))
first-more flow additive trade own true later rest more apart behind =
    let none = ap (λ (b : Bool). brought_once b (net (flow (trade ∷ [])))) (apart refl) in
    let both = additive (trade ∷ []) own in
    omega (arith, ints, flow-in _ _ both, flow-out _ _ both, behind, none)
first-more flow additive trade own false later rest more apart behind =
    omega (arith, ints, behind)

one-more : (flow : List Trade → Flow) → IsAdditive flow → (accounts : List AccountForm) (trade : Trade) (trades : List Trade) (k : ℕ) → owner_of accounts trade ≡ Some k → (households : List ℕ) → IsDistinct nat_eq households → net (flow_of_all flow (days_by accounts (trade ∷ trades)) households) ≡ net (flow_of_all flow (days_by accounts trades) households) +ℤ brought_once (list_any (nat_eq k) households) (net (flow (trade ∷ [])))
one-more flow additive accounts trade trades k owner [] distinct = omega (arith, ints)
one-more flow additive accounts trade trades k owner (h ∷ hs) distinct =
    let own = trades_by accounts trades h in
    let rest = flow_of_all flow (days_by accounts trades) hs in
    let more = flow_of_all flow (days_by accounts (trade ∷ trades)) hs in
    let apart : nat_eq k h ≡ true → list_any (nat_eq k) hs ≡ false = λ same.
    subst (λ n. list_any (nat_eq n) hs ≡ false) (sym (eqb-true k h same)) (none-from-apart h hs (IsDistinct-head nat_eq h hs distinct)) in
    ap (λ (found : Option ℕ). net (with_flow (flow (cond (is_by found h) (trade ∷ own) own)) more)) owner
    ∙ first-more flow additive trade own (nat_eq k h) (list_any (nat_eq k) hs) rest more apart
    (one-more flow additive accounts trade trades k owner hs (IsDistinct-tail nat_eq h hs distinct))

-- ---- all trades

nothing-brought : (flow : List Trade → Flow) → IsAdditive flow → net (flow []) ≡ pos 0
nothing-brought flow additive = omega (arith, ints, flow-in _ _ (additive [] []), flow-out _ _ (additive [] []))

no-trades : (flow : List Trade → Flow) → IsAdditive flow → (accounts : List AccountForm) (households : List ℕ) → net (flow_of_all flow (days_by accounts []) households) ≡ pos 0
no-trades flow additive accounts [] = omega (arith, ints)
no-trades flow additive accounts (h ∷ hs) =
    omega (arith, ints, nothing-brought flow additive, no-trades flow additive accounts hs)

-- the households without trades are not among these
abbrev CoversTrades : List AccountForm → List Trade → List ℕ → Type 0
CoversTrades accounts trades households =
    (household : ℕ) → list_any (nat_eq household) households ≡ false → trades_by accounts trades household ≡ []

any-empty : {X : Type 0} (x : X) (xs : List X) → x ∷ xs ≡ [] → true ≡ false
any-empty {X} x xs e = ap (λ (ys : List X). has ys) e
  where
    has : List X → Bool
    has [] = false
    has (y ∷ ys) = true

covers-rest : (accounts : List AccountForm) (trade : Trade) (trades : List Trade) (households : List ℕ) → CoversTrades accounts (trade ∷ trades) households → CoversTrades accounts trades households
covers-rest accounts trade trades households covers household missing =
    by (is_by (owner_of accounts trade) household) (covers household missing)
  where
    by : (b : Bool) → cond b (trade ∷ trades_by accounts trades household) (trades_by accounts trades household) ≡ [] → trades_by accounts trades household ≡ []
    by true e = absurd (true≢false (any-empty trade (trades_by accounts trades household) e))
    by false e = e

owner-there : (accounts : List AccountForm) (trade : Trade) (trades : List Trade) (k : ℕ) → owner_of accounts trade ≡ Some k → (households : List ℕ) → CoversTrades accounts (trade ∷ trades) households → list_any (nat_eq k) households ≡ true
owner-there accounts trade trades k owner households covers = by (list_any (nat_eq k) households) refl
  where
    by : (b : Bool) → list_any (nat_eq k) households ≡ b → b ≡ true
    by true there = refl
    by false missing =
        let own = trades_by accounts trades k in
        let mine : is_by (owner_of accounts trade) k ≡ true = ap (λ (found : Option ℕ). is_by found k) owner ∙ eq-eqb k k refl in
        absurd (true≢false (any-empty trade own (ap (λ (b : Bool). cond b (trade ∷ own) own) (sym mine) ∙ covers k missing)))

abbrev IsOwned : List AccountForm → Trade → Type 0
IsOwned accounts trade = is_some (owner_of accounts trade) ≡ true

some-owner : (found : Option ℕ) → is_some found ≡ true → (k : ℕ) × (found ≡ Some k)
some-owner None there = absurd (true≢false (sym there))
some-owner (Some k) there = (k, refl)

pub all-brought : (flow : List Trade → Flow) → IsAdditive flow → (accounts : List AccountForm) (trades : List Trade) → All (IsOwned accounts) trades → (households : List ℕ) → IsDistinct nat_eq households → CoversTrades accounts trades households → net (flow_of_all flow (days_by accounts trades) households) ≡ net (flow trades)
all-brought flow additive accounts [] owned households distinct covers =
    no-trades flow additive accounts households ∙ sym (nothing-brought flow additive)
all-brought flow additive accounts (trade ∷ trades) owned households distinct covers =
    let owner = some-owner (owner_of accounts trade) (All-head (IsOwned accounts) trade trades owned) in
    let rest = all-brought flow additive accounts trades (All-tail (IsOwned accounts) trade trades owned) households distinct (covers-rest accounts trade trades households covers) in
    let more = one-more flow additive accounts trade trades owner.0 owner.1 households distinct in
    let once = ap (λ (b : Bool). brought_once b (net (flow (trade ∷ [])))) (owner-there accounts trade trades owner.0 owner.1 households covers) in
    let both = additive (trade ∷ []) trades in
    omega (arith, ints, more, once, rest, flow-in _ _ both, flow-out _ _ both)

-- ---- the households of trades, each once

with_owner : Option ℕ → List ℕ → List ℕ
with_owner None hs = hs
with_owner (Some k) hs = cond (list_any (nat_eq k) hs) hs (k ∷ hs)

pub owners : List AccountForm → List Trade → List ℕ
owners accounts [] = []
owners accounts (trade ∷ trades) = with_owner (owner_of accounts trade) (owners accounts trades)

with-distinct : (found : Option ℕ) (hs : List ℕ) → IsDistinct nat_eq hs → IsDistinct nat_eq (with_owner found hs)
unfolding with_owner
with-distinct None hs distinct = distinct
with-distinct (Some k) hs distinct = by (list_any (nat_eq k) hs) refl
  where
    by : (b : Bool) → list_any (nat_eq k) hs ≡ b → IsDistinct nat_eq (cond b hs (k ∷ hs))
    by true there = distinct
    by false none = IsDistinct-cons nat_eq k hs (none-apart k hs none) distinct

pub owners-distinct : (accounts : List AccountForm) (trades : List Trade) → IsDistinct nat_eq (owners accounts trades)
unfolding owners IsDistinct
owners-distinct accounts [] = tt
owners-distinct accounts (trade ∷ trades) = with-distinct (owner_of accounts trade) (owners accounts trades) (owners-distinct accounts trades)

-- a household that isn't among them has no trade
not-by : (found : Option ℕ) (hs : List ℕ) (household : ℕ) → list_any (nat_eq household) (with_owner found hs) ≡ false → (is_by found household ≡ false) × (list_any (nat_eq household) hs ≡ false)
unfolding with_owner
not-by None hs household missing = (refl, missing)
not-by (Some k) hs household missing = by (list_any (nat_eq k) hs) refl missing
  where
    other : (b : Bool) → nat_eq household k ≡ b → list_any (nat_eq k) hs ≡ true → list_any (nat_eq household) hs ≡ false → nat_eq k household ≡ false
    other true same there none = absurd (true≢false (sym there ∙ (ap (λ n. list_any (nat_eq n) hs) (sym (eqb-true household k same)) ∙ none)))
    other false same there none = nat_eq_equiv.symm k household ∙ same

    first : (b : Bool) → nat_eq household k ≡ b → (b || list_any (nat_eq household) hs) ≡ false → (nat_eq k household ≡ false) × (list_any (nat_eq household) hs ≡ false)
    first true same e = absurd (true≢false e)
    first false same e = (nat_eq_equiv.symm k household ∙ same, e)

    by : (b : Bool) → list_any (nat_eq k) hs ≡ b → list_any (nat_eq household) (cond b hs (k ∷ hs)) ≡ false → (nat_eq k household ≡ false) × (list_any (nat_eq household) hs ≡ false)
    by true there e = (other (nat_eq household k) refl there e, e)
    by false none e = first (nat_eq household k) refl e

pub owners-cover : (accounts : List AccountForm) (trades : List Trade) → CoversTrades accounts trades (owners accounts trades)
unfolding owners
owners-cover accounts [] household missing = refl
owners-cover accounts (trade ∷ trades) household missing =
    let own = trades_by accounts trades household in
    let none = not-by (owner_of accounts trade) (owners accounts trades) household missing in
    ap (λ (b : Bool). cond b (trade ∷ own) own) none.0 ∙ owners-cover accounts trades household none.1

-- ---- ledgers

-- the parts show the trades of these accounts, household by household
abbrev pub ShowTrades : List AccountForm → List Trade → List (ℕ × HouseholdPart) → Type 0
ShowTrades accounts trades parts = (household : ℕ) → (part_in parts household).trades ≡ trades_by accounts trades household

pub sum-of-all : (flow : List Trade → Flow) → IsAdditive flow → (accounts : List AccountForm) (trades : List Trade) (parts : List (ℕ × HouseholdPart)) → All (IsOwned accounts) trades → ShowTrades accounts trades parts → IsSumOver flow (part_in parts) (net (flow trades))
sum-of-all flow additive accounts trades parts owned shown =
    λ households distinct covers.
    sym (ap net (same-flows flow (part_in parts) (days_by accounts trades) households (all-same (part_in parts) (days_by accounts trades) shown households))
    ∙ all-brought flow additive accounts trades owned households distinct (λ household missing. sym (shown household) ∙ covers household missing))

-- and no other total is their sum
pub one-sum : (flow : List Trade → Flow) (accounts : List AccountForm) (trades : List Trade) (parts : List (ℕ × HouseholdPart)) → ShowTrades accounts trades parts → (a b : ℤ) → IsSumOver flow (part_in parts) a → IsSumOver flow (part_in parts) b → a ≡ b
one-sum flow accounts trades parts shown a b first other =
    let households = owners accounts trades in
    let distinct = owners-distinct accounts trades in
    let covers : (household : ℕ) → list_any (nat_eq household) households ≡ false → (part_in parts household).trades ≡ [] = λ household missing. shown household ∙ owners-cover accounts trades household missing in
    first households distinct covers ∙ sym (other households distinct covers)

-- ---- households that cover two ledgers and the moves between them

-- these numbers too, each once
pub joined : List ℕ → List ℕ → List ℕ
joined [] hs = hs
joined (k ∷ ks) hs = with_owner (Some k) (joined ks hs)

pub joined-distinct : (ks hs : List ℕ) → IsDistinct nat_eq hs → IsDistinct nat_eq (joined ks hs)
unfolding joined
joined-distinct [] hs distinct = distinct
joined-distinct (k ∷ ks) hs distinct = with-distinct (Some k) (joined ks hs) (joined-distinct ks hs distinct)

pub not-joined : (ks hs : List ℕ) (household : ℕ) → list_any (nat_eq household) (joined ks hs) ≡ false → (list_any (nat_eq household) ks ≡ false) × (list_any (nat_eq household) hs ≡ false)
unfolding joined
not-joined [] hs household missing = (refl, missing)
not-joined (k ∷ ks) hs household missing =
    let first = not-by (Some k) (joined ks hs) household missing in
    let rest = not-joined ks hs household first.1 in
    (ap (λ b. b || list_any (nat_eq household) ks) (nat_eq_equiv.symm household k ∙ first.0) ∙ rest.0, rest.1)
