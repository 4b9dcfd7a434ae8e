-- Every class that a correction changes is one of the journal's.
use Rattle.std.proofs.Common.{All, Bool, List, None, Option, Some, [], ap, append-nil, arith, cond, count_by, eqb-true, false, get_or, is_some, map, nat_eq, not, option_to_list, pos, refl, sym, true, ℕ, ℤ, ◌&&◌, ◌++◌, ◌+◌, ◌==◌, ◌∙◌, ◌∷◌, ◌≡◌, ◌||◌}
use Rattle.std.proofs.lemmas.Bool.{and_parts, true≢false}
use Rattle.std.proofs.lemmas.Int.{ints}
use Rattle.std.proofs.lemmas.List.Elements.{All-head, All-nil, All-cons, All-append, All-filter, All-tail, All-weaker}
use Rattle.std.proofs.lemmas.List.Sums.{sum_by-cons}
use Rattle.std.specs.List.{list_all, list_any}
use Rattle.std.specs.List.Sorted.{IsStrictlyIncreasing}
use Rattle.std.specs.Prelude.{◌-ℤ◌}
use Rattle.agent_events.specs.Events.{Event}
use Rattle.agent_events.specs.declared.event.EventKind.{EventKind}
use Rattle.agent_events.specs.declared.order.Order.{Order}
use Rattle.agent_events.specs.declared.order.OrderRow.{OrderRow}
use Rattle.agent_events.specs.declared.order.Party.{Party}
use Rattle.agent_events.specs.declared.request.AccountForm.{AccountForm}
use Rattle.agent_events.specs.declared.request.ClassForm.{ClassForm}
use Rattle.agent_events.specs.declared.totals.Changes.{Changes}
use Rattle.desk_books.proofs.BrokenOfAll.{of-owner}
use Rattle.holder_statements.proofs.ClassesListed.{lists_holdings}
use Rattle.register_laws.specs.EventReplays.{is_correction}
use Rattle.gain_loss_book.specs.Booked.{AreDifferences}
use Rattle.gain_loss_book.specs.ClassGains.{HasChanged, changes_class, class_flows, mils_change}
use Rattle.gain_loss_book.specs.Posted.{cash_change}
use Rattle.ledger_laws.proofs.HouseholdBooks.{is_of_households}
use Rattle.register_laws.proofs.KnownAccounts.{known-replay}
use Rattle.register_laws.proofs.NamesStand.{names_stand}
use Rattle.register_laws.proofs.NoIdentityTwice.{no_account_twice}
use Rattle.register_laws.proofs.OneEventMore.{gathers-on}
use Rattle.register_laws.proofs.PartyFacts.{booked_parties, stands-once}
use Rattle.register_laws.proofs.TradeParties.{KnownMovement, KnownOrder, KnownTarget, replay-moves}
use Rattle.register_laws.proofs.Unreached.{all-unfiltered}
use Rattle.register_laws.specs.Households.{is_of_household, is_own_position}
use Rattle.register_laws.specs.Identities.{has_number, is_class}
use Rattle.register_laws.specs.Lawful.{book_behind}
use Rattle.register_laws.specs.NamesStand.{is_placed_in}
use Rattle.register_machine.proofs.ListItems.{all-of}
use Rattle.register_machine.specs.corrections.Cash.{Movement, cash_of, cents_paid, cents_paid_in, cents_received, cents_received_in, movements_of, outstanding, outstanding_in, same_party}
use Rattle.register_machine.specs.corrections.Gains.{class_numbers_of, dealer_numbers_of, is_nothing, rising_numbers}
use Rattle.register_machine.specs.journal.Journals.{Journal, with_event}
use Rattle.register_machine.specs.journal.Kinds.{accounts_of, class_in, classes_of, household_of}
use Rattle.register_machine.specs.journal.Lawful.{IsLawful}
use Rattle.register_machine.specs.pricing.CorrectedOrders.{orders_of, stands}
use Rattle.register_machine.specs.pricing.OrderClasses.{class_of, classes_in, target_of}
use Rattle.register_machine.specs.replay.Positions.{Position, Register, mils_of}
use Rattle.register_machine.specs.replay.Replay.{replay}

-- ---- a class of the journal is among the numbers of its classes

not-among : (class : ℕ) (numbers : List ℕ) → list_any (nat_eq class) numbers ≡ false → All (λ (party : Party). same_party (Party.Class class) party ≡ false) (map (λ number. Party.Class number) numbers)
not-among class [] none = All-nil (λ (party : Party). same_party (Party.Class class) party ≡ false)
not-among class (number ∷ numbers) none =
    let parts = or-parts (nat_eq class number) (list_any (nat_eq class) numbers) none in
    All-cons (λ (party : Party). same_party (Party.Class class) party ≡ false) (Party.Class number) (map (λ n. Party.Class n) numbers) parts.0
    (not-among class numbers parts.1)
  where
    or-parts : (a b : Bool) → (a || b) ≡ false → (a ≡ false) × (b ≡ false)
    or-parts true b e = absurd (true≢false e)
    or-parts false b e = (refl, e)

none-counted : (class : ℕ) (parties : List Party) → All (λ (party : Party). same_party (Party.Class class) party ≡ false) parties → count_by (same_party (Party.Class class)) parties ≡ 0
none-counted class [] none = refl
none-counted class (party ∷ parties) none =
    let own = ap {B = ℕ} (λ b. cond b 1 0) (All-head (λ (p : Party). same_party (Party.Class class) p ≡ false) party parties none) in
    let rest = none-counted class parties (All-tail (λ (p : Party). same_party (Party.Class class) p ≡ false) party parties none) in
    omega (arith, sum_by-cons (λ p. cond (same_party (Party.Class class) p) 1 0) party parties, own, rest)

others-differ : {X : Type 0} (class : ℕ) (party : X → Party) → ((x : X) → same_party (Party.Class class) (party x) ≡ false) → (xs : List X) → All (λ (p : Party). same_party (Party.Class class) p ≡ false) (map party xs)
others-differ class party differ [] = All-nil (λ (p : Party). same_party (Party.Class class) p ≡ false)
others-differ class party differ (x ∷ xs) =
    All-cons (λ (p : Party). same_party (Party.Class class) p ≡ false) (party x) (map party xs) (differ x) (others-differ class party differ xs)

class-listed : (journal : Journal) (class : ℕ) → IsLawful journal → list_any (is_class class) (classes_of journal) ≡ true → list_any (nat_eq class) (class_numbers_of journal) ≡ true
class-listed journal class lawful known = by (list_any (nat_eq class) (class_numbers_of journal)) refl
  where
    none : list_any (nat_eq class) (class_numbers_of journal) ≡ false → count_by (same_party (Party.Class class)) (booked_parties (class_numbers_of journal) (dealer_numbers_of journal) (accounts_of journal)) ≡ 0
    none missing =
        let same : Party → Type 0 = λ party. same_party (Party.Class class) party ≡ false in
        none-counted class (booked_parties (class_numbers_of journal) (dealer_numbers_of journal) (accounts_of journal))
        (All-append same (map (λ number. Party.Class number) (class_numbers_of journal)) (Party.Underwriter ∷ Party.Agent ∷ (map (λ number. Party.Dealer number) (dealer_numbers_of journal) ++ map (λ (form : AccountForm). Party.Holder form.account) (accounts_of journal)))
        (not-among class (class_numbers_of journal) missing)
        (All-cons same Party.Underwriter (Party.Agent ∷ (map (λ number. Party.Dealer number) (dealer_numbers_of journal) ++ map (λ (form : AccountForm). Party.Holder form.account) (accounts_of journal))) refl
        (All-cons same Party.Agent (map (λ number. Party.Dealer number) (dealer_numbers_of journal) ++ map (λ (form : AccountForm). Party.Holder form.account) (accounts_of journal)) refl
        (All-append same (map (λ number. Party.Dealer number) (dealer_numbers_of journal)) (map (λ (form : AccountForm). Party.Holder form.account) (accounts_of journal))
        (others-differ class (λ (number : ℕ). Party.Dealer number) (λ number. refl) (dealer_numbers_of journal))
        (others-differ class (λ (form : AccountForm). Party.Holder form.account) (λ form. refl) (accounts_of journal))))))

    by : (b : Bool) → list_any (nat_eq class) (class_numbers_of journal) ≡ b → b ≡ true
    by true there = refl
    by false missing =
        let once = stands-once journal (no_account_twice journal lawful) (Party.Class class) known in
        absurd (omega (arith, once, none missing))

-- ---- no movement is of another class

abbrev Listed : Journal → Party → Type 0
Listed journal (Party.Class class) = list_any (is_class class) (classes_of journal) ≡ true
Listed journal _ = Unit {0}

order-listed : (journal : Journal) (order : Order) → list_all (λ class. list_any (is_class class) (classes_of journal)) (classes_in order.body) ≡ true → KnownOrder (Listed journal) order
order-listed journal order all =
    let parts = and_parts (list_any (is_class (class_of order.body)) (classes_of journal)) (list_all (λ class. list_any (is_class class) (classes_of journal)) (option_to_list (target_of order.body))) all in
    record { account = tt; class = parts.0; target = by (target_of order.body) parts.1 }
  where
    by : (target : Option ℕ) → list_all (λ class. list_any (is_class class) (classes_of journal)) (option_to_list target) ≡ true → KnownTarget (Listed journal) target
    by None e = tt
    by (Some to) e = (and_parts (list_any (is_class to) (classes_of journal)) true e).0

moves-listed : (journal : Journal) → IsLawful journal → All (KnownMovement (Listed journal)) (movements_of (replay (book_behind journal)).trades)
moves-listed journal lawful =
    replay-moves (Listed journal) tt (book_behind journal)
    (All-filter stands (λ (row : OrderRow). KnownOrder (Listed journal) row.order) (orders_of journal)
    (All-weaker (λ (row : OrderRow). is_placed_in journal row.order ≡ true) (λ (row : OrderRow). KnownOrder (Listed journal) row.order)
    (λ row placed. order-listed journal row.order (and_parts (list_any (has_number row.order.account) (accounts_of journal)) (list_all (λ class. list_any (is_class class) (classes_of journal)) (classes_in row.order.body)) placed).1)
    (orders_of journal) (all-of (λ (row : OrderRow). is_placed_in journal row.order) (orders_of journal) (names_stand journal lawful).orders)))

module _ (journal : Journal) (class : ℕ) (unknown : list_any (is_class class) (classes_of journal) ≡ false) where
  not-its : (party : Party) → Listed journal party → same_party party (Party.Class class) ≡ false
  not-its (Party.Class other) listed = by (other == class) refl
    where
      by : (b : Bool) → (other == class) ≡ b → b ≡ false
      by true is =
          absurd (true≢false (sym listed ∙ (ap (λ n. list_any (is_class n) (classes_of journal)) (eqb-true other class is) ∙ unknown)))
      by false is = refl
  not-its (Party.Holder account) listed = refl
  not-its (Party.Dealer dealer) listed = refl
  not-its Party.Underwriter listed = refl
  not-its Party.Agent listed = refl

  none-moved : (movements : List Movement) → All (KnownMovement (Listed journal)) movements → (cents_received movements (Party.Class class) ≡ 0) × (cents_paid movements (Party.Class class) ≡ 0)
  none-moved [] all = (refl, refl)
  none-moved (movement ∷ movements) all =
      let own = All-head (KnownMovement (Listed journal)) movement movements all in
      let rest = none-moved movements (All-tail (KnownMovement (Listed journal)) movement movements all) in
      let taken = ap {B = ℕ} (λ b. cond b movement.cents 0) (not-its movement.taker own.taker) in
      let given = ap {B = ℕ} (λ b. cond b movement.cents 0) (not-its movement.giver own.giver) in
      (omega (arith, sum_by-cons (cents_received_in (Party.Class class)) movement movements, taken, rest.0), omega (arith, sum_by-cons (cents_paid_in (Party.Class class)) movement movements, given, rest.1))

  no-cash : IsLawful journal → cash_of (replay (book_behind journal)).trades (Party.Class class) ≡ pos 0
  no-cash lawful =
      let none = none-moved (movements_of (replay (book_behind journal)).trades) (moves-listed journal lawful) in
      omega (arith, ints, none.0, none.1)

-- ---- no position is of another class

positions-known : (journal : Journal) → IsLawful journal → All (λ (p : Position). is_some (household_of (accounts_of journal) p.account) ≡ true) (replay (book_behind journal)).register
unfolding replay
positions-known journal lawful =
    (known-replay (book_behind journal) (λ number. is_some (household_of (accounts_of journal) number)) (is_of_households journal lawful).owned (book_behind journal).table.sheets).positions

positions-listed : (journal : Journal) → IsLawful journal → All (λ (p : Position). list_any (nat_eq p.class) (class_numbers_of journal) ≡ true) (replay (book_behind journal)).register
positions-listed journal lawful k d short =
    let register = (replay (book_behind journal)).register in
    let p = get_or register k d in
    let owner = of-owner (household_of (accounts_of journal) p.account) (positions-known journal lawful k d short) in
    all-unfiltered (λ (q : Position). q.account ≡ p.account → list_any (nat_eq q.class) (class_numbers_of journal) ≡ true)
    (is_own_position (is_of_household (accounts_of journal) owner.0)) register
    ((lists_holdings journal owner.0 lawful).listed p.account) k d short owner.1 refl

none-outstanding : (numbers : List ℕ) (class : ℕ) → list_any (nat_eq class) numbers ≡ false → (register : Register) → All (λ (p : Position). list_any (nat_eq p.class) numbers ≡ true) register → outstanding register class ≡ 0
none-outstanding numbers class missing [] all = refl
none-outstanding numbers class missing (p ∷ register) all =
    let own = All-head (λ (q : Position). list_any (nat_eq q.class) numbers ≡ true) p register all in
    let rest = none-outstanding numbers class missing register (All-tail (λ (q : Position). list_any (nat_eq q.class) numbers ≡ true) p register all) in
    omega (arith, sum_by-cons (outstanding_in class) p register, by (p.class == class) refl own, rest)
  where
    by : (b : Bool) → (p.class == class) ≡ b → list_any (nat_eq p.class) numbers ≡ true → outstanding_in class p ≡ 0
    by true is own =
        absurd (true≢false (sym own ∙ (ap (λ n. list_any (nat_eq n) numbers) (eqb-true p.class class is) ∙ missing)))
    by false is own = ap {B = ℕ} (λ b. cond b (mils_of p.holding) 0) is

-- ---- what changes

-- the numbers rise
pub numbers_rise : (journal : Journal) → IsLawful journal → IsStrictlyIncreasing (class_numbers_of journal)
numbers_rise journal lawful k short =
    (lists_holdings journal 0 lawful).rise k (k + 1) 0 (omega arith) short

-- a correction brings no class
same-classes : (journal : Journal) (event : Event) → is_correction event.kind ≡ true → class_numbers_of (with_event journal event) ≡ class_numbers_of journal
same-classes journal event corrects =
    ap (λ (forms : List ClassForm). rising_numbers (map (λ (form : ClassForm). form.class) forms))
    (gathers-on class_in journal event
    ∙ (ap (λ (found : Option ClassForm). classes_of journal ++ option_to_list found) (no-class event.kind corrects) ∙ append-nil (classes_of journal)))
  where
    no-class : (kind : EventKind) → is_correction kind ≡ true → class_in kind ≡ None
    no-class (EventKind.Class form) is = absurd (true≢false (sym is))
    no-class _ is = refl

-- a class that isn't among them has neither cash nor shares
record HasNothing (journal : Journal) (class : ℕ) : Type 0 where
  pub cash : cash_of (replay (book_behind journal)).trades (Party.Class class) ≡ pos 0
  pub mils : outstanding (replay (book_behind journal)).register class ≡ 0

has-nothing : (journal : Journal) (class : ℕ) → IsLawful journal → list_any (nat_eq class) (class_numbers_of journal) ≡ false → HasNothing journal class
has-nothing journal class lawful missing = record {
  cash = no-cash journal class (by (list_any (is_class class) (classes_of journal)) refl) lawful;
  mils = none-outstanding (class_numbers_of journal) class missing (replay (book_behind journal)).register (positions-listed journal lawful);
}
  where
    by : (b : Bool) → list_any (is_class class) (classes_of journal) ≡ b → b ≡ false
    by true known = absurd (true≢false (sym (class-listed journal class lawful known) ∙ missing))
    by false none = refl

nothing : (change : ℤ) → change ≡ pos 0 → is_nothing change ≡ true
nothing change is = ap is_nothing is

pub has_changed : (journal : Journal) (event : Event) (changes : Changes) → IsLawful journal → IsLawful (with_event journal event) → is_correction event.kind ≡ true → AreDifferences changes (replay (book_behind journal)) (replay (book_behind (with_event journal event))) → HasChanged (class_numbers_of journal) changes
has_changed journal event changes lawful later corrects are class differs = by (list_any (nat_eq class) (class_numbers_of journal)) refl
  where
    zero-less : (change after before : ℤ) → change ≡ after -ℤ before → after ≡ pos 0 → before ≡ pos 0 → change ≡ pos 0
    zero-less change after before is one other = omega (arith, ints, is, one, other)

    same : list_any (nat_eq class) (class_numbers_of journal) ≡ false → changes_class (class_flows changes class) ≡ false
    same missing =
        let before = has-nothing journal class lawful missing in
        let after = has-nothing (with_event journal event) class later (ap (list_any (nat_eq class)) (same-classes journal event corrects) ∙ missing) in
        let cash = zero-less (cash_change changes.cash (Party.Class class)) (cash_of (replay (book_behind (with_event journal event))).trades (Party.Class class)) (cash_of (replay (book_behind journal)).trades (Party.Class class)) (are.cash (Party.Class class)) after.cash before.cash in
        let mils = zero-less (mils_change changes.outstanding class) (pos (outstanding (replay (book_behind (with_event journal event))).register class)) (pos (outstanding (replay (book_behind journal)).register class)) (are.mils class) (ap pos after.mils) (ap pos before.mils) in
        ap (λ b. not (b && is_nothing (mils_change changes.outstanding class))) (nothing (cash_change changes.cash (Party.Class class)) cash)
        ∙ ap (λ b. not (true && b)) (nothing (mils_change changes.outstanding class) mils)

    by : (b : Bool) → list_any (nat_eq class) (class_numbers_of journal) ≡ b → b ≡ true
    by true there = refl
    by false missing = absurd (true≢false (sym differs ∙ same missing))
