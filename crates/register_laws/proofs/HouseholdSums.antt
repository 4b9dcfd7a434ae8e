-- Totals over all are the sums over the households, since each order of a lawful journal is of exactly one.
use Rattle.std.proofs.Common.{All, Bool, List, Option, Some, [], ap, arith, cond, count_by, false, filter, find, flat_map, fold, refl, subst, sum_by, sym, true, ℕ, ◌*◌, ◌+◌, ◌==◌, ◌||◌, ◌∙◌, ◌∷◌, ◌≡◌, ◌≤◌}
use Rattle.std.proofs.lemmas.Bool.{and_parts, eq-eqb, eqb-true, true≢false}
use Rattle.std.proofs.lemmas.List.Elements.{All-filter, All-weaker, All-cons, All-nil}
use Rattle.std.proofs.lemmas.List.Sums.{length-filter, sum_by-append, sum_by-cons}
use Rattle.std.specs.List.{list_all, list_any}
use Rattle.std.specs.Option.{option_map_or}
use Rattle.std.specs.Prelude.{option_map, pos, ◌+ℤ◌, ◌-ℤ◌}
use Rattle.agent_events.specs.declared.order.OrderRow.{OrderRow}
use Rattle.agent_events.specs.declared.order.Party.{Party}
use Rattle.agent_events.specs.declared.request.AccountForm.{AccountForm}
use Rattle.agent_events.specs.declared.request.HouseholdForm.{HouseholdForm}
use Rattle.agent_events.specs.declared.trade.Trade.{Trade}
use Rattle.forward_price.specs.declared.price_sheet.Sheet.{Sheet}
use Rattle.register_laws.proofs.CashBalances.{differences, sum-where}
use Rattle.register_laws.proofs.KnownAccounts.{known-replay}
use Rattle.register_laws.proofs.NamesStand.{names_stand}
use Rattle.register_laws.proofs.NoIdentityTwice.{no_household_twice}
use Rattle.register_laws.proofs.Sums.{count-map, passing, sum-filtered, sum-same, sums-exchange}
use Rattle.register_laws.specs.HouseholdSums.{IsSumOfParts, cash_in_parts, household_numbers, outstanding_in_parts, times_owned}
use Rattle.register_laws.specs.Households.{is_of_household, is_own_position, is_own_trade, part_of}
use Rattle.register_laws.specs.Identities.{has_number, is_class, is_household}
use Rattle.register_laws.specs.Lawful.{book_behind}
use Rattle.register_laws.specs.NamesStand.{has_its_household, is_placed_in}
use Rattle.register_machine.proofs.ListItems.{any-counted}
use Rattle.register_machine.specs.corrections.Cash.{Movement, cash_of, cents_paid, cents_paid_in, cents_received, cents_received_in, movements_in, movements_of, outstanding, outstanding_in}
use Rattle.register_machine.specs.journal.Journals.{Journal}
use Rattle.register_machine.specs.journal.Kinds.{accounts_of, classes_of, household_of, households_of}
use Rattle.register_machine.specs.pricing.OrderClasses.{classes_in}
use Rattle.register_machine.specs.journal.Lawful.{IsLawful}
use Rattle.register_machine.specs.pricing.CorrectedOrders.{orders_of, stands}
use Rattle.register_machine.specs.replay.Positions.{Position}
use Rattle.register_machine.specs.replay.Replay.{replay_over}
use Rattle.register_machine.specs.replay.Trades.{Day}

-- ---- sums over parts

sum-of-parts : {X : Type 0} (f : X → ℕ) (own : ℕ → X → Bool) (households : List ℕ) (xs : List X) → All (λ x. count_by (λ h. own h x) households ≡ 1) xs → sum_by f xs ≡ sum_by (λ h. sum_by f (filter (own h) xs)) households
sum-of-parts f own households xs once =
    sym
    (sum-same (λ h. sum_by f (filter (own h) xs)) (λ h. sum_by (λ x. cond (own h x) (f x) 0) xs) (λ h. sum-filtered f (own h) xs) households
    ∙ (sums-exchange (λ h x. cond (own h x) (f x) 0) households xs
    ∙ sum-where (λ x. count_by (λ h. own h x) households ≡ 1) (λ x. sum_by (λ h. cond (own h x) (f x) 0) households) f
    (λ x one. passing (λ h. own h x) (f x) households ∙ (ap (λ n. f x * n) one ∙ omega arith)) xs once))

sum-flat : {X Y : Type 0} (f : Y → ℕ) (g : X → List Y) (xs : List X) → sum_by f (flat_map g xs) ≡ sum_by (λ x. sum_by f (g x)) xs
sum-flat f g [] = refl
sum-flat f g (x ∷ xs) =
    omega (arith, sum_by-append f (g x) (flat_map g xs), sum-flat f g xs, sum_by-cons (λ y. sum_by f (g y)) x xs)

cash-total : (taken given : ℕ → ℕ) (a b : ℕ) (households : List ℕ) → fold (λ so_far h. so_far +ℤ (pos (taken h) -ℤ pos (given h))) (pos a -ℤ pos b) households ≡ pos (a + sum_by taken households) -ℤ pos (b + sum_by given households)
cash-total taken given a b [] =
    let x : a + 0 ≡ a = omega arith in
    let y : b + 0 ≡ b = omega arith in
    rw (x, y) refl
cash-total taken given a b (h ∷ households) =
    let more : a + sum_by taken (h ∷ households) ≡ (a + taken h) + sum_by taken households = omega (arith, sum_by-cons taken h households) in
    let less : b + sum_by given (h ∷ households) ≡ (b + given h) + sum_by given households = omega (arith, sum_by-cons given h households) in
    rw (more, less)
    (ap (λ x. fold (λ so_far k. so_far +ℤ (pos (taken k) -ℤ pos (given k))) x households) (differences a b (taken h) (given h))
    ∙ cash-total taken given (a + taken h) (b + given h) households)

-- ---- each account of the journal is of one household

-- an account that stands has its form, and that one has what all have
form-found : {X : Type 0} (has test : X → Bool) (xs : List X) → list_all has xs ≡ true → list_any test xs ≡ true → (x : X) × (find test xs ≡ Some x) × (has x ≡ true)
form-found has test [] all some = absurd (true≢false (sym some))
form-found {X = X} has test (x ∷ xs) all some =
    let both = and_parts (has x) (list_all has xs) all in by (test x) both.0 (form-found has test xs both.1) some
  where
    by : (b : Bool) → has x ≡ true → (list_any test xs ≡ true → (y : X) × (find test xs ≡ Some y) × (has y ≡ true)) → (b || list_any test xs) ≡ true → (y : X) × (cond b (Some x) (find test xs) ≡ Some y) × (has y ≡ true)
    by true here rest e = (x, refl, here)
    by false here rest e = rest e

owned-once : (journal : Journal) → IsLawful journal → (number : ℕ) → list_any (has_number number) (accounts_of journal) ≡ true → times_owned (accounts_of journal) (household_numbers journal) number ≡ 1
owned-once journal lawful number stands_there =
    let found = form-found (has_its_household journal) (has_number number) (accounts_of journal) (names_stand journal lawful).households stands_there in
    let forms = households_of journal in
    let test = is_household found.0.household in
    let few : count_by test forms ≤ 1 = subst (λ n. n ≤ 1) (length-filter test forms) (no_household_twice journal lawful found.0.household) in
    let some = any-counted test forms found.2 in
    let owner = ap (λ form. option_map (λ (a : AccountForm). a.household) form) found.1 in
    count-map (λ household. is_of_household (accounts_of journal) household number) (λ (form : HouseholdForm). form.household) forms
    ∙ (sum-same (λ (form : HouseholdForm). cond (is_of_household (accounts_of journal) form.household number) 1 0) (λ (form : HouseholdForm). cond (test form) 1 0) (λ form. same form (household_of (accounts_of journal) number) found.0.household owner) forms
    ∙ omega (arith, few, some))
  where
    turned : (a b : ℕ) → (a == b) ≡ (b == a)
    turned a b = elim (b == a) as (λ t. (b == a) ≡ t → (a == b) ≡ t) [
      | true ↦ λ e. eq-eqb a b (sym (eqb-true b a e))
      | false ↦ λ e. elim (a == b) as (λ t. (a == b) ≡ t → t ≡ false) [
        | true ↦ λ f. absurd (true≢false (sym (eq-eqb b a (sym (eqb-true a b f))) ∙ e))
        | false ↦ λ f. refl
      ] refl
    ] refl

    one : Bool → ℕ
    one b = cond b 1 0

    same : (form : HouseholdForm) (owner : Option ℕ) (household : ℕ) → owner ≡ Some household → ◌≡◌ {A = ℕ} (cond (option_map_or (λ own. own == form.household) owner false) 1 0) (cond (form.household == household) 1 0)
    same form owner household is =
        ap (λ (o : Option ℕ). one (option_map_or (λ own. own == form.household) o false)) is ∙ ap one (turned household form.household)

-- ---- totals of a day

module _ (accounts : List AccountForm) (households : List ℕ) (day : Day) (positions : All (λ (p : Position). times_owned accounts households p.account ≡ 1) day.register) (trades : All (λ (t : Trade). times_owned accounts households t.account ≡ 1) day.trades) where
  mils-summed : (class : ℕ) → outstanding day.register class ≡ outstanding_in_parts accounts households day class
  mils-summed class =
      sum-of-parts (outstanding_in class) (λ household. is_own_position (is_of_household accounts household)) households day.register positions

  moved-summed : (f : Movement → ℕ) → sum_by f (movements_of day.trades) ≡ sum_by (λ household. sum_by f (movements_of (part_of accounts household day).trades)) households
  moved-summed f =
      let of_trade = λ (trade : Trade). sum_by f (movements_in trade.outcome trade) in
      sum-flat f (λ (trade : Trade). movements_in trade.outcome trade) day.trades
      ∙ (sum-of-parts of_trade (λ household. is_own_trade (is_of_household accounts household)) households day.trades trades
      ∙ sum-same (λ household. sum_by of_trade (part_of accounts household day).trades) (λ household. sum_by f (movements_of (part_of accounts household day).trades))
      (λ household. sym (sum-flat f (λ (trade : Trade). movements_in trade.outcome trade) (part_of accounts household day).trades)) households)

  cash-summed : (party : Party) → cash_of day.trades party ≡ cash_in_parts accounts households day party
  cash-summed party =
      let taken = λ (household : ℕ). cents_received (movements_of (part_of accounts household day).trades) party in
      let given = λ (household : ℕ). cents_paid (movements_of (part_of accounts household day).trades) party in
      let left : cents_received (movements_of day.trades) party ≡ 0 + sum_by taken households = omega (arith, moved-summed (cents_received_in party)) in
      let right : cents_paid (movements_of day.trades) party ≡ 0 + sum_by given households = omega (arith, moved-summed (cents_paid_in party)) in
      ap (λ n. pos n -ℤ pos (cents_paid (movements_of day.trades) party)) left
      ∙ (ap (λ n. pos (0 + sum_by taken households) -ℤ pos n) right ∙ sym (cash-total taken given 0 0 households))

-- ---- a lawful journal's

pub orders-once : (journal : Journal) → IsLawful journal → All (λ (row : OrderRow). times_owned (accounts_of journal) (household_numbers journal) row.order.account ≡ 1) (orders_of journal)
orders-once journal lawful = each (orders_of journal) (names_stand journal lawful).orders
  where
    each : (rows : List OrderRow) → list_all (λ row. is_placed_in journal row.order) rows ≡ true → All (λ (row : OrderRow). times_owned (accounts_of journal) (household_numbers journal) row.order.account ≡ 1) rows
    each [] all = All-nil (λ (row : OrderRow). times_owned (accounts_of journal) (household_numbers journal) row.order.account ≡ 1)
    each (row ∷ rows) all =
        let both = and_parts (is_placed_in journal row.order) (list_all (λ row. is_placed_in journal row.order) rows) all in
        All-cons (λ (row : OrderRow). times_owned (accounts_of journal) (household_numbers journal) row.order.account ≡ 1) row rows
        (owned-once journal lawful row.order.account (and_parts (list_any (has_number row.order.account) (accounts_of journal)) (list_all (λ class. list_any (is_class class) (classes_of journal)) (classes_in row.order.body)) both.0).0)
        (each rows both.1)

pub day-sums : (journal : Journal) → IsLawful journal → (sheets : List Sheet) → IsSumOfParts journal (replay_over (book_behind journal) sheets)
day-sums journal lawful sheets =
    let accounts = accounts_of journal in
    let households = household_numbers journal in
    let known = λ (number : ℕ). times_owned accounts households number == 1 in
    let rows = All-weaker (λ (row : OrderRow). times_owned accounts households row.order.account ≡ 1) (λ (row : OrderRow). known row.order.account ≡ true) (λ row one. eq-eqb (times_owned accounts households row.order.account) 1 one) (orders_of journal) (orders-once journal lawful) in
    let day = replay_over (book_behind journal) sheets in
    let is = known-replay (book_behind journal) known (All-filter stands (λ (row : OrderRow). known row.order.account ≡ true) (orders_of journal) rows) sheets in
    let positions = All-weaker (λ (p : Position). known p.account ≡ true) (λ (p : Position). times_owned accounts households p.account ≡ 1) (λ p one. eqb-true (times_owned accounts households p.account) 1 one) day.register is.positions in
    let trades = All-weaker (λ (t : Trade). known t.account ≡ true) (λ (t : Trade). times_owned accounts households t.account ≡ 1) (λ t one. eqb-true (times_owned accounts households t.account) 1 one) day.trades is.trades in
    record { mils = mils-summed accounts households day positions trades; cash = cash-summed accounts households day positions trades }
