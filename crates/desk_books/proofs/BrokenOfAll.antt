-- The least of the broken trades of the households that a correction reaches is the first one of all.
use Rattle.std.proofs.Common.{All, Bool, Contains, List, None, Option, Some, ap, eq-eqb, eqb-true, false, is_some, nat_eq, not, option_map, option_to_list, refl, subst, sym, true, ℕ, ◌&&◌, ◌<◌, ◌==◌, ◌∙◌, ◌≡◌, ◌||◌}
use Rattle.std.proofs.lemmas.Bool.{and_parts, true≢false}
use Rattle.std.proofs.lemmas.List.Elements.{All-contains}
use Rattle.std.proofs.lemmas.List.Folds.{Any-from_list_any}
use Rattle.std.proofs.lemmas.Map.Views.{Contains-from_any, list_any-from_Contains}
use Rattle.std.specs.Cmp.{nat_eq_equiv}
use Rattle.std.specs.List.{Any, list_any}
use Rattle.std.specs.Option.{option_map_or}
use Rattle.agent_events.specs.Events.{Event}
use Rattle.agent_events.specs.declared.event.EventKind.{EventKind}
use Rattle.agent_events.specs.declared.order.Bearer.{Bearer}
use Rattle.agent_events.specs.declared.order.Order.{Order}
use Rattle.agent_events.specs.declared.reply.Refusal.{Refusal}
use Rattle.agent_events.specs.declared.trade.Trade.{Trade}
use Rattle.agent_events.specs.declared.verdict.Caller.{Caller}
use Rattle.desk_books.proofs.FirstOfAll.{least_is_first, none_is_broken}
use Rattle.desk_books.proofs.UnreachedLeft.{left_by_kind}
use Rattle.desk_books.specs.FirstOfAll.{AreFirstOfParts, IsOwned}
use Rattle.desk_books.specs.Least.{IsLeastOf}
use Rattle.standing_orders.specs.SettledOrders.{ReplacesNone}
use Rattle.desk_books.specs.HouseholdsReopened.{AreReached}
use Rattle.desk_books.specs.declared.least.BrokenTrade.{BrokenTrade}
use Rattle.desk_books.specs.Fresh.{KnowsItsAccount}
use Rattle.desk_books.specs.Reopened.{AreReopened, IsTriedOver, broken_in}
use Rattle.desk_books.specs.CorrectionTrials.{last_says}
use Rattle.desk_books.specs.declared.books.DeskBooks.{DeskBooks}
use Rattle.fund_calendar.proofs.LookUpLemmas.{find_passes}
use Rattle.household_fold.specs.Facts.{Known}
use Rattle.checkpoint_replay.specs.declared.change.HouseholdMove.{HouseholdMove}
use Rattle.ledger_laws.proofs.HouseholdBooks.{is_of_households}
use Rattle.register_laws.proofs.BrokenByParts.{breaks_by_parts}
use Rattle.register_laws.proofs.KnownAccounts.{known-replay}
use Rattle.register_laws.proofs.Unreached.{unreached_is_unbroken}
use Rattle.register_laws.specs.BrokenByParts.{first_broken_in}
use Rattle.register_laws.specs.CorrectionReach.{LeavesPart}
use Rattle.register_laws.specs.Households.{is_of_household}
use Rattle.register_laws.specs.Lawful.{book_behind, own_at}
use Rattle.register_machine.specs.corrections.Payments.{bearer_in}
use Rattle.register_machine.specs.journal.Journals.{Journal, with_event}
use Rattle.register_machine.specs.journal.Kinds.{accounts_of, household_of}
use Rattle.register_machine.specs.journal.Lawful.{IsLawful}
use Rattle.register_machine.specs.pricing.CorrectedBook.{Book}
use Rattle.register_machine.specs.pricing.CorrectedOrders.{orders_of}
use Rattle.register_machine.specs.replay.Replay.{replay}
use Rattle.register_machine.specs.replay.Trades.{Day}
use Rattle.register_machine.specs.rules.Breaks.{breaks_between, breaks_by, is_broken, is_filled, is_trade_of, order_corrected, was_filled}

-- ---- the household of an account

pub of-owner : (found : Option ℕ) → is_some found ≡ true → (household : ℕ) × (option_map_or (λ (owner : ℕ). owner == household) found false ≡ true)
of-owner None there = absurd (true≢false (sym there))
of-owner (Some owner) there = (owner, eq-eqb owner owner refl)

another-owner : (found : Option ℕ) (household : ℕ) → list_any (nat_eq household) (option_to_list found) ≡ false → option_map_or (λ (owner : ℕ). owner == household) found false ≡ false
another-owner None household none = refl
another-owner (Some owner) household none = by (owner == household) refl
  where
    by : (b : Bool) → owner == household ≡ b → b ≡ false
    by true is = absurd (true≢false (sym (ap (λ b. b || false) (eq-eqb household owner (sym (eqb-true owner household is)))) ∙ none))
    by false is = refl

-- ---- the account of the first broken trade is known

trades-owned : (journal : Journal) → IsLawful journal → All (λ (trade : Trade). is_some (household_of (accounts_of journal) trade.account) ≡ true) (replay (book_behind journal)).trades
unfolding replay
trades-owned journal lawful =
    (known-replay (book_behind journal) (λ number. is_some (household_of (accounts_of journal) number)) (is_of_households journal lawful).owned (book_behind journal).table.sheets).trades

filled-owned : (journal : Journal) (trade : Trade) → IsLawful journal → was_filled (replay (book_behind journal)).trades trade ≡ true → is_some (household_of (accounts_of journal) trade.account) ≡ true
filled-owned journal trade lawful filled =
    let trades = (replay (book_behind journal)).trades in
    let other = Any-from_list_any (λ (t : Trade). is_trade_of trade.account trade.ref_no t && is_filled t.outcome) trades filled in
    let among : Contains trades other.1 = (other.0, other.2, other.3) in
    let own = and_parts (is_trade_of trade.account trade.ref_no other.1) (is_filled other.1.outcome) other.4 in
    let account = and_parts (other.1.account == trade.account) (other.1.ref_no == trade.ref_no) own.0 in
    ap (λ number. is_some (household_of (accounts_of journal) number)) (sym (eqb-true other.1.account trade.account account.0))
    ∙ All-contains (λ (t : Trade). is_some (household_of (accounts_of journal) t.account) ≡ true) trades other.1 (trades-owned journal lawful) among

corrected-owned : (journal : Journal) (trade : Trade) (corrected : Option Order) → ((order : Order) → corrected ≡ Some order → is_some (household_of (accounts_of journal) order.account) ≡ true) → option_map_or (λ (own : Order). is_trade_of own.account own.ref_no trade) corrected false ≡ true → is_some (household_of (accounts_of journal) trade.account) ≡ true
corrected-owned journal trade None knows is = absurd (true≢false (sym is))
corrected-owned journal trade (Some own) knows is =
    let account = and_parts (trade.account == own.account) (trade.ref_no == own.ref_no) is in
    ap (λ number. is_some (household_of (accounts_of journal) number)) (eqb-true trade.account own.account account.0)
    ∙ knows own refl

first-owned : (journal : Journal) (event : Event) (after : Day) → IsLawful journal → KnowsItsAccount journal event.kind → (trade : Trade) → first_broken_in (order_corrected event.kind) (replay (book_behind journal)) after ≡ Some trade → is_some (household_of (accounts_of journal) trade.account) ≡ true
first-owned journal event after lawful knows trade is =
    let before = (replay (book_behind journal)).trades in
    let corrected = order_corrected event.kind in
    let passes = find_passes (is_broken corrected before) after.trades trade is in
    let parts = and_parts (not (is_filled trade.outcome)) (was_filled before trade || option_map_or (λ (own : Order). is_trade_of own.account own.ref_no trade) corrected false) passes in
    by (was_filled before trade) refl parts.1
  where
    by : (b : Bool) → was_filled (replay (book_behind journal)).trades trade ≡ b → (b || option_map_or (λ (own : Order). is_trade_of own.account own.ref_no trade) (order_corrected event.kind) false) ≡ true → is_some (household_of (accounts_of journal) trade.account) ≡ true
    by true filled e = filled-owned journal trade lawful filled
    by false filled e = corrected-owned journal trade (order_corrected event.kind) knows e

-- ---- a household that isn't reached

-- the correction isn't about its order
not-its : (journal : Journal) (households : List ℕ) (kind : EventKind) (household : ℕ) → AreReached journal kind households → list_any (nat_eq household) households ≡ false → option_map_or (λ (own : Order). is_of_household (accounts_of journal) household own.account) (order_corrected kind) false ≡ false
not-its journal households (EventKind.Enter form) household reached none =
    another-owner (household_of (accounts_of journal) form.order.account) household (ap (list_any (nat_eq household)) (sym reached) ∙ none)
not-its journal households (EventKind.Replace form) household reached none =
    another-owner (household_of (accounts_of journal) form.order.account) household (ap (list_any (nat_eq household)) (sym reached) ∙ none)
not-its journal households _ household reached none = refl

-- nor does it replace one of its orders
pub unreplaced : (journal : Journal) (households : List ℕ) (kind : EventKind) (household : ℕ) → AreReached journal kind households → list_any (nat_eq household) households ≡ false → ReplacesNone journal kind household
unreplaced journal households kind household reached none form at =
    another-owner (household_of (accounts_of journal) form.order.account) household
    (ap (list_any (nat_eq household)) (sym (subst (λ k. AreReached journal k households) at reached)) ∙ none)

-- an element passes the test for itself
any-of : (household : ℕ) (households : List ℕ) → Contains households household → list_any (nat_eq household) households ≡ true
any-of household households among = list_any-from_Contains nat_eq_equiv household households among

pub part-left : (books : DeskBooks) (event : Event) (known : Known) (households : List ℕ) (household : ℕ) → IsTriedOver books event known → AreReached books.book.journal event.kind households → list_any (nat_eq household) households ≡ false → LeavesPart (book_behind books.book.journal) (book_behind (with_event books.book.journal event)) household
part-left books event known households household is reached none =
    left_by_kind books.book.journal event households is.trial.reach household
    (λ among. true≢false (sym (any-of household households among) ∙ none)) event.kind refl is.corrects reached

unbroken : (books : DeskBooks) (event : Event) (known : Known) (households : List ℕ) (household : ℕ) → IsTriedOver books event known → AreReached books.book.journal event.kind households → All (λ row. 0 < row.order.ref_no) (orders_of books.book.journal) → list_any (nat_eq household) households ≡ false → broken_in books.book.journal event household ≡ None
unbroken books event known households household is reached numbered none =
    unreached_is_unbroken books.book.journal is.books_are.lawful numbered household (order_corrected event.kind) (replay (book_behind (with_event books.book.journal event)))
    (not-its books.book.journal households event.kind household reached none)
    (part-left books event known households household is reached none).whole

-- ---- all households

module _ (books : DeskBooks) (event : Event) (known : Known) (households : List ℕ) (moves : List HouseholdMove) (first : Option BrokenTrade)
    (is : IsTriedOver books event known) (reached : AreReached books.book.journal event.kind households)
    (numbered : All (λ row. 0 < row.order.ref_no) (orders_of books.book.journal)) (are : AreReopened books event known households moves first) where
  abbrev journal_now : Journal
  journal_now = books.book.journal

  abbrev after_it : Book
  after_it = book_behind (with_event books.book.journal event)

  abbrev order_now : Option Order
  order_now = order_corrected event.kind

  abbrev before_it : Day
  before_it = replay (book_behind books.book.journal)

  seen-each : (household : ℕ) (trade : Trade) → broken_in books.book.journal event household ≡ Some trade → (b : Bool) → list_any (nat_eq household) households ≡ b → Any (λ (broken : BrokenTrade). broken.trade ≡ trade) are.brokens
  seen-each household trade broken true there =
      are.seen household (Contains-from_any eqb-true household households there) trade broken
  seen-each household trade broken false none =
      absurd (some-none (sym broken ∙ unbroken books event known households household is reached numbered none))
    where
      some-none : Some trade ≡ None → ⊥
      some-none e = cc

  firsts : AreFirstOfParts after_it order_now before_it (accounts_of journal_now) are.brokens
  firsts = record {
    each = are.each;
    every = λ household trade broken. seen-each household trade broken (list_any (nat_eq household) households) refl;
  }

  owned : IsOwned after_it order_now before_it (accounts_of journal_now)
  owned trade broken =
      of-owner (household_of (accounts_of journal_now) trade.account)
      (first-owned journal_now event (replay after_it) is.books_are.lawful is.trial.owned trade broken)

  found : (least : Option BrokenTrade) → IsLeastOf are.brokens least → first_broken_in order_now before_it (replay after_it) ≡ option_map (λ (broken : BrokenTrade). broken.trade) least
  found None least =
      none_is_broken after_it order_now before_it (accounts_of journal_now) are.brokens (breaks_by_parts (accounts_of journal_now) order_now before_it (replay after_it)) owned firsts least
  found (Some broken) least =
      least_is_first after_it order_now before_it (accounts_of journal_now) are.brokens broken is.trial.orders.numbered is.trial.orders.names is.trial.orders.turns
      (breaks_by_parts (accounts_of journal_now) order_now before_it (replay after_it)) owned firsts least

  by-bearer : (bearer : Option Bearer) → is_some bearer ≡ true → breaks_by bearer (own_at journal_now event.moment Caller.Operator) event ≡ option_map (λ (trade : Trade). Refusal.Breaks trade.account trade.ref_no) (option_map (λ (broken : BrokenTrade). broken.trade) first)
  by-bearer None there = absurd (true≢false (sym there))
  by-bearer (Some bearer) there =
      ap (λ (book : Book). breaks_between order_now before_it.trades (replay book).trades) is.trial.sound.on_trial
      ∙ ap (option_map (λ (trade : Trade). Refusal.Breaks trade.account trade.ref_no)) (found first are.least)

  pub last_is : last_says books.book.journal event ≡ option_map (λ (trade : Trade). Refusal.Breaks trade.account trade.ref_no) (option_map (λ (broken : BrokenTrade). broken.trade) first)
  last_is = by-bearer (bearer_in event.kind) is.corrects
