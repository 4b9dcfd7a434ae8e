-- What the steps of a trial need: of the books, of the facts, and of the households in turn.
use Rattle.std.proofs.Common.{List, Option, Some, [], ap, arith, drop, false, find, get_or, length, nat_eq, subst, sym, take, ℕ, ◌++◌, ◌+◌, ◌<◌, ◌∙◌, ◌∷◌, ◌≡◌}
use Rattle.std.proofs.lemmas.Bool.Decides.{Decides-eqb}
use Rattle.std.proofs.lemmas.List.{take-append-drop, take_more}
use Rattle.std.proofs.lemmas.List.Kept.{AllPairs-from_increasing}
use Rattle.std.proofs.lemmas.Map.Made.{IsDistinct-from_AllPairs}
use Rattle.std.specs.List.{AllByRecursion, IsDistinct}
use Rattle.std.specs.List.Sorted.{IsStrictlyIncreasing}
use Rattle.agent_events.specs.Events.{Event}
use Rattle.agent_events.specs.declared.request.AccountForm.{AccountForm}
use Rattle.agent_events.specs.declared.trade.Trade.{Trade}
use Rattle.checkpoint_replay.specs.Moves.{part_after}
use Rattle.checkpoint_replay.specs.Parts.{first_day, part_in}
use Rattle.checkpoint_replay.specs.declared.change.HouseholdMove.{HouseholdMove}
use Rattle.desk_books.specs.declared.least.BrokenTrade.{BrokenTrade}
use Rattle.checkpoint_replay.proofs.ReopenedDay.{AreTheLateOnes}
use Rattle.checkpoint_replay.specs.declared.reopening.ReplayStart.{ReplayStart}
use Rattle.desk_books.proofs.TrialOrders.{late_on_trial}
use Rattle.desk_books.specs.Reopened.{IsOneMore, IsTriedOver, SeesBroken, broken_in}
use Rattle.desk_books.specs.declared.books.DeskBooks.{DeskBooks}
use Rattle.forward_price.specs.PriceTables.{Table}
use Rattle.household_fold.specs.Facts.{Known}
use Rattle.checkpoint_replay.specs.Premises.{CanBeReplayed}
use Rattle.checkpoint_replay.specs.Replays.{NumberedOrder}
use Rattle.ledger_laws.proofs.OrderRows.{rows_by_sheets}
use Rattle.ledger_laws.specs.OrderRows.{rows_of_part}
use Rattle.ledger_laws.specs.PartsByFacts.{AreRowsOf}
use Rattle.ledger_laws.proofs.CorrectedParts.{keeps_accounts, reopens}
use Rattle.register_laws.specs.Households.{part_of}
use Rattle.register_laws.specs.Lawful.{book_behind}
use Rattle.register_machine.specs.journal.Journals.{with_event}
use Rattle.register_machine.specs.journal.Kinds.{accounts_of}
use Rattle.register_machine.specs.pricing.CorrectedBook.{Book}
use Rattle.register_machine.specs.pricing.CorrectedOrders.{orders_of}
use Rattle.register_machine.specs.replay.Replay.{replay}
use Rattle.register_machine.specs.replay.Trades.{Day}
use Rattle.register_machine.specs.rules.Breaks.{is_broken, order_corrected}
use Rattle.standing_orders.specs.Priced.{AreOwnOnTrial, AreSettledOnTrial}
use Rattle.standing_orders.specs.IndexOfJournals.{sheets_of}

-- ---- households that rise are different

pub rising_differ : (households : List ℕ) → IsStrictlyIncreasing households → IsDistinct nat_eq households
rising_differ households rises =
    let pairs = AllPairs-from_increasing households rises in
    IsDistinct-from_AllPairs {eq = nat_eq} Decides-eqb households (λ i j d before short same. omega (arith, pairs i j d before short, same))

all-front : (k : ℕ) (xs ys : List ℕ) → AllByRecursion (λ y. nat_eq k y ≡ false) (xs ++ ys) → AllByRecursion (λ y. nat_eq k y ≡ false) xs
all-front k [] ys all = tt
all-front k (x ∷ xs) ys all = (all.0, all-front k xs ys all.1)

pub front_differs : (xs ys : List ℕ) → IsDistinct nat_eq (xs ++ ys) → IsDistinct nat_eq xs
unfolding IsDistinct
front_differs [] ys distinct = tt
front_differs (x ∷ xs) ys distinct = (all-front x xs ys distinct.0, front_differs xs ys distinct.1)

-- so the next one is none of those before it
pub next_differs : (households : List ℕ) (place d : ℕ) → IsStrictlyIncreasing households → place < length households → IsDistinct nat_eq (take place households ++ get_or households place d ∷ [])
next_differs households place d rises short =
    subst (IsDistinct nat_eq) (take_more households place d short)
    (front_differs (take (place + 1) households) (drop (place + 1) households)
    (subst (IsDistinct nat_eq) (sym (take-append-drop (place + 1) households)) (rising_differ households rises)))

-- ---- one household

-- all orders of a household on trial, under their sheets
abbrev pub all_rows : DeskBooks → Event → ℕ → List NumberedOrder
all_rows books event household = rows_of_part (book_behind (with_event books.book.journal event)) household

pub own_rows : (books : DeskBooks) (event : Event) (known : Known) (household : ℕ) → IsTriedOver books event known → AreRowsOf (all_rows books event household) (book_behind (with_event books.book.journal event)) household
own_rows books event known household is = rows_by_sheets (book_behind (with_event books.book.journal event)) household is.trial.orders.numbered

pub can_reopen : (books : DeskBooks) (event : Event) (known : Known) (household : ℕ) → IsTriedOver books event known → CanBeReplayed known household (all_rows books event household) 0 known.sheet first_day
can_reopen books event known household is =
    (reopens known (all_rows books event household) (book_behind (with_event books.book.journal event)) household is.trial.sound.sound is.serve.serve (own_rows books event known household is)).ready

-- those that are gathered from a place on are the late ones
pub late_rows : (books : DeskBooks) (event : Event) (known : Known) (household first : ℕ) (start : ReplayStart) (late : List NumberedOrder) → IsTriedOver books event known → AreOwnOnTrial books.book.journal (Some event) books.prices.table.sheets books.orders.owners household first late → AreSettledOnTrial books.book.journal (Some event) (sheets_of books.book.journal) household first start.sheet → AreTheLateOnes known (all_rows books event household) late start
late_rows books event known household first start late is own settled n behind short =
    late_on_trial books.book.journal event books.orders.owners household first start.sheet (all_rows books event household) late is.corrects is.trial is.books_are.index.owned
    (subst (λ (table : Table). AreOwnOnTrial books.book.journal (Some event) table.sheets books.orders.owners household first late) is.books_are.prices own)
    settled (own_rows books event known household is) n behind (omega (arith, short, is.serve.serve.last))

-- what is broken between the ledger and the new trades is broken in the household's part
pub sees_part : (books : DeskBooks) (event : Event) (known : Known) (household : ℕ) (one : HouseholdMove) (old new : Option BrokenTrade) → IsTriedOver books event known → IsOneMore books event known household one → SeesBroken (orders_of (with_event books.book.journal event)) (find (is_broken (order_corrected event.kind) (part_in books.ledger.parts household).trades) (part_after (one ∷ []) books.ledger.parts household).trades) old new → SeesBroken (book_behind (with_event books.book.journal event)).orders (broken_in books.book.journal event household) old new
sees_part books event known household one old new is more sees =
    subst (λ (found : Option Trade). SeesBroken after.orders found old new)
    (ap (λ (day : Day). find (is_broken (order_corrected event.kind) day.trades) (part_after (one ∷ []) books.ledger.parts household).trades) (is.books_are.ledger.part household)
    ∙ ap (λ (day : Day). find (is_broken (order_corrected event.kind) (part_of (accounts_of books.book.journal) household (replay (book_behind books.book.journal))).trades) day.trades) part)
    sees
  where
    after : Book
    after = book_behind (with_event books.book.journal event)

    part : part_after (one ∷ []) books.ledger.parts household ≡ part_of (accounts_of books.book.journal) household (replay after)
    part =
        more.day
        ∙ ((reopens known more.rows after household is.trial.sound.sound is.serve.serve more.orders).part
        ∙ ap (λ (accounts : List AccountForm). part_of accounts household (replay after)) (keeps_accounts books.book.journal event is.corrects))
