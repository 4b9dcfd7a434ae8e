-- The orders of a household on trial, under the numbers of their sheets.
use Rattle.std.proofs.Common.{List, Some, [], ap, arith, get_or, length, map, refl, suc, sym, true, zero, ℕ, ◌+◌, ◌<◌, ◌∙◌, ◌≡◌, ◌≤◌}
use Rattle.std.proofs.lemmas.Bool.{true≢false}
use Rattle.agent_events.specs.Events.{Event}
use Rattle.agent_events.specs.declared.event.EventKind.{EventKind}
use Rattle.agent_events.specs.declared.order.OrderRow.{OrderRow}
use Rattle.agent_events.specs.declared.request.AccountForm.{AccountForm}
use Rattle.desk_books.specs.Fresh.{IsOnTrial}
use Rattle.register_laws.specs.EventReplays.{is_correction}
use Rattle.forward_price.specs.PriceTables.{Table, sheet_published}
use Rattle.forward_price.specs.declared.price_sheet.Sheet.{Sheet}
use Rattle.checkpoint_replay.specs.Replays.{NumberedOrder, orders_under}
use Rattle.ledger_laws.specs.PartsByFacts.{AreRowsOf}
use Rattle.ledger_laws.proofs.CorrectedParts.{keeps_accounts}
use Rattle.register_laws.proofs.CorrectionReach.{price-orders}
use Rattle.register_laws.specs.Households.{own_orders}
use Rattle.register_laws.specs.Lawful.{book_behind}
use Rattle.register_laws.specs.OneEventMore.{corrected_table, corrected_table_by}
use Rattle.register_machine.specs.journal.Journals.{Journal, with_event}
use Rattle.register_machine.specs.journal.Kinds.{accounts_of}
use Rattle.register_machine.specs.pricing.CorrectedBook.{Book}
use Rattle.register_machine.specs.pricing.CorrectedOrders.{orders_of}
use Rattle.register_machine.specs.replay.Replay.{Priced, orders_on, priced_orders}
use Rattle.standing_orders.specs.Priced.{AreOwnBehind, AreOwnOnTrial, AreSettledOnTrial}
use Rattle.standing_orders.specs.Rows.{AreOwners}
use Rattle.standing_orders.specs.IndexOfJournals.{sheets_of}

-- a book with another table
abbrev with_table : Table → Book → Book
with_table table book = record {
  table = table;
  classes = book.classes;
  accounts = book.accounts;
  orders = book.orders;
  rates = book.rates;
}

-- a correction changes no sheet's moment and no class on it, so the orders stay on their sheets
priced-stay : (book : Book) (table : Table) (moment : ℕ) (kind : EventKind) → is_correction kind ≡ true → priced_orders (with_table (corrected_table_by table moment kind) book) ≡ priced_orders (with_table table book)
priced-stay book table moment (EventKind.FixPrice form) corrects = price-orders form (with_table table book)
priced-stay book table moment (EventKind.FixRate form) corrects = refl
priced-stay book table moment (EventKind.Enter form) corrects = refl
priced-stay book table moment (EventKind.Replace form) corrects = refl
priced-stay book table moment (EventKind.Void form) corrects = refl
priced-stay book table moment _ corrects = absurd (true≢false (sym corrects))

-- behind a sheet up to which the earlier ones are settled, these are the household's own on each sheet of the book on trial
own-behind : (journal : Journal) (event : Event) (owners : List ℕ) (household first number : ℕ) (late : List NumberedOrder) → is_correction event.kind ≡ true → IsOnTrial journal event → AreOwners (accounts_of journal) (orders_of journal) owners → AreOwnOnTrial journal (Some event) (sheets_of journal) owners household first late → AreSettledOnTrial journal (Some event) (sheets_of journal) household first number → AreOwnBehind (book_behind (with_event journal event)) household number late
own-behind journal event owners household first number late corrects is owned own settled sheet behind =
    own plain (record { accounts = refl; orders = refl; sheets = refl }) owned number settled sheet behind
    ∙ ap (λ (priced : List Priced). map (λ (row : OrderRow). row.order) (own_orders (accounts_of journal) household (orders_on priced sheet))) same
    ∙ ap (λ (accounts : List AccountForm). map (λ (row : OrderRow). row.order) (own_orders accounts household (orders_on (priced_orders after) sheet))) (sym (keeps_accounts journal event corrects))
  where
    after : Book
    after = book_behind (with_event journal event)

    -- the book on trial with the sheets before it
    plain : Book
    plain = record {
      table = corrected_table journal;
      classes = after.classes;
      accounts = accounts_of journal;
      orders = orders_of (with_event journal event);
      rates = after.rates;
    }

    table : after.table ≡ corrected_table_by (corrected_table journal) event.moment event.kind
    table = ap (λ (book : Book). book.table) is.sound.goes_on

    same : priced_orders plain ≡ priced_orders after
    same =
        sym (priced-stay after (corrected_table journal) event.moment event.kind corrects)
        ∙ sym (ap (λ (t : Table). priced_orders (with_table t after)) table)

-- so they are those of all its orders on each sheet behind that one
pub late_on_trial : (journal : Journal) (event : Event) (owners : List ℕ) (household first number : ℕ) (rows late : List NumberedOrder) → is_correction event.kind ≡ true → IsOnTrial journal event → AreOwners (accounts_of journal) (orders_of journal) owners → AreOwnOnTrial journal (Some event) (sheets_of journal) owners household first late → AreSettledOnTrial journal (Some event) (sheets_of journal) household first number → AreRowsOf rows (book_behind (with_event journal event)) household → (n : ℕ) → number < n → n ≤ length (book_behind (with_event journal event)).table.sheets → orders_under n late ≡ orders_under n rows
late_on_trial journal event owners household first number rows late corrects is owned own settled are zero behind short = absurd (omega (arith, behind))
late_on_trial journal event owners household first number rows late corrects is owned own settled are (suc place) behind short =
    let after = book_behind (with_event journal event) in
    let some : Sheet = sheet_published after.table 0 0 [] in
    let sheet = get_or after.table.sheets place some in
    let at : sheet.number ≡ place + 1 = is.orders.numbered.each place some (omega (arith, short)) in
    let next : place + 1 ≡ suc place = omega arith in
    let mine = own-behind journal event owners household first number late corrects is owned own settled sheet (omega (arith, at, behind)) in
    ap (λ n. orders_under n late) (sym (at ∙ next))
    ∙ (mine
    ∙ (sym (are.on_sheet place some (omega (arith, short)))
    ∙ ap (λ n. orders_under n rows) next))
