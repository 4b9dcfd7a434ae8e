-- The journal behind the orders of a dealer's lines: its book has their rows behind the others, and nothing else is changed.
use Rattle.std.proofs.Common.{Err, List, Ok, [], ap, append-nil, append_assoc, arith, fold, is_some, length, length-append, refl, subst, sym, true, ℕ, ◌++◌, ◌+◌, ◌∙◌, ◌∷◌, ◌≡◌, ◌≤◌}
use Rattle.std.proofs.lemmas.List.{length-map}
use Rattle.std.proofs.lemmas.List.Elements.{filter_map-append}
use Rattle.std.proofs.lemmas.List.Sums.{fold-append}
use Rattle.agent_events.specs.Events.{Event}
use Rattle.agent_events.specs.VerbForms.{Asked}
use Rattle.agent_events.specs.declared.event.Placed.{Placed}
use Rattle.agent_events.specs.declared.order.OrderRow.{OrderRow}
use Rattle.agent_events.specs.declared.request.AccountForm.{AccountForm}
use Rattle.agent_events.specs.declared.request.ClassForm.{ClassForm}
use Rattle.agent_events.specs.declared.request.DealerForm.{DealerForm}
use Rattle.agent_events.specs.declared.verdict.Caller.{Caller}
use Rattle.dealer_lines.specs.Lines.{line_event, line_events, rows_from}
use Rattle.register_laws.proofs.BooksGoOn.{book_goes_on}
use Rattle.register_laws.proofs.CorrectedAgain.{book-again}
use Rattle.register_laws.proofs.KeepsLimits.{keeps_its_limits}
use Rattle.register_laws.proofs.LawfulJournals.{lawful-before}
use Rattle.register_laws.proofs.Runs.{table-one}
use Rattle.register_laws.proofs.RunsAreLawful.{answer_is_lawful}
use Rattle.register_laws.specs.Lawful.{book_behind, own_at}
use Rattle.register_machine.specs.journal.Journals.{Journal, last_moment, with_event}
use Rattle.register_machine.specs.journal.Kinds.{dealer_in, dealer_numbered, dealers_of, each_in}
use Rattle.register_machine.specs.journal.Lawful.{IsLawful}
use Rattle.register_machine.specs.pricing.CorrectedBook.{Book, book_of}
use Rattle.register_machine.specs.pricing.CorrectedOrders.{row_as_sent}
use Rattle.register_machine.specs.pricing.PublishedTable.{table_of}
use Rattle.register_machine.specs.run.Answers.{answer, answer_asked}
use Rattle.register_machine.specs.run.Batches.{BatchAnswer, batch_after_line, situation_behind}

-- ---- the book

abbrev pub with_orders : Book → List OrderRow → Book
with_orders book rows =
    record { table = book.table; classes = book.classes; accounts = book.accounts; orders = book.orders ++ rows; rates = book.rates }

book-one : (journal : Journal) (now : ℕ) (placed : Placed) → IsLawful (with_event journal (line_event now placed)) → book_behind (with_event journal (line_event now placed)) ≡ with_orders (book_behind journal) (row_as_sent (length journal) placed.receipt placed.order ∷ [])
book-one journal now placed lawful =
    let book = book_behind journal in
    let rows = row_as_sent (length journal) placed.receipt placed.order ∷ [] in
    book_goes_on journal (line_event now placed) lawful
    ∙ (ap (λ (classes : List ClassForm). record { table = book.table; classes = classes; accounts = book.accounts ++ []; orders = book.orders ++ rows; rates = book.rates }) (append-nil book.classes)
    ∙ ap (λ (accounts : List AccountForm). record { table = book.table; classes = book.classes; accounts = accounts; orders = book.orders ++ rows; rates = book.rates }) (append-nil book.accounts))

-- the first of some events, put behind the journal
first-behind : (journal : Journal) (now : ℕ) (placed : Placed) (later : List Placed) → with_event journal (line_event now placed) ++ line_events now later ≡ journal ++ line_events now (placed ∷ later)
first-behind journal now placed later = append_assoc journal (line_event now placed ∷ []) (line_events now later)

abbrev with_orders_as : Book → List OrderRow → Book
with_orders_as book orders =
    record { table = book.table; classes = book.classes; accounts = book.accounts; orders = orders; rates = book.rates }

pub book-behind : (journal : Journal) (now : ℕ) (earlier : List Placed) → IsLawful (journal ++ line_events now earlier) → book_behind (journal ++ line_events now earlier) ≡ with_orders (book_behind journal) (rows_from (length journal) earlier)
book-behind journal now [] lawful =
    ap book_behind (append-nil journal) ∙ sym (ap (with_orders_as (book_behind journal)) (append-nil (book_behind journal).orders))
book-behind journal now (placed ∷ later) lawful =
    let one = with_event journal (line_event now placed) in
    let row = row_as_sent (length journal) placed.receipt placed.order in
    let all = subst IsLawful (sym (first-behind journal now placed later)) lawful in
    ap book_behind (sym (first-behind journal now placed later))
    ∙ (book-behind one now later all
    ∙ (ap (λ (book : Book). with_orders book (rows_from (length one) later)) (book-one journal now placed (lawful-before one (line_events now later) all))
    ∙ (ap (λ n. with_orders (with_orders (book_behind journal) (row ∷ [])) (rows_from n later)) (length-append journal (line_event now placed ∷ []))
    ∙ ap (with_orders_as (book_behind journal)) (append_assoc (book_behind journal).orders (row ∷ []) (rows_from (length journal + 1) later)))))

-- ---- the price table, the dealers and the last moment

pub table-behind : (journal : Journal) (now : ℕ) (earlier : List Placed) → table_of (journal ++ line_events now earlier) ≡ table_of journal
table-behind journal now [] = ap table_of (append-nil journal)
table-behind journal now (placed ∷ later) =
    ap table_of (sym (first-behind journal now placed later))
    ∙ (table-behind (with_event journal (line_event now placed)) now later
    ∙ table-one journal (line_event now placed))

no-dealers : (now : ℕ) (earlier : List Placed) → each_in dealer_in (line_events now earlier) ≡ []
no-dealers now [] = refl
no-dealers now (placed ∷ later) = no-dealers now later

pub dealers-behind : (journal : Journal) (now : ℕ) (earlier : List Placed) → dealers_of (journal ++ line_events now earlier) ≡ dealers_of journal
dealers-behind journal now earlier =
    filter_map-append (λ (event : Event). dealer_in event.kind) journal (line_events now earlier)
    ∙ (ap (λ (dealers : List DealerForm). dealers_of journal ++ dealers) (no-dealers now earlier) ∙ append-nil (dealers_of journal))

abbrev moment-of-later : ℕ → Event → ℕ
moment-of-later last event = event.moment

none-later : (last now : ℕ) (earlier : List Placed) → last ≤ now → fold moment-of-later last (line_events now earlier) ≤ now
none-later last now [] late = late
none-later last now (placed ∷ later) late = none-later now now later (omega arith)

pub late-behind : (journal : Journal) (now : ℕ) (earlier : List Placed) → last_moment journal ≤ now → last_moment (journal ++ line_events now earlier) ≤ now
late-behind journal now earlier late =
    subst (λ last. last ≤ now) (sym (fold-append moment-of-later 0 journal (line_events now earlier)))
    (none-later (last_moment journal) now earlier late)

-- ---- the number of events

pub few_behind : (journal : Journal) (now : ℕ) (earlier : List Placed) → IsLawful (journal ++ line_events now earlier) → length journal + length earlier ≤ 100000000
few_behind journal now earlier lawful =
    subst (λ n. n ≤ 100000000)
    (length-append journal (line_events now earlier) ∙ ap (λ n. length journal + n) (length-map earlier (line_event now)))
    (keeps_its_limits (journal ++ line_events now earlier) lawful).events

-- ---- the situation, and the lawful journal

-- the situation behind some orders is that of their journal's own book
pub own-behind : (journal : Journal) (now : ℕ) (caller : Caller) (earlier : List Placed) → situation_behind (own_at journal now caller) (line_events now earlier) ≡ own_at (journal ++ line_events now earlier) now caller
own-behind journal now caller earlier =
    let events = line_events now earlier in
    ap (λ (book : Book). record { journal = journal ++ events; book = book; now = now; caller = caller })
    (book-again (table_of journal) journal events ∙ ap (λ table. book_of table (journal ++ events)) (sym (table-behind journal now earlier)))

-- the journal behind the answer to one line more
pub lawful_more : (journal : Journal) (now dealer : ℕ) (so_far : BatchAnswer) (earlier : List Placed) (asked : Asked) → so_far.events ≡ line_events now earlier → is_some (dealer_numbered (dealers_of journal) dealer) ≡ true → last_moment journal ≤ now → IsLawful (journal ++ so_far.events) → IsLawful (journal ++ (batch_after_line (own_at journal now (Caller.Dealer dealer)) so_far asked).events)
lawful_more journal now dealer so_far earlier asked are among late lawful =
    subst (λ situation. IsLawful (journal ++ (so_far.events ++ (answer_asked situation asked).events))) (sym own) (by_asked asked)
  where
    behind : Journal
    behind = journal ++ so_far.events

    own : situation_behind (own_at journal now (Caller.Dealer dealer)) so_far.events ≡ own_at behind now (Caller.Dealer dealer)
    own =
        subst (λ events. situation_behind (own_at journal now (Caller.Dealer dealer)) events ≡ own_at (journal ++ events) now (Caller.Dealer dealer)) (sym are)
        (own-behind journal now (Caller.Dealer dealer) earlier)

    known : is_some (dealer_numbered (dealers_of behind) dealer) ≡ true
    known =
        ap (λ events. is_some (dealer_numbered (dealers_of (journal ++ events)) dealer)) are
        ∙ (ap (λ dealers. is_some (dealer_numbered dealers dealer)) (dealers-behind journal now earlier) ∙ among)

    still : last_moment behind ≤ now
    still = subst (λ events. last_moment (journal ++ events) ≤ now) (sym are) (late-behind journal now earlier late)

    by_asked : (some : Asked) → IsLawful (journal ++ (so_far.events ++ (answer_asked (own_at behind now (Caller.Dealer dealer)) some).events))
    by_asked (Ok request) =
        subst IsLawful (append_assoc journal so_far.events (answer (own_at behind now (Caller.Dealer dealer)) request).events)
        (answer_is_lawful behind now (Caller.Dealer dealer) request known still lawful)
    by_asked (Err place) = subst (λ events. IsLawful (journal ++ events)) (sym (append-nil so_far.events)) lawful
