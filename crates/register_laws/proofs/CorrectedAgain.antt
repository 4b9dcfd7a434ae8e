-- Prices that are corrected already are corrected again to the same: so a book may be made anew from its own table.
use Rattle.std.proofs.Common.{Bool, List, None, Option, Some, [], ap, append-nil, cond, false, fold, map, refl, subst, sym, true, ℕ, ◌++◌, ◌∙◌, ◌∷◌, ◌≡◌}
use Rattle.std.proofs.lemmas.List.Elements.{filter_map-append}
use Rattle.std.proofs.lemmas.List.Sums.{fold-append}
use Rattle.std.specs.Option.{option_map_or}
use Rattle.agent_events.specs.Events.{Event}
use Rattle.agent_events.specs.Fields.{prices}
use Rattle.agent_events.specs.declared.event.EventKind.{EventKind}
use Rattle.agent_events.specs.declared.reply.Reply.{Reply}
use Rattle.agent_events.specs.declared.request.FixPriceForm.{FixPriceForm}
use Rattle.forward_price.specs.PriceTables.{Table, with_prices, with_sheets}
use Rattle.forward_price.specs.declared.price_sheet.Sheet.{Sheet}
use Rattle.share_lots.specs.Lots.{lots_with}
use Rattle.register_machine.specs.corrections.Gains.{class_numbers_of, gains_at, gains_between}
use Rattle.register_machine.specs.journal.Choices.{last_of}
use Rattle.register_machine.specs.journal.Journals.{Journal, with_event}
use Rattle.register_machine.specs.journal.Kinds.{accounts_of, classes_of, each_in, price_fix_in}
use Rattle.register_machine.specs.pricing.CorrectedBook.{Book, book_of}
use Rattle.register_machine.specs.pricing.CorrectedOrders.{orders_of}
use Rattle.register_machine.specs.pricing.CorrectedPrices.{fixes_price, price_as_corrected, sheet_as_corrected, table_as_corrected}
use Rattle.register_machine.specs.pricing.DividendRates.{rates_of}
use Rattle.register_machine.specs.replay.Replay.{replay}
use Rattle.register_machine.specs.run.Replies.{fix_reply, reply_by, reply_of}

-- once something was found, the default isn't read
found-once : {X Y : Type 0} (test : X → Bool) (f : X → Y) (x : X) (xs : List X) (d e : Y) → option_map_or f (fold (λ found y. cond (test y) (Some y) found) (Some x) xs) d ≡ option_map_or f (fold (λ found y. cond (test y) (Some y) found) (Some x) xs) e
found-once test f x [] d e = refl
found-once test f x (y ∷ ys) d e = by_test (test y) (found-once test f y ys d e) (found-once test f x ys d e)
  where
    by_test : (b : Bool) → option_map_or f (fold (λ found z. cond (test z) (Some z) found) (Some y) ys) d ≡ option_map_or f (fold (λ found z. cond (test z) (Some z) found) (Some y) ys) e → option_map_or f (fold (λ found z. cond (test z) (Some z) found) (Some x) ys) d ≡ option_map_or f (fold (λ found z. cond (test z) (Some z) found) (Some x) ys) e → option_map_or f (fold (λ found z. cond (test z) (Some z) found) (cond b (Some y) (Some x)) ys) d ≡ option_map_or f (fold (λ found z. cond (test z) (Some z) found) (cond b (Some y) (Some x)) ys) e
    by_test true here later = here
    by_test false here later = later

last-again : {X Y : Type 0} (test : X → Bool) (f : X → Y) (xs more : List X) (d : Y) → option_map_or f (last_of test (xs ++ more)) (option_map_or f (last_of test xs) d) ≡ option_map_or f (last_of test (xs ++ more)) d
last-again {X = X} test f xs more d =
    let both = fold-append (λ found y. cond (test y) (Some y) found) None xs more in
    ap (λ found. option_map_or f found (option_map_or f (last_of test xs) d)) both
    ∙ (by_found (last_of test xs) ∙ sym (ap (λ found. option_map_or f found d) both))
  where
    by_found : (found : Option X) → option_map_or f (fold (λ found y. cond (test y) (Some y) found) found more) (option_map_or f found d) ≡ option_map_or f (fold (λ found y. cond (test y) (Some y) found) found more) d
    by_found None = refl
    by_found (Some x) = found-once test f x more (f x) d

price-again : (fixes more : List FixPriceForm) (moment : ℕ) (price : ℕ × ℕ) → price_as_corrected (fixes ++ more) moment (price_as_corrected fixes moment price) ≡ price_as_corrected (fixes ++ more) moment price
price-again fixes more moment price =
    ap (λ (nav : ℕ). (price.0, nav)) (last-again (fixes_price price.0 moment) (λ (form : FixPriceForm). form.nav) fixes more price.1)

prices-again : (fixes more : List FixPriceForm) (moment : ℕ) (prices : List (ℕ × ℕ)) → map (price_as_corrected (fixes ++ more) moment) (map (price_as_corrected fixes moment) prices) ≡ map (price_as_corrected (fixes ++ more) moment) prices
prices-again fixes more moment [] = refl
prices-again fixes more moment (price ∷ prices) =
    ap (λ p. p ∷ map (price_as_corrected (fixes ++ more) moment) (map (price_as_corrected fixes moment) prices)) (price-again fixes more moment price)
    ∙ ap (λ ps. price_as_corrected (fixes ++ more) moment price ∷ ps) (prices-again fixes more moment prices)

sheets-again : (fixes more : List FixPriceForm) (sheets : List Sheet) → map (sheet_as_corrected (fixes ++ more)) (map (sheet_as_corrected fixes) sheets) ≡ map (sheet_as_corrected (fixes ++ more)) sheets
sheets-again fixes more [] = refl
sheets-again fixes more (sheet ∷ sheets) =
    ap (λ prices. with_prices sheet prices ∷ map (sheet_as_corrected (fixes ++ more)) (map (sheet_as_corrected fixes) sheets)) (prices-again fixes more sheet.moment sheet.prices)
    ∙ ap (λ all. sheet_as_corrected (fixes ++ more) sheet ∷ all) (sheets-again fixes more sheets)

pub table-again : (journal events : Journal) (table : Table) → table_as_corrected (journal ++ events) (table_as_corrected journal table) ≡ table_as_corrected (journal ++ events) table
table-again journal events table =
    ap (λ sheets. with_sheets table sheets)
    (rw (filter_map-append (λ (event : Event). price_fix_in event.kind) journal events) (sheets-again (each_in price_fix_in journal) (each_in price_fix_in events) table.sheets))

pub table-same-again : (journal : Journal) (table : Table) → table_as_corrected journal (table_as_corrected journal table) ≡ table_as_corrected journal table
table-same-again journal table =
    subst (λ known. table_as_corrected known (table_as_corrected journal table) ≡ table_as_corrected known table) (append-nil journal) (table-again journal [] table)

-- the book of a journal with more events is the same, made from the book's own table
pub book-again : (table : Table) (journal events : Journal) → book_of (book_of table journal).table (journal ++ events) ≡ book_of table (journal ++ events)
book-again table journal events =
    ap (λ (t : Table). record { table = t; classes = classes_of (journal ++ events); accounts = accounts_of (journal ++ events); orders = orders_of (journal ++ events); rates = rates_of (journal ++ events) })
    (table-again journal events table)

pub book-same-again : (table : Table) (journal : Journal) → book_of (book_of table journal).table journal ≡ book_of table journal
book-same-again table journal =
    ap (λ (t : Table). record { table = t; classes = classes_of journal; accounts = accounts_of journal; orders = orders_of journal; rates = rates_of journal })
    (table-same-again journal table)

pub gains-again : (table : Table) (journal : Journal) (event : Event) → gains_at (book_of table journal).table journal event ≡ gains_at table journal event
gains-again table journal event =
    ap (λ (book : Book). gains_between (class_numbers_of journal) (replay book) (replay (book_of (book_of table journal).table (with_event journal event))) (book_of (book_of table journal).table (with_event journal event)).table.sheets) (book-same-again table journal)
    ∙ ap (λ (book : Book). gains_between (class_numbers_of journal) (replay (book_of table journal)) (replay book) book.table.sheets) (book-again table journal (event ∷ []))

pub reply-again : (table : Table) (journal : Journal) (event : Event) → reply_of (book_of table journal).table journal event ≡ reply_of table journal event
reply-again table journal event = by_kind event.kind
  where
    fix-again : (fix : ℕ) → fix_reply (book_of table journal).table journal event fix ≡ fix_reply table journal event fix
    fix-again fix = ap (λ gains. Reply.Fix fix gains) (gains-again table journal event)

    by_kind : (kind : EventKind) → reply_by (book_of table journal).table journal event kind ≡ reply_by table journal event kind
    by_kind (EventKind.Calendar form) = refl
    by_kind (EventKind.Close form) = refl
    by_kind (EventKind.Class form) = refl
    by_kind (EventKind.Dealer form) = refl
    by_kind (EventKind.Household form) = refl
    by_kind (EventKind.Account form) = refl
    by_kind (EventKind.Order lots_with) = refl
    by_kind (EventKind.Cancel form) = refl
    by_kind (EventKind.Sheet form) = refl
    by_kind (EventKind.Dividend form) = refl
    by_kind (EventKind.FixPrice form) = fix-again form.fix
    by_kind (EventKind.FixRate form) = fix-again form.fix
    by_kind (EventKind.Enter form) = fix-again form.fix
    by_kind (EventKind.Replace form) = fix-again form.fix
    by_kind (EventKind.Void form) = fix-again form.fix
