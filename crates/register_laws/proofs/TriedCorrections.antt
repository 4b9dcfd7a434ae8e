-- The book of a correction on trial.
use Rattle.std.proofs.Common.{List, None, [], ap, arith, false, filter, get_or, is_some, length, map, refl, subst, suc, sym, true, zero, ℕ, ◌++◌, ◌<◌, ◌==◌, ◌∙◌, ◌∷◌, ◌≡◌, ◌≤◌}
use Rattle.std.proofs.lemmas.Bool.{and_parts, eqb-true, true≢false}
use Rattle.std.proofs.lemmas.List.{length-map}
use Rattle.std.proofs.lemmas.List.Elements.{filter_agree}
use Rattle.agent_events.specs.Events.{Event}
use Rattle.agent_events.specs.declared.event.EventKind.{EventKind}
use Rattle.agent_events.specs.declared.order.OrderRow.{OrderRow}
use Rattle.agent_events.specs.declared.request.FixPriceForm.{FixPriceForm}
use Rattle.register_laws.specs.EventReplays.{is_correction}
use Rattle.register_laws.specs.TradesInTurn.{NamesOnce}
use Rattle.register_laws.specs.TriedCorrections.{IsTried, TriedHasABook}
use Rattle.forward_price.specs.PriceTables.{AreNumbered}
use Rattle.forward_price.specs.declared.price_sheet.Sheet.{Sheet}
use Rattle.register_laws.proofs.BooksGoOn.{book_goes_on_by}
use Rattle.register_laws.proofs.Choosing.{at_most_one}
use Rattle.register_laws.proofs.ExecutedInTurn.{orders_in_turn}
use Rattle.register_laws.proofs.ListParts.{filter-map}
use Rattle.register_laws.proofs.OneTradeAnOrder.{one-named}
use Rattle.register_laws.proofs.OrdersGoOn.{replaced-named, struck-named}
use Rattle.register_laws.proofs.TablesAreOrderly.{numbered}
use Rattle.register_laws.proofs.Tests.{find-any}
use Rattle.register_laws.specs.Lawful.{book_behind}
use Rattle.register_laws.specs.OneEventMore.{book_after, orders_after, replaced_by, struck_by}
use Rattle.register_machine.specs.journal.Journals.{Journal, with_event}
use Rattle.register_machine.specs.journal.Lawful.{IsLawful}
use Rattle.register_machine.specs.pricing.CorrectedBook.{Book}
use Rattle.register_machine.specs.pricing.CorrectedOrders.{is_named, order_named, row_as_sent}
use Rattle.register_machine.specs.pricing.CorrectedPrices.{sheet_as_corrected}

-- ---- names

-- a change that leaves names leaves how often each stands
names-kept : (f : OrderRow → OrderRow) → ((account ref_no : ℕ) (row : OrderRow) → is_named account ref_no (f row).order ≡ is_named account ref_no row.order) → (orders : List OrderRow) → NamesOnce orders → NamesOnce (map f orders)
names-kept f same orders once account ref_no =
    subst (λ n. n ≤ 1)
    (sym
    (ap length (filter-map (λ (row : OrderRow). is_named account ref_no row.order) f orders)
    ∙ (length-map (filter (λ row. is_named account ref_no (f row).order) orders) f
    ∙ ap length (filter_agree (λ row. is_named account ref_no (f row).order) (λ row. is_named account ref_no row.order) (same account ref_no) orders))))
    (once account ref_no)

entered-once : (orders : List OrderRow) (row : OrderRow) → NamesOnce orders → order_named orders row.order.account row.order.ref_no ≡ None → NamesOnce (orders ++ row ∷ [])
entered-once orders row once new account ref_no =
    at_most_one (λ (other : OrderRow). is_named account ref_no other.order) orders row (once account ref_no)
    (λ is.
    let same = and_parts (row.order.account == account) (row.order.ref_no == ref_no) is in
    sym (find-any (λ (other : OrderRow). is_named account ref_no other.order) orders)
    ∙ (ap (λ a. is_some (order_named orders a ref_no)) (sym (eqb-true row.order.account account same.0))
    ∙ (ap (λ r. is_some (order_named orders row.order.account r)) (sym (eqb-true row.order.ref_no ref_no same.1)) ∙ ap is_some new)))

module _ (journal : Journal) (event : Event) (lawful : IsLawful journal) (tried : IsTried journal event) where
  before : NamesOnce (book_behind journal).orders
  before = one-named journal lawful

  names-by : (kind : EventKind) → event.kind ≡ kind → NamesOnce (orders_after (length journal) (book_behind journal).orders kind)
  names-by (EventKind.Enter form) is = entered-once (book_behind journal).orders (row_as_sent (length journal) form.receipt form.order) before (tried.new form is)
  names-by (EventKind.Replace form) is = names-kept (replaced_by form) (replaced-named form) (book_behind journal).orders before
  names-by (EventKind.Void form) is = names-kept (struck_by (form.account, form.ref_no)) (struck-named (form.account, form.ref_no)) (book_behind journal).orders before
  names-by (EventKind.Cancel form) is = names-kept (struck_by (form.account, form.target)) (struck-named (form.account, form.target)) (book_behind journal).orders before
  names-by (EventKind.Order placed) is = absurd (true≢false (sym (subst (λ kind. is_correction kind ≡ true) is tried.correction)))
  names-by _ is = before

  after : (book_behind (with_event journal event)) ≡ book_after (length journal) (book_behind journal) event.moment event.kind
  after = book_goes_on_by journal event tried.touches

  -- a corrected price leaves the numbers of the sheets
  fixed-numbered : (form : FixPriceForm) (sheets : List Sheet) → AreNumbered sheets → AreNumbered (map (sheet_as_corrected (form ∷ [])) sheets)
  fixed-numbered form sheets numbers = record {
    each = λ place d short.
        let within = subst (λ n. place < n) (length-map sheets (sheet_as_corrected (form ∷ []))) short in
        ap (λ (s : Sheet). s.number) (read-under sheets place d within) ∙ numbers.each place d within;
  }
    where
      read-under : (sheets : List Sheet) (place : ℕ) (d : Sheet) → place < length sheets → get_or (map (sheet_as_corrected (form ∷ [])) sheets) place d ≡ sheet_as_corrected (form ∷ []) (get_or sheets place d)
      read-under [] place d short = absurd (omega (arith, short))
      read-under (s ∷ ss) zero d short = refl
      read-under (s ∷ ss) (suc place) d short = read-under ss place d (omega (arith, short))

  numbered-by : (kind : EventKind) → is_correction kind ≡ true → AreNumbered (book_after (length journal) (book_behind journal) event.moment kind).table.sheets
  numbered-by (EventKind.FixPrice form) is = fixed-numbered form (book_behind journal).table.sheets (numbered journal lawful).corrected
  numbered-by (EventKind.Sheet form) is = absurd (true≢false (sym is))
  numbered-by (EventKind.Calendar form) is = absurd (true≢false (sym is))
  numbered-by (EventKind.Close form) is = absurd (true≢false (sym is))
  numbered-by (EventKind.Class form) is = absurd (true≢false (sym is))
  numbered-by _ is = (numbered journal lawful).corrected

  many-by : (kind : EventKind) → is_correction kind ≡ true → length (book_after (length journal) (book_behind journal) event.moment kind).table.sheets ≡ length (book_behind journal).table.sheets
  many-by (EventKind.FixPrice form) is = length-map (book_behind journal).table.sheets (sheet_as_corrected (form ∷ []))
  many-by (EventKind.Sheet form) is = absurd (true≢false (sym is))
  many-by (EventKind.Calendar form) is = absurd (true≢false (sym is))
  many-by (EventKind.Close form) is = absurd (true≢false (sym is))
  many-by (EventKind.Class form) is = absurd (true≢false (sym is))
  many-by _ is = refl

  pub numbered-tried : AreNumbered (book_behind (with_event journal event)).table.sheets
  numbered-tried =
      subst (λ (b : Book). AreNumbered b.table.sheets) (sym after) (numbered-by event.kind tried.correction)

  pub many-tried : length (book_behind (with_event journal event)).table.sheets ≡ length (book_behind journal).table.sheets
  many-tried = ap (λ (b : Book). length b.table.sheets) after ∙ many-by event.kind tried.correction

  pub names-tried : NamesOnce (book_behind (with_event journal event)).orders
  names-tried = subst (λ (b : Book). NamesOnce b.orders) (sym after) (names-by event.kind refl)

pub tried_has_a_book : (journal : Journal) (event : Event) → TriedHasABook journal event
tried_has_a_book journal event lawful tried = record {
  numbered = numbered-tried journal event lawful tried;
  as_many = many-tried journal event lawful tried;
  names = names-tried journal event lawful tried;
  turns = (orders_in_turn (with_event journal event)).each;
}
