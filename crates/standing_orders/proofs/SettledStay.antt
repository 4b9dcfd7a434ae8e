-- The orders of a household that are settled stay so with an event more.
use Rattle.std.proofs.Common.{All, Bool, List, None, Option, Some, [], ap, append-nil, arith, cond, false, inl, inr, length, map, option_map, refl, slice_get, subst, suc, sym, true, zero, ℕ, ◌&&◌, ◌++◌, ◌<◌, ◌==◌, ◌∙◌, ◌∷◌, ◌≡◌, ◌≤◌, ◌||◌}
use Rattle.std.proofs.lemmas.Bool.{and_parts, le-leb, true≢false}
use Rattle.std.proofs.lemmas.List.Elements.{All-contains}
use Rattle.std.specs.List.{list_all, list_any}
use Rattle.std.specs.Option.{option_map_or}
use Rattle.std.specs.Prelude.{is_none, nat_le, not}
use Rattle.agent_events.specs.Events.{Event}
use Rattle.agent_events.specs.declared.event.EventKind.{EventKind}
use Rattle.agent_events.specs.declared.order.OrderRow.{OrderRow}
use Rattle.agent_events.specs.declared.request.AccountForm.{AccountForm}
use Rattle.agent_events.specs.declared.request.EntryForm.{EntryForm}
use Rattle.agent_events.specs.declared.request.FixPriceForm.{FixPriceForm}
use Rattle.register_laws.proofs.EventReplays.{known_in, never-after}
use Rattle.register_laws.proofs.OneOfAName.{found-before}
use Rattle.register_laws.specs.EventReplays.{is_correction, sheet_behind}
use Rattle.forward_price.proofs.ChoiceFacts.{best-choice}
use Rattle.forward_price.proofs.TurnFacts.{earlier-order}
use Rattle.forward_price.specs.Choices.{IsBest, IsChoice}
use Rattle.forward_price.specs.PriceTables.{AreNumbered, is_earlier, next_sheet, prices_order}
use Rattle.forward_price.specs.declared.price_sheet.Sheet.{Sheet}
use Rattle.register_laws.proofs.BooksGoOn.{book_goes_on}
use Rattle.register_laws.proofs.Comparisons.{eq-no}
use Rattle.register_laws.proofs.NamesStand.{names_stand}
use Rattle.register_laws.proofs.NothingBefore.{last-brought}
use Rattle.register_laws.proofs.TablesAreOrderly.{numbered}
use Rattle.register_laws.specs.Households.{is_of_household}
use Rattle.register_laws.specs.Identities.{has_number, is_class}
use Rattle.register_laws.specs.Lawful.{book_behind}
use Rattle.register_laws.specs.NamesStand.{is_placed_in}
use Rattle.register_laws.specs.OneEventMore.{book_after, replaced_by, struck_by}
use Rattle.register_machine.specs.journal.Journals.{Journal, with_event}
use Rattle.register_machine.specs.journal.Kinds.{accounts_of, classes_of}
use Rattle.register_machine.specs.journal.Lawful.{IsLawful}
use Rattle.register_machine.specs.pricing.CorrectedBook.{Book}
use Rattle.register_machine.specs.pricing.CorrectedOrders.{is_named, orders_of, replaces, stands}
use Rattle.register_machine.specs.pricing.CorrectedPrices.{sheet_as_corrected}
use Rattle.register_machine.specs.pricing.OrderClasses.{classes_in}
use Rattle.standing_orders.proofs.PricedLast.{settled_more}
use Rattle.standing_orders.specs.Places.{RisesWithin, is_among}
use Rattle.standing_orders.specs.Rows.{is_settled, sheet_number, waits}
use Rattle.standing_orders.proofs.IndexSteps.{as-many, got-more, got-under, number-fixed, some-same}
use Rattle.standing_orders.specs.IndexOfJournals.{IsIndexOf, sheets_of}
use Rattle.standing_orders.specs.SettledOrders.{AreSettled, CorrectionLeavesSettled, LawfulLeavesSettled, ReplacesNone, first_waiting, SettledBeforeWaiting}

none-some : {X : Type 0} {x : X} → None ≡ Some x → ⊥
none-some e = cc

-- ---- a book with one event more, by what the event does to it

module _ (book : Book) (household first number : ℕ) (settled : AreSettled book household first number) where
  -- with an order behind the others
  with-order : (row : OrderRow) → first ≤ length book.orders → AreSettled (record book { orders = book.orders ++ row ∷ [] }) household first number
  with-order new few place row short there own = elim (got-more book.orders new row place there) [
    | inl before ↦ settled place row short before own
    | inr last ↦ absurd (omega (arith, short, few, last.0))
  ]

  -- with an order struck
  with-strike : (named : ℕ × ℕ) → AreSettled (record book { orders = map (struck_by named) book.orders }) household first number
  with-strike named place row short there own = by (slice_get book.orders place) refl (sym (got-under (struck_by named) book.orders place) ∙ there)
    where
      by_name : (old : OrderRow) (b : Bool) → slice_get book.orders place ≡ Some old → cond b (record { place = old.place; receipt = old.receipt; struck = true; order = old.order }) old ≡ row → is_settled book.table.sheets number row ≡ true
      by_name old true at is = ap (λ (r : OrderRow). not (stands r) || option_map_or (λ own. nat_le own number) (sheet_number book.table.sheets row) false) (sym is)
      by_name old false at is = settled place row short (at ∙ ap Some is) own

      by : (found : Option OrderRow) → slice_get book.orders place ≡ found → option_map (struck_by named) found ≡ Some row → is_settled book.table.sheets number row ≡ true
      by None at is = absurd (none-some is)
      by (Some old) at is = by_name old (is_named named.0 named.1 old.order) at (some-same is)

  -- with an order of another household replaced
  with-replacement : (form : EntryForm) → is_of_household book.accounts household form.order.account ≡ false → AreSettled (record book { orders = map (replaced_by form) book.orders }) household first number
  with-replacement form other place row short there own = by (slice_get book.orders place) refl (sym (got-under (replaced_by form) book.orders place) ∙ there)
    where
      by_name : (old : OrderRow) (b : Bool) → slice_get book.orders place ≡ Some old → cond b (record { place = old.place; receipt = form.receipt; struck = old.struck; order = form.order }) old ≡ row → is_settled book.table.sheets number row ≡ true
      by_name old true at is = absurd (true≢false (sym own ∙ (ap (λ (r : OrderRow). is_of_household book.accounts household r.order.account) (sym is) ∙ other)))
      by_name old false at is = settled place row short (at ∙ ap Some is) own

      by : (found : Option OrderRow) → slice_get book.orders place ≡ found → option_map (replaced_by form) found ≡ Some row → is_settled book.table.sheets number row ≡ true
      by None at is = absurd (none-some is)
      by (Some old) at is = by_name old (replaces old.order form) at (some-same is)

  -- with a corrected price
  with-price : (form : FixPriceForm) → AreSettled (record book { table = record book.table { sheets = map (sheet_as_corrected (form ∷ [])) book.table.sheets } }) household first number
  with-price form place row short there own =
      ap (λ (found : Option ℕ). not (stands row) || option_map_or (λ own. nat_le own number) found false) (number-fixed form book.table row)
      ∙ settled place row short there own

  -- with a sheet that isn't earlier than any before it
  with-sheet : (last : Sheet) → All (λ (s : Sheet). s.moment ≤ last.moment) book.table.sheets → AreSettled (record book { table = record book.table { sheets = book.table.sheets ++ last ∷ [] } }) household first number
  with-sheet last earlier place row short there own = settled_more book.table.sheets last number row earlier (settled place row short there own)

-- ---- an account that is opened is that of no order

all-at : {X : Type 0} (p : X → Bool) (xs : List X) (k : ℕ) (x : X) → list_all p xs ≡ true → slice_get xs k ≡ Some x → p x ≡ true
all-at p [] k x all at = absurd (none-some at)
all-at p (y ∷ ys) zero x all at = ap p (sym (some-same at)) ∙ (and_parts (p y) (list_all p ys) all).0
all-at p (y ∷ ys) (suc k) x all at = all-at p ys k x (and_parts (p y) (list_all p ys) all).1 at

own-before : (journal : Journal) (form : AccountForm) (household number : ℕ) → known_in journal number ≡ true → is_of_household (accounts_of journal ++ form ∷ []) household number ≡ is_of_household (accounts_of journal) household number
own-before journal form household number on =
    ap (λ found. option_map_or (λ (owner : ℕ). owner == household) (option_map (λ (account : AccountForm). account.household) found) false)
    (found-before (has_number number) (accounts_of journal) (form ∷ []) on)

-- ---- an event behind a journal

module _ (journal : Journal) (event : Event) (household first number : ℕ) (few : first ≤ length (book_behind journal).orders) (settled : AreSettled (book_behind journal) household first number) where
  abbrev AreAfter : EventKind → Type 0
  AreAfter kind = AreSettled (book_after (length journal) (book_behind journal) event.moment kind) household first number

  -- no account is opened
  same-own : (row : OrderRow) → is_of_household (accounts_of journal ++ []) household row.order.account ≡ true → is_of_household (accounts_of journal) household row.order.account ≡ true
  same-own row own = sym (ap (λ accounts. is_of_household accounts household row.order.account) (append-nil (accounts_of journal))) ∙ own

  pub by-correction : (kind : EventKind) → is_correction kind ≡ true → ReplacesNone journal kind household → AreAfter kind
  by-correction (EventKind.FixPrice form) corrects none = λ place row short there own. with-price (book_behind journal) household first number settled form place row short there (same-own row own)
  by-correction (EventKind.FixRate form) corrects none = λ place row short there own. settled place row short there (same-own row own)
  by-correction (EventKind.Enter form) corrects none = λ place row short there own. with-order (book_behind journal) household first number settled _ few place row short there (same-own row own)
  by-correction (EventKind.Replace form) corrects none = λ place row short there own. with-replacement (book_behind journal) household first number settled form (none form refl) place row short there (same-own row own)
  by-correction (EventKind.Void form) corrects none = λ place row short there own. with-strike (book_behind journal) household first number settled (form.account, form.ref_no) place row short there (same-own row own)
  by-correction _ corrects none = absurd (true≢false (sym corrects))

  pub by-event : IsLawful (with_event journal event) → (kind : EventKind) → event.kind ≡ kind → is_correction kind ≡ false → AreAfter kind
  by-event lawful (EventKind.Order placed) is plain = λ place row short there own. with-order (book_behind journal) household first number settled _ few place row short there (same-own row own)
  by-event lawful (EventKind.Cancel form) is plain = λ place row short there own. with-strike (book_behind journal) household first number settled (form.account, form.target) place row short there (same-own row own)
  by-event lawful (EventKind.Sheet form) is plain = λ place row short there own. with-sheet (book_behind journal) household first number settled (sheet_behind journal form) (never-after journal event lawful form is) place row short there (same-own row own)
  by-event lawful (EventKind.Account form) is plain = λ place row short there own.
      settled place row short there
      (sym (own-before journal form household row.order.account
      (and_parts (known_in journal row.order.account) (list_all (λ class. list_any (is_class class) (classes_of journal)) (classes_in row.order.body))
      (all-at (λ (r : OrderRow). is_placed_in journal r.order) (orders_of journal) place row (names_stand journal (last-brought journal event lawful).0).orders there)).0) ∙ own)
  by-event lawful (EventKind.FixPrice form) is plain = absurd (true≢false plain)
  by-event lawful (EventKind.FixRate form) is plain = absurd (true≢false plain)
  by-event lawful (EventKind.Enter form) is plain = absurd (true≢false plain)
  by-event lawful (EventKind.Replace form) is plain = absurd (true≢false plain)
  by-event lawful (EventKind.Void form) is plain = absurd (true≢false plain)
  by-event lawful _ is plain = λ place row short there own. settled place row short there (same-own row own)

pub correction_leaves_settled : (journal : Journal) (event : Event) (household first number : ℕ) → CorrectionLeavesSettled journal event household first number
correction_leaves_settled journal event household first number goes corrects none few settled =
    subst (λ (book : Book). AreSettled book household first number) (sym goes)
    (by-correction journal event household first number few settled event.kind corrects none)

pub event_leaves_settled : (journal : Journal) (event : Event) (household first number : ℕ) → LawfulLeavesSettled journal event household first number
event_leaves_settled journal event household first number lawful plain few settled =
    subst (λ (book : Book). AreSettled book household first number) (sym (book_goes_on journal event lawful))
    (by-event journal event household first number few settled lawful event.kind refl plain)

-- ---- what waits tells what is settled

-- places that rise from one on have none before it
none-among : (from to : ℕ) (places : List ℕ) (place : ℕ) → RisesWithin from to places → place < from → is_among places place ≡ false
none-among from to [] place rises short = refl
none-among from to (other ∷ places) place rises short =
    ap (λ b. b || is_among places place) (eq-no place other (λ same. let low = rises.0 in omega (arith, same, low, short)))
    ∙ none-among (suc other) to places place rises.2 (let low = rises.0 in omega (arith, low, short))

before-first : (to many place : ℕ) (places : List ℕ) → RisesWithin 0 to places → place < first_waiting places many → is_among places place ≡ false
before-first to many place [] rises short = refl
before-first to many place (other ∷ places) rises short =
    ap (λ b. b || is_among places place) (eq-no place other (λ same. omega (arith, same, short)))
    ∙ none-among (suc other) to places place rises.2 (omega (arith, short))

-- a sheet that prices an order is one of them
number-within : (sheets : List Sheet) (row : OrderRow) (n : ℕ) → AreNumbered sheets → sheet_number sheets row ≡ Some n → n ≤ length sheets
number-within sheets row n numbers has = by (next_sheet sheets (classes_in row.order.body) row.receipt) refl has
  where
    passes : Sheet → Bool
    passes = prices_order (classes_in row.order.body) row.receipt

    by : (found : Option Sheet) → next_sheet sheets (classes_in row.order.body) row.receipt ≡ found → option_map (λ (sheet : Sheet). sheet.number) found ≡ Some n → n ≤ length sheets
    by None e is = absurd (none-some is)
    by (Some s) e is =
        let chosen : IsBest passes is_earlier sheets s = subst (IsChoice passes is_earlier sheets) e (best-choice passes is_earlier earlier-order sheets) in
        subst (λ (m : ℕ). m ≤ length sheets) (some-same is)
        (All-contains (λ (sheet : Sheet). sheet.number ≤ length sheets) sheets s (λ k d short. let at = numbers.each k d short in omega (arith, at, short)) chosen.among)

first-within : (many : ℕ) (places : List ℕ) → RisesWithin 0 many places → first_waiting places many ≤ many
first-within many [] rises = omega arith
first-within many (place ∷ places) rises = let high = rises.1 in omega (arith, high)

pub settled-before : (journal : Journal) (owners waiting : List ℕ) → IsLawful journal → IsIndexOf journal owners waiting → (household : ℕ) → AreSettled (book_behind journal) household (first_waiting waiting (length owners)) (length (sheets_of journal))
settled-before journal owners waiting lawful is household place row short there own = by (stands row) refl (sheet_number (sheets_of journal) row) refl
  where
    waits-not : waits (sheets_of journal) row ≡ true → ⊥
    waits-not on = true≢false (sym (is.enough place row there on) ∙ before-first (length owners) (length owners) place waiting is.within short)

    by : (on : Bool) → stands row ≡ on → (found : Option ℕ) → sheet_number (sheets_of journal) row ≡ found → (not on || option_map_or (λ own. nat_le own (length (sheets_of journal))) found false) ≡ true
    by false on found e = refl
    by true on None e = absurd (waits-not (ap (λ b. b && is_none (sheet_number (sheets_of journal) row)) on ∙ ap (λ (found : Option ℕ). is_none found) e))
    by true on (Some n) e = le-leb n (length (sheets_of journal)) (number-within (sheets_of journal) row n (numbered journal lawful).corrected e)

-- and the first place that waits is one of an order, or behind all of them
pub begun-before : (journal : Journal) (owners waiting : List ℕ) → IsIndexOf journal owners waiting → first_waiting waiting (length owners) ≤ length (orders_of journal)
begun-before journal owners waiting is =
    let many = as-many (accounts_of journal) (orders_of journal) owners is.owned in
    let few = first-within (length owners) waiting is.within in
    omega (arith, many, few)

pub settled_before_waiting : (journal : Journal) (owners waiting : List ℕ) → SettledBeforeWaiting journal owners waiting
settled_before_waiting journal owners waiting lawful is = record {
  begun = begun-before journal owners waiting is;
  settled = settled-before journal owners waiting lawful is;
}
