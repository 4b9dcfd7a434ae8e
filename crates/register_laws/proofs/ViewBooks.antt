-- The book of a household's view is its own book, but for the places of its orders: so its part of a replay is the replay of its
-- view.
use Rattle.std.proofs.Common.{Bool, List, None, Option, Some, [], ap, arith, cond, false, filter, find, length, map, option_map, option_to_list, refl, sym, true, ℕ, ◌&&◌, ◌++◌, ◌+◌, ◌==◌, ◌||◌, ◌∙◌, ◌∷◌, ◌≡◌, ◌≤◌}
use Rattle.std.proofs.lemmas.Bool.{and_parts, eqb-true, or_parts, true≢false}
use Rattle.std.proofs.lemmas.List.Elements.{filter_agree}
use Rattle.std.specs.List.{cons_option, list_any}
use Rattle.std.specs.Option.{option_map_or}
use Rattle.agent_events.specs.Events.{Event}
use Rattle.agent_events.specs.declared.event.EventKind.{EventKind}
use Rattle.agent_events.specs.declared.order.OrderRow.{OrderRow}
use Rattle.agent_events.specs.declared.request.AccountForm.{AccountForm}
use Rattle.agent_events.specs.declared.request.ClassForm.{ClassForm}
use Rattle.agent_events.specs.declared.request.DividendForm.{DividendForm}
use Rattle.agent_events.specs.declared.request.EntryForm.{EntryForm}
use Rattle.agent_events.specs.declared.request.FixPriceForm.{FixPriceForm}
use Rattle.agent_events.specs.declared.request.FixRateForm.{FixRateForm}
use Rattle.forward_price.specs.PriceTables.{Table, with_sheets}
use Rattle.forward_price.specs.declared.price_sheet.Sheet.{Sheet}
use Rattle.register_laws.proofs.Choosing.{none_some}
use Rattle.register_laws.proofs.ListParts.{any-within-part, filter-all, filter-map, fold-part, last-within, map-swap, maps-agree}
use Rattle.register_laws.proofs.NoIdentityTwice.{no_account_twice}
use Rattle.register_laws.proofs.OrdersGoOn.{corrected-alike}
use Rattle.register_laws.proofs.PlacesLeftOut.{replay-unplaced, unplaced, unplaced_book}
use Rattle.register_laws.proofs.ReplayedAlone.{replayed_alone}
use Rattle.register_laws.proofs.Tests.{any-within}
use Rattle.register_laws.specs.Households.{accounts_of_household, is_of_household, is_own_row, own_book, part_of}
use Rattle.register_laws.specs.Identities.{has_number}
use Rattle.register_laws.specs.Lawful.{book_behind}
use Rattle.register_machine.specs.journal.Choices.{last_of}
use Rattle.register_machine.specs.journal.Journals.{Journal}
use Rattle.register_machine.specs.journal.Kinds.{account_in, accounts_of, class_in, classes_of, dividend_in, each_in, price_fix_in, rate_fix_in, replacement_in}
use Rattle.register_machine.specs.journal.Lawful.{IsLawful}
use Rattle.register_machine.specs.journal.Views.{belongs_to, is_public, is_seen_by, view}
use Rattle.register_machine.specs.pricing.CorrectedBook.{Book}
use Rattle.register_machine.specs.pricing.CorrectedOrders.{is_named, is_struck, order_begun, orders_begun, orders_of, replaces, row_as_corrected, row_as_sent, struck_in}
use Rattle.register_machine.specs.pricing.CorrectedPrices.{sheet_as_corrected, table_as_corrected}
use Rattle.register_machine.specs.pricing.DividendRates.{Rates, rates_of}
use Rattle.register_machine.specs.pricing.PublishedTable.{empty_table, table_after, table_behind, table_by, table_of}
use Rattle.register_machine.specs.replay.Replay.{replay, replay_over}
use Rattle.register_machine.specs.rules.Callers.{owns}

-- ---- the accounts of a household

no-more : (b : Bool) → (b || false) ≡ b
no-more true = refl
no-more false = refl

-- where a number stands once, both tests of an account agree
pub owners-agree : (accounts : List AccountForm) (household number : ℕ) → length (filter (has_number number) accounts) ≤ 1 → owns accounts household number ≡ is_of_household accounts household number
owners-agree [] household number few = refl
owners-agree (x ∷ xs) household number few = by (x.account == number) refl few (owners-agree xs household number)
  where
    none-left : (some : List AccountForm) → length (x ∷ some) ≤ 1 → some ≡ []
    none-left [] few = refl
    none-left (y ∷ ys) few = absurd (omega (arith, few))

    empty-any : {X : Type 0} (p : X → Bool) (ys : List X) → filter p ys ≡ [] → list_any p ys ≡ false
    empty-any p [] none = refl
    empty-any p (y ∷ ys) none = elim (p y) as (λ b. cond b (y ∷ filter p ys) (filter p ys) ≡ [] → (b || list_any p ys) ≡ false) [
      | true ↦ λ e. absurd (some-nil y (filter p ys) e)
      | false ↦ λ e. empty-any p ys e
    ] none
      where
        some-nil : {X : Type 0} (z : X) (zs : List X) → z ∷ zs ≡ [] → ⊥
        some-nil z zs e = cc

    by : (here : Bool) → (x.account == number) ≡ here → length (cond here (x ∷ filter (has_number number) xs) (filter (has_number number) xs)) ≤ 1 → (length (filter (has_number number) xs) ≤ 1 → owns xs household number ≡ is_of_household xs household number) → ((here && x.household == household) || owns xs household number) ≡ option_map_or (λ own. own == household) (option_map (λ (form : AccountForm). form.household) (cond here (Some x) (find (λ (form : AccountForm). form.account == number) xs))) false
    by true here few rest =
        let none = empty-any (has_number number) xs (none-left (filter (has_number number) xs) few) in
        let no_own = any-within (λ (form : AccountForm). form.account == number && form.household == household) (has_number number) xs (λ form e. (and_parts (form.account == number) (form.household == household) e).0) none in
        ap (λ b. x.household == household || b) no_own ∙ no-more (x.household == household)
    by false here few rest = rest few

module _ (accounts : List AccountForm) (household : ℕ) where
  -- ---- what is chosen of the events that the household sees

  pub chosen-seen : {X : Type 0} (chosen : EventKind → Option X) (keep : X → Bool) → ((event : Event) (x : X) → chosen event.kind ≡ Some x → is_seen_by accounts household event ≡ keep x) → (journal : Journal) → each_in chosen (filter (is_seen_by accounts household) journal) ≡ filter keep (each_in chosen journal)
  chosen-seen chosen keep seen [] = refl
  chosen-seen {X = X} chosen keep seen (event ∷ events) =
      by (chosen event.kind) refl (is_seen_by accounts household event) refl (chosen-seen chosen keep seen events)
    where
      by : (found : Option X) → chosen event.kind ≡ found → (b : Bool) → is_seen_by accounts household event ≡ b → each_in chosen (filter (is_seen_by accounts household) events) ≡ filter keep (each_in chosen events) → each_in chosen (cond b (event ∷ filter (is_seen_by accounts household) events) (filter (is_seen_by accounts household) events)) ≡ filter keep (cons_option found (each_in chosen events))
      by None is true e rest = ap (λ found. cons_option found (each_in chosen (filter (is_seen_by accounts household) events))) is ∙ rest
      by None is false e rest = rest
      by (Some x) is true e rest =
          ap (λ found. cons_option found (each_in chosen (filter (is_seen_by accounts household) events))) is
          ∙ (ap (λ ys. x ∷ ys) rest ∙ ap (λ c. cond c (x ∷ filter keep (each_in chosen events)) (filter keep (each_in chosen events))) (sym e ∙ seen event x is))
      by (Some x) is false e rest =
          rest ∙ sym (ap (λ c. cond c (x ∷ filter keep (each_in chosen events)) (filter keep (each_in chosen events))) (sym (seen event x is) ∙ e))

  pub public-seen : {X : Type 0} (chosen : EventKind → Option X) → ((kind : EventKind) (x : X) → chosen kind ≡ Some x → is_public kind ≡ true) → (journal : Journal) → each_in chosen (filter (is_seen_by accounts household) journal) ≡ each_in chosen journal
  public-seen {X = X} chosen public journal =
      chosen-seen chosen (λ x. true) (λ event x is. ap (λ b. b || belongs_to accounts household event.kind) (public event.kind x is)) journal
      ∙ filter-all (λ (x : X). true) (each_in chosen journal) (λ k d short. refl)

  public-classes : (kind : EventKind) (form : ClassForm) → class_in kind ≡ Some form → is_public kind ≡ true
  public-classes (EventKind.Class other) form e = refl
  public-classes kind form e = absurd (none_some e)

  public-dividends : (kind : EventKind) (form : DividendForm) → dividend_in kind ≡ Some form → is_public kind ≡ true
  public-dividends (EventKind.Dividend other) form e = refl
  public-dividends kind form e = absurd (none_some e)

  public-fixes : (kind : EventKind) (form : FixPriceForm) → price_fix_in kind ≡ Some form → is_public kind ≡ true
  public-fixes (EventKind.FixPrice other) form e = refl
  public-fixes kind form e = absurd (none_some e)

  public-rates : (kind : EventKind) (form : FixRateForm) → rate_fix_in kind ≡ Some form → is_public kind ≡ true
  public-rates (EventKind.FixRate other) form e = refl
  public-rates kind form e = absurd (none_some e)

  seen-account : (moment : ℕ) (kind : EventKind) (form : AccountForm) → account_in kind ≡ Some form → is_seen_by accounts household (record { moment = moment; kind = kind }) ≡ (form.household == household)
  seen-account moment (EventKind.Account other) form e = let same : other ≡ form = cc in ap (λ (f : AccountForm). f.household == household) same
  seen-account moment kind form e = absurd (none_some e)

  seen-strike : (moment : ℕ) (kind : EventKind) (named : ℕ × ℕ) → struck_in kind ≡ Some named → is_seen_by accounts household (record { moment = moment; kind = kind }) ≡ owns accounts household named.0
  seen-strike moment (EventKind.Cancel form) named e = let same : (form.account, form.target) ≡ named = cc in ap (λ (n : ℕ × ℕ). owns accounts household n.0) same
  seen-strike moment (EventKind.Void form) named e = let same : (form.account, form.ref_no) ≡ named = cc in ap (λ (n : ℕ × ℕ). owns accounts household n.0) same
  seen-strike moment kind named e = absurd (none_some e)

  seen-replacement : (moment : ℕ) (kind : EventKind) (form : EntryForm) → replacement_in kind ≡ Some form → is_seen_by accounts household (record { moment = moment; kind = kind }) ≡ owns accounts household form.order.account
  seen-replacement moment (EventKind.Replace other) form e = let same : other ≡ form = cc in ap (λ (f : EntryForm). owns accounts household f.order.account) same
  seen-replacement moment kind form e = absurd (none_some e)

  -- ---- the orders

  begun-by : (moment : ℕ) (kind : EventKind) (later seen : Journal) → ((p q : ℕ) → map unplaced (orders_begun p seen) ≡ map unplaced (filter (is_own_row (owns accounts household)) (orders_begun q later))) → (p q : ℕ) → map unplaced (orders_begun p (cond (is_seen_by accounts household (record { moment = moment; kind = kind })) (record { moment = moment; kind = kind } ∷ seen) seen)) ≡ map unplaced (filter (is_own_row (owns accounts household)) (option_to_list (order_begun q kind) ++ orders_begun (q + 1) later))
  begun-by moment (EventKind.Order placed) later seen rest p q =
      elim (owns accounts household placed.order.account) as (λ b. map unplaced (orders_begun p (cond b (record { moment = moment; kind = EventKind.Order placed } ∷ seen) seen)) ≡ map unplaced (cond b (row_as_sent q placed.receipt placed.order ∷ filter (is_own_row (owns accounts household)) (orders_begun (q + 1) later)) (filter (is_own_row (owns accounts household)) (orders_begun (q + 1) later)))) [
        | true ↦ ap (λ rows. unplaced (row_as_sent q placed.receipt placed.order) ∷ rows) (rest (p + 1) (q + 1))
        | false ↦ rest p (q + 1)
      ]
  begun-by moment (EventKind.Enter form) later seen rest p q =
      elim (owns accounts household form.order.account) as (λ b. map unplaced (orders_begun p (cond b (record { moment = moment; kind = EventKind.Enter form } ∷ seen) seen)) ≡ map unplaced (cond b (row_as_sent q form.receipt form.order ∷ filter (is_own_row (owns accounts household)) (orders_begun (q + 1) later)) (filter (is_own_row (owns accounts household)) (orders_begun (q + 1) later)))) [
        | true ↦ ap (λ rows. unplaced (row_as_sent q form.receipt form.order) ∷ rows) (rest (p + 1) (q + 1))
        | false ↦ rest p (q + 1)
      ]
  begun-by moment kind later seen rest p q =
      elim (is_seen_by accounts household (record { moment = moment; kind = kind })) as (λ b. map unplaced (orders_begun p (cond b (record { moment = moment; kind = kind } ∷ seen) seen)) ≡ map unplaced (filter (is_own_row (owns accounts household)) (orders_begun (q + 1) later))) [
        | true ↦ rest (p + 1) (q + 1)
        | false ↦ rest p (q + 1)
      ]

  begun-seen : (journal : Journal) (p q : ℕ) → map unplaced (orders_begun p (filter (is_seen_by accounts household) journal)) ≡ map unplaced (filter (is_own_row (owns accounts household)) (orders_begun q journal))
  begun-seen [] p q = refl
  begun-seen (event ∷ events) p q =
      begun-by event.moment event.kind events (filter (is_seen_by accounts household) events) (begun-seen events) p q

  -- an own order is corrected by what is done on own accounts alone
  corrected-own : (strikes : List (ℕ × ℕ)) (forms : List EntryForm) (row : OrderRow) → is_own_row (owns accounts household) row ≡ true → row_as_corrected (filter (λ named. owns accounts household named.0) strikes) (filter (λ form. owns accounts household form.order.account) forms) row ≡ row_as_corrected strikes forms row
  corrected-own strikes forms row mine =
      let struck = any-within-part (λ named. owns accounts household named.0) (λ named. is_named named.0 named.1 row.order) (λ named e. ap (owns accounts household) (sym (eqb-true row.order.account named.0 (and_parts (row.order.account == named.0) (row.order.ref_no == named.1) e).0)) ∙ mine) strikes in
      let last = last-within (λ form. owns accounts household form.order.account) (replaces row.order) (λ form e. ap (owns accounts household) (eqb-true form.order.account row.order.account (and_parts (form.order.account == row.order.account) (form.order.ref_no == row.order.ref_no) e).0) ∙ mine) forms in
      ap (λ s. of_last s (last_of (replaces row.order) (filter (λ form. owns accounts household form.order.account) forms))) struck ∙ ap (λ found. of_last (is_struck strikes row.order) found) last
    where
      of_last : Bool → Option EntryForm → OrderRow
      of_last struck found = record {
        place = row.place;
        receipt = option_map_or (λ (form : EntryForm). form.receipt) found row.receipt;
        struck = struck;
        order = option_map_or (λ (form : EntryForm). form.order) found row.order;
      }

  orders-seen : (journal : Journal) → map unplaced (orders_of (filter (is_seen_by accounts household) journal)) ≡ map unplaced (filter (is_own_row (owns accounts household)) (orders_of journal))
  orders-seen journal =
      let own = is_own_row (owns accounts household) in
      let strikes = each_in struck_in journal in
      let forms = each_in replacement_in journal in
      let own_strikes = filter (λ (named : ℕ × ℕ). owns accounts household named.0) strikes in
      let own_forms = filter (λ (form : EntryForm). owns accounts household form.order.account) forms in
      let seen = filter (is_seen_by accounts household) journal in
      let fewer = row_as_corrected own_strikes own_forms in
      let all = row_as_corrected strikes forms in
      ap (λ s. map unplaced (map (row_as_corrected s (each_in replacement_in seen)) (orders_begun 0 seen))) (chosen-seen struck_in (λ named. owns accounts household named.0) (λ event named is. seen-strike event.moment event.kind named is) journal)
      ∙ (ap (λ f. map unplaced (map (row_as_corrected own_strikes f) (orders_begun 0 seen))) (chosen-seen replacement_in (λ form. owns accounts household form.order.account) (λ event form is. seen-replacement event.moment event.kind form is) journal)
      ∙ (map-swap unplaced fewer unplaced (λ row. refl) (orders_begun 0 seen)
      ∙ (ap (map fewer) (begun-seen journal 0 0)
      ∙ (sym (map-swap unplaced fewer unplaced (λ row. refl) (filter own (orders_begun 0 journal)))
      ∙ (ap (map unplaced) (maps-agree own fewer all (corrected-own strikes forms) (orders_begun 0 journal))
      ∙ (ap (λ rows. map unplaced (map all rows)) (filter_agree own (λ row. own (all row)) (λ row. ap (owns accounts household) (sym (corrected-alike strikes forms row).0)) (orders_begun 0 journal))
      ∙ ap (map unplaced) (sym (filter-map own all (orders_begun 0 journal)))))))))

  -- ---- the table

  table-quiet : (table : Table) (moment : ℕ) (kind : EventKind) → is_public kind ≡ false → table_by table moment kind ≡ table
  table-quiet table moment (EventKind.Calendar form) e = absurd (true≢false e)
  table-quiet table moment (EventKind.Close form) e = absurd (true≢false e)
  table-quiet table moment (EventKind.Class form) e = absurd (true≢false e)
  table-quiet table moment (EventKind.Sheet form) e = absurd (true≢false e)
  table-quiet table moment kind e = refl

  table-seen : (journal : Journal) → table_of (filter (is_seen_by accounts household) journal) ≡ table_of journal
  unfolding table_behind
  table-seen journal =
      sym
      (fold-part (λ one other. one ≡ other) (is_seen_by accounts household) table_after table_after
      (λ one other event seen is. ap (λ table. table_after table event) is)
      (λ one other event unseen is. table-quiet one event.moment event.kind (or_parts (is_public event.kind) (belongs_to accounts household event.kind) unseen).0 ∙ is)
      empty_table empty_table journal refl)

-- ---- the book of a view

pub view-book : (journal : Journal) (household : ℕ) → ((number : ℕ) → owns (accounts_of journal) household number ≡ is_of_household (accounts_of journal) household number) → unplaced_book (book_behind (view household journal)) ≡ unplaced_book (own_book household (book_behind journal))
view-book journal household agree =
    let accounts = accounts_of journal in
    let seen = view household journal in
    let fixes = public-seen accounts household price_fix_in (public-fixes accounts household) journal in
    let table : table_as_corrected seen (table_of seen) ≡ table_as_corrected journal (table_of journal) =
    ap (table_as_corrected seen) (table-seen accounts household journal)
    ∙ ap (λ forms. with_sheets (table_of journal) (map (sheet_as_corrected forms) (table_of journal).sheets)) fixes in
    let rates : rates_of seen ≡ rates_of journal =
    ap (λ declared. rates-of declared (each_in rate_fix_in seen)) (public-seen accounts household dividend_in (public-dividends accounts household) journal)
    ∙ ap (λ fixed. rates-of (each_in dividend_in journal) fixed) (public-seen accounts household rate_fix_in (public-rates accounts household) journal) in
    let orders = orders-seen accounts household journal
    ∙ ap (map unplaced) (filter_agree (is_own_row (owns accounts household)) (is_own_row (is_of_household accounts household)) (λ row. agree row.order.account) (orders_of journal)) in
    let classes = public-seen accounts household class_in (public-classes accounts household) journal in
    let forms = chosen-seen accounts household account_in (λ form. form.household == household) (λ event form is. seen-account accounts household event.moment event.kind form is) journal in
    ap (λ t. of t (classes_of seen) (accounts_of seen) (map unplaced (orders_of seen)) (rates_of seen)) table
    ∙ (ap (λ c. of (book_behind journal).table c (accounts_of seen) (map unplaced (orders_of seen)) (rates_of seen)) classes
    ∙ (ap (λ a. of (book_behind journal).table (classes_of journal) a (map unplaced (orders_of seen)) (rates_of seen)) forms
    ∙ (ap (λ o. of (book_behind journal).table (classes_of journal) (accounts_of_household accounts household) o (rates_of seen)) orders
    ∙ ap (λ r. of (book_behind journal).table (classes_of journal) (accounts_of_household accounts household) (map unplaced (filter (is_own_row (is_of_household accounts household)) (orders_of journal))) r) rates)))
  where
    rates-of : List DividendForm → List FixRateForm → Rates
    rates-of declared fixed = record { declared = declared; fixed = fixed }

    of : Table → List ClassForm → List AccountForm → List OrderRow → Rates → Book
    of table classes accounts orders rates =
        record { table = table; classes = classes; accounts = accounts; orders = orders; rates = rates }

-- so both replay alike
pub view-replay : (journal : Journal) (household : ℕ) → IsLawful journal → (sheets : List Sheet) → replay_over (own_book household (book_behind journal)) sheets ≡ replay_over (book_behind (view household journal)) sheets
view-replay journal household lawful sheets =
    sym (replay-unplaced (own_book household (book_behind journal)) sheets)
    ∙ (ap (λ book. replay_over book sheets) (sym (view-book journal household (λ number. owners-agree (accounts_of journal) household number (no_account_twice journal lawful number))))
    ∙ replay-unplaced (book_behind (view household journal)) sheets)

pub view-sheets : (journal : Journal) (household : ℕ) → (book_behind (view household journal)).table.sheets ≡ (book_behind journal).table.sheets
view-sheets journal household =
    let accounts = accounts_of journal in
    ap (λ table. (table_as_corrected (view household journal) table).sheets) (table-seen accounts household journal)
    ∙ ap (λ forms. map (sheet_as_corrected forms) (table_of journal).sheets) (public-seen accounts household price_fix_in (public-fixes accounts household) journal)

-- the part of a household over some sheets is what its view replays over them
pub part-in-view : (journal : Journal) (household : ℕ) → IsLawful journal → (sheets : List Sheet) → part_of (accounts_of journal) household (replay_over (book_behind journal) sheets) ≡ replay_over (book_behind (view household journal)) sheets
part-in-view journal household lawful sheets =
    replayed_alone (book_behind journal) household sheets ∙ view-replay journal household lawful sheets

pub whole_in_view : (journal : Journal) (household : ℕ) → IsLawful journal → part_of (accounts_of journal) household (replay (book_behind journal)) ≡ replay (book_behind (view household journal))
unfolding replay
whole_in_view journal household lawful =
    part-in-view journal household lawful (book_behind journal).table.sheets
    ∙ ap (replay_over (book_behind (view household journal))) (sym (view-sheets journal household))
