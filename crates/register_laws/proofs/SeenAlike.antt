-- What a request about an account reads of a journal and of the household's view: the same.
use Rattle.std.proofs.Common.{All, Bool, List, None, Option, Some, [], ap, arith, cond, count_by, false, filter, find, length, map, option_map, option_to_list, refl, subst, sym, true, ℕ, ◌&&◌, ◌+◌, ◌<◌, ◌==◌, ◌||◌, ◌∙◌, ◌∷◌, ◌≡◌, ◌≤◌}
use Rattle.std.proofs.lemmas.Bool.{and_parts, eqb-true, true≢false}
use Rattle.std.proofs.lemmas.List.Elements.{All-append, All-cons, All-map, All-nil, All-weaker}
use Rattle.std.proofs.lemmas.List.Sums.{count_by-le-length, length-filter}
use Rattle.std.specs.Cmp.Lexicographic.{pointwise}
use Rattle.std.specs.List.{list_any}
use Rattle.std.specs.Prelude.{bytes_eq}
use Rattle.std.specs.Option.{option_map_or}
use Rattle.agent_events.specs.Contents.{body_content, order_content, same_request}
use Rattle.agent_events.specs.Events.{Event, order_request, request_of}
use Rattle.agent_events.specs.declared.event.EventKind.{EventKind}
use Rattle.agent_events.specs.declared.event.Source.{Source}
use Rattle.agent_events.specs.declared.order.Order.{Order}
use Rattle.agent_events.specs.declared.order.OrderRow.{OrderRow}
use Rattle.agent_events.specs.declared.request.AccountForm.{AccountForm}
use Rattle.agent_events.specs.declared.request.CancelForm.{CancelForm}
use Rattle.agent_events.specs.declared.request.DealerForm.{DealerForm}
use Rattle.agent_events.specs.declared.request.LineForm.{LineForm}
use Rattle.agent_events.specs.declared.request.Request.{Request}
use Rattle.register_laws.proofs.Choosing.{none_some}
use Rattle.register_laws.proofs.ListParts.{any-within-part, filter-swap, filter-within, found-within}
use Rattle.register_laws.proofs.NoIdentityTwice.{no_account_twice}
use Rattle.register_laws.proofs.PlacesLeftOut.{unplaced}
use Rattle.register_laws.proofs.RefusedByFirst.{not-repeated}
use Rattle.register_laws.proofs.Tests.{any-of-map}
use Rattle.register_laws.proofs.ViewBooks.{owners-agree, public-seen, view-book}
use Rattle.register_laws.specs.Households.{accounts_of_household, is_of_household, is_own_row, own_orders}
use Rattle.register_laws.specs.Identities.{has_number}
use Rattle.register_laws.specs.Isolation.{account_asked}
use Rattle.register_machine.specs.journal.Journals.{Journal}
use Rattle.register_machine.specs.journal.Kinds.{account_numbered, accounts_of, dealer_in, dealers_of, each_in, replacement_in}
use Rattle.register_machine.specs.journal.Lawful.{IsLawful}
use Rattle.register_machine.specs.journal.Views.{is_public, is_seen_by, view}
use Rattle.register_machine.specs.pricing.CorrectedBook.{Book}
use Rattle.register_machine.specs.pricing.CorrectedOrders.{is_named, order_begun, order_named, orders_begun, orders_of, row_as_corrected, row_as_sent, stands, struck_in}
use Rattle.register_machine.specs.rules.Callers.{owns, serves}
use Rattle.register_machine.specs.rules.Identities.{brings_reference, reference_of}
use Rattle.register_machine.specs.rules.Limits.{is_of_account}
use Rattle.register_machine.specs.rules.Orders.{buys_class}
use Rattle.register_machine.specs.run.Verdicts.{repeats}

-- accounts, orders and events: all of them, or those that a household sees
pub record Parts : Type 0 where
  pub accounts : List AccountForm
  pub orders : List OrderRow
  pub journal : Journal

-- an order of the account to buy the class, that stands
abbrev pub buys : ℕ → ℕ → OrderRow → Bool
buys account class row = row.order.account == account && (stands row && buys_class class row.order.body)

pub record SeenAlike (one other : Parts) (account : ℕ) : Type 0 where
  pub form : account_numbered one.accounts account ≡ account_numbered other.accounts account
  pub owned : (household : ℕ) → owns one.accounts household account ≡ owns other.accounts household account
  pub served : (dealer : ℕ) → serves one.accounts dealer account ≡ serves other.accounts dealer account
  pub named : (ref_no : ℕ) → option_map unplaced (order_named one.orders account ref_no) ≡ option_map unplaced (order_named other.orders account ref_no)
  pub bought : (class : ℕ) → list_any (buys account class) one.orders ≡ list_any (buys account class) other.orders
  pub places : All (λ (row : OrderRow). row.place < length one.journal) one.orders
  pub places_too : All (λ (row : OrderRow). row.place < length other.journal) other.orders
  pub dealers : dealers_of one.journal ≡ dealers_of other.journal
  pub references : (ref_no : ℕ) → list_any (brings_reference (account, ref_no)) one.journal ≡ list_any (brings_reference (account, ref_no)) other.journal
  pub counted : count_by (is_of_account account) one.journal ≡ count_by (is_of_account account) other.journal
  pub short : length one.journal < 100000000
  pub short_too : length other.journal < 100000000
  pub repeated : (request : Request) → account_asked request ≡ Some account → find (repeats request) one.journal ≡ find (repeats request) other.journal

-- ---- accounts

-- where one at most has it, whether one has it and passes is told by the one found
pub any-by-find : {X : Type 0} (has test : X → Bool) (xs : List X) → length (filter has xs) ≤ 1 → list_any (λ x. has x && test x) xs ≡ option_map_or test (find has xs) false
any-by-find has test [] few = refl
any-by-find {X = X} has test (x ∷ xs) few = by (has x) few (any-by-find has test xs)
  where
    none-left : (some : List X) → length (x ∷ some) ≤ 1 → some ≡ []
    none-left [] few = refl
    none-left (y ∷ ys) few = absurd (omega (arith, few))

    none-any : (ys : List X) → filter has ys ≡ [] → list_any (λ y. has y && test y) ys ≡ false
    none-any [] none = refl
    none-any (y ∷ ys) none = elim (has y) as (λ b. cond b (y ∷ filter has ys) (filter has ys) ≡ [] → ((b && test y) || list_any (λ z. has z && test z) ys) ≡ false) [
      | true ↦ λ e. absurd (some-nil y (filter has ys) e)
      | false ↦ λ e. none-any ys e
    ] none
      where
        some-nil : (z : X) (zs : List X) → z ∷ zs ≡ [] → ⊥
        some-nil z zs e = cc

    no-more : (b : Bool) → (b || false) ≡ b
    no-more true = refl
    no-more false = refl

    by : (b : Bool) → length (cond b (x ∷ filter has xs) (filter has xs)) ≤ 1 → (length (filter has xs) ≤ 1 → list_any (λ y. has y && test y) xs ≡ option_map_or test (find has xs) false) → ((b && test x) || list_any (λ y. has y && test y) xs) ≡ option_map_or test (cond b (Some x) (find has xs)) false
    by true few rest = ap (λ b. test x || b) (none-any xs (none-left (filter has xs) few)) ∙ no-more (test x)
    by false few rest = rest few

fewer : {X : Type 0} (p q : X → Bool) (xs : List X) → length (filter p xs) ≤ 1 → length (filter p (filter q xs)) ≤ 1
fewer p q xs few =
    let turned = ap length (filter-swap p q xs) in
    let counted = length-filter q (filter p xs) in
    omega (arith, turned, counted, count_by-le-length q (filter p xs), few)

-- the form of an own account is among the household's
own-form : (accounts : List AccountForm) (household number : ℕ) → is_of_household accounts household number ≡ true → account_numbered (accounts_of_household accounts household) number ≡ account_numbered accounts number
own-form [] household number mine = refl
own-form (x ∷ xs) household number mine = by (x.account == number) (x.household == household) refl refl mine (own-form xs household number)
  where
    by : (here owned : Bool) → (x.account == number) ≡ here → (x.household == household) ≡ owned → option_map_or (λ own. own == household) (option_map (λ (form : AccountForm). form.household) (cond here (Some x) (find (λ (form : AccountForm). form.account == number) xs))) false ≡ true → (is_of_household xs household number ≡ true → account_numbered (accounts_of_household xs household) number ≡ account_numbered xs number) → find (λ (form : AccountForm). form.account == number) (cond owned (x ∷ accounts_of_household xs household) (accounts_of_household xs household)) ≡ cond here (Some x) (find (λ (form : AccountForm). form.account == number) xs)
    by true true here owned own rest = ap (λ b. cond b (Some x) (find (λ (form : AccountForm). form.account == number) (accounts_of_household xs household))) here
    by true false here owned own rest = absurd (true≢false (sym own ∙ owned))
    by false true here owned own rest = ap (λ b. cond b (Some x) (find (λ (form : AccountForm). form.account == number) (accounts_of_household xs household))) here ∙ rest own
    by false false here owned own rest = rest own

-- ---- orders

find-map : {X Y : Type 0} (q : Y → Bool) (f : X → Y) (xs : List X) → find q (map f xs) ≡ option_map f (find (λ x. q (f x)) xs)
find-map q f [] = refl
find-map q f (x ∷ xs) =
    elim (q (f x)) as (λ b. cond b (Some (f x)) (find q (map f xs)) ≡ option_map f (cond b (Some x) (find (λ y. q (f y)) xs))) [
      | true ↦ refl
      | false ↦ find-map q f xs
    ]

-- the place of an order is that of an event
begun-places : (place : ℕ) (journal : Journal) → All (λ (row : OrderRow). row.place < place + length journal) (orders_begun place journal)
begun-places place [] = All-nil (λ (row : OrderRow). row.place < place + 0)
begun-places place (event ∷ events) =
    All-append (λ (row : OrderRow). row.place < place + length (event ∷ events)) (option_to_list (order_begun place event.kind)) (orders_begun (place + 1) events)
    (one event.kind)
    (All-weaker (λ (row : OrderRow). row.place < place + 1 + length events) (λ (row : OrderRow). row.place < place + length (event ∷ events)) (λ row h. omega (arith, h)) (orders_begun (place + 1) events) (begun-places (place + 1) events))
  where
    single : (row : OrderRow) → row.place ≡ place → All (λ (row : OrderRow). row.place < place + length (event ∷ events)) (row ∷ [])
    single row is = All-cons (λ (row : OrderRow). row.place < place + length (event ∷ events)) row [] (omega (arith, is)) (All-nil (λ (row : OrderRow). row.place < place + length (event ∷ events)))

    one : (kind : EventKind) → All (λ (row : OrderRow). row.place < place + length (event ∷ events)) (option_to_list (order_begun place kind))
    one (EventKind.Order placed) = single (row_as_sent place placed.receipt placed.order) refl
    one (EventKind.Enter form) = single (row_as_sent place form.receipt form.order) refl
    one kind = All-nil (λ (row : OrderRow). row.place < place + length (event ∷ events))

order-places : (journal : Journal) → All (λ (row : OrderRow). row.place < length journal) (orders_of journal)
order-places journal =
    All-map (λ (row : OrderRow). row.place < length journal) (row_as_corrected (each_in struck_in journal) (each_in replacement_in journal)) (orders_begun 0 journal)
    (All-weaker (λ (row : OrderRow). row.place < 0 + length journal) (λ (row : OrderRow). row.place < length journal) (λ row h. omega (arith, h)) (orders_begun 0 journal) (begun-places 0 journal))

-- ---- events of the account

module _ (accounts : List AccountForm) (household account : ℕ) (mine : owns accounts household account ≡ true) where
  seen-reference : (moment : ℕ) (kind : EventKind) → option_map_or (λ (other : ℕ × ℕ). other.0 == account) (reference_of (request_of kind)) false ≡ true → is_seen_by accounts household (record { moment = moment; kind = kind }) ≡ true
  seen-reference moment (EventKind.Order placed) e = by placed.source e
    where
      by : (from : Source) → option_map_or (λ (other : ℕ × ℕ). other.0 == account) (reference_of (order_request from placed.receipt placed.order)) false ≡ true → owns accounts household placed.order.account ≡ true
      by Source.Direct e = ap (owns accounts household) (eqb-true placed.order.account account e) ∙ mine
      by Source.Dealer e = ap (owns accounts household) (eqb-true placed.order.account account e) ∙ mine
  seen-reference moment (EventKind.Cancel form) e = ap (owns accounts household) (eqb-true form.account account e) ∙ mine
  seen-reference moment (EventKind.Enter form) e = ap (owns accounts household) (eqb-true form.order.account account e) ∙ mine
  seen-reference moment kind e = absurd (true≢false (sym e))

  reference-account : (found : Option (ℕ × ℕ)) (ref_no : ℕ) → option_map_or (λ (other : ℕ × ℕ). other.0 == account && other.1 == ref_no) found false ≡ true → option_map_or (λ (other : ℕ × ℕ). other.0 == account) found false ≡ true
  reference-account None ref_no e = e
  reference-account (Some other) ref_no e = (and_parts (other.0 == account) (other.1 == ref_no) e).0

  -- an event of an order, a line or a cancel of the account
  seen-order : (moment : ℕ) (kind : EventKind) (order : Order) → order.account ≡ account → same_request (request_of kind) (Request.Order order) ≡ true → is_seen_by accounts household (record { moment = moment; kind = kind }) ≡ true
  seen-order moment (EventKind.Order placed) order is e = by placed.source e
    where
      by : (from : Source) → same_request (order_request from placed.receipt placed.order) (Request.Order order) ≡ true → owns accounts household placed.order.account ≡ true
      by Source.Direct e =
          let first = (and_parts (placed.order.account == order.account && (placed.order.ref_no == order.ref_no && true)) (pointwise bytes_eq (body_content placed.order.body ∷ []) (body_content order.body ∷ [])) e).0 in
          ap (owns accounts household) (eqb-true placed.order.account order.account (and_parts (placed.order.account == order.account) (placed.order.ref_no == order.ref_no && true) first).0 ∙ is) ∙ mine
      by Source.Dealer e = absurd (true≢false (sym e))
  seen-order moment kind order is e = absurd (true≢false (sym e))

  seen-line : (moment : ℕ) (kind : EventKind) (line : LineForm) → line.order.account ≡ account → same_request (request_of kind) (Request.Line line) ≡ true → is_seen_by accounts household (record { moment = moment; kind = kind }) ≡ true
  seen-line moment (EventKind.Order placed) line is e = by placed.source e
    where
      by : (from : Source) → same_request (order_request from placed.receipt placed.order) (Request.Line line) ≡ true → owns accounts household placed.order.account ≡ true
      by Source.Direct e = absurd (true≢false (sym e))
      by Source.Dealer e =
          let rest = (and_parts (bytes_eq (placed.receipt ∷ []) (line.receipt ∷ [])) (pointwise bytes_eq (order_content placed.order) (order_content line.order)) e).1 in
          let first = (and_parts (placed.order.account == line.order.account && (placed.order.ref_no == line.order.ref_no && true)) (pointwise bytes_eq (body_content placed.order.body ∷ []) (body_content line.order.body ∷ [])) rest).0 in
          ap (owns accounts household) (eqb-true placed.order.account line.order.account (and_parts (placed.order.account == line.order.account) (placed.order.ref_no == line.order.ref_no && true) first).0 ∙ is) ∙ mine
  seen-line moment kind line is e = absurd (true≢false (sym e))

  seen-cancel : (moment : ℕ) (kind : EventKind) (form : CancelForm) → form.account ≡ account → same_request (request_of kind) (Request.Cancel form) ≡ true → is_seen_by accounts household (record { moment = moment; kind = kind }) ≡ true
  seen-cancel moment (EventKind.Cancel other) form is e =
      let first = (and_parts (other.account == form.account && (other.ref_no == form.ref_no && (other.target == form.target && true))) true e).0 in
      ap (owns accounts household) (eqb-true other.account form.account (and_parts (other.account == form.account) (other.ref_no == form.ref_no && (other.target == form.target && true)) first).0 ∙ is) ∙ mine
  seen-cancel moment (EventKind.Order placed) form is e = by placed.source e
    where
      by : (from : Source) → same_request (order_request from placed.receipt placed.order) (Request.Cancel form) ≡ true → owns accounts household placed.order.account ≡ true
      by Source.Direct e = absurd (true≢false (sym e))
      by Source.Dealer e = absurd (true≢false (sym e))
  seen-cancel moment kind form is e = absurd (true≢false (sym e))

  seen-repeat : (request : Request) → account_asked request ≡ Some account → (event : Event) → repeats request event ≡ true → is_seen_by accounts household event ≡ true
  seen-repeat (Request.Order order) asked event e = let is : order.account ≡ account = cc in seen-order event.moment event.kind order is e
  seen-repeat (Request.Line line) asked event e = let is : line.order.account ≡ account = cc in seen-line event.moment event.kind line is e
  seen-repeat (Request.Cancel form) asked event e = let is : form.account ≡ account = cc in seen-cancel event.moment event.kind form is e
  seen-repeat (Request.Show number) asked event e = absurd (true≢false (sym e ∙ not-repeated (Request.Show number) event refl))
  seen-repeat (Request.Trace form) asked event e = absurd (true≢false (sym e ∙ not-repeated (Request.Trace form) event refl))
  seen-repeat (Request.Statement form) asked event e = absurd (true≢false (sym e ∙ not-repeated (Request.Statement form) event refl))
  seen-repeat request asked event e = absurd (none_some asked)

-- ---- all together

pub public-dealers : (kind : EventKind) (form : DealerForm) → dealer_in kind ≡ Some form → is_public kind ≡ true
public-dealers (EventKind.Dealer other) form e = refl
public-dealers kind form e = absurd (none_some e)

abbrev pub all_parts : Journal → Parts
all_parts journal = record { accounts = accounts_of journal; orders = orders_of journal; journal = journal }

pub seen_alike : (journal : Journal) (household account : ℕ) → IsLawful journal → length journal < 100000000 → is_of_household (accounts_of journal) household account ≡ true → SeenAlike (all_parts journal) (all_parts (view household journal)) account
seen_alike journal household account lawful short mine =
    let accounts = accounts_of journal in
    let seen = view household journal in
    let agree = λ (number : ℕ). owners-agree accounts household number (no_account_twice journal lawful number) in
    let owned = agree account ∙ mine in
    let books = view-book journal household agree in
    let listed : accounts_of seen ≡ accounts_of_household accounts household = ap (λ (b : Book). b.accounts) books in
    let rows : map unplaced (orders_of seen) ≡ map unplaced (own_orders accounts household (orders_of journal)) = ap (λ (b : Book). b.orders) books in
    let once = no_account_twice journal lawful account in
    let once_seen = subst (λ forms. length (filter (has_number account) forms) ≤ 1) (sym listed) (fewer (has_number account) (λ form. form.household == household) accounts once) in
    let form : account_numbered accounts account ≡ account_numbered (accounts_of seen) account = sym (ap (λ forms. account_numbered forms account) listed ∙ own-form accounts household account mine) in
    let own_row = λ (row : OrderRow) (e : (row.order.account == account) ≡ true). ap (is_of_household accounts household) (eqb-true row.order.account account e) ∙ mine in
    let sees = is_seen_by accounts household in
    let fewer_events = length-filter sees journal in
    record {
      form = form;
      owned = λ other. any-by-find (has_number account) (λ form. form.household == other) accounts once ∙ (ap (λ found. option_map_or (λ (f : AccountForm). f.household == other) found false) form ∙ sym (any-by-find (has_number account) (λ form. form.household == other) (accounts_of seen) once_seen));
      served = λ dealer. any-by-find (has_number account) (λ form. form.dealer == dealer) accounts once ∙ (ap (λ found. option_map_or (λ (f : AccountForm). f.dealer == dealer) found false) form ∙ sym (any-by-find (has_number account) (λ form. form.dealer == dealer) (accounts_of seen) once_seen));
      named = λ ref_no.
          ap (option_map unplaced) (sym (found-within (is_own_row (is_of_household accounts household)) (λ row. is_named account ref_no row.order) (λ row e. own_row row (and_parts (row.order.account == account) (row.order.ref_no == ref_no) e).0) (orders_of journal)))
          ∙ (sym (find-map (λ row. is_named account ref_no row.order) unplaced (own_orders accounts household (orders_of journal)))
          ∙ (ap (find (λ row. is_named account ref_no row.order)) (sym rows)
          ∙ find-map (λ row. is_named account ref_no row.order) unplaced (orders_of seen)));
      bought = λ class.
          sym (any-within-part (is_own_row (is_of_household accounts household)) (buys account class) (λ row e. own_row row (and_parts (row.order.account == account) (stands row && buys_class class row.order.body) e).0) (orders_of journal))
          ∙ (sym (any-of-map (buys account class) unplaced (own_orders accounts household (orders_of journal)))
          ∙ (ap (list_any (buys account class)) (sym rows)
          ∙ any-of-map (buys account class) unplaced (orders_of seen)));
      places = order-places journal;
      places_too = order-places seen;
      dealers = sym (public-seen accounts household dealer_in public-dealers journal);
      references = λ ref_no. sym (any-within-part sees (brings_reference (account, ref_no)) (λ event e. seen-reference accounts household account owned event.moment event.kind (reference-account accounts household account owned (reference_of (request_of event.kind)) ref_no e)) journal);
      counted = sym (length-filter (is_of_account account) journal) ∙ (sym (ap length (filter-within sees (is_of_account account) (λ event e. seen-reference accounts household account owned event.moment event.kind e) journal)) ∙ length-filter (is_of_account account) seen);
      short = short;
      short_too = omega (arith, short, fewer_events, count_by-le-length sees journal);
      repeated = λ request asked. sym (found-within sees (repeats request) (seen-repeat accounts household account owned request asked) journal);
    }
