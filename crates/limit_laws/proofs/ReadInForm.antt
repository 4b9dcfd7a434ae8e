-- What is read from a text is in its form.
use Rattle.std.proofs.Common.{All, Bool, Err, List, None, Ok, Option, Result, Some, [], ap, bytes_eq, codes, cond, false, inl, inr, nat_le, option_and_then, option_map, refl, subst, sym, true, ℕ, ◌&&◌, ◌+◌, ◌∙◌, ◌∷◌, ◌≡◌, ◌≤◌}
use Rattle.std.proofs.lemmas.Bool.{and_parts, true≢false}
use Rattle.std.proofs.lemmas.Bool.Decides.{leb_tells}
use Rattle.std.proofs.lemmas.List.Elements.{All-cons, All-nil}
use Rattle.std.specs.List.{after_first, before_first}
use Rattle.agent_events.specs.Fields.{amount, bearer, corrected_rate, dividend_rate, each, holidays, identifier, if_rising, is_colon, is_rising, list_items, moment, nav, pair, pay, prices, quantity, reference, time, within, zone}
use Rattle.agent_events.specs.Forms.{at, field, sheet_form, ◌>>=◌}
use Rattle.agent_events.specs.Items.{asked_by, batch_line}
use Rattle.agent_events.specs.OrderForms.{body_form, carried_order, entry_form, exchange_form, line_asked, order_count, order_form}
use Rattle.agent_events.specs.VerbForms.{Asked, calendar_asked, dividend_asked, fixprice_asked, fixrate_asked}
use Rattle.agent_events.specs.declared.order.Body.{Body}
use Rattle.agent_events.specs.declared.order.Order.{Order}
use Rattle.agent_events.specs.declared.request.EntryForm.{EntryForm}
use Rattle.agent_events.specs.declared.request.Request.{Request}
use Rattle.agent_events.specs.declared.request.SheetForm.{SheetForm}
use Rattle.fund_calendar.specs.DayText.{read_day}
use Rattle.limit_laws.specs.Runs.{ArePrices, AskedInForm}
use Rattle.money_units.specs.Texts.{money, rate as millionths}
use Rattle.register_laws.proofs.Choosing.{none_some}
use Rattle.register_laws.proofs.FormsByVerb.{OfEachForm, carried, of_verb}
use Rattle.register_laws.specs.ReplayKeeps.{AsksInRange, most_nav}

-- ---- what fields ask

by-parts : {A : Type 0} (read : Result A ℕ) (next : A → Asked) → ((x : A) → AskedInForm (next x)) → AskedInForm (read >>= next)
by-parts (Ok x) next all = all x
by-parts (Err place) next all = tt

by-last : {A : Type 0} (place : ℕ) (found : Option A) (next : A → Asked) → ((x : A) → found ≡ Some x → AskedInForm (next x)) → AskedInForm (at place found >>= next)
by-last place None next all = tt
by-last place (Some x) next all = all x refl

-- a value in its range
ranged : (low high n : ℕ) (found : Option ℕ) → within low high found ≡ Some n → (low ≤ n) × (n ≤ high)
ranged low high n None e = absurd (none_some e)
ranged low high n (Some m) e = by (nat_le low m && nat_le m high) refl e
  where
    le-of : (a b : ℕ) → nat_le a b ≡ true → a ≤ b
    le-of a b t = elim (leb_tells a b) [
      | inl (u, le) ↦ le
      | inr (u, gt) ↦ absurd (true≢false (sym t ∙ u))
    ]

    by : (is : Bool) → (nat_le low m && nat_le m high) ≡ is → cond is (Some m) None ≡ Some n → (low ≤ n) × (n ≤ high)
    by false t same = absurd (none_some same)
    by true t same =
        let parts = and_parts (nat_le low m) (nat_le m high) t in
        let own : m ≡ n = cc in
        (subst (λ k. low ≤ k) own (le-of low m parts.0), subst (λ k. k ≤ high) own (le-of m high parts.1))

-- ---- prices

if-risen : (ps listed : List (ℕ × ℕ)) (b : Bool) → is_rising ps ≡ b → All (λ price. price.1 ≤ most_nav) ps → cond b (Some ps) None ≡ Some listed → ArePrices listed
if-risen ps listed false is low e = absurd (none_some e)
if-risen ps listed true is low e =
    let same : ps ≡ listed = cc in subst ArePrices same (record { low = low; rises = is })

prices-read : (found : Option (List (ℕ × ℕ))) (listed : List (ℕ × ℕ)) → ((ps : List (ℕ × ℕ)) → found ≡ Some ps → All (λ price. price.1 ≤ most_nav) ps) → option_and_then if_rising found ≡ Some listed → ArePrices listed
prices-read None listed low e = absurd (none_some e)
prices-read (Some ps) listed low e = if-risen ps listed (is_rising ps) refl (low ps refl) e

-- both parts of a pair are read
second-read : (x y : Option ℕ) (price : ℕ × ℕ) → option_and_then (λ a. option_map (λ b. (a, b)) y) x ≡ Some price → y ≡ Some price.1
second-read None y price e = absurd (none_some e)
second-read (Some a) None price e = absurd (none_some e)
second-read (Some a) (Some b) price e = let same : (a, b) ≡ price = cc in ap (λ (p : ℕ × ℕ). Some p.1) same

price-low : (item : List ℕ) (price : ℕ × ℕ) → pair identifier nav item ≡ Some price → price.1 ≤ most_nav
price-low item price e =
    (ranged 1 10000000 price.1 (money (after_first is_colon item)) (second-read (identifier (before_first is_colon item)) (nav (after_first is_colon item)) price e)).1

each-read : (items : List (List ℕ)) (listed : List (ℕ × ℕ)) → each (pair identifier nav) items ≡ Some listed → All (λ price. price.1 ≤ most_nav) listed
each-read [] listed e =
    let same : [] ≡ listed = cc in subst (All (λ (price : ℕ × ℕ). price.1 ≤ most_nav)) same (All-nil (λ (price : ℕ × ℕ). price.1 ≤ most_nav))
each-read (item ∷ items) listed e =
    by (pair identifier nav item) refl (each (pair identifier nav) items) (each-read items) e
  where
    by : (first : Option (ℕ × ℕ)) → pair identifier nav item ≡ first → (rest : Option (List (ℕ × ℕ))) → ((ps : List (ℕ × ℕ)) → rest ≡ Some ps → All (λ price. price.1 ≤ most_nav) ps) → option_and_then (λ x. option_map (λ xs. x ∷ xs) rest) first ≡ Some listed → All (λ price. price.1 ≤ most_nav) listed
    by None is rest low same = absurd (none_some same)
    by (Some price) is None low same = absurd (none_some same)
    by (Some price) is (Some ps) low same =
        let own : price ∷ ps ≡ listed = cc in
        subst (All (λ (p : ℕ × ℕ). p.1 ≤ most_nav)) own (All-cons (λ (p : ℕ × ℕ). p.1 ≤ most_nav) price ps (price-low item price is) (low ps refl))

-- ---- verb by verb

calendar-forms : (fields : List (List ℕ)) → AskedInForm (calendar_asked fields)
calendar-forms fields =
    by-parts (at 1 (identifier (field fields 1))) _
    (λ calendar. by-parts (at 2 (zone (field fields 2))) _
    (λ rule. by-parts (at 3 (time (field fields 3))) _
    (λ minute. by-parts (at 4 (read_day (field fields 4))) _
    (λ first. by-parts (at 5 (read_day (field fields 5))) _
    (λ last. by-parts (at 6 (holidays (field fields 6))) _ (λ days. tt))))))

-- a sheet
abbrev SheetRead : Result SheetForm ℕ → Type 0
SheetRead (Ok form) = ArePrices form.prices
SheetRead (Err place) = Unit {0}

by-sheet : (read : Result SheetForm ℕ) → SheetRead read → AskedInForm (read >>= λ form. Ok (Request.Sheet form))
by-sheet (Ok form) is = is
by-sheet (Err place) is = tt

sheet-parts : {A : Type 0} (read : Result A ℕ) (next : A → Result SheetForm ℕ) → ((x : A) → SheetRead (next x)) → SheetRead (read >>= next)
sheet-parts (Ok x) next all = all x
sheet-parts (Err place) next all = tt

sheet-last : {A : Type 0} (place : ℕ) (found : Option A) (next : A → Result SheetForm ℕ) → ((x : A) → found ≡ Some x → SheetRead (next x)) → SheetRead (at place found >>= next)
sheet-last place None next all = tt
sheet-last place (Some x) next all = all x refl

sheet-read : (fields : List (List ℕ)) → SheetRead (sheet_form fields)
unfolding sheet_form
sheet-read fields =
    sheet-parts (at 1 (identifier (field fields 1))) _
    (λ calendar. sheet-parts (at 2 (moment (field fields 2))) _
    (λ priced. sheet-last 3 (prices (field fields 3)) _
    (λ listed risen. prices-read (each (pair identifier nav) (list_items (field fields 3))) listed (each-read (list_items (field fields 3))) risen)))

dividend-forms : (fields : List (List ℕ)) → AskedInForm (dividend_asked fields)
dividend-forms fields =
    by-parts (at 1 (identifier (field fields 1))) _
    (λ class. by-parts (at 2 (moment (field fields 2))) _ (λ priced. by-last 3 (dividend_rate (field fields 3)) _ (λ rate is. (ranged 1 1000000000 rate (millionths (field fields 3)) is).1)))

fixprice-forms : (fields : List (List ℕ)) → AskedInForm (fixprice_asked fields)
fixprice-forms fields =
    by-parts (at 1 (reference (field fields 1))) _
    (λ fix. by-parts (at 2 (bearer (field fields 2))) _
    (λ borne. by-parts (at 3 (identifier (field fields 3))) _
    (λ class. by-parts (at 4 (moment (field fields 4))) _ (λ priced. by-last 5 (nav (field fields 5)) _ (λ price is. (ranged 1 10000000 price (money (field fields 5)) is).1)))))

fixrate-forms : (fields : List (List ℕ)) → AskedInForm (fixrate_asked fields)
fixrate-forms fields =
    by-parts (at 1 (reference (field fields 1))) _
    (λ fix. by-parts (at 2 (bearer (field fields 2))) _
    (λ borne. by-parts (at 3 (identifier (field fields 3))) _
    (λ class. by-parts (at 4 (moment (field fields 4))) _ (λ priced. by-last 5 (corrected_rate (field fields 5)) _ (λ rate is. (ranged 0 1000000000 rate (millionths (field fields 5)) is).1)))))

-- ---- orders

abbrev BodyRead : Result Body ℕ → Type 0
BodyRead (Ok body) = AsksInRange body
BodyRead (Err place) = Unit {0}

either-body : (is : Bool) (one other : Result Body ℕ) → BodyRead one → BodyRead other → BodyRead (cond is one other)
either-body true one other first second = first
either-body false one other first second = second

-- a field of a body that isn't a letter's
other-body : {A : Type 0} (place : ℕ) (make : A → Body) (found : Option A) → ((x : A) → AsksInRange (make x)) → BodyRead (at place (option_map make found))
other-body place make None all = tt
other-body place make (Some x) all = all x

letter-body : (place class : ℕ) (text : List ℕ) (found : Option ℕ) → amount text ≡ found → BodyRead (at place (option_map (Body.Letter class) found))
letter-body place class text None is = tt
letter-body place class text (Some n) is = ranged 1 1000000000000 n (money text) is

exchange-body : (before class : ℕ) (fields : List (List ℕ)) → BodyRead (exchange_form before class fields)
exchange-body before class fields = by (at (before + 4) (identifier (field fields (before + 4)))) (at (before + 5) (quantity (field fields (before + 5))))
  where
    by : (to mils : Result ℕ ℕ) → BodyRead (to >>= λ target. mils >>= λ quantity. Ok (Body.Exchange class target quantity))
    by (Ok to) (Ok mils) = tt
    by (Ok to) (Err place) = tt
    by (Err place) mils = tt

body-read : (verb : List ℕ) (before class : ℕ) (fields : List (List ℕ)) → BodyRead (body_form verb before class fields)
body-read verb before class fields =
    let text = field fields (before + 4) in
    either-body (bytes_eq verb (codes "buy")) _ _ (other-body (before + 4) (Body.Buy class) (amount text) (λ gross. tt))
    (either-body (bytes_eq verb (codes "sell")) _ _ (other-body (before + 4) (Body.Sell class) (quantity text) (λ mils. tt))
    (either-body (bytes_eq verb (codes "sellcash")) _ _ (other-body (before + 4) (Body.SellCash class) (amount text) (λ cents. tt))
    (either-body (bytes_eq verb (codes "sellall")) _ _ tt
    (either-body (bytes_eq verb (codes "exchange")) _ _ (exchange-body before class fields)
    (either-body (bytes_eq verb (codes "exchangeall")) _ _ (other-body (before + 4) (Body.ExchangeAll class) (identifier text) (λ to. tt))
    (either-body (bytes_eq verb (codes "letter")) _ _ (letter-body (before + 4) class text (amount text) refl)
    (other-body (before + 4) (Body.Elect class) (pay text) (λ in_cash. tt))))))))

abbrev OrderRead : Result Order ℕ → Type 0
OrderRead (Ok order) = AsksInRange order.body
OrderRead (Err place) = Unit {0}

order-parts : {A : Type 0} (read : Result A ℕ) (next : A → Result Order ℕ) → ((x : A) → OrderRead (next x)) → OrderRead (read >>= next)
order-parts (Ok x) next all = all x
order-parts (Err place) next all = tt

order-body : (account ref_no : ℕ) (read : Result Body ℕ) → BodyRead read → OrderRead (read >>= λ body. Ok (record { account = account; ref_no = ref_no; body = body }))
order-body account ref_no (Ok body) is = is
order-body account ref_no (Err place) is = tt

order-read : (verb : List ℕ) (before : ℕ) (fields : List (List ℕ)) → OrderRead (order_form verb before fields)
order-read verb before fields =
    order-parts (at (before + 1) (identifier (field fields (before + 1)))) _
    (λ account. order-parts (at (before + 2) (reference (field fields (before + 2)))) _
    (λ ref_no. order-parts (at (before + 3) (identifier (field fields (before + 3)))) _
    (λ class. order-body account ref_no (body_form verb before class fields) (body-read verb before class fields))))

by-order : (read : Result Order ℕ) (next : Order → Asked) → OrderRead read → ((order : Order) → AsksInRange order.body → AskedInForm (next order)) → AskedInForm (read >>= next)
by-order (Ok order) next is all = all order is
by-order (Err place) next is all = tt

line-forms : (fields : List (List ℕ)) → AskedInForm (line_asked fields)
line-forms fields =
    by-parts (at 1 (moment (field fields 1))) _
    (λ receipt. by-parts (at 2 (order_count (field fields 2))) _
    (λ count. by-order (carried_order 2 fields) _ (order-read (field fields 2) 2 fields) (λ order is. is)))

abbrev EntryRead : Result EntryForm ℕ → Type 0
EntryRead (Ok form) = AsksInRange form.order.body
EntryRead (Err place) = Unit {0}

entry-parts : {A : Type 0} (read : Result A ℕ) (next : A → Result EntryForm ℕ) → ((x : A) → EntryRead (next x)) → EntryRead (read >>= next)
entry-parts (Ok x) next all = all x
entry-parts (Err place) next all = tt

entry-order : (read : Result Order ℕ) (next : Order → Result EntryForm ℕ) → OrderRead read → ((order : Order) → AsksInRange order.body → EntryRead (next order)) → EntryRead (read >>= next)
entry-order (Ok order) next is all = all order is
entry-order (Err place) next is all = tt

entry-read : (fields : List (List ℕ)) → EntryRead (entry_form fields)
entry-read fields =
    entry-parts (at 1 (reference (field fields 1))) _
    (λ fix. entry-parts (at 2 (bearer (field fields 2))) _
    (λ borne. entry-parts (at 3 (moment (field fields 3))) _
    (λ receipt. entry-parts (at 4 (order_count (field fields 4))) _
    (λ count. entry-order (carried_order 4 fields) _ (order-read (field fields 4) 4 fields) (λ order is. is)))))

by-entry : (read : Result EntryForm ℕ) (make : EntryForm → Request) → EntryRead read → ((form : EntryForm) → AsksInRange form.order.body → AskedInForm (Ok (make form))) → AskedInForm (read >>= λ form. Ok (make form))
by-entry (Ok form) make is all = all form is
by-entry (Err place) make is all = tt

-- ---- by the verb

read-forms : (fields : List (List ℕ)) → OfEachForm AskedInForm fields
read-forms fields = record {
  nothing = λ place. tt;
  calendar = calendar-forms fields;
  sheet = by-sheet (sheet_form fields) (sheet-read fields);
  dividend = dividend-forms fields;
  fixprice = fixprice-forms fields;
  fixrate = fixrate-forms fields;
  enter = by-entry (entry_form fields) Request.Enter (entry-read fields) (λ form is. is);
  replace = by-entry (entry_form fields) Request.Replace (entry-read fields) (λ form is. is);
  line = line-forms fields;
  order = λ verb. by-order (order_form verb 0 fields) _ (order-read verb 0 fields) (λ order is. is);
  close = λ form. tt;
  class = λ form. tt;
  dealer = λ form. tt;
  household = λ form. tt;
  account = λ form. tt;
  void = λ form. tt;
  cancel = λ form. tt;
  show = λ account. tt;
  trace = λ form. tt;
  statement = λ form. tt;
  books = tt;
}

pub asked-forms : (verb : List ℕ) (fields : List (List ℕ)) → AskedInForm (asked_by verb fields)
asked-forms verb fields = of_verb AskedInForm verb fields (read-forms fields)

pub batch-forms : (fields : List (List ℕ)) → AskedInForm (batch_line fields)
batch-forms fields = carried AskedInForm (λ place. tt) 2 line_asked fields (line-forms fields)
