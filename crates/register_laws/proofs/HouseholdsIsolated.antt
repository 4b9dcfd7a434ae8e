-- So a household's view answers for the journal: its callers, its accounts and orders, and its part of the replay.
use Rattle.std.proofs.Common.{Bool, List, None, Option, Some, [], ap, append-nil, arith, cond, false, filter, find, length, option_map, refl, subst, sym, true, unwrap_or, ℕ, ◌++◌, ◌+◌, ◌<◌, ◌==◌, ◌∙◌, ◌∷◌, ◌≡◌, ◌≤◌}
use Rattle.std.proofs.lemmas.Bool.{and_parts, eq-eqb, eqb-true, ne_eqb, true≢false}
use Rattle.std.specs.Option.{option_map_or, option_or}
use Rattle.std.specs.Prelude.{Err, Ok, Result, bytes_eq}
use Rattle.agent_events.specs.declared.event.EventKind.{EventKind}
use Rattle.agent_events.specs.declared.reply.Refusal.{Refusal}
use Rattle.agent_events.specs.declared.request.AccountForm.{AccountForm}
use Rattle.agent_events.specs.declared.request.ClassForm.{ClassForm}
use Rattle.agent_events.specs.declared.request.DealerForm.{DealerForm}
use Rattle.agent_events.specs.declared.request.HouseholdForm.{HouseholdForm}
use Rattle.agent_events.specs.declared.request.LineForm.{LineForm}
use Rattle.agent_events.specs.declared.request.Request.{Request}
use Rattle.agent_events.specs.declared.verdict.Caller.{Caller}
use Rattle.forward_price.specs.PriceTables.{Table}
use Rattle.register_laws.proofs.Choosing.{none_some, some_none}
use Rattle.register_laws.proofs.CorrectedAgain.{book-same-again}
use Rattle.register_laws.proofs.Isolation.{Base, ReplaysAlike, answer-same, book_at, refused-right, sit}
use Rattle.register_laws.proofs.ListParts.{filter-within, found-within}
use Rattle.register_laws.proofs.NoIdentityTwice.{no_account_twice, no_key_twice}
use Rattle.register_laws.proofs.ReplayedAlone.{owner-is}
use Rattle.register_laws.proofs.SeenAlike.{all_parts, public-dealers, seen_alike}
use Rattle.register_laws.proofs.ViewBooks.{chosen-seen, owners-agree, public-seen, view-book, whole_in_view}
use Rattle.register_laws.specs.Households.{is_of_household, is_own_position, is_own_trade, part_of}
use Rattle.register_laws.specs.Identities.{has_dealer_key, has_household_key}
use Rattle.register_laws.specs.Isolation.{IsAskedOf, account_asked}
use Rattle.register_laws.specs.Lawful.{book_behind, own_at}
use Rattle.register_machine.specs.journal.Journals.{Journal}
use Rattle.register_machine.specs.journal.Kinds.{accounts_of, classes_of, dealer_in, dealers_of, household_in, household_of, households_of}
use Rattle.register_machine.specs.journal.Lawful.{IsLawful}
use Rattle.register_machine.specs.journal.Views.{is_seen_by, view}
use Rattle.register_machine.specs.pricing.CorrectedBook.{Book}
use Rattle.register_machine.specs.pricing.DividendRates.{Rates, rates_of}
use Rattle.register_machine.specs.pricing.PublishedTable.{table_of}
use Rattle.register_machine.specs.queries.Show.{is_shown}
use Rattle.register_machine.specs.queries.Statement.{is_in_period}
use Rattle.register_machine.specs.replay.Replay.{replay}
use Rattle.register_machine.specs.replay.Trades.{Day}
use Rattle.register_machine.specs.rules.Breaks.{is_trade_of}
use Rattle.register_machine.specs.rules.Callers.{caller_of, may, owns}
use Rattle.register_machine.specs.rules.Situations.{Situation, situation_at}
use Rattle.register_machine.specs.run.Answers.{Answer, answer}
use Rattle.register_machine.specs.run.Batches.{BatchAnswer, batch_answer, is_dealer_caller}

-- ---- what is found where one at most passes

nowhere : {X : Type 0} (p : X → Bool) (xs : List X) → filter p xs ≡ [] → find p xs ≡ None
nowhere p [] none = refl
nowhere {X = X} p (x ∷ xs) none = elim (p x) as (λ b. cond b (x ∷ filter p xs) (filter p xs) ≡ [] → cond b (Some x) (find p xs) ≡ None) [
  | true ↦ λ e. absurd (some-nil (filter p xs) e)
  | false ↦ λ e. nowhere p xs e
] none
  where
    some-nil : (zs : List X) → x ∷ zs ≡ [] → ⊥
    some-nil zs e = cc

pub none-part : {X : Type 0} (p q : X → Bool) (xs : List X) → find p xs ≡ None → find p (filter q xs) ≡ None
none-part p q [] none = refl
none-part {X = X} p q (x ∷ xs) none = by (p x) (q x) refl none (none-part p q xs)
  where
    by : (a b : Bool) → p x ≡ a → cond a (Some x) (find p xs) ≡ None → (find p xs ≡ None → find p (filter q xs) ≡ None) → find p (cond b (x ∷ filter q xs) (filter q xs)) ≡ None
    by true b is e rest = absurd (some_none e)
    by false true is e rest = ap (λ c. cond c (Some x) (find p (filter q xs))) is ∙ rest e
    by false false is e rest = rest e

pub kept-one : {X : Type 0} (p q : X → Bool) (xs : List X) (x : X) → find p xs ≡ Some x → q x ≡ true → find p (filter q xs) ≡ Some x
kept-one p q [] x found mine = absurd (none_some found)
kept-one {X = X} p q (y ∷ ys) x found mine = by (p y) (q y) refl refl found (kept-one p q ys x)
  where
    by : (a b : Bool) → p y ≡ a → q y ≡ b → cond a (Some y) (find p ys) ≡ Some x → (find p ys ≡ Some x → q x ≡ true → find p (filter q ys) ≡ Some x) → find p (cond b (y ∷ filter q ys) (filter q ys)) ≡ Some x
    by true true is own e rest = ap (λ c. cond c (Some y) (find p (filter q ys))) is ∙ e
    by true false is own e rest = let same : y ≡ x = cc in absurd (true≢false (sym mine ∙ (ap q (sym same) ∙ own)))
    by false true is own e rest = ap (λ c. cond c (Some y) (find p (filter q ys))) is ∙ rest e mine
    by false false is own e rest = rest e mine

empty : {X : Type 0} (xs : List X) → length xs ≡ 0 → xs ≡ []
empty [] e = refl
empty (x ∷ xs) e = absurd (omega (arith, e))

lost-one : {X : Type 0} (p q : X → Bool) (xs : List X) (x : X) → find p xs ≡ Some x → q x ≡ false → length (filter p xs) ≤ 1 → find p (filter q xs) ≡ None
lost-one p q [] x found off few = refl
lost-one {X = X} p q (y ∷ ys) x found off few = by (p y) (q y) refl refl found few (lost-one p q ys x)
  where
    rest-empty : (zs : List X) → length (y ∷ zs) ≤ 1 → length zs ≡ 0
    rest-empty zs few = omega (arith, few)

    by : (a b : Bool) → p y ≡ a → q y ≡ b → cond a (Some y) (find p ys) ≡ Some x → length (cond a (y ∷ filter p ys) (filter p ys)) ≤ 1 → (find p ys ≡ Some x → q x ≡ false → length (filter p ys) ≤ 1 → find p (filter q ys) ≡ None) → find p (cond b (y ∷ filter q ys) (filter q ys)) ≡ None
    by true true is own e few rest = let same : y ≡ x = cc in absurd (true≢false (sym own ∙ (ap q same ∙ off)))
    by true false is own e few rest = none-part p q ys (nowhere p ys (empty (filter p ys) (rest-empty (filter p ys) few)))
    by false true is own e few rest = ap (λ c. cond c (Some y) (find p (filter q ys))) is ∙ rest e off few
    by false false is own e few rest = rest e off few

one-there : {X : Type 0} (p : X → Bool) (xs : List X) (x : X) → find p xs ≡ Some x → 1 ≤ length (filter p xs)
one-there p [] x found = absurd (none_some found)
one-there p (y ∷ ys) x found = elim (p y) as (λ b. cond b (Some y) (find p ys) ≡ Some x → 1 ≤ length (cond b (y ∷ filter p ys) (filter p ys))) [
  | true ↦ λ e. omega arith
  | false ↦ λ e. one-there p ys x e
] found

-- ---- who calls

abbrev known_among : List HouseholdForm → List DealerForm → List ℕ → Caller
known_among households dealers key =
    unwrap_or
    (option_or (option_map Caller.Household (option_map (λ (form : HouseholdForm). form.household) (find (λ (form : HouseholdForm). bytes_eq form.key key) households)))
    (option_map Caller.Dealer (option_map (λ (form : DealerForm). form.dealer) (find (λ (form : DealerForm). bytes_eq form.key key) dealers))))
    Caller.Stranger

-- the same caller, or another household, which is a stranger to the view
pub data CallsAlike (household : ℕ) (caller seen : Caller) : Type 0 where
  Same : caller ≡ seen → CallsAlike household caller seen
  Other : (other : ℕ) → caller ≡ Caller.Household other → (other ≡ household → ⊥) → seen ≡ Caller.Stranger → CallsAlike household caller seen

known-alike : (household : ℕ) (households : List HouseholdForm) (dealers : List DealerForm) (key : List ℕ) → length (filter (has_household_key key) households) + length (filter (has_dealer_key key) dealers) ≤ 1 → CallsAlike household (known_among households dealers key) (known_among (filter (λ form. form.household == household) households) dealers key)
known-alike household households dealers key few = by (find has households) refl
  where
    has : HouseholdForm → Bool
    has form = bytes_eq form.key key

    own : HouseholdForm → Bool
    own form = form.household == household

    known : Option HouseholdForm → Option DealerForm → Caller
    known found dealer =
        unwrap_or (option_or (option_map Caller.Household (option_map (λ (form : HouseholdForm). form.household) found)) (option_map Caller.Dealer (option_map (λ (form : DealerForm). form.dealer) dealer))) Caller.Stranger

    dealer_found : Option DealerForm
    dealer_found = find (λ (form : DealerForm). bytes_eq form.key key) dealers

    by-own : (form : HouseholdForm) → find has households ≡ Some form → (b : Bool) → own form ≡ b → CallsAlike household (known (find has households) dealer_found) (known (find has (filter own households)) dealer_found)
    by-own form found true mine =
        CallsAlike.Same (ap (λ f. known f dealer_found) (found ∙ sym (kept-one has own households form found mine)))
    by-own form found false other =
        let once : length (filter has households) ≤ 1 = omega (arith, few) in
        let none : length (filter (has_dealer_key key) dealers) ≡ 0 = omega (arith, few, one-there has households form found) in
        CallsAlike.Other form.household (ap (λ f. known f dealer_found) found) (λ is. true≢false (sym (eq-eqb form.household household is) ∙ other))
        (ap (λ f. known f dealer_found) (lost-one has own households form found other once)
        ∙ ap (λ d. known None d) (nowhere (has_dealer_key key) dealers (empty (filter (has_dealer_key key) dealers) none)))

    by : (found : Option HouseholdForm) → find has households ≡ found → CallsAlike household (known (find has households) dealer_found) (known (find has (filter own households)) dealer_found)
    by None is = CallsAlike.Same (ap (λ f. known f dealer_found) (is ∙ sym (none-part has own households is)))
    by (Some form) is = by-own form is (own form) refl

seen-household : (accounts : List AccountForm) (household moment : ℕ) (kind : EventKind) (form : HouseholdForm) → household_in kind ≡ Some form → is_seen_by accounts household (record { moment = moment; kind = kind }) ≡ (form.household == household)
seen-household accounts household moment (EventKind.Household other) form e = let same : other ≡ form = cc in ap (λ (f : HouseholdForm). f.household == household) same
seen-household accounts household moment kind form e = absurd (none_some e)

pub calls-alike : (journal : Journal) (household : ℕ) → IsLawful journal → (operator key : List ℕ) → CallsAlike household (caller_of journal operator key) (caller_of (view household journal) operator key)
calls-alike journal household lawful operator key = by (bytes_eq key operator)
  where
    households_seen : households_of (view household journal) ≡ filter (λ form. form.household == household) (households_of journal)
    households_seen =
        chosen-seen (accounts_of journal) household household_in (λ form. form.household == household)
        (λ event form is. seen-household (accounts_of journal) household event.moment event.kind form is) journal

    dealers_seen : dealers_of (view household journal) ≡ dealers_of journal
    dealers_seen = public-seen (accounts_of journal) household dealer_in public-dealers journal

    alike : CallsAlike household (known_among (households_of journal) (dealers_of journal) key) (known_among (households_of (view household journal)) (dealers_of (view household journal)) key)
    alike =
        subst (λ forms. CallsAlike household (known_among (households_of journal) (dealers_of journal) key) (known_among forms (dealers_of (view household journal)) key)) (sym households_seen)
        (subst (λ dealers. CallsAlike household (known_among (households_of journal) (dealers_of journal) key) (known_among (filter (λ form. form.household == household) (households_of journal)) dealers key)) (sym dealers_seen)
        (known-alike household (households_of journal) (dealers_of journal) key (no_key_twice journal lawful key)))

    by : (b : Bool) → CallsAlike household (cond b Caller.Operator (known_among (households_of journal) (dealers_of journal) key)) (cond b Caller.Operator (known_among (households_of (view household journal)) (dealers_of (view household journal)) key))
    by true = CallsAlike.Same refl
    by false = alike

-- another household has no right to the account
may-other : (accounts : List AccountForm) (other account : ℕ) → owns accounts other account ≡ false → (request : Request) → account_asked request ≡ Some account → may accounts (Caller.Household other) request ≡ false
may-other accounts other account off (Request.Order order) asked = let is : account ≡ order.account = cc in subst (λ a. owns accounts other a ≡ false) is off
may-other accounts other account off (Request.Cancel form) asked = let is : account ≡ form.account = cc in subst (λ a. owns accounts other a ≡ false) is off
may-other accounts other account off (Request.Show number) asked = let is : account ≡ number = cc in subst (λ a. owns accounts other a ≡ false) is off
may-other accounts other account off (Request.Trace form) asked = let is : account ≡ form.account = cc in subst (λ a. owns accounts other a ≡ false) is off
may-other accounts other account off (Request.Statement form) asked = let is : account ≡ form.account = cc in subst (λ a. owns accounts other a ≡ false) is off
may-other accounts other account off request asked = refl

-- ---- the replay

replays-alike : (journal : Journal) (household account : ℕ) (book other : Book) → is_of_household (accounts_of journal) household account ≡ true → IsLawful journal → book ≡ book_behind journal → other ≡ book_behind (view household journal) → ReplaysAlike book other account
replays-alike journal household account book other mine lawful is seen =
    subst (λ b. ReplaysAlike b other account) (sym is)
    (subst (λ b. ReplaysAlike (book_behind journal) b account) (sym seen)
    (record {
      shown = sym (filter-within (is_own_position own) (is_shown account) (λ p e. of_account p.account (and_parts (p.account == account) _ e).0) day.register)
          ∙ ap (λ (d : Day). filter (is_shown account) d.register) part;
      traded = λ ref_no.
          sym (found-within (is_own_trade own) (is_trade_of account ref_no) (λ t e. of_account t.account (and_parts (t.account == account) (t.ref_no == ref_no) e).0) day.trades)
          ∙ ap (λ (d : Day). find (is_trade_of account ref_no) d.trades) part;
      in_period = λ form by.
          sym (filter-within (is_own_trade own) (is_in_period form) (λ t e. ap own (eqb-true t.account form.account (and_parts (t.account == form.account) _ e).0 ∙ by) ∙ mine) day.trades)
          ∙ ap (λ (d : Day). filter (is_in_period form) d.trades) part;
    }))
  where
    own : ℕ → Bool
    own = is_of_household (accounts_of journal) household

    day : Day
    day = replay (book_behind journal)

    part : part_of (accounts_of journal) household (replay (book_behind journal)) ≡ replay (book_behind (view household journal))
    part = whole_in_view journal household lawful

    of_account : (number : ℕ) → (number == account) ≡ true → own number ≡ true
    of_account number e = ap own (eqb-true number account e) ∙ mine

-- ---- the answers

abbrev base_of : Journal → ℕ → Caller → Base
base_of journal now caller = record {
  table = (book_behind journal).table;
  classes = classes_of journal;
  rates = rates_of journal;
  now = now;
  caller = caller;
}

-- the book of the view, by its parts
book-seen : (journal : Journal) (household now : ℕ) (caller : Caller) → IsLawful journal → book_at (base_of journal now caller) (all_parts (view household journal)) ≡ book_behind (view household journal)
book-seen journal household now caller lawful =
    let seen = view household journal in
    let books = view-book journal household (λ number. owners-agree (accounts_of journal) household number (no_account_twice journal lawful number)) in
    let of = λ (table : Table) (classes : List ClassForm) (rates : Rates). book_at (record { table = table; classes = classes; rates = rates; now = now; caller = caller }) (all_parts seen) in
    ap (λ table. of table (classes_of journal) (rates_of journal)) (sym (ap (λ (b : Book). b.table) books))
    ∙ (ap (λ classes. of (book_behind seen).table classes (rates_of journal)) (sym (ap (λ (b : Book). b.classes) books))
    ∙ ap (λ rates. of (book_behind seen).table (classes_of seen) rates) (sym (ap (λ (b : Book). b.rates) books)))

seen-sit : (journal : Journal) (household now : ℕ) (caller : Caller) → IsLawful journal → sit (base_of journal now caller) (all_parts (view household journal)) ≡ own_at (view household journal) now caller
seen-sit journal household now caller lawful =
    ap (λ (book : Book). let s : Situation = record { journal = view household journal; book = book; now = now; caller = caller } in s) (book-seen journal household now caller lawful)

same-caller : (journal : Journal) (household now : ℕ) (caller : Caller) → IsLawful journal → length journal < 100000000 → (request : Request) → IsAskedOf journal household request → answer (own_at journal now caller) request ≡ answer (own_at (view household journal) now caller) request
same-caller journal household now caller lawful short request asked =
    let base = base_of journal now caller in
    answer-same base (all_parts journal) (all_parts (view household journal)) asked.0 (seen_alike journal household asked.0 lawful short asked.2)
    (replays-alike journal household asked.0 (book_at base (all_parts journal)) (book_at base (all_parts (view household journal))) asked.2 lawful refl (book-seen journal household now caller lawful))
    request asked.1
    ∙ ap (λ s. answer s request) (seen-sit journal household now caller lawful)

pub by-callers : (journal : Journal) (household now : ℕ) (caller seen : Caller) → IsLawful journal → length journal < 100000000 → (request : Request) → IsAskedOf journal household request → CallsAlike household caller seen → answer (own_at journal now caller) request ≡ answer (own_at (view household journal) now seen) request
by-callers journal household now caller seen lawful short request asked (CallsAlike.Same is) =
    same-caller journal household now caller lawful short request asked
    ∙ ap (λ c. answer (own_at (view household journal) now c) request) is
by-callers journal household now caller seen lawful short request asked (CallsAlike.Other other is apart stranger) =
    let accounts = accounts_of journal in
    let owner = owner-is (household_of accounts asked.0) household asked.2 in
    let off : owns accounts other asked.0 ≡ false =
    owners-agree accounts other asked.0 (no_account_twice journal lawful asked.0)
    ∙ (ap (λ found. option_map_or (λ own. own == other) found false) owner ∙ ne_eqb household other (λ same. apart (sym same))) in
    ap (λ c. answer (own_at journal now c) request) is
    ∙ (refused-right (own_at journal now (Caller.Household other)) asked.0 request asked.1 (may-other accounts other asked.0 off request asked.1)
    ∙ (sym (refused-right (own_at (view household journal) now Caller.Stranger) asked.0 request asked.1 refl)
    ∙ sym (ap (λ c. answer (own_at (view household journal) now c) request) stranger)))

-- ---- a batch of one line

-- the situation behind nothing more
behind-nothing : (journal : Journal) (now : ℕ) (caller : Caller) → situation_at (book_behind journal).table (journal ++ []) now caller ≡ own_at journal now caller
behind-nothing journal now caller =
    ap (λ known. situation_at (book_behind journal).table known now caller) (append-nil journal)
    ∙ ap (λ (book : Book). let s : Situation = record { journal = journal; book = book; now = now; caller = caller } in s) (book-same-again (table_of journal) journal)

-- what a batch of one line says, by the answer to it
abbrev pub batch_by : Bool → Answer → Result BatchAnswer Refusal
batch_by dealer said =
    cond dealer (Ok (record { replies = said.reply ∷ []; events = said.events })) (Err Refusal.NoRight)

pub one-line : (journal : Journal) (now : ℕ) (caller : Caller) (line : LineForm) → batch_answer (own_at journal now caller) (Ok (Ok (Request.Line line) ∷ [])) ≡ batch_by (is_dealer_caller caller) (answer (own_at journal now caller) (Request.Line line))
one-line journal now caller line =
    ap (λ s. batch_by (is_dealer_caller caller) (answer s (Request.Line line))) (behind-nothing journal now caller)

pub dealers-alike : (household : ℕ) (caller seen : Caller) → CallsAlike household caller seen → is_dealer_caller caller ≡ is_dealer_caller seen
dealers-alike household caller seen (CallsAlike.Same is) = ap is_dealer_caller is
dealers-alike household caller seen (CallsAlike.Other other is apart stranger) = ap is_dealer_caller is ∙ sym (ap is_dealer_caller stranger)
