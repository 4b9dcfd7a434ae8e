-- What an open letter has bought: each turn adds what its trade pays there, and a letter that begins has bought nothing.
use Rattle.std.proofs.Common.{All, Bool, List, None, Option, Some, [], ap, append-nil, append_assoc, arith, cond, false, filter, get_or, refl, subst, sum_by, sym, true, ℕ, ◌&&◌, ◌++◌, ◌==◌, ◌∙◌, ◌∷◌, ◌≡◌}
use Rattle.std.proofs.lemmas.Bool.{and_from, and_parts, eqb-true, true≢false}
use Rattle.std.proofs.lemmas.List.Elements.{All-append, All-cons, All-filter, All-head, All-nil, All-push, All-tail, filter_passes}
use Rattle.std.proofs.lemmas.List.Sums.{sum_by-append, sum_by-cons, sum_by_push}
use Rattle.agent_events.specs.declared.order.OrderRow.{OrderRow}
use Rattle.forward_price.specs.declared.price_sheet.Sheet.{Sheet}
use Rattle.letter_of_intent.specs.Letters.{after_purchase}
use Rattle.letter_of_intent.specs.declared.letter.Letter.{Letter}
use Rattle.register_laws.proofs.Comparisons.{and-false, eq-yes}
use Rattle.register_laws.proofs.DayTurns.{Turn, bought_by, elected_by, exchanged_by, position_asked, positions_put, reached_by, reinvested, released, settled_by, sold_by, trade_of, trades_added, with_all_put, with_letter_begun, with_letter_ended, with_lot_of, with_note_of, with_pieces_of}
use Rattle.register_laws.proofs.PositionsInOrder.{not-before}
use Rattle.register_laws.proofs.ReplayTurns.{All-one, AnyKey, AnyRow, TurnsKeep, any-all}
use Rattle.register_laws.proofs.Sums.{found-of}
use Rattle.register_laws.specs.LettersBought.{IsBoughtIn, IsBoughtSince, IsBoughtWhereOpen, LettersAreBought, gross_by, gross_in, is_trade_of, turns_letter, turns_letter_in}
use Rattle.register_machine.proofs.FoundFacts.{own-account, own-class, put-all, same-place}
use Rattle.register_machine.specs.pricing.CorrectedBook.{Book}
use Rattle.register_machine.specs.pricing.OrderClasses.{class_of}
use Rattle.register_machine.specs.replay.Dividend.{cash_dividend_trade, dividend_trade}
use Rattle.register_machine.specs.replay.Letter.{letter_end_trade}
use Rattle.register_machine.specs.replay.Positions.{Position, Register, fresh_position, is_fresh, is_position, position_at, position_of, put, stands_before, unless_fresh}
use Rattle.register_machine.specs.replay.Redemption.{position_less}
use Rattle.agent_events.specs.declared.trade.Outcome.{Outcome}
use Rattle.agent_events.specs.declared.trade.Trade.{Trade}
use Rattle.agent_events.specs.declared.trade.TradeKind.{TradeKind}
use Rattle.register_machine.specs.replay.Trades.{Day, order_trade}
use Rattle.share_lots.specs.Lots.{shares_added, mils}

-- the trades of a turn are quiet for a place: no gross of it, and no letter of it begins or ends
record IsQuiet (account class : ℕ) (trade : Trade) : Type 0 where
  pub no_gross : gross_in account class trade ≡ 0
  pub no_turn : turns_letter_in account class trade ≡ false

-- where trades are quiet, what was bought stays so
bought-more : (trades shares_added : List Trade) (account class : ℕ) (letter : Option Letter) → All (IsQuiet account class) shares_added → IsBoughtWhereOpen trades account class letter → IsBoughtWhereOpen (trades ++ shares_added) account class letter
bought-more trades shares_added account class None quiet is = tt
bought-more trades shares_added account class (Some letter) quiet is = record {
  earlier = is.earlier;
  begun = is.begun;
  later = is.later ++ shares_added;
  all = ap (λ ts. ts ++ shares_added) is.all ∙ append_assoc is.earlier (is.begun ∷ is.later) shares_added;
  of_place = is.of_place;
  kind = is.kind;
  filled = is.filled;
  amount = is.amount;
  day = is.day;
  open_since = All-append (λ trade. turns_letter_in account class trade ≡ false) is.later shares_added is.open_since (λ k d short. (quiet k d short).no_turn);
  bought = omega (arith, is.bought, sum_by-append (gross_in account class) is.later shares_added, none shares_added quiet);
}
  where
    none : (ts : List Trade) → All (IsQuiet account class) ts → sum_by (gross_in account class) ts ≡ 0
    none [] all = refl
    none (t ∷ ts) all =
        let here = All-head (IsQuiet account class) t ts all in
        omega (arith, here.no_gross, sum_by-cons (gross_in account class) t ts, none ts (All-tail (IsQuiet account class) t ts all))

-- a trade that pays nothing and turns no letter is quiet everywhere
quiet-anywhere : (account class : ℕ) (trade : Trade) → gross_by trade.outcome trade.kind trade.cash ≡ 0 → turns_letter trade.outcome trade.kind ≡ false → IsQuiet account class trade
quiet-anywhere account class trade no_gross no_turn = record {
  no_gross = ap (λ n. cond (is_trade_of account class trade) n 0) no_gross ∙ nothing (is_trade_of account class trade);
  no_turn = and-false (is_trade_of account class trade) (turns_letter trade.outcome trade.kind) no_turn;
}
  where
    nothing : (b : Bool) → ◌≡◌ {A = ℕ} (cond b 0 0) 0
    nothing true = refl
    nothing false = refl

-- and one of another place is quiet here
quiet-elsewhere : (account class : ℕ) (trade : Trade) → is_trade_of account class trade ≡ false → IsQuiet account class trade
quiet-elsewhere account class trade away = record {
  no_gross = ap (λ b. cond b (gross_by trade.outcome trade.kind trade.cash) 0) away;
  no_turn = ap (λ b. b && turns_letter trade.outcome trade.kind) away;
}

-- a trade in a position's place
abbrev IsThere : Position → Trade → Type 0
IsThere p trade = (trade.account ≡ p.account) × (trade.class ≡ p.class)

not-there : (p x : Position) (trade : Trade) → IsThere p trade → is_position p.account p.class x ≡ false → is_trade_of x.account x.class trade ≡ false
not-there p x trade there away =
    elim (is_trade_of x.account x.class trade) as (λ b. is_trade_of x.account x.class trade ≡ b → b ≡ false) [
      | false ↦ λ e. refl
      | true ↦ λ e.
          let parts = and_parts (trade.account == x.account) (trade.class == x.class) e in
          let account : x.account ≡ p.account = sym (eqb-true trade.account x.account parts.0) ∙ there.0 in
          let class : x.class ≡ p.class = sym (eqb-true trade.class x.class parts.1) ∙ there.1 in
          absurd (true≢false (sym (and_from (x.account == p.account) (x.class == p.class) (eq-yes x.account p.account account) (eq-yes x.class p.class class)) ∙ away))
    ] refl

-- ---- positions that are put

-- the others in the register stand in other places
put-others : (P Q : Position → Type 0) (p : Position) (register : Register) → ((x : Position) → is_position p.account p.class x ≡ false → P x → Q x) → Q p → All P register → All Q (put p register)
put-others P Q p register others here all =
    let before = filter (λ other. stands_before other p) register in
    let behind = filter (λ other. stands_before p other) register in
    let are_before = filter_passes (λ other. stands_before other p) register in
    let are_behind = filter_passes (λ other. stands_before p other) register in
    let all_before = All-filter (λ other. stands_before other p) P register all in
    let all_behind = All-filter (λ other. stands_before p other) P register all in
    All-append Q (before ++ unless_fresh p) behind
    (All-append Q before (unless_fresh p)
    (λ k d short. let x = get_or before k d in others x (away-first x (are_before k d short)) (all_before k d short)) own)
    (λ k d short. let x = get_or behind k d in others x (away-later x (are_behind k d short)) (all_behind k d short))
  where
    own : All Q (unless_fresh p)
    own = elim (is_fresh p) as (λ b. All Q (cond b [] (p ∷ []))) [
      | true ↦ All-nil Q
      | false ↦ All-cons Q p [] here (All-nil Q)
    ]

    away-first : (x : Position) → stands_before x p ≡ true → is_position p.account p.class x ≡ false
    away-first x first = elim (is_position p.account p.class x) as (λ b. is_position p.account p.class x ≡ b → b ≡ false) [
      | false ↦ λ e. refl
      | true ↦ λ e. let is = same-place p.account p.class x e in absurd (true≢false (sym first ∙ not-before x p is.0 is.1))
    ] refl

    away-later : (x : Position) → stands_before p x ≡ true → is_position p.account p.class x ≡ false
    away-later x later = elim (is_position p.account p.class x) as (λ b. is_position p.account p.class x ≡ b → b ≡ false) [
      | false ↦ λ e. refl
      | true ↦ λ e. let is = same-place p.account p.class x e in absurd (true≢false (sym later ∙ not-before p x (sym is.0) (sym is.1)))
    ] refl

-- one position with trades in its place
one-bought : (trades shares_added : List Trade) (p : Position) (register : Register) → All (IsThere p) shares_added → IsBoughtIn (trades ++ shares_added) p → All (IsBoughtIn trades) register → All (IsBoughtIn (trades ++ shares_added)) (put p register)
one-bought trades shares_added p register there here all =
    put-others (IsBoughtIn trades) (IsBoughtIn (trades ++ shares_added)) p register
    (λ x away is. bought-more trades shares_added x.account x.class x.letter
    (λ k d short. quiet-elsewhere x.account x.class (get_or shares_added k d) (not-there p x (get_or shares_added k d) (there k d short) away)) is)
    here all

-- a position whose letter stays, with a trade that is quiet everywhere
quiet-bought : (trades : List Trade) (trade : Trade) (register : Register) → gross_by trade.outcome trade.kind trade.cash ≡ 0 → turns_letter trade.outcome trade.kind ≡ false → All (IsBoughtIn trades) register → All (IsBoughtIn (trades ++ trade ∷ [])) register
quiet-bought trades trade register no_gross no_turn all k d short =
    let x = get_or register k d in
    bought-more trades (trade ∷ []) x.account x.class x.letter (All-one (IsQuiet x.account x.class) trade (quiet-anywhere x.account x.class trade no_gross no_turn)) (all k d short)

looked_up-bought : (trades : List Trade) (register : Register) (a c : ℕ) → All (IsBoughtIn trades) register → IsBoughtIn trades (position_of register a c)
looked_up-bought trades register a c all =
    found-of (IsBoughtIn trades) (is_position a c) (fresh_position a c) tt register all

-- one position looked up, in whose letter nothing changes, with a trade that is quiet everywhere
same-bought : (trades : List Trade) (trade : Trade) (register : Register) (a c : ℕ) (p : Position) → p.account ≡ (position_of register a c).account → p.class ≡ (position_of register a c).class → p.letter ≡ (position_of register a c).letter → gross_by trade.outcome trade.kind trade.cash ≡ 0 → turns_letter trade.outcome trade.kind ≡ false → All (IsBoughtIn trades) register → All (IsBoughtIn (trades ++ trade ∷ [])) (put p register)
same-bought trades trade register a c p account class letter no_gross no_turn all =
    let more = quiet-bought trades trade register no_gross no_turn all in
    put-all (IsBoughtIn (trades ++ trade ∷ [])) p register
    (rw (account, class, letter) (looked_up-bought (trades ++ trade ∷ []) register a c more)) more

-- ---- the turns

-- the trade of an order is in the place of its position
row-there : (register : Register) (row : OrderRow) (p : Position) (trade : Trade) → p.account ≡ (position_asked register row).account → p.class ≡ (position_asked register row).class → trade.account ≡ row.order.account → trade.class ≡ class_of row.order.body → IsThere p trade
row-there register row p trade account class own_account own_class = (
  own_account ∙ sym (account ∙ own-account register row.order.account (class_of row.order.body)),
  own_class ∙ sym (class ∙ own-class register row.order.account (class_of row.order.body)),
)

elected-quiet : (sheet : Sheet) (row : OrderRow) (in_cash : Bool) → (gross_by (elected_by sheet row in_cash).outcome (elected_by sheet row in_cash).kind (elected_by sheet row in_cash).cash ≡ 0) × (turns_letter (elected_by sheet row in_cash).outcome (elected_by sheet row in_cash).kind ≡ false)
elected-quiet sheet row true = (refl, refl)
elected-quiet sheet row false = (refl, refl)

-- a purchase is noted
noted-since : (trades : List Trade) (account class : ℕ) (letter : Letter) (gross price mils : ℕ) (trade : Trade) → is_trade_of account class trade ≡ true → trade.outcome ≡ Outcome.Filled → trade.kind ≡ TradeKind.Buy → trade.cash ≡ gross → IsBoughtSince trades account class letter → IsBoughtSince (trades ++ trade ∷ []) account class (after_purchase letter gross price mils)
noted-since trades account class letter gross price mils trade there filled kind cash is = record {
  earlier = is.earlier;
  begun = is.begun;
  later = is.later ++ trade ∷ [];
  all = ap (λ ts. ts ++ trade ∷ []) is.all ∙ append_assoc is.earlier (is.begun ∷ is.later) (trade ∷ []);
  of_place = is.of_place;
  kind = is.kind;
  filled = is.filled;
  amount = is.amount;
  day = is.day;
  open_since = All-push (λ t. turns_letter_in account class t ≡ false) is.later trade is.open_since
      (and-false (is_trade_of account class trade) (turns_letter trade.outcome trade.kind) (rw (filled, kind) refl));
  bought = omega (arith, is.bought, own, sum_by_push (gross_in account class) is.later trade);
}
  where
    own : gross_in account class trade ≡ gross
    own = rw (there, filled, kind) cash

turn-bought : (book : Book) (sheet : Sheet) (day : Day) (turn : Turn book sheet day.register) → All (IsBoughtIn day.trades) day.register → All (IsBoughtIn (day.trades ++ trades_added book sheet day.register turn)) (with_all_put (positions_put book sheet day.register turn) day.register)
turn-bought book sheet day Turn.Nothing all = rw (append-nil day.trades) all
turn-bought book sheet day (Turn.Unfilled row why) all =
    quiet-bought day.trades (record (trade_of sheet row) { outcome = Outcome.Unfilled why }) day.register refl refl all
turn-bought book sheet day (Turn.Bought row gross split is none_open) all =
    let x = position_asked day.register row in
    let p = with_lot_of sheet x gross split in
    let trade = bought_by sheet row gross split in
    one-bought day.trades (trade ∷ []) p day.register
    (All-one (IsThere p) trade (row-there day.register row p trade refl refl refl refl))
    (subst (IsBoughtWhereOpen (day.trades ++ trade ∷ []) x.account x.class) (sym none_open) tt) all
turn-bought book sheet day (Turn.Noted row gross split letter is so) all =
    let x = position_asked day.register row in
    let p = with_note_of sheet x gross split letter in
    let trade = bought_by sheet row gross split in
    let there = row-there day.register row p trade refl refl refl refl in
    one-bought day.trades (trade ∷ []) p day.register (All-one (IsThere p) trade there)
    (noted-since day.trades x.account x.class letter gross split.price split.mils trade
    (and_from (trade.account == x.account) (trade.class == x.class) (eq-yes trade.account x.account there.0) (eq-yes trade.class x.class there.1)) refl refl refl
    (subst (IsBoughtWhereOpen day.trades x.account x.class) so.open_letter (looked_up-bought day.trades day.register row.order.account (class_of row.order.body) all))) all
turn-bought book sheet day (Turn.Reached row gross split letter is so) all =
    let x = position_asked day.register row in
    let p = released (with_note_of sheet x gross split letter) in
    let trade = bought_by sheet row gross split in
    one-bought day.trades (trade ∷ reached_by sheet day.register row ∷ []) p day.register
    (All-cons (IsThere p) trade (reached_by sheet day.register row ∷ []) (row-there day.register row p trade refl refl refl refl)
    (All-one (IsThere p) (reached_by sheet day.register row) (refl, refl))) tt all
turn-bought book sheet day (Turn.Sold row asked is) all =
    same-bought day.trades (sold_by book sheet day.register row asked) day.register row.order.account (class_of row.order.body)
    (position_less (position_asked day.register row) asked) refl refl refl refl refl all
turn-bought book sheet day (Turn.Exchanged row to asked is) all =
    let trade = exchanged_by sheet day.register row to asked in
    let t = position_of day.register row.order.account to in
    let more = quiet-bought day.trades trade day.register refl refl all in
    put-all (IsBoughtIn (day.trades ++ trade ∷ [])) (with_pieces_of sheet day.register row to asked) (put (position_less (position_asked day.register row) asked) day.register)
    (looked_up-bought (day.trades ++ trade ∷ []) day.register row.order.account to more)
    (same-bought day.trades trade day.register row.order.account (class_of row.order.body)
    (position_less (position_asked day.register row) asked) refl refl refl refl refl all)
turn-bought book sheet day (Turn.Elected row in_cash is) all =
    let quiet = elected-quiet sheet row in_cash in
    same-bought day.trades (elected_by sheet row in_cash) day.register row.order.account (class_of row.order.body)
    (record (position_asked day.register row) { in_cash = in_cash }) refl refl refl quiet.0 quiet.1 all
turn-bought book sheet day (Turn.Begun row amount is) all =
    let x = position_asked day.register row in
    let p = with_letter_begun book sheet day.register row amount in
    let trade = record (order_trade sheet row.order TradeKind.Letter) { cash = amount } in
    let there = row-there day.register row p trade refl refl refl refl in
    one-bought day.trades (trade ∷ []) p day.register (All-one (IsThere p) trade there)
    (record {
      earlier = day.trades;
      begun = trade;
      later = [];
      all = refl;
      of_place = and_from (trade.account == x.account) (trade.class == x.class) (eq-yes trade.account x.account there.0) (eq-yes trade.class x.class there.1);
      kind = refl;
      filled = refl;
      amount = refl;
      day = refl;
      open_since = All-nil (λ t. turns_letter_in x.account x.class t ≡ false);
      bought = refl;
    }) all
turn-bought book sheet day (Turn.Paid key cash) all =
    quiet-bought day.trades (cash_dividend_trade sheet (position_at day.register key) cash) day.register refl refl all
turn-bought book sheet day (Turn.Reinvested key cash mils room) all =
    same-bought day.trades (dividend_trade sheet (position_at day.register key) cash mils) day.register key.account key.class
    (reinvested sheet (position_at day.register key) cash mils) refl refl refl refl refl all
turn-bought book sheet day (Turn.Ended key letter is) all =
    let x = position_at day.register key in
    let p = with_letter_ended book sheet x letter in
    let trade = letter_end_trade sheet x (settled_by book sheet x letter) in
    one-bought day.trades (trade ∷ []) p day.register (All-one (IsThere p) trade (refl, refl)) tt all

pub turns-bought : (book : Book) → TurnsKeep book AnyRow AnyKey (λ done day. LettersAreBought day)
turns-bought book = record {
  keys = λ done day kept. any-all day.register;
  turn = λ sheet done day turn published rows keys kept. turn-bought book sheet day turn kept;
}
