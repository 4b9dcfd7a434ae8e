-- Changes that name each party and each class once come to no more than the trades of both replays move.
use Rattle.std.proofs.Common.{List, [], ap, arith, cond, count_by, get_or, negsuc, pos, refl, sum_by, sym, true, ℕ, ℤ, ◌*◌, ◌+◌, ◌-ℤ◌, ◌==◌, ◌∙◌, ◌∷◌, ◌≡◌, ◌≤◌}
use Rattle.std.proofs.lemmas.Bool.{eqb-true, true≢false}
use Rattle.std.proofs.lemmas.Int.{ints}
use Rattle.std.proofs.lemmas.List.Sums.{sum_by-append, sum_by-cons, sum_by-le-sum_by}
use Rattle.agent_events.specs.declared.order.Party.{Party}
use Rattle.agent_events.specs.declared.totals.CashChange.{CashChange}
use Rattle.agent_events.specs.declared.totals.Changes.{Changes}
use Rattle.agent_events.specs.declared.totals.MilsChange.{MilsChange}
use Rattle.agent_events.specs.declared.trade.Outcome.{Outcome}
use Rattle.agent_events.specs.declared.trade.Trade.{Trade}
use Rattle.agent_events.specs.declared.trade.TradeKind.{TradeKind}
use Rattle.gain_loss_book.specs.Booked.{AreDifferences}
use Rattle.gain_loss_book.specs.ClassGains.{size_of_mils}
use Rattle.gain_loss_book.specs.Flows.{fall, rise}
use Rattle.gain_loss_book.specs.Posted.{cents_moved, size_of_cash}
use Rattle.limit_laws.proofs.Counting.{counts-more, sum-within}
use Rattle.limit_laws.proofs.KeyedSums.{alone, key-sum}
use Rattle.limit_laws.specs.Moved.{cents_of, mils_by, mils_of}
use Rattle.limit_laws.specs.Posts.{DifferencesFit, NamesEachOnce}
use Rattle.register_laws.proofs.Comparisons.{eq-yes}
use Rattle.register_laws.proofs.Sums.{sum-plus}
use Rattle.register_laws.specs.Trades.{IsOutstandingByTrades}
use Rattle.register_machine.specs.corrections.Cash.{Movement, cents_paid, cents_received, movements_in, movements_of, outstanding, same_party}
use Rattle.register_machine.specs.replay.Movements.{if_filled, mils_brought, mils_brought_by}
use Rattle.register_machine.specs.replay.Trades.{Day}

-- ---- parties

same-back : (a b : Party) → same_party a b ≡ true → same_party b a ≡ true
same-back (Party.Holder a) (Party.Holder b) e = eq-yes b a (sym (eqb-true a b e))
same-back (Party.Class a) (Party.Class b) e = eq-yes b a (sym (eqb-true a b e))
same-back (Party.Dealer a) (Party.Dealer b) e = eq-yes b a (sym (eqb-true a b e))
same-back Party.Underwriter Party.Underwriter e = refl
same-back Party.Agent Party.Agent e = refl
same-back _ _ e = absurd (true≢false (sym e))

itself : (a : Party) → same_party a a ≡ true
itself (Party.Holder a) = eq-yes a a refl
itself (Party.Class a) = eq-yes a a refl
itself (Party.Dealer a) = eq-yes a a refl
itself Party.Underwriter = refl
itself Party.Agent = refl

-- ---- one row

-- a change is no larger than what it is the difference of
size-of : (c : ℤ) (received paid received_before paid_before : ℕ) → pos (rise c) -ℤ pos (fall c) ≡ (pos received -ℤ pos paid) -ℤ (pos received_before -ℤ pos paid_before) → rise c + fall c ≤ received + (paid + (received_before + paid_before))
size-of (pos n) received paid received_before paid_before e = omega (arith, ints, e)
size-of (negsuc n) received paid received_before paid_before e = omega (arith, ints, e)

size-between : (c : ℤ) (after before : ℕ) → pos (rise c) -ℤ pos (fall c) ≡ pos after -ℤ pos before → rise c + fall c ≤ after + before
size-between (pos n) after before e = omega (arith, ints, e)
size-between (negsuc n) after before e = omega (arith, ints, e)

-- ---- cash

pub cents-of_trades : (trades : List Trade) → cents_moved (movements_of trades) ≡ sum_by cents_of trades
cents-of_trades [] = refl
cents-of_trades (trade ∷ trades) =
    omega (arith, cents-of_trades trades, sum_by-append (λ (m : Movement). m.cents) (movements_in trade.outcome trade) (movements_of trades), sum_by-cons cents_of trade trades)

pub received-within : {Row : Type 0} (party : Row → Party) (rows : List Row) (movements : List Movement) → ((q : Party) → count_by (λ row. same_party (party row) q) rows ≤ 1) → sum_by (λ row. cents_received movements (party row)) rows ≤ cents_moved movements
received-within party rows movements once =
    key-sum (λ row (m : Movement). same_party m.taker (party row)) (λ (m : Movement). m.cents) rows movements
    (λ m. omega (arith, once m.taker, counts-more (λ row. same_party m.taker (party row)) (λ row. same_party (party row) m.taker) rows (λ k d short. same-back m.taker (party (get_or rows k d)))))

pub paid-within : {Row : Type 0} (party : Row → Party) (rows : List Row) (movements : List Movement) → ((q : Party) → count_by (λ row. same_party (party row) q) rows ≤ 1) → sum_by (λ row. cents_paid movements (party row)) rows ≤ cents_moved movements
paid-within party rows movements once =
    key-sum (λ row (m : Movement). same_party m.giver (party row)) (λ (m : Movement). m.cents) rows movements
    (λ m. omega (arith, once m.giver, counts-more (λ row. same_party m.giver (party row)) (λ row. same_party (party row) m.giver) rows (λ k d short. same-back m.giver (party (get_or rows k d)))))

-- what parties received and paid by movements before and behind, together
abbrev pub of_four : List Movement → List Movement → Party → ℕ
of_four before after party =
    cents_received after party + (cents_paid after party + (cents_received before party + cents_paid before party))

four-sums : {Row : Type 0} (party : Row → Party) (before after : List Movement) (rows : List Row) → sum_by (λ row. of_four before after (party row)) rows ≡ sum_by (λ row. cents_received after (party row)) rows + (sum_by (λ row. cents_paid after (party row)) rows + (sum_by (λ row. cents_received before (party row)) rows + sum_by (λ row. cents_paid before (party row)) rows))
four-sums party before after [] = refl
four-sums party before after (row ∷ rows) =
    omega (arith, four-sums party before after rows, sum_by-cons (λ r. of_four before after (party r)) row rows, sum_by-cons (λ r. cents_received after (party r)) row rows, sum_by-cons (λ r. cents_paid after (party r)) row rows, sum_by-cons (λ r. cents_received before (party r)) row rows, sum_by-cons (λ r. cents_paid before (party r)) row rows)

pub four-within : {Row : Type 0} (party : Row → Party) (before after : List Trade) (rows : List Row) → ((q : Party) → count_by (λ row. same_party (party row) q) rows ≤ 1) → sum_by (λ row. of_four (movements_of before) (movements_of after) (party row)) rows ≤ 2 * sum_by cents_of after + 2 * sum_by cents_of before
four-within party before after rows once =
    omega (arith, four-sums party (movements_of before) (movements_of after) rows, received-within party rows (movements_of after) once, paid-within party rows (movements_of after) once, received-within party rows (movements_of before) once, paid-within party rows (movements_of before) once, cents-of_trades before, cents-of_trades after)

cash-within : (changes : Changes) (before after : Day) → NamesEachOnce changes → AreDifferences changes before after → size_of_cash changes.cash ≤ 2 * sum_by cents_of after.trades + 2 * sum_by cents_of before.trades
cash-within changes before after names are =
    let rows = changes.cash in
    let first = movements_of before.trades in
    let then_moved = movements_of after.trades in
    let each = sum-within (λ (row : CashChange). rise row.cents + fall row.cents) (λ (row : CashChange). of_four first then_moved row.party) rows
    (λ k d short.
    let row = get_or rows k d in
    let own = λ (change : CashChange). same_party change.party row.party in
    let rises = alone own (λ (change : CashChange). rise change.cents) rows k d (names.parties row.party) short (itself row.party) in
    let falls = alone own (λ (change : CashChange). fall change.cents) rows k d (names.parties row.party) short (itself row.party) in
    let net = ap (λ n. pos n -ℤ pos (fall row.cents)) (sym rises) ∙ (ap (λ n. pos (sum_by (λ (change : CashChange). cond (own change) (rise change.cents) 0) rows) -ℤ pos n) (sym falls) ∙ are.cash row.party) in
    size-of row.cents (cents_received then_moved row.party) (cents_paid then_moved row.party) (cents_received first row.party) (cents_paid first row.party) net) in
    omega (arith, each, four-within (λ (row : CashChange). row.party) before.trades after.trades rows names.parties)

-- ---- shares

-- the class that a trade brings mils
abbrev class_brought : TradeKind → Trade → ℕ
class_brought TradeKind.Exchange trade = trade.to_class
class_brought _ trade = trade.class

brought-by : (kind : TradeKind) (class : ℕ) (trade : Trade) → mils_brought_by kind class trade ≤ cond (class_brought kind trade == class) (mils_by kind trade) 0
brought-by TradeKind.Buy class trade = omega arith
brought-by TradeKind.Exchange class trade = omega arith
brought-by TradeKind.DividendShares class trade = omega arith
brought-by _ class trade = omega arith

brought-in : (class : ℕ) (trade : Trade) → mils_brought class trade ≤ cond (class_brought trade.kind trade == class) (mils_of trade) 0
brought-in class trade =
    elim trade.outcome as (λ outcome. if_filled outcome (mils_brought_by trade.kind class trade) ≤ cond (class_brought trade.kind trade == class) (if_filled outcome (mils_by trade.kind trade)) 0) [
      | Outcome.Filled ↦ brought-by trade.kind class trade
      | Outcome.Unfilled why ↦ omega arith
    ]

pub mils-brought : {Row : Type 0} (class : Row → ℕ) (rows : List Row) (day : Day) → ((number : ℕ) → count_by (λ row. class row == number) rows ≤ 1) → ((number : ℕ) → IsOutstandingByTrades number day) → sum_by (λ row. outstanding day.register (class row)) rows ≤ sum_by mils_of day.trades
mils-brought {Row = Row} class rows day once shares =
    let own = λ (row : Row) (trade : Trade). class_brought trade.kind trade == class row in
    let each = sum_by-le-sum_by (λ row. outstanding day.register (class row)) (λ row. sum_by (λ (trade : Trade). cond (own row trade) (mils_of trade) 0) day.trades) rows
    (λ row. omega (arith, shares (class row), sum_by-le-sum_by (mils_brought (class row)) (λ (trade : Trade). cond (own row trade) (mils_of trade) 0) day.trades (brought-in (class row)))) in
    let all = key-sum own mils_of rows day.trades
    (λ trade. omega (
      arith,
      once (class_brought trade.kind trade),
      counts-more (λ row. own row trade) (λ row. class row == class_brought trade.kind trade) rows
          (λ k d short same. eq-yes (class (get_or rows k d)) (class_brought trade.kind trade) (sym (eqb-true (class_brought trade.kind trade) (class (get_or rows k d)) same))),
    )) in
    omega (arith, each, all)

mils-within : (changes : Changes) (before after : Day) → NamesEachOnce changes → AreDifferences changes before after → ((class : ℕ) → IsOutstandingByTrades class before) → ((class : ℕ) → IsOutstandingByTrades class after) → size_of_mils changes.outstanding ≤ sum_by mils_of after.trades + sum_by mils_of before.trades
mils-within changes before after names are shares_before shares_after =
    let rows = changes.outstanding in
    let each = sum-within (λ (row : MilsChange). rise row.mils + fall row.mils) (λ (row : MilsChange). outstanding after.register row.class + outstanding before.register row.class) rows
    (λ k d short.
    let row = get_or rows k d in
    let own = λ (change : MilsChange). change.class == row.class in
    let rises = alone own (λ (change : MilsChange). rise change.mils) rows k d (names.classes row.class) short (eq-yes row.class row.class refl) in
    let falls = alone own (λ (change : MilsChange). fall change.mils) rows k d (names.classes row.class) short (eq-yes row.class row.class refl) in
    let net = ap (λ n. pos n -ℤ pos (fall row.mils)) (sym rises) ∙ (ap (λ n. pos (sum_by (λ (change : MilsChange). cond (own change) (rise change.mils) 0) rows) -ℤ pos n) (sym falls) ∙ are.mils row.class) in
    size-between row.mils (outstanding after.register row.class) (outstanding before.register row.class) net) in
    let both = sum-plus (λ (row : MilsChange). outstanding after.register row.class) (λ (row : MilsChange). outstanding before.register row.class) (λ (row : MilsChange). outstanding after.register row.class + outstanding before.register row.class) (λ row. refl) rows in
    omega (arith, each, both, mils-brought (λ (row : MilsChange). row.class) rows after names.classes shares_after, mils-brought (λ (row : MilsChange). row.class) rows before names.classes shares_before)

pub differences_fit : (changes : Changes) (before after : Day) → DifferencesFit changes before after
differences_fit changes before after moved_before moved_after names are = record {
  cash = omega (arith, cash-within changes before after names are, moved_before.moves.cents, moved_after.moves.cents);
  mils = omega (arith, mils-within changes before after names are moved_before.shares moved_after.shares, moved_before.moves.mils, moved_after.moves.mils);
}
