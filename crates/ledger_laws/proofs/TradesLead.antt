-- The trades behind a sheet come first among all trades of a household.
use Rattle.std.proofs.Common.{Bool, List, [], ap, append-nil, append_assoc, drop, filter, fold, sym, take, take-append-drop, ℕ, ◌++◌, ◌∙◌, ◌∷◌, ◌≡◌}
use Rattle.std.proofs.Math.Seq.{take-append_seam}
use Rattle.std.proofs.lemmas.List.Elements.{filter-append}
use Rattle.std.proofs.lemmas.List.Sums.{fold-append}
use Rattle.agent_events.specs.declared.trade.Trade.{Trade}
use Rattle.forward_price.specs.declared.price_sheet.Sheet.{Sheet}
use Rattle.household_fold.specs.Households.{first_of}
use Rattle.ledger_laws.specs.KeptOfBooks.{TradesLead}
use Rattle.checkpoint_replay.specs.declared.states.KeptState.{KeptState}
use Rattle.ledger_laws.proofs.StepsAlone.{step-alone}
use Rattle.register_laws.specs.Households.{is_of_household, is_own_trade}
use Rattle.register_machine.specs.pricing.CorrectedBook.{Book}
use Rattle.register_machine.specs.replay.Replay.{Priced, day_after_sheet, first_day, orders_on, priced_orders, replay, replay_over, replay_to}
use Rattle.register_machine.specs.replay.Trades.{Day}

-- these trades come first, with some rest behind them
record Leads (first all : List Trade) : Type 0 where
  rest : List Trade
  whole : all ≡ first ++ rest

-- sheets only append trades
sheets-lead : (book : Book) (priced : List Priced) (sheets : List Sheet) (day : Day) → Leads day.trades (fold (day_after_sheet book priced) day sheets).trades
sheets-lead book priced [] day = record { rest = []; whole = sym (append-nil day.trades) }
sheets-lead book priced (sheet ∷ sheets) day =
    let later = sheets-lead book priced sheets (day_after_sheet book priced day sheet) in
    let own = (day_after_sheet book priced (first_of day.register) sheet).trades in
    record {
      rest = own ++ later.rest;
      whole =
          later.whole
          ∙ (ap (λ (after : Day). after.trades ++ later.rest) (step-alone book sheet (orders_on priced sheet) day)
          ∙ append_assoc day.trades own later.rest);
    }

-- so all trades of a replay begin with those up to a sheet
replay-leads : (book : Book) (number : ℕ) → Leads (replay_to book number).trades (replay book).trades
unfolding replay
replay-leads book number =
    let step = day_after_sheet book (priced_orders book) in
    let sheets = book.table.sheets in
    let later = sheets-lead book (priced_orders book) (drop number sheets) (replay_to book number) in
    let parts : replay_over book sheets ≡ fold step (replay_to book number) (drop number sheets) =
    ap (replay_over book) (sym (take-append-drop number sheets)) ∙ fold-append step first_day (take number sheets) (drop number sheets) in
    record { rest = later.rest; whole = ap (λ (day : Day). day.trades) parts ∙ later.whole }

pub trades_lead : (book : Book) (household : ℕ) (kept : KeptState) → TradesLead book household kept
trades_lead book household kept is =
    let own : Trade → Bool = is_own_trade (is_of_household book.accounts household) in
    let first = (replay_to book kept.sheet).trades in
    let leads = replay-leads book kept.sheet in
    let parts : filter own (replay book).trades ≡ filter own first ++ filter own leads.rest =
    ap (filter own) leads.whole ∙ filter-append own first leads.rest in
    ap (take kept.trades) parts
    ∙ (ap (λ n. take n (filter own first ++ filter own leads.rest)) is.counted
    ∙ take-append_seam (filter own first) (filter own leads.rest))
