-- The statement of an account: its trades on sheets dated within the period, in the order of execution, and its holdings
-- after the last sheet. Each line ends with a line feed.
use Rattle.std.specs.Option.{option_map_or}
use Rattle.std.specs.Prelude.{Bool, List, [], ℕ, ◌&&◌, ◌++◌, ◌+◌, ◌-◌, ◌==◌, ◌∷◌, codes, filter, flat_map, nat_le}
use Rattle.agent_events.specs.AnswerTexts.{day_text, list_text, state_text}
use Rattle.agent_events.specs.declared.reply.Reply.{Reply}
use Rattle.agent_events.specs.declared.request.StatementForm.{StatementForm}
use Rattle.money_units.specs.Texts.{money_text, number_text, shares_text}
use Rattle.share_lots.specs.Lots.{cost_total, held_total}
use Rattle.share_lots.specs.Values.{value_at}
use Rattle.register_machine.specs.corrections.Gains.{latest_nav}
use Rattle.register_machine.specs.journal.Kinds.{account_numbered, class_numbered}
use Rattle.register_machine.specs.pricing.CorrectedBook.{Book}
use Rattle.register_machine.specs.queries.Show.{positions_of}
use Rattle.register_machine.specs.queries.Trace.{state_by}
use Rattle.register_machine.specs.replay.Positions.{Position, mils_of}
use Rattle.register_machine.specs.replay.Replay.{replay}
use Rattle.agent_events.specs.declared.trade.Outcome.{Outcome}
use Rattle.agent_events.specs.declared.trade.Trade.{Trade}
use Rattle.agent_events.specs.declared.trade.TradeKind.{TradeKind}
use Rattle.register_machine.specs.replay.Trades.{Day}
use Rattle.register_machine.specs.rules.Situations.{Situation}

-- a line: its words with one space between them, and a line feed
abbrev pub line_text : List (List ℕ) → List ℕ
line_text words = list_text words ++ 10 ∷ []

-- a name and its value
abbrev pub reference_words : Trade → List (List ℕ)
reference_words trade = codes "ref" ∷ number_text trade.ref_no ∷ []

abbrev pub class_words : Trade → List (List ℕ)
class_words trade = codes "class" ∷ number_text trade.class ∷ []

abbrev pub buy_words : Trade → List (List ℕ)
buy_words trade =
    codes "buy" ∷ reference_words trade ++ class_words trade
    ++ codes "gross" ∷ money_text trade.cash ∷ codes "price" ∷ money_text trade.price ∷ codes "shares"
    ∷ shares_text trade.mils ∷ codes "charge" ∷ money_text trade.charge ∷ []

abbrev pub sell_words : Trade → List (List ℕ)
sell_words trade =
    codes "sell" ∷ reference_words trade ++ class_words trade
    ++ codes "shares" ∷ shares_text trade.mils ∷ codes "nav" ∷ money_text trade.price ∷ codes "value"
    ∷ money_text trade.cash ∷ codes "charge" ∷ money_text trade.charge ∷ codes "paid"
    ∷ money_text (trade.cash - trade.charge) ∷ []

abbrev pub exchange_words : Trade → List (List ℕ)
exchange_words trade =
    codes "exchange" ∷ reference_words trade ++ class_words trade
    ++ codes "shares" ∷ shares_text trade.mils ∷ codes "value" ∷ money_text trade.cash ∷ codes "to" ∷ codes "class"
    ∷ number_text trade.to_class ∷ codes "shares" ∷ shares_text trade.to_mils ∷ []

abbrev pub letter_words : Trade → List (List ℕ)
letter_words trade =
    codes "letter" ∷ reference_words trade ++ class_words trade ++ codes "amount" ∷ money_text trade.cash ∷ []

-- what was due is what was paid and what was waived
abbrev pub letter_end_words : Trade → List (List ℕ)
letter_end_words trade =
    codes "letter" ∷ codes "ended" ∷ class_words trade
    ++ codes "due" ∷ money_text (trade.cash + trade.charge) ∷ codes "shares" ∷ shares_text trade.mils ∷ codes "paid"
    ∷ money_text trade.cash ∷ codes "waived" ∷ money_text trade.charge ∷ []

abbrev pub dividend_words : Trade → List (List ℕ)
dividend_words trade =
    codes "dividend" ∷ class_words trade
    ++ codes "amount" ∷ money_text trade.cash ∷ codes "nav" ∷ money_text trade.price ∷ codes "shares"
    ∷ shares_text trade.mils ∷ []

abbrev pub filled_words : TradeKind → Trade → List (List ℕ)
filled_words TradeKind.Buy trade = buy_words trade
filled_words TradeKind.Sell trade = sell_words trade
filled_words TradeKind.Exchange trade = exchange_words trade
filled_words TradeKind.Letter trade = letter_words trade
filled_words TradeKind.LetterReached trade = codes "letter" ∷ codes "reached" ∷ class_words trade
filled_words TradeKind.LetterEnded trade = letter_end_words trade
filled_words TradeKind.ElectCash trade =
    codes "elect" ∷ reference_words trade ++ class_words trade ++ codes "cash" ∷ []
filled_words TradeKind.ElectShares trade =
    codes "elect" ∷ reference_words trade ++ class_words trade ++ codes "shares" ∷ []
filled_words TradeKind.DividendShares trade = dividend_words trade
filled_words TradeKind.DividendCash trade =
    codes "dividend" ∷ class_words trade ++ codes "amount" ∷ money_text trade.cash ∷ codes "cash" ∷ []

abbrev pub trade_words : Trade → Outcome → List (List ℕ)
trade_words trade Outcome.Filled = filled_words trade.kind trade
trade_words trade (Outcome.Unfilled why) =
    codes "unfilled" ∷ reference_words trade ++ class_words trade ++ state_text (state_by why) ∷ []

abbrev pub trade_line : Trade → List ℕ
trade_line trade = line_text (day_text trade.day ∷ trade_words trade trade.outcome)

-- the trades of the account dated within the period
abbrev pub is_in_period : StatementForm → Trade → Bool
is_in_period form trade =
    trade.account == form.account && (nat_le form.first trade.day && nat_le trade.day form.last)

-- the name of a class
abbrev pub name_of : Book → ℕ → List ℕ
name_of book class = option_map_or (λ terms. terms.name) (class_numbered book.classes class) []

abbrev pub holding_line : Book → Position → List ℕ
holding_line book position =
    let nav = latest_nav book.table.sheets position.class in
    line_text
    (codes "class" ∷ number_text position.class ∷ name_of book position.class ∷ codes "shares"
    ∷ shares_text (mils_of position.holding) ∷ codes "escrow" ∷ shares_text (held_total position.holding) ∷ codes "cost"
    ∷ money_text (cost_total position.holding) ∷ codes "nav" ∷ money_text nav ∷ codes "value"
    ∷ money_text (value_at nav (mils_of position.holding)) ∷ [])

abbrev pub heading : StatementForm → List ℕ → List ℕ
heading form name =
    line_text (codes "STATEMENT" ∷ number_text form.account ∷ name ∷ [])
    ++ line_text (codes "PERIOD" ∷ day_text form.first ∷ day_text form.last ∷ [])

abbrev pub statement_text : Book → StatementForm → List ℕ → Day → List ℕ
statement_text book form name day =
    heading form name ++ flat_map trade_line (filter (is_in_period form) day.trades) ++ line_text (codes "HOLDINGS" ∷ [])
    ++ flat_map (holding_line book) (positions_of day.register form.account) ++ line_text (codes "END" ∷ [])

abbrev pub account_name : Book → ℕ → List ℕ
account_name book account = option_map_or (λ form. form.name) (account_numbered book.accounts account) []

abbrev pub statement_reply : Situation → StatementForm → Reply
statement_reply situation form =
    Reply.Statement form.account
    (statement_text situation.book form (account_name situation.book form.account) (replay situation.book))
