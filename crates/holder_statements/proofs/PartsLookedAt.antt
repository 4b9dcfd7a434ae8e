-- What is looked for in a household's part is found there as in the whole.
use Rattle.std.proofs.Common.{List, Option, ap, cond, map, not, length, subst, sym, true, ℕ, ◌==◌, ◌∙◌, ◌≡◌}
use Rattle.std.proofs.lemmas.Bool.{and_parts, eqb-true}
use Rattle.std.specs.Option.{option_map_or}
use Rattle.agent_events.specs.declared.order.OrderRow.{OrderRow}
use Rattle.agent_events.specs.declared.reply.OrderState.{OrderState}
use Rattle.agent_events.specs.declared.reply.Refusal.{Refusal}
use Rattle.agent_events.specs.declared.reply.Reply.{Reply}
use Rattle.agent_events.specs.declared.request.AccountForm.{AccountForm}
use Rattle.agent_events.specs.declared.request.TraceForm.{TraceForm}
use Rattle.agent_events.specs.declared.trade.Trade.{Trade}
use Rattle.holder_statements.specs.HouseholdLooks.{ShowsByPart, TracesByPart, part_in}
use Rattle.holder_statements.specs.OrderTraces.{trace_among, trade_among}
use Rattle.household_positions.proofs.ListParts.{filter-within}
use Rattle.register_laws.proofs.ListParts.{found-within}
use Rattle.register_laws.specs.Households.{is_of_household, is_own_position, is_own_trade}
use Rattle.register_machine.specs.pricing.CorrectedBook.{Book, due_moment}
use Rattle.register_machine.specs.queries.Show.{is_shown, position_text}
use Rattle.register_machine.specs.queries.Trace.{bare_trace, trace_by, trace_of_row}
use Rattle.register_machine.specs.replay.Positions.{Position}
use Rattle.register_machine.specs.replay.Replay.{replay}
use Rattle.register_machine.specs.rules.Breaks.{is_trade_of}
use Rattle.register_machine.specs.rules.Situations.{Situation}
use Rattle.std.specs.Prelude.{unwrap_or}

own-position : (accounts : List AccountForm) (household account : ℕ) → is_of_household accounts household account ≡ true → (p : Position) → is_shown account p ≡ true → is_own_position (is_of_household accounts household) p ≡ true
own-position accounts household account of p shown =
    let same = eqb-true p.account account (and_parts (p.account == account) (not (length p.holding.lots == 0)) shown).0 in
    subst (λ n. is_of_household accounts household n ≡ true) (sym same) of

own-trade : (accounts : List AccountForm) (household account ref_no : ℕ) → is_of_household accounts household account ≡ true → (t : Trade) → is_trade_of account ref_no t ≡ true → is_own_trade (is_of_household accounts household) t ≡ true
own-trade accounts household account ref_no of t is =
    let same = eqb-true t.account account (and_parts (t.account == account) (t.ref_no == ref_no) is).0 in
    subst (λ n. is_of_household accounts household n ≡ true) (sym same) of

pub shows_by_part : (situation : Situation) (household account : ℕ) → ShowsByPart situation household account
shows_by_part situation household account of =
    let book = situation.book in
    ap (λ ps. Reply.Show account (map position_text ps))
    (filter-within (is_own_position (is_of_household book.accounts household)) (is_shown account) (own-position book.accounts household account of) (replay book).register)

pub found-in_part : (book : Book) (household : ℕ) (row : OrderRow) → is_of_household book.accounts household row.order.account ≡ true → trade_among (part_in book household).trades row ≡ trade_among (replay book).trades row
found-in_part book household row of =
    found-within (is_own_trade (is_of_household book.accounts household)) (is_trade_of row.order.account row.order.ref_no)
    (own-trade book.accounts household row.order.account row.order.ref_no of) (replay book).trades

-- what became of an order by its household's trades is what became of it by all
pub traced-in_part : (book : Book) (household : ℕ) (row : OrderRow) → is_of_household book.accounts household row.order.account ≡ true → trace_among book (part_in book household).trades row ≡ trace_of_row book row
traced-in_part book household row of =
    ap (λ (found : Option Trade). cond row.struck (bare_trace row OrderState.Struck (unwrap_or (due_moment book row) 0)) (trace_by book row found)) (found-in_part book household row of)

pub traces_by_part : (situation : Situation) (household : ℕ) (form : TraceForm) (row : OrderRow) → TracesByPart situation household form row
traces_by_part situation household form row named of =
    let book = situation.book in
    ap Reply.Trace (traced-in_part book household row of)
    ∙ sym (ap (λ (found : Option OrderRow). option_map_or (λ (r : OrderRow). Reply.Trace (trace_of_row book r)) found (Reply.Refused (Refusal.NoSuch 2))) named)
