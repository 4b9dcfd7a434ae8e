-- What a look reads of one household's part of the day is what the definitions read of the whole.
use Rattle.std.specs.Prelude.{All, Some, false, true, ℕ, ◌<◌, ◌≡◌}
use Rattle.agent_events.specs.declared.order.OrderRow.{OrderRow}
use Rattle.agent_events.specs.declared.reply.Reply.{Reply}
use Rattle.agent_events.specs.declared.request.TraceForm.{TraceForm}
use Rattle.holder_statements.specs.AccountPositions.{AreListedOf, AreRising, reply_of_holdings}
use Rattle.holder_statements.specs.OrderTraces.{IsFoundOn, NeverFall, trace_among}
use Rattle.household_positions.specs.Register.{AreInOrder}
use Rattle.register_laws.specs.Households.{is_of_household, part_of}
use Rattle.register_laws.specs.Lawful.{book_behind}
use Rattle.register_machine.specs.corrections.Gains.{class_numbers_of}
use Rattle.register_machine.specs.journal.Journals.{Journal}
use Rattle.register_machine.specs.journal.Lawful.{IsLawful}
use Rattle.register_machine.specs.pricing.CorrectedBook.{Book}
use Rattle.register_machine.specs.pricing.CorrectedOrders.{order_named}
use Rattle.register_machine.specs.queries.Show.{show_reply}
use Rattle.register_machine.specs.queries.Trace.{trace_reply}
use Rattle.register_machine.specs.replay.Replay.{replay}
use Rattle.register_machine.specs.replay.Trades.{Day}
use Rattle.register_machine.specs.rules.Situations.{Situation}

-- the part of a household of a book's whole day
abbrev pub part_in : Book → ℕ → Day
part_in book household = part_of book.accounts household (replay book)

-- An account holds by its household's part what it holds by the whole register.
abbrev pub ShowsByPart : Situation → ℕ → ℕ → Type 0
ShowsByPart situation household account =
    is_of_household situation.book.accounts household account ≡ true
    → reply_of_holdings (part_in situation.book household).register account ≡ show_reply situation account

-- What became of an order by its household's trades is what became of it by all.
abbrev pub TracesByPart : Situation → ℕ → TraceForm → OrderRow → Type 0
TracesByPart situation household form row =
    order_named situation.book.orders form.account form.ref_no ≡ Some row
    → is_of_household situation.book.accounts household row.order.account ≡ true
    → Reply.Trace (trace_among situation.book (part_in situation.book household).trades row) ≡ trace_reply situation form

-- an order of the household that stands and has a reference has its trade on the sheet of its next price
abbrev pub IsFoundInPart : Book → ℕ → OrderRow → Type 0
IsFoundInPart book household row =
    is_of_household book.accounts household row.order.account ≡ true → 0 < row.order.ref_no → row.struck ≡ false
    → IsFoundOn book.table.sheets (part_in book household).trades row

-- A household's part of a lawful journal's day is as the looks want it: its positions stand by account and class, its trades
-- never fall by sheet, and each of its orders has its trade on its sheet.
pub record IsFitForLooks (book : Book) (household : ℕ) : Type 0 where
  pub in_order : AreInOrder (part_in book household).register
  pub never_fall : NeverFall (part_in book household).trades
  pub found : All (IsFoundInPart book household) book.orders

abbrev pub LawfulIsFitForLooks : Journal → ℕ → Type 0
LawfulIsFitForLooks journal household = IsLawful journal → IsFitForLooks (book_behind journal) household

-- The classes of a lawful journal come by rising number, and each class in which an account of the household has a position
-- is one of them.
pub record ListsHoldings (journal : Journal) (household : ℕ) : Type 0 where
  pub rise : AreRising (class_numbers_of journal)
  pub listed : (account : ℕ) → AreListedOf account (class_numbers_of journal) (part_in (book_behind journal) household).register

abbrev pub LawfulListsHoldings : Journal → ℕ → Type 0
LawfulListsHoldings journal household = IsLawful journal → ListsHoldings journal household
