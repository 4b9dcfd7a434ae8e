-- In a lawful journal every household's part is as the looks want it.
use Rattle.std.proofs.Common.{ap, cond, true, ℕ, ◌≤◌, ◌∙◌, ◌≡◌}
use Rattle.std.proofs.lemmas.List.Elements.{All-weaker}
use Rattle.std.proofs.lemmas.List.Kept.{AllPairs-filter}
use Rattle.std.specs.Prelude.{None, Option, option_map}
use Rattle.agent_events.specs.declared.order.OrderRow.{OrderRow}
use Rattle.agent_events.specs.declared.trade.Trade.{Trade}
use Rattle.holder_statements.proofs.PartsLookedAt.{found-in_part}
use Rattle.holder_statements.proofs.TradesBySheet.{replay-never_falls}
use Rattle.holder_statements.specs.HouseholdLooks.{IsFoundInPart, LawfulIsFitForLooks}
use Rattle.register_laws.proofs.LawfulReplaysKept.{has_a_lawful_book}
use Rattle.register_laws.proofs.OneTradeAnOrder.{traded_once}
use Rattle.register_laws.proofs.RegistersKept.{keeps_registers}
use Rattle.register_laws.proofs.TablesAreOrderly.{numbered}
use Rattle.register_laws.specs.Households.{is_of_household, is_own_position, is_own_trade}
use Rattle.register_laws.specs.Lawful.{book_behind}
use Rattle.register_laws.specs.Priced.{IsFoundOnItsSheet}
use Rattle.register_machine.specs.journal.Journals.{Journal}
use Rattle.register_machine.specs.pricing.CorrectedBook.{Book}
use Rattle.register_machine.specs.replay.Positions.{Position, stands_before}
use Rattle.register_machine.specs.replay.Replay.{priced_in, replay}

found-there : (book : Book) (household : ℕ) (row : OrderRow) → IsFoundOnItsSheet book row → IsFoundInPart book household row
found-there book household row found of above standing =
    ap (λ (trade : Option Trade). option_map (λ t. t.sheet) trade) (found-in_part book household row of)
    ∙ (found above ∙ ap (λ b. cond b None (priced_in book.table.sheets row).sheet) standing)

pub fit_for_looks : (journal : Journal) (household : ℕ) → LawfulIsFitForLooks journal household
fit_for_looks journal household lawful =
    let book = book_behind journal in
    record {
      in_order = AllPairs-filter (λ (a b : Position). stands_before a b ≡ true) (is_own_position (is_of_household book.accounts household)) (replay book).register (keeps_registers book (has_a_lawful_book journal lawful).orderly).at_last.in_order;
      never_fall = AllPairs-filter (λ (a b : Trade). a.sheet ≤ b.sheet) (is_own_trade (is_of_household book.accounts household)) (replay book).trades (replay-never_falls book (numbered journal lawful).corrected);
      found = All-weaker (IsFoundOnItsSheet book) (IsFoundInPart book household) (λ row is. found-there book household row is) book.orders (traded_once journal lawful).found;
    }
