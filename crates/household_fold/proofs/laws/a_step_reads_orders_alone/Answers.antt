-- The proof of the law `a_step_reads_orders_alone`.
use Rattle.std.proofs.Common.{List, [], map, refl, ◌∷◌, ◌≡◌}
use Rattle.agent_events.specs.declared.order.OrderRow.{OrderRow}
use Rattle.forward_price.specs.declared.price_sheet.Sheet.{Sheet}
use Rattle.household_fold.specs.Households.{orders_of, row_of}
use Rattle.register_machine.specs.pricing.CorrectedBook.{Book}
use Rattle.register_machine.specs.replay.DayStep.{day_after_order, day_after_orders, day_step}
use Rattle.register_machine.specs.replay.Dividend.{day_after_dividends}
use Rattle.register_machine.specs.replay.Letter.{day_after_letter_ends}
use Rattle.register_machine.specs.replay.Trades.{Day}
use Rattle.household_fold.proofs.laws.a_step_reads_orders_alone.Goals as goal

orders-alone : (book : Book) (sheet : Sheet) (rows : List OrderRow) (day : Day) → day_after_orders book sheet (map row_of (orders_of rows)) day ≡ day_after_orders book sheet rows day
orders-alone book sheet [] day = refl
orders-alone book sheet (row ∷ rows) day = orders-alone book sheet rows (day_after_order book sheet day row)

pub returns : goal.returns
unfolding day_step
returns c = λ book sheet rows day. orders-alone book sheet rows (day_after_letter_ends book sheet (day_after_dividends book sheet day))
