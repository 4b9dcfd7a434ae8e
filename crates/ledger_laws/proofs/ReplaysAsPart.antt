-- A household's days by facts are its part of the replay, over all sheets and from any of them on.
use Rattle.std.proofs.Common.{List, Some, [], ap, arith, get_or, length, slice_get, suc, sym, take, unwrap_or, zero, ℕ, ◌+◌, ◌-◌, ◌<◌, ◌∙◌, ◌∷◌, ◌≡◌, ◌≤◌}
use Rattle.std.proofs.Math.Seq.{take-length}
use Rattle.std.proofs.lemmas.List.{take_more}
use Rattle.std.proofs.lemmas.Option.{slice_get-get_or}
use Rattle.std.proofs.lemmas.List.Sums.{fold-append}
use Rattle.forward_price.proofs.NumberFacts.{numbered_at}
use Rattle.forward_price.specs.PriceTables.{sheet_numbered}
use Rattle.forward_price.specs.declared.price_sheet.Sheet.{Sheet}
use Rattle.household_fold.specs.Facts.{Known, no_sheet}
use Rattle.checkpoint_replay.specs.Replays.{NumberedOrder, day_behind, days_behind, known_on, orders_under}
use Rattle.ledger_laws.proofs.StepsAsPart.{steps_as_part}
use Rattle.ledger_laws.specs.PartsByFacts.{AreFactsOf, AreRowsOf, FactsReplayPart, SheetsGiveFacts, StandsInOrder, orders_of_part}
use Rattle.register_laws.proofs.ReplayedAlone.{first-part, sheets-part}
use Rattle.register_laws.specs.Households.{is_of_household, part_of}
use Rattle.register_machine.specs.pricing.CorrectedBook.{Book}
use Rattle.register_machine.specs.replay.Replay.{day_after_sheet, first_day, priced_orders, replay, replay_over, replay_to}

-- every replay's register stands in order
pub replayed-in-order : (book : Book) (sheets : List Sheet) → StandsInOrder book sheets
replayed-in-order book sheets =
    (sheets-part book 0 sheets first_day first_day (first-part (is_of_household book.accounts 0))).in_order

-- a replay with one sheet more
pub one-sheet-more : (book : Book) (number : ℕ) (d : Sheet) → number < length book.table.sheets → replay_to book (number + 1) ≡ day_after_sheet book (priced_orders book) (replay_to book number) (get_or book.table.sheets number d)
one-sheet-more book number d short =
    let sheets = book.table.sheets in
    let step = day_after_sheet book (priced_orders book) in
    ap (replay_over book) (take_more sheets number d short)
    ∙ fold-append step first_day (take number sheets) (get_or sheets number d ∷ [])

-- a household's part with one sheet more
pub part-one-more : (known : Known) (book : Book) (household number : ℕ) (d : Sheet) → AreFactsOf known book → number < length book.table.sheets → part_of book.accounts household (replay_to book (number + 1)) ≡ day_behind (known_on known (number + 1)) (orders_of_part book household (get_or book.table.sheets number d)) (part_of book.accounts household (replay_to book number))
part-one-more known book household number d facts short =
    ap (part_of book.accounts household) (one-sheet-more book number d short)
    ∙ steps_as_part book (known_on known (number + 1)) household (get_or book.table.sheets number d) (replay_to book number) facts.alike (facts.at_hand number d short) (replayed-in-order book (take number book.table.sheets))

module _ (known : Known) (rows : List NumberedOrder) (book : Book) (household : ℕ) (facts : AreFactsOf known book) (are : AreRowsOf rows book household) where
  sheet-behind : (number : ℕ) → number < length book.table.sheets → part_of book.accounts household (replay_to book (number + 1)) ≡ day_behind (known_on known (number + 1)) (orders_under (number + 1) rows) (part_of book.accounts household (replay_to book number))
  sheet-behind number short =
      part-one-more known book household number no_sheet facts short
      ∙ ap (λ orders. day_behind (known_on known (number + 1)) orders (part_of book.accounts household (replay_to book number))) (sym (are.on_sheet number no_sheet short))

  pub days-from : (from count : ℕ) → from + count ≤ length book.table.sheets → part_of book.accounts household (replay_to book (from + count)) ≡ days_behind known rows from count (part_of book.accounts household (replay_to book from))
  days-from from zero within =
      let none : from + zero ≡ from = omega arith in
      ap (λ n. part_of book.accounts household (replay_to book n)) none
  days-from from (suc count) within =
      let next : from + suc count ≡ from + 1 + count = omega arith in
      ap (λ n. part_of book.accounts household (replay_to book n)) next
      ∙ (days-from (from + 1) count (omega (arith, within))
      ∙ ap (days_behind known rows (from + 1) count) (sheet-behind from (omega (arith, within))))

  pub days-first : (number : ℕ) → number ≤ length book.table.sheets → part_of book.accounts household (replay_to book number) ≡ days_behind known rows 0 number first_day
  days-first number within =
      let none : 0 + number ≡ number = omega arith in
      ap (λ n. part_of book.accounts household (replay_to book n)) (sym none) ∙ days-from 0 number (omega (arith, within))

  pub days-whole : part_of book.accounts household (replay book) ≡ days_behind known rows 0 (length book.table.sheets) first_day
  unfolding replay
  days-whole =
      ap (λ sheets. part_of book.accounts household (replay_over book sheets)) (sym (take-length book.table.sheets))
      ∙ days-first (length book.table.sheets) (omega arith)

pub replays_as_part : (known : Known) (rows : List NumberedOrder) (book : Book) (household : ℕ) → FactsReplayPart known rows book household
replays_as_part known rows book household facts are = record {
  from_any = days-from known rows book household facts are;
  from_first = days-first known rows book household facts are;
  whole = days-whole known rows book household facts are;
}

pub sheets_give_facts : (known : Known) (book : Book) → SheetsGiveFacts known book
sheets_give_facts known book alike same numbered = record {
  alike = alike;
  at_hand = λ place d short.
      let sheets = book.table.sheets in
      let before : place + 1 - 1 ≡ place = omega arith in
      let found : sheet_numbered sheets (place + 1) ≡ Some (get_or sheets place d) =
      sym (numbered_at sheets (place + 1) numbered (omega arith)) ∙ (ap (slice_get sheets) before ∙ slice_get-get_or sheets place d short) in
      ap (λ some. unwrap_or (sheet_numbered some (place + 1)) no_sheet) same ∙ ap (λ o. unwrap_or o no_sheet) found;
}
