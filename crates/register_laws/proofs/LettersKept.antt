-- What an open letter of a replay keeps in a book within limits.
use Rattle.std.proofs.Common.{All, None, Option, Some, [], arith, false, inl, inr, length, nat_le, subst, sym, take, ℕ, ◌+◌, ◌<◌, ◌==◌, ◌∙◌, ◌∷◌, ◌≡◌, ◌≤◌}
use Rattle.std.proofs.lemmas.Bool.{true≢false}
use Rattle.std.proofs.lemmas.Bool.Decides.{leb_tells}
use Rattle.std.proofs.lemmas.List.Elements.{All-cons, All-head, All-nil}
use Rattle.std.specs.Option.{option_map_or}
use Rattle.agent_events.specs.declared.order.Body.{Body}
use Rattle.agent_events.specs.declared.order.OrderRow.{OrderRow}
use Rattle.agent_events.specs.declared.request.ClassForm.{ClassForm}
use Rattle.forward_price.specs.PriceTables.{sheet_published}
use Rattle.forward_price.specs.declared.price_sheet.Sheet.{Sheet}
use Rattle.letter_of_intent.specs.Letters.{IsLetter, after_purchase, new_letter, note_of_purchase}
use Rattle.letter_of_intent.specs.declared.letter.Letter.{Letter}
use Rattle.money_units.proofs.RoundingFacts.{ceil-le}
use Rattle.offering_price.proofs.RateFacts.{bracket-ceiling}
use Rattle.offering_price.specs.Accumulation.{bracket}
use Rattle.register_laws.proofs.DayTurns.{Turn, position_asked, positions_put, reinvested, released, rows_done, with_letter_begun, with_letter_ended, with_lot_of, with_note_of, with_pieces_of}
use Rattle.register_laws.proofs.HouseholdCredit.{FoundAs, credit-few, found-as}
use Rattle.register_laws.proofs.OrdersInTurn.{rows-standing}
use Rattle.register_laws.proofs.RegistersKept.{at-last}
use Rattle.register_laws.proofs.RegistersStand.{Beside, KeptBeside, RegisterStands, all_put-all, beside, first-stands}
use Rattle.register_laws.proofs.ReplayTurns.{All-one, AnyKey, at_turn-kept, first-sheets, over-kept}
use Rattle.register_laws.proofs.Sums.{found-of}
use Rattle.register_laws.specs.ReplayKeeps.{AsksInRange, IsWithinLimits, KeepsLetter, OrderlyKeepsLetters, RowInRange, SheetInRange, TermsWithinLimits}
use Rattle.register_machine.specs.journal.Kinds.{class_numbered}
use Rattle.register_machine.specs.pricing.CorrectedBook.{Book, front_of}
use Rattle.register_machine.specs.pricing.OrderClasses.{class_of}
use Rattle.register_machine.specs.replay.Positions.{Position, Register, fresh_position, is_position, position_at, position_of}
use Rattle.register_machine.specs.replay.Purchase.{credit_of}
use Rattle.register_machine.specs.replay.Redemption.{position_less}
use Rattle.register_machine.specs.replay.Replay.{first_day}
use Rattle.register_machine.specs.replay.Trades.{Day}
use Rattle.share_lots.specs.Lots.{mils}

abbrev LetterOf : Position → Type 0
LetterOf x = KeepsLetter x.letter

looked_up-letter : (register : Register) (a c : ℕ) → All LetterOf register → KeepsLetter (position_of register a c).letter
looked_up-letter register a c all = found-of LetterOf (is_position a c) (fresh_position a c) tt register all

-- a noted purchase that doesn't reach the amount
noted-letter : (letter : Letter) (gross price mils : ℕ) → (note_of_purchase letter gross price mils).reached ≡ false → IsLetter letter → IsLetter (after_purchase letter gross price mils)
noted-letter letter gross price mils short is = record {
  some_amount = is.some_amount;
  amount = is.amount;
  rate = is.rate;
  rest = omega (arith, is.rest);
  start = is.start;
  short = below letter.amount (letter.bought + gross) short;
}
  where
    below : (a b : ℕ) → nat_le a b ≡ false → b < a
    below a b e = elim (leb_tells a b) [
      | inl (t, le) ↦ absurd (true≢false (sym t ∙ e))
      | inr (t, gt) ↦ omega (arith, gt)
    ]

rate-low : (book : Book) (class amount : ℕ) → All TermsWithinLimits book.classes → bracket (front_of book class) amount ≤ 850
rate-low book class amount terms =
    by (class_numbered book.classes class) (found-as TermsWithinLimits (λ other. other.class == class) book.classes terms)
  where
    by : (found : Option ClassForm) → FoundAs TermsWithinLimits found → bracket (option_map_or (λ terms. terms.front) found []) amount ≤ 850
    by None is = omega arith
    by (Some form) is = bracket-ceiling form.front amount is.front

-- the limits of a book and the range of its prices
abbrev Limits : Book → Type 0
Limits book = IsWithinLimits book × All SheetInRange book.table.sheets

begun-letter : (book : Book) (sheet : Sheet) (register : Register) (row : OrderRow) (amount : ℕ) → row.order.body ≡ Body.Letter (class_of row.order.body) amount → Limits book → RowInRange row → RegisterStands register → IsLetter (new_letter amount sheet.day (credit_of book sheet register row.order.account) (front_of book (position_asked register row).class))
begun-letter book sheet register row amount body within asks stand =
    let limits : AsksInRange (Body.Letter (class_of row.order.body) amount) = subst AsksInRange body asks in
    record {
      some_amount = limits.0;
      amount = limits.1;
      rate = rate-low book (position_asked register row).class amount within.0.terms;
      rest = ceil-le amount 20 50000000000 (omega arith) (omega (arith, limits.1));
      start = credit-few book sheet register row.order.account within.0 within.1 stand;
      short = omega (arith, limits.0);
    }

letters-of : (book : Book) (sheet : Sheet) (register : Register) (turn : Turn book sheet register) → Limits book → All RowInRange (rows_done book sheet register turn) → RegisterStands register → All LetterOf register → All LetterOf (positions_put book sheet register turn)
letters-of book sheet register Turn.Nothing within asks stand kept = All-nil LetterOf
letters-of book sheet register (Turn.Unfilled row why) within asks stand kept = All-nil LetterOf
letters-of book sheet register (Turn.Bought row gross split is none_open) within asks stand kept =
    All-one LetterOf (with_lot_of sheet (position_asked register row) gross split) (looked_up-letter register row.order.account (class_of row.order.body) kept)
letters-of book sheet register (Turn.Noted row gross split letter is so) within asks stand kept =
    let open_letter : IsLetter letter = subst KeepsLetter so.open_letter (looked_up-letter register row.order.account (class_of row.order.body) kept) in
    All-one LetterOf (with_note_of sheet (position_asked register row) gross split letter) (noted-letter letter gross split.price split.mils so.reaches open_letter)
letters-of book sheet register (Turn.Reached row gross split letter is so) within asks stand kept =
    All-one LetterOf (released (with_note_of sheet (position_asked register row) gross split letter)) tt
letters-of book sheet register (Turn.Sold row asked is) within asks stand kept =
    All-one LetterOf (position_less (position_asked register row) asked) (looked_up-letter register row.order.account (class_of row.order.body) kept)
letters-of book sheet register (Turn.Exchanged row to asked is) within asks stand kept =
    All-cons LetterOf (position_less (position_asked register row) asked) (with_pieces_of sheet register row to asked ∷ [])
    (looked_up-letter register row.order.account (class_of row.order.body) kept)
    (All-one LetterOf (with_pieces_of sheet register row to asked) (looked_up-letter register row.order.account to kept))
letters-of book sheet register (Turn.Elected row in_cash is) within asks stand kept =
    All-one LetterOf (record (position_asked register row) { in_cash = in_cash }) (looked_up-letter register row.order.account (class_of row.order.body) kept)
letters-of book sheet register (Turn.Begun row amount is) within asks stand kept =
    All-one LetterOf (with_letter_begun book sheet register row amount)
    (begun-letter book sheet register row amount is.body within (All-head RowInRange row [] asks) stand)
letters-of book sheet register (Turn.Paid key cash) within asks stand kept = All-nil LetterOf
letters-of book sheet register (Turn.Reinvested key cash mils room) within asks stand kept =
    All-one LetterOf (reinvested sheet (position_at register key) cash mils) (looked_up-letter register key.account key.class kept)
letters-of book sheet register (Turn.Ended key letter is) within asks stand kept =
    All-one LetterOf (with_letter_ended book sheet (position_at register key) letter) tt

letters-kept : (book : Book) → Limits book → KeptBeside book (λ sheet. RowInRange) (λ done day. All LetterOf day.register)
letters-kept book within sheet done day turn sheet_published asks stand kept =
    all_put-all LetterOf (positions_put book sheet day.register turn) day.register (letters-of book sheet day.register turn within asks stand kept) kept

pub keeps_letters : (book : Book) → OrderlyKeepsLetters book
keeps_letters book orderly within range =
    let keeps = beside book (λ sheet. RowInRange) (λ done day. All LetterOf day.register) (letters-kept book (within, range.prices)) in
    let known = λ (sheet : Sheet). rows-standing RowInRange book sheet range.letters in
    let first : Beside (λ done day. All LetterOf day.register) [] first_day = (first-stands, All-nil LetterOf) in
    let kept = λ (number : ℕ). (over-kept book (λ sheet. RowInRange) AnyKey (Beside (λ done day. All LetterOf day.register)) keeps known first (take number book.table.sheets) (first-sheets book number)).1 in
    record {
      up_to = kept;
      at_turn = λ turn. (at_turn-kept book (λ sheet. RowInRange) AnyKey (Beside (λ done day. All LetterOf day.register)) keeps known first turn).1;
      at_last = subst (λ (day : Day). All LetterOf day.register) (at-last book) (kept (length book.table.sheets));
    }
