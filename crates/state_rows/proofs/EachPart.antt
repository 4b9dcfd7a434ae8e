-- Each part of a checkpoint row is exact, and so is the whole row.
use Rattle.std.proofs.Common.{◌≡◌, ℕ, ◌<◌, true, eqb, List, [], ◌∷◌, ◌++◌, length, Option, Some, None, refl, sym, ap, subst, ◌∙◌, arith}
use Rattle.std.specs.Cmp.Derive.{both_true}
use Rattle.std.specs.List.{list_all, AllByRecursion}
use Rattle.std.proofs.lemmas.Bool.{eqb-true, le-leb}
use Rattle.std.proofs.lemmas.List.{append-nil}
use Rattle.std.proofs.lemmas.Option.{same_Some}
use Rattle.agent_events.specs.declared.checkpoint.LetterRow.{LetterRow}
use Rattle.agent_events.specs.declared.checkpoint.PositionRow.{PositionRow}
use Rattle.agent_events.specs.declared.checkpoint.StateRow.{StateRow}
use Rattle.event_rows.specs.Exact.{IsBytes, IsField}
use Rattle.event_rows.specs.FieldReading.{byte_at}
use Rattle.event_rows.specs.Spelling.{four_bytes, list_bytes}
use Rattle.event_rows.proofs.Fields.{IsBytes-rest, read_some, map_some, both, shaped, tested, byte_takes, whole_some, tagged, chosen}
use Rattle.event_rows.proofs.EachField.{respelled, four_field, eight_field, sixteen_field, flag_field, day_field, rate_field, listed_field}
use Rattle.state_rows.specs.InForm.{IsLotRow, IsLetterRow, IsOpenLetter, IsPositionRow, IsKept, fits_lots, fits_lists}
use Rattle.state_rows.specs.Rows.{lot, letter, open_letter, position, state_row}
use Rattle.state_rows.specs.Rules.{keeps_rules}
use Rattle.state_rows.specs.Reading.{lot_of, lot_at, letter_of, letter_at, open_letter_behind, open_letter_at, position_of, position_at, state_of, state_at, version_behind, versioned_at, state_of_row}

lot_field : IsField lot IsLotRow lot_at
unfolding lot lot_at
lot_field = shaped lot_of (λ row. (row.number, (row.day, (row.loose, (row.held, (row.cost, row.free)))))) (λ row fits. refl) (λ x fits. refl)
    (both four_field (both day_field (both eight_field (both eight_field (both eight_field flag_field)))))

letter_field : IsField letter IsLetterRow letter_at
unfolding letter letter_at
letter_field = shaped letter_of (λ row. (row.amount, (row.day, (row.start, (row.rate, (row.rest, row.bought)))))) (λ row fits. refl) (λ x fits. refl)
    (both eight_field (both day_field (both sixteen_field (both rate_field (both eight_field eight_field)))))

-- ---- the letter behind its flag

letter_tag : Option LetterRow → ℕ
letter_tag None = 0
letter_tag (Some row) = 1

letter_rest : Option LetterRow → List ℕ
letter_rest None = []
letter_rest (Some row) = letter row

abbrev From : ℕ → List ℕ → Option LetterRow → List ℕ → Type 0
From n bytes x rest = (bytes ≡ letter_rest x ++ rest) × IsOpenLetter x × (letter_tag x ≡ n)

letter_small : (x : Option LetterRow) → IsOpenLetter x → letter_tag x < 256
unfolding letter_tag
letter_small None fits = omega arith
letter_small (Some row) fits = omega arith

letter_takes : (n : ℕ) (bytes : List ℕ) (x : Option LetterRow) (rest : List ℕ) → IsBytes bytes → open_letter_behind n bytes ≡ Some (x, rest) → From n bytes x rest
unfolding letter_tag letter_rest
letter_takes n bytes x rest fits e =
    chosen (eqb n 0) _ _ (x, rest) (From n bytes x rest) e
    (λ is found. subst (λ (y : Option LetterRow × List ℕ). From n bytes y.0 y.1) (same_Some (None, bytes) (x, rest) found) (refl, tt, sym (eqb-true n 0 is)))
    (λ e. chosen (eqb n 1) _ _ (x, rest) (From n bytes x rest) e
    (λ is found.
    let a = map_some (letter_at bytes) (λ (y : LetterRow × List ℕ). (Some y.0, y.1)) (x, rest) found in
    let one = letter_field.takes bytes a.0.0 a.0.1 fits a.1 in
    subst (λ (y : Option LetterRow × List ℕ). From n bytes y.0 y.1) a.2 (one.0, one.1, sym (eqb-true n 1 is)))
    (λ e. absurd cc))

letter_again : (x : Option LetterRow) (rest : List ℕ) → IsOpenLetter x → open_letter_behind (letter_tag x) (letter_rest x ++ rest) ≡ Some (x, rest)
unfolding letter_tag letter_rest
letter_again None rest fits = refl
letter_again (Some row) rest fits = rw (letter_field.again row rest fits) refl

letter_words : (x : Option LetterRow) → letter_tag x ∷ letter_rest x ≡ open_letter x
unfolding open_letter letter_tag letter_rest
letter_words None = refl
letter_words (Some row) = refl

open_letter_field : IsField open_letter IsOpenLetter open_letter_at
unfolding open_letter_at
open_letter_field = respelled letter_words (tagged letter_tag letter_rest IsOpenLetter open_letter_behind letter_small letter_takes letter_again)

-- ---- positions and states

position_field : IsField position IsPositionRow position_at
unfolding position position_at
position_field = shaped position_of (λ row. (row.account, (row.class, (row.in_cash, (row.next_lot, (row.letter, row.lots)))))) (λ row fits. refl) (λ x fits. refl)
    (both four_field (both four_field (both flag_field (both four_field (both open_letter_field (listed_field lot_field))))))

state_spelling : StateRow → List ℕ
state_spelling state = four_bytes state.household ++ list_bytes position state.positions

state_field : IsField state_spelling IsKept state_at
unfolding state_at state_spelling
state_field = tested keeps_rules (shaped state_of (λ state. (state.household, state.positions)) (λ state fits. refl) (λ x fits. refl) (both four_field (listed_field position_field)))

-- the version before them
pub row_takes : (bytes : List ℕ) (state : StateRow) (rest : List ℕ) → IsBytes bytes → versioned_at bytes ≡ Some (state, rest) → (bytes ≡ state_row state ++ rest) × IsKept state
unfolding versioned_at state_row state_spelling
row_takes bytes state rest fits e =
    let a = read_some (byte_at bytes) (λ x. version_behind x.0 x.1) (state, rest) e in
    let one = byte_takes bytes a.0.0 a.0.1 fits a.1 in
    let fits1 = IsBytes-rest bytes (a.0.0 ∷ []) a.0.1 one.0 fits in
    chosen (eqb a.0.0 1) (state_at a.0.1) None (state, rest) ((bytes ≡ (1 ∷ state_spelling state) ++ rest) × IsKept state) a.2
    (λ is found.
    let two = state_field.takes a.0.1 state rest fits1 found in
    (one.0 ∙ ap (λ (n : ℕ). n ∷ a.0.1) (eqb-true a.0.0 1 is) ∙ ap (λ (x : List ℕ). 1 ∷ x) two.0, two.1))
    (λ e. absurd cc)

pub row_again : (state : StateRow) (rest : List ℕ) → IsKept state → versioned_at (state_row state ++ rest) ≡ Some (state, rest)
unfolding versioned_at state_row state_spelling
row_again state rest fits = state_field.again state rest fits

pub row_field : IsField state_row IsKept versioned_at
row_field = record { takes = row_takes; again = row_again }

-- all of the bytes
pub whole_takes : (bytes : List ℕ) (state : StateRow) → IsBytes bytes → state_of_row bytes ≡ Some state → IsKept state × (bytes ≡ state_row state)
whole_takes bytes state fits e =
    let one = row_takes bytes state [] fits (whole_some (versioned_at bytes) state e) in
    (one.1, one.0 ∙ append-nil (state_row state))

pub whole_again : (state : StateRow) → IsKept state → state_of_row (state_row state) ≡ Some state
whole_again state fits =
    let found : versioned_at (state_row state) ≡ Some (state, []) = ap versioned_at (sym (append-nil (state_row state))) ∙ row_again state [] fits in
    rw found refl

-- ---- what is kept fits its lists

fits_each : (rows : List PositionRow) → AllByRecursion IsPositionRow rows → list_all fits_lots rows ≡ true
fits_each [] fits = refl
fits_each (row ∷ rows) fits = both_true (le-leb (length row.lots) 65535 fits.0.1.1.1.1.1.0) (fits_each rows fits.1)

pub kept_fits : (state : StateRow) → IsKept state → fits_lists state ≡ true
kept_fits state fits = both_true (le-leb (length state.positions) 65535 fits.0.1.0) (fits_each state.positions fits.0.1.1)
