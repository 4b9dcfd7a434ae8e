-- An event holds no more than its row has bytes.
use Rattle.std.proofs.Common.{ℕ, ◌≤◌, List, [], ◌∷◌, ◌++◌, length, arith, length-append}
use Rattle.std.specs.List.{flat_map}
use Rattle.class_terms.specs.declared.lists.Bracket.{Bracket}
use Rattle.agent_events.specs.declared.event.EventKind.{EventKind}
use Rattle.agent_events.specs.Events.{Event}
use Rattle.event_rows.specs.Spelling.{two_bytes, four_bytes, eight_bytes, text, list_bytes}
use Rattle.event_rows.specs.Rows.{bracket, price, calendar, class_loads, class, dealer, household, account, sheet, fields, event_row}
use Rattle.event_rows.specs.Sizes.{content_size}

-- what stands behind other bytes
behind : (a b : List ℕ) (n : ℕ) → n ≤ length b → n ≤ length (a ++ b)
behind a b n le = omega (arith, length-append a b)

text_size : (letters : List ℕ) → length letters ≤ length (text letters)
unfolding text
text_size letters = behind (two_bytes (length letters)) letters (length letters) (omega arith)

items_size : {A : Type 0} (item : A → List ℕ) → ((x : A) → 1 ≤ length (item x)) → (xs : List A) → length xs ≤ length (flat_map item xs)
items_size item long [] = omega arith
items_size item long (x ∷ xs) = omega (arith, length-append (item x) (flat_map item xs), long x, items_size item long xs)

list_size : {A : Type 0} (item : A → List ℕ) → ((x : A) → 1 ≤ length (item x)) → (xs : List A) → length xs ≤ length (list_bytes item xs)
unfolding list_bytes
list_size item long xs = behind (two_bytes (length xs)) (flat_map item xs) (length xs) (items_size item long xs)

two_long : (n : ℕ) → 1 ≤ length (two_bytes n)
unfolding two_bytes
two_long n = omega arith

four_long : (n : ℕ) → 1 ≤ length (four_bytes n)
unfolding four_bytes
four_long n = omega arith

bracket_long : (row : Bracket) → 1 ≤ length (bracket row)
bracket_long row = behind (eight_bytes row.floor) (two_bytes row.rate) 1 (two_long row.rate)

eight_long : (n : ℕ) → 1 ≤ length (eight_bytes n)
unfolding eight_bytes
eight_long n = omega arith

price_long : (priced : ℕ × ℕ) → 1 ≤ length (price priced)
price_long priced = behind (four_bytes priced.0) (eight_bytes priced.1) 1 (eight_long priced.1)

fields_size : (kind : EventKind) → content_size kind ≤ length (fields kind)
unfolding calendar class_loads class dealer household account sheet
fields_size (EventKind.Calendar form) =
    simp length-append (omega (arith, text_size form.zone, list_size four_bytes four_long form.holidays))
fields_size (EventKind.Class form) =
    simp length-append (omega (arith, text_size form.name, list_size bracket bracket_long form.front, list_size two_bytes two_long form.deferred))
fields_size (EventKind.Dealer form) = simp length-append (omega (arith, text_size form.key))
fields_size (EventKind.Household form) = simp length-append (omega (arith, text_size form.key))
fields_size (EventKind.Account form) = simp length-append (omega (arith, text_size form.name))
fields_size (EventKind.Sheet form) = simp length-append (omega (arith, list_size price price_long form.prices))
fields_size kind = omega arith

pub row_size : (event : Event) → content_size event.kind ≤ length (event_row event)
unfolding event_row
row_size event = simp length-append (omega (arith, fields_size event.kind))
