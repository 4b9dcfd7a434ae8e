-- Whatever the records of a batch, each of them asks a line or isn't in its form.
use Rattle.std.proofs.Common.{Bool, Err, List, None, Ok, Option, Result, Some, [], cond, false, length, map, nat_lt, refl, true, ℕ, ◌&&◌, ◌+◌, ◌==◌, ◌∷◌, ◌≡◌}
use Rattle.agent_events.specs.Forms.{at, field, ◌>>=◌}
use Rattle.agent_events.specs.Items.{batch_line}
use Rattle.agent_events.specs.OrderForms.{carried_order, counted_by, line_asked, order_count}
use Rattle.agent_events.specs.VerbForms.{Asked}
use Rattle.agent_events.specs.Fields.{moment}
use Rattle.agent_events.specs.declared.order.Order.{Order}
use Rattle.agent_events.specs.declared.request.Request.{Request}
use Rattle.dealer_lines.specs.Lines.{all_lines, is_line}

-- the fields of a line, one after the other
line-by : (fields : List (List ℕ)) → is_line (line_asked fields) ≡ true
line-by fields = by_receipt (at 1 (moment (field fields 1)))
  where
    by_order : (receipt : ℕ) (order : Result Order ℕ) → is_line (order >>= λ o. Ok (Request.Line (record { receipt = receipt; order = o }))) ≡ true
    by_order receipt (Ok order) = refl
    by_order receipt (Err place) = refl

    by_count : (receipt : ℕ) (count : Result ℕ ℕ) → is_line (count >>= λ n. carried_order 2 fields >>= λ o. Ok (Request.Line (record { receipt = receipt; order = o }))) ≡ true
    by_count receipt (Ok count) = by_order receipt (carried_order 2 fields)
    by_count receipt (Err place) = refl

    by_receipt : (receipt : Result ℕ ℕ) → is_line (receipt >>= λ r. at 2 (order_count (field fields 2)) >>= λ n. carried_order 2 fields >>= λ o. Ok (Request.Line (record { receipt = r; order = o }))) ≡ true
    by_receipt (Ok receipt) = by_count receipt (at 2 (order_count (field fields 2)))
    by_receipt (Err place) = refl

when-line : (holds : Bool) (asked : Asked) → is_line asked ≡ true → is_line (cond holds asked (Err 0)) ≡ true
when-line true asked line = line
when-line false asked line = refl

unless-line : (holds : Bool) (asked : Asked) → is_line asked ≡ true → is_line (cond holds (Err 0) asked) ≡ true
unless-line true asked line = refl
unless-line false asked line = line

one-line : (fields : List (List ℕ)) → is_line (batch_line fields) ≡ true
one-line fields = unless-line (nat_lt (length fields) 2) (counted_by (order_count (field fields 2)) 2 line_asked fields) (by_count (order_count (field fields 2)))
  where
    by_count : (count : Option ℕ) → is_line (counted_by count 2 line_asked fields) ≡ true
    by_count None = line-by fields
    by_count (Some count) = when-line (length fields == 2 + count) (line_asked fields) (line-by fields)

pub lines_asked : (rows : List (List (List ℕ))) → all_lines (map batch_line rows) ≡ true
lines_asked [] = refl
lines_asked (row ∷ rows) = both (is_line (batch_line row)) (all_lines (map batch_line rows)) (one-line row) (lines_asked rows)
  where
    both : (a b : Bool) → a ≡ true → b ≡ true → (a && b) ≡ true
    both true b e h = h
    both false b e h = e
