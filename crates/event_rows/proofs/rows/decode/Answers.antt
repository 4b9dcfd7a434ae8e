-- Both directions follow from the reader of a whole row.
use Rattle.std.proofs.Common.{◌≡◌, List, Option, Some, None, Result, Ok, Err, ap, ◌∙◌, sym, arith}
use Rattle.std.specs.Prelude.{ℕ, IfOk, IfSome}
use Rattle.money_units.specs.declared.faults.NoMemory.{NoMemory}
use Rattle.agent_events.specs.Events.{Event}
use Rattle.event_rows.specs.Exact.{IsBytes}
use Rattle.event_rows.specs.InForm.{InForm}
use Rattle.event_rows.specs.Reading.{event_of_row}
use Rattle.event_rows.specs.Rows.{event_row}
use Rattle.event_rows.proofs.WholeRows.{row_takes, row_again}
use Rattle.event_rows.proofs.rows.decode.Goals as goal

some_found : (bytes : List ℕ) (read : Option Event) → IsBytes bytes → read ≡ event_of_row bytes → IfSome read (λ event. InForm event × (bytes ≡ event_row event))
some_found bytes None fits e = tt
some_found bytes (Some event) fits e = row_takes bytes event fits (sym e)

is_found : (bytes : List ℕ) (answer : Result (Option Event) NoMemory) → IsBytes bytes → IfOk answer (λ read. read ≡ event_of_row bytes)
    → IfOk answer (λ read. IfSome read (λ event. InForm event × (bytes ≡ event_row event)))
is_found bytes (Ok read) fits e = some_found bytes read fits e
is_found bytes (Err fault) fits e = tt

is_only : (bytes : List ℕ) (answer : Result (Option Event) NoMemory) (event : Event) → IfOk answer (λ read. read ≡ event_of_row bytes) → InForm event → bytes ≡ event_row event
    → IfOk answer (λ read. read ≡ Some event)
is_only bytes (Ok read) event e fits same = e ∙ ap event_of_row same ∙ row_again event fits
is_only bytes (Err fault) event e fits same = tt

pub returns-clause-found : goal.returns-clause-found
returns-clause-found c = is_found c.args.bytes.now c.decoded.result (λ i. omega (arith, c.type_inv.bytes i)) c.decoded.ensures

pub returns-clause-only : goal.returns-clause-only
returns-clause-only c = λ event fits same. is_only c.args.bytes.now c.decoded.result event c.decoded.ensures fits same
