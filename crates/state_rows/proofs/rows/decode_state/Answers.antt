-- Both directions follow from the reader of a whole row.
use Rattle.std.proofs.Common.{◌≡◌, List, true, Option, Some, None, Result, Ok, Err, ap, ◌∙◌, sym, arith}
use Rattle.std.specs.Prelude.{ℕ, IfOk, IfSome}
use Rattle.money_units.specs.declared.faults.NoMemory.{NoMemory}
use Rattle.agent_events.specs.declared.checkpoint.StateRow.{StateRow}
use Rattle.event_rows.specs.Exact.{IsBytes}
use Rattle.state_rows.specs.InForm.{IsKept, fits_lists}
use Rattle.state_rows.specs.Reading.{state_of_row}
use Rattle.state_rows.specs.Rows.{state_row}
use Rattle.state_rows.proofs.EachPart.{kept_fits, whole_takes, whole_again}
use Rattle.state_rows.proofs.rows.decode_state.Goals as goal

some_found : (bytes : List ℕ) (read : Option StateRow) → IsBytes bytes → read ≡ state_of_row bytes → IfSome read (λ state. IsKept state × (bytes ≡ state_row state))
some_found bytes None fits e = tt
some_found bytes (Some state) fits e = whole_takes bytes state fits (sym e)

is_found : (bytes : List ℕ) (answer : Result (Option StateRow) NoMemory) → IsBytes bytes → IfOk answer (λ read. read ≡ state_of_row bytes)
    → IfOk answer (λ read. IfSome read (λ state. IsKept state × (bytes ≡ state_row state)))
is_found bytes (Ok read) fits e = some_found bytes read fits e
is_found bytes (Err fault) fits e = tt

some_fits : (bytes : List ℕ) (read : Option StateRow) → IfSome read (λ state. IsKept state × (bytes ≡ state_row state)) → IfSome read (λ state. fits_lists state ≡ true)
some_fits bytes None found = tt
some_fits bytes (Some state) found = kept_fits state found.0

it_fits : (bytes : List ℕ) (answer : Result (Option StateRow) NoMemory) → IfOk answer (λ read. IfSome read (λ state. IsKept state × (bytes ≡ state_row state)))
    → IfOk answer (λ read. IfSome read (λ state. fits_lists state ≡ true))
it_fits bytes (Ok read) found = some_fits bytes read found
it_fits bytes (Err fault) found = tt

is_only : (bytes : List ℕ) (answer : Result (Option StateRow) NoMemory) (state : StateRow) → IfOk answer (λ read. read ≡ state_of_row bytes) → IsKept state → bytes ≡ state_row state
    → IfOk answer (λ read. read ≡ Some state)
is_only bytes (Ok read) state e fits same = e ∙ ap state_of_row same ∙ whole_again state fits
is_only bytes (Err fault) state e fits same = tt

pub returns-clause-found : goal.returns-clause-found
returns-clause-found c = is_found c.args.bytes.now c.decoded.result (λ i. omega (arith, c.type_inv.bytes i)) c.decoded.ensures

pub returns-clause-fits : goal.returns-clause-fits
returns-clause-fits c =
    it_fits c.args.bytes.now c.decoded.result (is_found c.args.bytes.now c.decoded.result (λ i. omega (arith, c.type_inv.bytes i)) c.decoded.ensures)

pub returns-clause-only : goal.returns-clause-only
returns-clause-only c = λ state fits same. is_only c.args.bytes.now c.decoded.result state c.decoded.ensures fits same
