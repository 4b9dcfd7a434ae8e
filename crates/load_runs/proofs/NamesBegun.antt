-- The names of orders as they were begun are those of the orders as they are corrected.
use Rattle.std.proofs.Common.{List, [], ap, map, option_to_list, refl, sym, ℕ, ◌++◌, ◌+◌, ◌∙◌, ◌∷◌, ◌≡◌}
use Rattle.std.specs.List.{cons_option}
use Rattle.agent_events.specs.declared.event.EventKind.{EventKind}
use Rattle.agent_events.specs.declared.order.OrderRow.{OrderRow}
use Rattle.agent_events.specs.declared.request.EntryForm.{EntryForm}
use Rattle.agent_events.specs.declared.request.TraceForm.{TraceForm}
use Rattle.load_runs.specs.OrderNames.{name_begun, name_of, order_names}
use Rattle.register_laws.proofs.OrdersGoOn.{corrected-alike}
use Rattle.register_machine.specs.journal.Journals.{Journal}
use Rattle.register_machine.specs.journal.Kinds.{each_in, replacement_in}
use Rattle.register_machine.specs.pricing.CorrectedOrders.{order_begun, orders_begun, orders_of, row_as_corrected, struck_in}

abbrev pub named : OrderRow → TraceForm
named row = name_of row.order

begun-named : (place : ℕ) (journal : Journal) → map named (orders_begun place journal) ≡ order_names journal
begun-named place [] = refl
begun-named place (event ∷ later) = by_kind event.kind (begun-named (place + 1) later)
  where
    by_kind : (kind : EventKind) → map named (orders_begun (place + 1) later) ≡ order_names later → map named (option_to_list (order_begun place kind) ++ orders_begun (place + 1) later) ≡ cons_option (name_begun kind) (order_names later)
    by_kind (EventKind.Order placed) rest = ap (λ (names : List TraceForm). name_of placed.order ∷ names) rest
    by_kind (EventKind.Enter form) rest = ap (λ (names : List TraceForm). name_of form.order ∷ names) rest
    by_kind _ rest = rest

form-of : ℕ → ℕ → TraceForm
form-of account ref_no = record { account = account; ref_no = ref_no }

same-form : (account other ref_no also : ℕ) → account ≡ other → ref_no ≡ also → form-of account ref_no ≡ form-of other also
same-form account other ref_no also e f = ap (λ n. form-of n ref_no) e ∙ ap (λ n. form-of other n) f

corrected-named : (strikes : List (ℕ × ℕ)) (forms : List EntryForm) (rows : List OrderRow) → map named (map (row_as_corrected strikes forms) rows) ≡ map named rows
unfolding form-of
corrected-named strikes forms [] = refl
corrected-named strikes forms (row ∷ rows) =
    let alike = corrected-alike strikes forms row in
    ap (λ (name : TraceForm). name ∷ map named (map (row_as_corrected strikes forms) rows)) (same-form (row_as_corrected strikes forms row).order.account row.order.account (row_as_corrected strikes forms row).order.ref_no row.order.ref_no alike.0 alike.1)
    ∙ ap (λ (names : List TraceForm). named row ∷ names) (corrected-named strikes forms rows)

pub names_are : (journal : Journal) → order_names journal ≡ map named (orders_of journal)
names_are journal =
    sym (corrected-named (each_in struck_in journal) (each_in replacement_in journal) (orders_begun 0 journal) ∙ begun-named 0 journal)
