-- The order of a name with an event on trial behind the journal.
use Rattle.std.proofs.Common.{Bool, List, None, Option, Some, [], ap, cond, false, find, length, map, option_map, option_to_list, refl, true, ℕ, ◌∙◌, ◌∷◌, ◌≡◌}
use Rattle.std.proofs.lemmas.List.Folds.{find-append}
use Rattle.std.specs.Option.{option_or}
use Rattle.agent_events.specs.Events.{Event}
use Rattle.agent_events.specs.declared.event.EventKind.{EventKind}
use Rattle.agent_events.specs.declared.order.OrderRow.{OrderRow}
use Rattle.order_book.proofs.TrialRows.{trial-by-row}
use Rattle.order_book.specs.Trials.{TrialFits, row_after, row_begun, row_on_trial, with_trial}
use Rattle.register_laws.proofs.OrdersGoOn.{replaced-named, struck-named}
use Rattle.register_machine.specs.journal.Journals.{Journal}
use Rattle.register_machine.specs.pricing.CorrectedOrders.{is_named, order_named, orders_of}

-- ---- the first of changed items

first-changed : {X : Type 0} (test : X → Bool) (f : X → X) → ((x : X) → test (f x) ≡ test x) → (xs : List X) → find test (map f xs) ≡ option_map f (find test xs)
first-changed test f same [] = refl
first-changed {X} test f same (x ∷ xs) = ap (λ b. cond b (Some (f x)) (find test (map f xs))) (same x) ∙ by (first-changed test f same xs) (test x)
  where
    by : find test (map f xs) ≡ option_map f (find test xs) → (b : Bool) → cond b (Some (f x)) (find test (map f xs)) ≡ option_map f (cond b (Some x) (find test xs))
    by later true = refl
    by later false = later

-- ---- an event on trial leaves each order its name

named-after : (kind : EventKind) (account ref_no : ℕ) (row : OrderRow) → is_named account ref_no (row_after kind row).order ≡ is_named account ref_no row.order
named-after (EventKind.Cancel form) account ref_no row = struck-named (form.account, form.target) account ref_no row
named-after (EventKind.Void form) account ref_no row = struck-named (form.account, form.ref_no) account ref_no row
named-after (EventKind.Replace form) account ref_no row = replaced-named form account ref_no row
named-after _ account ref_no row = refl

named-by-row : (trial : Option Event) (account ref_no : ℕ) (row : OrderRow) → is_named account ref_no (row_on_trial trial row).order ≡ is_named account ref_no row.order
named-by-row None account ref_no row = refl
named-by-row (Some event) account ref_no row = named-after event.kind account ref_no row

-- the order of a name is that of the journal as it is left, else the one that is begun
pub named-on-trial : (journal : Journal) (trial : Option Event) → TrialFits journal trial → (account ref_no : ℕ)
    → order_named (orders_of (with_trial journal trial)) account ref_no
    ≡ option_or (option_map (row_on_trial trial) (order_named (orders_of journal) account ref_no)) (order_named (option_to_list (row_begun (length journal) trial)) account ref_no)
named-on-trial journal trial fits account ref_no =
    ap (λ rows. order_named rows account ref_no) (trial-by-row journal trial fits)
    ∙ (find-append (λ (row : OrderRow). is_named account ref_no row.order) (map (row_on_trial trial) (orders_of journal)) (option_to_list (row_begun (length journal) trial))
    ∙ ap (λ found. option_or found (order_named (option_to_list (row_begun (length journal) trial)) account ref_no))
    (first-changed (λ (row : OrderRow). is_named account ref_no row.order) (row_on_trial trial) (named-by-row trial account ref_no) (orders_of journal)))
