-- Who calls, by the key, and what each caller may do: the operator all but a dealer's lines, a household place and cancel
-- orders and look at its own accounts, a dealer send lines, cancel and look at accounts that name it.
use Rattle.std.specs.List.{list_any}
use Rattle.std.specs.Option.{option_or}
use Rattle.std.specs.Prelude.{Bool, List, Option, ℕ, ◌&&◌, ◌==◌, bytes_eq, false, find, if◌then◌else◌, option_map, true, unwrap_or}
use Rattle.agent_events.specs.declared.request.AccountForm.{AccountForm}
use Rattle.agent_events.specs.declared.request.Request.{Request}
use Rattle.agent_events.specs.declared.verdict.Caller.{Caller}
use Rattle.register_machine.specs.journal.Journals.{Journal}
use Rattle.register_machine.specs.journal.Kinds.{dealers_of, households_of}

-- the household and the dealer with this key
abbrev pub household_with_key : Journal → List ℕ → Option ℕ
household_with_key journal key =
    option_map (λ form. form.household) (find (λ form. bytes_eq form.key key) (households_of journal))

abbrev pub dealer_with_key : Journal → List ℕ → Option ℕ
dealer_with_key journal key =
    option_map (λ form. form.dealer) (find (λ form. bytes_eq form.key key) (dealers_of journal))

abbrev pub known_caller : Journal → List ℕ → Option Caller
known_caller journal key =
    option_or (option_map Caller.Household (household_with_key journal key))
    (option_map Caller.Dealer (dealer_with_key journal key))

abbrev pub caller_of : Journal → List ℕ → List ℕ → Caller
caller_of journal operator key =
    if bytes_eq key operator then Caller.Operator else unwrap_or (known_caller journal key) Caller.Stranger

-- an account of this household, and one that names this dealer
abbrev pub owns : List AccountForm → ℕ → ℕ → Bool
owns accounts household number =
    list_any (λ account. account.account == number && account.household == household) accounts

abbrev pub serves : List AccountForm → ℕ → ℕ → Bool
serves accounts dealer number =
    list_any (λ account. account.account == number && account.dealer == dealer) accounts

abbrev pub operator_may : Request → Bool
operator_may (Request.Line line) = false
operator_may _ = true

abbrev pub household_may : (ℕ → Bool) → Request → Bool
household_may is_own (Request.Order order) = is_own order.account
household_may is_own (Request.Cancel form) = is_own form.account
household_may is_own (Request.Show account) = is_own account
household_may is_own (Request.Trace form) = is_own form.account
household_may is_own (Request.Statement form) = is_own form.account
household_may is_own _ = false

abbrev pub dealer_may : (ℕ → Bool) → Request → Bool
dealer_may is_own (Request.Line line) = is_own line.order.account
dealer_may is_own (Request.Cancel form) = is_own form.account
dealer_may is_own (Request.Show account) = is_own account
dealer_may is_own (Request.Trace form) = is_own form.account
dealer_may is_own (Request.Statement form) = is_own form.account
dealer_may is_own _ = false

abbrev pub may : List AccountForm → Caller → Request → Bool
may accounts Caller.Operator request = operator_may request
may accounts (Caller.Household household) request = household_may (owns accounts household) request
may accounts (Caller.Dealer dealer) request = dealer_may (serves accounts dealer) request
may accounts Caller.Stranger request = false
