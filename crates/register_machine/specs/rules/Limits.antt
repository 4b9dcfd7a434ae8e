-- Refusals 16, 17 and 19: an account's orders, how many of a kind there may be, and a journal that is full.
use Rattle.std.specs.Option.{option_map_or}
use Rattle.std.specs.Prelude.{Bool, None, Option, Some, ℕ, ◌&&◌, ◌==◌, count_by, false, is_some, length, nat_le, option_and_then}
use Rattle.agent_events.specs.Events.{Event, event_of, request_of}
use Rattle.agent_events.specs.declared.reply.Refusal.{Refusal}
use Rattle.agent_events.specs.declared.request.Request.{Request}
use Rattle.register_machine.specs.journal.Choices.{when}
use Rattle.register_machine.specs.journal.Kinds.{dealers_of, households_of}
use Rattle.register_machine.specs.rules.Identities.{reference_of}
use Rattle.register_machine.specs.rules.Situations.{Situation}

-- Refusal 16. The account has as many orders and cancels as it may have, struck ones too.
abbrev pub most_orders : ℕ
most_orders = 4096

abbrev pub is_of_account : ℕ → Event → Bool
is_of_account account event =
    option_map_or (λ named. named.0 == account) (reference_of (request_of event.kind)) false

abbrev pub orders_full : Situation → Request → Option Refusal
orders_full situation request =
    when
    (option_map_or (λ named. nat_le most_orders (count_by (is_of_account named.0) situation.journal)) (reference_of request) false)
    (Refusal.OrdersFull most_orders)

abbrev pub accounts_in : Situation → ℕ → ℕ
accounts_in situation household = count_by (λ account. account.household == household) situation.book.accounts

-- how many there are, and how many there may be
abbrev pub numbers_of : Situation → Request → Option (ℕ × ℕ)
numbers_of situation (Request.Calendar form) = Some (length situation.book.table.calendars, 16)
numbers_of situation (Request.Class form) = Some (length situation.book.classes, 1000)
numbers_of situation (Request.Dealer form) = Some (length (dealers_of situation.journal), 1000)
numbers_of situation (Request.Household form) = Some (length (households_of situation.journal), 100000)
numbers_of situation (Request.Account form) = Some (accounts_in situation form.household, 64)
numbers_of situation _ = None

abbrev pub too_many : Situation → Request → Option Refusal
too_many situation request =
    option_and_then (λ numbers. when (nat_le numbers.1 numbers.0) (Refusal.TooMany numbers.1))
    (numbers_of situation request)

abbrev pub brings_event : Request → Bool
brings_event request = is_some (event_of request 0 0)

abbrev pub journal_full : Situation → Request → Option Refusal
journal_full situation request =
    when (brings_event request && nat_le 100000000 (length situation.journal)) Refusal.JournalFull
