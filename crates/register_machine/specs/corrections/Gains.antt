-- What a correction changes: the gain or loss of each class whose cash or outstanding shares differ.
use Rattle.std.specs.Option.{option_map_or}
use Rattle.std.specs.Ordering.{int_eq}
use Rattle.std.specs.Prelude.{Bool, List, None, Option, Some, [], ℕ, ℤ, ◌&&◌, ◌*ℤ◌, ◌++◌, ◌-ℤ◌, ◌∷◌, filter, filter_map, fold, if◌then◌else◌, map, nat_lt, pos}
use Rattle.agent_events.specs.Events.{Event}
use Rattle.agent_events.specs.declared.order.Party.{Party}
use Rattle.agent_events.specs.declared.reply_lists.ClassGain.{ClassGain}
use Rattle.forward_price.specs.PriceTables.{Table}
use Rattle.forward_price.specs.Sheets.{lists_class}
use Rattle.forward_price.specs.declared.price_sheet.Sheet.{Sheet}
use Rattle.money_units.specs.Rounding.{signed_half}
use Rattle.register_machine.specs.corrections.Cash.{Movement, balance, movements_of, outstanding}
use Rattle.register_machine.specs.journal.Choices.{last_of}
use Rattle.register_machine.specs.journal.Journals.{Journal, with_event}
use Rattle.register_machine.specs.journal.Kinds.{classes_of, dealers_of}
use Rattle.register_machine.specs.pricing.CorrectedBook.{book_of}
use Rattle.register_machine.specs.replay.Replay.{replay}
use Rattle.register_machine.specs.replay.Trades.{Day, nav_of}

-- numbers by rising size
abbrev pub in_its_place : ℕ → List ℕ → List ℕ
in_its_place n ns = filter (λ other. nat_lt other n) ns ++ n ∷ filter (λ other. nat_lt n other) ns

abbrev pub rising_numbers : List ℕ → List ℕ
rising_numbers ns = fold (λ ordered n. in_its_place n ordered) [] ns

abbrev pub class_numbers_of : Journal → List ℕ
class_numbers_of journal = rising_numbers (map (λ form. form.class) (classes_of journal))

abbrev pub dealer_numbers_of : Journal → List ℕ
dealer_numbers_of journal = rising_numbers (map (λ form. form.dealer) (dealers_of journal))

-- the net asset value of a class on its latest sheet, 0 where it is on none
abbrev pub latest_nav : List Sheet → ℕ → ℕ
latest_nav sheets class =
    option_map_or (λ sheet. nav_of sheet class) (last_of (λ sheet. lists_class sheet.prices class) sheets) 0

-- the gain of a class: the change of its cash, less the value of the change of its outstanding mils
abbrev pub gain_by : ℤ → ℤ → ℕ → ℤ
gain_by cash mils nav = cash -ℤ signed_half (mils *ℤ pos nav) 1000

abbrev pub is_nothing : ℤ → Bool
is_nothing change = int_eq change (pos 0)

abbrev pub gain_unless_same : ℕ → ℤ → ℤ → ℕ → Option ClassGain
gain_unless_same class cash mils nav =
    if is_nothing cash && is_nothing mils then None
    else Some (record { class = class; cents = gain_by cash mils nav })

-- a class whose cash or outstanding mils differ between two replays
abbrev pub gain_of : Day → Day → List Movement → List Movement → List Sheet → ℕ → Option ClassGain
gain_of before after moved_before moved_after sheets class =
    gain_unless_same class
    (balance moved_after (Party.Class class) -ℤ balance moved_before (Party.Class class))
    (pos (outstanding after.register class) -ℤ pos (outstanding before.register class))
    (latest_nav sheets class)

abbrev pub gains_between : List ℕ → Day → Day → List Sheet → List ClassGain
gains_between classes before after sheets =
    let moved_before = movements_of before.trades in
    let moved_after = movements_of after.trades in
    filter_map (gain_of before after moved_before moved_after sheets) classes

-- the gains of a correction behind a journal
abbrev pub gains_at : Table → Journal → Event → List ClassGain
gains_at table journal event =
    let corrected_book = book_of table (with_event journal event) in
    gains_between (class_numbers_of journal) (replay (book_of table journal)) (replay corrected_book)
    corrected_book.table.sheets
