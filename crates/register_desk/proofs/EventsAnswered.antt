-- Replies to events: their gains, and the number of a sheet.
use Rattle.std.proofs.Common.{List, None, Option, Some, [], ap, arith, filter_map, is_some, length, refl, sym, true, ◌∙◌, ◌∷◌, ◌≡◌, ◌≤◌}
use Rattle.std.proofs.lemmas.Bool.{true≢false}
use Rattle.std.specs.List.{cons_option}
use Rattle.std.specs.Option.{option_map_or}
use Rattle.agent_events.specs.Events.{Event}
use Rattle.agent_events.specs.declared.order.Bearer.{Bearer}
use Rattle.agent_events.specs.declared.reply_lists.ClassGain.{ClassGain}
use Rattle.holder_statements.proofs.SheetNumbers.{counts_its_sheets}
use Rattle.holder_statements.specs.EventReplies.{AreGainsOf}
use Rattle.gain_loss_book.specs.Booked.{correction_at, correction_by}
use Rattle.gain_loss_book.specs.declared.posting.Correction.{Correction}
use Rattle.register_laws.proofs.KeepsLimits.{keeps_its_limits}
use Rattle.register_laws.specs.Lawful.{book_behind}
use Rattle.register_machine.specs.corrections.Gains.{gains_at}
use Rattle.register_machine.specs.corrections.Payments.{bearer_in}
use Rattle.register_machine.specs.journal.Journals.{Journal}
use Rattle.register_machine.specs.journal.Kinds.{sheet_in}
use Rattle.register_machine.specs.journal.Lawful.{IsLawful}
use Rattle.register_machine.specs.pricing.PublishedTable.{table_behind, table_of}

-- the gains of a correction are those behind the journal
pub gains_given : (journal : Journal) (event : Event) (correction : Option Correction) (gains : List ClassGain) → correction ≡ correction_at journal event → gains ≡ option_map_or (λ (c : Correction). c.gains) correction [] → AreGainsOf (table_of journal) journal event gains
unfolding table_behind
gains_given journal event correction gains its are fixed =
    are ∙ (ap (λ (c : Option Correction). option_map_or (λ (x : Correction). x.gains) c []) its ∙ by_bearer (bearer_in event.kind) fixed)
  where
    by_bearer : (bearer : Option Bearer) → is_some bearer ≡ true → option_map_or (λ (x : Correction). x.gains) (correction_by bearer journal event) [] ≡ gains_at (table_of journal) journal event
    by_bearer None none = absurd (true≢false (sym none))
    by_bearer (Some bearer) some = refl

no-more : {X Y : Type 0} (h : X → Option Y) (xs : List X) → length (filter_map h xs) ≤ length xs
no-more h [] = omega arith
no-more {X} {Y} h (x ∷ xs) = by_one (h x) (no-more h xs)
  where
    by_one : (found : Option Y) → length (filter_map h xs) ≤ length xs → length (cons_option found (filter_map h xs)) ≤ length (x ∷ xs)
    by_one None rest = omega (arith, rest)
    by_one (Some y) rest = omega (arith, rest)

-- the sheets of a lawful journal are few
pub few_sheets : (journal : Journal) → IsLawful journal → length (book_behind journal).table.sheets ≤ 100000000
few_sheets journal lawful =
    omega (arith, counts_its_sheets journal, no-more (λ (event : Event). sheet_in event.kind) journal, (keeps_its_limits journal lawful).events)
