-- What a post may have at most: changes between two replays stay within it.
use Rattle.std.specs.BTreeMap.{keys}
use Rattle.std.specs.List.{IsDistinct}
use Rattle.std.specs.List.Sorted.{IsStrictlySortedBy}
use Rattle.std.specs.Map.{keys_of}
use Rattle.std.specs.Ordering.{nat_cmp}
use Rattle.std.specs.Prelude.{count_by, nat_eq, ℕ, ◌<◌, ◌==◌, ◌^◌, ◌≤◌}
use Rattle.agent_events.specs.Events.{Event}
use Rattle.agent_events.specs.declared.order.Party.{Party}
use Rattle.agent_events.specs.declared.totals.Changes.{Changes}
use Rattle.gain_loss_book.specs.Booked.{AreDifferences, correction_at}
use Rattle.gain_loss_book.specs.ChangeRows.{cash_rows, mils_rows}
use Rattle.gain_loss_book.specs.ClassGains.{most_mils, size_of_mils}
use Rattle.gain_loss_book.specs.Posted.{most_cash, most_gains, size_of_cash, size_of_correction}
use Rattle.gain_loss_book.specs.declared.tally.Tally.{Tally}
use Rattle.limit_laws.specs.InForm.{AreInForm}
use Rattle.limit_laws.specs.Moved.{MoveLittle}
use Rattle.register_laws.specs.Lawful.{book_behind}
use Rattle.register_laws.specs.Trades.{IsOutstandingByTrades}
use Rattle.register_machine.specs.corrections.Cash.{cents_paid, cents_received, same_party}
use Rattle.register_machine.specs.corrections.Payments.{booked_movements}
use Rattle.register_machine.specs.journal.Journals.{Journal, with_event}
use Rattle.register_machine.specs.replay.Replay.{replay}
use Rattle.register_machine.specs.replay.Trades.{Day}

-- Changes have one row for a party and one for a class at most, as the rows of a tally do.
pub record NamesEachOnce (changes : Changes) : Type 0 where
  pub parties : (party : Party) → count_by (λ change. same_party change.party party) changes.cash ≤ 1
  pub classes : (class : ℕ) → count_by (λ change. change.class == class) changes.outstanding ≤ 1

-- and come to no more than a post may have
pub record FitsPost (changes : Changes) : Type 0 where
  pub cash : size_of_cash changes.cash ≤ most_cash
  pub mils : size_of_mils changes.outstanding ≤ most_mils

-- what is asked of a day for it: its trades move little, and all shares came by them
pub record HasMovedLittle (day : Day) : Type 0 where
  pub moves : MoveLittle day.trades
  pub shares : (class : ℕ) → IsOutstandingByTrades class day

-- Changes that are the differences between two such days fit a post.
abbrev pub DifferencesFit : Changes → Day → Day → Type 0
DifferencesFit changes before after =
    HasMovedLittle before → HasMovedLittle after → NamesEachOnce changes → AreDifferences changes before after → FitsPost changes

-- So do those that an event makes of the replay before it, and the gains of a correction come to no more than a post may have.
pub record FitsPostWith (journal : Journal) (event : Event) : Type 0 where
  pub changes : (changes : Changes) → NamesEachOnce changes
      → AreDifferences changes (replay (book_behind journal)) (replay (book_behind (with_event journal event)))
      → FitsPost changes
  pub gains : size_of_correction (correction_at journal event) ≤ most_gains

-- where the events up to it are in their forms
abbrev pub EventFitsPost : Journal → Event → Type 0
EventFitsPost journal event = AreInForm (with_event journal event) → FitsPostWith journal event

-- ---- What is booked.

-- What a party received and what it paid by all that is booked behind a journal, trades and payments of corrections, are
-- each less than 2^127, and so is the one less the other.
pub record BookedFits (journal : Journal) : Type 0 where
  pub received : (party : Party) → cents_received (booked_movements journal (replay (book_behind journal))) party < 2 ^ 127
  pub paid : (party : Party) → cents_paid (booked_movements journal (replay (book_behind journal))) party < 2 ^ 127

abbrev pub InFormBooksFit : Journal → Type 0
InFormBooksFit journal = AreInForm journal → BookedFits journal

-- ---- The rows of a tally.

-- A tally has each holder once, and its classes and dealers by rising number, as its maps do.
pub record HasRowsOnce (tally : Tally) : Type 0 where
  pub holders : IsDistinct nat_eq (keys_of tally.holders.entries)
  pub classes : IsStrictlySortedBy nat_cmp (keys tally.classes)
  pub dealers : IsStrictlySortedBy nat_cmp (keys tally.dealers)

-- So its rows name each party and each class once.
abbrev pub TallyNamesEachOnce : Tally → Type 0
TallyNamesEachOnce tally =
    HasRowsOnce tally → NamesEachOnce (record { outstanding = mils_rows tally; cash = cash_rows tally })
