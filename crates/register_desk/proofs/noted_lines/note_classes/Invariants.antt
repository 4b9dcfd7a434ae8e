-- The households of the orders so far are listed under their classes, and what was listed is listed.
use Rattle.std.proofs.Common.{take, true, ℕ, ◌≡◌}
use Rattle.register_desk.proofs.noted_lines.note_classes.Given as goal
use Rattle.register_desk.specs.ReadyLines.{AreLinesNoted}
use Rattle.register_machine.specs.journal.Kinds.{accounts_of}
use Rattle.standing_orders.specs.ClassHouseholds.{is_listed}

abbrev pub invariant-loop-line : goal.invariant-loop-line
invariant-loop-line l = record {
  noted : AreLinesNoted l.classes (accounts_of l.book.journal) (take l.line-index l.placed);
  kept : (class household : ℕ) → is_listed l.initial.classes class household ≡ true → is_listed l.classes class household ≡ true;
}
