-- A ledger behind a correction.
use Rattle.std.proofs.Common.{List, None, Option, ap, append-nil, arith, get_or, inl, inr, length, option_to_list, refl, subst, sym, true, true≢false, ℕ, ◌++◌, ◌∙◌, ◌≡◌}
use Rattle.agent_events.specs.Events.{Event}
use Rattle.agent_events.specs.declared.event.EventKind.{EventKind}
use Rattle.agent_events.specs.declared.request.AccountForm.{AccountForm}
use Rattle.checkpoint_replay.specs.Parts.{first_day}
use Rattle.checkpoint_replay.specs.declared.part.HouseholdPart.{HouseholdPart}
use Rattle.register_laws.specs.EventReplays.{is_correction}
use Rattle.household_fold.specs.Facts.{Known}
use Rattle.checkpoint_replay.specs.Replays.{NumberedOrder, days_behind, orders_under}
use Rattle.ledger_laws.proofs.EachStep.{lets_replay}
use Rattle.ledger_laws.proofs.ReplaysAsPart.{replays_as_part}
use Rattle.ledger_laws.specs.OwnedByAccounts.{CanReplay}
use Rattle.ledger_laws.specs.PartsByFacts.{AreRowsOf}
use Rattle.ledger_laws.specs.BookFacts.{ServeLastSheet}
use Rattle.ledger_laws.specs.CorrectedLedgers.{CorrectionKeepsAccounts, LedgerIsCorrected, SoundBooksReopen, StandingAreRows}
use Rattle.register_laws.proofs.OneEventMore.{gathers-on}
use Rattle.register_laws.specs.Households.{part_of}
use Rattle.register_machine.specs.journal.Journals.{Journal}
use Rattle.register_machine.specs.journal.Kinds.{account_in, accounts_of}
use Rattle.register_machine.specs.pricing.CorrectedBook.{Book}
use Rattle.register_machine.specs.replay.Replay.{replay}
use Rattle.checkpoint_replay.specs.Premises.{CanBeReplayed}
use Rattle.ledger_laws.specs.SoundBooks.{IsSoundBook}

pub days-whole : (known : Known) (rows : List NumberedOrder) (book : Book) (household : ℕ) → ServeLastSheet known book → AreRowsOf rows book household → days_behind known rows 0 known.sheet first_day ≡ part_of book.accounts household (replay book)
days-whole known rows book household serves are =
    ap (λ (n : ℕ). days_behind known rows 0 n first_day) serves.last
    ∙ sym (replays_as_part known rows book household serves.serve.facts are).whole

pub standing_are_rows : (rows : List NumberedOrder) (book : Book) (household : ℕ) → StandingAreRows rows book household
standing_are_rows rows book household numbered under = record {
  on_sheet = λ place d short.
      let sheet = get_or book.table.sheets place d in
      ap (λ (n : ℕ). orders_under n rows) (sym (numbered.each place d short)) ∙ under sheet;
}

pub can-reopen : (known : Known) (rows : List NumberedOrder) (book : Book) (household : ℕ) → IsSoundBook book → ServeLastSheet known book → AreRowsOf rows book household → CanBeReplayed known household rows 0 known.sheet first_day
can-reopen known rows book household sound serves are =
    let whole = lets_replay known rows book household sound serves.serve.facts serves.serve.terms serves.serve.tables are 0 (length book.table.sheets) (omega arith) in
    let can = subst (λ (n : ℕ). CanReplay known rows household 0 n first_day) (sym serves.last) whole in
    record { facts = can.facts; orders = can.orders; owned = can.owned; lots = can.lots }

pub reopens : (known : Known) (rows : List NumberedOrder) (book : Book) (household : ℕ) → SoundBooksReopen known rows book household
reopens known rows book household sound serves are = record {
  ready = can-reopen known rows book household sound serves are;
  part = days-whole known rows book household serves are;
}

pub ledger_corrected : (known : Known) (before after : Book) (parts new : List (ℕ × HouseholdPart)) → LedgerIsCorrected known before after parts new
ledger_corrected known before after parts new serves same is each = record {
  part = λ household. elim (each household) [
    | inl own ↦ own.part ∙ days-whole known own.rows after household serves own.own
    | inr left ↦
        left.part
        ∙ (is.part household
        ∙ (sym left.leaves.whole
        ∙ ap (λ (accounts : List AccountForm). part_of accounts household (replay after)) (sym same)))
  ];
}

pub opens-none : (kind : EventKind) → is_correction kind ≡ true → account_in kind ≡ None
opens-none (EventKind.Account form) corrects = absurd (true≢false (sym corrects))
opens-none _ corrects = refl

pub keeps_accounts : (journal : Journal) (event : Event) → CorrectionKeepsAccounts journal event
keeps_accounts journal event corrects =
    gathers-on account_in journal event
    ∙ (ap (λ (found : Option AccountForm). accounts_of journal ++ option_to_list found) (opens-none event.kind corrects)
    ∙ append-nil (accounts_of journal))
