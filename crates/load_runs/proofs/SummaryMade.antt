-- The summary of a load by its parts.
use Rattle.std.proofs.Common.{List, ap, arith, length, ℕ, ◌∙◌, ◌≡◌}
use Rattle.agent_events.specs.declared.reply_lists.ClassBooks.{ClassBooks}
use Rattle.load_requests.specs.Runs.{LoadRun}
use Rattle.load_requests.specs.Summaries.{Summary, classes_in, is_filled, is_unfilled, orders_in, summary_of}
use Rattle.register_laws.specs.Lawful.{book_behind}
use Rattle.holder_statements.specs.EventReplies.{CountsItsSheets}
use Rattle.register_machine.specs.journal.Journals.{Journal}
use Rattle.register_machine.specs.journal.Kinds.{each_in, sheet_in}

summary-by : ℕ → ℕ → ℕ → ℕ → ℕ → List ClassBooks → Summary
summary-by events sheets refused filled unfilled classes =
    record { events = events; sheets = sheets; refused = refused; filled = filled; unfilled = unfilled; classes = classes }

same-summary : (a b c d e : ℕ) (f : List ClassBooks) (events sheets refused filled unfilled : ℕ) (classes : List ClassBooks) → a ≡ events → b ≡ sheets → c ≡ refused → d ≡ filled → e ≡ unfilled → f ≡ classes → summary-by a b c d e f ≡ summary-by events sheets refused filled unfilled classes
same-summary a b c d e f events sheets refused filled unfilled classes is_a is_b is_c is_d is_e is_f = cc

-- what was counted and seen of a run
pub record IsCounted (run : LoadRun) (summary : Summary) : Type 0 where
  pub events : summary.events ≡ length run.journal
  pub sheets : summary.sheets ≡ length (each_in sheet_in run.journal)
  pub refused : summary.refused ≡ run.refused
  pub filled : summary.filled ≡ orders_in is_filled (book_behind run.journal)
  pub unfilled : summary.unfilled ≡ orders_in is_unfilled (book_behind run.journal)
  pub classes : summary.classes ≡ classes_in run.journal (book_behind run.journal)

pub summary_made : (run : LoadRun) (summary : Summary) → IsCounted run summary → summary ≡ summary_of run
unfolding summary-by
summary_made run summary is =
    let book = book_behind run.journal in
    same-summary summary.events summary.sheets summary.refused summary.filled summary.unfilled summary.classes
    (length run.journal) (length (each_in sheet_in run.journal)) run.refused (orders_in is_filled book) (orders_in is_unfilled book) (classes_in run.journal book)
    is.events is.sheets is.refused is.filled is.unfilled is.classes

-- the sheets of the table are those that the journal publishes
pub sheets_counted : (count : ℕ) (now journal : Journal) → count ≡ length (book_behind now).table.sheets → now ≡ journal → CountsItsSheets journal → count ≡ length (each_in sheet_in journal)
sheets_counted count now journal is same counts =
    let here = is ∙ ap (λ (j : Journal). length (book_behind j).table.sheets) same in
    omega (arith, here, counts)
