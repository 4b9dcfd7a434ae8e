-- The summary of a load: its accepted events, the sheets among them, the refused requests, the orders that are filled and
-- unfilled in the final register, and the shares and the cash of each class.
use Rattle.std.specs.Prelude.{ℕ, ◌++◌, Bool, true, false, List, [], ◌∷◌, codes, flat_map, length, map}
use Rattle.std.specs.List.{count_by}
use Rattle.agent_events.specs.declared.reply.OrderState.{OrderState}
use Rattle.agent_events.specs.declared.reply_lists.ClassBooks.{ClassBooks}
use Rattle.money_units.specs.Texts.{number_text, shares_text, signed_text}
use Rattle.register_machine.specs.corrections.Gains.{class_numbers_of}
use Rattle.register_machine.specs.corrections.Payments.{booked_movements}
use Rattle.register_machine.specs.journal.Journals.{Journal, last_moment}
use Rattle.register_machine.specs.journal.Kinds.{each_in, sheet_in}
use Rattle.register_machine.specs.pricing.CorrectedBook.{Book}
use Rattle.register_machine.specs.queries.Books.{class_books}
use Rattle.register_machine.specs.queries.Trace.{trace_of_row}
use Rattle.register_machine.specs.replay.Replay.{replay}
use Rattle.load_requests.specs.Requests.{requests_of}
use Rattle.load_requests.specs.Runs.{LoadRun, operator_at, run_over}
use Rattle.load_requests.specs.declared.load.Load.{Load}

pub record Summary : Type 0 where
  pub events : ℕ
  pub sheets : ℕ
  pub refused : ℕ
  pub filled : ℕ
  pub unfilled : ℕ
  pub classes : List ClassBooks

-- an order that is filled, and one that stands on a sheet without being filled
abbrev pub is_filled : OrderState → Bool
is_filled OrderState.Filled = true
is_filled _ = false

abbrev pub is_unfilled : OrderState → Bool
is_unfilled OrderState.Short = true
is_unfilled OrderState.Small = true
is_unfilled OrderState.Ceiling = true
is_unfilled OrderState.Letter = true
is_unfilled _ = false

-- how many orders of a book are in such a state, as their traces show them
abbrev pub orders_in : (OrderState → Bool) → Book → ℕ
orders_in test book = count_by (λ row. test (trace_of_row book row).state) book.orders

-- the outstanding shares and the cash of each class, as the books show them
abbrev pub classes_in : Journal → Book → List ClassBooks
classes_in journal book =
    let day = replay book in
    map (class_books day.register (booked_movements journal day)) (class_numbers_of journal)

abbrev pub summary_of : LoadRun → Summary
summary_of run =
    let book = (operator_at run.journal (last_moment run.journal)).book in
    record {
      events = length run.journal;
      sheets = length (each_in sheet_in run.journal);
      refused = run.refused;
      filled = orders_in is_filled book;
      unfilled = orders_in is_unfilled book;
      classes = classes_in run.journal book;
    }

-- the summary as text: a line for each count, then one for each class
abbrev pub count_line : List ℕ → ℕ → List ℕ
count_line name count = name ++ 32 ∷ number_text count

abbrev pub class_line : ClassBooks → List ℕ
class_line books =
    codes "class " ++ number_text books.class ++ codes " shares " ++ shares_text books.outstanding ++ codes " cash "
    ++ signed_text books.cash

abbrev pub summary_lines : Summary → List (List ℕ)
summary_lines summary =
    (count_line (codes "events") summary.events ∷ count_line (codes "sheets") summary.sheets
    ∷ count_line (codes "refused") summary.refused ∷ count_line (codes "filled") summary.filled
    ∷ count_line (codes "unfilled") summary.unfilled ∷ [])
    ++ map class_line summary.classes

-- each line ends with a line feed
abbrev pub summary_text : Summary → List ℕ
summary_text summary = flat_map (λ line. line ++ 10 ∷ []) (summary_lines summary)

-- what a load prints
abbrev pub load_summary : Load → Summary
load_summary load = summary_of (run_over (requests_of load))

abbrev pub load_text : Load → List ℕ
load_text load = summary_text (load_summary load)
