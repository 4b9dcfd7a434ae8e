-- A run of the register machine over the items of a script from a journal on, and what is answered and kept where it ends.
use Rattle.std.specs.Prelude.{Err, List, Ok, Option, Result, Some, [], length, slice_get, take, ℕ, ◌++◌, ◌∷◌, ◌≡◌, ◌≤◌}
use Rattle.std.specs.Io.KnownBytes.{Appends}
use Rattle.script_answers.specs.declared.answering.AnswerFault.{AnswerFault}
use Rattle.script_answers.specs.declared.answering.AnswerFault.TheVariants.{Keeper, NoMemory, Write}
use Rattle.agent_edge.specs.Counts.{Rose}
use Rattle.agent_events.specs.declared.item.ScriptItem.{ScriptItem}
use Rattle.agent_keeper.specs.Calls.{Rose as KeeperRose}
use Rattle.agent_keeper.specs.Content.{Content}
use Rattle.register_desk.specs.Rows.{TellsRowsOf}
use Rattle.register_machine.specs.journal.Journals.{Journal}
use Rattle.register_machine.specs.pricing.PublishedTable.{table_of}
use Rattle.register_machine.specs.run.Answers.{Answer}
use Rattle.register_machine.specs.run.Scripts.{Run, item_answer, reply_line, run_from}

-- the run at a journal, before its first item
abbrev pub run_at : Journal → Run
run_at journal = record { journal = journal; table = table_of journal; lines = [] }

-- the run over these items, from a journal on
abbrev pub run_over : List ℕ → Journal → List ScriptItem → Run
run_over operator journal items = run_from operator (run_at journal) items

-- the machine's answer to an item behind a journal
abbrev pub answer_behind : List ℕ → Journal → ScriptItem → Answer
answer_behind operator journal item = item_answer operator (run_at journal) item

-- the line of an item, behind others
abbrev pub line_behind : List ℕ → Journal → List ScriptItem → ScriptItem → List ℕ
line_behind operator opened items item =
    reply_line (answer_behind operator (run_over operator opened items).journal item).reply

-- known bytes grow by a front of these
abbrev pub AppendsFront : Option (List ℕ) → Option (List ℕ) → List ℕ → Type 0
AppendsFront old new bytes = (count : ℕ) × (count ≤ length bytes) × Appends old new (take count bytes)

-- The items were answered: the bytes grew by exactly their lines, and where rows are told they are those of the run's journal.
pub record AreAnswered (operator : List ℕ) (opened : Journal) (items : List ScriptItem) (told : Content → Type 0) (old new : Option (List ℕ)) : Type 0 where
  pub lines : Appends old new (run_over operator opened items).lines
  pub kept : TellsRowsOf told (run_over operator opened items).journal

-- The items were answered, and behind them one more, of whose line a front was written.
pub record CutsShort (operator : List ℕ) (opened : Journal) (items : List ScriptItem) (item : ScriptItem) (told : Content → Type 0) (old new : Option (List ℕ)) : Type 0 where
  pub front : (count : ℕ) × (count ≤ length (line_behind operator opened items item))
      × Appends old new ((run_over operator opened items).lines ++ take count (line_behind operator opened items item))
  pub kept : TellsRowsOf told (run_over operator opened (items ++ item ∷ [])).journal

-- one of the items was cut short, behind those before it
abbrev pub IsCutShort : List ℕ → Journal → List ScriptItem → (Content → Type 0) → Option (List ℕ) → Option (List ℕ) → Type 0
IsCutShort operator opened items told old new =
    (place : ℕ) × (item : ScriptItem) × (slice_get items place ≡ Some item)
    × CutsShort operator opened (take place items) item told old new

-- The items were answered, and a front of a line more was written.
pub record AreEndedBy (said operator : List ℕ) (opened : Journal) (items : List ScriptItem) (told : Content → Type 0) (old new : Option (List ℕ)) : Type 0 where
  pub lines : AppendsFront old new ((run_over operator opened items).lines ++ said)
  pub kept : TellsRowsOf told (run_over operator opened items).journal

-- there are so many items at the front that this is true of them
abbrev pub OfFront : (List ScriptItem → Type 0) → List ScriptItem → Type 0
OfFront Holds items = (count : ℕ) × (count ≤ length items) × Holds (take count items)

-- What the items leave, by how their answers end.
abbrev pub EndsAs : List ℕ → Journal → List ScriptItem → (Content → Type 0) → Option (List ℕ) → Option (List ℕ) → Result Unit AnswerFault → Type 0
EndsAs operator opened items told old new (Ok done) = AreAnswered operator opened items told old new
EndsAs operator opened items told old new (Err Write) = IsCutShort operator opened items told old new
EndsAs operator opened items told old new (Err Keeper) = OfFront (λ front. AreAnswered operator opened front told old new) items
EndsAs operator opened items told old new (Err NoMemory) = OfFront (λ front. AreAnswered operator opened front told old new) items

-- The sink's count rose where a write failed and nowhere else, and the keeper's where the keeper failed.
abbrev pub CountsEnds : ℕ → ℕ → ℕ → ℕ → Result Unit AnswerFault → Type 0
CountsEnds kept_before kept_after before after (Ok done) = after ≡ before
CountsEnds kept_before kept_after before after (Err Write) = Rose before after
CountsEnds kept_before kept_after before after (Err Keeper) = KeeperRose kept_before kept_after × (after ≡ before)
CountsEnds kept_before kept_after before after (Err NoMemory) = after ≡ before
