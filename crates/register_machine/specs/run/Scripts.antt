-- A run over a script: its records by CSV (RFC 4180), read and written by the crate `csv`'s own words, each answered by one
-- line in turn. The moments of the items are their own, and none may be smaller than the journal's last.
use Rattle.std.specs.Prelude.{Err, List, Ok, Result, [], ℕ, ◌++◌, flat_map, fold, if◌then◌else◌, map, nat_lt}
use Rattle.agent_events.specs.AnswerTexts.{answer_texts}
use Rattle.agent_events.specs.Items.{batch_lines, script_item}
use Rattle.agent_events.specs.declared.item.ScriptItem.{ScriptItem}
use Rattle.agent_events.specs.declared.reply.Refusal.{Refusal}
use Rattle.agent_events.specs.declared.reply.Reply.{Reply}
use Rattle.csv.specs.Reading.{default_config, records, strip_bom}
use Rattle.csv.specs.Writing.{default_writer, row_text}
use Rattle.forward_price.specs.PriceTables.{Table}
use Rattle.register_machine.specs.journal.Journals.{Journal, last_moment}
use Rattle.register_machine.specs.pricing.PublishedTable.{empty_table, table_behind}
use Rattle.register_machine.specs.rules.Callers.{caller_of}
use Rattle.register_machine.specs.rules.Situations.{Situation, situation_at}
use Rattle.register_machine.specs.run.Answers.{Answer, answer_asked, refuses}
use Rattle.register_machine.specs.run.Batches.{BatchAnswer, batch_answer}

-- the line of a reply, with its line feed
abbrev pub reply_line : Reply → List ℕ
reply_line reply = row_text default_writer (answer_texts reply)

-- the items of a script
abbrev pub script_items : List ℕ → List ScriptItem
script_items script = map script_item (records default_config (strip_bom script))

-- the journal with its price table, and the lines answered so far
pub record Run : Type 0 where
  pub journal : Journal
  pub table : Table
  pub lines : List ℕ

abbrev pub run_after : Run → Answer → Run
run_after run answered = record {
  journal = run.journal ++ answered.events;
  table = table_behind run.table answered.events;
  lines = run.lines ++ reply_line answered.reply;
}

abbrev pub situation_in : List ℕ → Run → ℕ → List ℕ → Situation
situation_in operator run now key =
    situation_at run.table run.journal now (caller_of run.journal operator key)

-- an item by its moment: one smaller than the journal's last is refused before its verb is read
abbrev pub item_answer : List ℕ → Run → ScriptItem → Answer
item_answer operator run ScriptItem.Bad = refuses (Refusal.BadForm 0)
item_answer operator run (ScriptItem.Good now key asked) =
    if nat_lt now (last_moment run.journal) then refuses (Refusal.StampBack (last_moment run.journal))
    else answer_asked (situation_in operator run now key) asked

unfoldable pub item_step : List ℕ → Run → ScriptItem → Run
item_step operator run item = run_after run (item_answer operator run item)

abbrev pub empty_run : Run
empty_run = record { journal = []; table = empty_table; lines = [] }

unfoldable pub run_from : List ℕ → Run → List ScriptItem → Run
run_from operator run items = fold (item_step operator) run items

-- the lines of a script, from the operator's key and the script's bytes, behind the empty journal
abbrev pub script_text : List ℕ → List ℕ → List ℕ
script_text operator script = (run_from operator empty_run (script_items script)).lines

-- the lines that a batch gets behind a run: those of its replies, or that of the refusal of the whole batch
abbrev pub batch_reply : Result BatchAnswer Refusal → List ℕ
batch_reply (Ok answered) = flat_map reply_line answered.replies
batch_reply (Err refusal) = reply_line (Reply.Refused refusal)

-- a batch as it is sent: when, with which key, and its bytes
pub record BatchSent : Type 0 where
  pub now : ℕ
  pub key : List ℕ
  pub bytes : List ℕ

abbrev pub batch_text : List ℕ → Run → BatchSent → List ℕ
batch_text operator run sent =
    batch_reply
    (batch_answer (situation_in operator run sent.now sent.key)
    (batch_lines (records default_config (strip_bom sent.bytes))))
