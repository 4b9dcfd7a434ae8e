-- What a batch of a dealer's lines brings behind a lawful journal leaves it lawful.
use Rattle.std.proofs.Common.{Bool, Err, List, None, Ok, Result, Some, [], ap, append-nil, append_assoc, arith, false, fold, is_some, not, option_to_list, refl, subst, sym, true, ℕ, ◌++◌, ◌∙◌, ◌∷◌, ◌≡◌, ◌≤◌}
use Rattle.std.proofs.lemmas.Bool.{not-false, true≢false}
use Rattle.std.specs.Option.{option_map_or}
use Rattle.agent_events.specs.Events.{Event, event_of}
use Rattle.agent_events.specs.VerbForms.{Asked}
use Rattle.agent_events.specs.declared.event.EventKind.{EventKind}
use Rattle.agent_events.specs.declared.reply.Refusal.{Refusal}
use Rattle.agent_events.specs.declared.request.Request.{Request}
use Rattle.forward_price.specs.PriceTables.{Table}
use Rattle.register_laws.proofs.AnswersByCases.{each-new}
use Rattle.register_laws.proofs.Choosing.{AllClear, all_clear, none_some, not_when}
use Rattle.register_laws.proofs.CorrectedAgain.{book-again}
use Rattle.register_laws.proofs.MomentsNeverFall.{last-more}
use Rattle.register_laws.proofs.OneEventMore.{gathers-on}
use Rattle.register_laws.proofs.Runs.{table-one}
use Rattle.register_laws.proofs.RunsAreLawful.{IsAmong, answer_is_lawful}
use Rattle.register_laws.specs.Lawful.{own_at}
use Rattle.register_laws.specs.LawfulBatches.{batch_events}
use Rattle.register_machine.specs.journal.Choices.{first_some}
use Rattle.register_machine.specs.journal.Journals.{Journal, last_moment}
use Rattle.register_machine.specs.journal.Kinds.{accounts_of, dealer_in, dealer_numbered, dealers_of}
use Rattle.register_machine.specs.journal.Lawful.{IsLawful}
use Rattle.register_machine.specs.pricing.CorrectedBook.{Book, book_of}
use Rattle.register_machine.specs.pricing.PublishedTable.{table_by, table_of}
use Rattle.agent_events.specs.declared.verdict.Caller.{Caller}
use Rattle.register_machine.specs.rules.Callers.{dealer_may, serves}
use Rattle.register_machine.specs.rules.InOrder.{first_rules}
use Rattle.register_machine.specs.run.Answers.{answer, answer_asked}
use Rattle.register_machine.specs.run.Batches.{BatchAnswer, batch_after_line, batch_answer, situation_behind}
use Rattle.register_machine.specs.run.Verdicts.{due_now}

-- a dealer's line and a cancel change neither the price table nor the dealers
abbrev is_line : EventKind → Bool
is_line (EventKind.Order placed) = true
is_line (EventKind.Cancel form) = true
is_line _ = false

table-kept : (table : Table) (moment : ℕ) (kind : EventKind) → is_line kind ≡ true → table_by table moment kind ≡ table
table-kept table moment (EventKind.Order placed) line = refl
table-kept table moment (EventKind.Cancel form) line = refl
table-kept table moment _ line = absurd (true≢false (sym line))

no-dealer : (kind : EventKind) → is_line kind ≡ true → dealer_in kind ≡ None
no-dealer (EventKind.Order placed) line = refl
no-dealer (EventKind.Cancel form) line = refl
no-dealer _ line = absurd (true≢false (sym line))

-- and a dealer may bring nothing else
brings-line : (is_own : ℕ → Bool) (request : Request) (now due : ℕ) (kind : EventKind) → dealer_may is_own request ≡ true → event_of request now due ≡ Some kind → is_line kind ≡ true
brings-line is_own (Request.Line line) now due kind right e = sym (ap (λ found. option_map_or is_line found true) e)
brings-line is_own (Request.Cancel form) now due kind right e = sym (ap (λ found. option_map_or is_line found true) e)
brings-line is_own (Request.Show account) now due kind right e = absurd (none_some e)
brings-line is_own (Request.Trace form) now due kind right e = absurd (none_some e)
brings-line is_own (Request.Statement form) now due kind right e = absurd (none_some e)
brings-line is_own _ now due kind right e = absurd (true≢false (sym right))

-- what lines keep of a journal
record IsBehind (journal : Journal) (now : ℕ) (events : List Event) : Type 0 where
  lawful : IsLawful (journal ++ events)
  late : last_moment (journal ++ events) ≤ now
  table : table_of (journal ++ events) ≡ table_of journal
  dealers : dealers_of (journal ++ events) ≡ dealers_of journal

record Keeps (journal : Journal) (now : ℕ) (events : List Event) : Type 0 where
  late : last_moment (journal ++ events) ≤ now
  table : table_of (journal ++ events) ≡ table_of journal
  dealers : dealers_of (journal ++ events) ≡ dealers_of journal

keeps-none : (journal : Journal) (now : ℕ) → last_moment journal ≤ now → Keeps journal now []
keeps-none journal now late = record {
  late = subst (λ j. last_moment j ≤ now) (sym (append-nil journal)) late;
  table = ap table_of (append-nil journal);
  dealers = ap dealers_of (append-nil journal);
}

-- what a dealer's request brings behind a journal keeps them
keeps-answer : (journal : Journal) (now dealer : ℕ) (request : Request) → last_moment journal ≤ now → Keeps journal now (answer (own_at journal now (Caller.Dealer dealer)) request).events
unfolding AllClear
keeps-answer journal now dealer request late =
    each-new (λ said. Keeps journal now said.events) (own_at journal now (Caller.Dealer dealer)) request
    (λ reply. keeps-none journal now late)
    (λ allowed new clear kind brings keeps. by_kind kind (line allowed kind brings))
  where
    right : first_some (first_rules (own_at journal now (Caller.Dealer dealer)) request) ≡ None → dealer_may (serves (accounts_of journal) dealer) request ≡ true
    right allowed =
        not-false (dealer_may (serves (accounts_of journal) dealer) request)
        (not_when (not (dealer_may (serves (accounts_of journal) dealer) request)) Refusal.NoRight
        (all_clear (first_rules (own_at journal now (Caller.Dealer dealer)) request) allowed).0)

    line : first_some (first_rules (own_at journal now (Caller.Dealer dealer)) request) ≡ None → (kind : EventKind) → event_of request now (due_now (own_at journal now (Caller.Dealer dealer)) request) ≡ Some kind → is_line kind ≡ true
    line allowed kind brings =
        brings-line (serves (accounts_of journal) dealer) request now (due_now (own_at journal now (Caller.Dealer dealer)) request) kind (right allowed) brings

    by_kind : (kind : EventKind) → is_line kind ≡ true → Keeps journal now (record { moment = now; kind = kind } ∷ [])
    by_kind kind is = record {
      late = let same = last-more journal (record { moment = now; kind = kind }) in omega (arith, same);
      table = table-one journal (record { moment = now; kind = kind }) ∙ table-kept (table_of journal) now kind is;
      dealers = gathers-on dealer_in journal (record { moment = now; kind = kind })
          ∙ (ap (λ found. dealers_of journal ++ option_to_list found) (no-dealer kind is) ∙ append-nil (dealers_of journal));
    }

-- the situation behind such events is that of their journal's own book
own-behind : (journal : Journal) (now : ℕ) (caller : Caller) (events : List Event) → table_of (journal ++ events) ≡ table_of journal → situation_behind (own_at journal now caller) events ≡ own_at (journal ++ events) now caller
own-behind journal now caller events same =
    ap (λ (book : Book). record { journal = journal ++ events; book = book; now = now; caller = caller })
    (book-again (table_of journal) journal events ∙ ap (λ table. book_of table (journal ++ events)) (sym same))

behind-line : (journal : Journal) (now dealer : ℕ) (so_far : BatchAnswer) (asked : Asked) → is_some (dealer_numbered (dealers_of journal) dealer) ≡ true → IsBehind journal now so_far.events → IsBehind journal now (batch_after_line (own_at journal now (Caller.Dealer dealer)) so_far asked).events
behind-line journal now dealer so_far asked among behind =
    subst (λ situation. IsBehind journal now (so_far.events ++ (answer_asked situation asked).events))
    (sym (own-behind journal now (Caller.Dealer dealer) so_far.events behind.table)) (by_asked asked)
  where
    said-none : IsBehind journal now (so_far.events ++ [])
    said-none = subst (IsBehind journal now) (sym (append-nil so_far.events)) behind

    said-more : (request : Request) → IsBehind journal now (so_far.events ++ (answer (own_at (journal ++ so_far.events) now (Caller.Dealer dealer)) request).events)
    said-more request =
        let more = (answer (own_at (journal ++ so_far.events) now (Caller.Dealer dealer)) request).events in
        let keeps = keeps-answer (journal ++ so_far.events) now dealer request behind.late in
        let same = append_assoc journal so_far.events more in
        record {
          lawful = subst IsLawful same
              (answer_is_lawful (journal ++ so_far.events) now (Caller.Dealer dealer) request
              (subst (λ dealers. is_some (dealer_numbered dealers dealer) ≡ true) (sym behind.dealers) among) behind.late behind.lawful);
          late = subst (λ j. last_moment j ≤ now) same keeps.late;
          table = ap table_of (sym same) ∙ (keeps.table ∙ behind.table);
          dealers = ap dealers_of (sym same) ∙ (keeps.dealers ∙ behind.dealers);
        }

    by_asked : (asked : Asked) → IsBehind journal now (so_far.events ++ (answer_asked (own_at (journal ++ so_far.events) now (Caller.Dealer dealer)) asked).events)
    by_asked (Ok request) = said-more request
    by_asked (Err place) = said-none

behind-lines : (journal : Journal) (now dealer : ℕ) (so_far : BatchAnswer) (lines : List Asked) → is_some (dealer_numbered (dealers_of journal) dealer) ≡ true → IsBehind journal now so_far.events → IsBehind journal now (fold (batch_after_line (own_at journal now (Caller.Dealer dealer))) so_far lines).events
behind-lines journal now dealer so_far [] among behind = behind
behind-lines journal now dealer so_far (asked ∷ lines) among behind =
    behind-lines journal now dealer (batch_after_line (own_at journal now (Caller.Dealer dealer)) so_far asked) lines among
    (behind-line journal now dealer so_far asked among behind)

-- whoever sends it, and whatever is read
pub batch-by : (journal : Journal) (now : ℕ) (caller : Caller) (lines : Result (List Asked) ℕ) → IsAmong (dealers_of journal) caller → IsLawful journal → last_moment journal ≤ now → IsLawful (journal ++ batch_events (batch_answer (own_at journal now caller) lines))
batch-by journal now caller (Err place) among lawful late = subst IsLawful (sym (append-nil journal)) lawful
batch-by journal now (Caller.Dealer dealer) (Ok lines) among lawful late =
    (behind-lines journal now dealer (record { replies = []; events = [] }) lines among first).lawful
  where
    none : Keeps journal now []
    none = keeps-none journal now late

    first : IsBehind journal now []
    first = record {
      lawful = subst IsLawful (sym (append-nil journal)) lawful;
      late = none.late;
      table = none.table;
      dealers = none.dealers;
    }
batch-by journal now Caller.Operator (Ok lines) among lawful late = subst IsLawful (sym (append-nil journal)) lawful
batch-by journal now (Caller.Household household) (Ok lines) among lawful late = subst IsLawful (sym (append-nil journal)) lawful
batch-by journal now Caller.Stranger (Ok lines) among lawful late = subst IsLawful (sym (append-nil journal)) lawful
