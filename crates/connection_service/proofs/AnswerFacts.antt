-- What a request gets, by what became of its reply and of its events.
use Rattle.std.proofs.Common.{Err, IfOk, IfSome, List, OnErr, OnOk, Ok, Option, Result, [], ap, drop, max, option_map, refl, subst, sym, ℕ, ◌++◌, ◌∙◌, ◌≡◌, ◌≢◌, ◌≤◌, append-nil, append_assoc, arith}
use Rattle.std.specs.Prelude.{Bool, IsErrOf}
use Rattle.agent_edge.specs.Readings.{next_reading}
use Rattle.agent_events.specs.declared.reply.Refusal.{Refusal}
use Rattle.agent_events.specs.declared.reply.Reply.{Reply}
use Rattle.agent_events.specs.declared.verdict.Caller.{Caller}
use Rattle.agent_keeper.specs.Calls.{Answer, Counts, GoesOn}
use Rattle.agent_keeper.specs.declared.fault.KeepFault.{KeepFault}
use Rattle.connection_service.specs.Answers.{Gets, Kept, Reads, Said, clock_at, kept_at, kept_text, said_to_bad_form, situation_read, text_of}
use Rattle.agent_http.specs.Bytes.{bytes_of, fault_bytes}
use Rattle.http_stream.specs.declared.fault.HttpFault.{HttpFault}
use Rattle.register_laws.specs.Lawful.{own_at}
use Rattle.register_machine.specs.journal.Journals.{Journal, last_moment}
use Rattle.register_machine.specs.rules.Callers.{caller_of}
use Rattle.register_machine.specs.rules.Situations.{Situation}

pub gets-by : (last : Bool) (said : Said) (old new : Journal) (before after : ℕ) (result : Result (List ℕ) KeepFault)
    → IfOk result (λ bytes. bytes ≡ said.bytes) → OnOk result (new ≡ old ++ said.events) → OnErr result (new ≡ old)
    → (IsErrOf result KeepFault.Failed → said.events ≢ []) → Counts before after result
    → Gets last said (kept_at old before) (text_of last (kept_text result)) (kept_at new after)
gets-by last said old new before after (Ok bytes) is grown same due counted =
    let count : after ≡ before = counted.same (λ e. cc) in
    Gets.Answered is (ap (λ (journal : Journal). kept_at journal after) grown ∙ ap (λ (n : ℕ). kept_at (old ++ said.events) n) count)
gets-by last said old new before after (Err KeepFault.Failed) is grown same due counted =
    Gets.NotKept refl (due refl) (counted.rose refl) same
gets-by last said old new before after (Err KeepFault.NoMemory) is grown same due counted =
    let count : after ≡ before = counted.same (λ e. cc) in
    Gets.NoMemory refl (ap (λ (journal : Journal). kept_at journal after) same ∙ ap (λ (n : ℕ). kept_at old n) count)

-- the journal only grows
pub grown-by : (old new events : Journal) (result : Result (List ℕ) KeepFault) → OnOk result (new ≡ old ++ events) → OnErr result (new ≡ old)
    → (more : Journal) × (new ≡ old ++ more)
grown-by old new events (Ok bytes) grown same = (events, grown)
grown-by old new events (Err fault) grown same = ([], same ∙ sym (append-nil old))

pub goes-then : {K : Type 0} (moment : K → ℕ) (gave : K → ℕ → Answer → Type 0) (old mid new : K) → GoesOn moment gave old mid → GoesOn moment gave mid new → GoesOn moment gave old new
goes-then moment gave old mid new first second = record {
  later = omega arith;
  kept = λ since answer given. second.kept since answer (first.kept since answer given);
}

pub grown-then : (old mid new : Journal) → (more : Journal) × (mid ≡ old ++ more) → (more : Journal) × (new ≡ mid ++ more) → (more : Journal) × (new ≡ old ++ more)
grown-then old mid new (first, a) (second, b) =
    (first ++ second, b ∙ ap (λ (journal : Journal). journal ++ second) a ∙ append_assoc old first second)

-- one reading of a clock
pub reads-by : (last now reading : ℕ) (coming rest : Option (List ℕ)) → IfSome coming (λ readings. reading ≡ next_reading last readings) → rest ≡ option_map (drop 1) coming
    → now ≡ reading → last ≤ reading → Reads (clock_at last coming) reading (clock_at now rest)
reads-by last now reading coming rest told left is later = record {
  told = told;
  never_falls = later;
  new_is = ap (λ (n : ℕ). clock_at n rest) is ∙ ap (λ (known : Option (List ℕ)). clock_at reading known) left;
}

-- what holds at a moment and a caller that were looked up holds at the reading
pub read-gets : (operator : List ℕ) (journal : Journal) (key : List ℕ) (reading moment : ℕ) (caller : Caller) (P : Situation → Type 0)
    → moment ≡ max reading (last_moment journal) → caller ≡ caller_of journal operator key → P (own_at journal moment caller) → P (situation_read operator journal key reading)
read-gets operator journal key reading moment caller P at who holds =
    subst (λ (known : Caller). P (own_at journal (max reading (last_moment journal)) known)) who
    (subst (λ (n : ℕ). P (own_at journal n caller)) at holds)

-- want of memory leaves all as it was
pub gets-no_memory : (last : Bool) (said : Said) (kept : Kept) → Gets last said kept (fault_bytes HttpFault.S507 last) kept
gets-no_memory last said kept = Gets.NoMemory refl refl

pub gets-bad_form : (last : Bool) (place : ℕ) (bytes : List ℕ) (journal : Journal) (faults : ℕ) → bytes ≡ bytes_of (Reply.Refused (Refusal.BadForm place)) last
    → Gets last (said_to_bad_form last place) (kept_at journal faults) bytes (kept_at journal faults)
gets-bad_form last place bytes journal faults is =
    Gets.Answered is (ap (λ (known : Journal). kept_at known faults) (sym (append-nil journal)))
