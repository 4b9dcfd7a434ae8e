-- What a text tells of what was kept.
use Rattle.std.proofs.Common.{Err, List, Ok, Result, ap, get_or, inl, inr, refl, sym, ℕ, ◌==◌, ◌∙◌, ◌≡◌}
use Rattle.std.proofs.lemmas.Bool.{true≢false}
use Rattle.std.specs.Fmt.{digits}
use Rattle.std.specs.Prelude.{Bool, false, true}
use Rattle.agent_events.specs.declared.reply.Refusal.{Refusal}
use Rattle.agent_events.specs.declared.reply.Reply.{Reply}
use Rattle.connection_service.specs.Answers.{AnswersBy, At, Gets, Kept, Said, said_to_lines}
use Rattle.connection_service.specs.Requests.{SaysUnkept}
use Rattle.agent_http.specs.declared.calls.CallAsk.{CallAsk}
use Rattle.agent_http.specs.ReplyBodies.{json_body}
use Rattle.agent_http.specs.Bytes.{bytes_of, json_kind, refusal_status, reply_of}
use Rattle.register_machine.specs.run.Batches.{BatchAnswer}

-- the status of a text is 500 or above, by its first digit, which is a 5 behind `HTTP/1.1 `
abbrev is_fault : List ℕ → Bool
is_fault bytes = get_or bytes 9 0 == 53

unkept-fault : (last : Bool) (bytes : List ℕ) → SaysUnkept last bytes → is_fault bytes ≡ true
unfolding digits
unkept-fault last bytes (inl is) = ap is_fault is
unkept-fault last bytes (inr is) = ap is_fault is

refusal-no_fault : (refusal : Refusal) (kind body : List ℕ) (last : Bool) → is_fault (reply_of (refusal_status refusal) kind last body) ≡ false
unfolding digits
refusal-no_fault Refusal.NoRight kind body last = refl
refusal-no_fault _ kind body last = refl

reply-no_fault : (reply : Reply) (last : Bool) → is_fault (bytes_of reply last) ≡ false
unfolding digits
reply-no_fault (Reply.Refused refusal) last = refusal-no_fault refusal json_kind (json_body (Reply.Refused refusal)) last
reply-no_fault _ last = refl

lines-no_fault : (last : Bool) (answered : Result BatchAnswer Refusal) → is_fault (said_to_lines last answered).bytes ≡ false
unfolding digits
lines-no_fault last (Ok answered) = refl
lines-no_fault last (Err refusal) = reply-no_fault (Reply.Refused refusal) last

gets-unkept : (last : Bool) (said : Said) (old : Kept) (bytes : List ℕ) (new : Kept) → is_fault said.bytes ≡ false
    → Gets last said old bytes new → SaysUnkept last bytes → new.journal ≡ old.journal
gets-unkept last said old bytes new plain (Gets.Answered is next) unkept =
    absurd (true≢false (sym (unkept-fault last bytes unkept) ∙ ap is_fault is ∙ plain))
gets-unkept last said old bytes new plain (Gets.NoMemory is next) unkept = ap (λ (kept : Kept). kept.journal) next
gets-unkept last said old bytes new plain (Gets.NotKept is some rose next) unkept = next

pub by-unkept : (operator key : List ℕ) (last : Bool) (ask : CallAsk) (old : At) (bytes : List ℕ) (new : At)
    → AnswersBy operator key last ask old bytes new → SaysUnkept last bytes → new.kept.journal ≡ old.kept.journal
by-unkept operator key last (CallAsk.Request request) old bytes new is unkept =
    gets-unkept last _ old.kept bytes new.kept (reply-no_fault _ last) is.gets unkept
by-unkept operator key last (CallAsk.BadForm place) old bytes new is unkept =
    gets-unkept last _ old.kept bytes new.kept (reply-no_fault (Reply.Refused (Refusal.BadForm place)) last) is.gets unkept
by-unkept operator key last (CallAsk.Batch lines) old bytes new is unkept =
    gets-unkept last _ old.kept bytes new.kept (lines-no_fault last _) is.gets unkept
by-unkept operator key last (CallAsk.Fault fault) old bytes new is unkept = ap (λ (at : At). at.kept.journal) is.1
