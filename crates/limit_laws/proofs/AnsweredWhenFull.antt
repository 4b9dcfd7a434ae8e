-- Behind a full journal nothing is appended, an event more is refused for it, and looks are answered as ever.
use Rattle.std.proofs.Common.{List, None, Option, Some, [], ap, arith, false, inl, inr, length, map, nat_le, refl, sym, true, ℕ, ◌&&◌, ◌++◌, ◌∙◌, ◌∷◌, ◌≡◌, ◌≤◌}
use Rattle.std.proofs.lemmas.Bool.{true≢false}
use Rattle.std.proofs.lemmas.Bool.Decides.{leb_tells}
use Rattle.std.specs.List.{AllByRecursion}
use Rattle.std.specs.Option.{option_map_or, option_or}
use Rattle.agent_events.specs.Events.{event_of}
use Rattle.agent_events.specs.declared.event.EventKind.{EventKind}
use Rattle.agent_events.specs.declared.reply.Refusal.{Refusal}
use Rattle.agent_events.specs.declared.request.Request.{Request}
use Rattle.limit_laws.specs.FullJournals.{BreaksNoOther, FullJournalsAnswer, IsFull, LooksAreAnswered, look_answer}
use Rattle.register_laws.proofs.AnswersByCases.{appends_at_most_it, repeats_its_first}
use Rattle.register_laws.proofs.Choosing.{none_some, some_none}
use Rattle.register_laws.proofs.RefusedByFirst.{query-new}
use Rattle.register_laws.proofs.RulesByName.{not_broken}
use Rattle.register_laws.specs.Answers.{is_query}
use Rattle.register_machine.specs.journal.Choices.{first_some, when}
use Rattle.register_machine.specs.rules.InOrder.{Rule, broken_by, broken_rule}
use Rattle.register_machine.specs.rules.Limits.{brings_event, journal_full}
use Rattle.register_machine.specs.rules.NamedThings.{none_such}
use Rattle.register_machine.specs.rules.Sheets.{sheet_fault}
use Rattle.register_machine.specs.rules.Situations.{Situation, no_right}
use Rattle.register_machine.specs.rules.Terms.{bad_terms}
use Rattle.register_machine.specs.run.Answers.{answer, answer_by, query_reply, refuses, says}
use Rattle.register_machine.specs.run.Verdicts.{due_now, verdict_by_event, verdict_by_place, verdict_by_right, verdict_by_rule}

-- ---- looks

-- a look that has no terms, is new, breaks no rule but that on what is absent, and brings no event
look-by : (situation : Situation) (request : Request) → bad_terms situation request ≡ None → is_query request ≡ true → broken_rule situation request ≡ option_or (none_such situation request) None → event_of request situation.now (due_now situation request) ≡ None → answer situation request ≡ look_answer situation request
look-by situation request good asks rules looks = by_right (no_right situation request)
  where
    by_named : (named : Option Refusal) → answer_by situation request (verdict_by_rule situation request (option_or named None)) ≡ option_map_or refuses (option_or named None) (says (query_reply situation request))
    by_named (Some why) = refl
    by_named None = ap (λ found. answer_by situation request (verdict_by_event situation found)) looks

    by_right : (right : Option Refusal) → answer_by situation request (verdict_by_right situation request (option_or right (option_or (bad_terms situation request) None))) ≡ option_map_or refuses (option_or right (option_or (none_such situation request) None)) (says (query_reply situation request))
    by_right (Some why) = refl
    by_right None =
        ap (λ bad. answer_by situation request (verdict_by_right situation request (option_or bad None))) good
        ∙ (ap (λ place. answer_by situation request (verdict_by_place situation request place)) (query-new situation request asks)
        ∙ (ap (λ broken. answer_by situation request (verdict_by_rule situation request broken)) rules
        ∙ by_named (none_such situation request)))

pub looks_are_answered : (situation : Situation) (request : Request) → LooksAreAnswered situation request
looks_are_answered situation (Request.Show account) asks =
    look-by situation (Request.Show account) refl asks refl refl
looks_are_answered situation (Request.Trace form) asks = look-by situation (Request.Trace form) refl asks refl refl
looks_are_answered situation (Request.Statement form) asks =
    look-by situation (Request.Statement form) refl asks refl refl
looks_are_answered situation Request.Books asks = look-by situation Request.Books refl asks refl refl
looks_are_answered situation _ asks = absurd (true≢false (sym asks))

-- ---- what would be appended

-- a request that is no look brings an event, and a look brings none
brings : (request : Request) → is_query request ≡ false → brings_event request ≡ true
brings (Request.Show account) asks = absurd (true≢false asks)
brings (Request.Trace form) asks = absurd (true≢false asks)
brings (Request.Statement form) asks = absurd (true≢false asks)
brings Request.Books asks = absurd (true≢false asks)
brings _ asks = refl

brought : (request : Request) (now due : ℕ) (kind : EventKind) → event_of request now due ≡ Some kind → is_query request ≡ false
brought (Request.Show account) now due kind e = absurd (none_some e)
brought (Request.Trace form) now due kind e = absurd (none_some e)
brought (Request.Statement form) now due kind e = absurd (none_some e)
brought Request.Books now due kind e = absurd (none_some e)
brought _ now due kind e = refl

is-full : (situation : Situation) (request : Request) → IsFull situation.journal → is_query request ≡ false → journal_full situation request ≡ Some Refusal.JournalFull
is-full situation request full asks =
    ap (λ b. when (b && nat_le 100000000 (length situation.journal)) Refusal.JournalFull) (brings request asks)
    ∙ ap (λ b. when b Refusal.JournalFull) (at_limit (length situation.journal) full)
  where
    at_limit : (count : ℕ) → 100000000 ≤ count → nat_le 100000000 count ≡ true
    at_limit count many = elim (leb_tells 100000000 count) [
      | inl (t, le) ↦ t
      | inr (t, gt) ↦ absurd (omega (arith, many, gt))
    ]

-- the last of some rules is the first that is broken, where the others aren't
last-left : (f : Rule → Option Refusal) (before : List Rule) (last : Rule) (why : Refusal) → AllByRecursion (λ rule. f rule ≡ None) before → f last ≡ Some why → first_some (map f (before ++ last ∷ [])) ≡ Some why
last-left f [] last why clear broken = ap (λ x. option_or x None) broken
last-left f (rule ∷ before) last why clear broken =
    ap (λ x. option_or x (first_some (map f (before ++ last ∷ [])))) clear.0 ∙ last-left f before last why clear.1 broken

rules_before : List Rule
rules_before =
    Rule.NoSuch ∷ Rule.RefUsed ∷ Rule.CalendarEnded ∷ Rule.BelowMinimum ∷ Rule.NotOffered ∷ Rule.LateForDealer
    ∷ Rule.ReceiptAhead ∷ Rule.CancelLate ∷ Rule.NotPending ∷ Rule.SheetOutOfTurn ∷ Rule.SheetIncomplete ∷ Rule.Stands
    ∷ Rule.OrdersFull ∷ Rule.TooMany ∷ Rule.TooSoon ∷ []

full-broken : (situation : Situation) (request : Request) → IsFull situation.journal → is_query request ≡ false → BreaksNoOther situation request → broken_rule situation request ≡ Some Refusal.JournalFull
unfolding rules_before
full-broken situation request full asks clear =
    last-left (broken_by situation request (sheet_fault situation request)) rules_before Rule.JournalFull Refusal.JournalFull
    (clear.others Rule.NoSuch refl, (clear.others Rule.RefUsed refl, (clear.others Rule.CalendarEnded refl, (clear.others Rule.BelowMinimum refl, (clear.others Rule.NotOffered refl, (clear.others Rule.LateForDealer refl, (clear.others Rule.ReceiptAhead refl, (clear.others Rule.CancelLate refl, (clear.others Rule.NotPending refl, (clear.others Rule.SheetOutOfTurn refl, (clear.others Rule.SheetIncomplete refl, (clear.others Rule.Stands refl, (clear.others Rule.OrdersFull refl, (clear.others Rule.TooMany refl, (clear.others Rule.TooSoon refl, tt)))))))))))))))
    (is-full situation request full asks)

no-more : (situation : Situation) (request : Request) → IsFull situation.journal → is_query request ≡ false → BreaksNoOther situation request → answer situation request ≡ refuses Refusal.JournalFull
no-more situation request full asks clear =
    ap (λ broken. answer_by situation request (verdict_by_right situation request broken)) clear.allowed
    ∙ (ap (λ place. answer_by situation request (verdict_by_place situation request place)) clear.new
    ∙ ap (λ broken. answer_by situation request (verdict_by_rule situation request broken)) (full-broken situation request full asks clear))

appends-nothing : (situation : Situation) (request : Request) → IsFull situation.journal → (answer situation request).events ≡ []
appends-nothing situation request full = elim (appends_at_most_it situation request) [
  | inl none ↦ none
  | inr is ↦
      let asks = brought request situation.now (due_now situation request) is.kind is.brings in
      absurd (some_none (sym (is-full situation request full asks) ∙ not_broken situation request is.clear Rule.JournalFull))
]

pub full_journals_answer : (situation : Situation) (request : Request) → FullJournalsAnswer situation request
full_journals_answer situation request full = record {
  appends_nothing = appends-nothing situation request full;
  no_more = no-more situation request full;
  looks = looks_are_answered situation request;
  again = repeats_its_first situation request;
}
