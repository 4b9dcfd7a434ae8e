-- No accepted correction leaves an order unfilled that was filled before.
use Rattle.std.proofs.Common.{All, Bool, List, None, Option, Some, [], ap, cond, false, find, is_some, not, refl, subst, sym, true, ℕ, ◌&&◌, ◌||◌, ◌∙◌, ◌∷◌, ◌≡◌}
use Rattle.std.proofs.lemmas.Bool.{or_parts, true≢false}
use Rattle.std.proofs.lemmas.List.Elements.{All-cons, All-nil, All-weaker}
use Rattle.std.specs.Option.{option_map_or}
use Rattle.agent_events.specs.Events.{Event}
use Rattle.agent_events.specs.declared.event.EventKind.{EventKind}
use Rattle.agent_events.specs.declared.order.Bearer.{Bearer}
use Rattle.agent_events.specs.declared.order.Order.{Order}
use Rattle.agent_events.specs.declared.reply.Refusal.{Refusal}
use Rattle.forward_price.specs.PriceTables.{Table}
use Rattle.register_laws.proofs.Choosing.{not_mapped, some_none}
use Rattle.register_laws.proofs.CorrectedAgain.{book-again}
use Rattle.register_laws.proofs.NothingBefore.{last-brought}
use Rattle.register_laws.proofs.Runs.{table-one}
use Rattle.register_laws.specs.Lawful.{IsBrought, book_behind, own_at}
use Rattle.register_laws.specs.Priced.{LeavesFilled, LeavesOrdersFilled}
use Rattle.register_machine.specs.corrections.Payments.{bearer_in}
use Rattle.register_machine.specs.journal.Journals.{Journal, with_event}
use Rattle.register_machine.specs.journal.Lawful.{IsLawful}
use Rattle.register_machine.specs.pricing.CorrectedBook.{Book, book_of}
use Rattle.register_machine.specs.pricing.PublishedTable.{table_by, table_of}
use Rattle.register_machine.specs.replay.Replay.{replay}
use Rattle.agent_events.specs.declared.trade.Trade.{Trade}
use Rattle.register_machine.specs.rules.Breaks.{breaks_by, is_broken, is_trade_of, order_corrected, was_filled}

none-breaks : {X : Type 0} (p : X → Bool) (xs : List X) → find p xs ≡ None → All (λ x. p x ≡ false) xs
none-breaks p [] e = All-nil (λ x. p x ≡ false)
none-breaks p (x ∷ xs) e = by_first (p x) refl e (λ h. none-breaks p xs h)
  where
    by_first : (b : Bool) → p x ≡ b → cond b (Some x) (find p xs) ≡ None → (find p xs ≡ None → All (λ y. p y ≡ false) xs) → All (λ y. p y ≡ false) (x ∷ xs)
    by_first true is h rest = absurd (some_none h)
    by_first false is h rest = All-cons (λ y. p y ≡ false) x xs is (rest h)

-- a trade that isn't broken
unbroken : (event : Event) (before : List Trade) (trade : Trade) → is_broken (order_corrected event.kind) before trade ≡ false → LeavesFilled event before trade
unbroken event before trade whole unfilled =
    let own = option_map_or (λ (order : Order). is_trade_of order.account order.ref_no trade) (order_corrected event.kind) false in
    let parts = or_parts (was_filled before trade) own (sym (ap (λ b. not b && (was_filled before trade || own)) unfilled) ∙ whole) in
    record { was_unfilled = parts.0; not_corrected = parts.1 }

-- a correction brings no sheet, calendar or class
pub corrected-table : (table : Table) (moment : ℕ) (kind : EventKind) → is_some (bearer_in kind) ≡ true → table_by table moment kind ≡ table
corrected-table table moment (EventKind.FixPrice form) e = refl
corrected-table table moment (EventKind.FixRate form) e = refl
corrected-table table moment (EventKind.Enter form) e = refl
corrected-table table moment (EventKind.Replace form) e = refl
corrected-table table moment (EventKind.Void form) e = refl
corrected-table table moment kind e = absurd (true≢false (sym e))

leaves_filled : (journal : Journal) (event : Event) → IsBrought journal event → is_some (bearer_in event.kind) ≡ true → All (LeavesFilled event (replay (book_behind journal)).trades) (replay (book_behind (with_event journal event))).trades
leaves_filled journal event brought corrects = by_bearer (bearer_in event.kind) corrects brought.keeps
  where
    book-is : book_of (book_behind journal).table (with_event journal event) ≡ book_behind (with_event journal event)
    book-is =
        book-again (table_of journal) journal (event ∷ [])
        ∙ ap (λ table. book_of table (with_event journal event)) (sym (table-one journal event ∙ corrected-table (table_of journal) event.moment event.kind corrects))

    by_bearer : (bearer : Option Bearer) → is_some bearer ≡ true → breaks_by bearer (own_at journal event.moment brought.caller) event ≡ None → All (LeavesFilled event (replay (book_behind journal)).trades) (replay (book_behind (with_event journal event))).trades
    by_bearer None e keeps = absurd (true≢false (sym e))
    by_bearer (Some bearer) e keeps =
        let before = (replay (book_behind journal)).trades in
        let after = (replay (book_of (book_behind journal).table (with_event journal event))).trades in
        let whole = none-breaks (is_broken (order_corrected event.kind) before) after
        (not_mapped (λ (trade : Trade). Refusal.Breaks trade.account trade.ref_no) (find (is_broken (order_corrected event.kind) before) after) keeps) in
        let all = All-weaker (λ (trade : Trade). is_broken (order_corrected event.kind) before trade ≡ false) (LeavesFilled event before) (unbroken event before) after whole in
        subst (λ (book : Book). All (LeavesFilled event before) (replay book).trades) book-is all

pub corrections_leave_filled : (journal : Journal) (event : Event) → IsLawful (with_event journal event) → LeavesOrdersFilled journal event
corrections_leave_filled journal event lawful = record { of_correction = leaves_filled journal event (last-brought journal event lawful).1 }
