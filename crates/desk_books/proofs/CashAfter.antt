-- The cash book behind an event.
use Rattle.std.proofs.Common.{List, None, Option, Some, [], ap, append-nil, arith, cond, false, inl, inr, is_some, length, refl, slice_get, subst, suc, sym, take, true, zero, ℕ, ℤ, ◌++◌, ◌+◌, ◌+ℤ◌, ◌<◌, ◌∙◌, ◌∷◌, ◌≡◌, ◌≤◌, ◌⊎◌}
use Rattle.std.proofs.Math.Seq.{take-append_seam}
use Rattle.std.proofs.lemmas.Bool.{true≢false}
use Rattle.std.proofs.lemmas.List.{take-append-le}
use Rattle.agent_events.specs.Events.{Event}
use Rattle.agent_events.specs.declared.order.Bearer.{Bearer}
use Rattle.agent_events.specs.declared.order.Party.{Party}
use Rattle.agent_events.specs.declared.reply_lists.ClassGain.{ClassGain}
use Rattle.checkpoint_replay.specs.Parts.{Households}
use Rattle.desk_books.proofs.LedgerAfter.{neither, one-longer}
use Rattle.desk_books.specs.BooksOfJournals.{IsCashOf}
use Rattle.desk_books.specs.LedgerChanges.{IsLedgerChange, IsPosted}
use Rattle.desk_books.specs.declared.change.LedgerChange.{LedgerChange}
use Rattle.holder_statements.specs.EventReplies.{AreKeptFor}
use Rattle.register_laws.proofs.EventReplays.{leaves_replay}
use Rattle.register_laws.specs.EventReplays.{is_correction, is_sheet}
use Rattle.forward_price.specs.PriceTables.{Table}
use Rattle.gain_loss_book.proofs.BookedFacts.{balances_after}
use Rattle.gain_loss_book.specs.Booked.{cash_booked, correction_by, table_behind as table_by_events}
use Rattle.gain_loss_book.specs.Posted.{Books, cash_held, cash_posted, gains_by, gains_kept}
use Rattle.register_laws.proofs.Comparisons.{eq-no, eq-yes}
use Rattle.register_laws.proofs.OneEventMore.{payments_go_on}
use Rattle.register_laws.specs.Lawful.{book_behind}
use Rattle.register_machine.specs.corrections.Cash.{Movement, balance, movements_of}
use Rattle.register_machine.specs.corrections.Gains.{gains_at}
use Rattle.register_machine.specs.corrections.Payments.{bearer_in, payments_for, payments_of}
use Rattle.register_machine.specs.journal.Journals.{Journal, with_event}
use Rattle.register_machine.specs.journal.Lawful.{IsLawful}
use Rattle.register_machine.specs.pricing.PublishedTable.{table_behind, table_of}
use Rattle.register_machine.specs.replay.Replay.{replay}

-- ---- what is booked

pays-nothing : (bearer : Option Bearer) (table : Table) (journal : Journal) (event : Event) → is_some bearer ≡ false → payments_for bearer table journal event ≡ []
pays-nothing None table journal event plain = refl
pays-nothing (Some bearer) table journal event plain = absurd (true≢false plain)

same-payments : (journal : Journal) (event : Event) → is_correction event.kind ≡ false → payments_of (with_event journal event) ≡ payments_of journal
same-payments journal event plain =
    payments_go_on journal event
    ∙ (ap (λ (ms : List Movement). payments_of journal ++ ms) (pays-nothing (bearer_in event.kind) (table_of journal) journal event plain)
    ∙ append-nil (payments_of journal))

-- an event that is no correction and no sheet books nothing
same-booked : (journal : Journal) (event : Event) (party : Party) → IsLawful (with_event journal event) → is_correction event.kind ≡ false → is_sheet event.kind ≡ false → cash_booked (with_event journal event) (replay (book_behind (with_event journal event))) party ≡ cash_booked journal (replay (book_behind journal)) party
same-booked journal event party lawful plain other =
    ap (λ day. cash_booked (with_event journal event) day party) (leaves_replay journal event lawful plain other).1
    ∙ ap (λ (ms : List Movement). balance (movements_of (replay (book_behind journal)).trades ++ ms) party) (same-payments journal event plain)

-- ---- gains that are kept

same-table : (journal : Journal) → table_by_events journal ≡ table_of journal
unfolding table_behind
same-table journal = refl

gains-by-bearer : (bearer : Option Bearer) (journal : Journal) (event : Event) → is_some bearer ≡ true → gains_by (correction_by bearer journal event) ≡ Some (gains_at (table_of journal) journal event)
gains-by-bearer None journal event corrects = absurd (true≢false (sym corrects))
gains-by-bearer (Some bearer) journal event corrects =
    ap (λ (table : Table). Some (gains_at table journal event)) (same-table journal)

none-some : {X : Type 0} {x : X} → None ≡ Some x → ⊥
none-some e = cc

some-same : {X : Type 0} {x y : X} → Some x ≡ Some y → x ≡ y
some-same e = cc

-- an event of the journal with one more is one before, or that one
abbrev Stands : {X : Type 0} → List X → X → X → ℕ → Type 0
Stands xs x y place = ((place < length xs) × (slice_get xs place ≡ Some y)) ⊎ ((place ≡ length xs) × (x ≡ y))

one-behind : {X : Type 0} (z : X) (xs : List X) (x y : X) (place : ℕ) → Stands xs x y place → Stands (z ∷ xs) x y (suc place)
one-behind z xs x y place (inl found) = inl (omega (arith, found.0), found.1)
one-behind z xs x y place (inr found) = inr (ap suc found.0, found.1)

stands : {X : Type 0} (xs : List X) (x y : X) (place : ℕ) → slice_get (xs ++ x ∷ []) place ≡ Some y → Stands xs x y place
stands [] x y zero e = inr (refl, some-same e)
stands [] x y (suc place) e = absurd (none-some e)
stands (z ∷ xs) x y zero e = inl (omega arith, e)
stands (z ∷ xs) x y (suc place) e = one-behind z xs x y place (stands xs x y place e)

-- What is kept behind the event: its own gains where it is a correction, and else what was kept before.
record KeptWith (journal : Journal) (event : Event) (cash after : Books) : Type 0 where
  pub now : AreKeptFor journal event (gains_kept after (length journal))
  pub same : (place : ℕ) → (place ≡ length journal → ⊥) → gains_kept after place ≡ gains_kept cash place

gains-after : (journal : Journal) (event : Event) (cash after : Books) → IsCashOf journal cash → KeptWith journal event cash after → (place : ℕ) (other : Event) → slice_get (with_event journal event) place ≡ Some other → AreKeptFor (take place (with_event journal event)) other (gains_kept after place)
gains-after journal event cash after is kept place other got = by_place (stands journal event other place got)
  where
    at : (before : Journal) (e : Event) → take place (with_event journal event) ≡ before → Some (gains_at (table_of before) before e) ≡ Some (gains_at (table_of (take place (with_event journal event))) (take place (with_event journal event)) e)
    at before e same = ap (λ (j : Journal). Some (gains_at (table_of j) j e)) (sym same)

    by_place : Stands journal event other place → AreKeptFor (take place (with_event journal event)) other (gains_kept after place)
    by_place (inl found) =
        let within = found.0 in
        λ corrects.
        kept.same place (λ e. omega (arith, e, within))
        ∙ (is.gains place other found.1 corrects
        ∙ at (take place journal) other (take-append-le place journal (event ∷ []) (omega (arith, within))))
    by_place (inr found) =
        λ corrects.
        ap (λ n. gains_kept after n) found.0
        ∙ (kept.now (ap (λ (e : Event). is_some (bearer_in e.kind)) found.1 ∙ corrects)
        ∙ (ap (λ (e : Event). Some (gains_at (table_of journal) journal e)) found.1
        ∙ at journal other (ap (λ n. take n (with_event journal event)) found.0 ∙ take-append_seam journal (event ∷ []))))

-- ---- the cash book

cash-by : (journal : Journal) (event : Event) (cash after : Books) → IsCashOf journal cash → KeptWith journal event cash after → after.posts ≤ cash.posts + 1 → ((party : Party) → cash_held after party ≡ cash_booked (with_event journal event) (replay (book_behind (with_event journal event))) party) → IsCashOf (with_event journal event) after
cash-by journal event cash after is kept few balances =
    let longer = one-longer journal event in
    record {
      balances = balances;
      gains = gains-after journal event cash after is kept;
      no_more = λ place past. kept.same place (λ e. omega (arith, e, past, longer)) ∙ is.no_more place (omega (arith, past, longer));
      posts = omega (arith, longer, few, is.posts);
    }

not-now : (journal : Journal) (event : Event) (kept : Option (List ClassGain)) → is_correction event.kind ≡ false → AreKeptFor journal event kept
not-now journal event kept plain corrects = absurd (true≢false (sym corrects ∙ plain))

-- What a sheet or a correction posts makes of the cash book that of the journal with the event, and any other event leaves it so.
pub cash_after : (journal : Journal) (event : Event) (change : Option LedgerChange) (ledger after : Households) (cash booked : Books) → IsLawful (with_event journal event) → IsLedgerChange journal event ledger.parts change → IsPosted (length journal) change ledger cash after booked → IsCashOf journal cash → IsCashOf (with_event journal event) booked
cash_after journal event None ledger after cash booked lawful plain posted is =
    let other = neither _ _ plain in
    subst (IsCashOf (with_event journal event)) (sym posted.1)
    (cash-by journal event cash cash is
    (record {
      now = not-now journal event (gains_kept cash (length journal)) other.1;
      same = λ place e. refl;
    })
    (omega arith)
    (λ party. is.balances party ∙ sym (same-booked journal event party lawful other.1 other.0)))
cash_after journal event (Some change) ledger after cash booked lawful moves posted is =
    let kept = posted.1 in
    cash-by journal event cash booked is
    (record {
      now = λ corrects.
          kept.gains (length journal)
          ∙ (ap (λ b. cond b (gains_by change.correction) (gains_kept cash (length journal))) (eq-yes (length journal) (length journal) refl)
          ∙ (ap gains_by moves.1.correction
          ∙ gains-by-bearer (bearer_in event.kind) journal event corrects));
      same = λ place elsewhere.
          kept.gains place
          ∙ ap (λ b. cond b (gains_by change.correction) (gains_kept cash place)) (eq-no (length journal) place (λ e. elsewhere (sym e)));
    })
    (omega (arith, kept.posts))
    (λ party.
    kept.balances party
    ∙ (ap (λ (z : ℤ). z +ℤ cash_posted change.change.changes.cash change.correction party) (is.balances party)
    ∙ (ap (λ c. cash_booked journal (replay (book_behind journal)) party +ℤ cash_posted change.change.changes.cash c party) moves.1.correction
    ∙ sym (balances_after journal event (replay (book_behind journal)) (replay (book_behind (with_event journal event))) change.change.changes moves.1.differences party))))
