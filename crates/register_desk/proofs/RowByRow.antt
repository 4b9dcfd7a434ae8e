-- What several reading calls of a keeper in turn tell and give: the rows of a journal, one more with each call.
use Rattle.std.proofs.Common.{Bool, Err, List, Ok, Option, Result, Some, [], ap, arith, inl, inr, false, length, ltb, ltb-false, ltb-true, refl, slice_get, subst, sym, take, true, ℕ, ◌++◌, ◌+◌, ◌<◌, ◌∙◌, ◌∷◌, ◌≡◌, ◌≤◌, ◌⊎◌}
use Rattle.std.proofs.lemmas.List.{length-map, take_all}
use Rattle.std.proofs.lemmas.Option.{none-some}
use Rattle.agent_events.specs.Events.{Event}
use Rattle.agent_keeper.specs.Calls.{Answer, Gives, GoesOn, OnlyReads, Rose, length_is, row_is}
use Rattle.agent_keeper.specs.Content.{Content}
use Rattle.agent_keeper.specs.declared.fault.KeepFault.{KeepFault}
use Rattle.desk_books.specs.declared.books.DeskBooks.{DeskBooks}
use Rattle.event_rows.specs.Rows.{event_row}
use Rattle.register_desk.proofs.RowsOfJournals.{last_or_before, length_more, rows_more, take_next}
use Rattle.register_desk.specs.Opening.{AreAllGiven, AreGiven, FindsNone, IsGivenBadAt, OpensRow, OpensRows, ShowsRow, ShowsRowsOf, StopsAt}
use Rattle.register_desk.specs.Rows.{FollowsAsNone, IsDamagedAt, IsDesk, TellsRowsOf, rows_of}
use Rattle.register_desk.specs.declared.faults.StartFault.{StartFault}
use Rattle.register_machine.specs.journal.Journals.{Journal, with_event}

-- the places of two such answers are one
pub damaged_place : (place at : ℕ) → ◌≡◌ {A = Result (Unit {0}) StartFault} (Err (StartFault.Damaged place)) (Err (StartFault.Damaged at)) → at ≡ place
damaged_place place at is = cc

-- a count that doesn't fall and didn't rise
pub same_count : (before now : ℕ) → before ≤ now → (before < now → ⊥) → now ≡ before
same_count before now fell never = by_test (ltb before now) refl
  where
    by_test : (b : Bool) → ltb before now ≡ b → now ≡ before
    by_test true is = absurd (never (ltb-true before now is))
    by_test false is = omega (arith, fell, ltb-false before now is)

-- what isn't `Err` is none
pub ok_err : (fault : StartFault) → ◌≡◌ {A = Result (Unit {0}) StartFault} (Ok tt) (Err fault) → ⊥
ok_err fault is = cc

-- a number that is answered is no fault
pub number_err : (number : ℕ) (fault : KeepFault) → ◌≡◌ {A = Result ℕ KeepFault} (Ok number) (Err fault) → ⊥
number_err number fault is = cc

-- a count that rose behind another
pub rose_later : (before between now : ℕ) → before ≡ between → Rose between now → Rose before now
rose_later before between now same rose = subst (λ n. Rose n now) (sym same) rose

module _ {K : Type 0} (tells : K → Content → Type 0) (moment : K → ℕ) (gave : K → ℕ → Answer → Type 0) where
  -- no content is told later that wasn't before
  abbrev pub TellsNoOther : K → K → Type 0
  TellsNoOther old new = (kept : Content) → tells new kept → tells old kept

  abbrev pub Later : K → K → Type 0
  Later old new = GoesOn moment gave old new

  pub goes_then : (old mid new : K) → Later old mid → Later mid new → Later old new
  goes_then old mid new first second = record {
    later = omega (arith, first.later, second.later);
    kept = λ since answer given. second.kept since answer (first.kept since answer given);
  }

  pub gives_later : (old mid new : K) (answer : Answer) → Later mid new → Gives moment gave old mid answer → Gives moment gave old new answer
  gives_later old mid new answer on given = λ since before. on.kept since answer (given since before)

  pub gives_earlier : (old mid new : K) (answer : Answer) → Later old mid → Gives moment gave mid new answer → Gives moment gave old new answer
  gives_earlier old mid new answer on given = λ since before. given since (omega (arith, before, on.later))

  shows-earlier : (old mid new : K) (place : ℕ) (row : Option (List ℕ)) → Later old mid → ShowsRow tells moment gave mid new place row → ShowsRow tells moment gave old new place row
  shows-earlier old mid new place row on shown = record {
    told = shown.told;
    given = gives_earlier old mid new (row_is place row) on shown.given;
  }

  shows-later : (old mid new : K) (journal : Journal) → TellsNoOther mid new → Later mid new → ShowsRowsOf tells moment gave old mid journal → ShowsRowsOf tells moment gave old new journal
  shows-later old mid new journal no_other on shown = record {
    told = λ kept told. shown.told kept (no_other kept told);
    given = λ place row there. gives_later old mid new (row_is place (Some row)) on (shown.given place row there);
  }

  -- the rows of a journal and the next row are those of the journal with its event
  given-more : (old new : K) (rows : List (List ℕ)) (row : List ℕ) → AreGiven moment gave old new rows → Gives moment gave old new (row_is (length rows) (Some row)) → AreGiven moment gave old new (rows ++ row ∷ [])
  given-more old new rows row given next place found there = by_place (last_or_before rows row place found there)
    where
      by_place : (slice_get rows place ≡ Some found) ⊎ ((place ≡ length rows) × (found ≡ row)) → Gives moment gave old new (row_is place (Some found))
      by_place (inl before) = given place found before
      by_place (inr is) = subst (λ at. Gives moment gave old new (row_is at (Some found))) (sym is.0)
          (subst (λ (bytes : List ℕ). Gives moment gave old new (row_is (length rows) (Some bytes))) (sym is.1) next)

  shows-more : (old new : K) (journal : Journal) (event : Event) → ShowsRowsOf tells moment gave old new journal → ShowsRow tells moment gave old new (length journal) (Some (event_row event))
      → ShowsRowsOf tells moment gave old new (with_event journal event)
  shows-more old new journal event shown next = record {
    told = λ kept told.
        ap (λ n. take n kept.rows) (length_more journal event)
        ∙ (take_next kept.rows (length journal) (event_row event) (next.told kept told)
        ∙ (ap (λ (rows : List (List ℕ)). rows ++ event_row event ∷ []) (shown.told kept told)
        ∙ sym (rows_more journal event)));
    given = subst (AreGiven moment gave old new) (sym (rows_more journal event))
        (given-more old new (rows_of journal) (event_row event) shown.given
        (subst (λ n. Gives moment gave old new (row_is n (Some (event_row event)))) (sym (length-map journal event_row)) next.given));
  }

  -- at the start there is no row
  none-shown : (old : K) (journal : Journal) → journal ≡ [] → ShowsRowsOf tells moment gave old old journal
  none-shown old journal none = subst (ShowsRowsOf tells moment gave old old) (sym none) (record {
    told = λ kept told. refl;
    given = λ place row there. absurd (none-some row there);
  })

  pub opens_none : (old : K) (books : DeskBooks) → IsDesk books → books.book.journal ≡ [] → OpensRows tells moment gave old old 0 books
  opens_none old books desk none = record {
    shown = none-shown old books.book.journal none;
    counted = ap length none;
    desk = desk;
  }

  pub opens_more : (old mid new : K) (place : ℕ) (books next : DeskBooks) → OpensRows tells moment gave old mid place books → TellsNoOther mid new → Later old mid → Later mid new
      → OpensRow tells moment gave mid new place books.book.journal next → OpensRows tells moment gave old new (place + 1) next
  opens_more old mid new place books next opened no_other before on row = record {
    shown = subst (ShowsRowsOf tells moment gave old new) (sym row.noted)
        (shows-more old new books.book.journal row.event
        (shows-later old mid new books.book.journal no_other on opened.shown)
        (shows-earlier old mid new (length books.book.journal) (Some (event_row row.event)) before
        (subst (λ at. ShowsRow tells moment gave mid new at (Some (event_row row.event))) (sym opened.counted) row.shown)));
    counted = ap length row.noted ∙ (length_more books.book.journal row.event ∙ ap (λ n. n + 1) opened.counted);
    desk = row.desk;
  }

  pub stops_at : (old mid new : K) (place : ℕ) (books : DeskBooks) → OpensRows tells moment gave old mid place books → TellsNoOther mid new → Later old mid → Later mid new
      → FindsNone tells moment gave mid new place books.book.journal → StopsAt tells moment gave old new place
  stops_at old mid new place books opened no_other before on none = record {
    books = books;
    opened = record {
      shown = shows-later old mid new books.book.journal no_other on opened.shown;
      counted = opened.counted;
      desk = opened.desk;
    };
    next = record {
      row = none.row;
      shown = shows-earlier old mid new place none.row before none.shown;
      bad = none.bad;
    };
  }

  -- what is told where the reading stops is damaged there
  pub damaged_as_told : (old new : K) (place count : ℕ) → place < count → StopsAt tells moment gave old new place → (kept : Content) → tells new kept → count ≡ length kept.rows → IsDamagedAt place kept.rows
  damaged_as_told old new place count within stops kept told counted = (
    subst (λ n. place < n) counted within,
    record {
      journal = stops.books.book.journal;
      lawful = stops.opened.desk.of_journal.lawful;
      in_form = stops.opened.desk.in_form;
      rows = ap (λ n. take n kept.rows) (sym stops.opened.counted) ∙ stops.opened.shown.told kept told;
      bad = subst (λ (row : Option (List ℕ)). FollowsAsNone row stops.books.book.journal) (sym (stops.next.shown.told kept told)) stops.next.bad;
    },
  )

  -- what was given there too
  pub damaged_as_given : (old mid new : K) (place count : ℕ) → place < count → Later old mid → Later mid new → Gives moment gave old mid (length_is count) → StopsAt tells moment gave mid new place → IsGivenBadAt moment gave old new place
  damaged_as_given old mid new place count within before on counted stops = record {
    count = count;
    counted = gives_later old mid new (length_is count) on counted;
    within = within;
    before = rows_of stops.books.book.journal;
    places = length-map stops.books.book.journal event_row ∙ stops.opened.counted;
    before_given = λ at row there. gives_earlier old mid new (row_is at (Some row)) before (stops.opened.shown.given at row there);
    row = stops.next.row;
    row_given = gives_earlier old mid new (row_is place stops.next.row) before stops.next.shown.given;
    bad = record {
      journal = stops.books.book.journal;
      lawful = stops.opened.desk.of_journal.lawful;
      in_form = stops.opened.desk.in_form;
      rows = refl;
      bad = stops.next.bad;
    };
  }

  -- all rows that are told are those of the books' journal, and so are all that were given
  pub opens_all : (old new : K) (count : ℕ) (books : DeskBooks) → OpensRows tells moment gave old new count books → ((kept : Content) → tells new kept → count ≡ length kept.rows) → TellsRowsOf (tells new) books.book.journal
  opens_all old new count books opened counted kept told =
      let all : length kept.rows ≤ length books.book.journal = omega (arith, counted kept told, opened.counted) in
      sym (take_all (length books.book.journal) kept.rows all) ∙ opened.shown.told kept told

  pub gives_all : (old mid new : K) (count : ℕ) (books : DeskBooks) → Later old mid → Later mid new → Gives moment gave old mid (length_is count) → OpensRows tells moment gave mid new count books
      → AreAllGiven moment gave old new (rows_of books.book.journal)
  gives_all old mid new count books before on counted opened = record {
    counted = subst (λ n. Gives moment gave old new (length_is n)) (sym (length-map books.book.journal event_row ∙ opened.counted)) (gives_later old mid new (length_is count) on counted);
    given = λ at row there. gives_earlier old mid new (row_is at (Some row)) before (opened.shown.given at row there);
  }

pub reads_then : {K : Type 0} (tells may_leave : K → Content → Type 0) (is_honest : K → Type 0) (old mid new : K) → OnlyReads tells may_leave is_honest old mid → OnlyReads tells may_leave is_honest mid new → OnlyReads tells may_leave is_honest old new
reads_then tells may_leave is_honest old mid new first second = record {
  told = λ content told. first.told content (second.told content told);
  stops = λ honest content left. first.stops (second.was_honest honest) content (second.stops honest content left);
  was_honest = λ honest. first.was_honest (second.was_honest honest);
}

pub reads_none : {K : Type 0} (tells may_leave : K → Content → Type 0) (is_honest : K → Type 0) (old : K) → OnlyReads tells may_leave is_honest old old
reads_none tells may_leave is_honest old = record {
  told = λ content told. told;
  stops = λ honest content left. left;
  was_honest = λ honest. honest;
}

pub goes_none : {K : Type 0} (moment : K → ℕ) (gave : K → ℕ → Answer → Type 0) (old : K) → GoesOn moment gave old old
goes_none moment gave old = record { later = omega arith; kept = λ since answer given. given }
