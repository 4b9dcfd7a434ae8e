-- The households that were reopened so far, with one more.
use Rattle.std.proofs.Common.{All, Contains, List, None, Option, Some, [], ap, arith, inl, inr, nat_eq, refl, subst, sym, ℕ, ◌++◌, ◌∙◌, ◌∷◌, ◌≡◌, ◌⊎◌}
use Rattle.std.proofs.lemmas.List.Elements.{All-nil, All-push, Contains-append_left, Contains-push_cases}
use Rattle.std.proofs.lemmas.List.Quantifiers.{Any-push}
use Rattle.std.specs.List.{Any, IsDistinct}
use Rattle.agent_events.specs.Events.{Event}
use Rattle.agent_events.specs.declared.trade.Trade.{Trade}
use Rattle.checkpoint_replay.specs.Moves.{households_of}
use Rattle.checkpoint_replay.specs.declared.change.HouseholdMove.{HouseholdMove}
use Rattle.desk_books.proofs.LeastTurn.{least_stays}
use Rattle.desk_books.specs.FirstOfAll.{IsFirstOfPart}
use Rattle.desk_books.specs.Least.{IsLeastOf, with_broken}
use Rattle.desk_books.specs.Turns.{turn_in}
use Rattle.desk_books.specs.declared.least.BrokenTrade.{BrokenTrade}
use Rattle.desk_books.specs.Reopened.{AreReopened, IsOneMore, ReopensMore, SeesBroken, broken_in}
use Rattle.desk_books.specs.declared.books.DeskBooks.{DeskBooks}
use Rattle.household_fold.specs.Facts.{Known}
use Rattle.ledger_laws.proofs.Reopenings.{none_reopened, one_reopened, reopenings_join}
use Rattle.register_laws.specs.Lawful.{book_behind}
use Rattle.register_machine.specs.journal.Journals.{with_event}
use Rattle.register_machine.specs.journal.Kinds.{accounts_of}
use Rattle.register_machine.specs.replay.Replay.{replay}
use Rattle.register_machine.specs.rules.Breaks.{order_corrected}

-- ---- households behind others

pub households_behind : (moves others : List HouseholdMove) → households_of (moves ++ others) ≡ households_of moves ++ households_of others
households_behind [] others = refl
households_behind (change ∷ moves) others = ap (λ (hs : List ℕ). change.household ∷ hs) (households_behind moves others)

-- ---- nothing at first

pub none_yet : (books : DeskBooks) (event : Event) (known : Known) → AreReopened books event known [] [] None
none_yet books event known = record {
  households = refl;
  own = All-nil (λ (change : HouseholdMove). change.state.number ≡ change.household);
  reopened = none_reopened known (book_behind (with_event books.book.journal event)) books.ledger.parts;
  brokens = [];
  each = All-nil (IsFirstOfPart (book_behind (with_event books.book.journal event)) (order_corrected event.kind) (replay (book_behind books.book.journal)) (accounts_of books.book.journal));
  seen = λ household among. absurd (omega (arith, among.1));
  least = refl;
}

-- ---- one household more

-- the broken trades with that of the household
record AreSeen (books : DeskBooks) (event : Event) (done : List ℕ) (first : Option BrokenTrade) : Type 0 where
  pub brokens : List BrokenTrade
  pub each : All (IsFirstOfPart (book_behind (with_event books.book.journal event)) (order_corrected event.kind) (replay (book_behind books.book.journal)) (accounts_of books.book.journal)) brokens
  pub seen : (household : ℕ) → Contains done household → (trade : Trade)
      → broken_in books.book.journal event household ≡ Some trade → Any (λ broken. broken.trade ≡ trade) brokens
  pub least : IsLeastOf brokens first

any-left : {X : Type 0} (P : X → Type 0) (xs : List X) (y : X) → Any P xs → Any P (xs ++ y ∷ [])
any-left P xs y among =
    let there : Contains xs among.1 = (among.0, among.2, among.3) in
    let behind = Contains-append_left xs (y ∷ []) among.1 there in
    (behind.0, among.1, behind.1, behind.2, among.4)

module _ (books : DeskBooks) (event : Event) (household : ℕ) (done : List ℕ) (old new : Option BrokenTrade) (are : AreSeen books event done old) where
  abbrev First : BrokenTrade → Type 0
  First = IsFirstOfPart (book_behind (with_event books.book.journal event)) (order_corrected event.kind) (replay (book_behind books.book.journal)) (accounts_of books.book.journal)

  none-broken : broken_in books.book.journal event household ≡ None → new ≡ old → AreSeen books event (done ++ household ∷ []) new
  none-broken none same = record {
    brokens = are.brokens;
    each = are.each;
    seen = λ h among trade is. by (Contains-push_cases done household h among) trade is;
    least = subst (IsLeastOf are.brokens) (sym same) are.least;
  }
    where
      nothing : (trade : Trade) → None ≡ Some trade → ⊥
      nothing trade e = cc

      by : {h : ℕ} → Contains done h ⊎ (household ≡ h) → (trade : Trade) → broken_in books.book.journal event h ≡ Some trade → Any (λ broken. broken.trade ≡ trade) are.brokens
      by {h} (inl before) trade is = are.seen h before trade is
      by {h} (inr own) trade is = absurd (nothing trade (sym none ∙ (ap (broken_in books.book.journal event) own ∙ is)))

  one-broken : (broken : BrokenTrade) → broken_in books.book.journal event household ≡ Some broken.trade → turn_in (book_behind (with_event books.book.journal event)).orders broken.trade ≡ Some broken.turn → new ≡ with_broken broken old → AreSeen books event (done ++ household ∷ []) new
  one-broken broken first turn kept = record {
    brokens = are.brokens ++ broken ∷ [];
    each = All-push First are.brokens broken are.each (record { turn = turn; household = household; first = first });
    seen = λ h among trade is. by (Contains-push_cases done household h among) trade is;
    least = subst (IsLeastOf (are.brokens ++ broken ∷ [])) (sym kept) (least_stays are.brokens old broken are.least);
  }
    where
      same : (trade : Trade) → Some broken.trade ≡ Some trade → broken.trade ≡ trade
      same trade e = cc

      by : {h : ℕ} → Contains done h ⊎ (household ≡ h) → (trade : Trade) → broken_in books.book.journal event h ≡ Some trade → Any (λ (b : BrokenTrade). b.trade ≡ trade) (are.brokens ++ broken ∷ [])
      by {h} (inl before) trade is = any-left (λ (b : BrokenTrade). b.trade ≡ trade) are.brokens broken (are.seen h before trade is)
      by {h} (inr own) trade is =
          Any-push (λ (b : BrokenTrade). b.trade ≡ trade) are.brokens broken (same trade (sym first ∙ (ap (broken_in books.book.journal event) own ∙ is)))

  more-seen : (found : Option Trade) → broken_in books.book.journal event household ≡ found → SeesBroken (book_behind (with_event books.book.journal event)).orders found old new → AreSeen books event (done ++ household ∷ []) new
  more-seen None none sees = none-broken none sees
  more-seen (Some trade) found sees =
      one-broken (record { turn = sees.0; trade = trade }) found sees.1 sees.2

pub more_reopened : (books : DeskBooks) (event : Event) (known : Known) (household : ℕ) (moved : HouseholdMove) (old new : Option BrokenTrade) → IsOneMore books event known household moved → SeesBroken (book_behind (with_event books.book.journal event)).orders (broken_in books.book.journal event household) old new → ReopensMore books event known household old moved new
more_reopened books event known household moved old new more sees done moves distinct are =
    let after = book_behind (with_event books.book.journal event) in
    let parts = books.ledger.parts in
    let seen = more-seen books event household done old new (record { brokens = are.brokens; each = are.each; seen = are.seen; least = are.least }) (broken_in books.book.journal event household) refl sees in
    let only : households_of (moved ∷ []) ≡ household ∷ [] = ap (λ number. number ∷ []) more.only in
    let behind : households_of (moves ++ moved ∷ []) ≡ done ++ household ∷ [] = households_behind moves (moved ∷ []) ∙ (ap (λ (hs : List ℕ). hs ++ households_of (moved ∷ [])) are.households ∙ ap (λ (hs : List ℕ). done ++ hs) only) in
    record {
      households = behind;
      own = All-push (λ (change : HouseholdMove). change.state.number ≡ change.household) moves moved are.own more.own;
      reopened = reopenings_join known after parts moves (moved ∷ []) (subst (IsDistinct nat_eq) (sym behind) distinct) are.reopened
          (one_reopened known more.rows after parts (moved ∷ []) household more.orders only more.day);
      brokens = seen.brokens;
      each = seen.each;
      seen = seen.seen;
      least = seen.least;
    }
