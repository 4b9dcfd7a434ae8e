-- A quiet sheet leaves the part of a household as it was, and its part goes on from any sheet.
use Rattle.std.proofs.Common.{All, Bool, List, Option, [], ap, cond, false, filter, find, fold, get_or, map, not, refl, subst, sym, take, drop, true, unwrap_or, ℕ, ◌&&◌, ◌++◌, ◌==◌, ◌||◌, ◌∙◌, ◌∷◌, ◌≡◌, ◌≤◌}
use Rattle.std.proofs.lemmas.Bool.{eqb-true, true≢false}
use Rattle.std.proofs.lemmas.List.{take-append-drop, take-take}
use Rattle.std.proofs.lemmas.List.Elements.{All-filter, All-head, All-map, All-tail, filter_passes}
use Rattle.std.proofs.lemmas.List.Folds.{list_any_at}
use Rattle.std.proofs.lemmas.List.Sums.{fold-append}
use Rattle.std.specs.List.{list_any}
use Rattle.dividend_reinvest.specs.declared.payment.Payment.{Payment}
use Rattle.forward_price.specs.declared.price_sheet.Sheet.{Sheet}
use Rattle.register_laws.proofs.Comparisons.{eq-yes}
use Rattle.register_laws.proofs.ListParts.{filter-none}
use Rattle.register_laws.proofs.ReplayedAlone.{orders-part, replayed_alone}
use Rattle.register_laws.specs.HouseholdSheets.{QuietLeavesPart, is_paid_at, is_paid_in, is_paid_on, pays_something, IsQuiet, replay_from, sheets_between}
use Rattle.register_laws.specs.Households.{own_book, own_orders, part_of}
use Rattle.register_machine.proofs.FoundFacts.{own-place, same-place}
use Rattle.register_machine.proofs.ListItems.{none-all}
use Rattle.register_machine.specs.pricing.CorrectedBook.{Book}
use Rattle.register_machine.specs.pricing.DividendRates.{rate_at}
use Rattle.register_machine.specs.replay.DayStep.{day_step}
use Rattle.register_machine.specs.replay.Dividend.{day_after_class, day_after_dividend, day_after_dividends, day_after_payment, day_after_rate, is_of_class, keys_of_class, payment_on}
use Rattle.register_machine.specs.replay.Letter.{day_after_letter_end, day_after_letter_ends, has_letter_over}
use Rattle.register_machine.specs.replay.Positions.{Position, PositionKey, fresh_position, is_position, key_of, position_at}
use Rattle.register_machine.specs.replay.Replay.{day_after_sheet, first_day, priced_orders, replay_over, orders_on, replay_to}
use Rattle.register_machine.specs.replay.Trades.{Day}
use Rattle.dividend_reinvest.specs.declared.payment.Payment.TheVariants as pays

-- ---- lists

fold-idle : {X D : Type 0} (P : X → Type 0) (f : D → X → D) (z : D) → ((x : X) → P x → f z x ≡ z) → (xs : List X) → All P xs → fold f z xs ≡ z
fold-idle P f z idle [] all = refl
fold-idle P f z idle (x ∷ xs) all =
    ap (λ d. fold f d xs) (idle x (All-head P x xs all)) ∙ fold-idle P f z idle xs (All-tail P x xs all)

-- what is found is one of those that pass
found-one : {X : Type 0} (P : X → Type 0) (q : X → Bool) (d : X) (xs : List X) → All P xs → list_any q xs ≡ true → P (unwrap_or (find q xs) d) × (q (unwrap_or (find q xs) d) ≡ true)
found-one P q d [] all some = absurd (true≢false (sym some))
found-one {X = X} P q d (x ∷ xs) all some = by (q x) refl some (found-one P q d xs (All-tail P x xs all))
  where
    by : (b : Bool) → q x ≡ b → (b || list_any q xs) ≡ true → (list_any q xs ≡ true → P (unwrap_or (find q xs) d) × (q (unwrap_or (find q xs) d) ≡ true)) → P (unwrap_or (cond b (Option.Some x) (find q xs)) d) × (q (unwrap_or (cond b (Option.Some x) (find q xs)) d) ≡ true)
    by true is e rest = (All-head P x xs all, is)
    by false is e rest = rest e

-- ---- a quiet sheet

module _ (book : Book) (sheet : Sheet) (day : Day) (unpaid : list_any (is_paid_on book sheet) day.register ≡ false) (none_ends : list_any (has_letter_over sheet) day.register ≡ false) where
  nothing-paid : (position : Position) (payment : Payment) → pays_something payment ≡ false → day_after_payment sheet day position payment ≡ day
  nothing-paid position pays.Nothing e = refl
  nothing-paid position (pays.Cash cash) e = absurd (true≢false e)
  nothing-paid position (pays.Shares cash mils) e = absurd (true≢false e)

  unpaid-at : (rate : ℕ) (price : ℕ × ℕ) (p : Position) → (rate == 0) ≡ false → p.class ≡ price.0 → is_paid_at rate price p ≡ false → pays_something (payment_on rate price.1 p) ≡ false
  unpaid-at rate price p some class e =
      sym (ap (λ b. not b && pays_something (payment_on rate price.1 p)) some) ∙ (sym (ap (λ b. b && (not (rate == 0) && pays_something (payment_on rate price.1 p))) (eq-yes p.class price.0 class)) ∙ e)

  -- no key of a class is paid
  idle-key : (rate : ℕ) (price : ℕ × ℕ) → (rate == 0) ≡ false → All (λ p. is_paid_at rate price p ≡ false) day.register → (key : PositionKey) → (key.class ≡ price.0) × (list_any (is_position key.account key.class) day.register ≡ true) → day_after_dividend sheet rate price.1 day key ≡ day
  idle-key rate price some none key is =
      let found = found-one (λ p. is_paid_at rate price p ≡ false) (is_position key.account key.class) (fresh_position key.account key.class) day.register none is.1 in
      let p = position_at day.register key in
      nothing-paid p (payment_on rate price.1 p) (unpaid-at rate price p some ((same-place key.account key.class p found.1).1 ∙ is.0) found.0)

  idle-class : (price : ℕ × ℕ) → All (λ p. is_paid_in book sheet p price ≡ false) day.register → day_after_class book.rates sheet day price ≡ day
  idle-class price none = by (rate_at book.rates price.0 sheet.moment) none
    where
      there : All (λ (p : Position). list_any (is_position p.account p.class) day.register ≡ true) day.register
      there k d short =
          let p = get_or day.register k d in list_any_at (is_position p.account p.class) day.register k d short (own-place p)

      of-class : (p : Position) → is_of_class price.0 p ≡ true → list_any (is_position p.account p.class) day.register ≡ true → (p.class ≡ price.0) × (list_any (is_position p.account p.class) day.register ≡ true)
      of-class p class found = (eqb-true p.class price.0 class, found)

      keys : All (λ (key : PositionKey). (key.class ≡ price.0) × (list_any (is_position key.account key.class) day.register ≡ true)) (keys_of_class price.0 day.register)
      keys =
          All-map (λ (key : PositionKey). (key.class ≡ price.0) × (list_any (is_position key.account key.class) day.register ≡ true)) key_of (filter (is_of_class price.0) day.register)
          (λ k d short. of-class (get_or (filter (is_of_class price.0) day.register) k d) (filter_passes (is_of_class price.0) day.register k d short) (All-filter (is_of_class price.0) (λ (p : Position). list_any (is_position p.account p.class) day.register ≡ true) day.register there k d short))

      by : (rate : ℕ) → All (λ p. is_paid_at rate price p ≡ false) day.register → cond (rate == 0) day (day_after_rate sheet rate price day) ≡ day
      by rate none = elim (rate == 0) as (λ b. (rate == 0) ≡ b → cond b day (day_after_rate sheet rate price day) ≡ day) [
        | true ↦ λ e. refl
        | false ↦ λ e. fold-idle (λ (key : PositionKey). (key.class ≡ price.0) × (list_any (is_position key.account key.class) day.register ≡ true)) (day_after_dividend sheet rate price.1) day (idle-key rate price e none) (keys_of_class price.0 day.register) keys
      ] refl

  idle-dividends : day_after_dividends book sheet day ≡ day
  idle-dividends =
      let each = none-all (is_paid_on book sheet) day.register unpaid in
      fold-idle (λ price. All (λ p. is_paid_in book sheet p price ≡ false) day.register) (day_after_class book.rates sheet) day idle-class sheet.prices
      (λ i e within k d short. none-all (is_paid_in book sheet (get_or day.register k d)) sheet.prices (each k d short) i e within)

  pub idle-sheet : day_step book sheet [] day ≡ day
  unfolding day_step
  idle-sheet =
      ap (day_after_letter_ends book sheet) idle-dividends
      ∙ ap (λ (some : List Position). fold (day_after_letter_end book sheet) day (map key_of some)) (filter-none (has_letter_over sheet) day.register (none-all (has_letter_over sheet) day.register none_ends))

-- the household's own book replays nothing there
pub quiet-replay : (book : Book) (household : ℕ) (before : List Sheet) (sheet : Sheet) → IsQuiet book sheet (own_orders book.accounts household (orders_on (priced_orders book) sheet)) (part_of book.accounts household (replay_over book before)).register → replay_over (own_book household book) (before ++ sheet ∷ []) ≡ replay_over (own_book household book) before
quiet-replay book household before sheet quiet =
    let own = own_book household book in
    let alone = replayed_alone book household before in
    let part = replay_over own before in
    let rows = orders-part book household sheet ∙ quiet.0 in
    let unpaid = subst (λ (day : Day). list_any (is_paid_on book sheet) day.register ≡ false) alone quiet.1 in
    let none_ends = subst (λ (day : Day). list_any (has_letter_over sheet) day.register ≡ false) alone quiet.2 in
    fold-append (day_after_sheet own (priced_orders own)) first_day before (sheet ∷ [])
    ∙ (ap (λ some. day_step own sheet some part) rows ∙ idle-sheet own sheet part unpaid none_ends)

pub quiet_leaves_part : (book : Book) (household : ℕ) (before : List Sheet) (sheet : Sheet) → QuietLeavesPart book household before sheet
quiet_leaves_part book household before sheet quiet =
    replayed_alone book household (before ++ sheet ∷ [])
    ∙ (quiet-replay book household before sheet quiet ∙ sym (replayed_alone book household before))

-- ---- from a checkpoint

-- the replay of a book up to a sheet goes on from that up to an earlier one
pub goes-on : (book : Book) (from to : ℕ) → from ≤ to → replay_to book to ≡ replay_from book (replay_to book from) (sheets_between book from to)
goes-on book from to early =
    let sheets = book.table.sheets in
    ap (replay_over book) (sym (take-append-drop from (take to sheets)) ∙ ap (λ front. front ++ drop from (take to sheets)) (take-take from to sheets early))
    ∙ fold-append (day_after_sheet book (priced_orders book)) first_day (take from sheets) (drop from (take to sheets))
