-- The moves of a sheet are of different households, each with positions of its own.
use Rattle.checkpoint_replay.specs.Moves.{AreApart, AreOwnMoves, households_of}
use Rattle.checkpoint_replay.specs.Parts.{day_of, first_day, part_in}
use Rattle.checkpoint_replay.specs.Sheets.{IsReached, move_on, move_unless_quiet, moves_of_entry, moves_of_other, moves_of_others, moves_of_parts}
use Rattle.checkpoint_replay.specs.declared.change.HouseholdMove.{HouseholdMove}
use Rattle.checkpoint_replay.specs.declared.part.HouseholdPart.{HouseholdPart}
use Rattle.agent_events.specs.declared.order.Order.{Order}
use Rattle.household_fold.specs.Facts.{Known}
use Rattle.household_fold.specs.Quiet.{is_quiet_for}
use Rattle.checkpoint_replay.specs.Replays.{NumberedOrder, orders_under}
use Rattle.register_machine.specs.replay.Trades.{Day}
use Rattle.std.proofs.Common.{All, Bool, List, None, Option, Some, [], ap, cond, eq-eqb, eqb-true, false, nat_eq, refl, subst, sym, true, true≢false, ℕ, ◌++◌, ◌∙◌, ◌∷◌, ◌≡◌}
use Rattle.std.proofs.lemmas.List.{append_assoc}
use Rattle.std.proofs.lemmas.List.Elements.{All-from_recursion}
use Rattle.std.proofs.lemmas.Map.Keys.{IsDistinct-cons, IsDistinct-head, IsDistinct-tail}
use Rattle.std.specs.Cmp.{nat_eq_equiv}
use Rattle.std.specs.List.{AllByRecursion, IsDistinct}
use Rattle.std.specs.Map.{keys_of, lookup}
use Rattle.std.specs.Option.{option_map_or}
use Rattle.std.specs.Prelude.{is_some}

-- what holds of a household's number, and of the households of the other moves, holds of those of its own move and the others
with-own : (P : ℕ → Type 0) (known : Known) (orders : List Order) (household : ℕ) (day : Day) (rest : List HouseholdMove) → P household → AllByRecursion P (households_of rest) → AllByRecursion P (households_of (move_unless_quiet known orders household day ++ rest))
with-own P known orders household day rest own all = by_quiet (is_quiet_for known orders day.register)
  where
    by_quiet : (b : Bool) → AllByRecursion P (households_of (cond b [] (move_on known orders household day ∷ []) ++ rest))
    by_quiet true = all
    by_quiet false = (own, all)

-- and moves that are apart stay so
apart-with-own : (known : Known) (orders : List Order) (household : ℕ) (day : Day) (rest : List HouseholdMove) → AllByRecursion (λ other. nat_eq household other ≡ false) (households_of rest) → AreApart rest → AreApart (move_unless_quiet known orders household day ++ rest)
apart-with-own known orders household day rest all apart = by_quiet (is_quiet_for known orders day.register)
  where
    by_quiet : (b : Bool) → AreApart (cond b [] (move_on known orders household day ∷ []) ++ rest)
    by_quiet true = apart
    by_quiet false = IsDistinct-cons nat_eq household (households_of rest) all apart

-- ---- the others with orders

-- a household of which something is kept is none of them
not-another : (known : Known) (rows : List NumberedOrder) (parts : List (ℕ × HouseholdPart)) (household : ℕ) (numbers : List ℕ) → is_some (lookup (nat_eq household) parts) ≡ true → AllByRecursion (λ other. nat_eq household other ≡ false) (households_of (moves_of_others known rows parts numbers))
not-another known rows parts household [] there = tt
not-another known rows parts household (number ∷ numbers) there = by_part (is_some (lookup (nat_eq number) parts)) refl (not-another known rows parts household numbers there)
  where
    by_number : (b : Bool) → nat_eq household number ≡ b → is_some (lookup (nat_eq number) parts) ≡ false → nat_eq household number ≡ false
    by_number true is missing = absurd (true≢false (sym there ∙ (ap (λ n. is_some (lookup (nat_eq n) parts)) (eqb-true household number is) ∙ missing)))
    by_number false is missing = is

    by_part : (b : Bool) → is_some (lookup (nat_eq number) parts) ≡ b → AllByRecursion (λ other. nat_eq household other ≡ false) (households_of (moves_of_others known rows parts numbers)) → AllByRecursion (λ other. nat_eq household other ≡ false) (households_of (cond b [] (move_unless_quiet known (orders_under number rows) number first_day) ++ moves_of_others known rows parts numbers))
    by_part true is rest = rest
    by_part false is rest =
        with-own (λ other. nat_eq household other ≡ false) known (orders_under number rows) number first_day (moves_of_others known rows parts numbers)
        (by_number (nat_eq household number) refl is) rest

-- what holds of the numbers holds of the others' households
all-others : (P : ℕ → Type 0) (known : Known) (rows : List NumberedOrder) (parts : List (ℕ × HouseholdPart)) (numbers : List ℕ) → AllByRecursion P numbers → AllByRecursion P (households_of (moves_of_others known rows parts numbers))
all-others P known rows parts [] all = tt
all-others P known rows parts (number ∷ numbers) all = by_part (is_some (lookup (nat_eq number) parts)) (all-others P known rows parts numbers all.1)
  where
    by_part : (b : Bool) → AllByRecursion P (households_of (moves_of_others known rows parts numbers)) → AllByRecursion P (households_of (cond b [] (move_unless_quiet known (orders_under number rows) number first_day) ++ moves_of_others known rows parts numbers))
    by_part true rest = rest
    by_part false rest = with-own P known (orders_under number rows) number first_day (moves_of_others known rows parts numbers) all.0 rest

others-apart : (known : Known) (rows : List NumberedOrder) (parts : List (ℕ × HouseholdPart)) (numbers : List ℕ) → IsDistinct nat_eq numbers → AreApart (moves_of_others known rows parts numbers)
others-apart known rows parts [] distinct = distinct
others-apart known rows parts (number ∷ numbers) distinct = by_part (is_some (lookup (nat_eq number) parts)) (others-apart known rows parts numbers (IsDistinct-tail nat_eq number numbers distinct))
  where
    by_part : (b : Bool) → AreApart (moves_of_others known rows parts numbers) → AreApart (cond b [] (move_unless_quiet known (orders_under number rows) number first_day) ++ moves_of_others known rows parts numbers)
    by_part true rest = rest
    by_part false rest =
        apart-with-own known (orders_under number rows) number first_day (moves_of_others known rows parts numbers)
        (all-others (λ other. nat_eq number other ≡ false) known rows parts numbers (IsDistinct-head nat_eq number numbers distinct))
        rest

-- ---- the households of which something is kept

all-parts : (P : ℕ → Type 0) (known : Known) (rows : List NumberedOrder) (parts : List (ℕ × HouseholdPart)) (rest : List HouseholdMove) → AllByRecursion P (keys_of parts) → AllByRecursion P (households_of rest) → AllByRecursion P (households_of (moves_of_parts known rows parts ++ rest))
all-parts P known rows [] rest all others = others
all-parts P known rows (e ∷ es) rest all others =
    subst (λ (moves : List HouseholdMove). AllByRecursion P (households_of moves)) (sym (append_assoc (moves_of_entry known rows e) (moves_of_parts known rows es) rest))
    (with-own P known (orders_under e.0 rows) e.0 (day_of e.1) (moves_of_parts known rows es ++ rest) all.0 (all-parts P known rows es rest all.1 others))

found-later : (household : ℕ) (e : ℕ × HouseholdPart) (es : List (ℕ × HouseholdPart)) → is_some (lookup (nat_eq household) es) ≡ true → is_some (lookup (nat_eq household) (e ∷ es)) ≡ true
found-later household e es there = by_key (nat_eq household e.0)
  where
    by_key : (b : Bool) → is_some (cond b (Some e.1) (lookup (nat_eq household) es)) ≡ true
    by_key true = refl
    by_key false = there

parts-apart : (known : Known) (rows : List NumberedOrder) (parts : List (ℕ × HouseholdPart)) (rest : List HouseholdMove) → IsDistinct nat_eq (keys_of parts) → AreApart rest → ((household : ℕ) → is_some (lookup (nat_eq household) parts) ≡ true → AllByRecursion (λ other. nat_eq household other ≡ false) (households_of rest)) → AreApart (moves_of_parts known rows parts ++ rest)
parts-apart known rows [] rest distinct apart others = apart
parts-apart known rows (e ∷ es) rest distinct apart others =
    subst AreApart (sym (append_assoc (moves_of_entry known rows e) (moves_of_parts known rows es) rest))
    (apart-with-own known (orders_under e.0 rows) e.0 (day_of e.1) (moves_of_parts known rows es ++ rest)
    (all-parts (λ other. nat_eq e.0 other ≡ false) known rows es rest (IsDistinct-head nat_eq e.0 (keys_of es) distinct)
    (others e.0 (ap (λ b. is_some (cond b (Some e.1) (lookup (nat_eq e.0) es))) (eq-eqb e.0 e.0 refl))))
    (parts-apart known rows es rest (IsDistinct-tail nat_eq e.0 (keys_of es) distinct) apart (λ household there. others household (found-later household e es there))))

pub sheet-apart : (known : Known) (rows : List NumberedOrder) (parts : List (ℕ × HouseholdPart)) (numbers : List ℕ) → IsDistinct nat_eq (keys_of parts) → IsDistinct nat_eq numbers → AreApart (moves_of_parts known rows parts ++ moves_of_others known rows parts numbers)
sheet-apart known rows parts numbers distinct once =
    parts-apart known rows parts (moves_of_others known rows parts numbers) distinct (others-apart known rows parts numbers once)
    (λ household there. not-another known rows parts household numbers there)

-- ---- each move is of the household's own positions, and the sheet doesn't leave it alone

all-appended : (P : HouseholdMove → Type 0) (xs ys : List HouseholdMove) → AllByRecursion P xs → AllByRecursion P ys → AllByRecursion P (xs ++ ys)
all-appended P [] ys some others = others
all-appended P (x ∷ xs) ys some others = (some.0, all-appended P xs ys some.1 others)

own-unless-quiet : (known : Known) (orders : List Order) (household : ℕ) (day : Day) → AllByRecursion (λ (m : HouseholdMove). m.state.number ≡ m.household) (move_unless_quiet known orders household day)
own-unless-quiet known orders household day = by_quiet (is_quiet_for known orders day.register)
  where
    by_quiet : (b : Bool) → AllByRecursion (λ (m : HouseholdMove). m.state.number ≡ m.household) (cond b [] (move_on known orders household day ∷ []))
    by_quiet true = tt
    by_quiet false = (refl, tt)

own-parts : (known : Known) (rows : List NumberedOrder) (parts : List (ℕ × HouseholdPart)) → AllByRecursion (λ (m : HouseholdMove). m.state.number ≡ m.household) (moves_of_parts known rows parts)
own-parts known rows [] = tt
own-parts known rows (e ∷ es) =
    all-appended (λ (m : HouseholdMove). m.state.number ≡ m.household) (moves_of_entry known rows e) (moves_of_parts known rows es)
    (own-unless-quiet known (orders_under e.0 rows) e.0 (day_of e.1)) (own-parts known rows es)

own-others : (known : Known) (rows : List NumberedOrder) (parts : List (ℕ × HouseholdPart)) (numbers : List ℕ) → AllByRecursion (λ (m : HouseholdMove). m.state.number ≡ m.household) (moves_of_others known rows parts numbers)
own-others known rows parts [] = tt
own-others known rows parts (number ∷ numbers) =
    all-appended (λ (m : HouseholdMove). m.state.number ≡ m.household) (moves_of_other known rows parts number) (moves_of_others known rows parts numbers)
    (by_part (is_some (lookup (nat_eq number) parts))) (own-others known rows parts numbers)
  where
    by_part : (b : Bool) → AllByRecursion (λ (m : HouseholdMove). m.state.number ≡ m.household) (cond b [] (move_unless_quiet known (orders_under number rows) number first_day))
    by_part true = tt
    by_part false = own-unless-quiet known (orders_under number rows) number first_day

pub sheet-own : (known : Known) (rows : List NumberedOrder) (parts : List (ℕ × HouseholdPart)) (numbers : List ℕ) → AreOwnMoves (moves_of_parts known rows parts ++ moves_of_others known rows parts numbers)
sheet-own known rows parts numbers =
    All-from_recursion (λ (m : HouseholdMove). m.state.number ≡ m.household) (moves_of_parts known rows parts ++ moves_of_others known rows parts numbers)
    (all-appended (λ (m : HouseholdMove). m.state.number ≡ m.household) (moves_of_parts known rows parts) (moves_of_others known rows parts numbers)
    (own-parts known rows parts) (own-others known rows parts numbers))

-- every entry is what a look-up by its key finds
each-found : (es : List (ℕ × HouseholdPart)) → IsDistinct nat_eq (keys_of es) → AllByRecursion (λ (e : ℕ × HouseholdPart). lookup (nat_eq e.0) es ≡ Some e.1) es
each-found [] distinct = tt
each-found (e ∷ es) distinct = (
  ap (λ b. cond b (Some e.1) (lookup (nat_eq e.0) es)) (eq-eqb e.0 e.0 refl),
  later es (IsDistinct-head nat_eq e.0 (keys_of es) distinct) (each-found es (IsDistinct-tail nat_eq e.0 (keys_of es) distinct)),
)
  where
    later : (fs : List (ℕ × HouseholdPart)) → AllByRecursion (λ other. nat_eq e.0 other ≡ false) (keys_of fs) → AllByRecursion (λ (f : ℕ × HouseholdPart). lookup (nat_eq f.0) es ≡ Some f.1) fs → AllByRecursion (λ (f : ℕ × HouseholdPart). lookup (nat_eq f.0) (e ∷ es) ≡ Some f.1) fs
    later [] apart found = tt
    later (f ∷ fs) apart found = (
      ap (λ b. cond b (Some e.1) (lookup (nat_eq f.0) es)) (nat_eq_equiv.symm f.0 e.0 ∙ apart.0) ∙ found.0,
      later fs apart.1 found.1,
    )

reached-once : (known : Known) (rows : List NumberedOrder) (parts : List (ℕ × HouseholdPart)) (household : ℕ) (day : Day) → part_in parts household ≡ day → AllByRecursion (IsReached known rows parts) (move_unless_quiet known (orders_under household rows) household day)
reached-once known rows parts household day is = by_quiet (is_quiet_for known (orders_under household rows) day.register) refl
  where
    by_quiet : (b : Bool) → is_quiet_for known (orders_under household rows) day.register ≡ b → AllByRecursion (IsReached known rows parts) (cond b [] (move_on known (orders_under household rows) household day ∷ []))
    by_quiet true quiet = tt
    by_quiet false quiet = (ap (λ (d : Day). is_quiet_for known (orders_under household rows) d.register) is ∙ quiet, tt)

reached-parts : (known : Known) (rows : List NumberedOrder) (parts es : List (ℕ × HouseholdPart)) → AllByRecursion (λ (e : ℕ × HouseholdPart). lookup (nat_eq e.0) parts ≡ Some e.1) es → AllByRecursion (IsReached known rows parts) (moves_of_parts known rows es)
reached-parts known rows parts [] found = tt
reached-parts known rows parts (e ∷ es) found =
    all-appended (IsReached known rows parts) (moves_of_entry known rows e) (moves_of_parts known rows es)
    (reached-once known rows parts e.0 (day_of e.1) (ap (λ (o : Option HouseholdPart). option_map_or day_of o first_day) found.0))
    (reached-parts known rows parts es found.1)

reached-others : (known : Known) (rows : List NumberedOrder) (parts : List (ℕ × HouseholdPart)) (numbers : List ℕ) → AllByRecursion (IsReached known rows parts) (moves_of_others known rows parts numbers)
reached-others known rows parts [] = tt
reached-others known rows parts (number ∷ numbers) =
    all-appended (IsReached known rows parts) (moves_of_other known rows parts number) (moves_of_others known rows parts numbers)
    (by_part (lookup (nat_eq number) parts) refl) (reached-others known rows parts numbers)
  where
    by_part : (o : Option HouseholdPart) → lookup (nat_eq number) parts ≡ o → AllByRecursion (IsReached known rows parts) (cond (is_some o) [] (move_unless_quiet known (orders_under number rows) number first_day))
    by_part (Some part) is = tt
    by_part None is = reached-once known rows parts number first_day (ap (λ (o : Option HouseholdPart). option_map_or day_of o first_day) is)

pub sheet-reached : (known : Known) (rows : List NumberedOrder) (parts : List (ℕ × HouseholdPart)) (numbers : List ℕ) → IsDistinct nat_eq (keys_of parts) → All (IsReached known rows parts) (moves_of_parts known rows parts ++ moves_of_others known rows parts numbers)
sheet-reached known rows parts numbers distinct =
    All-from_recursion (IsReached known rows parts) (moves_of_parts known rows parts ++ moves_of_others known rows parts numbers)
    (all-appended (IsReached known rows parts) (moves_of_parts known rows parts) (moves_of_others known rows parts numbers)
    (reached-parts known rows parts parts (each-found parts distinct)) (reached-others known rows parts numbers))
