-- The moves that reopen households, one after another.
use Rattle.std.proofs.Common.{Bool, List, [], ap, cond, eqb-true, false, fold, inl, inr, nat_eq, refl, subst, sym, true, true≢false, ℕ, ◌++◌, ◌∙◌, ◌∷◌, ◌≡◌, ◌||◌, ◌⊎◌}
use Rattle.std.proofs.lemmas.List.Sums.{fold-append}
use Rattle.std.proofs.lemmas.Map.Keys.{IsDistinct-head, IsDistinct-tail}
use Rattle.std.specs.List.{IsDistinct, list_any}
use Rattle.checkpoint_replay.proofs.SheetMoves.{none-from-apart}
use Rattle.checkpoint_replay.specs.Moves.{day_after_move, day_if_moved, households_of, part_after}
use Rattle.checkpoint_replay.specs.Parts.{part_in}
use Rattle.checkpoint_replay.specs.declared.change.HouseholdMove.{HouseholdMove}
use Rattle.checkpoint_replay.specs.declared.part.HouseholdPart.{HouseholdPart}
use Rattle.household_fold.specs.Facts.{Known}
use Rattle.checkpoint_replay.specs.Replays.{NumberedOrder}
use Rattle.ledger_laws.proofs.CorrectedParts.{ledger_corrected}
use Rattle.ledger_laws.specs.CorrectedLedgers.{AreReopenings, IsLeft, IsMovedByReplay, IsReopened, OneIsReopened, ReopeningsCorrect, ReopeningsJoin, is_moved, EachIsReopenedOrLeft, LeavesUnmoved}
use Rattle.register_machine.specs.pricing.CorrectedBook.{Book}
use Rattle.register_machine.specs.replay.Trades.{Day}

-- a household that isn't moved stays
pub unmoved : (moves : List HouseholdMove) (household : ℕ) (day : Day) → is_moved moves household ≡ false → fold (day_if_moved household) day moves ≡ day
unmoved [] household day none = refl
unmoved (change ∷ moves) household day none =
    by (nat_eq household change.household) refl none (unmoved moves household day)
  where
    by : (b : Bool) → nat_eq household change.household ≡ b → (b || is_moved moves household) ≡ false → (is_moved moves household ≡ false → fold (day_if_moved household) day moves ≡ day) → fold (day_if_moved household) day (change ∷ moves) ≡ day
    by true is e rest = absurd (true≢false e)
    by false is e rest =
        ap (λ (b : Bool). fold (day_if_moved household) (cond b (day_after_move day change) day) moves) is ∙ rest e

-- ---- moves behind others

none-behind : (moves others : List HouseholdMove) (household : ℕ) → is_moved (moves ++ others) household ≡ false → is_moved others household ≡ false
none-behind [] others household none = none
none-behind (change ∷ moves) others household none =
    none-behind moves others household (by (nat_eq household change.household) none)
  where
    by : (b : Bool) → (b || is_moved (moves ++ others) household) ≡ false → is_moved (moves ++ others) household ≡ false
    by true e = absurd (true≢false e)
    by false e = e

moved-behind : (moves others : List HouseholdMove) (household : ℕ) → is_moved moves household ≡ false → is_moved (moves ++ others) household ≡ true → is_moved others household ≡ true
moved-behind [] others household none is = is
moved-behind (change ∷ moves) others household none is =
    by (nat_eq household change.household) none is (moved-behind moves others household)
  where
    by : (b : Bool) → (b || is_moved moves household) ≡ false → (b || is_moved (moves ++ others) household) ≡ true → (is_moved moves household ≡ false → is_moved (moves ++ others) household ≡ true → is_moved others household ≡ true) → is_moved others household ≡ true
    by true e found rest = absurd (true≢false e)
    by false e found rest = rest e found

-- where all are different, what the first move the others don't
apart-behind : (moves others : List HouseholdMove) (household : ℕ) → IsDistinct nat_eq (households_of (moves ++ others)) → is_moved moves household ≡ true → is_moved others household ≡ false
apart-behind [] others household distinct is = absurd (true≢false (sym is))
apart-behind (change ∷ moves) others household distinct is =
    by (nat_eq household change.household) refl is
    (apart-behind moves others household (IsDistinct-tail nat_eq change.household (households_of (moves ++ others)) distinct))
  where
    by : (b : Bool) → nat_eq household change.household ≡ b → (b || is_moved moves household) ≡ true → (is_moved moves household ≡ true → is_moved others household ≡ false) → is_moved others household ≡ false
    by true same found rest =
        subst (λ n. is_moved others n ≡ false) (sym (eqb-true household change.household same))
        (none-behind moves others change.household (none-from-apart change.household (households_of (moves ++ others)) (IsDistinct-head nat_eq change.household (households_of (moves ++ others)) distinct)))
    by false same found rest = rest found

-- ---- reopenings

pub none_reopened : (known : Known) (book : Book) (parts : List (ℕ × HouseholdPart)) → AreReopenings known book parts []
none_reopened known book parts household is = absurd (true≢false (sym is))

pub one_reopened : (known : Known) (rows : List NumberedOrder) (book : Book) (parts : List (ℕ × HouseholdPart)) (moves : List HouseholdMove) (household : ℕ) → OneIsReopened known rows book parts moves household
one_reopened known rows book parts moves household own only part other is =
    subst (IsMovedByReplay known book parts moves) (sym (by (nat_eq other household) refl (sym (ap (list_any (nat_eq other)) only) ∙ is)))
    (record { rows = rows; own = own; part = part })
  where
    by : (b : Bool) → nat_eq other household ≡ b → (b || false) ≡ true → other ≡ household
    by true same e = eqb-true other household same
    by false same e = absurd (true≢false (sym e))

pub reopenings_join : (known : Known) (book : Book) (parts : List (ℕ × HouseholdPart)) (moves others : List HouseholdMove) → ReopeningsJoin known book parts moves others
reopenings_join known book parts moves others apart first later household is = by (is_moved moves household) refl
  where
    both : part_after (moves ++ others) parts household ≡ fold (day_if_moved household) (part_after moves parts household) others
    both = fold-append (day_if_moved household) (part_in parts household) moves others

    by : (b : Bool) → is_moved moves household ≡ b → IsMovedByReplay known book parts (moves ++ others) household
    by true here =
        let own = first household here in
        record {
          rows = own.rows;
          own = own.own;
          part = both ∙ (unmoved others household (part_after moves parts household) (apart-behind moves others household apart here) ∙ own.part);
        }
    by false none =
        let own = later household (moved-behind moves others household none is) in
        record {
          rows = own.rows;
          own = own.own;
          part = both ∙ (ap (λ (day : Day). fold (day_if_moved household) day others) (unmoved moves household (part_in parts household) none) ∙ own.part);
        }

-- each part is reopened or left
pub reopened-or-left : (known : Known) (before after : Book) (parts new : List (ℕ × HouseholdPart)) (moves : List HouseholdMove) → AreReopenings known after parts moves → LeavesUnmoved before after moves → ((household : ℕ) → part_in new household ≡ part_after moves parts household) → EachIsReopenedOrLeft known before after parts new
reopened-or-left known before after parts new moves reopened left shown household = each (is_moved moves household) refl
  where
    each : (b : Bool) → is_moved moves household ≡ b → IsReopened known after new household ⊎ IsLeft before after parts new household
    each true here =
        let own = reopened household here in
        inl (record { rows = own.rows; own = own.own; part = shown household ∙ own.part })
    each false none =
        inr (record { leaves = left household none; part = shown household ∙ unmoved moves household (part_in parts household) none })

pub reopenings_correct : (known : Known) (before after : Book) (parts new : List (ℕ × HouseholdPart)) (moves : List HouseholdMove) → ReopeningsCorrect known before after parts new moves
reopenings_correct known before after parts new moves serves same is reopened left shown =
    ledger_corrected known before after parts new serves same is (reopened-or-left known before after parts new moves reopened left shown)
