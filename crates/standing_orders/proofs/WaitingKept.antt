-- What keeps the households and the waiting places.
use Rattle.std.proofs.Common.{Bool, List, None, Option, Some, [], ap, arith, cond, false, filter, find, length, map, nat_lt, not, option_map, refl, subst, suc, sym, true, zero, ℕ, ◌++◌, ◌==◌, ◌∙◌, ◌∷◌, ◌≡◌, ◌≢◌, ◌||◌, ◌⊎◌, inl, inr}
use Rattle.std.proofs.lemmas.Bool.{eqb-true, ltb-false, true≢false}
use Rattle.std.proofs.lemmas.List.{map-append}
use Rattle.std.specs.List.{slice_get}
use Rattle.std.specs.Option.{option_map_or}
use Rattle.agent_events.specs.declared.order.OrderRow.{OrderRow}
use Rattle.agent_events.specs.declared.request.AccountForm.{AccountForm}
use Rattle.register_laws.proofs.Comparisons.{eq-no, eq-yes}
use Rattle.register_machine.specs.journal.Kinds.{account_numbered, household_of}
use Rattle.standing_orders.proofs.InTurn.{head-same, no-cons, tail-same}
use Rattle.standing_orders.proofs.PricedOrders.{or-first, or-second}
use Rattle.standing_orders.specs.Places.{is_among, is_other_or_passes, passes_at, with_place}
use Rattle.standing_orders.specs.WaitingLaws.{AnotherWaits, OneIsSettled, OneMoreOwned, OneMoreWaits, OthersLeave, OwnedWhenChanged, OwnedWithAccount, StillWaits}

-- ---- households

pub one_more_owned : (accounts : List AccountForm) (rows : List OrderRow) (owners : List ℕ) (row : OrderRow) (household : ℕ) → OneMoreOwned accounts rows owners row household
one_more_owned accounts rows owners row household own are =
    map-append (λ (r : OrderRow). household_of accounts r.order.account) rows (row ∷ [])
    ∙ (ap (λ (front : List (Option ℕ)). front ++ household_of accounts row.order.account ∷ []) are
    ∙ (ap (λ (one : Option ℕ). map Some owners ++ one ∷ []) own
    ∙ sym (map-append Some owners (household ∷ []))))

found-still : {X : Type 0} (test : X → Bool) (xs : List X) (x found : X) → find test xs ≡ Some found → find test (xs ++ x ∷ []) ≡ Some found
found-still test [] x found is = absurd (none-some is)
  where
    none-some : None ≡ Some found → ⊥
    none-some h = cc
found-still {X} test (y ∷ xs) x found is = by_test (test y) is (found-still test xs x found)
  where
    by_test : (b : Bool) → cond b (Some y) (find test xs) ≡ Some found → (find test xs ≡ Some found → find test (xs ++ x ∷ []) ≡ Some found) → cond b (Some y) (find test (xs ++ x ∷ [])) ≡ Some found
    by_test true h later = h
    by_test false h later = later h

household-still : (accounts : List AccountForm) (form : AccountForm) (number household : ℕ) → household_of accounts number ≡ Some household → household_of (accounts ++ form ∷ []) number ≡ Some household
household-still accounts form number household is = by_found (account_numbered accounts number) refl is
  where
    none-some : None ≡ Some household → ⊥
    none-some h = cc

    by_found : (found : Option AccountForm) → account_numbered accounts number ≡ found → option_map (λ (account : AccountForm). account.household) found ≡ Some household → household_of (accounts ++ form ∷ []) number ≡ Some household
    by_found None e h = absurd (none-some h)
    by_found (Some account) e h = ap (option_map (λ (a : AccountForm). a.household)) (found-still (λ (a : AccountForm). a.account == number) accounts form account e) ∙ h

pub owned_with_account : (accounts : List AccountForm) (rows : List OrderRow) (owners : List ℕ) (form : AccountForm) → OwnedWithAccount accounts rows owners form
owned_with_account accounts [] owners form are = are
owned_with_account accounts (row ∷ rows) [] form are = absurd (no-cons are)
owned_with_account accounts (row ∷ rows) (owner ∷ owners) form are =
    ap (λ (one : Option ℕ). one ∷ map (λ (r : OrderRow). household_of (accounts ++ form ∷ []) r.order.account) rows) (household-still accounts form row.order.account owner (head-same are))
    ∙ ap (λ later. Some owner ∷ later) (owned_with_account accounts rows owners form (tail-same are))

kept-accounts : (accounts : List AccountForm) (change : OrderRow → OrderRow) → ((row : OrderRow) → (change row).order.account ≡ row.order.account) → (rows : List OrderRow) → map (λ (r : OrderRow). household_of accounts r.order.account) (map change rows) ≡ map (λ (r : OrderRow). household_of accounts r.order.account) rows
kept-accounts accounts change same [] = refl
kept-accounts accounts change same (row ∷ rows) =
    ap (λ (number : ℕ). household_of accounts number ∷ map (λ (r : OrderRow). household_of accounts r.order.account) (map change rows)) (same row)
    ∙ ap (λ later. household_of accounts row.order.account ∷ later) (kept-accounts accounts change same rows)

pub owned_when_changed : (accounts : List AccountForm) (rows : List OrderRow) (owners : List ℕ) (change : OrderRow → OrderRow) → OwnedWhenChanged accounts rows owners change
owned_when_changed accounts rows owners change same are = kept-accounts accounts change same rows ∙ are

-- ---- among places

among-front : (xs ys : List ℕ) (k : ℕ) → is_among xs k ≡ true → is_among (xs ++ ys) k ≡ true
among-front [] ys k is = absurd (true≢false (sym is))
among-front (x ∷ xs) ys k is = by_test (k == x) is (among-front xs ys k)
  where
    by_test : (b : Bool) → (b || is_among xs k) ≡ true → (is_among xs k ≡ true → is_among (xs ++ ys) k ≡ true) → (b || is_among (xs ++ ys) k) ≡ true
    by_test true h later = refl
    by_test false h later = later h

among-behind : (xs : List ℕ) (k : ℕ) → is_among (xs ++ k ∷ []) k ≡ true
among-behind [] k = or-first (k == k) false (eq-yes k k refl)
among-behind (x ∷ xs) k = or-second (k == x) (is_among (xs ++ k ∷ []) k) (among-behind xs k)

-- a place in a list with one more is in the list, or is the last one
got-more : {X : Type 0} (xs : List X) (x found : X) (k : ℕ) → slice_get (xs ++ x ∷ []) k ≡ Some found → (slice_get xs k ≡ Some found) ⊎ (k ≡ length xs)
got-more [] x found zero is = inr refl
got-more [] x found (suc k) is = absurd (none-some is)
  where
    none-some : None ≡ Some found → ⊥
    none-some h = cc
got-more (y ∷ xs) x found zero is = inl is
got-more (y ∷ xs) x found (suc k) is = elim (got-more xs x found k is) [
  | inl h ↦ inl h
  | inr e ↦ inr (ap suc e)
]

pub one_more_waits : (test : OrderRow → Bool) (rows : List OrderRow) (places : List ℕ) (row : OrderRow) → OneMoreWaits test rows places row
one_more_waits test rows places row each place found there passes = elim (got-more rows row found place there) [
  | inl before ↦ among-front places (length rows ∷ []) place (each place found before passes)
  | inr last ↦ subst (λ n. is_among (places ++ length rows ∷ []) n ≡ true) (sym last) (among-behind places (length rows))
]

-- ---- with a place more

or-either : (a b c : Bool) → (a || b) ≡ true → (b ≡ true → c ≡ true) → (a || c) ≡ true
or-either true b c h later = refl
or-either false b c h later = later h

among-with : (place k : ℕ) (xs : List ℕ) → is_among xs k ≡ true → is_among (with_place place xs) k ≡ true
among-with place k [] is = absurd (true≢false (sym is))
among-with place k (x ∷ xs) is = by_less (nat_lt x place) (nat_lt place x) (among-with place k xs)
  where
    by_less : (less more : Bool) → (is_among xs k ≡ true → is_among (with_place place xs) k ≡ true) → is_among (cond less (x ∷ with_place place xs) (cond more (place ∷ x ∷ xs) (x ∷ xs))) k ≡ true
    by_less true more later = or-either (k == x) (is_among xs k) (is_among (with_place place xs) k) is later
    by_less false true later = or-second (k == place) (is_among (x ∷ xs) k) is
    by_less false false later = is

place-among : (place : ℕ) (xs : List ℕ) → is_among (with_place place xs) place ≡ true
place-among place [] = or-first (place == place) false (eq-yes place place refl)
place-among place (x ∷ xs) = by_less (nat_lt x place) refl (nat_lt place x) refl (place-among place xs)
  where
    by_less : (less : Bool) → nat_lt x place ≡ less → (more : Bool) → nat_lt place x ≡ more → is_among (with_place place xs) place ≡ true → is_among (cond less (x ∷ with_place place xs) (cond more (place ∷ x ∷ xs) (x ∷ xs))) place ≡ true
    by_less true e more f later = or-second (place == x) (is_among (with_place place xs) place) later
    by_less false e true f later = or-first (place == place) (is_among (x ∷ xs) place) (eq-yes place place refl)
    by_less false e false f later =
        let low = ltb-false x place e in
        let high = ltb-false place x f in
        or-first (place == x) (is_among xs place) (eq-yes place x (omega (arith, low, high)))

-- the others were there before
pub among-others : (place k : ℕ) (xs : List ℕ) → k ≢ place → is_among (with_place place xs) k ≡ true → is_among xs k ≡ true
among-others place k [] apart is = sym (ap (λ own. own || false) (eq-no k place apart)) ∙ is
among-others place k (x ∷ xs) apart is = by_less (nat_lt x place) (nat_lt place x) is (among-others place k xs apart)
  where
    by_less : (less more : Bool) → is_among (cond less (x ∷ with_place place xs) (cond more (place ∷ x ∷ xs) (x ∷ xs))) k ≡ true → (is_among (with_place place xs) k ≡ true → is_among xs k ≡ true) → is_among (x ∷ xs) k ≡ true
    by_less true more h later = or-either (k == x) (is_among (with_place place xs) k) (is_among xs k) h later
    by_less false true h later = sym (ap (λ own. own || is_among (x ∷ xs) k) (eq-no k place apart)) ∙ h
    by_less false false h later = h

pub another_waits : (test : OrderRow → Bool) (rows changed : List OrderRow) (places : List ℕ) (place : ℕ) → AnotherWaits test rows changed places place
another_waits test rows changed places place others each k row there passes = by_place (k == place) refl
  where
    by_place : (b : Bool) → (k == place) ≡ b → is_among (with_place place places) k ≡ true
    by_place true e = subst (λ n. is_among (with_place place places) n ≡ true) (sym (eqb-true k place e)) (place-among place places)
    by_place false e = among-with place k places (each k row (sym (others k (λ same. true≢false (sym (eq-yes k place same) ∙ e))) ∙ there) passes)

pub still_waits : (test now : OrderRow → Bool) (rows changed : List OrderRow) (places : List ℕ) → StillWaits test now rows changed places
still_waits test now rows changed places passed each place row there passes =
    let before = passed place row there passes in
    each place before.0 before.1 before.2

-- ---- those that leave

among-filter : (test : ℕ → Bool) (k : ℕ) (xs : List ℕ) → is_among xs k ≡ true → test k ≡ true → is_among (filter test xs) k ≡ true
among-filter test k [] is passes = absurd (true≢false (sym is))
among-filter test k (x ∷ xs) is passes = by_test (test x) refl (k == x) refl (λ later. among-filter test k xs later passes)
  where
    by_test : (b : Bool) → test x ≡ b → (same : Bool) → (k == x) ≡ same → (is_among xs k ≡ true → is_among (filter test xs) k ≡ true) → is_among (cond b (x ∷ filter test xs) (filter test xs)) k ≡ true
    by_test true e same f later = or-either (k == x) (is_among xs k) (is_among (filter test xs) k) is later
    by_test false e true f later = absurd (true≢false (sym (ap test (sym (eqb-true k x f)) ∙ passes) ∙ e))
    by_test false e false f later = later (sym (ap (λ own. own || is_among xs k) f) ∙ is)

pub others_leave : (test : OrderRow → Bool) (rows : List OrderRow) (places : List ℕ) → OthersLeave test rows places
others_leave test rows places each place row there passes =
    among-filter (passes_at test rows) place places (each place row there passes)
    (ap (λ (found : Option OrderRow). option_map_or test found false) there ∙ passes)

pub one_is_settled : (test : OrderRow → Bool) (rows : List OrderRow) (places : List ℕ) (place : ℕ) → OneIsSettled test rows places place
one_is_settled test rows places place each k row there passes =
    among-filter (is_other_or_passes test rows place) k places (each k row there passes)
    (or-second (not (k == place)) (passes_at test rows k) (ap (λ (found : Option OrderRow). option_map_or test found false) there ∙ passes))
