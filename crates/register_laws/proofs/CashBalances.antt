-- All parties' cash together is zero.
use Rattle.std.proofs.Common.{All, List, [], ap, arith, cond, false, fold, neg_ℤ, pos, refl, subst, sum_by, sym, true, ℕ, ℤ, ◌*◌, ◌+ℤ◌, ◌+◌, ◌-ℤ◌, ◌||◌, ◌∙◌, ◌∷◌, ◌≡◌, ◌≤◌}
use Rattle.std.proofs.Math.IntN.{+ℤ_assoc, +ℤ_comm, +ℤ_invr, neg_ℤ-+ℤ, pos-+ℤ-pos}
use Rattle.std.proofs.lemmas.Bool.{eqb-true, or_parts, true≢false}
use Rattle.std.proofs.lemmas.List.Elements.{All-cons, All-head, All-nil, All-tail}
use Rattle.std.proofs.lemmas.List.Sums.{sum_by-cons}
use Rattle.std.specs.List.{list_any}
use Rattle.agent_events.specs.declared.order.Party.{Party}
use Rattle.register_laws.proofs.Comparisons.{eq-yes}
use Rattle.register_laws.proofs.Sums.{passing, sums-exchange}
use Rattle.register_laws.specs.CashBooks.{Balances, BalancesToZero, IsBetween, ReplayBalances, parties_of, times_among, with_both, with_party}
use Rattle.register_machine.specs.corrections.Cash.{Movement, balance, cents_paid, cents_paid_in, cents_received, cents_received_in, movements_of, same_party}
use Rattle.register_machine.specs.pricing.CorrectedBook.{Book}
use Rattle.register_machine.specs.replay.Replay.{replay}

-- what a movement brings those among whom its taker stands once
brings-once : (parties : List Party) (movement : Movement) → IsBetween parties movement → sum_by (λ party. cents_received_in party movement) parties ≡ movement.cents
brings-once parties movement between =
    passing (same_party movement.taker) movement.cents parties ∙ (ap (λ n. movement.cents * n) between.taker_once ∙ omega arith)

takes-once : (parties : List Party) (movement : Movement) → IsBetween parties movement → sum_by (λ party. cents_paid_in party movement) parties ≡ movement.cents
takes-once parties movement between =
    passing (same_party movement.giver) movement.cents parties ∙ (ap (λ n. movement.cents * n) between.giver_once ∙ omega arith)

pub sum-where : {X : Type 0} (P : X → Type 0) (f g : X → ℕ) → ((x : X) → P x → f x ≡ g x) → (xs : List X) → All P xs → sum_by f xs ≡ sum_by g xs
sum-where P f g same [] all = refl
sum-where P f g same (x ∷ xs) all =
    omega (arith, sum_by-cons f x xs, sum_by-cons g x xs, same x (All-head P x xs all), sum-where P f g same xs (All-tail P x xs all))

-- what all receive is what all pay
received-is-paid : (parties : List Party) (movements : List Movement) → All (IsBetween parties) movements → sum_by (cents_received movements) parties ≡ sum_by (cents_paid movements) parties
received-is-paid parties movements between =
    let in_all = sums-exchange cents_received_in parties movements in
    let out_all = sums-exchange cents_paid_in parties movements in
    in_all
    ∙ (sum-where (IsBetween parties) (λ movement. sum_by (λ party. cents_received_in party movement) parties) (λ movement. sum_by (λ party. cents_paid_in party movement) parties) (λ movement is. brings-once parties movement is ∙ sym (takes-once parties movement is)) movements between
    ∙ sym out_all)

-- whole numbers with signs
regroup : (a b c d : ℤ) → (a +ℤ b) +ℤ (c +ℤ d) ≡ (a +ℤ c) +ℤ (b +ℤ d)
regroup a b c d =
    +ℤ_assoc a b (c +ℤ d)
    ∙ (ap (λ x. a +ℤ x) (sym (+ℤ_assoc b c d) ∙ (ap (λ x. x +ℤ d) (+ℤ_comm b c) ∙ +ℤ_assoc c b d))
    ∙ sym (+ℤ_assoc a c (b +ℤ d)))

pub differences : (a b c d : ℕ) → (pos a -ℤ pos b) +ℤ (pos c -ℤ pos d) ≡ pos (a + c) -ℤ pos (b + d)
differences a b c d =
    regroup (pos a) (neg_ℤ (pos b)) (pos c) (neg_ℤ (pos d))
    ∙ (ap (λ x. x +ℤ (neg_ℤ (pos b) +ℤ neg_ℤ (pos d))) (pos-+ℤ-pos a c)
    ∙ ap (λ x. pos (a + c) +ℤ x) (sym (neg_ℤ-+ℤ (pos b) (pos d)) ∙ ap neg_ℤ (pos-+ℤ-pos b d)))

total-from : (movements : List Movement) (a b : ℕ) (parties : List Party) → fold (λ so_far party. so_far +ℤ balance movements party) (pos a -ℤ pos b) parties ≡ pos (a + sum_by (cents_received movements) parties) -ℤ pos (b + sum_by (cents_paid movements) parties)
total-from movements a b [] =
    let x : a + 0 ≡ a = omega arith in
    let y : b + 0 ≡ b = omega arith in
    rw (x, y) refl
total-from movements a b (party ∷ parties) =
    let more : a + sum_by (cents_received movements) (party ∷ parties) ≡ (a + cents_received movements party) + sum_by (cents_received movements) parties = omega (arith, sum_by-cons (cents_received movements) party parties) in
    let less : b + sum_by (cents_paid movements) (party ∷ parties) ≡ (b + cents_paid movements party) + sum_by (cents_paid movements) parties = omega (arith, sum_by-cons (cents_paid movements) party parties) in
    rw (more, less)
    (ap (λ x. fold (λ so_far p. so_far +ℤ balance movements p) x parties) (differences a b (cents_received movements party) (cents_paid movements party))
    ∙ total-from movements (a + cents_received movements party) (b + cents_paid movements party) parties)

pub balances_to_zero : (parties : List Party) (movements : List Movement) → BalancesToZero parties movements
balances_to_zero parties movements between =
    total-from movements 0 0 parties
    ∙ (ap (λ n. pos (0 + n) -ℤ pos (0 + sum_by (cents_paid movements) parties)) (received-is-paid parties movements between)
    ∙ +ℤ_invr (pos (0 + sum_by (cents_paid movements) parties)))

-- ---- the givers and takers of movements, each counted once

same-party : (p q : Party) → same_party p q ≡ true → p ≡ q
same-party (Party.Holder a) (Party.Holder b) e = ap Party.Holder (eqb-true a b e)
same-party (Party.Class a) (Party.Class b) e = ap Party.Class (eqb-true a b e)
same-party (Party.Dealer a) (Party.Dealer b) e = ap Party.Dealer (eqb-true a b e)
same-party Party.Underwriter Party.Underwriter e = refl
same-party Party.Agent Party.Agent e = refl
same-party p q e = absurd (true≢false (sym e))

own-party : (p : Party) → same_party p p ≡ true
own-party (Party.Holder a) = eq-yes a a refl
own-party (Party.Class a) = eq-yes a a refl
own-party (Party.Dealer a) = eq-yes a a refl
own-party Party.Underwriter = refl
own-party Party.Agent = refl

abbrev among : Party → Party → ℕ
among party x = cond (same_party party x) 1 0

none-among : (party : Party) (parties : List Party) → list_any (same_party party) parties ≡ false → times_among parties party ≡ 0
none-among party [] e = refl
none-among party (x ∷ xs) e =
    let parts = or_parts (same_party party x) (list_any (same_party party) xs) e in
    let here : among party x ≡ 0 = rw (parts.0) refl in
    omega (arith, here, sum_by-cons (among party) x xs, none-among party xs parts.1)

some-among : (party : Party) (parties : List Party) → list_any (same_party party) parties ≡ true → 1 ≤ times_among parties party
some-among party [] e = absurd (true≢false (sym e))
some-among party (x ∷ xs) e =
    elim (same_party party x) as (λ b. (b || list_any (same_party party) xs) ≡ true → times_among (x ∷ xs) party ≡ cond b 1 0 + times_among xs party → 1 ≤ times_among (x ∷ xs) party) [
      | true ↦ λ h s. omega (arith, s)
      | false ↦ λ h s. omega (arith, s, some-among party xs h)
    ] e (sum_by-cons (among party) x xs)

FewParties : List Party → Type 0
FewParties parties = (party : Party) → times_among parties party ≤ 1

-- a party joins those among whom it isn't
record Joined (party : Party) (before after : List Party) : Type 0 where
  there : 1 ≤ times_among after party
  more : (other : Party) → times_among before other ≤ times_among after other
  few : FewParties before → FewParties after

joins : (party : Party) (parties : List Party) → Joined party parties (with_party party parties)
unfolding FewParties
joins party parties =
    elim (list_any (same_party party) parties) as (λ b. list_any (same_party party) parties ≡ b → Joined party parties (cond b parties (party ∷ parties))) [
      | true ↦ λ e. record { there = some-among party parties e; more = λ other. omega arith; few = λ few. few }
      | false ↦ λ e. record {
        there = let own : among party party ≡ 1 = rw (own-party party) refl in omega (arith, own, sum_by-cons (among party) party parties);
        more = λ other. omega (arith, sum_by-cons (among other) party parties);
        few = λ few other. fits e other (few other);
      }
    ] refl
  where
    fits : list_any (same_party party) parties ≡ false → (other : Party) → times_among parties other ≤ 1 → times_among (party ∷ parties) other ≤ 1
    fits e other small =
        elim (same_party other party) as (λ b. same_party other party ≡ b → times_among (party ∷ parties) other ≡ cond b 1 0 + times_among parties other → times_among (party ∷ parties) other ≤ 1) [
          | true ↦ λ same s.
              let none : times_among parties other ≡ 0 = subst (λ q. times_among parties q ≡ 0) (sym (same-party other party same)) (none-among party parties e) in
              omega (arith, s, none)
          | false ↦ λ _ s. omega (arith, s, small)
        ] refl (sum_by-cons (among other) party parties)

parties-more : (parties : List Party) (movements : List Movement) (other : Party) → times_among parties other ≤ times_among (fold with_both parties movements) other
parties-more parties [] other = omega arith
parties-more parties (x ∷ xs) other =
    let taker = joins x.taker parties in
    let giver = joins x.giver (with_party x.taker parties) in
    omega (arith, taker.more other, giver.more other, parties-more (with_both parties x) xs other)

both-few : (parties : List Party) (movement : Movement) → FewParties parties → FewParties (with_both parties movement)
both-few parties movement few =
    (joins movement.giver (with_party movement.taker parties)).few ((joins movement.taker parties).few few)

parties-few : (parties : List Party) (movements : List Movement) → FewParties parties → FewParties (fold with_both parties movements)
parties-few parties [] few = few
parties-few parties (x ∷ xs) few = parties-few (with_both parties x) xs (both-few parties x few)

all-between : (parties : List Party) (movements : List Movement) → FewParties parties → All (IsBetween (fold with_both parties movements)) movements
unfolding FewParties
all-between parties [] few = All-nil (IsBetween parties)
all-between parties (x ∷ xs) few =
    let taker = joins x.taker parties in
    let giver = joins x.giver (with_party x.taker parties) in
    let last = parties-few (with_both parties x) xs (both-few parties x few) in
    All-cons (IsBetween (fold with_both (with_both parties x) xs)) x xs
    (record {
      giver_once = omega (arith, giver.there, parties-more (with_both parties x) xs x.giver, last x.giver);
      taker_once = omega (arith, taker.there, giver.more x.taker, parties-more (with_both parties x) xs x.taker, last x.taker);
    })
    (all-between (with_both parties x) xs (both-few parties x few))

pub movements-balance : (movements : List Movement) → Balances movements
unfolding FewParties
movements-balance movements =
    balances_to_zero (parties_of movements) movements (all-between [] movements (λ party. omega arith))

pub replay_balances : (book : Book) → ReplayBalances book
replay_balances book = movements-balance (movements_of (replay book).trades)
