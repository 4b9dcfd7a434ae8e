-- The first trade that a correction breaks, by the parts of the households.
use Rattle.std.proofs.Common.{Bool, List, Option, Some, [], ap, arith, cond, false, filter, find, not, refl, slice_get, suc, sym, true, ℕ, ◌&&◌, ◌==◌, ◌||◌, ◌∙◌, ◌∷◌, ◌≡◌, ◌≤◌}
use Rattle.std.proofs.lemmas.Bool.{and_parts, eqb-true}
use Rattle.std.specs.Option.{option_map_or}
use Rattle.agent_events.specs.declared.order.Order.{Order}
use Rattle.agent_events.specs.declared.request.AccountForm.{AccountForm}
use Rattle.agent_events.specs.declared.trade.Trade.{Trade}
use Rattle.register_laws.proofs.Choosing.{none_some}
use Rattle.register_laws.proofs.HouseholdsIsolated.{kept-one, none-part}
use Rattle.register_laws.proofs.ListParts.{any-within-part}
use Rattle.register_laws.specs.BrokenByParts.{BreaksByParts, first_broken_in}
use Rattle.register_laws.specs.Households.{is_of_household, is_own_trade, part_of}
use Rattle.register_machine.specs.replay.Trades.{Day}
use Rattle.register_machine.specs.rules.Breaks.{is_broken, is_filled, is_trade_of}

-- two tests that agree on what passes a third find the same there
finds-agree : {X : Type 0} (own p q : X → Bool) → ((x : X) → own x ≡ true → p x ≡ q x) → (xs : List X) → find p (filter own xs) ≡ find q (filter own xs)
finds-agree own p q agree [] = refl
finds-agree own p q agree (x ∷ xs) =
    elim (own x) as (λ b. own x ≡ b → find p (cond b (x ∷ filter own xs) (filter own xs)) ≡ find q (cond b (x ∷ filter own xs) (filter own xs))) [
      | true ↦ λ t.
          ap (λ b. cond b (Some x) (find p (filter own xs))) (agree x t)
          ∙ ap (λ found. cond (q x) (Some x) found) (finds-agree own p q agree xs)
      | false ↦ λ t. finds-agree own p q agree xs
    ] refl

-- what is found among some of them is found no sooner among all
record FoundNoSooner {X : Type 0} (p : X → Bool) (xs : List X) (x : X) : Type 0 where
  place : ℕ
  first : ℕ
  least : X
  there : slice_get xs place ≡ Some x
  first_there : slice_get xs first ≡ Some least
  found : find p xs ≡ Some least
  sooner : first ≤ place

no-sooner : {X : Type 0} (own p : X → Bool) (xs : List X) (x : X) → find p (filter own xs) ≡ Some x → FoundNoSooner p xs x
no-sooner own p [] x e = absurd (none_some e)
no-sooner {X = X} own p (y ∷ ys) x e = by (own y) (p y) refl e (no-sooner own p ys x)
  where
    later : FoundNoSooner p ys x → (b : Bool) → p y ≡ b → FoundNoSooner p (y ∷ ys) x
    later rest true is = record {
      place = suc rest.place;
      first = 0;
      least = y;
      there = rest.there;
      first_there = refl;
      found = ap (λ b. cond b (Some y) (find p ys)) is;
      sooner = omega arith;
    }
    later rest false is = record {
      place = suc rest.place;
      first = suc rest.first;
      least = rest.least;
      there = rest.there;
      first_there = rest.first_there;
      found = ap (λ b. cond b (Some y) (find p ys)) is ∙ rest.found;
      sooner = omega (arith, rest.sooner);
    }

    by : (a b : Bool) → p y ≡ b → find p (cond a (y ∷ filter own ys) (filter own ys)) ≡ Some x → (find p (filter own ys) ≡ Some x → FoundNoSooner p ys x) → FoundNoSooner p (y ∷ ys) x
    by true true is e rest = record {
      place = 0;
      first = 0;
      least = y;
      there = sym (ap (λ b. cond b (Some y) (find p (filter own ys))) is) ∙ e;
      first_there = refl;
      found = ap (λ b. cond b (Some y) (find p ys)) is;
      sooner = omega arith;
    }
    by true false is e rest = later (rest (sym (ap (λ b. cond b (Some y) (find p (filter own ys))) is) ∙ e)) false is
    by false b is e rest = later (rest e) b is

module _ (accounts : List AccountForm) (household : ℕ) (order : Option Order) (before : Day) where
  -- an own trade is broken in the part where it is in the whole
  broken-own : (trade : Trade) → is_of_household accounts household trade.account ≡ true → is_broken order before.trades trade ≡ is_broken order (part_of accounts household before).trades trade
  broken-own trade mine =
      ap (λ b. not (is_filled trade.outcome) && (b || option_map_or (λ (own : Order). is_trade_of own.account own.ref_no trade) order false))
      (sym
      (any-within-part (is_own_trade (is_of_household accounts household)) (λ other. is_trade_of trade.account trade.ref_no other && is_filled other.outcome)
      (λ other e. ap (is_of_household accounts household) (eqb-true other.account trade.account (and_parts (other.account == trade.account) (other.ref_no == trade.ref_no) (and_parts (is_trade_of trade.account trade.ref_no other) (is_filled other.outcome) e).0).0) ∙ mine)
      before.trades))

  pub found-own : (after : Day) → find (is_broken order before.trades) (part_of accounts household after).trades ≡ first_broken_in order (part_of accounts household before) (part_of accounts household after)
  found-own after =
      finds-agree (is_own_trade (is_of_household accounts household)) (is_broken order before.trades) (is_broken order (part_of accounts household before).trades) broken-own after.trades

pub breaks_by_parts : (accounts : List AccountForm) (order : Option Order) (before after : Day) → BreaksByParts accounts order before after
breaks_by_parts accounts order before after = record {
  own = λ trade is household mine.
      sym (found-own accounts household order before after)
      ∙ kept-one (is_broken order before.trades) (is_own_trade (is_of_household accounts household)) after.trades trade is mine;
  some = λ household trade is.
      let found = no-sooner (is_own_trade (is_of_household accounts household)) (is_broken order before.trades) after.trades trade (found-own accounts household order before after ∙ is) in
      (found.place, found.first, found.least, found.there, found.first_there, found.found, found.sooner);
  none = λ is household.
      sym (found-own accounts household order before after)
      ∙ none-part (is_broken order before.trades) (is_own_trade (is_of_household accounts household)) after.trades is;
}
