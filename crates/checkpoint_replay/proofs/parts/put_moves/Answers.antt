-- That `put_moves` keeps its contract.
use Rattle.checkpoint_replay.proofs.PartFacts.{rooms-left}
use Rattle.checkpoint_replay.specs.Moves.{AreApart, HasTradeRoom, day_if_moved, households_of}
use Rattle.checkpoint_replay.specs.Parts.{part_in}
use Rattle.checkpoint_replay.specs.declared.change.HouseholdMove.{HouseholdMove}
use Rattle.register_machine.specs.replay.Trades.{Day}
use Rattle.std.proofs.Common.{List, ap, arith, fold, length, nat_eq, subst, sym, ◌∙◌, ◌∷◌, ◌≡◌}
use Rattle.std.proofs.lemmas.Map.Keys.{IsDistinct-head, IsDistinct-tail}
use Rattle.std.specs.List.{AllByRecursion}
use Rattle.std.specs.Vec.Iter.{into_iter_items}
use Rattle.checkpoint_replay.proofs.parts.put_moves.Goals as goal

pub loop-change-preserved : goal.loop-change-preserved
loop-change-preserved c =
    let held = c.loop-change.invariant in
    let change = c.in-Some.change in
    let rest = into_iter_items c.next.new.self in
    let is : into_iter_items c.loop-change.change-iterator ≡ change ∷ rest = c.in-Some.ensures.steps.0 in
    let apart : AreApart (change ∷ rest) = subst AreApart is held.apart in
    let rooms : AllByRecursion (HasTradeRoom c.loop-change.parts.entries) (change ∷ rest) = subst (AllByRecursion (HasTradeRoom c.loop-change.parts.entries)) is held.trades in
    let numbers : AllByRecursion (λ (m : HouseholdMove). m.state.number ≡ m.household) (change ∷ rest) = subst (AllByRecursion (λ (m : HouseholdMove). m.state.number ≡ m.household)) is held.numbers in
    let count = ap length is in
    record {
      can_next = tt;
      is_finite = tt;
      parts = λ household.
          ap (λ (day : Day). fold (day_if_moved household) day rest) (c.put_move.ensures.parts household)
          ∙ (ap (λ (moves : List HouseholdMove). fold (day_if_moved household) (part_in c.loop-change.parts.entries household) moves) (sym is) ∙ held.parts household);
      room = omega (arith, count, held.room, c.put_move.ensures.room);
      trades = rooms-left c.loop-change.parts.entries c.put_move.new.parts.entries change.household rest c.put_move.ensures.others (IsDistinct-head nat_eq change.household (households_of rest) apart) rooms.1;
      apart = IsDistinct-tail nat_eq change.household (households_of rest) apart;
      numbers = numbers.1;
      own = λ before. c.put_move.ensures.own (held.own before) numbers.0;
    }
