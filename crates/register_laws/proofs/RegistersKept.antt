-- What the register of a replay keeps in an orderly book, by what stands and by the count of lots.
use Rattle.std.proofs.Common.{All, [], ap, arith, cond, count_by, false, get_or, length, not, subst, true, ℕ, ◌==◌, ◌∷◌, ◌≡◌, ◌≤◌}
use Rattle.std.proofs.lemmas.List.{take_all}
use Rattle.std.proofs.lemmas.List.Elements.{All-head, All-tail}
use Rattle.std.proofs.lemmas.List.Sums.{sum_by-cons}
use Rattle.register_laws.proofs.AccountParts.{Counted, Within, account_parts, parts_in}
use Rattle.register_laws.proofs.LotParts.{owned-parts, parts}
use Rattle.register_laws.proofs.LotTotals.{one-free}
use Rattle.register_laws.proofs.LotsCounted.{counted_at, counted_to}
use Rattle.register_laws.proofs.RegistersStand.{RegisterStands, Stands}
use Rattle.register_laws.specs.OrderTurns.{register_at}
use Rattle.register_laws.specs.ReplayKeeps.{IsKeptPosition, IsKeptRegister, OrderlyKeepsRegisters, owned_in, owned_lots}
use Rattle.register_machine.specs.pricing.CorrectedBook.{Book}
use Rattle.register_machine.specs.replay.Positions.{Position, Register}
use Rattle.register_machine.specs.replay.Replay.{replay, replay_over, replay_to}
use Rattle.register_machine.specs.replay.Trades.{Day}
use Rattle.register_machine.specs.rules.Limits.{most_orders}
use Rattle.share_lots.proofs.LotLemmas.{sum-mils}
use Rattle.share_lots.specs.declared.lot.Lot.{Lot}

kept-position : (x : Position) → Stands x → Within (λ account. most_orders) x → IsKeptPosition x
kept-position x stand is =
    let few = one-free x.holding.lots stand.holding.ranked in
    record {
      holding = stand.holding;
      one_free = few;
      few_mils = omega (arith, sum-mils x.holding.lots, stand.holding.few_mils);
      low_cost = stand.holding.low_cost;
      held = stand.held;
      next_lot = omega (arith, is.numbers, few);
    }

owned-few : (account : ℕ) (register : Register) → All Stands register → owned_lots register account ≤ account_parts account register
owned-few account [] stand = omega arith
owned-few account (x ∷ xs) stand =
    let here = All-head Stands x xs stand in
    let own = owned-parts x.holding.lots here.holding.with_mils in
    let first : owned_in account x ≤ parts_in account x = elim (x.account == account) as (λ b. cond b (count_by (λ (lot : Lot). not lot.free) x.holding.lots) 0 ≤ cond b (parts x.holding.lots) 0) [ true ↦ own | false ↦ omega arith ] in
    omega (arith, first, owned-few account xs (All-tail Stands x xs stand), sum_by-cons (owned_in account) x xs, sum_by-cons (parts_in account) x xs)

kept-register : (register : Register) → RegisterStands register → Counted (λ account. most_orders) register → IsKeptRegister register
kept-register register stand counted = record {
  in_order = stand.in_order;
  positions = λ k d short. kept-position (get_or register k d) (stand.positions k d short) (counted.within k d short);
  few_lots = λ account. omega (arith, owned-few account register stand.positions, counted.few account);
}

-- the replay is that up to its last sheet
pub at-last : (book : Book) → replay_to book (length book.table.sheets) ≡ replay book
unfolding replay
at-last book =
    ap (replay_over book) (take_all (length book.table.sheets) book.table.sheets (omega arith))

pub keeps_registers : (book : Book) → OrderlyKeepsRegisters book
keeps_registers book orderly =
    let kept = λ (number : ℕ). let both = counted_to book number orderly in kept-register (replay_to book number).register both.0 both.1 in
    record {
      up_to = kept;
      at_turn = λ turn. let both = counted_at book turn orderly in kept-register (register_at book turn) both.0 both.1;
      at_last = subst (λ (day : Day). IsKeptRegister day.register) (at-last book) (kept (length book.table.sheets));
    }
