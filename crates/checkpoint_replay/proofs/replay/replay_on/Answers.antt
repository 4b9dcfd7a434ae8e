-- That `replay_on` keeps its contract.
use Rattle.std.proofs.Common.{List, ap, arith, subst, suc, sym, ℕ, ◌+◌, ◌-◌, ◌∙◌, ◌≡◌}
use Rattle.agent_events.specs.declared.order.Order.{Order}
use Rattle.household_fold.specs.Facts.{FactsFit, Known}
use Rattle.household_fold.specs.Households.{AreOrdersOf, step_known}
use Rattle.household_fold.specs.Numbers.{AreNumbersWithin}
use Rattle.checkpoint_replay.proofs.PremiseFacts.{can-go_on, next-facts, next-lots, next-orders}
use Rattle.checkpoint_replay.specs.BusySheets.{busy_sheets, steps_over}
use Rattle.checkpoint_replay.specs.Premises.{CanBeReplayed}
use Rattle.checkpoint_replay.specs.Replays.{day_behind, days_behind, known_on, orders_under}
use Rattle.register_machine.specs.replay.Trades.{Day}
use Rattle.checkpoint_replay.proofs.replay.replay_on.Goals as goal

pub overflow_add-sheet : goal.overflow_add-sheet
overflow_add-sheet g c =
    let below = c.loop-sheet-test.true in
    let most = c.sheet_of-last.type_inv in
    omega arith

pub state_behind-requires-clause-facts : goal.state_behind-requires-clause-facts
state_behind-requires-clause-facts g c =
    let known = c.args.facts.now in
    let sheet = c.loop-sheet.sheet in
    let day : Day = record { register = c.loop-sheet.reached.register; trades = c.loop-sheet.trades } in
    let below = c.loop-sheet-test.true in
    let last = c.sheet_of-last.ensures in
    let P : ℕ → Type 0 = λ n. CanBeReplayed known c.args.state.number c.args.orders.now sheet n day in
    let can = subst P (let e : known.sheet - sheet ≡ suc (known.sheet - (sheet + 1)) = omega arith in e) c.loop-sheet.invariant.ready in
    let Q : Known → Type 0 = λ k. FactsFit k in
    subst Q (sym c.facts_on-at_hand.ensures) (next-facts known c.args.state.number c.args.orders.now sheet (known.sheet - (sheet + 1)) day can)

pub state_behind-requires-clause-orders : goal.state_behind-requires-clause-orders
state_behind-requires-clause-orders g c =
    let known = c.args.facts.now in
    let sheet = c.loop-sheet.sheet in
    let day : Day = record { register = c.loop-sheet.reached.register; trades = c.loop-sheet.trades } in
    let below = c.loop-sheet-test.true in
    let last = c.sheet_of-last.ensures in
    let P : ℕ → Type 0 = λ n. CanBeReplayed known c.args.state.number c.args.orders.now sheet n day in
    let can = subst P (let e : known.sheet - sheet ≡ suc (known.sheet - (sheet + 1)) = omega arith in e) c.loop-sheet.invariant.ready in
    let Q : Known → Type 0 = λ k. AreOrdersOf k c.loop-sheet.reached.number c.under.result.now in
    let R : List Order → Type 0 = λ os. AreOrdersOf (known_on known (sheet + 1)) c.loop-sheet.reached.number os in
    let S : ℕ → Type 0 = λ n. AreOrdersOf (known_on known (sheet + 1)) n (orders_under (sheet + 1) c.args.orders.now) in
    subst Q (sym c.facts_on-at_hand.ensures)
    (subst R (sym c.under.ensures)
    (subst S (sym c.loop-sheet.invariant.number)
    (next-orders known c.args.state.number c.args.orders.now sheet (known.sheet - (sheet + 1)) day can)))

pub state_behind-requires-clause-lots : goal.state_behind-requires-clause-lots
state_behind-requires-clause-lots g c =
    let known = c.args.facts.now in
    let sheet = c.loop-sheet.sheet in
    let day : Day = record { register = c.loop-sheet.reached.register; trades = c.loop-sheet.trades } in
    let below = c.loop-sheet-test.true in
    let last = c.sheet_of-last.ensures in
    let P : ℕ → Type 0 = λ n. CanBeReplayed known c.args.state.number c.args.orders.now sheet n day in
    let can = subst P (let e : known.sheet - sheet ≡ suc (known.sheet - (sheet + 1)) = omega arith in e) c.loop-sheet.invariant.ready in
    let Q : Known → Type 0 = λ k. AreNumbersWithin (step_known k c.under.result.now c.loop-sheet.reached.register).register in
    let R : List Order → Type 0 = λ os. AreNumbersWithin (step_known (known_on known (sheet + 1)) os c.loop-sheet.reached.register).register in
    subst Q (sym c.facts_on-at_hand.ensures)
    (subst R (sym c.under.ensures)
    (next-lots known c.args.state.number c.args.orders.now sheet (known.sheet - (sheet + 1)) day can))

pub loop-sheet-preserved : goal.loop-sheet-preserved
loop-sheet-preserved g c =
    let known = c.args.facts.now in
    let rows = c.args.orders.now in
    let sheet = c.loop-sheet.sheet in
    let left = known.sheet - (sheet + 1) in
    let day : Day = record { register = c.loop-sheet.reached.register; trades = c.loop-sheet.trades } in
    let after : Day = record { register = c.in_ok-reached.reached.register; trades = c.state_behind.new.trades } in
    let below = c.loop-sheet-test.true in
    let last = c.sheet_of-last.ensures in
    let begin = c.loop-sheet.invariant.begin in
    let count : known.sheet - sheet ≡ suc left = omega arith in
    let P : ℕ → Type 0 = λ n. CanBeReplayed known c.args.state.number rows sheet n day in
    let can = can-go_on known c.args.state.number rows sheet left day (subst P count c.loop-sheet.invariant.ready) in
    let is : after ≡ day_behind (known_on known (sheet + 1)) (orders_under (sheet + 1) rows) day =
    c.in_ok-reached.ensures.day
    ∙ (ap (λ (k : Known). day_behind k c.under.result.now day) c.facts_on-at_hand.ensures
    ∙ ap (λ (os : List Order). day_behind (known_on known (sheet + 1)) os day) c.under.ensures) in
    let Q : Day → Type 0 = λ d. CanBeReplayed known c.args.state.number rows (sheet + 1) left d in
    record {
      begin = omega arith;
      last = omega arith;
      number = c.in_ok-reached.ensures.number ∙ c.loop-sheet.invariant.number;
      ready = subst Q (sym is) can;
      day =
          ap (λ (d : Day). days_behind known rows (sheet + 1) left d) is
          ∙ (ap (λ (n : ℕ). days_behind known rows sheet n day) (sym count)
          ∙ c.loop-sheet.invariant.day);
      most = (
          let before = c.loop-sheet.invariant.most in
          let more = c.state_behind.ensures.most in
          omega arith
          );
      steps = (
          let before = c.loop-sheet.invariant.steps in
          let more = c.in_ok-reached.ensures.steps
          ∙ (ap (λ (k : Known). c.loop-sheet.steps + steps_over k c.under.result.now day.register) c.facts_on-at_hand.ensures
          ∙ ap (λ (os : List Order). c.loop-sheet.steps + steps_over (known_on known (sheet + 1)) os day.register) c.under.ensures) in
          let there = ap (λ (n : ℕ). busy_sheets known rows sheet n day) count in
          let rest = ap (λ (d : Day). busy_sheets known rows (sheet + 1) left d) is in
          omega arith
          );
    }
