-- What changes and payments add up to, one more of them and all together.
use Rattle.std.proofs.Common.{◌^◌, List, None, Option, Some, [], ap, arith, cond, false, flat_map, get_or, length, refl, sum_by, sym, take, true, ℕ, ℤ, ◌+◌, ◌++◌, ◌<◌, ◌∙◌, ◌∷◌, ◌≡◌, ◌≤◌, negsuc, pos, Bool, ◌*◌, ◌+ℤ◌}
use Rattle.std.proofs.lemmas.List.{flat_map_more, take_more}
use Rattle.std.proofs.lemmas.List.Sums.{sum_by-append, sum_by-cons, sum_by-le-sum_by, sum_by_more, sum_by_more_le}
use Rattle.std.proofs.lemmas.Int.{ints}
use Rattle.agent_events.specs.declared.order.Party.{Party}
use Rattle.agent_events.specs.declared.reply_lists.ClassGain.{ClassGain}
use Rattle.agent_events.specs.declared.totals.CashChange.{CashChange}
use Rattle.register_machine.specs.corrections.Cash.{Movement, cents_paid_in, cents_received_in, same_party}
use Rattle.register_machine.specs.corrections.Payments.{loss_payment, loss_payments, payer}
use Rattle.gain_loss_book.proofs.FlowFacts.{flow-same}
use Rattle.gain_loss_book.specs.Flows.{fall, flow_by, net, no_flow, rise, with_flow}
use Rattle.gain_loss_book.specs.Posted.{all_changes, cents_moved, change_flow, changes_flow, fall_in, most_cash, most_gains, most_posts, flow_of_movements, movements_flow, payments_by, rise_in, size_of_cash, size_of_correction, size_of_gains}
use Rattle.gain_loss_book.specs.declared.flows.Flow.{Flow}
use Rattle.gain_loss_book.specs.declared.posting.Correction.{Correction}

pub flow-in : (a b : Flow) → a ≡ b → a.inflow ≡ b.inflow
flow-in a b same = ap (λ (f : Flow). f.inflow) same

pub flow-out : (a b : Flow) → a ≡ b → a.outflow ≡ b.outflow
flow-out a b same = ap (λ (f : Flow). f.outflow) same

-- a change as what it brings a party
pub change-added : (here : Bool) (now : Flow) (change : Flow) → cond here (with_flow now change) now ≡ with_flow now (record { inflow = cond here change.inflow 0; outflow = cond here change.outflow 0 })
change-added true now change = refl
change-added false now change = flow-same now (with_flow now no_flow) (omega arith) (omega arith)

pub change-step : (change : CashChange) (flow : Flow) → flow ≡ flow_by change.cents → (now next : Flow) (q : Party) → next ≡ cond (same_party change.party q) (with_flow now flow) now → next ≡ with_flow now (change_flow change q)
change-step change flow same now next q is =
    is ∙ (change-added (same_party change.party q) now flow ∙ ap (λ (f : Flow). with_flow now (record { inflow = cond (same_party change.party q) f.inflow 0; outflow = cond (same_party change.party q) f.outflow 0 })) same)

-- one more change
pub changes-step : (rows : List CashChange) (i : ℕ) (d : CashChange) → i < length rows → (base now next : Flow) (q : Party) → now ≡ with_flow base (changes_flow (take i rows) q) → next ≡ with_flow now (change_flow (get_or rows i d) q) → next ≡ with_flow base (changes_flow (take (i + 1) rows) q)
changes-step rows i d there base now next q was is =
    let inflow = sum_by_more (rise_in q) rows i d there in
    let outflow = sum_by_more (fall_in q) rows i d there in
    flow-same next (with_flow base (changes_flow (take (i + 1) rows) q))
    (omega (arith, inflow, flow-in _ _ was, flow-in _ _ is)) (omega (arith, outflow, flow-out _ _ was, flow-out _ _ is))

pub all-step : (rows : List CashChange) (i : ℕ) (d : CashChange) → i < length rows → (base now next : Flow) → now ≡ with_flow base (all_changes (take i rows)) → next ≡ with_flow now (flow_by (get_or rows i d).cents) → next ≡ with_flow base (all_changes (take (i + 1) rows))
all-step rows i d there base now next was is =
    let inflow = sum_by_more (λ (x : CashChange). rise x.cents) rows i d there in
    let outflow = sum_by_more (λ (x : CashChange). fall x.cents) rows i d there in
    flow-same next (with_flow base (all_changes (take (i + 1) rows)))
    (omega (arith, inflow, flow-in _ _ was, flow-in _ _ is)) (omega (arith, outflow, flow-out _ _ was, flow-out _ _ is))

-- the changes so far and the next one are within all of them
pub rise-fits : (rows : List CashChange) (i : ℕ) (d : CashChange) → i < length rows → (base now : Flow) (m : ℕ) → now ≡ with_flow base (all_changes (take i rows)) → base.inflow + (all_changes rows).inflow < m → now.inflow + rise (get_or rows i d).cents < m
rise-fits rows i d there base now m was fits =
    omega (arith, sum_by_more_le (λ (x : CashChange). rise x.cents) rows i d there, flow-in _ _ was)

pub fall-fits : (rows : List CashChange) (i : ℕ) (d : CashChange) → i < length rows → (base now : Flow) (m : ℕ) → now ≡ with_flow base (all_changes (take i rows)) → base.outflow + (all_changes rows).outflow < m → now.outflow + fall (get_or rows i d).cents < m
fall-fits rows i d there base now m was fits =
    omega (arith, sum_by_more_le (λ (x : CashChange). fall x.cents) rows i d there, flow-out _ _ was)

-- movements behind others
movements-behind : (a b : List Movement) (base now next : Flow) (q : Party) → now ≡ with_flow base (movements_flow a q) → next ≡ with_flow now (movements_flow b q) → next ≡ with_flow base (movements_flow (a ++ b) q)
movements-behind a b base now next q was is =
    flow-same next (with_flow base (movements_flow (a ++ b) q))
    (omega (arith, sum_by-append (cents_received_in q) a b, flow-in _ _ was, flow-in _ _ is))
    (omega (arith, sum_by-append (cents_paid_in q) a b, flow-out _ _ was, flow-out _ _ is))

moved-behind : (a b : List Movement) (base now next : Flow) → now ≡ with_flow base (flow_of_movements a) → next ≡ with_flow now (flow_of_movements b) → next ≡ with_flow base (flow_of_movements (a ++ b))
moved-behind a b base now next was is =
    let both = sum_by-append (λ (m : Movement). m.cents) a b in
    flow-same next (with_flow base (flow_of_movements (a ++ b)))
    (omega (arith, both, flow-in _ _ was, flow-in _ _ is))
    (omega (arith, both, flow-out _ _ was, flow-out _ _ is))

-- the losses so far, and one more
abbrev loss_by : Party → ClassGain → List Movement
loss_by party gain = loss_payment party gain.class gain.cents

losses-more : (party : Party) (gains : List ClassGain) (i : ℕ) (d : ClassGain) → i < length gains → loss_payments (Some party) (take (i + 1) gains) ≡ loss_payments (Some party) (take i gains) ++ loss_by party (get_or gains i d)
losses-more party gains i d there =
    ap (flat_map (loss_by party)) (take_more gains i d there) ∙ sym (flat_map_more (loss_by party) [] (take i gains) (get_or gains i d))

pub losses-step : (party : Party) (gains : List ClassGain) (i : ℕ) (x : ClassGain) → i < length gains → x ≡ get_or gains i x → (base now next : Flow) (q : Party) → now ≡ with_flow base (movements_flow (loss_payments (Some party) (take i gains)) q) → next ≡ with_flow now (movements_flow (loss_payment party x.class x.cents) q) → next ≡ with_flow base (movements_flow (loss_payments (Some party) (take (i + 1) gains)) q)
losses-step party gains i x there at base now next q was is =
    movements-behind (loss_payments (Some party) (take i gains)) (loss_by party x) base now next q was is
    ∙ ap (λ (m : List Movement). with_flow base (movements_flow m q)) (sym (losses-more party gains i x there ∙ ap (λ (y : ClassGain). loss_payments (Some party) (take i gains) ++ loss_by party y) (sym at)))

pub moved-step : (party : Party) (gains : List ClassGain) (i : ℕ) (x : ClassGain) → i < length gains → x ≡ get_or gains i x → (base now next : Flow) → now ≡ with_flow base (flow_of_movements (loss_payments (Some party) (take i gains))) → next ≡ with_flow now (flow_of_movements (loss_payment party x.class x.cents)) → next ≡ with_flow base (flow_of_movements (loss_payments (Some party) (take (i + 1) gains)))
moved-step party gains i x there at base now next was is =
    moved-behind (loss_payments (Some party) (take i gains)) (loss_by party x) base now next was is
    ∙ ap (λ (m : List Movement). with_flow base (flow_of_movements m)) (sym (losses-more party gains i x there ∙ ap (λ (y : ClassGain). loss_payments (Some party) (take i gains) ++ loss_by party y) (sym at)))

-- the cents that losses move
moved-sum : (party : Party) (gains : List ClassGain) → cents_moved (loss_payments (Some party) gains) ≡ sum_by (λ gain. cents_moved (loss_by party gain)) gains
moved-sum party [] = refl
moved-sum party (gain ∷ gains) =
    omega (arith, sum_by-append (λ (m : Movement). m.cents) (loss_by party gain) (loss_payments (Some party) gains), sum_by-cons (λ (g : ClassGain). cents_moved (loss_by party g)) gain gains, moved-sum party gains)

pub loss-fits : (party : Party) (gains : List ClassGain) (i : ℕ) (x : ClassGain) → i < length gains → x ≡ get_or gains i x → cents_moved (loss_payments (Some party) (take i gains)) + cents_moved (loss_payment party x.class x.cents) ≤ cents_moved (loss_payments (Some party) gains)
loss-fits party gains i x there at =
    omega (arith, moved-sum party (take i gains), moved-sum party gains, sum_by_more_le (λ (g : ClassGain). cents_moved (loss_by party g)) gains i x there, ap (λ (g : ClassGain). cents_moved (loss_by party g)) at)

-- what is posted is within its limits
one-loss : (party : Party) (class : ℕ) (cents : ℤ) → cents_moved (loss_payment party class cents) ≤ rise cents + fall cents
one-loss party class (pos n) = omega arith
one-loss party class (negsuc n) = omega arith

losses-within : (party : Party) (gains : List ClassGain) → cents_moved (loss_payments (Some party) gains) ≤ size_of_gains gains
losses-within party gains =
    omega (arith, moved-sum party gains, sum_by-le-sum_by (λ (g : ClassGain). cents_moved (loss_by party g)) (λ (g : ClassGain). rise g.cents + fall g.cents) gains (λ g. one-loss party g.class g.cents))

pub paid-within : (correction : Option Correction) → cents_moved (payments_by correction) ≤ size_of_correction correction
paid-within None = omega arith
paid-within (Some correction) = by_payer (payer correction.bearer)
  where
    by_payer : (o : Option Party) → cents_moved (loss_payments o correction.gains) ≤ size_of_gains correction.gains
    by_payer None = omega arith
    by_payer (Some party) = losses-within party correction.gains

pub rises-within : (rows : List CashChange) → (all_changes rows).inflow ≤ size_of_cash rows
rises-within rows = sum_by-le-sum_by (λ (x : CashChange). rise x.cents) (λ (x : CashChange). rise x.cents + fall x.cents) rows (λ x. omega arith)

pub falls-within : (rows : List CashChange) → (all_changes rows).outflow ≤ size_of_cash rows
falls-within rows = sum_by-le-sum_by (λ (x : CashChange). fall x.cents) (λ (x : CashChange). rise x.cents + fall x.cents) rows (λ x. omega arith)

-- what a book has posted stays within its limits, of what came in and of what went out
pub in-within : (rows : List CashChange) (correction : Option Correction) (base now next : Flow) (posts : ℕ) → base.inflow ≤ posts * (most_cash + most_gains) → now ≡ with_flow base (all_changes rows) → next ≡ with_flow now (flow_of_movements (payments_by correction)) → size_of_cash rows ≤ most_cash → size_of_correction correction ≤ most_gains → next.inflow ≤ (posts + 1) * (most_cash + most_gains)
in-within rows correction base now next posts before was is cash gains =
    omega (arith, before, flow-in _ _ was, flow-in _ _ is, rises-within rows, paid-within correction, cash, gains)

pub out-within : (rows : List CashChange) (correction : Option Correction) (base now next : Flow) (posts : ℕ) → base.outflow ≤ posts * (most_cash + most_gains) → now ≡ with_flow base (all_changes rows) → next ≡ with_flow now (flow_of_movements (payments_by correction)) → size_of_cash rows ≤ most_cash → size_of_correction correction ≤ most_gains → next.outflow ≤ (posts + 1) * (most_cash + most_gains)
out-within rows correction base now next posts before was is cash gains =
    omega (arith, before, flow-out _ _ was, flow-out _ _ is, falls-within rows, paid-within correction, cash, gains)

-- the cash of flows behind one another
pub net-behind : (base now next a b : Flow) → now ≡ with_flow base a → next ≡ with_flow now b → net next ≡ net base +ℤ (net a +ℤ net b)
net-behind base now next a b was is =
    omega (arith, ints, flow-in _ _ was, flow-out _ _ was, flow-in _ _ is, flow-out _ _ is)

-- what is moved is held by all together as before
pub net-moved : (base now next a : Flow) (cents : ℕ) → now ≡ with_flow base a → next ≡ with_flow now (record { inflow = cents; outflow = cents }) → net next ≡ net base +ℤ net a
net-moved base now next a cents was is =
    omega (arith, ints, flow-in _ _ was, flow-out _ _ was, flow-in _ _ is, flow-out _ _ is)

-- what is posted next fits too
pub in-room : (rows asked : List CashChange) → rows ≡ asked → (base : Flow) (posts booked : ℕ) → base.inflow ≤ posts * (most_cash + most_gains) → posts ≡ booked → booked < most_posts → size_of_cash asked ≤ most_cash → base.inflow + (all_changes rows).inflow < 2 ^ 128
in-room rows asked same base posts booked before counted few cash =
    omega (arith, before, counted, few, cash, rises-within rows, ap size_of_cash same)

pub out-room : (rows asked : List CashChange) → rows ≡ asked → (base : Flow) (posts booked : ℕ) → base.outflow ≤ posts * (most_cash + most_gains) → posts ≡ booked → booked < most_posts → size_of_cash asked ≤ most_cash → base.outflow + (all_changes rows).outflow < 2 ^ 128
out-room rows asked same base posts booked before counted few cash =
    omega (arith, before, counted, few, cash, falls-within rows, ap size_of_cash same)

pub paid-in-room : (rows asked : List CashChange) → rows ≡ asked → (paid correction : Option Correction) → paid ≡ correction → (base now : Flow) (posts booked : ℕ) → base.inflow ≤ posts * (most_cash + most_gains) → posts ≡ booked → booked < most_posts → size_of_cash asked ≤ most_cash → now ≡ with_flow base (all_changes rows) → size_of_correction correction ≤ most_gains → now.inflow + cents_moved (payments_by paid) < 2 ^ 128
paid-in-room rows asked same paid correction taken base now posts booked before counted few cash was gains =
    omega (arith, before, counted, few, cash, gains, flow-in _ _ was, rises-within rows, ap size_of_cash same, paid-within paid, ap size_of_correction taken)

pub paid-out-room : (rows asked : List CashChange) → rows ≡ asked → (paid correction : Option Correction) → paid ≡ correction → (base now : Flow) (posts booked : ℕ) → base.outflow ≤ posts * (most_cash + most_gains) → posts ≡ booked → booked < most_posts → size_of_cash asked ≤ most_cash → now ≡ with_flow base (all_changes rows) → size_of_correction correction ≤ most_gains → now.outflow + cents_moved (payments_by paid) < 2 ^ 128
paid-out-room rows asked same paid correction taken base now posts booked before counted few cash was gains =
    omega (arith, before, counted, few, cash, gains, flow-out _ _ was, falls-within rows, ap size_of_cash same, paid-within paid, ap size_of_correction taken)
