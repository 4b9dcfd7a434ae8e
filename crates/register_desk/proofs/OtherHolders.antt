-- What is booked behind a lawful journal moves cash of no holders but those of its accounts.
use Rattle.std.proofs.Common.{All, Bool, List, None, Option, Some, [], ap, arith, cond, false, filter, flat_map, negsuc, pos, refl, suc, sum_by, sym, true, ℕ, ℤ, ◌==◌, ◌∙◌, ◌∷◌, ◌≡◌}
use Rattle.std.proofs.lemmas.Bool.{eqb-true, true≢false}
use Rattle.std.proofs.lemmas.Int.{ints}
use Rattle.std.proofs.lemmas.List.Elements.{All-append, All-cons, All-nil, All-weaker}
use Rattle.std.specs.List.{list_any}
use Rattle.agent_events.specs.Events.{Event}
use Rattle.agent_events.specs.declared.order.Bearer.{Bearer}
use Rattle.agent_events.specs.declared.order.OrderRow.{OrderRow}
use Rattle.agent_events.specs.declared.order.Party.{Party}
use Rattle.agent_events.specs.declared.reply_lists.ClassGain.{ClassGain}
use Rattle.holder_statements.specs.KeptBooks.{AreHoldersOf}
use Rattle.register_laws.proofs.EventReplays.{known-rows, known_in, named_in}
use Rattle.register_laws.specs.ReadsAlike.{IsKnownRow}
use Rattle.forward_price.specs.PriceTables.{Table}
use Rattle.register_laws.proofs.CashBalances.{sum-where}
use Rattle.register_laws.proofs.NoIdentityTwice.{no_account_twice}
use Rattle.register_laws.proofs.Sums.{zeros}
use Rattle.register_laws.proofs.TradeParties.{KnownMovement, KnownOrder, KnownTarget, replay-moves}
use Rattle.register_laws.specs.Identities.{has_number}
use Rattle.register_laws.specs.Lawful.{book_behind}
use Rattle.register_machine.specs.corrections.Cash.{Movement, balance, cents_paid_in, cents_received_in, cash_movement, movements_of, same_party}
use Rattle.register_machine.specs.corrections.Gains.{gains_at}
use Rattle.register_machine.specs.corrections.Payments.{bearer_in, booked_movements, loss_payment, loss_payments, payer, payments_for, payments_from, payments_of}
use Rattle.register_machine.specs.journal.Journals.{Journal, with_event}
use Rattle.register_machine.specs.journal.Kinds.{accounts_of}
use Rattle.register_machine.specs.journal.Lawful.{IsLawful}
use Rattle.register_machine.specs.pricing.CorrectedOrders.{stands}
use Rattle.register_machine.specs.pricing.OrderClasses.{target_of}
use Rattle.register_machine.specs.pricing.PublishedTable.{empty_table, table_after}
use Rattle.register_machine.specs.replay.Replay.{replay}

-- where the party is a holder, it has an account
abbrev IsOwner : Journal → Party → Type 0
IsOwner journal (Party.Holder account) = list_any (has_number account) (accounts_of journal) ≡ true
IsOwner journal _ = Unit {0}

-- ---- trades

target-known : (journal : Journal) (target : Option ℕ) → KnownTarget (IsOwner journal) target
target-known journal None = tt
target-known journal (Some to) = tt

trades-owned : (journal : Journal) → IsLawful journal → All (KnownMovement (IsOwner journal)) (movements_of (replay (book_behind journal)).trades)
trades-owned journal lawful =
    replay-moves (IsOwner journal) tt (book_behind journal)
    (All-weaker (IsKnownRow (known_in journal) (named_in journal)) (λ (row : OrderRow). KnownOrder (IsOwner journal) row.order)
    (λ row is. record { account = is.account; class = tt; target = target-known journal (target_of row.order.body) })
    (filter stands (book_behind journal).orders) (known-rows journal lawful))

-- ---- payments

loss-owned : (journal : Journal) (party : Party) (class : ℕ) (cents : ℤ) → IsOwner journal party → All (KnownMovement (IsOwner journal)) (loss_payment party class cents)
loss-owned journal party class (pos cents) own = All-nil (KnownMovement (IsOwner journal))
loss-owned journal party class (negsuc n) own =
    All-cons (KnownMovement (IsOwner journal)) (cash_movement party (Party.Class class) (suc n)) [] (record { giver = own; taker = tt }) (All-nil (KnownMovement (IsOwner journal)))

losses-owned : (journal : Journal) (party : Party) (gains : List ClassGain) → IsOwner journal party → All (KnownMovement (IsOwner journal)) (flat_map (λ gain. loss_payment party gain.class gain.cents) gains)
losses-owned journal party [] own = All-nil (KnownMovement (IsOwner journal))
losses-owned journal party (gain ∷ gains) own =
    All-append (KnownMovement (IsOwner journal)) (loss_payment party gain.class gain.cents) (flat_map (λ gain. loss_payment party gain.class gain.cents) gains)
    (loss-owned journal party gain.class gain.cents own) (losses-owned journal party gains own)

bearer-owned : (journal : Journal) (bearer : Bearer) (gains : List ClassGain) → All (KnownMovement (IsOwner journal)) (loss_payments (payer bearer) gains)
bearer-owned journal Bearer.Fund gains = All-nil (KnownMovement (IsOwner journal))
bearer-owned journal Bearer.Agent gains = losses-owned journal Party.Agent gains tt
bearer-owned journal (Bearer.Dealer dealer) gains = losses-owned journal (Party.Dealer dealer) gains tt

payments-owned : (whole : Journal) (bearer : Option Bearer) (table : Table) (journal : Journal) (event : Event) → All (KnownMovement (IsOwner whole)) (payments_for bearer table journal event)
payments-owned whole None table journal event = All-nil (KnownMovement (IsOwner whole))
payments-owned whole (Some bearer) table journal event = bearer-owned whole bearer (gains_at table journal event)

all-payments : (whole : Journal) (table : Table) (journal later : Journal) → All (KnownMovement (IsOwner whole)) (payments_from table journal later)
all-payments whole table journal [] = All-nil (KnownMovement (IsOwner whole))
all-payments whole table journal (event ∷ later) =
    All-append (KnownMovement (IsOwner whole)) (payments_for (bearer_in event.kind) table journal event) (payments_from (table_after table event) (with_event journal event) later)
    (payments-owned whole (bearer_in event.kind) table journal event) (all-payments whole (table_after table event) (with_event journal event) later)

-- ---- nothing is moved of another holder

another : (journal : Journal) (number : ℕ) → list_any (has_number number) (accounts_of journal) ≡ false → (party : Party) → IsOwner journal party → same_party party (Party.Holder number) ≡ false
another journal number other (Party.Holder account) own = by_same (account == number) refl
  where
    by_same : (b : Bool) → (account == number) ≡ b → b ≡ false
    by_same true is = absurd (true≢false (sym own ∙ (ap (λ n. list_any (has_number n) (accounts_of journal)) (eqb-true account number is) ∙ other)))
    by_same false is = refl
another journal number other (Party.Class class) own = refl
another journal number other (Party.Dealer dealer) own = refl
another journal number other Party.Underwriter own = refl
another journal number other Party.Agent own = refl

nothing-moved : (journal : Journal) (movements : List Movement) → All (KnownMovement (IsOwner journal)) movements → (number : ℕ) → list_any (has_number number) (accounts_of journal) ≡ false → balance movements (Party.Holder number) ≡ pos 0
nothing-moved journal movements known number other =
    let received : sum_by (cents_received_in (Party.Holder number)) movements ≡ 0 =
    sum-where (KnownMovement (IsOwner journal)) (cents_received_in (Party.Holder number)) (λ m. 0)
    (λ m own. ap (λ b. cond b m.cents 0) (another journal number other m.taker own.taker)) movements known ∙ zeros movements in
    let paid : sum_by (cents_paid_in (Party.Holder number)) movements ≡ 0 =
    sum-where (KnownMovement (IsOwner journal)) (cents_paid_in (Party.Holder number)) (λ m. 0)
    (λ m own. ap (λ b. cond b m.cents 0) (another journal number other m.giver own.giver)) movements known ∙ zeros movements in
    omega (arith, ints, received, paid)

pub are_holders : (journal : Journal) → IsLawful journal → AreHoldersOf (accounts_of journal) (booked_movements journal (replay (book_behind journal)))
are_holders journal lawful = record {
  once = no_account_twice journal lawful;
  others = nothing-moved journal (booked_movements journal (replay (book_behind journal)))
      (All-append (KnownMovement (IsOwner journal)) (movements_of (replay (book_behind journal)).trades) (payments_of journal)
      (trades-owned journal lawful) (all-payments journal empty_table [] journal));
}
