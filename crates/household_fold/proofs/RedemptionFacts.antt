-- A redemption, by what it is short of.
use Rattle.std.proofs.Common.{None, [], ap, eq-eqb, false, inl, inr, sym, ℕ, ◌*◌, ◌==◌, ◌∙◌, ◌∷◌, ◌≡◌}
use Rattle.std.proofs.lemmas.Bool.Decides.{eqb_tells}
use Rattle.agent_events.specs.declared.order.Order.{Order}
use Rattle.agent_events.specs.declared.trade.Outcome.{Outcome}
use Rattle.agent_events.specs.declared.trade.TradeKind.{TradeKind}
use Rattle.agent_events.specs.declared.trade.Why.{Why}
use Rattle.forward_price.specs.declared.price_sheet.Sheet.{Sheet}
use Rattle.money_units.specs.Rounding.{half}
use Rattle.register_machine.proofs.FoundFacts.{own-class}
use Rattle.register_machine.specs.journal.Choices.{when}
use Rattle.register_machine.specs.pricing.CorrectedBook.{Book}
use Rattle.register_machine.specs.pricing.OrderClasses.{class_of}
use Rattle.register_machine.specs.replay.Positions.{position_of}
use Rattle.register_machine.specs.replay.Redemption.{day_after_redemption, day_after_redemption_for, day_after_sale, short_of}
use Rattle.register_machine.specs.replay.Trades.{Day, day_unless_any, nav_of, order_trade, with_trade}

-- nothing is short
pub sold-is : (book : Book) (sheet : Sheet) (day : Day) (order : Order) (asked : ℕ) → None ≡ short_of (position_of day.register order.account (class_of order.body)).holding asked → day_after_sale book sheet day (position_of day.register order.account (class_of order.body)) asked (order_trade sheet order TradeKind.Sell) ≡ day_after_redemption book sheet day order asked
sold-is book sheet day order asked none =
    let position = position_of day.register order.account (class_of order.body) in
    let trade = order_trade sheet order TradeKind.Sell in
    ap (λ reason. day_unless_any (reason ∷ []) day trade (day_after_sale book sheet day position asked trade)) none

-- an amount that buys no mil
pub too-small-is : (book : Book) (sheet : Sheet) (day : Day) (order : Order) (amount asked : ℕ) → asked ≡ half (1000 * amount) (nav_of sheet (class_of order.body)) → asked ≡ 0 → with_trade day (record (order_trade sheet order TradeKind.Sell) { outcome = Outcome.Unfilled Why.TooSmall }) ≡ day_after_redemption_for book sheet day order amount
too-small-is book sheet day order amount asked is none =
    let position = position_of day.register order.account (class_of order.body) in
    let trade = order_trade sheet order TradeKind.Sell in
    let mils = half (1000 * amount) (nav_of sheet position.class) in
    let same : mils ≡ asked = ap (λ class. half (1000 * amount) (nav_of sheet class)) (own-class day.register order.account (class_of order.body)) ∙ sym is in
    sym (ap (λ b. day_unless_any (when b Why.TooSmall ∷ short_of position.holding mils ∷ []) day trade (day_after_sale book sheet day position mils trade))
    (eq-eqb mils 0 (same ∙ none)))

-- and one that buys some
pub by-amount-is : (book : Book) (sheet : Sheet) (day : Day) (order : Order) (amount asked : ℕ) → asked ≡ half (1000 * amount) (nav_of sheet (class_of order.body)) → (asked ≡ 0 → ⊥) → day_after_redemption book sheet day order asked ≡ day_after_redemption_for book sheet day order amount
by-amount-is book sheet day order amount asked is some =
    let position = position_of day.register order.account (class_of order.body) in
    let trade = order_trade sheet order TradeKind.Sell in
    let mils = half (1000 * amount) (nav_of sheet position.class) in
    let same : asked ≡ mils = is ∙ sym (ap (λ class. half (1000 * amount) (nav_of sheet class)) (own-class day.register order.account (class_of order.body))) in
    ap (λ n. day_after_redemption book sheet day order n) same
    ∙ sym (ap (λ b. day_unless_any (when b Why.TooSmall ∷ short_of position.holding mils ∷ []) day trade (day_after_sale book sheet day position mils trade))
    (apart mils 0 (λ e. some (same ∙ e))))
  where
    apart : (m n : ℕ) → (m ≡ n → ⊥) → (m == n) ≡ false
    apart m n differ = elim (eqb_tells m n) [ inl (t, e) ↦ absurd (differ e) | inr (t, e) ↦ t ]
