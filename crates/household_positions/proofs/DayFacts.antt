-- What a handler needs of a position that it takes out of a day and closes with a trade.
use Rattle.std.proofs.Common.{[], ap, subst, ℕ, ◌++◌, ◌∙◌, ◌∷◌, ◌≡◌}
use Rattle.agent_events.specs.declared.trade.Trade.{Trade}
use Rattle.register_machine.proofs.FoundFacts.{own-account, own-class}
use Rattle.register_machine.specs.replay.Positions.{Position, Register, position_of, put}
use Rattle.register_machine.specs.replay.Trades.{Day, day_after_trade}
use Rattle.household_positions.specs.Register.{day_without, without}
use Rattle.household_positions.proofs.PlaceFacts.{put-without}

-- a position put back where it was taken out is put in its stead
pub put-back : (p : Position) (register : Register) (a c : ℕ) → p.account ≡ a → p.class ≡ c → put p (without a c register) ≡ put p register
put-back p register a c account class =
    let at_account : put p (without p.account c register) ≡ put p register =
    (let P : ℕ → Type 0 = λ x. put p (without p.account x register) ≡ put p register in subst P class (put-without p register)) in
    let P : ℕ → Type 0 = λ x. put p (without x c register) ≡ put p register in
    subst P account at_account

-- and so the day goes on as over the whole register
pub close-back : (day : Day) (a c : ℕ) (p : Position) (trade : Trade) → p.account ≡ a → p.class ≡ c → day_after_trade (day_without a c day) p trade ≡ day_after_trade day p trade
close-back day a c p trade account class =
    ap (λ (register : Register). record { register = register; trades = day.trades ++ trade ∷ [] }) (put-back p day.register a c account class)

-- a position taken out by its key, changed, and put back with a trade: the day goes on with it in its stead
pub closed-at : (day taken : Day) (n k a c : ℕ) (f : Position → Position) (p x : Position) (trade t : Trade) → n ≡ a → k ≡ c → taken ≡ day_without n k day → x ≡ position_of day.register n k → p ≡ f x → ((y : Position) → (f y).account ≡ y.account) → ((y : Position) → (f y).class ≡ y.class) → trade ≡ t → day_after_trade taken p trade ≡ day_after_trade day (f (position_of day.register a c)) t
closed-at day taken n k a c f p x trade t account class rest found changed keeps_account keeps_class same =
    let q = f (position_of day.register a c) in
    let place = ap (λ m. position_of day.register m k) account ∙ ap (λ m. position_of day.register a m) class in
    let changed_is : p ≡ q = changed ∙ ap f (found ∙ place) in
    let rest_is : taken ≡ day_without a c day = rest ∙ (ap (λ m. day_without m k day) account ∙ ap (λ m. day_without a m day) class) in
    ap (λ (d : Day). day_after_trade d p trade) rest_is
    ∙ (ap (λ (y : Position). day_after_trade (day_without a c day) y trade) changed_is
    ∙ (ap (λ (u : Trade). day_after_trade (day_without a c day) q u) same
    ∙ close-back day a c q t (keeps_account (position_of day.register a c) ∙ own-account day.register a c) (keeps_class (position_of day.register a c) ∙ own-class day.register a c)))
