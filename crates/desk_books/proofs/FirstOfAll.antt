-- The least of the households' first broken trades is the first of all.
use Rattle.std.proofs.Common.{Contains, List, None, Option, Some, ap, arith, false, inl, inr, length, refl, sym, ◌∙◌, ◌≡◌, ◌⊎◌}
use Rattle.std.proofs.lemmas.Bool.{true≢false}
use Rattle.std.proofs.lemmas.List.Elements.{All-contains}
use Rattle.std.specs.List.{Any}
use Rattle.agent_events.specs.declared.order.Order.{Order}
use Rattle.agent_events.specs.declared.request.AccountForm.{AccountForm}
use Rattle.agent_events.specs.declared.trade.Trade.{Trade}
use Rattle.desk_books.proofs.TurnsTold.{turns_tell}
use Rattle.desk_books.specs.FirstOfAll.{AreFirstOfParts, IsFirstOfPart, LeastIsFirst, NoneIsBroken}
use Rattle.desk_books.specs.Least.{IsLeastOf}
use Rattle.desk_books.specs.Turns.{comes_before, turn_in}
use Rattle.desk_books.specs.declared.least.BrokenTrade.{BrokenTrade}
use Rattle.register_laws.proofs.FirstBroken.{first_broken_is_first}
use Rattle.register_laws.specs.TradesInTurn.{IsExecutedBefore}
use Rattle.register_laws.specs.BrokenByParts.{first_broken_in}
use Rattle.register_machine.specs.pricing.CorrectedBook.{Book}
use Rattle.register_machine.specs.replay.Replay.{replay}
use Rattle.register_machine.specs.replay.Trades.{Day}

module _ (book : Book) (order : Option Order) (before : Day) (accounts : List AccountForm) (brokens : List BrokenTrade) (least : BrokenTrade)
    (firsts : AreFirstOfParts book order before accounts brokens) (are : IsLeastOf brokens (Some least)) (own : IsFirstOfPart book order before accounts least) where
  -- the first one of all is seen, with its turn, and isn't before the least
  not-before : (first : Trade) → Any (λ (broken : BrokenTrade). broken.trade ≡ first) brokens → IsExecutedBefore book.orders first least.trade → ⊥
  not-before first seen executed =
      let among : Contains brokens seen.1 = (seen.0, seen.2, seen.3) in
      let part = All-contains (IsFirstOfPart book order before accounts) brokens seen.1 firsts.each among in
      let behind = All-contains (λ (broken : BrokenTrade). comes_before broken.turn least.turn ≡ false) brokens seen.1 are.1 among in
      let turn : turn_in book.orders first ≡ Some seen.1.turn = ap (λ (t : Trade). turn_in book.orders t) (sym seen.4) ∙ part.turn in
      true≢false (sym ((turns_tell book.orders first least.trade).only seen.1.turn least.turn turn own.turn executed) ∙ behind)

  same : (first : Trade) → Any (λ (broken : BrokenTrade). broken.trade ≡ first) brokens → (least.trade ≡ first) ⊎ IsExecutedBefore book.orders first least.trade → first ≡ least.trade
  same first seen (inl is) = sym is
  same first seen (inr executed) = absurd (not-before first seen executed)

pub least_is_first : (book : Book) (order : Option Order) (before : Day) (accounts : List AccountForm) (brokens : List BrokenTrade) (least : BrokenTrade) → LeastIsFirst book order before accounts brokens least
least_is_first book order before accounts brokens least numbered once turns parts owned firsts are =
    let own = All-contains (IsFirstOfPart book order before accounts) brokens least firsts.each are.0 in
    let all = parts.some own.household least.trade own.first in
    let whose = owned all.2 all.5 in
    all.5
    ∙ ap (λ (t : Trade). Some t)
    (same book order before accounts brokens least firsts are own all.2
    (firsts.every whose.0 all.2 (parts.own all.2 all.5 whose.0 whose.1))
    (first_broken_is_first book order before accounts own.household numbered once turns least.trade all.2 own.first all.5))

pub none_is_broken : (book : Book) (order : Option Order) (before : Day) (accounts : List AccountForm) (brokens : List BrokenTrade) → NoneIsBroken book order before accounts brokens
none_is_broken book order before accounts brokens parts owned firsts none = by (first_broken_in order before (replay book)) refl
  where
    by : (found : Option Trade) → first_broken_in order before (replay book) ≡ found → found ≡ None
    by None is = refl
    by (Some first) is =
        let whose = owned first is in
        let seen = firsts.every whose.0 first (parts.own first is whose.0 whose.1) in
        let empty : length brokens ≡ 0 = ap length none in
        absurd (omega (arith, seen.2, empty))
