-- That `exchange_all` keeps its contract.
use Rattle.std.proofs.Common.{subst, sym, ℕ}
use Rattle.household_fold.specs.Exchanges.{exchange_known}
use Rattle.household_fold.specs.Numbers.{AreNumbersWithin}
use Rattle.household_fold.proofs.ExchangeFacts.{loose-is}
use Rattle.household_fold.proofs.exchange.exchange_all.Goals as goal

pub exchange-requires-clause-lots : goal.exchange-requires-clause-lots
exchange-requires-clause-lots c =
    let same = loose-is c.args.day.now c.args.order.now c.register.result.now c.number.result c.class_number.result c.loose-loose.result
    c.loose-loose.ensures.total c.register.ensures c.number.ensures.value c.class_number.ensures in
    subst (λ (n : ℕ). AreNumbersWithin (exchange_known c.args.facts.now c.args.day.now c.args.order.now c.args.to n).register) (sym same) c.requires.lots
