-- The proof of the law `new_mils_are_a_difference`.
use Rattle.std.proofs.Common.{◌≡◌, ◌+◌, Some, ap, ◌∙◌, arith}
use Rattle.fund_exchange.specs.Exchange.{mils_total, with_new_mils}
use Rattle.fund_exchange.proofs.ExchangeFacts.{renewed-at}
use Rattle.fund_exchange.proofs.laws.new_mils_are_a_difference.Goals as goal

pub returns : goal.returns
returns c =
    let first : 0 + mils_total c.args.before.now ≡ mils_total c.args.before.now = omega arith in
    renewed-at c.args.from c.args.to 0 c.args.before.now c.args.piece c.args.behind.now
    ∙ ap (λ n. Some (with_new_mils c.args.from c.args.to n c.args.piece)) first
