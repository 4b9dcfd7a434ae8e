-- That `FixedRates::take` keeps its contract.
use Rattle.order_book.proofs.NumbersTaken.{rate-taken, rates-left}
use Rattle.order_book.proofs.rates.FixedRates.take.Goals as goal

pub returns-in-FixRate-clause-kept : goal.returns-in-FixRate-clause-kept
returns-in-FixRate-clause-kept c = λ journal moment kept.
    rate-taken c.args.self.now (record { rates = c.put.new.rates }) journal moment c.args.kind.now c.in-FixRate.form (record { class = c.number.result; moment = c.in-FixRate.form.moment }) c.millionths.result
    c.in-FixRate.is (λ i. record { class = c.number.ensures.value i; moment = c.in-FixRate.form.moment }) c.millionths.ensures.value c.put.ensures.rates kept

pub returns-in_default-clause-kept : goal.returns-in_default-clause-kept
returns-in_default-clause-kept c = λ journal moment kept. rates-left c.args.self.now journal (record { moment = moment; kind = c.args.kind.now }) c.in_default.not-FixRate kept
