-- The proof of the law `deferred_rates_fall`.
use Rattle.std.proofs.Common.{ℕ, ◌≤◌, None}
use Rattle.class_terms.specs.Tables.{breaks_schedule}
use Rattle.class_terms.proofs.TableFacts.{HasRates, rates-lawful, schedule-order, schedule-ceiling, each-follows, each-stands}
use Rattle.class_terms.proofs.laws.deferred_rates_fall.Goals as goal

pub returns : goal.returns
returns c =
    let schedule : HasRates c.args.rates.now = rates-lawful c.args.rates.now c.requires.lawful in
    record {
      rates =
          each-follows breaks_schedule (λ (before rate : ℕ). rate ≤ before) schedule-order 0 None c.args.rates.now c.args.earlier
          c.args.later c.args.first c.args.second schedule.stands c.requires.order c.requires.first c.requires.second;
      ceiling =
          each-stands breaks_schedule (λ (rate : ℕ). rate ≤ 850) schedule-ceiling 0 None c.args.rates.now c.args.earlier
          c.args.first schedule.stands c.requires.first;
      most = schedule.most;
    }
