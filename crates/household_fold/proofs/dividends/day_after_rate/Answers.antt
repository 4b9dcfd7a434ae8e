-- That `day_after_rate` keeps its contract.
use Rattle.std.proofs.Common.{ap, refl, ◌∙◌, ◌≡◌}
use Rattle.register_machine.specs.replay.Dividend.{keys_of_class}
use Rattle.household_fold.specs.Dividends.{class_known_at_rate}
use Rattle.household_fold.specs.Facts.{sheet_at_hand}
use Rattle.household_fold.proofs.DividendFacts.{keys-of_class, numbers-at_key}
use Rattle.household_fold.proofs.dividends.day_after_rate.Goals as goal

pub loop-key-init : goal.loop-key-init
loop-key-init c =
    let items : c.as_slice-key-items.result.now ≡ keys_of_class c.args.class c.args.day.now.register =
    c.as_slice-key-items.ensures ∙ (c.in_ok-keys.ensures ∙ ap (keys_of_class c.args.class) c.register.ensures) in
    rw items (keys-of_class c.args.class c.args.day.now.register, refl)

pub day_after_dividend-requires-clause-lots : goal.day_after_dividend-requires-clause-lots
day_after_dividend-requires-clause-lots c =
    numbers-at_key (sheet_at_hand c.args.facts.now) c.args.rate c.args.nav c.loop-key.day
    (class_known_at_rate c.args.facts.now c.args.rate (c.args.class, c.args.nav) c.args.day.now) c.as_slice-key-items.result.now c.loop-key.key-index
    c.account_of.result c.args.class c.key-item.result c.loop-key-test.true c.loop-key.invariant.0 c.key-item.is c.account_of.ensures
    c.loop-key.invariant.1 c.requires.lots
