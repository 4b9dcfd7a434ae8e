-- That `gains` keeps its contract.
use Rattle.std.proofs.Common.{List, ap, sym, ℕ, ◌∙◌, ◌≡◌}
use Rattle.std.specs.BTreeMap.{keys}
use Rattle.std.specs.List.{filter_map}
use Rattle.std.specs.List.Sorted.{IsStrictlyIncreasing}
use Rattle.std.proofs.lemmas.Result.{IfOk-weaker}
use Rattle.agent_events.specs.declared.reply_lists.ClassGain.{ClassGain}
use Rattle.forward_price.specs.PriceTables.{sheets_on_trial}
use Rattle.gain_loss_book.proofs.ClassFlowFacts.{keeps-change}
use Rattle.gain_loss_book.proofs.GainsOfClasses.{gains-over, numbers-changed}
use Rattle.gain_loss_book.specs.ClassFlows.{flows_of}
use Rattle.gain_loss_book.specs.ClassGains.{HasChanged, changes_class, gain_of_flows, gains_in}
use Rattle.gain_loss_book.proofs.class_gains.gains.Goals as goal

pub gains_of_classes-requires-clause-within : goal.gains_of_classes-requires-clause-within
gains_of_classes-requires-clause-within c = λ q.
    keeps-change c.args.changes.now q _ (c.in_ok-classes.ensures q) c.requires.cash c.requires.mils

pub returns : goal.returns
returns c =
    let classes = c.in_ok-classes.classes in
    let sheets = sheets_on_trial c.args.patch c.args.prices.now.table.sheets in
    IfOk-weaker c.gains_of_classes.result
    (λ (gains : List ClassGain). gains ≡ filter_map (λ q. gain_of_flows q (flows_of classes q) sheets) (keys classes))
    (λ (gains : List ClassGain). (chosen : List ℕ) → IsStrictlyIncreasing chosen → HasChanged chosen c.args.changes.now → gains ≡ gains_in c.args.changes.now sheets chosen)
    (λ gains is chosen increasing has. is ∙ gains-over classes c.args.changes.now sheets chosen c.in_ok-classes.ensures c.gains_of_classes.ensures.rising increasing has)
    c.gains_of_classes.ensures.gains

pub gains_of_classes-requires-clause-numbered : goal.gains_of_classes-requires-clause-numbered
gains_of_classes-requires-clause-numbered c = λ q changed.
    numbers-changed c.args.changes.now c.requires.numbered q (ap changes_class (sym (c.in_ok-classes.ensures q)) ∙ changed)
