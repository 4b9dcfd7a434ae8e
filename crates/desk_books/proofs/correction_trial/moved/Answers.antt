-- That `moved` keeps its contract.
use Rattle.std.proofs.Common.{ap, is_some, sym, ◌∙◌}
use Rattle.std.proofs.lemmas.Bool.{true≢false}
use Rattle.std.proofs.lemmas.Result.{IfOk-weaker}
use Rattle.register_machine.specs.corrections.Payments.{bearer_in}
use Rattle.desk_books.proofs.correction_trial.moved.Goals as goal

pub unreachable-requires : goal.unreachable-requires
unreachable-requires c =
    true≢false (sym (ap (λ kind. is_some (bearer_in kind)) c.kind.ensures.kind ∙ c.requires.correction) ∙ ap is_some (sym c.bearer_of.ensures ∙ c.in-None.is))

pub returns : goal.returns
returns c =
    IfOk-weaker c.moved_with.result _ _
    (λ tried is. record {
      made = c.in_ok-made.made;
      of = record { moves_are = c.in_ok-made.ensures.moves; differences = c.in_ok-made.ensures.differences };
      bearer = c.in-Some.bearer;
      bears = ap bearer_in (sym c.kind.ensures.kind) ∙ (sym c.bearer_of.ensures ∙ c.in-Some.is);
      gained = is;
    })
    c.moved_with.ensures
