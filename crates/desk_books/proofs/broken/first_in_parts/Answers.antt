-- That `first_in_parts` keeps its contract.
use Rattle.std.proofs.Common.{ap, find, sym, ◌∙◌}
use Rattle.std.proofs.lemmas.List.Folds.{find-append}
use Rattle.std.specs.HashSet.{contains}
use Rattle.std.specs.Option.{option_copied, option_or}
use Rattle.desk_books.specs.Filled.{is_broken_by, same_name}
use Rattle.desk_books.proofs.broken.first_in_parts.Goals as goal

pub returns-in-Some : goal.returns-in-Some
returns-in-Some c =
    let test = is_broken_by (option_copied c.args.order) (contains same_name c.args.filled.now) in
    ap (λ found. option_or found (find test c.args.back.now)) c.in-Some.ensures
    ∙ sym (find-append test c.args.front.now c.args.back.now)

pub returns-in-None : goal.returns-in-None
returns-in-None c =
    let test = is_broken_by (option_copied c.args.order) (contains same_name c.args.filled.now) in
    c.first_among-in-None.ensures
    ∙ ap (λ found. option_or found (find test c.args.back.now)) c.in-None.ensures
    ∙ sym (find-append test c.args.front.now c.args.back.now)
