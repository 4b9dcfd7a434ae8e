-- That `first_by_names` keeps its contract.
use Rattle.std.proofs.Common.{◌++◌, ◌∙◌}
use Rattle.std.specs.HashSet.{contains}
use Rattle.std.specs.Option.{option_copied}
use Rattle.desk_books.proofs.FilledNames.{broken-by-names}
use Rattle.desk_books.specs.Filled.{same_name}
use Rattle.desk_books.proofs.broken.first_by_names.Goals as goal

pub returns : goal.returns
returns c =
    c.first_in_parts.ensures
    ∙ broken-by-names (option_copied c.args.order) (contains same_name c.in_ok-filled.filled) c.args.before.now (c.args.front.now ++ c.args.back.now) c.in_ok-filled.ensures
