-- What holds at each turn of the loops of `add_classes`.
use Rattle.std.proofs.Common.{take, ◌++◌, ◌≡◌}
use Rattle.std.specs.List.{flat_map}
use Rattle.holder_statements.specs.Holdings.{holding_in, line_of_class}
use Rattle.holder_statements.proofs.holdings.add_classes.Given as goal

abbrev pub invariant-loop-row : goal.invariant-loop-row
invariant-loop-row l =
    l.out.items ≡ l.fn.out.items ++ flat_map (λ row. line_of_class l.sheets row (holding_in l.state.register l.account row.class)) (take l.row-index l.terms)
