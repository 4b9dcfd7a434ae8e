-- What holds at each turn of the loops of `add_lines`.
use Rattle.std.proofs.Common.{take, ◌++◌, ◌≡◌}
use Rattle.std.specs.List.{flat_map}
use Rattle.holder_statements.specs.Periods.{line_in_period}
use Rattle.holder_statements.proofs.periods.add_lines.Given as goal

abbrev pub invariant-loop-trade : goal.invariant-loop-trade
invariant-loop-trade l = l.out.items ≡ l.fn.out.items ++ flat_map (line_in_period l.form) (take l.trade-index l.trades)
