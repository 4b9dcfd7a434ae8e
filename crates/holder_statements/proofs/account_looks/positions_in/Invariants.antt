-- The positions so far, and those of the classes that are left, are all of them.
use Rattle.std.proofs.Common.{drop, ◌++◌, ◌≡◌}
use Rattle.std.specs.List.{filter_map}
use Rattle.std.specs.Option.{option_copied}
use Rattle.holder_statements.specs.AccountPositions.{register_in, text_in}
use Rattle.holder_statements.proofs.account_looks.positions_in.Given as goal

abbrev pub invariant-loop-class : goal.invariant-loop-class
invariant-loop-class l =
    l.positions ++ filter_map (text_in (register_in (option_copied l.state)) l.account) (drop l.class-index l.classes)
    ≡ filter_map (text_in (register_in (option_copied l.state)) l.account) l.classes
