-- What a prepared change makes of the tables.
use Rattle.std.specs.Prelude.{◌<◌, ◌≤◌, length}
use Rattle.reference_tables.specs.Tables.{Tables, with_account, with_dividend, with_fixed_rate, with_terms}
use Rattle.reference_tables.specs.declared.table_change.TableChange.{TableChange}

-- the tables with the row of the change in its place
abbrev pub tables_with : Tables → TableChange → Tables
tables_with tables TableChange.Nothing = tables
tables_with tables (TableChange.Class terms room) =
    record { terms = with_terms tables.terms terms; accounts = tables.accounts; rates = tables.rates }
tables_with tables (TableChange.Account row room) =
    record { terms = tables.terms; accounts = with_account tables.accounts row; rates = tables.rates }
tables_with tables (TableChange.Dividend row room) =
    record { terms = tables.terms; accounts = tables.accounts; rates = with_dividend tables.rates row }
tables_with tables (TableChange.FixedRate row room) =
    record { terms = tables.terms; accounts = tables.accounts; rates = with_fixed_rate tables.rates row }

-- the tables can take the change: it has memory for its table, and its rate is in range
abbrev pub CanTake : Tables → TableChange → Type 0
CanTake tables TableChange.Nothing = Unit {0}
CanTake tables (TableChange.Class terms room) = length tables.terms < room
CanTake tables (TableChange.Account row room) = length tables.accounts < room
CanTake tables (TableChange.Dividend row room) = (length tables.rates < room) × (row.rate ≤ 1000000000)
CanTake tables (TableChange.FixedRate row room) = (length tables.rates < room) × (row.rate ≤ 1000000000)
