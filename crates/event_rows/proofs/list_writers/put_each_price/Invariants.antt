-- What is written is the items before this one, each in its range.
use Rattle.std.proofs.Common.{◌≡◌, ◌++◌, take}
use Rattle.std.specs.List.{flat_map, AllByRecursion}
use Rattle.event_rows.specs.InForm.{IsListedPrice}
use Rattle.event_rows.specs.Rows.{price}
use Rattle.event_rows.proofs.list_writers.put_each_price.Given as goal

abbrev pub invariant-loop-price : goal.invariant-loop-price
invariant-loop-price l = record {
  written : l.row ≡ l.fn.row ++ flat_map price (take l.price-index l.prices);
  in_form : AllByRecursion IsListedPrice (take l.price-index l.prices);
}
