-- The trade with the least turn among some that a correction breaks.
use Rattle.std.specs.Prelude.{All, Contains, List, None, Option, Some, [], false, if◌then◌else◌, ◌++◌, ◌∷◌, ◌≡◌}
use Rattle.desk_books.specs.Turns.{comes_before}
use Rattle.desk_books.specs.declared.least.BrokenTrade.{BrokenTrade}

-- the one that is executed first; of two with one turn the one seen before
abbrev pub earlier_of : BrokenTrade → Option BrokenTrade → BrokenTrade
earlier_of broken None = broken
earlier_of broken (Some least) = if comes_before broken.turn least.turn then broken else least

-- what is the least with one more
abbrev pub with_broken : BrokenTrade → Option BrokenTrade → Option BrokenTrade
with_broken broken least = Some (earlier_of broken least)

-- It is one of them, and none of them comes before it; where there is none, there was none to see.
abbrev pub IsLeastOf : List BrokenTrade → Option BrokenTrade → Type 0
IsLeastOf brokens None = brokens ≡ []
IsLeastOf brokens (Some least) = Contains brokens least × All (λ broken. comes_before broken.turn least.turn ≡ false) brokens

-- So it stays with one more.
abbrev pub LeastStays : List BrokenTrade → Option BrokenTrade → BrokenTrade → Type 0
LeastStays brokens least broken =
    IsLeastOf brokens least → IsLeastOf (brokens ++ broken ∷ []) (with_broken broken least)
