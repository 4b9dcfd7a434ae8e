-- What keeps the households those of the rows, and every order that waits among the waiting places.
use Rattle.std.specs.List.{slice_get}
use Rattle.std.specs.Prelude.{All, Bool, List, Some, [], filter, length, map, true, ℕ, ◌++◌, ◌∷◌, ◌≡◌, ◌≢◌, ◌≤◌}
use Rattle.agent_events.specs.declared.order.OrderRow.{OrderRow}
use Rattle.agent_events.specs.declared.request.AccountForm.{AccountForm}
use Rattle.forward_price.specs.PriceTables.{prices_order, sheet_numbered}
use Rattle.forward_price.specs.declared.price_sheet.Sheet.{Sheet}
use Rattle.register_machine.specs.journal.Kinds.{household_of}
use Rattle.register_machine.specs.pricing.CorrectedOrders.{stands}
use Rattle.register_machine.specs.pricing.OrderClasses.{classes_in}
use Rattle.standing_orders.specs.Entries.{is_priced}
use Rattle.standing_orders.specs.Places.{is_among, passes_at, with_place, with_settled}
use Rattle.standing_orders.specs.Priced.{TakesWhatItPrices}
use Rattle.standing_orders.specs.Rows.{AreOwners, HasEach, stays, waits}

-- ---- The households.

-- an order more, of an account that is known
abbrev pub OneMoreOwned : List AccountForm → List OrderRow → List ℕ → OrderRow → ℕ → Type 0
OneMoreOwned accounts rows owners row household =
    household_of accounts row.order.account ≡ Some household → AreOwners accounts rows owners
    → AreOwners accounts (rows ++ row ∷ []) (owners ++ household ∷ [])

-- an account more
abbrev pub OwnedWithAccount : List AccountForm → List OrderRow → List ℕ → AccountForm → Type 0
OwnedWithAccount accounts rows owners form = AreOwners accounts rows owners → AreOwners (accounts ++ form ∷ []) rows owners

-- orders changed that keep their accounts, as by a cancel, a replacement or a void
abbrev pub OwnedWhenChanged : List AccountForm → List OrderRow → List ℕ → (OrderRow → OrderRow) → Type 0
OwnedWhenChanged accounts rows owners change =
    ((row : OrderRow) → (change row).order.account ≡ row.order.account) → AreOwners accounts rows owners
    → AreOwners accounts (map change rows) owners

-- ---- The waiting places.

-- an order more, at a place of its own
abbrev pub OneMoreWaits : (OrderRow → Bool) → List OrderRow → List ℕ → OrderRow → Type 0
OneMoreWaits test rows places row =
    HasEach test rows places → HasEach test (rows ++ row ∷ []) (places ++ length rows ∷ [])

-- the order at a place is another, and waits again
abbrev pub AnotherWaits : (OrderRow → Bool) → List OrderRow → List OrderRow → List ℕ → ℕ → Type 0
AnotherWaits test rows changed places place =
    ((k : ℕ) → k ≢ place → slice_get changed k ≡ slice_get rows k) → HasEach test rows places
    → HasEach test changed (with_place place places)

-- a row of that place passes the first test
abbrev pub PassedBefore : (OrderRow → Bool) → List OrderRow → ℕ → Type 0
PassedBefore test rows place = (row : OrderRow) × (slice_get rows place ≡ Some row) × (test row ≡ true)

-- Where whatever passes now passed before at its place, the places are enough: as where orders are struck, and where a sheet
-- is published that prices what waited.
abbrev pub StillWaits : (OrderRow → Bool) → (OrderRow → Bool) → List OrderRow → List OrderRow → List ℕ → Type 0
StillWaits test now rows changed places =
    ((place : ℕ) (row : OrderRow) → slice_get changed place ≡ Some row → now row ≡ true → PassedBefore test rows place)
    → HasEach test rows places → HasEach now changed places

-- those that don't wait leave
abbrev pub OthersLeave : (OrderRow → Bool) → List OrderRow → List ℕ → Type 0
OthersLeave test rows places = HasEach test rows places → HasEach test rows (filter (passes_at test rows) places)

-- one that is settled leaves unless it waits
abbrev pub OneIsSettled : (OrderRow → Bool) → List OrderRow → List ℕ → ℕ → Type 0
OneIsSettled test rows places place = HasEach test rows places → HasEach test rows (with_settled test rows place places)

-- ---- What a sheet prices that is published behind the others.

-- no sheet before that prices the order has its number, or is later
abbrev pub ComesLast : List Sheet → Sheet → OrderRow → Type 0
ComesLast sheets last row =
    All (λ sheet. prices_order (classes_in row.order.body) row.receipt sheet ≡ true
    → (sheet.number ≢ last.number) × (sheet.moment ≤ last.moment)) sheets

-- has waited until then
abbrev pub PricedAfterWaiting : List Sheet → Sheet → OrderRow → Type 0
PricedAfterWaiting sheets last row =
    ComesLast sheets last row → is_priced last.number (sheets ++ last ∷ []) row ≡ true → waits sheets row ≡ true

-- ---- What the last sheet takes.

-- each of the places is that of an order that no sheet prices yet, or that is struck
abbrev pub AllWait : List Sheet → List OrderRow → List ℕ → Type 0
AllWait sheets rows places =
    (place : ℕ) (row : OrderRow) → slice_get rows place ≡ Some row → is_among places place ≡ true → stands row ≡ true
    → waits sheets row ≡ true

-- each of the other places is
abbrev pub AllOthersWait : List Sheet → List OrderRow → ℕ → List ℕ → Type 0
AllOthersWait sheets rows place places =
    (other : ℕ) (row : OrderRow) → other ≢ place → slice_get rows other ≡ Some row → is_among places other ≡ true
    → stands row ≡ true → waits sheets row ≡ true

-- the sheet is published behind the others, under a number of its own
abbrev pub IsNumbered : List Sheet → Sheet → Type 0
IsNumbered sheets last = sheet_numbered (sheets ++ last ∷ []) last.number ≡ Some last

-- where all wait for it, it takes what it prices
abbrev pub LastTakes : List OrderRow → List Sheet → Sheet → List ℕ → Type 0
LastTakes rows sheets last places =
    IsNumbered sheets last → AllWait sheets rows places
    → TakesWhatItPrices last.number rows (sheets ++ last ∷ []) places

-- and those that stay are those that wait on
abbrev pub LastLeaves : List OrderRow → List Sheet → Sheet → List ℕ → Type 0
LastLeaves rows sheets last places =
    IsNumbered sheets last → AllWait sheets rows places
    → filter (passes_at (stays last.number (sheets ++ last ∷ [])) rows) places
    ≡ filter (passes_at (waits (sheets ++ last ∷ [])) rows) places

-- what is left of any places by that test all waits
abbrev pub AllLeftWait : List Sheet → List OrderRow → List ℕ → Type 0
AllLeftWait sheets rows places = AllWait sheets rows (filter (passes_at (waits sheets) rows) places)

-- where all others wait, all wait once that one is settled
abbrev pub AllSettledWait : List Sheet → List OrderRow → ℕ → List ℕ → Type 0
AllSettledWait sheets rows place places =
    AllOthersWait sheets rows place places → AllWait sheets rows (with_settled (waits sheets) rows place places)
