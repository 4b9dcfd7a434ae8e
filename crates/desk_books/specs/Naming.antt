-- The households that have an order which stands and names a class: those that a corrected price or rate of it can reach.
use Rattle.std.specs.List.{list_any, slice_get}
use Rattle.std.specs.Option.{option_map_or}
use Rattle.std.specs.Prelude.{Bool, Contains, List, [], false, filter, true, ℕ, ◌&&◌, ◌∷◌, ◌||◌, ◌≡◌}
use Rattle.agent_events.specs.declared.order.OrderRow.{OrderRow}
use Rattle.register_laws.specs.CorrectionReach.{NamesNowhere, names_class}
use Rattle.register_laws.specs.Households.{own_orders}
use Rattle.register_laws.specs.Lawful.{book_behind}
use Rattle.register_machine.specs.journal.Journals.{Journal}
use Rattle.register_machine.specs.journal.Kinds.{accounts_of}
use Rattle.register_machine.specs.pricing.CorrectedBook.{Book}
use Rattle.register_machine.specs.pricing.CorrectedOrders.{orders_of, stands}
use Rattle.standing_orders.specs.ClassHouseholds.{AreNoted, ClassLists}
use Rattle.standing_orders.specs.Rows.{AreOwners, is_owner}

-- some order of the household stands and names the class
abbrev pub names_somewhere : Book → ℕ → ℕ → Bool
names_somewhere book household class =
    list_any (names_class class) (filter stands (own_orders book.accounts household book.orders))

-- The households are exactly those that have such an order.
pub record IsNaming (book : Book) (class : ℕ) (households : List ℕ) : Type 0 where
  pub own : (household : ℕ) → Contains households household → names_somewhere book household class ≡ true
  pub others : (household : ℕ) → (Contains households household → ⊥) → NamesNowhere book household class

-- So it is for the corrected book of the journal, where the households are those of the rows and listed under their classes.
abbrev pub AreNaming : Journal → List ℕ → ClassLists → ℕ → List ℕ → Type 0
AreNaming journal owners classes class households =
    AreOwners (accounts_of journal) (orders_of journal) owners → AreNoted classes (orders_of journal) owners
    → IsNaming (book_behind journal) class households

-- ---- the rows with their households, one after the other

abbrev pub names_standing : ℕ → OrderRow → Bool
names_standing class row = stands row && names_class class row

-- the row at a place stands and names the class
abbrev pub names_at : ℕ → List OrderRow → ℕ → Bool
names_at class rows place = option_map_or (names_standing class) (slice_get rows place) false

-- some row of the household stands and names the class
abbrev pub is_naming : ℕ → List OrderRow → List ℕ → ℕ → Bool
is_naming class [] owners household = false
is_naming class (row ∷ rows) [] household = false
is_naming class (row ∷ rows) (owner ∷ owners) household =
    (is_owner household owner && names_standing class row) || is_naming class rows owners household
