-- The households that have named each class: those that are listed, and when they are enough for some rows of orders.
use Rattle.std.specs.Map.{lookup}
use Rattle.std.specs.Option.{option_map_or}
use Rattle.std.specs.Prelude.{Bool, List, [], nat_eq, true, ℕ, ◌∷◌, ◌≡◌}
use Rattle.std.specs.Set.{is_member}
use Rattle.agent_events.specs.declared.order.OrderRow.{OrderRow}
use Rattle.register_laws.specs.CorrectionReach.{names_class}

-- by class, the households that are listed under it
abbrev pub ClassLists : Type 0
ClassLists = List (ℕ × List ℕ)

-- the households that are listed under a class, and whether one is
abbrev pub listed_under : ClassLists → ℕ → List ℕ
listed_under classes class = option_map_or (λ (own : List ℕ). own) (lookup (nat_eq class) classes) []

abbrev pub is_listed : ClassLists → ℕ → ℕ → Bool
is_listed classes class household = is_member nat_eq (listed_under classes class) household

-- the household is listed under each class of an order
abbrev pub IsNoted : ClassLists → OrderRow → ℕ → Type 0
IsNoted classes row household =
    (class : ℕ) → names_class class row ≡ true → is_listed classes class household ≡ true

-- Each row's household, in turn, is listed under the row's classes.
abbrev pub AreNoted : ClassLists → List OrderRow → List ℕ → Type 0
AreNoted classes [] owners = Unit {0}
AreNoted classes (row ∷ rows) [] = Unit {0}
AreNoted classes (row ∷ rows) (owner ∷ owners) = IsNoted classes row owner × AreNoted classes rows owners
