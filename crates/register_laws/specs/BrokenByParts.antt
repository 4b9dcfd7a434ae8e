-- The last rule by households: the first trade that a correction breaks is the first that it breaks in its household's part.
use Rattle.std.specs.Option.{option_map_or}
use Rattle.std.specs.Prelude.{All, List, None, Option, Some, false, find, slice_get, true, ℕ, ◌<◌, ◌≡◌, ◌≤◌}
use Rattle.agent_events.specs.declared.order.Order.{Order}
use Rattle.agent_events.specs.declared.request.AccountForm.{AccountForm}
use Rattle.agent_events.specs.declared.trade.Trade.{Trade}
use Rattle.register_laws.specs.Households.{is_of_household, part_of}
use Rattle.register_laws.specs.Lawful.{book_behind}
use Rattle.register_machine.specs.journal.Journals.{Journal}
use Rattle.register_machine.specs.journal.Kinds.{accounts_of}
use Rattle.register_machine.specs.journal.Lawful.{IsLawful}
use Rattle.register_machine.specs.pricing.CorrectedOrders.{orders_of}
use Rattle.register_machine.specs.replay.Replay.{replay}
use Rattle.register_machine.specs.replay.Trades.{Day}
use Rattle.register_machine.specs.rules.Breaks.{is_broken}

-- the first broken trade between two replays, in the order of sheets and turns
abbrev pub first_broken_in : Option Order → Day → Day → Option Trade
first_broken_in order before after = find (is_broken order before.trades) after.trades

-- The first broken trade of all is that of its household's part, where another household's first one stands behind it, and where
-- a part has one there is one of all.
pub record BreaksByParts (accounts : List AccountForm) (order : Option Order) (before after : Day) : Type 0 where
  pub own : (trade : Trade) → first_broken_in order before after ≡ Some trade
      → (household : ℕ) → is_of_household accounts household trade.account ≡ true
      → first_broken_in order (part_of accounts household before) (part_of accounts household after) ≡ Some trade
  pub some : (household : ℕ) (trade : Trade)
      → first_broken_in order (part_of accounts household before) (part_of accounts household after) ≡ Some trade
      → (place : ℕ) × (first : ℕ) × (least : Trade) × (slice_get after.trades place ≡ Some trade)
      × (slice_get after.trades first ≡ Some least) × (first_broken_in order before after ≡ Some least) × (first ≤ place)
  pub none : first_broken_in order before after ≡ None
      → (household : ℕ) → first_broken_in order (part_of accounts household before) (part_of accounts household after) ≡ None

-- A household that a correction doesn't reach, whose part stays and whose order it isn't about, has no broken order: in a lawful
-- journal whose orders have references above 0, since each of them has one trade at most.
abbrev pub LawfulUnreachedIsUnbroken : Journal → Type 0
LawfulUnreachedIsUnbroken journal =
    IsLawful journal → All (λ row. 0 < row.order.ref_no) (orders_of journal)
    → (household : ℕ) (order : Option Order) (after : Day)
    → option_map_or (λ own. is_of_household (accounts_of journal) household own.account) order false ≡ false
    → part_of (accounts_of journal) household after ≡ part_of (accounts_of journal) household (replay (book_behind journal))
    → first_broken_in order (part_of (accounts_of journal) household (replay (book_behind journal)))
    (part_of (accounts_of journal) household after) ≡ None
