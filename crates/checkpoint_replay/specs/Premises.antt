-- What a replay asks of the household that it begins with, of the facts of its sheets and of their orders.
use Rattle.household_fold.specs.Facts.{FactsFit, Known}
use Rattle.household_fold.specs.Households.{AreOrdersOf, AreOwned}
use Rattle.household_fold.specs.Numbers.{AreNumbersWithin}
use Rattle.checkpoint_replay.specs.Replays.{NumberedOrder, days_behind, known_on, orders_under}
use Rattle.register_machine.specs.replay.Trades.{Day}
use Rattle.std.specs.Prelude.{List, ℕ, ◌+◌, ◌<◌, ◌≤◌}

-- with a sheet at hand, the facts fit, and its orders are the household's own
abbrev pub FactsFitOn : Known → ℕ → Type 0
FactsFitOn known sheet = FactsFit (known_on known sheet)

abbrev pub AreOrdersOn : Known → ℕ → List NumberedOrder → ℕ → Type 0
AreOrdersOn known household rows sheet = AreOrdersOf (known_on known sheet) household (orders_under sheet rows)

-- The facts fit each of `count` sheets behind sheet `from`, whose orders are the household's own; so are its positions
-- when it begins; and when it ends no lot has a number above 4294967294. Numbers of lots never fall, so none has one on
-- the way.
pub record CanBeReplayed (known : Known) (household : ℕ) (rows : List NumberedOrder) (from count : ℕ) (day : Day) : Type 0 where
  pub facts : (sheet : ℕ) → from < sheet → sheet ≤ from + count → FactsFitOn known sheet
  pub orders : (sheet : ℕ) → from < sheet → sheet ≤ from + count → AreOrdersOn known household rows sheet
  pub owned : AreOwned known household day.register
  pub lots : AreNumbersWithin (days_behind known rows from count day).register
