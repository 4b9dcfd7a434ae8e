-- What a position keeps beside its lots: their mils, how many of them are held, and their cost.
use Rattle.std.specs.Prelude.{ℕ, ◌≡◌, sum_by}
use Rattle.share_lots.specs.Lots.{Holding, IsHolding, mils, held_total, cost_total}

-- lots of a position, with so many mils, so many of them held and so much cost together
pub record IsTallied (h : Holding) (quantity held cents : ℕ) : Type 0 where
  pub holding : IsHolding h
  pub mils_sum : quantity ≡ sum_by mils h.lots
  pub held_sum : held ≡ held_total h
  pub cost_sum : cents ≡ cost_total h
