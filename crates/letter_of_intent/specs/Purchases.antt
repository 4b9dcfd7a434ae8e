-- The purchases under a letter, one after another.
use Rattle.std.specs.Prelude.{ℕ, ◌+◌, List, [], ◌∷◌, fold, sum_by}
use Rattle.letter_of_intent.specs.declared.letter.Letter.{Letter}
use Rattle.letter_of_intent.specs.Letters.{mils_to_hold, after_purchase}

-- what a purchase pays, at which offering price, for how many mils
pub record Purchase : Type 0 where
  pub gross : ℕ
  pub price : ℕ
  pub mils : ℕ

-- the letter when a purchase is noted, and when all of them are, in order
abbrev pub after : Letter → Purchase → Letter
after letter purchase = after_purchase letter purchase.gross purchase.price purchase.mils

abbrev pub after_all : Letter → List Purchase → Letter
after_all letter purchases = fold after letter purchases

-- what the purchases pay together
abbrev pub gross_total : List Purchase → ℕ
gross_total purchases = sum_by (λ (purchase : Purchase). purchase.gross) purchases

-- the mils that they buy, and the mils that are held of these under the letter
abbrev pub mils_total : List Purchase → ℕ
mils_total purchases = sum_by (λ (purchase : Purchase). purchase.mils) purchases

abbrev pub held_total : Letter → List Purchase → ℕ
held_total letter [] = 0
held_total letter (purchase ∷ purchases) =
    mils_to_hold letter purchase.price purchase.mils + held_total (after letter purchase) purchases
