-- The holdings of an account, class by class, and the corrected book that tables give.
use Rattle.std.specs.Option.{option_map_or}
use Rattle.std.specs.Prelude.{All, AllPairs, List, Option, [], is_some, length, map, true, ℕ, ◌++◌, ◌<◌, ◌==◌, ◌∷◌, ◌≡◌, codes, find, if◌then◌else◌, option_map}
use Rattle.class_terms.specs.declared.form.TermsForm.{TermsForm}
use Rattle.forward_price.specs.PriceTables.{Table}
use Rattle.forward_price.specs.declared.price_sheet.Sheet.{Sheet}
use Rattle.household_fold.specs.Facts.{class_in_book, terms_numbered}
use Rattle.household_positions.specs.Register.{AreInOrder}
use Rattle.money_units.specs.Texts.{money_text, number_text, shares_text}
use Rattle.register_machine.specs.corrections.Gains.{latest_nav}
use Rattle.register_machine.specs.pricing.CorrectedBook.{Book}
use Rattle.register_machine.specs.queries.Statement.{line_text}
use Rattle.register_machine.specs.replay.Positions.{Register, is_position, mils_of}
use Rattle.share_lots.specs.Lots.{Holding, cost_total, held_total}
use Rattle.share_lots.specs.Values.{value_at}

-- the book that a price table and the terms of the classes give; a statement reads nothing else of a book
abbrev pub book_of_tables : Table → List TermsForm → Book
book_of_tables table terms = record {
  table = table;
  classes = map class_in_book terms;
  accounts = [];
  orders = [];
  rates = record { declared = []; fixed = [] };
}

-- what a holding's line says of its lots
abbrev pub lot_words : Holding → List (List ℕ)
lot_words holding =
    codes "shares" ∷ shares_text (mils_of holding)
    ∷ codes "escrow" ∷ shares_text (held_total holding)
    ∷ codes "cost" ∷ money_text (cost_total holding) ∷ []

-- and of their worth
abbrev pub worth_words : ℕ → Holding → List (List ℕ)
worth_words nav holding =
    codes "nav" ∷ money_text nav
    ∷ codes "value" ∷ money_text (value_at nav (mils_of holding)) ∷ []

-- the line of a holding, by the number, the name and the net asset value of its class
abbrev pub line_of_holding : ℕ → List ℕ → ℕ → Holding → List ℕ
line_of_holding class name nav holding =
    line_text
    (codes "class" ∷ number_text class ∷ name ∷ lot_words holding ++ worth_words nav holding)

-- the line of the lots of a class, where there are any
abbrev pub line_of_lots : List Sheet → TermsForm → Holding → List ℕ
line_of_lots sheets terms holding =
    if length holding.lots == 0 then []
    else line_of_holding terms.class terms.name (latest_nav sheets terms.class) holding

abbrev pub line_of_class : List Sheet → TermsForm → Option Holding → List ℕ
line_of_class sheets terms holding = option_map_or (line_of_lots sheets terms) holding []

-- the lots of an account in a class
abbrev pub holding_in : Register → ℕ → ℕ → Option Holding
holding_in register account class =
    option_map (λ position. position.holding) (find (is_position account class) register)

-- The register stands in order, the terms stand by rising class, and each class in which the account
-- has a position has terms.
pub record AreListed (terms : List TermsForm) (account : ℕ) (register : Register) : Type 0 where
  pub in_order : AreInOrder register
  pub rising : AllPairs (λ a b. a.class < b.class) terms
  pub there : All (λ position. position.account ≡ account
      → is_some (terms_numbered terms position.class) ≡ true) register
