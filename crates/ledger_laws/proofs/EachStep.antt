-- Over each sheet of a sound book a household's step can be taken from its part, and over many its replay.
use Rattle.std.proofs.Common.{List, None, Option, Some, ap, arith, get_or, is_some, length, option_map, refl, subst, sym, true, unwrap_or, ℕ, ◌+◌, ◌-◌, ◌<◌, ◌∙◌, ◌≡◌, ◌≤◌}
use Rattle.forward_price.specs.PriceTables.{sheet_numbered}
use Rattle.forward_price.specs.declared.price_sheet.Sheet.{Sheet}
use Rattle.household_fold.proofs.SheetFacts.{numbered-patched}
use Rattle.household_fold.specs.Facts.{FactsFit, Known, no_sheet, on_trial, sheet_at_hand}
use Rattle.household_fold.specs.Households.{AreOrdersOf}
use Rattle.household_fold.specs.Numbers.{AreNumbersWithin}
use Rattle.checkpoint_replay.proofs.PremiseFacts.{owned_on}
use Rattle.checkpoint_replay.specs.Replays.{NumberedOrder, known_on, orders_under, day_behind, days_behind}
use Rattle.ledger_laws.proofs.OwnedParts.{owned_by_accounts}
use Rattle.ledger_laws.proofs.PartLimits.{numbers_within}
use Rattle.ledger_laws.proofs.ReplaysAsPart.{days-from, part-one-more}
use Rattle.ledger_laws.specs.OwnedByAccounts.{SoundBooksLetReplay, SoundBooksLetStep, TablesStand}
use Rattle.ledger_laws.specs.PartsByFacts.{AreFactsOf, orders_of_part, AreRowsOf}
use Rattle.ledger_laws.specs.SoundBooks.{HaveTerms, IsSoundBook, ListsItsClasses}
use Rattle.register_laws.specs.Households.{part_of}
use Rattle.register_machine.specs.pricing.CorrectedBook.{Book}
use Rattle.register_machine.specs.replay.Replay.{replay_to}
use Rattle.register_machine.specs.replay.Trades.{Day}

-- the sheet at hand is there, since it has a number
sheet-there : (known : Known) (number : ℕ) (sheet : Sheet) → sheet_at_hand known ≡ sheet → sheet.number ≡ number + 1 → is_some (sheet_numbered known.table.sheets known.sheet) ≡ true
sheet-there known number sheet at_hand own =
    by (sheet_numbered known.table.sheets known.sheet)
    (ap (λ o. unwrap_or o no_sheet) (sym (numbered-patched known.patch known.table.sheets known.sheet)) ∙ at_hand)
  where
    by : (o : Option Sheet) → unwrap_or (option_map (on_trial known.patch) o) no_sheet ≡ sheet → is_some o ≡ true
    by None e = (let none = ap (λ (s : Sheet). s.number) e in absurd (omega (arith, none, own)))
    by (Some s) e = refl

pub facts-fit : (known : Known) (book : Book) → IsSoundBook book → AreFactsOf known book → HaveTerms known book → TablesStand known → (place : ℕ) (d : Sheet) → place < length book.table.sheets → FactsFit (known_on known (place + 1))
facts-fit known book sound facts have stand place d short =
    let on = known_on known (place + 1) in
    let sheet = get_or book.table.sheets place d in
    let at_hand = facts.at_hand place d short in
    record {
      sheet = sheet-there on place sheet at_hand (sound.orderly.numbered.each place d short);
      terms_there = λ class listed. have class (subst (ListsItsClasses book) (sym at_hand) (sound.sheets place d short) class listed);
      terms_rise = stand.terms_rise;
      accounts_rise = stand.accounts_rise;
      rates_rise = stand.rates_rise;
      rates_within = stand.rates_within;
      few_terms = stand.few_terms;
      few_accounts = stand.few_accounts;
    }

-- the lots behind the step have numbers within 32 bits
pub lots-behind-step : (known : Known) (book : Book) (household : ℕ) → IsSoundBook book → AreFactsOf known book → (place : ℕ) (d : Sheet) → place < length book.table.sheets → AreNumbersWithin (day_behind (known_on known (place + 1)) (orders_of_part book household (get_or book.table.sheets place d)) (part_of book.accounts household (replay_to book place))).register
lots-behind-step known book household sound facts place d short =
    subst (λ (day : Day). AreNumbersWithin day.register) (part-one-more known book household place d facts short)
    ((numbers_within book household sound.orderly).numbers (place + 1))

pub lets_step : (known : Known) (book : Book) (household : ℕ) → SoundBooksLetStep known book household
lets_step known book household sound facts have stand place d short =
    let owned = owned_by_accounts known book household sound facts have in
    record {
      facts = facts-fit known book sound facts have stand place d short;
      owned = owned_on known (place + 1) household (part_of book.accounts household (replay_to book place)).register (owned.positions place);
      orders_owned = owned.orders place d short;
      lots = lots-behind-step known book household sound facts place d short;
    }

-- ---- over many sheets

module _ (known : Known) (rows : List NumberedOrder) (book : Book) (household : ℕ) (sound : IsSoundBook book) (facts : AreFactsOf known book) (have : HaveTerms known book) (from count : ℕ) (within : from + count ≤ length book.table.sheets) where
  place-of : (sheet : ℕ) → from < sheet → sheet - 1 + 1 ≡ sheet
  place-of sheet behind = omega (arith, behind)

  place-there : (sheet : ℕ) → from < sheet → sheet ≤ from + count → sheet - 1 < length book.table.sheets
  place-there sheet behind upto = omega (arith, behind, upto, within)

  pub facts-over : TablesStand known → (sheet : ℕ) → from < sheet → sheet ≤ from + count → FactsFit (known_on known sheet)
  facts-over stand sheet behind upto =
      subst (λ n. FactsFit (known_on known n)) (place-of sheet behind)
      (facts-fit known book sound facts have stand (sheet - 1) no_sheet (place-there sheet behind upto))

  pub orders-over : AreRowsOf rows book household → (sheet : ℕ) → from < sheet → sheet ≤ from + count → AreOrdersOf (known_on known sheet) household (orders_under sheet rows)
  orders-over are sheet behind upto =
      subst (λ n. AreOrdersOf (known_on known n) household (orders_under n rows)) (place-of sheet behind)
      (subst (AreOrdersOf (known_on known (sheet - 1 + 1)) household) (sym (are.on_sheet (sheet - 1) no_sheet (place-there sheet behind upto)))
      ((owned_by_accounts known book household sound facts have).orders (sheet - 1) no_sheet (place-there sheet behind upto)))

  pub lots-behind : AreRowsOf rows book household → AreNumbersWithin (days_behind known rows from count (part_of book.accounts household (replay_to book from))).register
  lots-behind are =
      subst (λ (day : Day). AreNumbersWithin day.register) (days-from known rows book household facts are from count within)
      ((numbers_within book household sound.orderly).numbers (from + count))

pub lets_replay : (known : Known) (rows : List NumberedOrder) (book : Book) (household : ℕ) → SoundBooksLetReplay known rows book household
lets_replay known rows book household sound facts have stand are from count within = record {
  facts = facts-over known rows book household sound facts have from count within stand;
  orders = orders-over known rows book household sound facts have from count within are;
  owned = (owned_by_accounts known book household sound facts have).positions from;
  lots = lots-behind known rows book household sound facts have from count within are;
}
