-- What is kept of a household: its state and its trades as the whole replay leaves them.
use Rattle.std.proofs.Common.{List, None, Option, Some, [], ap, arith, cond, false, is_some, length, option_map, refl, subst, sym, true, ℕ, ◌==◌, ◌∙◌, ◌∷◌, ◌≡◌}
use Rattle.std.proofs.lemmas.Bool.{ne_eqb, true≢false}
use Rattle.std.specs.Option.{option_map_or}
use Rattle.agent_events.specs.declared.request.AccountForm.{AccountForm}
use Rattle.agent_events.specs.declared.rows.AccountRow.{AccountRow}
use Rattle.checkpoint_replay.specs.Parts.{state_in, part_in as part_kept}
use Rattle.checkpoint_replay.specs.declared.part.HouseholdPart.{HouseholdPart}
use Rattle.holder_statements.specs.AccountPositions.{register_in}
use Rattle.holder_statements.specs.HouseholdLooks.{part_in}
use Rattle.register_desk.proofs.ClassNumbers.{same-number}
use Rattle.register_desk.specs.NamedAccounts.{HasAccount, IsOfHousehold}
use Rattle.household_fold.specs.Facts.{row_numbered}
use Rattle.household_fold.specs.Households.{Household}
use Rattle.reference_tables.specs.Tables.{Tables, row_of_account}
use Rattle.reference_tables.specs.TablesOfJournals.{AreTablesOf}
use Rattle.ledger_laws.specs.Ledgers.{IsLedgerOf}
use Rattle.register_machine.specs.journal.Journals.{Journal}
use Rattle.register_machine.specs.journal.Kinds.{account_numbered, accounts_of}
use Rattle.register_machine.specs.pricing.CorrectedBook.{Book}
use Rattle.register_machine.specs.replay.Positions.{Position, Register}
use Rattle.register_machine.specs.replay.Trades.{Day}

filled : (position : Position) (positions : Register) → (length (position ∷ positions) == 0) ≡ false
filled position positions = ne_eqb (length (position ∷ positions)) 0 (λ e. absurd (omega (arith, e)))

unless-empty : (household : ℕ) (register : Register) → register_in (cond (length register == 0) None (Some (record { number = household; register = register }))) ≡ register
unless-empty household [] = refl
unless-empty household (position ∷ positions) =
    let register : Register = position ∷ positions in
    let state : Household = record { number = household; register = register } in
    ap (λ b. register_in (cond b None (Some state))) (filled position positions)

-- the state that is kept has the household's register
pub register_kept : (book : Book) (parts : List (ℕ × HouseholdPart)) (household : ℕ) → IsLedgerOf book parts → register_in (state_in parts household) ≡ (part_in book household).register
register_kept book parts household ledger =
    unless-empty household (part_kept parts household).register ∙ ap (λ (day : Day). day.register) (ledger.part household)

pub trades_kept : (book : Book) (parts : List (ℕ × HouseholdPart)) (household : ℕ) → IsLedgerOf book parts → (part_kept parts household).trades ≡ (part_in book household).trades
trades_kept book parts household ledger = ap (λ (day : Day). day.trades) (ledger.part household)

-- the household in an account's row is that of its form
pub household_found : (journal : Journal) (tables : Tables) (account : ℕ) → AreTablesOf journal tables → HasAccount journal account → IsOfHousehold journal (option_map_or (λ row. row.household) (row_numbered tables.accounts account) 0) account
household_found journal tables account are there =
    subst (λ (row : Option AccountRow). IsOfHousehold journal (option_map_or (λ (r : AccountRow). r.household) row 0) account) (sym (are.accounts account))
    (by_form (account_numbered (accounts_of journal) account) there)
  where
    by_form : (found : Option AccountForm) → is_some found ≡ true → option_map_or (λ owner. owner == option_map_or (λ (r : AccountRow). r.household) (option_map row_of_account found) 0) (option_map (λ (form : AccountForm). form.household) found) false ≡ true
    by_form None none = absurd (true≢false (sym none))
    by_form (Some form) some = same-number form.household
