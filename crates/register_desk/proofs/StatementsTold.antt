-- The statement of an account is told by what is kept of its household, the corrected prices and the terms of the tables.
use Rattle.std.proofs.Common.{List, Option, [], ap, is_some, nat_eq, subst, sym, true, ℕ, ◌∙◌, ◌≡◌}
use Rattle.std.proofs.lemmas.List.Elements.{All-weaker}
use Rattle.std.specs.List.{list_any}
use Rattle.std.specs.Option.{option_map_or}
use Rattle.agent_events.specs.declared.request.ClassForm.{ClassForm}
use Rattle.agent_events.specs.declared.request.StatementForm.{StatementForm}
use Rattle.agent_events.specs.declared.trade.Trade.{Trade}
use Rattle.class_terms.specs.declared.form.TermsForm.{TermsForm}
use Rattle.holder_statements.proofs.ClassesListed.{lists_holdings}
use Rattle.holder_statements.proofs.FitForLooks.{fit_for_looks}
use Rattle.holder_statements.specs.HouseholdLooks.{part_in}
use Rattle.register_desk.proofs.ClassNumbers.{number-any, tables_have_classes}
use Rattle.register_desk.specs.NamedAccounts.{IsOfHousehold}
use Rattle.forward_price.specs.PriceTables.{Table}
use Rattle.holder_statements.proofs.AlikeStatements.{part_tells_all, stated_alike}
use Rattle.holder_statements.proofs.DatedReplays.{part_is_dated}
use Rattle.holder_statements.specs.Holdings.{AreListed, book_of_tables}
use Rattle.holder_statements.specs.Periods.{AreDated}
use Rattle.household_fold.proofs.BookFacts.{class_found}
use Rattle.household_fold.specs.Facts.{terms_numbered}
use Rattle.reference_tables.specs.Tables.{Tables}
use Rattle.reference_tables.specs.TablesOfJournals.{AreTablesOf}
use Rattle.register_laws.specs.Households.{is_of_household, is_own_trade}
use Rattle.register_laws.specs.Lawful.{book_behind}
use Rattle.register_machine.specs.corrections.Gains.{class_numbers_of}
use Rattle.register_machine.specs.journal.Journals.{Journal}
use Rattle.register_machine.specs.journal.Kinds.{accounts_of}
use Rattle.register_machine.specs.journal.Lawful.{IsLawful}
use Rattle.register_machine.specs.queries.Statement.{statement_text}
use Rattle.register_machine.specs.replay.Positions.{Position, Register}
use Rattle.register_machine.specs.replay.Replay.{replay}
use Rattle.holder_statements.proofs.LawfulTrades.{trades_dated}
use Rattle.holder_statements.specs.LawfulStatements.{IsTimely}

pub told_by_household : (journal : Journal) (table : Table) (tables : Tables) (household : ℕ) (form : StatementForm) (name : List ℕ) → AreTablesOf journal tables → table ≡ (book_behind journal).table → IsOfHousehold journal household form.account → statement_text (book_of_tables table tables.terms) form name (part_in (book_behind journal) household) ≡ statement_text (book_behind journal) form name (replay (book_behind journal))
told_by_household journal table tables household form name are same of =
    let book = book_behind journal in
    stated_alike (book_of_tables table tables.terms) book form name (part_in book household) (replay book)
    (record {
      sheets = ap (λ (t : Table). t.sheets) same;
      names = λ class. ap (λ (found : Option ClassForm). option_map_or (λ (f : ClassForm). f.name) found []) (class_found tables.terms class ∙ are.terms class);
    })
    (part_tells_all (is_of_household (accounts_of journal) household) form.account (replay book) of)

pub holdings_listed : (journal : Journal) (tables : Tables) (household account : ℕ) (register : Register) → IsLawful journal → AreTablesOf journal tables → register ≡ (part_in (book_behind journal) household).register → AreListed tables.terms account register
holdings_listed journal tables household account register lawful are kept =
    let book = book_behind journal in
    subst (AreListed tables.terms account) (sym kept) (record {
      in_order = (fit_for_looks journal household lawful).in_order;
      rising = are.stand.terms;
      there = All-weaker (λ (p : Position). p.account ≡ account → list_any (nat_eq p.class) (class_numbers_of journal) ≡ true) (λ (p : Position). p.account ≡ account → is_some (terms_numbered tables.terms p.class) ≡ true)
          (λ p listed own. sym (number-any (λ (row : TermsForm). row.class) p.class tables.terms) ∙ (ap (λ ns. list_any (nat_eq p.class) ns) (tables_have_classes journal tables are) ∙ listed own))
          (part_in book household).register ((lists_holdings journal household lawful).listed account);
    })

pub trades_are_dated : (journal : Journal) (household : ℕ) (trades : List Trade) → IsLawful journal → IsTimely journal → trades ≡ (part_in (book_behind journal) household).trades → AreDated trades
trades_are_dated journal household trades lawful timely kept =
    subst AreDated (sym kept)
    (part_is_dated (is_own_trade (is_of_household (accounts_of journal) household)) (replay (book_behind journal)).trades (trades_dated journal lawful timely))
