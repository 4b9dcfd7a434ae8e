-- The book of a lawful journal is sound, and tables that agree with a book give its facts.
use Rattle.std.proofs.Common.{All, Bool, List, None, Option, Some, [], ap, false, filter, get_or, is_some, map, option_map, refl, sym, true, ℕ, ◌&&◌, ◌==◌, ◌||◌, ◌∙◌, ◌∷◌, ◌≡◌}
use Rattle.std.proofs.lemmas.Bool.{and_parts}
use Rattle.std.proofs.lemmas.List.Elements.{All-filter, All-weaker}
use Rattle.std.specs.List.{list_all, list_any}
use Rattle.std.specs.Option.{option_map_or}
use Rattle.agent_events.specs.declared.order.OrderRow.{OrderRow}
use Rattle.agent_events.specs.declared.request.ClassForm.{ClassForm}
use Rattle.forward_price.specs.Orderly.{IsOrderly}
use Rattle.forward_price.specs.PriceTables.{price_before}
use Rattle.forward_price.specs.Turns.{is_offered_at, must_list}
use Rattle.forward_price.specs.declared.price_sheet.Opening.{Opening}
use Rattle.household_fold.proofs.BookFacts.{class_found, household_found, rate_found}
use Rattle.household_fold.specs.Facts.{Known, class_in_book, terms_numbered}
use Rattle.class_terms.specs.declared.form.TermsForm.{TermsForm}
use Rattle.ledger_laws.specs.SoundBooks.{HaveTerms, LawfulHasASoundBook, ListsItsClasses, NamesItsClasses, TablesAgree}
use Rattle.register_laws.proofs.NamesStand.{names_stand}
use Rattle.register_laws.proofs.OrderlyBooks.{lawful_book_is_orderly}
use Rattle.register_laws.proofs.TablesAreOrderly.{classes-seen, orderly_tables}
use Rattle.register_laws.proofs.Tests.{find-any}
use Rattle.register_laws.specs.AlikeBooks.{BooksAlike}
use Rattle.register_laws.specs.Identities.{has_number, is_class}
use Rattle.register_laws.specs.Lawful.{book_behind}
use Rattle.register_laws.specs.NamesStand.{is_placed_in}
use Rattle.register_machine.proofs.ListItems.{all-of}
use Rattle.register_machine.specs.journal.Journals.{Journal}
use Rattle.register_machine.specs.journal.Kinds.{accounts_of, class_numbered, classes_of}
use Rattle.register_machine.specs.journal.Lawful.{IsLawful}
use Rattle.register_machine.specs.pricing.CorrectedBook.{Book}
use Rattle.register_machine.specs.pricing.CorrectedOrders.{orders_of, stands}
use Rattle.register_machine.specs.pricing.OrderClasses.{classes_in}
use Rattle.register_machine.specs.pricing.PublishedTable.{table_of}
use Rattle.household_fold.specs.Facts.{book_of_facts}

-- ---- the classes of orders and sheets

orders-named : (journal : Journal) → IsLawful journal → All (NamesItsClasses (book_behind journal)) (filter stands (orders_of journal))
orders-named journal lawful =
    All-filter stands (NamesItsClasses (book_behind journal)) (orders_of journal)
    (All-weaker (λ (row : OrderRow). is_placed_in journal row.order ≡ true) (NamesItsClasses (book_behind journal))
    (λ row placed. (and_parts (list_any (has_number row.order.account) (accounts_of journal)) (list_all (λ class. list_any (is_class class) (classes_of journal)) (classes_in row.order.body)) placed).1)
    (orders_of journal)
    (all-of (λ (row : OrderRow). is_placed_in journal row.order) (orders_of journal) (names_stand journal lawful).orders))

-- a class that a sheet must list was opened
must-open : (openings : List Opening) (calendar : ℕ) (moment : ℕ) (class : ℕ) → must_list openings calendar moment class ≡ true → list_any (λ (opening : Opening). opening.class == class) openings ≡ true
must-open [] calendar moment class e = e
must-open (opening ∷ openings) calendar moment class e =
    first (opening.class == class) (is_offered_at calendar moment opening) (must_list openings calendar moment class) (list_any (λ (o : Opening). o.class == class) openings) (must-open openings calendar moment class) e
  where
    first : (here offered later seen : Bool) → (later ≡ true → seen ≡ true) → ((here && offered) || later) ≡ true → (here || seen) ≡ true
    first true offered later seen rest h = refl
    first false offered later seen rest h = rest h

pub sheets-listed : (journal : Journal) → IsOrderly (book_behind journal).table → All (ListsItsClasses (book_behind journal)) (book_behind journal).table.sheets
sheets-listed journal orderly k d short class lists =
    let sheet = get_or (book_behind journal).table.sheets k d in
    sym (classes-seen class journal) ∙ must-open (table_of journal).classes sheet.calendar sheet.moment class (sym (orderly.complete k d short class) ∙ lists)

pub has_a_sound_book : (journal : Journal) → LawfulHasASoundBook journal
has_a_sound_book journal lawful = record {
  orderly = lawful_book_is_orderly journal lawful;
  orders = orders-named journal lawful;
  sheets = sheets-listed journal (orderly_tables journal lawful).corrected;
}

-- ---- facts by their tables

classes-agree : (known : Known) (book : Book) → TablesAgree known book → (class : ℕ) → class_numbered (map class_in_book known.terms) class ≡ class_numbered book.classes class
classes-agree known book agree class = class_found known.terms class ∙ agree.terms class

pub books-alike : (known : Known) (book : Book) → TablesAgree known book → BooksAlike (book_of_facts known) book
books-alike known book agree = record {
  price = λ class moment. ap (λ sheets. price_before sheets class moment) agree.sheets;
  front = λ class. ap (λ o. option_map_or (λ (terms : ClassForm). terms.front) o []) (classes-agree known book agree class);
  schedule = λ class. ap (λ o. option_map_or (λ (terms : ClassForm). terms.deferred) o []) (classes-agree known book agree class);
  counted = λ class. ap (λ o. option_map_or (λ (terms : ClassForm). terms.counts) o false) (classes-agree known book agree class);
  household = λ account. sym (household_found known.accounts account) ∙ agree.accounts account;
  rate = λ class moment. sym (rate_found known.rates class moment) ∙ agree.rates class moment;
}

pub have-terms : (known : Known) (book : Book) → TablesAgree known book → HaveTerms known book
have-terms known book agree class there =
    same (terms_numbered known.terms class)
    ∙ (ap is_some (agree.terms class) ∙ (find-any (is_class class) book.classes ∙ there))
  where
    same : (o : Option TermsForm) → is_some o ≡ is_some (option_map class_in_book o)
    same None = refl
    same (Some terms) = refl
