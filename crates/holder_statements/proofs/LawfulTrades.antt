-- The trades of a lawful journal are dated near their moments, and its statements are told by views.
use Rattle.std.proofs.Common.{List, ap, false, refl, sym, true, ℕ, ◌==◌, ◌∙◌, ◌≡◌}
use Rattle.std.specs.Option.{option_map_or}
use Rattle.std.proofs.lemmas.Bool.{eq-eqb}
use Rattle.agent_events.specs.declared.request.StatementForm.{StatementForm}
use Rattle.holder_statements.proofs.AlikeStatements.{part_tells_all, stated_alike}
use Rattle.holder_statements.proofs.DatedReplays.{IsBefore, dated_on, none_dated}
use Rattle.register_laws.proofs.ViewBooks.{whole_in_view}
use Rattle.register_laws.specs.Households.{is_of_household, part_of}
use Rattle.register_laws.specs.Lawful.{book_behind}
use Rattle.register_machine.specs.journal.Journals.{Journal}
use Rattle.register_machine.specs.journal.Kinds.{accounts_of}
use Rattle.register_machine.specs.queries.Statement.{statement_text}
use Rattle.register_machine.specs.replay.Replay.{replay, first_day, priced_orders}
use Rattle.holder_statements.proofs.NearSheets.{sheets_dated}
use Rattle.holder_statements.specs.LawfulStatements.{LawfulTradesAreDated, StatedInView}
use Rattle.std.proofs.lemmas.List.Elements.{All-nil}

pub trades_dated : (journal : Journal) → LawfulTradesAreDated journal
unfolding replay
trades_dated journal lawful timely =
    let book = book_behind journal in
    dated_on book (priced_orders book) book.table.sheets first_day (sheets_dated journal lawful timely) none_dated (All-nil (IsBefore book.table.sheets))

pub stated_in_view : (journal : Journal) (household : ℕ) (form : StatementForm) (name : List ℕ) → StatedInView journal household form name
stated_in_view journal household form name lawful owner =
    let book = book_behind journal in
    let whole = replay book in
    let own : is_of_household (accounts_of journal) household form.account ≡ true =
    ap (λ o. option_map_or (λ (owner : ℕ). owner == household) o false) owner ∙ eq-eqb household household refl in
    ap (statement_text book form name) (sym (whole_in_view journal household lawful))
    ∙ stated_alike book book form name (part_of (accounts_of journal) household whole) whole (record { sheets = refl; names = λ class. refl })
    (part_tells_all (is_of_household (accounts_of journal) household) form.account whole own)
