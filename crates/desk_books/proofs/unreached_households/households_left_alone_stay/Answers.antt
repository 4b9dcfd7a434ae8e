-- The proof of the law `households_left_alone_stay`.
use Rattle.std.proofs.Common.{List, [], ap, arith, length, refl, subst, sym, take, ◌∙◌, ◌∷◌, ◌≡◌}
use Rattle.std.proofs.Math.Seq.{take-length}
use Rattle.std.proofs.lemmas.List.{take-append-le}
use Rattle.agent_events.specs.declared.request.AccountForm.{AccountForm}
use Rattle.register_laws.proofs.EventReplays.{adds_sheet}
use Rattle.register_laws.specs.EventReplays.{sheet_behind}
use Rattle.ledger_laws.proofs.SheetAdvances.{up-to-last}
use Rattle.register_laws.proofs.HouseholdSheets.{quiet_leaves_part}
use Rattle.register_laws.specs.HouseholdSheets.{IsQuiet}
use Rattle.register_laws.specs.Households.{own_orders, part_of}
use Rattle.register_laws.specs.Lawful.{book_behind}
use Rattle.register_machine.specs.journal.Journals.{with_event}
use Rattle.register_machine.specs.pricing.CorrectedBook.{Book}
use Rattle.register_machine.specs.replay.Replay.{orders_on, priced_orders, replay, replay_over}
use Rattle.register_machine.specs.replay.Trades.{Day}
use Rattle.desk_books.proofs.SheetOnTrial.{accounts-same}
use Rattle.desk_books.proofs.unreached_households.households_left_alone_stay.Goals as goal

over-all : (book : Book) → replay book ≡ replay_over book book.table.sheets
unfolding replay
over-all book = refl

pub returns : goal.returns
returns c journal event form household lawful is quiet =
    let old = book_behind journal in
    let book = book_behind (with_event journal event) in
    let sheets = old.table.sheets in
    let new = sheet_behind journal form in
    let adds = adds_sheet journal event lawful form is in
    let rows = own_orders book.accounts household (orders_on (priced_orders book) new) in
    let first = ap (take (length sheets)) adds.sheets ∙ (take-append-le (length sheets) sheets (new ∷ []) (omega arith) ∙ take-length sheets) in
    let before : replay_over book sheets ≡ replay old = ap (replay_over book) (sym first) ∙ (adds.up_to (length sheets) (omega arith) ∙ sym (up-to-last old)) in
    let stays = quiet_leaves_part book household sheets new (subst (λ (day : Day). IsQuiet book new rows (part_of book.accounts household day).register) (sym before) quiet) in
    ap (part_of book.accounts household) (over-all book ∙ ap (replay_over book) adds.sheets)
    ∙ (stays
    ∙ (ap (part_of book.accounts household) before
    ∙ ap (λ (accounts : List AccountForm). part_of accounts household (replay old)) (accounts-same journal event form lawful is)))
