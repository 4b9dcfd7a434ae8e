-- The books as they are kept are those of the definition, and the cash of all holders together is the sum of theirs.
use Rattle.std.proofs.Common.{All, List, [], ap, map, refl, ℕ, ◌∙◌, ◌∷◌, ◌≡◌}
use Rattle.std.proofs.lemmas.List.Elements.{All-head, All-tail}
use Rattle.agent_events.specs.declared.order.Party.{Party}
use Rattle.agent_events.specs.declared.reply.BooksReply.{BooksReply}
use Rattle.agent_events.specs.declared.reply_lists.ClassBooks.{ClassBooks}
use Rattle.agent_events.specs.declared.reply_lists.DealerBooks.{DealerBooks}
use Rattle.holder_statements.proofs.HoldersTogether.{holders_together}
use Rattle.holder_statements.specs.KeptBooks.{HasHoldersOnce, KeepsCash, KeepsShares, books_kept, class_kept, dealer_kept}
use Rattle.holder_statements.specs.declared.kept_books.ClassShares.{ClassShares}
use Rattle.gain_loss_book.specs.Posted.{Books, cash_held}
use Rattle.register_machine.specs.corrections.Cash.{Movement, balance, outstanding}
use Rattle.register_machine.specs.corrections.Gains.{dealer_numbers_of}
use Rattle.register_machine.specs.queries.Books.{books_by, class_books, dealer_books}
use Rattle.register_machine.specs.replay.Positions.{Register}
use Rattle.register_machine.specs.rules.Situations.{Situation}

of-class : (books : Books) (movements : List Movement) (register : Register) (row : ClassShares) → ((party : Party) → cash_held books party ≡ balance movements party) → row.mils ≡ outstanding register row.class → class_kept books row ≡ class_books register movements row.class
of-class books movements register row cash mils =
    ap {B = ClassBooks} (λ n. record { class = row.class; outstanding = n; cash = cash_held books (Party.Class row.class) }) mils
    ∙ ap {B = ClassBooks} (λ c. record { class = row.class; outstanding = outstanding register row.class; cash = c }) (cash (Party.Class row.class))

of-classes : (books : Books) (movements : List Movement) (register : Register) (rows : List ClassShares) → ((party : Party) → cash_held books party ≡ balance movements party) → All (λ row. row.mils ≡ outstanding register row.class) rows → map (class_kept books) rows ≡ map (class_books register movements) (map (λ row. row.class) rows)
of-classes books movements register [] cash mils = refl
of-classes books movements register (row ∷ rows) cash mils =
    ap (λ x. x ∷ map (class_kept books) rows) (of-class books movements register row cash (All-head (λ (r : ClassShares). r.mils ≡ outstanding register r.class) row rows mils))
    ∙ ap (λ xs. class_books register movements row.class ∷ xs) (of-classes books movements register rows cash (All-tail (λ (r : ClassShares). r.mils ≡ outstanding register r.class) row rows mils))

of-dealers : (books : Books) (movements : List Movement) (dealers : List ℕ) → ((party : Party) → cash_held books party ≡ balance movements party) → map (dealer_kept books) dealers ≡ map (dealer_books movements) dealers
of-dealers books movements [] cash = refl
of-dealers books movements (dealer ∷ dealers) cash =
    ap (λ x. x ∷ map (dealer_kept books) dealers) (ap {B = DealerBooks} (λ c. record { dealer = dealer; cash = c }) (cash (Party.Dealer dealer)))
    ∙ ap (λ xs. dealer_books movements dealer ∷ xs) (of-dealers books movements dealers cash)

books-same : (a b : BooksReply) → a.classes ≡ b.classes → a.underwriter ≡ b.underwriter → a.agent ≡ b.agent → a.dealers ≡ b.dealers → a.holders ≡ b.holders → a ≡ b
books-same a b classes underwriter agent dealers holders =
    ap {B = BooksReply} (λ x. record { classes = x; underwriter = a.underwriter; agent = a.agent; dealers = a.dealers; holders = a.holders }) classes
    ∙ (ap {B = BooksReply} (λ x. record { classes = b.classes; underwriter = x; agent = a.agent; dealers = a.dealers; holders = a.holders }) underwriter
    ∙ (ap {B = BooksReply} (λ x. record { classes = b.classes; underwriter = b.underwriter; agent = x; dealers = a.dealers; holders = a.holders }) agent
    ∙ (ap {B = BooksReply} (λ x. record { classes = b.classes; underwriter = b.underwriter; agent = b.agent; dealers = x; holders = a.holders }) dealers
    ∙ ap {B = BooksReply} (λ x. record { classes = b.classes; underwriter = b.underwriter; agent = b.agent; dealers = b.dealers; holders = x }) holders)))

pub kept-are : (situation : Situation) (register : Register) (movements : List Movement) (books : Books) (classes : List ClassShares) (dealers : List ℕ) → HasHoldersOnce books → KeepsCash situation movements books → KeepsShares situation register classes → dealers ≡ dealer_numbers_of situation.journal → books_kept books classes dealers ≡ books_by situation register movements
kept-are situation register movements books classes dealers once cash shares numbers =
    books-same (books_kept books classes dealers) (books_by situation register movements)
    (of-classes books movements register classes cash.balances shares.mils ∙ ap (map (class_books register movements)) shares.numbers)
    (cash.balances Party.Underwriter) (cash.balances Party.Agent)
    (of-dealers books movements dealers cash.balances ∙ ap (map (dealer_books movements)) numbers)
    (holders_together situation.book.accounts movements books once cash.holders (λ account. cash.balances (Party.Holder account)))
