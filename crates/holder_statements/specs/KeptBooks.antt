-- The books as they are kept: the outstanding shares of each class, and the cash of every party.
use Rattle.std.specs.List.{IsDistinct, list_any}
use Rattle.std.specs.Map.{keys_of}
use Rattle.std.specs.Prelude.{All, List, false, map, nat_eq, pos, ℕ, ◌≡◌}
use Rattle.agent_events.specs.declared.order.Party.{Party}
use Rattle.agent_events.specs.declared.reply.BooksReply.{BooksReply}
use Rattle.agent_events.specs.declared.reply_lists.ClassBooks.{ClassBooks}
use Rattle.agent_events.specs.declared.reply_lists.DealerBooks.{DealerBooks}
use Rattle.agent_events.specs.declared.request.AccountForm.{AccountForm}
use Rattle.holder_statements.specs.declared.kept_books.ClassShares.{ClassShares}
use Rattle.gain_loss_book.specs.Posted.{Books, cash_held, cash_of_holders}
use Rattle.register_laws.specs.Identities.{AtMostOne, has_number}
use Rattle.register_machine.specs.corrections.Cash.{Movement, balance, outstanding}
use Rattle.register_machine.specs.corrections.Gains.{class_numbers_of}
use Rattle.register_machine.specs.queries.Books.{holders_cash}
use Rattle.register_machine.specs.replay.Positions.{Register}
use Rattle.register_machine.specs.rules.Situations.{Situation}

abbrev pub class_kept : Books → ClassShares → ClassBooks
class_kept books row =
    record { class = row.class; outstanding = row.mils; cash = cash_held books (Party.Class row.class) }

abbrev pub dealer_kept : Books → ℕ → DealerBooks
dealer_kept books dealer = record { dealer = dealer; cash = cash_held books (Party.Dealer dealer) }

abbrev pub books_kept : Books → List ClassShares → List ℕ → BooksReply
books_kept books classes dealers = record {
  classes = map (class_kept books) classes;
  underwriter = cash_held books Party.Underwriter;
  agent = cash_held books Party.Agent;
  dealers = map (dealer_kept books) dealers;
  holders = cash_of_holders books;
}

-- accounts of different numbers, and movements that leave no other holder anything
pub record AreHoldersOf (accounts : List AccountForm) (movements : List Movement) : Type 0 where
  pub once : (number : ℕ) → AtMostOne (has_number number) accounts
  pub others : (number : ℕ) → list_any (has_number number) accounts ≡ false → balance movements (Party.Holder number) ≡ pos 0

-- the cash that is kept is what movements bring each party, and they move cash of no holder but those of the accounts
pub record KeepsCash (situation : Situation) (movements : List Movement) (books : Books) : Type 0 where
  pub balances : (party : Party) → cash_held books party ≡ balance movements party
  pub holders : AreHoldersOf situation.book.accounts movements

-- the rows are those of all classes by number, with the outstanding shares of a register
pub record KeepsShares (situation : Situation) (register : Register) (classes : List ClassShares) : Type 0 where
  pub numbers : map (λ row. row.class) classes ≡ class_numbers_of situation.journal
  pub mils : All (λ row. row.mils ≡ outstanding register row.class) classes

-- each number has one row at most among the rows of the holders' cash
abbrev pub HasHoldersOnce : Books → Type 0
HasHoldersOnce books = IsDistinct nat_eq (keys_of books.accounts.holders.rows)

-- the cash of all holders that is kept is then the sum of what movements bring the holders of these accounts
abbrev pub HoldersTogether : List AccountForm → List Movement → Books → Type 0
HoldersTogether accounts movements books =
    HasHoldersOnce books → AreHoldersOf accounts movements
    → ((account : ℕ) → cash_held books (Party.Holder account) ≡ balance movements (Party.Holder account))
    → cash_of_holders books ≡ holders_cash accounts movements
