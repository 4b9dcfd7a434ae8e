-- The books: the outstanding shares and the cash of every class, and the cash of all other parties.
use Rattle.std.specs.Prelude.{List, ℕ, ℤ, ◌+ℤ◌, fold, map, pos}
use Rattle.agent_events.specs.declared.order.Party.{Party}
use Rattle.agent_events.specs.declared.reply.BooksReply.{BooksReply}
use Rattle.agent_events.specs.declared.reply.Reply.{Reply}
use Rattle.agent_events.specs.declared.reply_lists.ClassBooks.{ClassBooks}
use Rattle.agent_events.specs.declared.reply_lists.DealerBooks.{DealerBooks}
use Rattle.agent_events.specs.declared.request.AccountForm.{AccountForm}
use Rattle.register_machine.specs.corrections.Cash.{Movement, balance, outstanding}
use Rattle.register_machine.specs.corrections.Gains.{class_numbers_of, dealer_numbers_of}
use Rattle.register_machine.specs.corrections.Payments.{booked_movements}
use Rattle.register_machine.specs.replay.Positions.{Register}
use Rattle.register_machine.specs.replay.Replay.{replay}
use Rattle.register_machine.specs.rules.Situations.{Situation}

abbrev pub class_books : Register → List Movement → ℕ → ClassBooks
class_books register movements class = record {
  class = class;
  outstanding = outstanding register class;
  cash = balance movements (Party.Class class);
}

abbrev pub dealer_books : List Movement → ℕ → DealerBooks
dealer_books movements dealer = record { dealer = dealer; cash = balance movements (Party.Dealer dealer) }

-- the cash of all holders together
abbrev pub holders_cash : List AccountForm → List Movement → ℤ
holders_cash accounts movements =
    fold (λ so_far account. so_far +ℤ balance movements (Party.Holder account.account)) (pos 0) accounts

abbrev pub books_by : Situation → Register → List Movement → BooksReply
books_by situation register movements = record {
  classes = map (class_books register movements) (class_numbers_of situation.journal);
  underwriter = balance movements Party.Underwriter;
  agent = balance movements Party.Agent;
  dealers = map (dealer_books movements) (dealer_numbers_of situation.journal);
  holders = holders_cash situation.book.accounts movements;
}

abbrev pub books_reply : Situation → Reply
books_reply situation =
    let day = replay situation.book in
    let movements = booked_movements situation.journal day in
    Reply.Books (books_by situation day.register movements)
