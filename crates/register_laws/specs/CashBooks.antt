-- What the laws of cash say: all parties together hold nothing.
use Rattle.std.specs.List.{list_any}
use Rattle.std.specs.Prelude.{All, List, [], count_by, fold, if◌then◌else◌, pos, ℕ, ℤ, ◌+ℤ◌, ◌∷◌, ◌≡◌}
use Rattle.agent_events.specs.declared.order.Party.{Party}
use Rattle.agent_events.specs.declared.reply.BooksReply.{BooksReply}
use Rattle.agent_events.specs.declared.reply.Reply.{Reply}
use Rattle.agent_events.specs.declared.reply_lists.ClassBooks.{ClassBooks}
use Rattle.agent_events.specs.declared.reply_lists.DealerBooks.{DealerBooks}
use Rattle.agent_events.specs.declared.request.Request.{Request}
use Rattle.forward_price.specs.PriceTables.{Table}
use Rattle.register_laws.specs.Lawful.{own_at}
use Rattle.register_machine.specs.corrections.Cash.{Movement, balance, movements_of, same_party}
use Rattle.register_machine.specs.corrections.Payments.{booked_movements}
use Rattle.register_machine.specs.journal.Journals.{Journal}
use Rattle.register_machine.specs.pricing.CorrectedBook.{Book, book_of}
use Rattle.register_machine.specs.replay.Replay.{replay}
use Rattle.agent_events.specs.declared.verdict.Caller.{Caller}
use Rattle.register_machine.specs.run.Answers.{answer}

-- A party stands so often among parties; a movement is between parties that stand among them once.
abbrev pub times_among : List Party → Party → ℕ
times_among parties party = count_by (same_party party) parties

pub record IsBetween (parties : List Party) (movement : Movement) : Type 0 where
  pub giver_once : times_among parties movement.giver ≡ 1
  pub taker_once : times_among parties movement.taker ≡ 1

-- The balances of all parties together.
abbrev pub total_balance : List Movement → List Party → ℤ
total_balance movements parties = fold (λ so_far party. so_far +ℤ balance movements party) (pos 0) parties

-- Movements between parties leave these nothing together.
abbrev pub BalancesToZero : List Party → List Movement → Type 0
BalancesToZero parties movements = All (IsBetween parties) movements → total_balance movements parties ≡ pos 0

-- the parties of movements, each once
abbrev pub with_party : Party → List Party → List Party
with_party party parties = if list_any (same_party party) parties then parties else party ∷ parties

abbrev pub with_both : List Party → Movement → List Party
with_both parties movement = with_party movement.giver (with_party movement.taker parties)

abbrev pub parties_of : List Movement → List Party
parties_of movements = fold with_both [] movements

-- Movements leave their givers and takers, each counted once, nothing together.
abbrev pub Balances : List Movement → Type 0
Balances movements = total_balance movements (parties_of movements) ≡ pos 0

-- So do a replay's trades, and all that is booked behind a journal: its trades with the payments of its corrections.
abbrev pub ReplayBalances : Book → Type 0
ReplayBalances book = Balances (movements_of (replay book).trades)

abbrev pub BookedBalances : Table → Journal → Type 0
BookedBalances table journal = Balances (booked_movements journal (replay (book_of table journal)))

-- The figures of the books together: the cash of all classes, of the underwriter and the agent, of all dealers, and of all
-- holders.
abbrev pub classes_cash : List ClassBooks → ℤ
classes_cash classes = fold (λ so_far of_class. so_far +ℤ of_class.cash) (pos 0) classes

abbrev pub dealers_cash : List DealerBooks → ℤ
dealers_cash dealers = fold (λ so_far of_dealer. so_far +ℤ of_dealer.cash) (pos 0) dealers

abbrev pub books_total : BooksReply → ℤ
books_total books =
    (((classes_cash books.classes +ℤ books.underwriter) +ℤ books.agent) +ℤ dealers_cash books.dealers) +ℤ books.holders

-- The books that a lawful journal shows, whenever and to whom, have these figures sum to zero.
abbrev pub BooksSumToZero : Journal → Type 0
BooksSumToZero journal =
    (now : ℕ) (caller : Caller) (books : BooksReply)
    → (answer (own_at journal now caller) Request.Books).reply ≡ Reply.Books books → books_total books ≡ pos 0
