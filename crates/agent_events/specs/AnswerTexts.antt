-- The texts of a reply in order, from which the script's line is made: `ok`, the reply's name and its texts, or `no`, the
-- number of the refusal and its values.
use Rattle.std.specs.Prelude.{ℕ, ◌/◌, List, [], ◌∷◌, ◌++◌, map, codes}
use Rattle.std.specs.List.{join_with_byte}
use Rattle.money_units.specs.Texts.{last_digit, money_text, number_text, shares_text, signed_text}
use Rattle.fund_calendar.specs.Dates.{YearMonthDay, date_of}
use Rattle.agent_events.specs.declared.reply.BooksReply.{BooksReply}
use Rattle.agent_events.specs.declared.reply_lists.ClassBooks.{ClassBooks}
use Rattle.agent_events.specs.declared.reply_lists.ClassGain.{ClassGain}
use Rattle.agent_events.specs.declared.reply_lists.DealerBooks.{DealerBooks}
use Rattle.agent_events.specs.declared.reply.OrderReply.{OrderReply}
use Rattle.agent_events.specs.declared.reply.OrderState.{OrderState}
use Rattle.agent_events.specs.declared.reply_lists.PositionText.{PositionText}
use Rattle.agent_events.specs.declared.reply.Refusal.{Refusal}
use Rattle.agent_events.specs.declared.reply.Reply.{Reply}
use Rattle.agent_events.specs.declared.reply.TraceReply.{TraceReply}

abbrev pub refusal_values : Refusal → List (List ℕ)
refusal_values Refusal.NoRight = codes "1" ∷ []
refusal_values (Refusal.BadForm place) = codes "2" ∷ number_text place ∷ []
refusal_values (Refusal.NoSuch place) = codes "3" ∷ number_text place ∷ []
refusal_values Refusal.RefUsed = codes "4" ∷ []
refusal_values Refusal.CalendarEnded = codes "5" ∷ []
refusal_values (Refusal.BelowMinimum minimum) = codes "6" ∷ money_text minimum ∷ []
refusal_values Refusal.NotOffered = codes "7" ∷ []
refusal_values (Refusal.LateForDealer due) = codes "8" ∷ number_text due ∷ []
refusal_values (Refusal.ReceiptAhead now) = codes "9" ∷ number_text now ∷ []
refusal_values (Refusal.CancelLate due) = codes "10" ∷ number_text due ∷ []
refusal_values Refusal.NotPending = codes "11" ∷ []
refusal_values (Refusal.SheetOutOfTurn moment calendar) = codes "12" ∷ number_text moment ∷ number_text calendar ∷ []
refusal_values (Refusal.SheetIncomplete class) = codes "13" ∷ number_text class ∷ []
refusal_values (Refusal.Stands number) = codes "14" ∷ number_text number ∷ []
refusal_values (Refusal.Breaks account ref_no) = codes "15" ∷ number_text account ∷ number_text ref_no ∷ []
refusal_values (Refusal.OrdersFull limit) = codes "16" ∷ number_text limit ∷ []
refusal_values (Refusal.TooMany limit) = codes "17" ∷ number_text limit ∷ []
refusal_values (Refusal.TooSoon moment) = codes "18" ∷ number_text moment ∷ []
refusal_values Refusal.JournalFull = codes "19" ∷ []
refusal_values (Refusal.StampBack last) = codes "20" ∷ number_text last ∷ []

-- items with one space between them
abbrev pub list_text : List (List ℕ) → List ℕ
list_text items = join_with_byte 32 items

-- texts with a colon between them
abbrev pub colon_text : List (List ℕ) → List ℕ
colon_text parts = join_with_byte 58 parts

abbrev pub year_text : ℕ → List ℕ
year_text year = last_digit (year / 1000) ∷ last_digit (year / 100) ∷ last_digit (year / 10) ∷ last_digit year ∷ []

abbrev pub two_digit_text : ℕ → List ℕ
two_digit_text n = last_digit (n / 10) ∷ last_digit n ∷ []

-- a date `YYYY-MM-DD`; 45 is `-`
abbrev pub date_text : YearMonthDay → List ℕ
date_text date = year_text date.year ++ 45 ∷ two_digit_text date.month ++ 45 ∷ two_digit_text date.day

abbrev pub day_text : ℕ → List ℕ
day_text day = date_text (date_of day)

-- `class:signed money`
abbrev pub gain_text : ClassGain → List ℕ
gain_text gain = colon_text (number_text gain.class ∷ signed_text gain.cents ∷ [])

-- `class:loose:held:cost`
abbrev pub position_text : PositionText → List ℕ
position_text position =
    colon_text (number_text position.class ∷ shares_text position.loose ∷ shares_text position.held ∷ money_text position.cost ∷ [])

-- `class:outstanding:cash`
abbrev pub class_books_text : ClassBooks → List ℕ
class_books_text books =
    colon_text (number_text books.class ∷ shares_text books.outstanding ∷ signed_text books.cash ∷ [])

abbrev pub dealer_books_text : DealerBooks → List ℕ
dealer_books_text books = colon_text (number_text books.dealer ∷ signed_text books.cash ∷ [])

abbrev pub state_text : OrderState → List ℕ
state_text OrderState.Pending = codes "pending"
state_text OrderState.Filled = codes "filled"
state_text OrderState.Short = codes "short"
state_text OrderState.Small = codes "small"
state_text OrderState.Ceiling = codes "ceiling"
state_text OrderState.Letter = codes "letter"
state_text OrderState.Struck = codes "struck"

abbrev pub trace_texts : TraceReply → List (List ℕ)
trace_texts traced =
    number_text traced.account ∷ number_text traced.ref_no ∷ state_text traced.state ∷ number_text traced.receipt
    ∷ number_text traced.due ∷ money_text traced.price ∷ shares_text traced.mils ∷ money_text traced.cash
    ∷ money_text traced.charge ∷ shares_text traced.loose ∷ []

abbrev pub books_texts : BooksReply → List (List ℕ)
books_texts books =
    list_text (map class_books_text books.classes) ∷ signed_text books.underwriter ∷ signed_text books.agent
    ∷ list_text (map dealer_books_text books.dealers) ∷ signed_text books.holders ∷ []

abbrev pub order_texts : OrderReply → List (List ℕ)
order_texts order =
    number_text order.account ∷ number_text order.ref_no ∷ number_text order.receipt ∷ number_text order.due ∷ []

abbrev pub ok_answer : List ℕ → List (List ℕ) → List (List ℕ)
ok_answer name texts = codes "ok" ∷ name ∷ texts

abbrev pub answer_texts : Reply → List (List ℕ)
answer_texts (Reply.Order order) = ok_answer (codes "order") (order_texts order)
answer_texts (Reply.Cancel form) =
    ok_answer (codes "cancel") (number_text form.account ∷ number_text form.ref_no ∷ number_text form.target ∷ [])
answer_texts (Reply.Calendar number) = ok_answer (codes "calendar") (number_text number ∷ [])
answer_texts (Reply.Class number) = ok_answer (codes "class") (number_text number ∷ [])
answer_texts (Reply.Dealer number) = ok_answer (codes "dealer") (number_text number ∷ [])
answer_texts (Reply.Household number) = ok_answer (codes "household") (number_text number ∷ [])
answer_texts (Reply.Account number) = ok_answer (codes "account") (number_text number ∷ [])
answer_texts (Reply.Close form) = ok_answer (codes "close") (number_text form.calendar ∷ day_text form.day ∷ [])
answer_texts (Reply.Dividend class moment) = ok_answer (codes "dividend") (number_text class ∷ number_text moment ∷ [])
answer_texts (Reply.Sheet number) = ok_answer (codes "sheet") (number_text number ∷ [])
answer_texts (Reply.Fix fix gains) = ok_answer (codes "fix") (number_text fix ∷ list_text (map gain_text gains) ∷ [])
answer_texts (Reply.Show account positions) =
    ok_answer (codes "show") (number_text account ∷ list_text (map position_text positions) ∷ [])
answer_texts (Reply.Trace traced) = ok_answer (codes "trace") (trace_texts traced)
answer_texts (Reply.Statement account text) = ok_answer (codes "statement") (number_text account ∷ text ∷ [])
answer_texts (Reply.Books books) = ok_answer (codes "books") (books_texts books)
answer_texts (Reply.Refused refusal) = codes "no" ∷ refusal_values refusal
