-- Letters on a sheet: what each step leaves is what the definitions say, and its letters stay within their limits.
use Rattle.std.proofs.Common.{All, Bool, None, Option, Some, [], ap, cond, false, filter, map, refl, subst, sym, true, ℕ, ◌&&◌, ◌∙◌, ◌∷◌, ◌≡◌}
use Rattle.std.proofs.lemmas.Bool.{and_parts}
use Rattle.std.proofs.lemmas.List.Elements.{All-cons, All-nil}
use Rattle.agent_events.specs.declared.order.Order.{Order}
use Rattle.agent_events.specs.declared.trade.Trade.{Trade}
use Rattle.agent_events.specs.declared.trade.TradeKind.{TradeKind}
use Rattle.forward_price.specs.Sheets.{lists_class}
use Rattle.forward_price.specs.declared.price_sheet.Sheet.{Sheet}
use Rattle.letter_of_intent.specs.Letters.{IsLetter, new_letter, has_expired, settlement}
use Rattle.letter_of_intent.specs.declared.letter.Letter.{Letter}
use Rattle.letter_of_intent.specs.declared.letter.Settlement.{Settlement}
use Rattle.register_machine.proofs.FoundFacts.{own-account, own-class}
use Rattle.register_machine.specs.pricing.CorrectedBook.{Book, front_of}
use Rattle.register_machine.specs.pricing.OrderClasses.{class_of}
use Rattle.register_machine.specs.replay.Letter.{day_after_end_of, day_after_settlement, has_letter_over, keys_of_letters_over, letter_end_trade, letter_is_over}
use Rattle.register_machine.specs.replay.Positions.{Position, PositionKey, Register, fresh_position, key_of, position_at, position_of}
use Rattle.register_machine.specs.replay.Purchase.{credit_of, day_after_reaching}
use Rattle.register_machine.specs.replay.Trades.{Day, day_after_trade, nav_of, order_trade, plain_trade}
use Rattle.share_lots.specs.Lots.{held_total, release_all}
use Rattle.share_lots.specs.Taking.{after_paying}
use Rattle.household_positions.proofs.DayFacts.{close-back}
use Rattle.household_positions.specs.Register.{day_without}
use Rattle.household_fold.specs.Facts.{Known, book_of_facts, sheet_at_hand}
use Rattle.household_fold.specs.Limits.{AreLettersWithin}
use Rattle.household_fold.specs.Purchases.{day_with_letter, position_in}
use Rattle.household_fold.proofs.PutFacts.{letters-put}

-- a position that was taken out is closed with a trade
pub closed-as : (day : Day) (a c : ℕ) (before : Day) (q : Position) (trade : Trade) (position : Position) (made : Trade) → before ≡ day_without a c day → q ≡ position → trade ≡ made → position.account ≡ a → position.class ≡ c → day_after_trade before q trade ≡ day_after_trade day position made
closed-as day a c before q trade position made by_before by_position by_trade account class =
    ap (λ d. day_after_trade d q trade) by_before
    ∙ ap (λ p. day_after_trade (day_without a c day) p trade) by_position
    ∙ ap (λ t. day_after_trade (day_without a c day) position t) by_trade
    ∙ close-back day a c position made account class

-- a day closed with a trade, part by part
pub closed-by : (before before' : Day) (q q' : Position) (trade trade' : Trade) → before ≡ before' → q ≡ q' → trade ≡ trade' → day_after_trade before q trade ≡ day_after_trade before' q' trade'
closed-by before before' q q' trade trade' by_before by_position by_trade =
    ap (λ d. day_after_trade d q trade) by_before ∙ ap (λ p. day_after_trade before' p trade) by_position ∙ ap (λ t. day_after_trade before' q' t) by_trade

-- the same account and class
pub without-at : (day : Day) (a a' c c' : ℕ) → a ≡ a' → c ≡ c' → day_without a c day ≡ day_without a' c' day
without-at day a a' c c' account class = ap (λ x. day_without x c day) account ∙ ap (λ x. day_without a' x day) class

pub place-at : (register : Register) (a a' c c' : ℕ) → a ≡ a' → c ≡ c' → position_of register a c ≡ position_of register a' c'
place-at register a a' c c' account class = ap (λ x. position_of register x c) account ∙ ap (λ x. position_of register a' x) class

-- a trade is of the account and class of its position
plain-own : (sheet : Sheet) (register : Register) (a c : ℕ) (kind : TradeKind) → plain_trade sheet a c kind ≡ plain_trade sheet (position_of register a c).account (position_of register a c).class kind
plain-own sheet register a c kind =
    sym (ap (λ x. plain_trade sheet x (position_of register a c).class kind) (own-account register a c)
    ∙ ap (λ x. plain_trade sheet a x kind) (own-class register a c))

abbrev pub released : Position → Position
released position = record position { holding = release_all position.holding; letter = None }

-- a letter that is reached
pub reaching-is : (sheet : Sheet) (day : Day) (a c : ℕ) (before : Day) (q : Position) (trade : Trade) → before ≡ day_without a c day → q ≡ released (position_of day.register a c) → trade ≡ plain_trade sheet a c TradeKind.LetterReached → day_after_trade before q trade ≡ day_after_reaching sheet (position_of day.register a c) day
reaching-is sheet day a c before q trade by_before by_position by_trade =
    closed-as day a c before q trade (released (position_of day.register a c))
    (plain_trade sheet (position_of day.register a c).account (position_of day.register a c).class TradeKind.LetterReached)
    by_before by_position (by_trade ∙ plain-own sheet day.register a c TradeKind.LetterReached) (own-account day.register a c) (own-class day.register a c)

-- a letter that begins
abbrev pub with_letter : Letter → Position → Position
with_letter letter position = record position { letter = Some letter }

pub begun-is : (known : Known) (day : Day) (order : Order) (amount : ℕ) (letter : Letter) (before : Day) (q : Position) (trade : Trade) → before ≡ day_without order.account (class_of order.body) day → q ≡ with_letter letter (position_in day order) → letter ≡ new_letter amount (sheet_at_hand known).day (credit_of (book_of_facts known) (sheet_at_hand known) day.register order.account) (front_of (book_of_facts known) (class_of order.body)) → trade ≡ record (order_trade (sheet_at_hand known) order TradeKind.Letter) { cash = amount } → day_after_trade before q trade ≡ day_with_letter known day order amount
begun-is known day order amount letter before q trade by_before by_position by_letter by_trade =
    let a = order.account in
    let c = class_of order.body in
    let position = position_in day order in
    let start = credit_of (book_of_facts known) (sheet_at_hand known) day.register a in
    let made = record (order_trade (sheet_at_hand known) order TradeKind.Letter) { cash = amount } in
    closed-as day a c before q trade (with_letter letter position) made by_before by_position by_trade (own-account day.register a c) (own-class day.register a c)
    ∙ ap (λ l. day_after_trade day (with_letter l position) made)
    (by_letter ∙ ap (λ x. new_letter amount (sheet_at_hand known).day start (front_of (book_of_facts known) x)) (sym (own-class day.register a c)))

pub begun-within : (known : Known) (day : Day) (order : Order) (amount : ℕ) (letter : Letter) → AreLettersWithin day.register → letter ≡ new_letter amount (sheet_at_hand known).day (credit_of (book_of_facts known) (sheet_at_hand known) day.register order.account) (front_of (book_of_facts known) (class_of order.body)) → IsLetter letter → AreLettersWithin (day_with_letter known day order amount).register
begun-within known day order amount letter all by_letter is =
    let sheet = sheet_at_hand known in
    let book = book_of_facts known in
    let start = credit_of book sheet day.register order.account in
    let position = position_in day order in
    letters-put (with_letter (new_letter amount sheet.day start (front_of book position.class)) position) day.register all
    (subst IsLetter (by_letter ∙ ap (λ x. new_letter amount sheet.day start (front_of book x)) (sym (own-class day.register order.account (class_of order.body)))) is)

-- a letter that ends by date
abbrev pub paid_and_released : ℕ → Position → Position
paid_and_released paid position = record position { holding = release_all (after_paying position.holding paid); letter = None }

pub settled-is : (book : Book) (sheet : Sheet) (day : Day) (key : PositionKey) (letter : Letter) (settled : Settlement) (before : Day) (q : Position) (trade : Trade) → before ≡ day_without key.account key.class day → q ≡ paid_and_released settled.paid (position_at day.register key) → trade ≡ letter_end_trade sheet (fresh_position key.account key.class) settled → settled ≡ settlement (front_of book key.class) letter (nav_of sheet key.class) (held_total (position_at day.register key).holding) → day_after_trade before q trade ≡ day_after_end_of book sheet day (position_at day.register key) (Some letter)
settled-is book sheet day key letter settled before q trade by_before by_position by_trade by_settled =
    let a = key.account in
    let c = key.class in
    let position = position_at day.register key in
    let account = own-account day.register a c in
    let class = own-class day.register a c in
    closed-as day a c before q trade (paid_and_released settled.paid position) (letter_end_trade sheet position settled) by_before by_position
    (by_trade
    ∙ sym (ap (λ x. letter_end_trade sheet (record position { account = x }) settled) account
    ∙ ap (λ x. letter_end_trade sheet (record position { account = a; class = x }) settled) class))
    account class
    ∙ ap (λ s. day_after_settlement sheet day position s)
    (by_settled ∙ ap (λ x. settlement (front_of book x) letter (nav_of sheet x) (held_total position.holding)) (sym class))

pub ended-within : (book : Book) (sheet : Sheet) (day : Day) (key : PositionKey) (letter : Letter) → AreLettersWithin day.register → AreLettersWithin (day_after_end_of book sheet day (position_at day.register key) (Some letter)).register
ended-within book sheet day key letter all =
    let position = position_at day.register key in
    let settled = settlement (front_of book position.class) letter (nav_of sheet position.class) (held_total position.holding) in
    letters-put (paid_and_released settled.paid position) day.register all tt

-- the letters that are over by the sheet at hand, and by another that has its date and lists its classes
pub same-over : (a b : Sheet) → ((class : ℕ) → lists_class a.prices class ≡ lists_class b.prices class) → a.day ≡ b.day → (position : Position) → has_letter_over a position ≡ has_letter_over b position
same-over a b lists day position =
    ap (λ test. test && letter_is_over a position.letter) (lists position.class)
    ∙ ap (λ test. lists_class b.prices position.class && test) (over position.letter)
  where
    over : (o : Option Letter) → letter_is_over a o ≡ letter_is_over b o
    over None = refl
    over (Some letter) = ap (has_expired letter) day

same-one : (a b : Sheet) (p : Position) (ps : Register) → keys_of_letters_over a ps ≡ keys_of_letters_over b ps → (test : Bool) → map key_of (cond test (p ∷ filter (has_letter_over a) ps) (filter (has_letter_over a) ps)) ≡ map key_of (cond test (p ∷ filter (has_letter_over b) ps) (filter (has_letter_over b) ps))
same-one a b p ps e true = ap (λ keys. key_of p ∷ keys) e
same-one a b p ps e false = e

pub same-keys : (a b : Sheet) → ((position : Position) → has_letter_over a position ≡ has_letter_over b position) → (register : Register) → keys_of_letters_over a register ≡ keys_of_letters_over b register
same-keys a b same [] = refl
same-keys a b same (p ∷ ps) =
    ap (λ test. map key_of (cond test (p ∷ filter (has_letter_over a) ps) (filter (has_letter_over a) ps))) (same p)
    ∙ same-one a b p ps (same-keys a b same ps) (has_letter_over b p)

pub keys-listed : (sheet : Sheet) (register : Register) → All (λ key. lists_class sheet.prices key.class ≡ true) (keys_of_letters_over sheet register)
keys-listed sheet [] = All-nil (λ key. lists_class sheet.prices key.class ≡ true)
keys-listed sheet (p ∷ ps) =
    elim (has_letter_over sheet p) as (λ b. has_letter_over sheet p ≡ b → All (λ key. lists_class sheet.prices key.class ≡ true) (map key_of (cond b (p ∷ filter (has_letter_over sheet) ps) (filter (has_letter_over sheet) ps)))) [
      | true ↦ λ e.
          All-cons (λ (key : PositionKey). lists_class sheet.prices key.class ≡ true) (key_of p) (keys_of_letters_over sheet ps)
          (and_parts (lists_class sheet.prices p.class) (letter_is_over sheet p.letter) e).0 (keys-listed sheet ps)
      | false ↦ λ e. keys-listed sheet ps
    ] refl
