-- What every turn keeps of the register: its order, lots that make a position, and held mils only under a letter.
use Rattle.std.proofs.Common.{All, Bool, List, None, Some, [], arith, false, filter, inl, inr, refl, true, ℕ, ◌++◌, ◌∙◌, ◌∷◌, ◌≡◌, ◌≤◌}
use Rattle.std.proofs.lemmas.Bool.Decides.{leb_tells}
use Rattle.std.proofs.lemmas.List.Elements.{All-cons, All-head, All-nil, All-tail}
use Rattle.std.specs.Prelude.{Contains}
use Rattle.agent_events.specs.declared.order.OrderRow.{OrderRow}
use Rattle.forward_price.specs.declared.price_sheet.Sheet.{Sheet}
use Rattle.fund_exchange.specs.Exchange.{has_mils as carries_mils, renewed_all}
use Rattle.letter_of_intent.specs.Letters.{after_purchase, new_letter, mils_to_hold, note_of_purchase}
use Rattle.letter_of_intent.specs.declared.letter.Letter.{Letter}
use Rattle.offering_price.specs.declared.purchase.Split.{Split}
use Rattle.register_laws.proofs.DayTurns.{HasRoom, Turn, day_after_turn, moved_by, position_asked, positions_put, reinvested, released, rows_done, settled_by, with_all_put, with_letter_begun, with_letter_ended, with_lot_of, with_note_of, with_pieces_of}
use Rattle.register_laws.proofs.LotTotals.{Grown, added-grown, fresh-holds, new-loose, paying-holds, pieces-grown, release-none_held, taking-held}
use Rattle.register_laws.proofs.PositionsInOrder.{put-in_order}
use Rattle.register_laws.proofs.ReplayTurns.{All-one, AnyKey, TurnsKeep, any-all}
use Rattle.register_laws.proofs.Sums.{found-of}
use Rattle.register_laws.specs.ReplayKeeps.{AreInOrder}
use Rattle.register_machine.proofs.FoundFacts.{put-all}
use Rattle.register_machine.specs.pricing.CorrectedBook.{Book, front_of}
use Rattle.register_machine.specs.pricing.OrderClasses.{class_of}
use Rattle.register_machine.specs.replay.Positions.{Position, Register, fresh_position, is_position, position_at, position_of, put}
use Rattle.register_machine.specs.replay.Purchase.{credit_of}
use Rattle.register_machine.specs.replay.Redemption.{position_less}
use Rattle.register_machine.specs.replay.Replay.{first_day}
use Rattle.register_machine.specs.replay.Trades.{Day, nav_of}
use Rattle.share_lots.proofs.LotLemmas.{IsHolding-hold, IsHolding-release, IsHolding-taking}
use Rattle.share_lots.specs.Lots.{HasLoose, IsHolding, shares_added, held_total, mils}
use Rattle.share_lots.specs.Taking.{after_paying, pieces}
use Rattle.share_lots.specs.declared.lot.Piece.{Piece}

pub record Stands (p : Position) : Type 0 where
  pub holding : IsHolding p.holding
  pub held : p.letter ≡ None → held_total p.holding ≡ 0

pub record RegisterStands (register : Register) : Type 0 where
  pub in_order : AreInOrder register
  pub positions : All Stands register

fresh-stands : (a c : ℕ) → Stands (fresh_position a c)
fresh-stands a c = record { holding = fresh-holds; held = λ e. refl }

pub looked_up-stands : (register : Register) (a c : ℕ) → RegisterStands register → Stands (position_of register a c)
looked_up-stands register a c stand =
    found-of Stands (is_position a c) (fresh_position a c) (fresh-stands a c) register stand.positions

-- ---- what becomes of a position

pub lot-grown : (sheet : Sheet) (x : Position) (mils cents : ℕ) (free : Bool) → HasRoom x mils cents → Stands x → Grown x.holding (shares_added x.holding sheet.day mils cents free).holding mils cents
lot-grown sheet x mils cents free room stand =
    added-grown x.holding sheet.day mils cents free stand.holding room.some room.mils_fit room.cost_fits

-- a new lot has the mils that a letter holds of it
pub lot-loose : (sheet : Sheet) (x : Position) (gross : ℕ) (split : Split) (letter : Letter) → Stands x → HasLoose (shares_added x.holding sheet.day split.mils gross false).holding.lots (shares_added x.holding sheet.day split.mils gross false).number (note_of_purchase letter gross split.price split.mils).hold
lot-loose sheet x gross split letter stand =
    let within : mils_to_hold letter split.price split.mils ≤ split.mils = omega arith in
    new-loose x.holding sheet.day split.mils gross (mils_to_hold letter split.price split.mils) stand.holding within

note-stands : (sheet : Sheet) (x : Position) (gross : ℕ) (split : Split) (letter : Letter) → HasRoom x split.mils gross → Stands x → Stands (with_note_of sheet x gross split letter)
note-stands sheet x gross split letter room stand =
    let lot = shares_added x.holding sheet.day split.mils gross false in
    let grown = lot-grown sheet x split.mils gross false room stand in
    record {
      holding = IsHolding-hold lot.holding lot.number (note_of_purchase letter gross split.price split.mils).hold grown.holding (lot-loose sheet x gross split letter stand);
      held = λ e. absurd (some_none e);
    }
  where
    some_none : (Some (after_purchase letter gross split.price split.mils) ≡ None) → ⊥
    some_none h = cc

released-stands : (x : Position) → Stands x → Stands (released x)
released-stands x stand =
    record { holding = IsHolding-release x.holding stand.holding; held = λ e. release-none_held x.holding.lots }

less-stands : (x : Position) (asked : ℕ) → Stands x → Stands (position_less x asked)
less-stands x asked stand = record {
  holding = IsHolding-taking x.holding asked stand.holding;
  held = λ e. omega (arith, taking-held x.holding asked, stand.held e);
}

-- pieces that are carried over have mils
carried-some : (given : List Piece) → All (λ (piece : Piece). 1 ≤ piece.mils) (filter carries_mils given)
carried-some [] = All-nil (λ (piece : Piece). 1 ≤ piece.mils)
carried-some (piece ∷ given) = elim (leb_tells 1 piece.mils) [
  | inl (t, some) ↦ rw t (All-cons (λ (piece : Piece). 1 ≤ piece.mils) piece (filter carries_mils given) some (carried-some given))
  | inr (t, none) ↦ rw t (carried-some given)
]

pub moved-grown : (sheet : Sheet) (register : Register) (row : OrderRow) (to asked : ℕ) → HasRoom (position_of register row.order.account to) (moved_by sheet register row to asked).mils (moved_by sheet register row to asked).cost → Stands (position_of register row.order.account to) → Grown (position_of register row.order.account to).holding (with_pieces_of sheet register row to asked).holding (moved_by sheet register row to asked).mils (moved_by sheet register row to asked).cost
moved-grown sheet register row to asked room stand =
    let x = position_asked register row in
    pieces-grown (moved_by sheet register row to asked).pieces (position_of register row.order.account to).holding stand.holding
    (carried-some (renewed_all (nav_of sheet x.class) (nav_of sheet to) (pieces asked x.holding.lots))) room.mils_fit room.cost_fits

-- ---- what becomes of a register

pub all_put-in_order : (positions : List Position) (register : Register) → AreInOrder register → AreInOrder (with_all_put positions register)
all_put-in_order [] register ordered = ordered
all_put-in_order (p ∷ positions) register ordered =
    all_put-in_order positions (put p register) (put-in_order p register ordered)

pub all_put-all : (P : Position → Type 0) (positions : List Position) (register : Register) → All P positions → All P register → All P (with_all_put positions register)
all_put-all P [] register those all = all
all_put-all P (p ∷ positions) register those all =
    all_put-all P positions (put p register) (All-tail P p positions those)
    (put-all P p register (All-head P p positions those) all)

positions-stand : (book : Book) (sheet : Sheet) (register : Register) (turn : Turn book sheet register) → RegisterStands register → All Stands (positions_put book sheet register turn)
positions-stand book sheet register Turn.Nothing stand = All-nil Stands
positions-stand book sheet register (Turn.Unfilled row why) stand = All-nil Stands
positions-stand book sheet register (Turn.Bought row gross split is none_open) stand =
    let x = position_asked register row in
    let here = looked_up-stands register row.order.account (class_of row.order.body) stand in
    let grown = lot-grown sheet x split.mils gross false is.room here in
    All-one Stands (with_lot_of sheet x gross split) (record { holding = grown.holding; held = λ e. grown.held ∙ here.held none_open })
positions-stand book sheet register (Turn.Noted row gross split letter is so) stand =
    let x = position_asked register row in
    All-one Stands (with_note_of sheet x gross split letter)
    (note-stands sheet x gross split letter is.room (looked_up-stands register row.order.account (class_of row.order.body) stand))
positions-stand book sheet register (Turn.Reached row gross split letter is so) stand =
    let x = position_asked register row in
    All-one Stands (released (with_note_of sheet x gross split letter)) (released-stands (with_note_of sheet x gross split letter)
    (note-stands sheet x gross split letter is.room (looked_up-stands register row.order.account (class_of row.order.body) stand)))
positions-stand book sheet register (Turn.Sold row asked is) stand =
    All-one Stands (position_less (position_asked register row) asked)
    (less-stands (position_asked register row) asked (looked_up-stands register row.order.account (class_of row.order.body) stand))
positions-stand book sheet register (Turn.Exchanged row to asked is) stand =
    let there = looked_up-stands register row.order.account to stand in
    let grown = moved-grown sheet register row to asked is.room there in
    All-cons Stands (position_less (position_asked register row) asked) (with_pieces_of sheet register row to asked ∷ [])
    (less-stands (position_asked register row) asked (looked_up-stands register row.order.account (class_of row.order.body) stand))
    (All-one Stands (with_pieces_of sheet register row to asked) (record { holding = grown.holding; held = λ e. grown.held ∙ there.held e }))
positions-stand book sheet register (Turn.Elected row in_cash is) stand =
    let here = looked_up-stands register row.order.account (class_of row.order.body) stand in
    All-one Stands (record (position_asked register row) { in_cash = in_cash }) (record { holding = here.holding; held = here.held })
positions-stand book sheet register (Turn.Begun row amount is) stand =
    let here = looked_up-stands register row.order.account (class_of row.order.body) stand in
    All-one Stands (with_letter_begun book sheet register row amount) (record { holding = here.holding; held = λ e. absurd (some_none e) })
  where
    some_none : (Some (new_letter amount sheet.day (credit_of book sheet register row.order.account) (front_of book (position_asked register row).class)) ≡ None) → ⊥
    some_none h = cc
positions-stand book sheet register (Turn.Paid key cash) stand = All-nil Stands
positions-stand book sheet register (Turn.Reinvested key cash mils room) stand =
    let x = position_at register key in
    let here = looked_up-stands register key.account key.class stand in
    let grown = lot-grown sheet x mils cash true room here in
    All-one Stands (reinvested sheet x cash mils) (record { holding = grown.holding; held = λ e. grown.held ∙ here.held e })
positions-stand book sheet register (Turn.Ended key letter is) stand =
    let x = position_at register key in
    let here = looked_up-stands register key.account key.class stand in
    let paid = (settled_by book sheet x letter).paid in
    All-one Stands (with_letter_ended book sheet x letter)
    (record { holding = paying-holds x.holding paid here.holding; held = λ e. release-none_held (after_paying x.holding paid).lots })

pub turn-stands : (book : Book) (sheet : Sheet) (day : Day) (turn : Turn book sheet day.register) → RegisterStands day.register → RegisterStands (day_after_turn book sheet day turn).register
turn-stands book sheet day turn stand = record {
  in_order = all_put-in_order (positions_put book sheet day.register turn) day.register stand.in_order;
  positions = all_put-all Stands (positions_put book sheet day.register turn) day.register (positions-stand book sheet day.register turn stand) stand.positions;
}

pub first-stands : RegisterStands first_day.register
first-stands = record { in_order = λ i j d lt short. absurd (omega (arith, short)); positions = All-nil Stands }

-- ---- what turns keep beside it

-- a fact that each turn keeps, where the register stands so
abbrev pub Beside : (List OrderRow → Day → Type 0) → List OrderRow → Day → Type 0
Beside K done day = RegisterStands day.register × K done day

abbrev pub KeptBeside : Book → (Sheet → OrderRow → Type 0) → (List OrderRow → Day → Type 0) → Type 0
KeptBeside book R K = (sheet : Sheet) (done : List OrderRow) (day : Day) (turn : Turn book sheet day.register) → Contains book.table.sheets sheet → All (R sheet) (rows_done book sheet day.register turn) → RegisterStands day.register → K done day → K (rows_done book sheet day.register turn ++ done) (day_after_turn book sheet day turn)

pub beside : (book : Book) (R : Sheet → OrderRow → Type 0) (K : List OrderRow → Day → Type 0) → KeptBeside book R K → TurnsKeep book R AnyKey (Beside K)
beside book R K keeps = record {
  keys = λ done day kept. any-all day.register;
  turn = λ sheet done day turn published those keys kept.
      (turn-stands book sheet day turn kept.0, keeps sheet done day turn published those kept.0 kept.1);
}
