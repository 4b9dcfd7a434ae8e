-- The table of cases of an open letter, and what becomes of one over all that happens on its account and class.
use Rattle.std.specs.Prelude.{ℕ, Bool, false, if◌then◌else◌, List, [], ◌∷◌, fold}
use Rattle.letter_of_intent.specs.declared.letter.Letter.{Letter}
use Rattle.letter_of_intent.specs.Letters.{is_reached, has_expired}
use Rattle.letter_of_intent.specs.Purchases.{Purchase, after}

-- a purchase, or a sheet of the class's calendar with its date
pub data Event : Type 0 where
  Bought : Purchase → Event
  Priced : ℕ → Event

-- the letter stands, has ended with its amount reached, or has ended by date
pub data Fate : Type 0 where
  Stands : Letter → Fate
  Reached : Letter → Fate
  Expired : Letter → Fate

-- a purchase is noted, and ends the letter where its amount is then reached
abbrev pub when_bought : Letter → Fate
when_bought letter = if is_reached letter then Reached letter else Stands letter

-- a sheet ends the letter where it is dated past the letter's months
abbrev pub when_priced : Letter → Bool → Fate
when_priced letter past = if past then Expired letter else Stands letter

-- what becomes of an open letter
abbrev pub becomes : Letter → Event → Fate
becomes letter (Bought purchase) = when_bought (after letter purchase)
becomes letter (Priced day) = when_priced letter (has_expired letter day)

-- a letter that has ended stays as it ended
abbrev pub happens : Fate → Event → Fate
happens (Stands letter) event = becomes letter event
happens (Reached letter) event = Reached letter
happens (Expired letter) event = Expired letter

-- what becomes of a letter over these events, in order
abbrev pub fate : Letter → List Event → Fate
fate letter events = fold happens (Stands letter) events

-- the purchases among them
abbrev pub purchases_of : List Event → List Purchase
purchases_of [] = []
purchases_of (Bought purchase ∷ events) = purchase ∷ purchases_of events
purchases_of (Priced day ∷ events) = purchases_of events

-- an event by which the letter ends by date
abbrev pub is_past : Letter → Event → Bool
is_past letter (Bought purchase) = false
is_past letter (Priced day) = has_expired letter day
