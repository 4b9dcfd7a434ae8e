-- The proof of the law `corrections_on_trial_have_a_sound_book`.
use Rattle.ledger_laws.proofs.TrialBooks.{book-after, orders-on, sound-trial, trial-anew, unfixed}
use Rattle.ledger_laws.proofs.book_laws.corrections_on_trial_have_a_sound_book.Goals as goal

pub returns : goal.returns
returns c journal event caller lawful corrects clear = record {
  sound = sound-trial journal event caller lawful corrects clear;
  goes_on = book-after journal event (unfixed journal event.kind corrects) (orders-on journal event caller lawful corrects clear);
  on_trial = trial-anew journal event caller lawful corrects clear;
}
