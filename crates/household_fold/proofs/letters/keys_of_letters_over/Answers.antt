-- That `keys_of_letters_over` keeps its contract.
use Rattle.std.proofs.Common.{All, ap, refl, subst, sym, ◌∙◌, ◌≡◌}
use Rattle.register_machine.specs.replay.Letter.{keys_of_letters_over}
use Rattle.household_fold.specs.Facts.{IsListed, sheet_at_hand}
use Rattle.household_fold.proofs.LetterSteps.{keys-listed, same-keys, same-over}
use Rattle.household_fold.proofs.SheetFacts.{lists_at_hand, read_at_hand}
use Rattle.household_fold.proofs.letters.keys_of_letters_over.Goals as goal

keys-are : (c : goal.In_ok-keys) → c.in_ok-keys.keys ≡ keys_of_letters_over (sheet_at_hand c.args.facts.now) c.args.day.now.register
keys-are c =
    let known = c.args.facts.now in
    let sheet = c.published.result.now in
    c.in_ok-keys.ensures
    ∙ ap (keys_of_letters_over sheet) c.register.ensures
    ∙ same-keys sheet (sheet_at_hand known)
    (same-over sheet (sheet_at_hand known) (λ class. lists_at_hand known sheet class c.published.ensures)
    (read_at_hand (λ s. s.day) (λ s prices. refl) known sheet c.published.ensures))
    c.args.day.now.register

pub returns-clause-keys : goal.returns-clause-keys
returns-clause-keys c = keys-are c

pub returns-clause-listed : goal.returns-clause-listed
returns-clause-listed c =
    subst (All (λ key. IsListed c.args.facts.now key.class)) (sym (keys-are c)) (keys-listed (sheet_at_hand c.args.facts.now) c.args.day.now.register)
