-- The numbers of classes and of dealers, as they are gathered from the tables and from the dealers in turn, and the shares of
-- classes.
use Rattle.std.specs.Prelude.{List, Option, fold, map, option_map, ℕ}
use Rattle.agent_events.specs.declared.request.DealerForm.{DealerForm}
use Rattle.class_terms.specs.declared.form.TermsForm.{TermsForm}
use Rattle.holder_statements.specs.declared.kept_books.ClassShares.{ClassShares}
use Rattle.register_machine.specs.corrections.Cash.{outstanding}
use Rattle.register_machine.specs.corrections.Gains.{in_its_place}
use Rattle.register_machine.specs.journal.Journals.{Journal}
use Rattle.register_machine.specs.journal.Kinds.{class_numbered, classes_of}
use Rattle.register_machine.specs.replay.Positions.{Register}

-- the number of the class with these terms, as the journal has it
abbrev pub class_number : Journal → TermsForm → Option ℕ
class_number journal terms = option_map (λ form. form.class) (class_numbered (classes_of journal) terms.class)

-- numbers by rising size, with those of these dealers
abbrev pub with_dealers : List ℕ → List DealerForm → List ℕ
with_dealers numbers dealers = fold (λ ordered n. in_its_place n ordered) numbers (map (λ form. form.dealer) dealers)

-- the outstanding shares of a class in a register
abbrev pub shares_in : Register → ℕ → ClassShares
shares_in register class = record { class = class; mils = outstanding register class }
