-- What is read from a text is in its form, so all limits hold of every script's run.
use Rattle.std.specs.Prelude.{All, Err, List, Ok, true, ℕ, ◌≡◌, ◌≤◌}
use Rattle.agent_events.specs.Fields.{is_rising}
use Rattle.agent_events.specs.Items.{asked_by, batch_line}
use Rattle.agent_events.specs.VerbForms.{Asked}
use Rattle.agent_events.specs.declared.request.Request.{Request}
use Rattle.limit_laws.specs.InForm.{AreInForm, IsInForm, most_rate}
use Rattle.limit_laws.specs.Moved.{IsWithinAllLimits}
use Rattle.limit_laws.specs.Posts.{BookedFits}
use Rattle.register_laws.specs.ReplayKeeps.{AsksInRange, most_nav}
use Rattle.register_machine.specs.rules.Situations.{Situation}
use Rattle.register_machine.specs.run.Answers.{answer}
use Rattle.register_machine.specs.run.Scripts.{empty_run, run_from, script_items}

-- a list of prices that rises by class, none above the greatest
pub record ArePrices (prices : List (ℕ × ℕ)) : Type 0 where
  pub low : All (λ price. price.1 ≤ most_nav) prices
  pub rises : is_rising prices ≡ true

-- what a request asks has the ranges of its fields
abbrev pub RequestInForm : Request → Type 0
RequestInForm (Request.Sheet form) = ArePrices form.prices
RequestInForm (Request.Dividend form) = form.rate ≤ most_rate
RequestInForm (Request.FixPrice form) = form.nav ≤ most_nav
RequestInForm (Request.FixRate form) = form.rate ≤ most_rate
RequestInForm (Request.Order order) = AsksInRange order.body
RequestInForm (Request.Line line) = AsksInRange line.order.body
RequestInForm (Request.Enter form) = AsksInRange form.order.body
RequestInForm (Request.Replace form) = AsksInRange form.order.body
RequestInForm _ = Unit {0}

abbrev pub AskedInForm : Asked → Type 0
AskedInForm (Ok request) = RequestInForm request
AskedInForm (Err place) = Unit {0}

-- Whatever is read by its verb is in its form, and so is each line of a batch.
pub record ReadsInForm (verb : List ℕ) (fields : List (List ℕ)) : Type 0 where
  pub by_verb : AskedInForm (asked_by verb fields)
  pub by_line : AskedInForm (batch_line fields)

-- What such a request brings is too.
abbrev pub BringsInForm : Situation → Request → Type 0
BringsInForm situation request = RequestInForm request → All IsInForm (answer situation request).events

-- So the journal of a script's run is within all limits, and so is what is booked behind it.
pub record ScriptStaysWithin (operator script : List ℕ) : Type 0 where
  pub in_form : AreInForm (run_from operator empty_run (script_items script)).journal
  pub within : IsWithinAllLimits (run_from operator empty_run (script_items script)).journal
  pub booked : BookedFits (run_from operator empty_run (script_items script)).journal
