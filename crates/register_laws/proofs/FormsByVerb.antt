-- What is true of what each form asks, and of what asks nothing, is true of what a verb asks.
use Rattle.std.proofs.Common.{Bool, Err, List, None, Ok, Option, Result, Some, bytes_eq, codes, cond, false, length, nat_lt, true, ℕ, ◌+◌, ◌==◌}
use Rattle.agent_events.specs.Fields.{bearer, dealer_key, household_key, identifier, identifier_or_none, label, reference, window}
use Rattle.agent_events.specs.Forms.{at, class_form, field, of_length, ◌>>=◌}
use Rattle.agent_events.specs.Items.{asked_by}
use Rattle.agent_events.specs.OrderForms.{counted_by, enter_asked, line_asked, order_asked, order_count, order_or_unknown, replace_asked, with_order}
use Rattle.agent_events.specs.VerbForms.{Asked, account_asked, books_asked, calendar_asked, cancel_asked, class_asked, close_asked, dealer_asked, dividend_asked, fixprice_asked, fixrate_asked, household_asked, sheet_asked, show_asked, statement_asked, trace_asked, void_asked}
use Rattle.agent_events.specs.declared.request.AccountForm.{AccountForm}
use Rattle.agent_events.specs.declared.request.CancelForm.{CancelForm}
use Rattle.agent_events.specs.declared.request.ClassForm.{ClassForm}
use Rattle.agent_events.specs.declared.request.CloseForm.{CloseForm}
use Rattle.agent_events.specs.declared.request.DealerForm.{DealerForm}
use Rattle.agent_events.specs.declared.request.HouseholdForm.{HouseholdForm}
use Rattle.agent_events.specs.declared.request.Request.{Request}
use Rattle.agent_events.specs.declared.request.StatementForm.{StatementForm}
use Rattle.agent_events.specs.declared.request.TraceForm.{TraceForm}
use Rattle.agent_events.specs.declared.request.VoidForm.{VoidForm}
use Rattle.fund_calendar.specs.DayText.{read_day}

-- of what these fields ask, by the forms whose contents matter, and of the other requests, whatever they hold
pub record OfEachForm (Q : Asked → Type 0) (fields : List (List ℕ)) : Type 0 where
  pub nothing : (place : ℕ) → Q (Err place)
  pub calendar : Q (calendar_asked fields)
  pub sheet : Q (sheet_asked fields)
  pub dividend : Q (dividend_asked fields)
  pub fixprice : Q (fixprice_asked fields)
  pub fixrate : Q (fixrate_asked fields)
  pub enter : Q (enter_asked fields)
  pub replace : Q (replace_asked fields)
  pub line : Q (line_asked fields)
  pub order : (verb : List ℕ) → Q (order_asked verb fields)
  pub close : (form : CloseForm) → Q (Ok (Request.Close form))
  pub class : (form : ClassForm) → Q (Ok (Request.Class form))
  pub dealer : (form : DealerForm) → Q (Ok (Request.Dealer form))
  pub household : (form : HouseholdForm) → Q (Ok (Request.Household form))
  pub account : (form : AccountForm) → Q (Ok (Request.Account form))
  pub void : (form : VoidForm) → Q (Ok (Request.Void form))
  pub cancel : (form : CancelForm) → Q (Ok (Request.Cancel form))
  pub show : (account : ℕ) → Q (Ok (Request.Show account))
  pub trace : (form : TraceForm) → Q (Ok (Request.Trace form))
  pub statement : (form : StatementForm) → Q (Ok (Request.Statement form))
  pub books : Q (Ok Request.Books)

by-parts : {A : Type 0} (Q : Asked → Type 0) → ((place : ℕ) → Q (Err place)) → (read : Result A ℕ) (next : A → Asked) → ((x : A) → Q (next x)) → Q (read >>= next)
by-parts Q none (Ok x) next all = all x
by-parts Q none (Err place) next all = none place

numbered : (Q : Asked → Type 0) → ((place : ℕ) → Q (Err place)) → (count : ℕ) (form : List (List ℕ) → Asked) (fields : List (List ℕ)) → Q (form fields) → Q (of_length count form fields)
numbered Q none count form fields all = by_count (length fields == count)
  where
    by_count : (is : Bool) → Q (cond is (form fields) (Err 0))
    by_count true = all
    by_count false = none 0

pub carried : (Q : Asked → Type 0) → ((place : ℕ) → Q (Err place)) → (lead : ℕ) (form : List (List ℕ) → Asked) (fields : List (List ℕ)) → Q (form fields) → Q (with_order lead form fields)
carried Q none lead form fields all = by_short (nat_lt (length fields) lead)
  where
    by_verb : (found : Option ℕ) → Q (counted_by found lead form fields)
    by_verb None = all
    by_verb (Some count) = numbered Q none (lead + count) form fields all

    by_short : (short : Bool) → Q (cond short (Err 0) (counted_by (order_count (field fields lead)) lead form fields))
    by_short true = none 0
    by_short false = by_verb (order_count (field fields lead))

ordered : (Q : Asked → Type 0) → ((place : ℕ) → Q (Err place)) → (found : Option ℕ) (verb : List ℕ) (fields : List (List ℕ)) → Q (order_asked verb fields) → Q (order_or_unknown found verb fields)
ordered Q none None verb fields all = none 0
ordered Q none (Some count) verb fields all = numbered Q none count (order_asked verb) fields all

either : (Q : Asked → Type 0) (is : Bool) (one other : Asked) → Q one → Q other → Q (cond is one other)
either Q true one other first second = first
either Q false one other first second = second

-- the requests whose contents don't matter
of_close : (Q : Asked → Type 0) (fields : List (List ℕ)) → OfEachForm Q fields → Q (close_asked fields)
of_close Q fields each =
    by-parts Q each.nothing (at 1 (identifier (field fields 1))) _ (λ calendar. by-parts Q each.nothing (at 2 (read_day (field fields 2))) _ (λ day. each.close _))

of_dealer : (Q : Asked → Type 0) (fields : List (List ℕ)) → OfEachForm Q fields → Q (dealer_asked fields)
of_dealer Q fields each =
    by-parts Q each.nothing (at 1 (identifier (field fields 1))) _
    (λ dealer. by-parts Q each.nothing (at 2 (dealer_key (field fields 2))) _ (λ key. by-parts Q each.nothing (at 3 (window (field fields 3))) _ (λ seconds. each.dealer _)))

of_household : (Q : Asked → Type 0) (fields : List (List ℕ)) → OfEachForm Q fields → Q (household_asked fields)
of_household Q fields each =
    by-parts Q each.nothing (at 1 (identifier (field fields 1))) _
    (λ household. by-parts Q each.nothing (at 2 (household_key (field fields 2))) _ (λ key. each.household _))

of_account : (Q : Asked → Type 0) (fields : List (List ℕ)) → OfEachForm Q fields → Q (account_asked fields)
of_account Q fields each =
    by-parts Q each.nothing (at 1 (identifier (field fields 1))) _
    (λ account. by-parts Q each.nothing (at 2 (identifier (field fields 2))) _
    (λ household. by-parts Q each.nothing (at 3 (identifier_or_none (field fields 3))) _
    (λ dealer. by-parts Q each.nothing (at 4 (label (field fields 4))) _ (λ name. each.account _))))

of_void : (Q : Asked → Type 0) (fields : List (List ℕ)) → OfEachForm Q fields → Q (void_asked fields)
of_void Q fields each =
    by-parts Q each.nothing (at 1 (reference (field fields 1))) _
    (λ fix. by-parts Q each.nothing (at 2 (bearer (field fields 2))) _
    (λ borne. by-parts Q each.nothing (at 3 (identifier (field fields 3))) _
    (λ account. by-parts Q each.nothing (at 4 (reference (field fields 4))) _ (λ ref_no. each.void _))))

of_cancel : (Q : Asked → Type 0) (fields : List (List ℕ)) → OfEachForm Q fields → Q (cancel_asked fields)
of_cancel Q fields each =
    by-parts Q each.nothing (at 1 (identifier (field fields 1))) _
    (λ account. by-parts Q each.nothing (at 2 (reference (field fields 2))) _
    (λ ref_no. by-parts Q each.nothing (at 3 (reference (field fields 3))) _ (λ target. each.cancel _)))

of_trace : (Q : Asked → Type 0) (fields : List (List ℕ)) → OfEachForm Q fields → Q (trace_asked fields)
of_trace Q fields each =
    by-parts Q each.nothing (at 1 (identifier (field fields 1))) _
    (λ account. by-parts Q each.nothing (at 2 (reference (field fields 2))) _ (λ ref_no. each.trace _))

of_statement : (Q : Asked → Type 0) (fields : List (List ℕ)) → OfEachForm Q fields → Q (statement_asked fields)
of_statement Q fields each =
    by-parts Q each.nothing (at 1 (identifier (field fields 1))) _
    (λ account. by-parts Q each.nothing (at 2 (read_day (field fields 2))) _
    (λ first. by-parts Q each.nothing (at 3 (read_day (field fields 3))) _ (λ last. each.statement _)))

-- by the verb
pub of_verb : (Q : Asked → Type 0) (verb : List ℕ) (fields : List (List ℕ)) → OfEachForm Q fields → Q (asked_by verb fields)
of_verb Q verb fields each =
    let none = each.nothing in
    either Q (bytes_eq verb (codes "calendar")) _ _ (numbered Q none 6 calendar_asked fields each.calendar)
    (either Q (bytes_eq verb (codes "close")) _ _ (numbered Q none 2 close_asked fields (of_close Q fields each))
    (either Q (bytes_eq verb (codes "class")) _ _ (numbered Q none 10 class_asked fields (by-parts Q none (class_form fields) _ each.class))
    (either Q (bytes_eq verb (codes "dealer")) _ _ (numbered Q none 3 dealer_asked fields (of_dealer Q fields each))
    (either Q (bytes_eq verb (codes "household")) _ _ (numbered Q none 2 household_asked fields (of_household Q fields each))
    (either Q (bytes_eq verb (codes "account")) _ _ (numbered Q none 4 account_asked fields (of_account Q fields each))
    (either Q (bytes_eq verb (codes "sheet")) _ _ (numbered Q none 3 sheet_asked fields each.sheet)
    (either Q (bytes_eq verb (codes "dividend")) _ _ (numbered Q none 3 dividend_asked fields each.dividend)
    (either Q (bytes_eq verb (codes "fixprice")) _ _ (numbered Q none 5 fixprice_asked fields each.fixprice)
    (either Q (bytes_eq verb (codes "fixrate")) _ _ (numbered Q none 5 fixrate_asked fields each.fixrate)
    (either Q (bytes_eq verb (codes "enter")) _ _ (carried Q none 4 enter_asked fields each.enter)
    (either Q (bytes_eq verb (codes "replace")) _ _ (carried Q none 4 replace_asked fields each.replace)
    (either Q (bytes_eq verb (codes "void")) _ _ (numbered Q none 4 void_asked fields (of_void Q fields each))
    (either Q (bytes_eq verb (codes "cancel")) _ _ (numbered Q none 3 cancel_asked fields (of_cancel Q fields each))
    (either Q (bytes_eq verb (codes "show")) _ _ (numbered Q none 1 show_asked fields (by-parts Q none (at 1 (identifier (field fields 1))) _ each.show))
    (either Q (bytes_eq verb (codes "trace")) _ _ (numbered Q none 2 trace_asked fields (of_trace Q fields each))
    (either Q (bytes_eq verb (codes "statement")) _ _ (numbered Q none 3 statement_asked fields (of_statement Q fields each))
    (either Q (bytes_eq verb (codes "books")) _ _ (numbered Q none 0 books_asked fields each.books)
    (either Q (bytes_eq verb (codes "line")) _ _ (carried Q none 2 line_asked fields each.line)
    (ordered Q none (order_count verb) verb fields (each.order verb))))))))))))))))))))
