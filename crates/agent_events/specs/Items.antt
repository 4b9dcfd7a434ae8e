-- The items of a script and the records of a batch: a verb by its name, and what stands before it.
use Rattle.std.specs.Prelude.{ℕ, List, map, length, drop, if◌then◌else◌, nat_lt, nat_le, Some, None, Ok, Err, codes, bytes_eq, Option, Result}
use Rattle.agent_events.specs.Fields.{moment}
use Rattle.agent_events.specs.Forms.{field, is_key_text, of_length}
use Rattle.agent_events.specs.OrderForms.{enter_asked, line_asked, order_count, order_or_unknown, replace_asked, with_order}
use Rattle.agent_events.specs.declared.item.ScriptItem.{ScriptItem}
use Rattle.agent_events.specs.VerbForms.{Asked, account_asked, books_asked, calendar_asked, cancel_asked, class_asked, close_asked, dealer_asked, dividend_asked, fixprice_asked, fixrate_asked, household_asked, sheet_asked, show_asked, statement_asked, trace_asked, void_asked}

-- what a verb asks by its fields
abbrev pub asked_by : List ℕ → List (List ℕ) → Asked
asked_by verb fields =
    if bytes_eq verb (codes "calendar") then of_length 6 calendar_asked fields
    else if bytes_eq verb (codes "close") then of_length 2 close_asked fields
    else if bytes_eq verb (codes "class") then of_length 10 class_asked fields
    else if bytes_eq verb (codes "dealer") then of_length 3 dealer_asked fields
    else if bytes_eq verb (codes "household") then of_length 2 household_asked fields
    else if bytes_eq verb (codes "account") then of_length 4 account_asked fields
    else if bytes_eq verb (codes "sheet") then of_length 3 sheet_asked fields
    else if bytes_eq verb (codes "dividend") then of_length 3 dividend_asked fields
    else if bytes_eq verb (codes "fixprice") then of_length 5 fixprice_asked fields
    else if bytes_eq verb (codes "fixrate") then of_length 5 fixrate_asked fields
    else if bytes_eq verb (codes "enter") then with_order 4 enter_asked fields
    else if bytes_eq verb (codes "replace") then with_order 4 replace_asked fields
    else if bytes_eq verb (codes "void") then of_length 4 void_asked fields
    else if bytes_eq verb (codes "cancel") then of_length 3 cancel_asked fields
    else if bytes_eq verb (codes "show") then of_length 1 show_asked fields
    else if bytes_eq verb (codes "trace") then of_length 2 trace_asked fields
    else if bytes_eq verb (codes "statement") then of_length 3 statement_asked fields
    else if bytes_eq verb (codes "books") then of_length 0 books_asked fields
    else if bytes_eq verb (codes "line") then with_order 2 line_asked fields
    else order_or_unknown (order_count verb) verb fields

-- an item of a script: a moment, a key and what is asked; a record without these is bad
abbrev pub script_item_at : Option ℕ → List ℕ → Asked → ScriptItem
script_item_at None key asked = ScriptItem.Bad
script_item_at (Some now) key asked = if is_key_text key then ScriptItem.Good now key asked else ScriptItem.Bad

abbrev pub script_item : List (List ℕ) → ScriptItem
script_item fields =
    if nat_lt (length fields) 3 then ScriptItem.Bad
    else script_item_at (moment (field fields 1)) (field fields 2) (asked_by (field fields 3) (drop 3 fields))

-- a record of a batch is a dealer's line without the word `line`
abbrev pub batch_line : List (List ℕ) → Asked
batch_line fields = with_order 2 line_asked fields

-- a whole batch by its records; more than 4,096 make it no batch
abbrev pub batch_lines : List (List (List ℕ)) → Result (List Asked) ℕ
batch_lines rows = if nat_le (length rows) 4096 then Ok (map batch_line rows) else Err 0
