-- What a reader of fields answers, against the value or the place that the form gives. Only memory may be wanting.
use Rattle.std.specs.Prelude.{◌≡◌, ℕ, Result, Ok, Err}
use Rattle.request_fields.specs.declared.fault.FormFault.{FormFault}
use Rattle.request_fields.specs.declared.fault.FormFault.TheVariants as fault

abbrev pub Fails : {A : Type 0} → FormFault → Result A ℕ → Type 0
Fails fault.NoMemory form = Unit {0}
Fails (fault.Place place) form = form ≡ Err place

abbrev pub Gives : {A : Type 0} → Result A FormFault → Result A ℕ → Type 0
Gives (Ok x) form = form ≡ Ok x
Gives (Err e) form = Fails e form
