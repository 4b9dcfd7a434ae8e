-- Flows: what came in and what went out, of cents or of mils, and their rows by number.
use Rattle.std.specs.Map.{lookup, values_of}
use Rattle.std.specs.Prelude.{List, ℕ, ℤ, ◌+◌, ◌-ℤ◌, nat_eq, negsuc, pos, suc, sum_by, unwrap_or}
use Rattle.gain_loss_book.specs.declared.flows.Flow.{Flow}

abbrev pub no_flow : Flow
no_flow = record { inflow = 0; outflow = 0 }

-- two flows together
abbrev pub with_flow : Flow → Flow → Flow
with_flow a b = record { inflow = a.inflow + b.inflow; outflow = a.outflow + b.outflow }

-- a flow that is taken back
abbrev pub reverse_flow : Flow → Flow
reverse_flow flow = record { inflow = flow.outflow; outflow = flow.inflow }

-- what came in less what went out
abbrev pub net : Flow → ℤ
net flow = pos flow.inflow -ℤ pos flow.outflow

-- a change as a flow: a rise comes in, and a fall goes out
abbrev pub rise : ℤ → ℕ
rise (pos n) = n
rise (negsuc n) = 0

abbrev pub fall : ℤ → ℕ
fall (pos n) = 0
fall (negsuc n) = suc n

abbrev pub flow_by : ℤ → Flow
flow_by change = record { inflow = rise change; outflow = fall change }

-- rows of flows by number, and how many more there is room for
pub record FlowTable : Type 0 where
  pub rows : List (ℕ × Flow)
  pub room : ℕ

-- the flow of a number
abbrev pub flow_at : List (ℕ × Flow) → ℕ → Flow
flow_at rows number = unwrap_or (lookup (nat_eq number) rows) no_flow

-- all flows together
abbrev pub inflows : List (ℕ × Flow) → ℕ
inflows rows = sum_by (λ flow. flow.inflow) (values_of rows)

abbrev pub outflows : List (ℕ × Flow) → ℕ
outflows rows = sum_by (λ flow. flow.outflow) (values_of rows)

abbrev pub whole_flow : List (ℕ × Flow) → Flow
whole_flow rows = record { inflow = inflows rows; outflow = outflows rows }
