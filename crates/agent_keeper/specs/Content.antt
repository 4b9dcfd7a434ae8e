-- What a keeper keeps, and what a batch makes of it.
use Rattle.std.specs.Prelude.{ℕ, Bool, ◌&&◌, ◌==◌, List, [], ◌++◌, fold, Option, Some, None, if◌then◌else◌}
use Rattle.std.specs.List.{list_any}
use Rattle.agent_keeper.specs.declared.batch.Batch.{Batch}
use Rattle.agent_keeper.specs.declared.batch.CheckName.{CheckName}
use Rattle.agent_keeper.specs.declared.batch.CheckPut.{CheckPut}

-- the rows of the journal, in order, and the checkpoint row of a household at a sheet, if there is one
pub record Content : Type 0 where
  pub rows : List (List ℕ)
  pub checks : ℕ → ℕ → Option (List ℕ)

-- nothing is kept
abbrev pub empty : Content
empty = record { rows = []; checks = λ household sheet. None }

-- what stands at a household and a sheet after the puts, made in turn
abbrev pub after_puts : List CheckPut → Option (List ℕ) → ℕ → ℕ → Option (List ℕ)
after_puts puts before household sheet =
    fold (λ there put. if put.household == household && put.sheet == sheet then Some put.bytes
    else there) before puts

-- the removals name that household and sheet
abbrev pub is_removed : List CheckName → ℕ → ℕ → Bool
is_removed removes household sheet = list_any (λ name. name.household == household
    && name.sheet == sheet) removes

-- the content after a batch: its rows behind those kept, its checkpoint rows put, those that it names removed, all else the same
abbrev pub after : Batch → Content → Content
after batch kept = record {
  rows = kept.rows ++ batch.rows;
  checks = λ household sheet. if is_removed batch.removes household sheet then None
      else after_puts batch.puts (kept.checks household sheet) household sheet;
}
