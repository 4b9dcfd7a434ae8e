-- The numbers of a load that the words give are within its bounds.
use Rattle.std.proofs.Common.{Bool, List, None, Option, Some, [], ap, arith, cond, false, refl, sym, true, ℕ, ◌∷◌, ◌≡◌, ◌≤◌}
use Rattle.std.specs.Prelude.{bytes_eq, codes, nat_le, option_and_then, ◌&&◌}
use Rattle.std.proofs.lemmas.Bool.{and_parts, leb-true, true≢false}
use Rattle.money_units.specs.Texts.{number}
use Rattle.agent_run.specs.Ends.{IsInRange}
use Rattle.agent_events.specs.Fields.{operator_key}
use Rattle.agent_run.specs.Commands.{Apply, Command, Load, Serve, apply, apply_of, apply_options, command_named, command_of, load, load_of, load_options, number_within, path, serve, serve_of, serve_options, within}
use Rattle.agent_run.specs.Options.{Text, values_of}
use Rattle.agent_run.specs.Views.{command_view}
use Rattle.agent_run.specs.declared.command.Command.{Command as CommandRead}
use Rattle.agent_run.specs.declared.command.Command.TheVariants as read

pub record AreBounded (options : Load) : Type 0 where
  pub some : 1 ≤ options.households
  pub few : options.households ≤ 1000
  pub short : options.days ≤ 2000

-- what was found behind a step was found by it
bound-some : {A B : Type 0} (found : Option A) (next : A → Option B) (b : B) → option_and_then next found ≡ Some b → (a : A) × (found ≡ Some a) × (next a ≡ Some b)
bound-some None next b e = cc
bound-some (Some a) next b e = (a, refl, e)

in-bounds : (least most n m : ℕ) → within least most n ≡ Some m → (least ≤ m) × (m ≤ most)
in-bounds least most n m e = by_test (nat_le least n && nat_le n most) refl e
  where
    by_test : (is : Bool) → (nat_le least n && nat_le n most) ≡ is → cond is (Some n) None ≡ Some m → (least ≤ m) × (m ≤ most)
    by_test true is e =
        let both = and_parts (nat_le least n) (nat_le n most) is in
        let same : n ≡ m = cc in
        (omega (arith, leb-true least n both.0, same), omega (arith, leb-true n most both.1, same))
    by_test false is e = cc

number-bounds : (least most : ℕ) (text : Option Text) (m : ℕ) → option_and_then (number_within least most) text ≡ Some m → (least ≤ m) × (m ≤ most)
number-bounds least most text m e =
    let word = bound-some text (number_within least most) m e in
    let read = bound-some (number word.0) (within least most) m word.2 in
    in-bounds least most read.0 m read.2

abbrev households_in : Option Command → ℕ
households_in (Some (load options)) = options.households
households_in _ = 0

abbrev days_in : Option Command → ℕ
days_in (Some (load options)) = options.days
days_in _ = 0

abbrev is_load : Option Command → Bool
is_load (Some (load options)) = true
is_load _ = false

load-bounded : (value : Text → Option Text) (options : Load) → load_of value ≡ Some (load options) → AreBounded options
load-bounded value options e =
    let numbered = bound-some (option_and_then (number_within 0 4294967295) (value (codes "number"))) _ (load options) e in
    let housed = bound-some (option_and_then (number_within 1 1000) (value (codes "households"))) _ (load options) numbered.2 in
    let lasting = bound-some (option_and_then (number_within 0 2000) (value (codes "days"))) _ (load options) housed.2 in
    let households : housed.0 ≡ options.households = ap households_in lasting.2 in
    let days : lasting.0 ≡ options.days = ap days_in lasting.2 in
    let some = number-bounds 1 1000 (value (codes "households")) housed.0 housed.1 in
    let short = number-bounds 0 2000 (value (codes "days")) lasting.0 lasting.1 in
    record {
      some = omega (arith, some.0, households);
      few = omega (arith, some.1, households);
      short = omega (arith, short.1, days);
    }

apply-no-load : (value : Text → Option Text) (options : Load) → apply_of value ≡ Some (load options) → ⊥
apply-no-load value options e =
    let stored = bound-some (option_and_then path (value (codes "store"))) _ (load options) e in
    let keyed = bound-some (option_and_then operator_key (value (codes "key"))) _ (load options) stored.2 in
    true≢false (sym (ap is_load keyed.2))

serve-no-load : (value : Text → Option Text) (options : Load) → serve_of value ≡ Some (load options) → ⊥
serve-no-load value options e =
    let stored = bound-some (option_and_then path (value (codes "store"))) _ (load options) e in
    let at = bound-some (option_and_then (number_within 1 65535) (value (codes "port"))) _ (load options) stored.2 in
    let keyed = bound-some (option_and_then operator_key (value (codes "key"))) _ (load options) at.2 in
    let served = bound-some (option_and_then (number_within 1 1000000) (value (codes "connections"))) _ (load options) keyed.2 in
    true≢false (sym (ap is_load served.2))

named-bounded : (name : Text) (words : List Text) (options : Load) → command_named name words ≡ Some (load options) → AreBounded options
named-bounded name words options e = by_apply (bytes_eq name (codes "apply")) (bytes_eq name (codes "load")) (bytes_eq name (codes "serve")) e
  where
    by_apply : (applies loads serves : Bool) → cond applies (option_and_then apply_of (values_of apply_options words)) (cond loads (option_and_then load_of (values_of load_options words)) (cond serves (option_and_then serve_of (values_of serve_options words)) None)) ≡ Some (load options) → AreBounded options
    by_apply true loads serves e = let found = bound-some (values_of apply_options words) apply_of (load options) e in absurd (apply-no-load found.0 options found.2)
    by_apply false true serves e = let found = bound-some (values_of load_options words) load_of (load options) e in load-bounded found.0 options found.2
    by_apply false false true e = let found = bound-some (values_of serve_options words) serve_of (load options) e in absurd (serve-no-load found.0 options found.2)
    by_apply false false false e = cc

pub words-bounded : (words : List Text) (options : Load) → command_of words ≡ Some (load options) → AreBounded options
words-bounded [] options e = cc
words-bounded (name ∷ words) options e = named-bounded name words options e

pub found-in-range : (found : CommandRead) (words : List Text) → Some (command_view found) ≡ command_of words → IsInRange found
found-in-range (read.Apply store key) words e = tt
found-in-range (read.Load number households days) words e =
    let bounded = words-bounded words (record { number = number; households = households; days = days }) (sym e) in
    (bounded.some, bounded.few, bounded.short)
found-in-range (read.Serve store port key connections) words e = tt
