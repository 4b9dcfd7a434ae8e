-- The sheet that is computed has the next price, and where none is, none has it; and a complete sheet lists something.
use Rattle.std.proofs.Common.{◌≡◌, ℕ, ◌≤◌, ◌<◌, nat_lt, true, false, List, Some, None, sym, subst, ◌∙◌, arith}
use Rattle.std.proofs.lemmas.Bool.{ltb-true, ltb-false, and_parts, and_from, true≢false}
use Rattle.std.proofs.lemmas.Bool.Decides.{nat_tests}
use Rattle.std.proofs.lemmas.List.Elements.{All-weaker}
use Rattle.forward_price.specs.declared.price_sheet.Sheet.{Sheet}
use Rattle.forward_price.specs.Sheets.{lists_all}
use Rattle.forward_price.specs.Choices.{IsBest, IsChoice}
use Rattle.forward_price.specs.PriceTables.{prices_order, is_earlier, next_sheet, NextPrice, IsPending, is_before, is_later, LastPrice}
use Rattle.forward_price.specs.Sheets.{lists_class}
use Rattle.forward_price.proofs.ChoiceFacts.{best-choice}
use Rattle.forward_price.proofs.TurnFacts.{earlier-order}

pub lt_fact : (a b : ℕ) → nat_lt a b ≡ true → a < b
lt_fact a b e = ltb-true a b e

pub lt_test : (a b : ℕ) → a < b → nat_lt a b ≡ true
lt_test a b h = grind (arith, nat_tests)

pub ge_fact : (a b : ℕ) → nat_lt a b ≡ false → b ≤ a
ge_fact a b e = ltb-false a b e

order_test : (asked : List ℕ) (receipt : ℕ) (o : Sheet) → lists_all o.prices asked ≡ true → receipt < o.moment → prices_order asked receipt o ≡ true
order_test asked receipt o lists after = and_from (nat_lt receipt o.moment) (lists_all o.prices asked) (lt_test receipt o.moment after) lists

next_by : (sheets : List Sheet) (asked : List ℕ) (receipt : ℕ) (s : Sheet) → IsBest (prices_order asked receipt) is_earlier sheets s → NextPrice sheets asked receipt s
next_by sheets asked receipt s is =
    let parts = and_parts (nat_lt receipt s.moment) (lists_all s.prices asked) is.here in
    record {
      among = is.among;
      lists = parts.1;
      after = lt_fact receipt s.moment parts.0;
      next = All-weaker (λ o. prices_order asked receipt o ≡ true → is_earlier o s ≡ false) (λ o. lists_all o.prices asked ≡ true → receipt < o.moment → s.moment ≤ o.moment) (λ o h lists after. ge_fact o.moment s.moment (h (order_test asked receipt o lists after))) sheets is.best;
    }

pub next_sheet-next : (sheets : List Sheet) (asked : List ℕ) (receipt : ℕ) (s : Sheet) → next_sheet sheets asked receipt ≡ Some s → NextPrice sheets asked receipt s
next_sheet-next sheets asked receipt s e =
    next_by sheets asked receipt s (subst (IsChoice (prices_order asked receipt) is_earlier sheets) e (best-choice (prices_order asked receipt) is_earlier earlier-order sheets))

pub next_sheet-pending : (sheets : List Sheet) (asked : List ℕ) (receipt : ℕ) → next_sheet sheets asked receipt ≡ None → IsPending sheets asked receipt
next_sheet-pending sheets asked receipt e =
    All-weaker (λ o. prices_order asked receipt o ≡ false) (λ o. lists_all o.prices asked ≡ true → receipt < o.moment → ⊥) (λ o fails lists after. true≢false (sym (order_test asked receipt o lists after) ∙ fails)) sheets
    (subst (IsChoice (prices_order asked receipt) is_earlier sheets) e (best-choice (prices_order asked receipt) is_earlier earlier-order sheets))

before_test : (class : ℕ) (moment : ℕ) (o : Sheet) → lists_class o.prices class ≡ true → o.moment < moment → is_before class moment o ≡ true
before_test class moment o lists before = and_from (nat_lt o.moment moment) (lists_class o.prices class) (lt_test o.moment moment before) lists

pub last_by : (sheets : List Sheet) (class : ℕ) (moment : ℕ) (s : Sheet) → IsBest (is_before class moment) is_later sheets s → LastPrice sheets class moment s
last_by sheets class moment s is =
    let parts = and_parts (nat_lt s.moment moment) (lists_class s.prices class) is.here in
    record {
      among = is.among;
      lists = parts.1;
      before = lt_fact s.moment moment parts.0;
      last = All-weaker (λ o. is_before class moment o ≡ true → is_later o s ≡ false) (λ o. lists_class o.prices class ≡ true → o.moment < moment → o.moment ≤ s.moment) (λ o h lists before. ge_fact s.moment o.moment (h (before_test class moment o lists before))) sheets is.best;
    }
