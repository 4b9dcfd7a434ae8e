-- Parts that are compared in another shape than the content has.
use Rattle.std.proofs.Common.{◌≡◌, ℕ, Bool, true, false, eqb, List, [], ◌∷◌, refl, ap, ◌∙◌}
use Rattle.std.specs.Prelude.{◌&&◌, bytes_eq}
use Rattle.std.specs.Cmp.Lexicographic.{pointwise}
use Rattle.class_terms.specs.declared.lists.Bracket.{Bracket}
use Rattle.agent_events.specs.ContentFields.{same_bracket, same_price}
use Rattle.agent_events.specs.Contents.{bearer_content, body_content, brackets_content, prices_content}
use Rattle.agent_events.specs.declared.order.Bearer.{Bearer}
use Rattle.agent_events.specs.declared.order.Body.{Body}
use Rattle.agent_events.specs.Parts.{bearer_numbers, body_numbers}

and_assoc : (a b c : Bool) → (a && (b && c)) ≡ ((a && b) && c)
and_assoc true b c = refl
and_assoc false b c = refl

pub brackets_same : (xs ys : List Bracket) → bytes_eq (brackets_content xs) (brackets_content ys) ≡ pointwise same_bracket xs ys
brackets_same [] [] = refl
brackets_same [] (y ∷ ys) = refl
brackets_same (x ∷ xs) [] = refl
brackets_same (x ∷ xs) (y ∷ ys) =
    ap (λ (rest : Bool). eqb x.floor y.floor && (eqb x.rate y.rate && rest)) (brackets_same xs ys)
    ∙ and_assoc (eqb x.floor y.floor) (eqb x.rate y.rate) (pointwise same_bracket xs ys)

pub prices_same : (xs ys : List (ℕ × ℕ)) → bytes_eq (prices_content xs) (prices_content ys) ≡ pointwise same_price xs ys
prices_same [] [] = refl
prices_same [] (y ∷ ys) = refl
prices_same (x ∷ xs) [] = refl
prices_same (x ∷ xs) (y ∷ ys) =
    ap (λ (rest : Bool). eqb x.0 y.0 && (eqb x.1 y.1 && rest)) (prices_same xs ys)
    ∙ and_assoc (eqb x.0 y.0) (eqb x.1 y.1) (pointwise same_price xs ys)

pub bearer_same : (a b : Bearer) → bytes_eq (bearer_numbers a) (bearer_numbers b) ≡ bytes_eq (bearer_content a) (bearer_content b)
bearer_same Bearer.Fund Bearer.Fund = refl
bearer_same Bearer.Fund Bearer.Agent = refl
bearer_same Bearer.Fund (Bearer.Dealer y) = refl
bearer_same Bearer.Agent Bearer.Fund = refl
bearer_same Bearer.Agent Bearer.Agent = refl
bearer_same Bearer.Agent (Bearer.Dealer y) = refl
bearer_same (Bearer.Dealer x) Bearer.Fund = refl
bearer_same (Bearer.Dealer x) Bearer.Agent = refl
bearer_same (Bearer.Dealer x) (Bearer.Dealer y) = refl

pub body_same : (a b : Body) → bytes_eq (body_numbers a) (body_numbers b) ≡ bytes_eq (body_content a) (body_content b)
body_same (Body.Buy c g) (Body.Buy c2 g2) = refl
body_same (Body.Buy c g) (Body.Sell c2 g2) = refl
body_same (Body.Buy c g) (Body.SellCash c2 g2) = refl
body_same (Body.Buy c g) (Body.SellAll c2) = refl
body_same (Body.Buy c g) (Body.Exchange c2 t2 g2) = refl
body_same (Body.Buy c g) (Body.ExchangeAll c2 t2) = refl
body_same (Body.Buy c g) (Body.Letter c2 g2) = refl
body_same (Body.Buy c g) (Body.Elect c2 g2) = refl
body_same (Body.Sell c g) (Body.Buy c2 g2) = refl
body_same (Body.Sell c g) (Body.Sell c2 g2) = refl
body_same (Body.Sell c g) (Body.SellCash c2 g2) = refl
body_same (Body.Sell c g) (Body.SellAll c2) = refl
body_same (Body.Sell c g) (Body.Exchange c2 t2 g2) = refl
body_same (Body.Sell c g) (Body.ExchangeAll c2 t2) = refl
body_same (Body.Sell c g) (Body.Letter c2 g2) = refl
body_same (Body.Sell c g) (Body.Elect c2 g2) = refl
body_same (Body.SellCash c g) (Body.Buy c2 g2) = refl
body_same (Body.SellCash c g) (Body.Sell c2 g2) = refl
body_same (Body.SellCash c g) (Body.SellCash c2 g2) = refl
body_same (Body.SellCash c g) (Body.SellAll c2) = refl
body_same (Body.SellCash c g) (Body.Exchange c2 t2 g2) = refl
body_same (Body.SellCash c g) (Body.ExchangeAll c2 t2) = refl
body_same (Body.SellCash c g) (Body.Letter c2 g2) = refl
body_same (Body.SellCash c g) (Body.Elect c2 g2) = refl
body_same (Body.SellAll c) (Body.Buy c2 g2) = refl
body_same (Body.SellAll c) (Body.Sell c2 g2) = refl
body_same (Body.SellAll c) (Body.SellCash c2 g2) = refl
body_same (Body.SellAll c) (Body.SellAll c2) = refl
body_same (Body.SellAll c) (Body.Exchange c2 t2 g2) = refl
body_same (Body.SellAll c) (Body.ExchangeAll c2 t2) = refl
body_same (Body.SellAll c) (Body.Letter c2 g2) = refl
body_same (Body.SellAll c) (Body.Elect c2 g2) = refl
body_same (Body.Exchange c t g) (Body.Buy c2 g2) = refl
body_same (Body.Exchange c t g) (Body.Sell c2 g2) = refl
body_same (Body.Exchange c t g) (Body.SellCash c2 g2) = refl
body_same (Body.Exchange c t g) (Body.SellAll c2) = refl
body_same (Body.Exchange c t g) (Body.Exchange c2 t2 g2) = refl
body_same (Body.Exchange c t g) (Body.ExchangeAll c2 t2) = refl
body_same (Body.Exchange c t g) (Body.Letter c2 g2) = refl
body_same (Body.Exchange c t g) (Body.Elect c2 g2) = refl
body_same (Body.ExchangeAll c t) (Body.Buy c2 g2) = refl
body_same (Body.ExchangeAll c t) (Body.Sell c2 g2) = refl
body_same (Body.ExchangeAll c t) (Body.SellCash c2 g2) = refl
body_same (Body.ExchangeAll c t) (Body.SellAll c2) = refl
body_same (Body.ExchangeAll c t) (Body.Exchange c2 t2 g2) = refl
body_same (Body.ExchangeAll c t) (Body.ExchangeAll c2 t2) = refl
body_same (Body.ExchangeAll c t) (Body.Letter c2 g2) = refl
body_same (Body.ExchangeAll c t) (Body.Elect c2 g2) = refl
body_same (Body.Letter c g) (Body.Buy c2 g2) = refl
body_same (Body.Letter c g) (Body.Sell c2 g2) = refl
body_same (Body.Letter c g) (Body.SellCash c2 g2) = refl
body_same (Body.Letter c g) (Body.SellAll c2) = refl
body_same (Body.Letter c g) (Body.Exchange c2 t2 g2) = refl
body_same (Body.Letter c g) (Body.ExchangeAll c2 t2) = refl
body_same (Body.Letter c g) (Body.Letter c2 g2) = refl
body_same (Body.Letter c g) (Body.Elect c2 g2) = refl
body_same (Body.Elect c g) (Body.Buy c2 g2) = refl
body_same (Body.Elect c g) (Body.Sell c2 g2) = refl
body_same (Body.Elect c g) (Body.SellCash c2 g2) = refl
body_same (Body.Elect c g) (Body.SellAll c2) = refl
body_same (Body.Elect c g) (Body.Exchange c2 t2 g2) = refl
body_same (Body.Elect c g) (Body.ExchangeAll c2 t2) = refl
body_same (Body.Elect c g) (Body.Letter c2 g2) = refl
body_same (Body.Elect c g) (Body.Elect c2 g2) = refl
