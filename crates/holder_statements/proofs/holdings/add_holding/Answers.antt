-- That `add_holding` keeps its contract.
use Rattle.std.proofs.Common.{List, [], ap, codes, ℕ, ◌++◌, ◌∙◌, ◌∷◌}
use Rattle.money_units.specs.Texts.{number_text}
use Rattle.holder_statements.specs.Holdings.{lot_words, worth_words}
use Rattle.holder_statements.specs.Words.{with_words}
use Rattle.holder_statements.proofs.WordLines.{line_of}
use Rattle.holder_statements.proofs.holdings.add_holding.Goals as goal

pub returns : goal.returns
returns c =
    let terms = c.args.terms.now in
    let holding = c.args.position.now in
    let name_words : List (List ℕ) = number_text terms.class ∷ terms.name ∷ [] in
    let worth = worth_words c.args.nav holding in
    let named = c.in_ok-add_name.ensures ∙ ap (λ (t : List ℕ). with_words t name_words) c.in_ok-extend_from_slice.ensures.items in
    let counted = c.in_ok-add_lot_words.ensures ∙ ap (λ (t : List ℕ). with_words t (lot_words holding)) named in
    let valued = c.in_ok-add_worth.ensures ∙ ap (λ (t : List ℕ). with_words t worth) counted in
    c.in_ok-end_line.ensures
    ∙ (ap (λ (t : List ℕ). t ++ 10 ∷ []) valued
    ∙ line_of c.args.out.now.items (codes "class") (name_words ++ lot_words holding ++ worth))
