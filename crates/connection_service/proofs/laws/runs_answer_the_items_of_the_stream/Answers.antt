-- The proof of the law `runs_answer_the_items_of_the_stream`.
use Rattle.std.proofs.Common.{List, [], ap, length, length-append, refl, sym, ℕ, ◌+◌, ◌++◌, ◌∙◌, ◌∷◌, ◌≡◌}
use Rattle.agent_http.specs.Calls.{ends}
use Rattle.http_stream.proofs.ItemLaws.{items-then}
use Rattle.http_stream.specs.Stream.{Items, Stream, StreamItem}
use Rattle.connection_service.proofs.laws.runs_answer_the_items_of_the_stream.Goals as goal
use Rattle.connection_service.specs.Answers.{At}
use Rattle.connection_service.specs.Runs.{Run}

-- by the items before the last one
run-items : (operator : List ℕ) (stream : Stream) (opened : At) (left : Stream) (at : At) (texts : List (List ℕ))
    → Run operator stream opened left at texts → (items : List StreamItem) × Items ends stream items left × (length items ≡ length texts)
run-items operator stream opened left at texts Run.none = ([], Items.none stream, refl)
run-items operator stream opened left at texts (Run.more between after mid now before item text run is answers) =
    let (items, are, many) = run-items operator stream opened between mid before run in (
      items ++ item ∷ [],
      items-then ends stream between after items (item ∷ []) are (Items.next between item after [] after is (Items.none after)),
      length-append items (item ∷ []) ∙ ap (λ n. n + 1) many ∙ sym (length-append before (text ∷ [])),
    )

pub returns : goal.returns
returns c = run-items
