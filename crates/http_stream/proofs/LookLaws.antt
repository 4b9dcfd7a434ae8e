-- A head that stands at the front waits for its body.
use Rattle.std.proofs.Common.{◌≡◌, ℕ, ◌+◌, false, cond, leb, List, length, None, Some, sym, ap, ◌∙◌}
use Rattle.std.specs.Option.{unwrap_or}
use Rattle.httparse.specs.Grammar.{RequestHead}
use Rattle.http_stream.specs.declared.head.HeadAt.{HeadAt}
use Rattle.http_stream.specs.Stream.{IsHeadAt, Shown, StreamItem, behind, body_at, found_of, message_of, size_of}

pub not-whole : (head : RequestHead) (at : HeadAt) (rest : List ℕ) → IsHeadAt rest head at → leb (at.size + unwrap_or at.length 0) (length rest) ≡ false
    → found_of rest (Shown.Head head) ≡ None
not-whole head at rest is few =
    let test : leb (size_of head at.length) (length rest) ≡ false = ap (λ n. leb (n + unwrap_or at.length 0) (length rest)) (sym is.size) ∙ few in
    ap (λ said. behind head said rest) is.length
    ∙ ap (λ b. cond b (Some (StreamItem.Whole (message_of head at.length (body_at head at.length rest)), size_of head at.length)) None) test
