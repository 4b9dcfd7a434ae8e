-- What the lines show at the front of a stream stays shown however the stream goes on.
use Rattle.std.proofs.Common.{◌≡◌, ◌≤◌, ◌<◌, ℕ, ◌+◌, ◌-◌, Bool, true, false, cond, ltb, List, length, take, drop, refl, sym, ap, ◌∙◌, arith}
use Rattle.std.specs.List.{fold}
use Rattle.std.proofs.lemmas.List.{take-append-drop, take-take, take_all}
use Rattle.std.proofs.lemmas.List.Sums.{fold-append}
use Rattle.std.proofs.lemmas.Bool.Decides.{nat_tests}
use Rattle.http_stream.specs.declared.fault.HttpFault.{HttpFault}
use Rattle.http_stream.specs.declared.intake.Seen.{Seen}
use Rattle.http_stream.specs.declared.scan.Scan.{Scan}
use Rattle.http_stream.specs.Kept.{IsFrontScan, IsScanned, SeenAs}
use Rattle.http_stream.specs.Lines.{Front, field_limit, front, head_limit, scan_of, scan_of_nothing, with_byte}
use Rattle.http_stream.specs.Stream.{Shown}

-- the scan of a front is the scan of its first bytes and what comes behind them
pub front_scan-is : (rest : List ℕ) (scan : Scan) → IsScanned rest scan
    → fold with_byte scan (drop scan.size (take head_limit rest)) ≡ scan_of (take head_limit rest)
front_scan-is rest scan is =
    let first : take scan.size (take head_limit rest) ≡ take scan.size rest = take-take scan.size head_limit rest is.few in
    let start : scan ≡ scan_of (take scan.size (take head_limit rest)) = rw first is.is in
    ap (λ s. fold with_byte s (drop scan.size (take head_limit rest))) start
    ∙ sym (fold-append with_byte scan_of_nothing (take scan.size (take head_limit rest)) (drop scan.size (take head_limit rest)))
    ∙ ap scan_of (take-append-drop scan.size (take head_limit rest))

-- no head's text ended among few bytes, or among as many as a head may have
seen-open-by : (rest : List ℕ) (scan : Scan) (few : Bool) → ltb (length rest) head_limit ≡ few → IsFrontScan rest scan → scan.ended ≡ false
    → SeenAs rest (cond few (Seen.Open scan) (Seen.Closing HttpFault.S431))
seen-open-by rest scan true e is unended =
    let below : length rest < head_limit = grind (arith, nat_tests) in
    let whole : scan.size ≡ length rest = is.all unended ∙ (omega arith) in
    let all : take head_limit rest ≡ rest = take_all head_limit rest (omega arith) in
    let same : take scan.size rest ≡ rest = take_all scan.size rest (omega arith) in (
      record {
        is = rw same (is.is ∙ ap scan_of all);
        unended = unended;
        within = is.within;
        few = is.few;
        lines = is.lines;
      },
      rw (← is.is) (rw (unended, e) refl),
    )
seen-open-by rest scan false e is unended = (Shown.TooLarge, rw (← is.is) (rw (unended, e) refl), refl)

pub seen-open : (rest : List ℕ) (scan : Scan) → IsFrontScan rest scan → scan.ended ≡ false
    → SeenAs rest (cond (ltb (length rest) head_limit) (Seen.Open scan) (Seen.Closing HttpFault.S431))
seen-open rest scan is unended = seen-open-by rest scan (ltb (length rest) head_limit) refl is unended

-- a head's text with too many lines
pub front-full : (rest : List ℕ) (scan : Scan) → IsFrontScan rest scan → scan.ended ≡ true → field_limit + 1 < scan.filled → front rest ≡ Front.Full
front-full rest scan is e many =
    let test : ltb (field_limit + 1) scan.filled ≡ true = grind (arith, nat_tests) in
    rw (← is.is) (rw (e, test) refl)

pub front-ended : (rest : List ℕ) (scan : Scan) → IsFrontScan rest scan → scan.ended ≡ true → scan.filled ≤ field_limit + 1 → front rest ≡ Front.Ended scan.size
front-ended rest scan is e few =
    let test : ltb (field_limit + 1) scan.filled ≡ false = grind (arith, nat_tests) in
    rw (← is.is) (rw (e, test) refl)
