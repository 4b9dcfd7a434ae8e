-- What a step of the feed says, by what it is.
use Rattle.std.proofs.Common.{List, Option, ap, false, subst, sym, ◌∙◌, ◌≡◌}
use Rattle.std.specs.Prelude.{Bool, ℕ}
use Rattle.agent_edge.specs.Links.{Links}
use Rattle.agent_http.specs.Steps.{StepsAs}
use Rattle.agent_http.specs.declared.feed.Call.{Call}
use Rattle.agent_http.specs.declared.feed.Step.{Step}
use Rattle.agent_http.specs.Bytes.{fault_bytes}
use Rattle.http_stream.specs.Stream.{Stream, Undecided}
use Rattle.http_stream.specs.declared.fault.HttpFault.{HttpFault}
use Rattle.connection_service.proofs.ServingFacts.{fewer-call, fewer-fault, goes-call, goes-fault}
use Rattle.connection_service.specs.Answers.{At}
use Rattle.connection_service.specs.Serving.{FewerAhead, GoesAs, GoesOnBehind, IsReplied, IsServing, IsWithin}
use Rattle.connection_service.specs.declared.serving.Going.{Going}

-- nothing further is decided: the stream is as it was
pub step-need : (stream after : Stream) (step : Step) → step ≡ Step.Need → StepsAs stream step after → Undecided stream × (after ≡ stream)
step-need stream after step is steps = subst (λ (known : Step). StepsAs stream known after) is steps

pub need-serving : (operator : List ℕ) (opened : At) (before now : Option Links) (stream after : Stream) (at : At) (step : Step) → step ≡ Step.Need → StepsAs stream step after
    → IsServing operator opened before now stream at → IsServing operator opened before now after at
need-serving operator opened before now stream after at step is steps serving =
    subst (λ (left : Stream). IsServing operator opened before now left at) (sym (step-need stream after step is steps).1) serving

pub need-open : (stream after : Stream) (step : Step) → step ≡ Step.Need → StepsAs stream step after → stream.closed ≡ false → after.closed ≡ false
need-open stream after step is steps unclosed = ap (λ (s : Stream). s.closed) (step-need stream after step is steps).1 ∙ unclosed

pub need-undecided : (stream after : Stream) (step : Step) → step ≡ Step.Need → StepsAs stream step after → Undecided after
need-undecided stream after step is steps = let (undecided, same) = step-need stream after step is steps in subst Undecided (sym same) undecided

pub need-within : (stream after : Stream) (step : Step) → step ≡ Step.Need → StepsAs stream step after → IsWithin stream → IsWithin after
need-within stream after step is steps within = subst IsWithin (sym (step-need stream after step is steps).1) within

pub need-fewer : (stream after now : Stream) (step : Step) (going : Going) → step ≡ Step.Need → StepsAs stream step after → FewerAhead going after now → FewerAhead going stream now
need-fewer stream after now step going is steps fewer = subst (λ (s : Stream). FewerAhead going s now) (step-need stream after step is steps).1 fewer

-- a call
pub step-goes-call : (operator : List ℕ) (opened : At) (before mid now : Option Links) (stream after : Stream) (at new : At) (step : Step) (call : Call) (going : Going)
    → step ≡ Step.Call call → StepsAs stream step after → IsServing operator opened before mid stream at
    → IsReplied operator call.key call.last call.ask at new mid now going → GoesAs operator opened before now after new going
step-goes-call operator opened before mid now stream after at new step call going is steps serving replied =
    let (item, one, asks, key, last) = subst (λ (known : Step). StepsAs stream known after) is steps in
    goes-call operator opened before mid now stream after at new item call.key call.last call.ask going serving one asks key last replied

pub step-fewer-call : (operator : List ℕ) (mid now : Option Links) (stream after : Stream) (at new : At) (step : Step) (call : Call) (going : Going)
    → step ≡ Step.Call call → StepsAs stream step after → IsReplied operator call.key call.last call.ask at new mid now going
    → IsWithin stream → stream.closed ≡ false → FewerAhead going stream after
step-fewer-call operator mid now stream after at new step call going is steps replied within unclosed =
    let (item, one, asks, key, last) = subst (λ (known : Step). StepsAs stream known after) is steps in
    fewer-call operator call.key call.last call.ask at new mid now going stream item after replied one within unclosed

-- a fault
pub step-goes-fault : (operator : List ℕ) (opened : At) (before mid now : Option Links) (stream after : Stream) (at : At) (step : Step) (fault : HttpFault) (ends_it : Bool) (going : Going)
    → step ≡ Step.Fault fault ends_it → StepsAs stream step after → IsServing operator opened before mid stream at
    → GoesOnBehind (fault_bytes fault ends_it) mid now going → GoesAs operator opened before now after at going
step-goes-fault operator opened before mid now stream after at step fault ends_it going is steps serving replied =
    let (item, one, asks, last) = subst (λ (known : Step). StepsAs stream known after) is steps in
    goes-fault operator opened before mid now stream after at item fault ends_it going serving one asks last replied

pub step-fewer-fault : (mid now : Option Links) (stream after : Stream) (step : Step) (fault : HttpFault) (ends_it : Bool) (going : Going)
    → step ≡ Step.Fault fault ends_it → StepsAs stream step after → GoesOnBehind (fault_bytes fault ends_it) mid now going
    → IsWithin stream → stream.closed ≡ false → FewerAhead going stream after
step-fewer-fault mid now stream after step fault ends_it going is steps replied within unclosed =
    let (item, one, asks, last) = subst (λ (known : Step). StepsAs stream known after) is steps in
    fewer-fault (fault_bytes fault ends_it) mid now going stream item after replied one within unclosed
