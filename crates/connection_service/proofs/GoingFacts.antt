-- What a step says, by whether it goes on.
use Rattle.std.proofs.Common.{List, Option, subst, ℕ, ◌<◌, ◌≡◌}
use Rattle.agent_edge.specs.Links.{Links}
use Rattle.connection_service.specs.Answers.{At}
use Rattle.connection_service.specs.Serving.{CountsGoing, CountsLink, FewerAhead, GoesAs, IsServed, IsServing, IsWithin, ahead}
use Rattle.connection_service.specs.declared.serving.Going.{Going}
use Rattle.connection_service.specs.declared.serving.Served.{Served}
use Rattle.http_stream.specs.Stream.{Stream}

pub on-goes : (operator : List ℕ) (opened : At) (before now : Option Links) (left : Stream) (at : At) (going : Going) → going ≡ Going.On
    → GoesAs operator opened before now left at going → IsServing operator opened before now left at
on-goes operator opened before now left at going is goes = subst (λ (g : Going). GoesAs operator opened before now left at g) is goes

pub over-goes : (operator : List ℕ) (opened : At) (before now : Option Links) (left : Stream) (at : At) (going : Going) (served : Served) → going ≡ Going.Over served
    → GoesAs operator opened before now left at going → IsServed operator opened before served now at
over-goes operator opened before now left at going served is goes = subst (λ (g : Going). GoesAs operator opened before now left at g) is goes

pub on-counts : (going : Going) (before now : ℕ) → going ≡ Going.On → CountsGoing going before now → now ≡ before
on-counts going before now is counts = subst (λ (g : Going). CountsGoing g before now) is counts

pub over-counts : (going : Going) (served : Served) (before now : ℕ) → going ≡ Going.Over served → CountsGoing going before now → CountsLink served before now
over-counts going served before now is counts = subst (λ (g : Going). CountsGoing g before now) is counts

pub on-fewer : (going : Going) (old new : Stream) → going ≡ Going.On → FewerAhead going old new → IsWithin new × (ahead new < ahead old)
on-fewer going old new is fewer = subst (λ (g : Going). FewerAhead g old new) is fewer

pub counts-from : (served : Served) (first mid now : ℕ) → mid ≡ first → CountsLink served mid now → CountsLink served first now
counts-from served first mid now same counts = subst (λ (n : ℕ). CountsLink served n now) same counts
