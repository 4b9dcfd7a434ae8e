-- That `Identities::take` keeps its contract.
use Rattle.std.proofs.Common.{sym}
use Rattle.order_book.proofs.TakenIn.{taken-in}
use Rattle.order_book.specs.Indexes.{place_of}
use Rattle.order_book.proofs.identities.Identities.take.Goals as goal
use Rattle.register_machine.proofs.FoundFacts.{option_or-none}

pub returns-in-Some-clause-kept : goal.returns-in-Some-clause-kept
returns-in-Some-clause-kept c = λ journal moment at kept. record {
  places = taken-in (place_of c.args.self.now) (place_of c.put.new.self) (place_of c.put-in-Some.new.self)
      journal (record { moment = moment; kind = c.args.kind.now }) c.identity_in.result c.reference_entered.result c.args.place
      at c.identity_in.ensures c.reference_entered.ensures kept.places c.put.ensures.places
      (rw c.in-Some.is c.put-in-Some.ensures.places);
}

pub returns-in_default-clause-kept : goal.returns-in_default-clause-kept
returns-in_default-clause-kept c = λ journal moment at kept. record {
  places = taken-in (place_of c.args.self.now) (place_of c.put.new.self) (place_of c.put.new.self)
      journal (record { moment = moment; kind = c.args.kind.now }) c.identity_in.result c.reference_entered.result c.args.place
      at c.identity_in.ensures c.reference_entered.ensures kept.places c.put.ensures.places
      (λ q. rw c.in_default.is (sym (option_or-none (place_of c.put.new.self q))));
}
