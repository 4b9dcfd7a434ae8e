-- That `PriceBook::test` keeps its contract.
use Rattle.std.proofs.Common.{◌≡◌, sym, ◌∙◌, ap}
use Rattle.forward_price.specs.Turns.{wrong_class, fault_of}
use Rattle.forward_price.proofs.price_book.PriceBook.test.Goals as goal

pub returns-in-Some-clause-refused : goal.returns-in-Some-clause-refused
returns-in-Some-clause-refused c =
    let t = c.args.self.now.table in
    let classes : c.deref.result.now ≡ t.classes = c.deref.ensures.value ∙ ap (λ b. b.table.classes) c.self.view_is in
    let wrong : c.wrong_class-wrong.result ≡ wrong_class t.classes c.args.calendar c.args.moment c.args.prices.now =
    c.wrong_class-wrong.ensures
    ∙ ap (λ classes. wrong_class classes c.args.calendar c.args.moment c.args.prices.now) classes in
    let fault : c.fault_of.result ≡ fault_of c.expected-expected.result c.wrong_class-wrong.result c.args.calendar c.args.moment c.args.now =
    c.fault_of.ensures
    in
    ap (λ e. fault_of e (wrong_class t.classes c.args.calendar c.args.moment c.args.prices.now) c.args.calendar c.args.moment c.args.now) (sym c.expected-expected.ensures.computed)
    ∙ ap (λ w. fault_of c.expected-expected.result w c.args.calendar c.args.moment c.args.now) (sym wrong)
    ∙ sym fault
    ∙ c.in-Some.is
