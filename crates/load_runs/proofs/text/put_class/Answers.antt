-- That `put_class` keeps its contract.
use Rattle.load_runs.proofs.LinesPut.{class_line_more}
use Rattle.load_runs.proofs.text.put_class.Goals as goal

pub returns : goal.returns
returns c =
    class_line_more c.args.text.now.items c.put_class_number.new.text.items c.put_class_shares.new.text.items c.put_class_cash.new.text.items c.push.new.self.items c.args.books.now
    c.in_ok-put_class_number.ensures c.in_ok-put_class_shares.ensures c.in_ok-put_class_cash.ensures c.in_ok-push.ensures.items
