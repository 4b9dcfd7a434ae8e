-- That `look_reply` keeps its contract.
use Rattle.register_desk.proofs.LooksName.{looks_name}
use Rattle.register_desk.proofs.looks.look_reply.Goals as goal

pub reply_by_verb-requires-clause-there : goal.reply_by_verb-requires-clause-there
reply_by_verb-requires-clause-there c =
    looks_name c.args.books.now.book.journal c.requires.look.0 c.requires.look.1 c.args.request.now c.requires.look.2
