-- What the operator sees at the end of a journal: the state of an order by its trace, and the classes in the books.
use Rattle.std.specs.Option.{option_map_or}
use Rattle.std.specs.Prelude.{Bool, List, None, Option, Some, [], false}
use Rattle.agent_events.specs.declared.reply.OrderState.{OrderState}
use Rattle.agent_events.specs.declared.reply.Reply.{Reply}
use Rattle.agent_events.specs.declared.reply_lists.ClassBooks.{ClassBooks}
use Rattle.agent_events.specs.declared.request.Request.{Request}
use Rattle.agent_events.specs.declared.request.TraceForm.{TraceForm}
use Rattle.agent_events.specs.declared.verdict.Caller.{Caller}
use Rattle.register_laws.specs.Lawful.{own_at}
use Rattle.register_machine.specs.journal.Journals.{Journal, last_moment}
use Rattle.register_machine.specs.run.Answers.{answer}

-- the reply to the operator at the moment of the last event
abbrev pub look_at : Journal → Request → Reply
look_at journal request = (answer (own_at journal (last_moment journal) Caller.Operator) request).reply

-- the state that a reply shows, if it is a trace
abbrev pub state_in : Reply → Option OrderState
state_in (Reply.Trace trace) = Some trace.state
state_in _ = None

abbrev pub state_traced : Journal → TraceForm → Option OrderState
state_traced journal name = state_in (look_at journal (Request.Trace name))

-- there is a state, and it is one of these
abbrev pub is_so : (OrderState → Bool) → Option OrderState → Bool
is_so test state = option_map_or test state false

abbrev pub is_traced : (OrderState → Bool) → Journal → TraceForm → Bool
is_traced test journal name = is_so test (state_traced journal name)

-- the classes that a reply shows, if it is that of the books
abbrev pub classes_in : Reply → List ClassBooks
classes_in (Reply.Books books) = books.classes
classes_in _ = []

abbrev pub classes_shown : Journal → List ClassBooks
classes_shown journal = classes_in (look_at journal Request.Books)
