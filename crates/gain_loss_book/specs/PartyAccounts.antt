-- The cash of the parties as rows of flows.
use Rattle.std.specs.Prelude.{ℕ, min}
use Rattle.agent_events.specs.declared.order.Party.{Party}
use Rattle.gain_loss_book.specs.Flows.{flow_at, whole_flow, with_flow}
use Rattle.gain_loss_book.specs.declared.flows.Flow.{Flow}
use Rattle.gain_loss_book.specs.declared.party_accounts.Accounts.{Accounts}

-- what a party received and paid
abbrev pub flow_in : Accounts → Party → Flow
flow_in accounts (Party.Holder account) = flow_at accounts.holders.rows account
flow_in accounts (Party.Class class) = flow_at accounts.classes.rows class
flow_in accounts (Party.Dealer dealer) = flow_at accounts.dealers.rows dealer
flow_in accounts Party.Underwriter = accounts.underwriter
flow_in accounts Party.Agent = accounts.agent

-- what all parties together did
abbrev pub all_flows : Accounts → Flow
all_flows accounts =
    with_flow (whole_flow accounts.holders.rows)
    (with_flow (whole_flow accounts.classes.rows)
    (with_flow (whole_flow accounts.dealers.rows) (with_flow accounts.underwriter accounts.agent)))

-- how many more rows of any one kind of party there is room for
abbrev pub room_in : Accounts → ℕ
room_in accounts = min accounts.holders.room (min accounts.classes.room accounts.dealers.room)
