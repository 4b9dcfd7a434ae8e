-- The proof of the law `answers_503_and_507_keep_nothing`.
use Rattle.connection_service.proofs.UnkeptTexts.{by-unkept}
use Rattle.connection_service.proofs.laws.answers_503_and_507_keep_nothing.Goals as goal
use Rattle.agent_http.specs.Calls.{item_answer, item_key}

pub returns : goal.returns
returns c operator item last old bytes new answers unkept =
    by-unkept operator (item_key item) last (item_answer item) old bytes new answers unkept
