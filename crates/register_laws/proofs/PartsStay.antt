-- The parts of the households with one event more.
use Rattle.std.proofs.Common.{Bool, List, ap, filter, option_map, option_to_list, true, ℕ, ◌==◌, ◌∙◌, ◌≡◌}
use Rattle.std.proofs.lemmas.List.Elements.{All-weaker}
use Rattle.std.specs.Option.{option_map_or}
use Rattle.std.specs.Prelude.{false, find}
use Rattle.agent_events.specs.Events.{Event}
use Rattle.agent_events.specs.declared.order.OrderRow.{OrderRow}
use Rattle.agent_events.specs.declared.request.AccountForm.{AccountForm}
use Rattle.agent_events.specs.declared.trade.Trade.{Trade}
use Rattle.register_laws.proofs.EventReplays.{known-rows, known_in, leaves_replay, named_in}
use Rattle.register_laws.proofs.OneOfAName.{found-before}
use Rattle.register_laws.specs.PartsStay.{LawfulPartsStay, SameParts}
use Rattle.register_laws.specs.ReadsAlike.{IsKnownRow}
use Rattle.forward_price.specs.declared.price_sheet.Sheet.{Sheet}
use Rattle.register_laws.proofs.KnownAccounts.{IsKnownDay, known-replay}
use Rattle.register_laws.proofs.ListParts.{filter-known}
use Rattle.register_laws.proofs.NothingBefore.{last-brought}
use Rattle.register_laws.proofs.OneEventMore.{gathers-on}
use Rattle.register_laws.specs.Households.{is_of_household, part_of}
use Rattle.register_laws.specs.Identities.{has_number}
use Rattle.register_laws.specs.Lawful.{book_behind}
use Rattle.register_machine.specs.journal.Journals.{Journal, with_event}
use Rattle.register_machine.specs.journal.Kinds.{account_in, accounts_of}
use Rattle.register_machine.specs.journal.Lawful.{IsLawful}
use Rattle.register_machine.specs.pricing.CorrectedOrders.{stands}
use Rattle.register_machine.specs.replay.Positions.{Position}
use Rattle.register_machine.specs.replay.Replay.{replay, replay_over}
use Rattle.register_machine.specs.replay.Trades.{Day}

module _ (journal : Journal) (event : Event) (household : ℕ) where
  mine : ℕ → Bool
  mine number = is_of_household (accounts_of (with_event journal event)) household number

  owned-same : (number : ℕ) → known_in journal number ≡ true → mine number ≡ is_of_household (accounts_of journal) household number
  unfolding mine
  owned-same number on =
      ap (λ found. option_map_or (λ owner. owner == household) (option_map (λ (form : AccountForm). form.household) found) false)
      (ap (find (has_number number)) (gathers-on account_in journal event) ∙ found-before (has_number number) (accounts_of journal) (option_to_list (account_in event.kind)) on)

  pub part-same : (day : Day) → IsKnownDay (known_in journal) day → part_of (accounts_of (with_event journal event)) household day ≡ part_of (accounts_of journal) household day
  unfolding mine
  part-same day is =
      ap (λ register. record { register = register; trades = filter (λ (t : Trade). mine t.account) day.trades })
      (filter-known (λ (p : Position). mine p.account) (λ (p : Position). is_of_household (accounts_of journal) household p.account) day.register
      (All-weaker (λ (p : Position). known_in journal p.account ≡ true) (λ (p : Position). mine p.account ≡ is_of_household (accounts_of journal) household p.account) (λ p on. owned-same p.account on) day.register is.positions))
      ∙ ap (λ trades. record { register = filter (λ (p : Position). is_of_household (accounts_of journal) household p.account) day.register; trades = trades })
      (filter-known (λ (t : Trade). mine t.account) (λ (t : Trade). is_of_household (accounts_of journal) household t.account) day.trades
      (All-weaker (λ (t : Trade). known_in journal t.account ≡ true) (λ (t : Trade). mine t.account ≡ is_of_household (accounts_of journal) household t.account) (λ t on. owned-same t.account on) day.trades is.trades))

pub known-day : (journal : Journal) → IsLawful journal → (sheets : List Sheet) → IsKnownDay (known_in journal) (replay_over (book_behind journal) sheets)
known-day journal lawful sheets =
    known-replay (book_behind journal) (known_in journal)
    (All-weaker (IsKnownRow (known_in journal) (named_in journal)) (λ (row : OrderRow). known_in journal row.order.account ≡ true) (λ row is. is.account)
    (filter stands (book_behind journal).orders) (known-rows journal lawful))
    sheets

pub same_parts : (journal : Journal) (event : Event) → IsLawful journal → (sheets : List Sheet) → SameParts journal event (replay_over (book_behind journal) sheets)
same_parts journal event lawful sheets household = part-same journal event household (replay_over (book_behind journal) sheets) (known-day journal lawful sheets)

pub parts_stay : (journal : Journal) (event : Event) → LawfulPartsStay journal event
unfolding replay
parts_stay journal event lawful plain other household =
    ap (part_of (accounts_of (with_event journal event)) household) (leaves_replay journal event lawful plain other).1
    ∙ same_parts journal event (last-brought journal event lawful).0 (book_behind journal).table.sheets household
