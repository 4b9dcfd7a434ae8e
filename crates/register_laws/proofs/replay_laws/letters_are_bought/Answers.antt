-- The proof of the law `letters_are_bought`.
use Rattle.std.proofs.Common.{[], length, subst, take, ℕ}
use Rattle.std.proofs.lemmas.List.Elements.{All-nil}
use Rattle.register_laws.proofs.RegistersKept.{at-last}
use Rattle.register_laws.proofs.ReplayTurns.{AnyKey, AnyRow, any-all, first-sheets, over-kept}
use Rattle.register_laws.specs.LettersBought.{IsBoughtIn, LettersAreBought}
use Rattle.register_machine.specs.replay.Replay.{orders_on, priced_orders}
use Rattle.register_laws.proofs.LettersBought.{turns-bought}
use Rattle.register_laws.proofs.replay_laws.letters_are_bought.Goals as goal

pub returns : goal.returns
returns c book =
    let kept = λ (number : ℕ). over-kept book AnyRow AnyKey (λ done day. LettersAreBought day) (turns-bought book)
    (λ sheet. any-all (orders_on (priced_orders book) sheet)) (All-nil (IsBoughtIn [])) (take number book.table.sheets) (first-sheets book number) in
    record {
      up_to = kept;
      at_last = subst LettersAreBought (at-last book) (kept (length book.table.sheets));
    }
