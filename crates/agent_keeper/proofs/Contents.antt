-- Contents with the same rows and the same checkpoint rows are one.
use Rattle.std.proofs.Common.{◌≡◌, ℕ, List, [], Option, None, cond, refl, ap, ◌∙◌}
use Rattle.std.proofs.lemmas.List.{append-nil}
use Rattle.agent_keeper.specs.declared.batch.Batch.{Batch}
use Rattle.agent_keeper.specs.declared.batch.CheckName.{CheckName}
use Rattle.agent_keeper.specs.declared.batch.CheckPut.{CheckPut}
use Rattle.agent_keeper.specs.Content.{Content, after, after_puts, is_removed}

pub same_content : (a b : Content) → a.rows ≡ b.rows → ((household sheet : ℕ) → a.checks household sheet ≡ b.checks household sheet) → a ≡ b
same_content a b rows checks = λ i. record { rows = rows i; checks = λ household sheet. checks household sheet i }

-- a batch of nothing changes nothing
pub after_nothing : (batch : Batch) (kept : Content) → batch.rows ≡ [] → batch.puts ≡ [] → batch.removes ≡ [] → after batch kept ≡ kept
after_nothing batch kept rows puts removes = same_content _ _ (rw rows (append-nil kept.rows)) (λ household sheet. rw (removes, puts) refl)

-- what stands at a household and a sheet after a batch whose puts and removals were made in turn
pub check_after : (removes made_removes : List CheckName) (puts made_puts : List CheckPut) (before reserved put there : Option (List ℕ)) (household sheet : ℕ)
    → made_removes ≡ removes → made_puts ≡ puts → reserved ≡ before → put ≡ after_puts made_puts reserved household sheet
    → there ≡ cond (is_removed made_removes household sheet) None put
    → there ≡ cond (is_removed removes household sheet) None (after_puts puts before household sheet)
check_after removes made_removes puts made_puts before reserved put there household sheet same_removes same_puts same_before put_is there_is =
    there_is ∙ ap (λ names. cond (is_removed names household sheet) None put) same_removes
    ∙ ap (cond (is_removed removes household sheet) None) (put_is ∙ ap (λ rows. after_puts rows reserved household sheet) same_puts ∙ ap (λ was. after_puts puts was household sheet) same_before)
