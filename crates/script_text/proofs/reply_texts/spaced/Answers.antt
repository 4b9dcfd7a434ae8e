-- That `spaced` keeps its contract.
use Rattle.std.proofs.Common.{ap, arith}
use Rattle.script_text.proofs.ItemLists.{joined-first, joined-next}
use Rattle.script_text.proofs.reply_texts.spaced.Goals.{then-i-gt0+in_ok-push, else-i-gt0}
use Rattle.script_text.proofs.reply_texts.spaced.Goals as goal

pub loop-i-preserved : goal.loop-i-preserved
loop-i-preserved c =
    let pushed = c.in_ok-extend_from_slice.ensures in
    let so_far = c.loop-i.invariant in
    let x = c.index-texts-i.result in
    let item = c.as_slice.ensures in
    elim c.if-i-gt0.branch [
      | then-i-gt0+in_ok-push w ↦
          let space = w.in_ok-push.ensures.items in
          let front = ap (λ v. v.items) w.text-is in
          let next = joined-next 32 c.as_slice-texts.result.now c.loop-i.i x w.if-i-gt0.true c.loop-i-test.true c.index-texts-i.is in cc
      | else-i-gt0 w ↦
          let front = ap (λ v. v.items) w.text-is in
          let first = joined-first 32 c.as_slice-texts.result.now c.loop-i.i x (omega arith) c.loop-i-test.true c.index-texts-i.is in cc
    ]
