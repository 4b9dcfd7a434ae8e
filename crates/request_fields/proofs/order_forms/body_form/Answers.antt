-- That `body_form` keeps its contract.
use Rattle.std.proofs.Common.{sym}
use Rattle.request_fields.proofs.order_forms.body_form.Goals as goal

pub returns-then-same_bytes-2 : goal.returns-then-same_bytes-2
returns-then-same_bytes-2 c =
    rw (sym c.if-same_bytes.ensures, sym c.if-same_bytes-2.ensures) (rw c.field-text.ensures at c.sell_body.ensures)

pub returns-then-same_bytes-3 : goal.returns-then-same_bytes-3
returns-then-same_bytes-3 c =
    rw (sym c.if-same_bytes.ensures, sym c.if-same_bytes-2.ensures, sym c.if-same_bytes-3.ensures) (rw c.field-text.ensures at c.sell_cash_body.ensures)

pub returns-then-same_bytes-7 : goal.returns-then-same_bytes-7
returns-then-same_bytes-7 c =
    rw (
      sym c.if-same_bytes.ensures,
      sym c.if-same_bytes-2.ensures,
      sym c.if-same_bytes-3.ensures,
      sym c.if-same_bytes-4.ensures,
      sym c.if-same_bytes-5.ensures,
      sym c.if-same_bytes-6.ensures,
      sym c.if-same_bytes-7.ensures,
    ) (rw c.field-text.ensures at c.letter_body.ensures)
