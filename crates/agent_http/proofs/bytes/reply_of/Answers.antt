-- That `reply_of` keeps its contract.
use Rattle.std.proofs.Common.{◌∙◌, codes, length}
use Rattle.std.specs.Prelude.{decimal}
use Rattle.agent_http.specs.Bytes.{close_line, crlf, field_line, status_line}
use Rattle.agent_http.proofs.BuiltLaws.{built}
use Rattle.agent_http.proofs.bytes.reply_of.Goals as goal

pub returns : goal.returns
returns c =
    built c.in_ok-bytes.bytes.items c.push_status.new.bytes.items c.push_field.new.bytes.items c.push_field-2.new.bytes.items c.push_close.new.bytes.items
    c.extend_from_slice.new.self.items c.extend_from_slice-2.new.self.items (status_line c.args.status) (field_line (codes "Content-Type") c.args.kind.now)
    (field_line (codes "Content-Length")) c.as_bytes.result.now (decimal (length c.args.body.now)) (close_line c.args.last) crlf c.args.body.now
    c.in_ok-bytes.ensures.items c.in_ok-push_status.ensures c.in_ok-push_field.ensures (c.as_bytes.ensures.value ∙ c.in_ok-size.ensures.ok)
    c.in_ok-push_field-2.ensures c.in_ok-push_close.ensures c.in_ok-extend_from_slice.ensures.items c.in_ok-extend_from_slice-2.ensures.items
