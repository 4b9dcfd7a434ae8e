-- The bytes of a reply (RFC 9112): a status line, three fields at most, an empty line and the body.
use Rattle.std.specs.Prelude.{ℕ, Bool, List, [], ◌∷◌, ◌++◌, length, if◌then◌else◌, codes, decimal, Option, Some, None, unwrap_or}
use Rattle.http.specs.StatusCode.{reason_phrase}
use Rattle.agent_events.specs.declared.reply.Refusal.{Refusal}
use Rattle.agent_events.specs.declared.reply.Reply.{Reply}
use Rattle.http_stream.specs.declared.fault.HttpFault.{HttpFault}
use Rattle.agent_http.specs.ReplyBodies.{json_body, plain_text}

-- what a refusal is answered with: no right, no form, nothing there, a conflict with what is there, or a rule that is broken
abbrev pub refusal_status : Refusal → ℕ
refusal_status Refusal.NoRight = 403
refusal_status (Refusal.BadForm place) = 400
refusal_status (Refusal.NoSuch place) = 404
refusal_status Refusal.RefUsed = 409
refusal_status Refusal.CalendarEnded = 422
refusal_status (Refusal.BelowMinimum minimum) = 422
refusal_status Refusal.NotOffered = 422
refusal_status (Refusal.LateForDealer due) = 422
refusal_status (Refusal.ReceiptAhead now) = 422
refusal_status (Refusal.CancelLate due) = 409
refusal_status Refusal.NotPending = 409
refusal_status (Refusal.SheetOutOfTurn moment calendar) = 409
refusal_status (Refusal.SheetIncomplete class) = 422
refusal_status (Refusal.Stands number) = 409
refusal_status (Refusal.Breaks account ref_no) = 409
refusal_status (Refusal.OrdersFull limit) = 422
refusal_status (Refusal.TooMany limit) = 422
refusal_status (Refusal.TooSoon moment) = 409
refusal_status Refusal.JournalFull = 409
refusal_status (Refusal.StampBack last) = 409

abbrev pub status_of : Reply → ℕ
status_of (Reply.Refused refusal) = refusal_status refusal
status_of reply = 200

-- the end of a line; 13 and 10 are a carriage return and a line feed
abbrev pub crlf : List ℕ
crlf = 13 ∷ 10 ∷ []

abbrev pub phrase_of : ℕ → List ℕ
phrase_of status = unwrap_or (reason_phrase status) []

abbrev pub status_line : ℕ → List ℕ
status_line status = codes "HTTP/1.1 " ++ decimal status ++ 32 ∷ phrase_of status ++ crlf

abbrev pub field_line : List ℕ → List ℕ → List ℕ
field_line name value = name ++ 58 ∷ 32 ∷ value ++ crlf

-- the last reply of a connection says so
abbrev pub close_line : Bool → List ℕ
close_line last = if last then field_line (codes "Connection") (codes "close") else []

-- the reply with this status, type and body; its `Content-Length` is the length of its body
abbrev pub reply_of : ℕ → List ℕ → Bool → List ℕ → List ℕ
reply_of status kind last body =
    status_line status ++ field_line (codes "Content-Type") kind
    ++ field_line (codes "Content-Length") (decimal (length body)) ++ close_line last ++ crlf ++ body

abbrev pub json_kind : List ℕ
json_kind = codes "application/json"

abbrev pub plain_kind : List ℕ
plain_kind = codes "text/plain"

abbrev pub batch_kind : List ℕ
batch_kind = codes "text/csv"

abbrev pub typed_bytes : ℕ → Bool → List ℕ → Option (List ℕ) → List ℕ
typed_bytes status last body None = reply_of status json_kind last body
typed_bytes status last body (Some text) = reply_of status plain_kind last text

-- the bytes of a reply
abbrev pub bytes_of : Reply → Bool → List ℕ
bytes_of reply last = typed_bytes (status_of reply) last (json_body reply) (plain_text reply)

-- the bytes of a batch's reply, whose body are the lines of its lines
abbrev pub batch_bytes : List ℕ → Bool → List ℕ
batch_bytes lines last = reply_of 200 batch_kind last lines

abbrev pub fault_status : HttpFault → ℕ
fault_status HttpFault.S400 = 400
fault_status HttpFault.S404 = 404
fault_status HttpFault.S405 = 405
fault_status HttpFault.S411 = 411
fault_status HttpFault.S413 = 413
fault_status HttpFault.S431 = 431
fault_status HttpFault.S500 = 500
fault_status HttpFault.S501 = 501
fault_status HttpFault.S503 = 503
fault_status HttpFault.S507 = 507

-- the fixed bytes of a fault
abbrev pub fault_body : ℕ → List ℕ
fault_body status = codes "{\"code\":\"" ++ decimal status ++ codes "\",\"reply\":\"fault\"}"

abbrev pub fault_bytes : HttpFault → Bool → List ℕ
fault_bytes fault last = reply_of (fault_status fault) json_kind last (fault_body (fault_status fault))
