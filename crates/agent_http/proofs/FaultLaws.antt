-- The bytes of each fault, written out, are those that its status gives.
use Rattle.std.proofs.Common.{◌≡◌, true, false, refl}
use Rattle.std.specs.Fmt.{digits}
use Rattle.http_stream.specs.declared.fault.HttpFault.{HttpFault}
use Rattle.agent_http.specs.Bytes.{fault_bytes}
use Rattle.agent_http.specs.FaultTexts.{kept_text, last_text}

pub kept-is : (fault : HttpFault) → kept_text fault ≡ fault_bytes fault false
unfolding digits
kept-is HttpFault.S400 = refl
kept-is HttpFault.S404 = refl
kept-is HttpFault.S405 = refl
kept-is HttpFault.S411 = refl
kept-is HttpFault.S413 = refl
kept-is HttpFault.S431 = refl
kept-is HttpFault.S500 = refl
kept-is HttpFault.S501 = refl
kept-is HttpFault.S503 = refl
kept-is HttpFault.S507 = refl

pub last-is : (fault : HttpFault) → last_text fault ≡ fault_bytes fault true
unfolding digits
last-is HttpFault.S400 = refl
last-is HttpFault.S404 = refl
last-is HttpFault.S405 = refl
last-is HttpFault.S411 = refl
last-is HttpFault.S413 = refl
last-is HttpFault.S431 = refl
last-is HttpFault.S500 = refl
last-is HttpFault.S501 = refl
last-is HttpFault.S503 = refl
last-is HttpFault.S507 = refl
