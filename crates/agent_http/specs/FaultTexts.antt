-- The bytes of each fault, written out: once where the connection stays, once where it closes.
use Rattle.std.specs.Prelude.{ℕ, List, codes}
use Rattle.http_stream.specs.declared.fault.HttpFault.{HttpFault}

abbrev pub kept_text : HttpFault → List ℕ
kept_text HttpFault.S400 =
    codes "HTTP/1.1 400 Bad Request\r\nContent-Type: application/json\r\nContent-Length: 30\r\n\r\n{\"code\":\"400\",\"reply\":\"fault\"}"
kept_text HttpFault.S404 =
    codes "HTTP/1.1 404 Not Found\r\nContent-Type: application/json\r\nContent-Length: 30\r\n\r\n{\"code\":\"404\",\"reply\":\"fault\"}"
kept_text HttpFault.S405 =
    codes "HTTP/1.1 405 Method Not Allowed\r\nContent-Type: application/json\r\nContent-Length: 30\r\n\r\n{\"code\":\"405\",\"reply\":\"fault\"}"
kept_text HttpFault.S411 =
    codes "HTTP/1.1 411 Length Required\r\nContent-Type: application/json\r\nContent-Length: 30\r\n\r\n{\"code\":\"411\",\"reply\":\"fault\"}"
kept_text HttpFault.S413 =
    codes "HTTP/1.1 413 Payload Too Large\r\nContent-Type: application/json\r\nContent-Length: 30\r\n\r\n{\"code\":\"413\",\"reply\":\"fault\"}"
kept_text HttpFault.S431 =
    codes "HTTP/1.1 431 Request Header Fields Too Large\r\nContent-Type: application/json\r\nContent-Length: 30\r\n\r\n{\"code\":\"431\",\"reply\":\"fault\"}"
kept_text HttpFault.S500 =
    codes "HTTP/1.1 500 Internal Server Error\r\nContent-Type: application/json\r\nContent-Length: 30\r\n\r\n{\"code\":\"500\",\"reply\":\"fault\"}"
kept_text HttpFault.S501 =
    codes "HTTP/1.1 501 Not Implemented\r\nContent-Type: application/json\r\nContent-Length: 30\r\n\r\n{\"code\":\"501\",\"reply\":\"fault\"}"
kept_text HttpFault.S503 =
    codes "HTTP/1.1 503 Service Unavailable\r\nContent-Type: application/json\r\nContent-Length: 30\r\n\r\n{\"code\":\"503\",\"reply\":\"fault\"}"
kept_text HttpFault.S507 =
    codes "HTTP/1.1 507 Insufficient Storage\r\nContent-Type: application/json\r\nContent-Length: 30\r\n\r\n{\"code\":\"507\",\"reply\":\"fault\"}"

abbrev pub last_text : HttpFault → List ℕ
last_text HttpFault.S400 =
    codes "HTTP/1.1 400 Bad Request\r\nContent-Type: application/json\r\nContent-Length: 30\r\nConnection: close\r\n\r\n{\"code\":\"400\",\"reply\":\"fault\"}"
last_text HttpFault.S404 =
    codes "HTTP/1.1 404 Not Found\r\nContent-Type: application/json\r\nContent-Length: 30\r\nConnection: close\r\n\r\n{\"code\":\"404\",\"reply\":\"fault\"}"
last_text HttpFault.S405 =
    codes "HTTP/1.1 405 Method Not Allowed\r\nContent-Type: application/json\r\nContent-Length: 30\r\nConnection: close\r\n\r\n{\"code\":\"405\",\"reply\":\"fault\"}"
last_text HttpFault.S411 =
    codes "HTTP/1.1 411 Length Required\r\nContent-Type: application/json\r\nContent-Length: 30\r\nConnection: close\r\n\r\n{\"code\":\"411\",\"reply\":\"fault\"}"
last_text HttpFault.S413 =
    codes "HTTP/1.1 413 Payload Too Large\r\nContent-Type: application/json\r\nContent-Length: 30\r\nConnection: close\r\n\r\n{\"code\":\"413\",\"reply\":\"fault\"}"
last_text HttpFault.S431 =
    codes "HTTP/1.1 431 Request Header Fields Too Large\r\nContent-Type: application/json\r\nContent-Length: 30\r\nConnection: close\r\n\r\n{\"code\":\"431\",\"reply\":\"fault\"}"
last_text HttpFault.S500 =
    codes "HTTP/1.1 500 Internal Server Error\r\nContent-Type: application/json\r\nContent-Length: 30\r\nConnection: close\r\n\r\n{\"code\":\"500\",\"reply\":\"fault\"}"
last_text HttpFault.S501 =
    codes "HTTP/1.1 501 Not Implemented\r\nContent-Type: application/json\r\nContent-Length: 30\r\nConnection: close\r\n\r\n{\"code\":\"501\",\"reply\":\"fault\"}"
last_text HttpFault.S503 =
    codes "HTTP/1.1 503 Service Unavailable\r\nContent-Type: application/json\r\nContent-Length: 30\r\nConnection: close\r\n\r\n{\"code\":\"503\",\"reply\":\"fault\"}"
last_text HttpFault.S507 =
    codes "HTTP/1.1 507 Insufficient Storage\r\nContent-Type: application/json\r\nContent-Length: 30\r\nConnection: close\r\n\r\n{\"code\":\"507\",\"reply\":\"fault\"}"
