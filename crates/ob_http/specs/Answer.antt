-- The texts that answer requests (RFC 9112, section 4; RFC 9110, sections 10.2.1 and 15).
use Rattle.std.specs.Prelude.{◌≡◌, ◌++◌, ℕ, Bool, ◌==◌, List, [], ◌∷◌, length, codes, decimal, if◌then◌else◌}
use Rattle.std.specs.List.{concat}
use Rattle.ob_http.specs.declared.fault.FrameFault.{FrameFault}
use Rattle.ob_http.specs.declared.fault.FrameFault.TheVariants.{Head, HeadBig, NoLength, Length, BodyBig, Memory}
use Rattle.ob_http.specs.declared.answer.StatusLine.{StatusLine}
use Rattle.ob_http.specs.declared.answer.StatusLine.TheVariants.{Done, BadRequest, NotAllowed, BadMedia}

-- the status line, with its end
abbrev pub status_text : StatusLine → List ℕ
status_text Done = codes "HTTP/1.1 200 OK\r\n"
status_text BadRequest = codes "HTTP/1.1 400 Bad Request\r\n"
status_text NotAllowed = codes "HTTP/1.1 405 Method Not Allowed\r\n"
status_text BadMedia = codes "HTTP/1.1 415 Unsupported Media Type\r\n"

-- the field that tells the body's media type, where there is one
abbrev pub type_text : StatusLine → List ℕ → List ℕ
type_text Done body = codes "Content-Type: text/xml\r\n"
type_text BadRequest body = if length body == 0 then [] else codes "Content-Type: text/plain\r\n"
type_text NotAllowed body = []
type_text BadMedia body = []

-- the field that tells which methods there are
abbrev pub allow_text : StatusLine → List ℕ
allow_text Done = []
allow_text BadRequest = []
allow_text NotAllowed = codes "Allow: GET, PUT, POST\r\n"
allow_text BadMedia = []

abbrev pub close_text : Bool → List ℕ
close_text close = if close then codes "Connection: close\r\n" else []

-- an answer
abbrev pub answer_text : StatusLine → Bool → List ℕ → List ℕ
answer_text line close body =
    concat (
    status_text line
    ∷ type_text line body
    ∷ codes "Content-Length: "
    ∷ decimal (length body)
    ∷ codes "\r\n"
    ∷ allow_text line
    ∷ close_text close
    ∷ codes "\r\n"
    ∷ body
    ∷ []
    )

-- a text that only grew, at its end
abbrev pub Grows : List ℕ → List ℕ → Type 0
Grows old new = (more : List ℕ) × (new ≡ old ++ more)

-- the answer to what begins no request
abbrev pub refusal_text : FrameFault → List ℕ
refusal_text Head = codes "HTTP/1.1 400 Bad Request\r\nContent-Length: 0\r\nConnection: close\r\n\r\n"
refusal_text HeadBig = codes "HTTP/1.1 431 Request Header Fields Too Large\r\nContent-Length: 0\r\nConnection: close\r\n\r\n"
refusal_text NoLength = codes "HTTP/1.1 411 Length Required\r\nContent-Length: 0\r\nConnection: close\r\n\r\n"
refusal_text Length = codes "HTTP/1.1 400 Bad Request\r\nContent-Length: 0\r\nConnection: close\r\n\r\n"
refusal_text BodyBig = codes "HTTP/1.1 413 Content Too Large\r\nContent-Length: 0\r\nConnection: close\r\n\r\n"
refusal_text Memory = []
