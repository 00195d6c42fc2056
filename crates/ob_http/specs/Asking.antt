-- The texts that ask (RFC 9112, section 3; RFC 9110, section 7.2).
use Rattle.std.specs.Prelude.{ℕ, List, ◌++◌, length, codes, decimal}
use Rattle.ob_values.specs.declared.verb.Verb.{Verb}
use Rattle.ob_values.specs.declared.verb.Verb.TheVariants.{Get, Put, Post}

-- the method of a verb
abbrev pub verb_text : Verb → List ℕ
verb_text Get = codes "GET"
verb_text Put = codes "PUT"
verb_text Post = codes "POST"

-- a body behind the fields that tell its type and its length
abbrev pub sized_body : List ℕ → List ℕ
sized_body body =
    codes "Content-Type: text/xml\r\nContent-Length: " ++ (decimal (length body) ++ (codes "\r\n\r\n" ++ body))

-- what follows the Host field: a Get has neither field nor body
abbrev pub body_fields : Verb → List ℕ → List ℕ
body_fields Get body = codes "\r\n"
body_fields Put body = sized_body body
body_fields Post body = sized_body body

-- a request
abbrev pub request_text : Verb → List ℕ → List ℕ → List ℕ → List ℕ
request_text verb target host body =
    verb_text verb ++ (codes " " ++ (target ++ (codes " HTTP/1.1\r\nHost: " ++ (host ++ (codes "\r\n"
    ++ body_fields verb body)))))
