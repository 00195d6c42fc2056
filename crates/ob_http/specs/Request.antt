-- Requests, and what stands at the front of the bytes that a client has sent.
use Rattle.std.specs.Prelude.{ℕ, Bool, List, map, Ok}
use Rattle.httparse.specs.Grammar.{RequestHead, ReadsRequest, NeverHasRequest, EndsInTarget, print_request}
use Rattle.httparse.specs.Spans.{name_and_value}
use Rattle.ob_http.specs.declared.media.Media.{Media}
use Rattle.ob_http.specs.Fields.{media_of, asks_close}
use Rattle.ob_http.specs.Message.{Front, Shape, MayHave, Opening, OpensBy, StandsBy}

-- the most bytes of a request's body
abbrev pub body_limit : ℕ
body_limit = 1048576

-- a whole request
pub record Request : Type 0 where
  pub method : List ℕ
  pub target : List ℕ
  -- the client closes the connection behind it
  pub close : Bool
  pub media : Media
  pub body : List ℕ

-- the request with this head and body
abbrev pub request_of : RequestHead → List ℕ → Request
request_of h body = record {
  method = h.method;
  target = h.target;
  close = asks_close h.minor (map name_and_value h.fields);
  media = media_of (map name_and_value h.fields);
  body = body;
}

-- without a Content-Length the body is empty
abbrev pub request_shape : Shape RequestHead Request
request_shape = record {
  print = print_request;
  lines = λ h. h.fields;
  message = request_of;
  absent = Ok 0;
  limit = body_limit;
}

-- no head begins as these bytes do; a target that has not ended is not yet judged
abbrev pub IsHopeless : List ℕ → Type 0
IsHopeless bytes = NeverHasRequest bytes × ¬ (EndsInTarget bytes)

-- there is no head yet, and one may come
abbrev pub IsUndecided : List ℕ → Type 0
IsUndecided bytes = MayHave ReadsRequest IsHopeless bytes

abbrev pub Opens : List ℕ → Opening RequestHead → Type 0
Opens bytes opening = OpensBy ReadsRequest IsHopeless bytes opening

-- this stands at the front of the bytes of a client
abbrev pub Stands : List ℕ → Front Request → Type 0
Stands bytes front = StandsBy ReadsRequest IsHopeless request_shape bytes front
