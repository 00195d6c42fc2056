-- Replies, and what stands at the front of the bytes that a server has sent.
use Rattle.std.specs.Prelude.{ℕ, List, Err}
use Rattle.httparse.specs.Grammar.{ResponseHead, ReadsResponse, NeverHasResponse, print_response, status_code}
use Rattle.ob_http.specs.declared.fault.FrameFault.TheVariants.{NoLength}
use Rattle.ob_http.specs.Message.{Front, Shape, MayHave, Opening, OpensBy, StandsBy}

-- the most bytes of a reply's body
abbrev pub reply_limit : ℕ
reply_limit = 16777216

-- a whole reply
pub record Response : Type 0 where
  pub status : ℕ
  pub body : List ℕ

-- without a Content-Length the body has no length
abbrev pub reply_shape : Shape ResponseHead Response
reply_shape = record {
  print = print_response;
  lines = λ h. h.fields;
  message = λ h body. record { status = status_code h; body = body };
  absent = Err NoLength;
  limit = reply_limit;
}

-- there is no head yet, and one may come
abbrev pub IsReplyUndecided : List ℕ → Type 0
IsReplyUndecided bytes = MayHave ReadsResponse NeverHasResponse bytes

abbrev pub ReplyOpens : List ℕ → Opening ResponseHead → Type 0
ReplyOpens bytes opening = OpensBy ReadsResponse NeverHasResponse bytes opening

-- this stands at the front of the bytes of a server
abbrev pub ReplyStands : List ℕ → Front Response → Type 0
ReplyStands bytes front = StandsBy ReadsResponse NeverHasResponse reply_shape bytes front
