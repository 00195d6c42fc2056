-- A request's body is within its limit.
use Rattle.std.proofs.Common.{◌≡◌, ℕ, ◌+◌, ◌-◌, ◌≤◌, Bool, true, false, cond, List, length, drop, Result, Ok, Err, refl, ap, leb, arith}
use Rattle.std.specs.Prelude.{codes}
use Rattle.std.specs.List.{slice_range}
use Rattle.std.proofs.lemmas.List.{length-take}
use Rattle.std.proofs.lemmas.Bool.{leb-true}
use Rattle.httparse.specs.Grammar.{RequestHead}
use Rattle.ob_http.specs.declared.fault.FrameFault.{FrameFault}
use Rattle.ob_http.specs.declared.fault.FrameFault.TheVariants.{Head, HeadBig, BodyBig, NoLength}
use Rattle.ob_http.specs.Fields.{has_field, content_length, within}
use Rattle.ob_http.specs.Message.{Front, Opening, head, hopeless, long, short, whole, refused, unfinished, field_limit, fields_by, length_by, with_body, front_behind}
use Rattle.ob_http.specs.Request.{Request, request_shape, body_limit, Stands}

limit_within : (limit n : ℕ) (r : Result ℕ FrameFault) → within limit r ≡ Ok n → n ≤ limit
limit_within limit n (Err f) e = absurd (let no : Err f ≡ Ok n = e in cc)
limit_within limit n (Ok m) e = go (leb m limit) refl e
  where
    go : (b : Bool) → leb m limit ≡ b → cond b (Ok m) (Err BodyBig) ≡ Ok n → n ≤ limit
    go true t e = (let same : m ≡ n = cc in omega (arith, leb-true m limit t, same))
    go false t e = absurd (let no : Err BodyBig ≡ Ok n = e in cc)

length_within : (h : RequestHead) (n : ℕ) → length_by request_shape h ≡ Ok n → n ≤ body_limit
length_within h n e = go (has_field (codes "transfer-encoding") (fields_by request_shape h)) e
  where
    go : (b : Bool) → cond b (Err NoLength) (within body_limit (content_length (Ok 0) (fields_by request_shape h))) ≡ Ok n → n ≤ body_limit
    go true e = absurd (let no : Err NoLength ≡ Ok n = e in cc)
    go false e = limit_within body_limit n (content_length (Ok 0) (fields_by request_shape h)) e

cut_short : (bytes : List ℕ) (start n : ℕ) → length (slice_range bytes start (start + n)) ≤ n
cut_short bytes start n = omega (arith, length-take ((start + n) - start) (drop start bytes))

abbrev body_of : Request → Front Request → List ℕ
body_of other (whole r n) = r.body
body_of other (refused f) = other.body
body_of other unfinished = other.body

with_cut : (h : RequestHead) (request : Request) (len size n : ℕ) (cut : List ℕ) (b : Bool) → length cut ≤ n → n ≤ body_limit → cond b (whole (request_shape.message h cut) size) unfinished ≡ whole request len
    → length request.body ≤ body_limit
with_cut h request len size n cut true fits most e = (let same : cut ≡ request.body = ap (body_of request) e in omega (arith, ap length same, fits, most))
with_cut h request len size n cut false fits most e = absurd (let no : unfinished ≡ whole request len = e in cc)

with_short : (bytes : List ℕ) (h : RequestHead) (request : Request) (len : ℕ) (r : Result ℕ FrameFault) → length_by request_shape h ≡ r → with_body request_shape bytes h r ≡ whole request len
    → length request.body ≤ body_limit
with_short bytes h request len (Err f) is e = absurd (let no : refused f ≡ whole request len = e in cc)
with_short bytes h request len (Ok n) is e =
    let start : ℕ = length (request_shape.print h) in
    with_cut h request len (start + n) n (slice_range bytes start (start + n)) (leb (start + n) (length bytes)) (cut_short bytes start n) (length_within h n is) e

-- the body of a whole request that stands at the front is no longer than may be
pub body_short : (bytes : List ℕ) (request : Request) (len : ℕ) → Stands bytes (whole request len) → length request.body ≤ body_limit
body_short bytes request len (hopeless, o, e) = absurd (let no : refused Head ≡ whole request len = e in cc)
body_short bytes request len (long, o, e) = absurd (let no : refused HeadBig ≡ whole request len = e in cc)
body_short bytes request len (short, o, e) = absurd (let no : unfinished ≡ whole request len = e in cc)
body_short bytes request len (head h, o, e) = go (leb (length (request_shape.lines h)) field_limit) e
  where
    go : (b : Bool) → cond b (with_body request_shape bytes h (length_by request_shape h)) (refused Head) ≡ whole request len → length request.body ≤ body_limit
    go true e = with_short bytes h request len (length_by request_shape h) refl e
    go false e = absurd (let no : refused Head ≡ whole request len = e in cc)
