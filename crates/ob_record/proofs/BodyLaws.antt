-- The bodies of requests that go to the site.
use Rattle.std.proofs.Common.{◌≡◌, ℕ, ◌≤◌, Bool, true, false, ◌&&◌, List, length, Option, Some, None, sym, subst, inl, inr, arith, MatchBool}
use Rattle.ob_documents.proofs.Carrying.{carried}
use Rattle.ob_documents.specs.Carried.{IsCarried}
use Rattle.ob_http.specs.declared.answer.StatusLine.TheVariants.{BadMedia}
use Rattle.ob_http.specs.declared.media.Media.{Media}
use Rattle.ob_http.specs.Request.{Request as Framed, body_limit}
use Rattle.ob_object.specs.Object.{Object}
use Rattle.ob_server.specs.Exchange.{SortsTo}
use Rattle.ob_server.specs.Sort.{SortsVerb, SortsTarget, SortsBody, bare, has_body, is_other, verb_of}
use Rattle.ob_server.specs.declared.sort.Sorted.{Sorted}
use Rattle.ob_server.specs.declared.sort.Sorted.TheVariants.{Step, Fixed}
use Rattle.ob_site_rules.specs.declared.request.Request.{Request}
use Rattle.ob_values.specs.declared.verb.Verb.{Verb}
use Rattle.ob_record.specs.Runs.{IsBody}
use Rattle.ob_size_laws.proofs.Texts.{text_is_short}
use Rattle.ob_record.specs.Entries.{BodyIsSpelled}

-- an object that a document with an xmlns carries, is carried without one
plainly : (ns : Option (List ℕ)) (o : Object) → IsCarried ns o → IsCarried None o
plainly ns o c = record { namespace = tt; well_formed = c.well_formed; head = c.head; row = c.row }

-- a body that was read from so few bytes is one of a record
pub spelled_body : (body : Option Object) → BodyIsSpelled body → IsBody body
spelled_body None s = tt
spelled_body (Some o) s = (
  plainly s.1.0 o (carried s.0 s.1.0 o s.1.1),
  omega (arith, text_is_short s.0 s.1.0 o s.1.1, s.1.2),
)

abbrev body_of : Sorted → Option Object
body_of (Step request) = request.body
body_of (Fixed line body) = None

along : (a b : Sorted) → a ≡ b → BodyIsSpelled (body_of b) → BodyIsSpelled (body_of a)
along a b same x = subst (λ (s : Sorted). BodyIsSpelled (body_of s)) (sym same) x

body_spelled : (verb : Verb) (target body : List ℕ) (has : Bool) (sorted : Sorted) → length body ≤ body_limit → SortsBody verb target has body sorted → BodyIsSpelled (body_of sorted)
body_spelled verb target body false sorted few is = along sorted _ is tt
body_spelled verb target body true sorted few (inl x) = along sorted _ x.is (body, (x.ns, x.spelled, few))
body_spelled verb target body true sorted few (inr x) = along sorted _ x.is.1 tt

target_spelled : (verb : Verb) (target body : List ℕ) (has : Bool) (sorted : Sorted) → length body ≤ body_limit → SortsTarget verb target has body sorted → BodyIsSpelled (body_of sorted)
target_spelled verb target body has sorted few (inl x) = body_spelled verb target body has sorted few x.1
target_spelled verb target body has sorted few (inr x) = along sorted _ x.1 tt

media_spelled : (other : Bool) (verb : Verb) (target body : List ℕ) (has : Bool) (sorted : Sorted) → length body ≤ body_limit → MatchBool other (sorted ≡ bare BadMedia) (SortsTarget verb target has body sorted)
    → BodyIsSpelled (body_of sorted)
media_spelled true verb target body has sorted few is = along sorted _ is tt
media_spelled false verb target body has sorted few sorts = target_spelled verb target body has sorted few sorts

verb_spelled : (verb : Option Verb) (target : List ℕ) (media : Media) (body : List ℕ) (sorted : Sorted) → length body ≤ body_limit → SortsVerb verb target media body sorted → BodyIsSpelled (body_of sorted)
verb_spelled None target media body sorted few is = along sorted _ is tt
verb_spelled (Some verb) target media body sorted few sorts = media_spelled (has_body verb body && is_other media) verb target body (has_body verb body) sorted few sorts

-- the body of a request that goes to the site was read from that of the request
pub asked_spelled : (request : Framed) (asked : Request) → length request.body ≤ body_limit → SortsTo request (Step asked) → BodyIsSpelled asked.body
asked_spelled request asked few sorts = verb_spelled (verb_of request.method) request.target request.media request.body (Step asked) few sorts
