-- How a framed request is answered: by the site, or by an answer that is the same whatever the site is.
use Rattle.std.specs.Prelude.{◌≡◌, ◌≢◌, ◌⊎◌, ℕ, Bool, true, false, ◌&&◌, ◌==◌, not, if◌then◌else◌, List, [], length, codes, bytes_eq, Option, Some, None, Err, MatchBool}
use Rattle.ob_http.specs.declared.media.Media.{Media}
use Rattle.ob_http.specs.declared.media.Media.TheVariants.{Absent, Xml, Other}
use Rattle.ob_http.specs.declared.answer.StatusLine.{StatusLine}
use Rattle.ob_http.specs.declared.answer.StatusLine.TheVariants.{BadRequest, NotAllowed, BadMedia}
use Rattle.ob_object.specs.Object.{Object}
use Rattle.ob_values.specs.XmlText.{IsXmlText, ReadsText}
use Rattle.ob_values.specs.declared.fault.TextFault.{TextFault}
use Rattle.ob_values.specs.declared.fault.TextFault.TheVariants as texts
use Rattle.ob_values.specs.declared.verb.Verb.{Verb}
use Rattle.ob_values.specs.declared.verb.Verb.TheVariants.{Get, Put, Post}
use Rattle.ob_documents.specs.Spelling.{Spells}
use Rattle.ob_xml.specs.declared.refused.Refused.{Refused}
use Rattle.ob_xml.specs.declared.refused.Why.TheVariants as causes
use Rattle.ob_xml.specs.Judged.{Judged, fault}
use Rattle.ob_xml.specs.Words.{refusal_words}
use Rattle.ob_server.specs.Refusal.{refusal_body}
use Rattle.ob_server.specs.declared.sort.Sorted.{Sorted}
use Rattle.ob_server.specs.declared.sort.Sorted.TheVariants.{Step, Fixed}

-- the verb of a method, whose name is read by case (RFC 9110, section 9.1)
abbrev pub verb_of : List ℕ → Option Verb
verb_of method =
    if bytes_eq method (codes "GET") then Some Get
    else (if bytes_eq method (codes "PUT") then Some Put
    else (if bytes_eq method (codes "POST") then Some Post else None))

-- requests of this verb carry a body
abbrev pub carries : Verb → Bool
carries Get = false
carries Put = true
carries Post = true

-- a media type that is none of XML's
abbrev pub is_other : Media → Bool
is_other Absent = false
is_other Xml = false
is_other Other = true

-- a body that is empty is none
abbrev pub has_body : Verb → List ℕ → Bool
has_body verb body = carries verb && not (length body == 0)

-- an answer without a body
abbrev pub bare : StatusLine → Sorted
bare line = Fixed line []

-- an answer that refuses with this body
abbrev pub refusal : List ℕ → Sorted
refusal body = Fixed BadRequest body

-- the bytes are no text
abbrev pub IsNoText : List ℕ → Type 0
IsNoText bytes = (why : TextFault) × (why ≢ texts.Memory) × ReadsText bytes (Err why)

-- the answer to a document that is refused so
abbrev pub RefusesFor : Refused → Sorted → Type 0
RefusesFor refused sorted = (refused.why ≢ causes.Memory) × (sorted ≡ refusal (refusal_body (refusal_words refused)))

-- the request goes to the site, with the object that its body spells
pub record StepsWith (verb : Verb) (target body : List ℕ) (sorted : Sorted) : Type 0 where
  pub ns : Option (List ℕ)
  pub root : Object
  pub spelled : Spells body ns root
  pub is : sorted ≡ Step (record { verb = verb; target = target; body = Some root })

-- the body is no document, and its first refused construct is told
pub record RefusesBody (body : List ℕ) (sorted : Sorted) : Type 0 where
  pub refused : Refused
  pub judged : Judged body true (fault refused.at refused.why)
  pub is : RefusesFor refused sorted

-- the target is a text; the body is read only where there is one
abbrev pub SortsBody : Verb → List ℕ → Bool → List ℕ → Sorted → Type 0
SortsBody verb target false body sorted = sorted ≡ Step (record { verb = verb; target = target; body = None })
SortsBody verb target true body sorted = StepsWith verb target body sorted ⊎ RefusesBody body sorted

-- a target that is no text is refused
abbrev pub SortsTarget : Verb → List ℕ → Bool → List ℕ → Sorted → Type 0
SortsTarget verb target has body sorted =
    (IsXmlText target × SortsBody verb target has body sorted)
    ⊎ (IsNoText target × (sorted ≡ refusal (refusal_body (codes "target"))))

-- a method that is none of the three is not allowed; a body of another media type is not read
abbrev pub SortsVerb : Option Verb → List ℕ → Media → List ℕ → Sorted → Type 0
SortsVerb None target media body sorted = sorted ≡ bare NotAllowed
SortsVerb (Some verb) target media body sorted =
    MatchBool (has_body verb body && is_other media) (sorted ≡ bare BadMedia)
    (SortsTarget verb target (has_body verb body) body sorted)

-- a request of this method, target, media type and body is answered so
abbrev pub Sorts : List ℕ → List ℕ → Media → List ℕ → Sorted → Type 0
Sorts method target media body sorted = SortsVerb (verb_of method) target media body sorted

-- a request is to be answered in one way
abbrev pub SortingIsOne : Type 0
SortingIsOne =
    (method target : List ℕ) (media : Media) (body : List ℕ) (a b : Sorted)
    → Sorts method target media body a → Sorts method target media body b → a ≡ b
