-- Bodies that are read are those that can be written.
use Rattle.std.proofs.Common.{◌≡◌, ℕ, ◌≤◌, ◌<◌, ◌^◌, List, length, Option, Some, None, Result, Ok, Err, sym, ap, subst, ◌∙◌}
use Rattle.std.specs.Prelude.{IfOk, IfSome, IfNone}
use Rattle.std.specs.declared.alloc.AllocError.{AllocError}
use Rattle.ob_encoding.specs.Canonical.{canonical_text}
use Rattle.ob_documents.specs.Carried.{IsCarried}
use Rattle.ob_documents.specs.Spelling.{Spells}
use Rattle.ob_object.specs.Object.{Object}
use Rattle.ob_times.specs.Times.{IsMoment}
use Rattle.ob_values.specs.XmlText.{IsXmlText}
use Rattle.ob_record.specs.declared.run.Entry.{Entry}
use Rattle.ob_record.specs.Parts.{Parts, AreSmall}
use Rattle.ob_record.specs.Runs.{body_text, reply_bytes, parts_of, IsBody, IsEntry}

abbrev pub TextSpells : Type 0
TextSpells = (ns : Option (List ℕ)) (o : Object) → IsCarried ns o → length (canonical_text ns o) ≤ 16_777_216 → Spells (canonical_text ns o) ns o

abbrev pub OneDocument : Type 0
OneDocument = (bytes : List ℕ) (ns other : Option (List ℕ)) (o p : Object) → Spells bytes ns o → Spells bytes other p → (ns ≡ other) × (o ≡ p)

abbrev pub Carried : Type 0
Carried = (bytes : List ℕ) (ns : Option (List ℕ)) (o : Object) → Spells bytes ns o → IsCarried ns o

-- an object that was read and is its own canonical text
pub body_found : Carried → (bytes : List ℕ) (ns : Option (List ℕ)) (o : Object) → Spells bytes ns o → bytes ≡ canonical_text None o → IsBody (Some o)
body_found carried bytes ns o spells is =
    let c = carried bytes ns o spells in
    (record { namespace = tt; well_formed = c.well_formed; head = c.head; row = c.row }, subst (λ (l : List ℕ). length l ≤ 16_777_216) is spells.small)

-- a body's text spells it
pub body_spells : TextSpells → (bytes : List ℕ) (o : Object) → IsBody (Some o) → bytes ≡ canonical_text None o → Spells bytes None o
body_spells spells bytes o body is = subst (λ (l : List ℕ). Spells l None o) (sym is) (spells None o body.0 body.1)

-- what was read is no body's text, where it isn't its own canonical text
pub no_body : TextSpells → OneDocument → (bytes : List ℕ) (ns : Option (List ℕ)) (root : Object) → Spells bytes ns root → (bytes ≡ canonical_text None root → ⊥)
    → (o : Object) → IsBody (Some o) → bytes ≡ canonical_text None o → ⊥
no_body spells one bytes ns root read other o body is =
    let same = one bytes ns None root o read (body_spells spells bytes o body is) in
    other (is ∙ ap (λ (p : Object). canonical_text None p) (sym same.1))

-- nothing is spelled: it is no body's text
pub refused_body : TextSpells → (bytes : List ℕ) → ((ns : Option (List ℕ)) (o : Object) → Spells bytes ns o → ⊥) → (o : Object) → IsBody (Some o) → bytes ≡ canonical_text None o → ⊥
refused_body spells bytes none o body is = none None o (body_spells spells bytes o body is)

-- ---- what reading one comes to

pub bodies_found : Carried → (bytes : List ℕ) (ns : Option (List ℕ)) (root object : Object) (r : Result (Option Object) AllocError) → object ≡ root → Spells bytes ns root
    → IfOk r (λ found. IfSome found (λ o. (o ≡ object) × (bytes ≡ canonical_text None o)))
    → IfOk r (λ found. IfSome found (λ o. IsBody (Some o) × (bytes ≡ canonical_text None o)))
bodies_found carried bytes ns root object (Ok (Some o)) same spells told =
    (body_found carried bytes ns o (subst (λ (p : Object). Spells bytes ns p) (sym same ∙ sym told.0) spells) told.1, told.1)
bodies_found carried bytes ns root object (Ok None) same spells told = tt
bodies_found carried bytes ns root object (Err e) same spells told = tt

pub bodies_none : TextSpells → OneDocument → (bytes : List ℕ) (ns : Option (List ℕ)) (root object : Object) (r : Result (Option Object) AllocError) → object ≡ root → Spells bytes ns root
    → IfOk r (λ found. IfNone found (bytes ≡ canonical_text None object → ⊥))
    → IfOk r (λ found. IfNone found ((o : Object) → IsBody (Some o) → bytes ≡ canonical_text None o → ⊥))
bodies_none spells one bytes ns root object (Ok (Some o)) same read told = tt
bodies_none spells one bytes ns root object (Ok None) same read told = no_body spells one bytes ns root read (λ is. told (is ∙ ap (λ (p : Object). canonical_text None p) (sym same)))
bodies_none spells one bytes ns root object (Err e) same read told = tt

-- ---- entries

pub no_moment_entry : (p : Parts) → (IsMoment p.moment → ⊥) → (e : Entry) → IsEntry e → p ≡ parts_of e → ⊥
no_moment_entry p none e valid is = none (subst IsMoment (ap (λ (q : Parts). q.moment) (sym is)) valid.moment)

pub no_target_entry : (p : Parts) → (IsXmlText p.target → ⊥) → (e : Entry) → IsEntry e → p ≡ parts_of e → ⊥
no_target_entry p none e valid is = none (subst IsXmlText (ap (λ (q : Parts). q.target) (sym is)) valid.target.0)

pub no_body_entry : (p : Parts) → ((body : Option Object) → IsBody body → p.body ≡ body_text body → ⊥) → (e : Entry) → IsEntry e → p ≡ parts_of e → ⊥
no_body_entry p none e valid is = none e.request.body valid.body (ap (λ (q : Parts). q.body) is)

-- the entry of these parts
pub made_entry : (p : Parts) (e : Entry) → AreSmall p → e.moment ≡ p.moment → IsMoment p.moment → e.request.verb ≡ p.verb → e.request.target ≡ p.target → IsXmlText e.request.target
    → IsBody e.request.body → p.body ≡ body_text e.request.body → reply_bytes e.reply ≡ p.reply → IsEntry e × (p ≡ parts_of e)
made_entry p e small moment is verb target text body spelled reply = (
  record {
    moment = subst IsMoment (sym moment) is;
    target = (text, subst (λ (t : List ℕ). length t < 2 ^ 63) (sym target) small.target);
    body = body;
    reply = subst (λ (r : Option (List ℕ)). IfSome r (λ bytes. length bytes < 2 ^ 63)) (sym reply) small.reply;
  },
  λ i. record { moment = sym moment i; verb = sym verb i; target = sym target i; body = spelled i; reply = sym reply i },
)
