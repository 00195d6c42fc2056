-- Bytes that open a site aren't refused.
use Rattle.std.proofs.Common.{◌≡◌, ℕ, Bool, true, List, Option, Ok, Err, Result, sym, ap, subst, ◌∙◌}
use Rattle.ob_object.specs.Object.{Object}
use Rattle.ob_documents.specs.Spelling.{Spells}
use Rattle.ob_xml.specs.Judged.{Verdict, document, fault, Judged}
use Rattle.ob_xml.specs.declared.doc.Doc.{Doc}
use Rattle.ob_site_rules.specs.Sites.{SiteState}
use Rattle.ob_site_rules.specs.Loading as loading
use Rattle.ob_site_rules.specs.Opening.{opening}
use Rattle.ob_opening_laws.specs.Moments.{at_moment}
use Rattle.ob_opening_laws.proofs.Moments.{opens_at_each}
use Rattle.ob_site_file.specs.Passes.{IsRefusal}
use Rattle.ob_site_file.specs.declared.fault.LoadFault.{LoadFault}
use Rattle.ob_site_file.specs.declared.fault.LoadFault.TheVariants.{Read, Document, RootHref, Href, Contract, PathTwice, Rule, Size, Memory}
use Rattle.ob_load.specs.Loads.{IsOutside, IsUnspelled, IsSite, RefusesBytes, unspelled, refused, OpenedIsNotRefused}

-- what was opened is no refusal
refusal_none : (expected : Result SiteState loading.LoadFault) (site : SiteState) (fault : LoadFault) → expected ≡ Ok site → IsRefusal expected fault → IsOutside fault
refusal_none expected site RootHref is e = let no : Ok site ≡ Err loading.RootHref = sym is ∙ e in absurd (cc)
refusal_none expected site (Href part) is e = let no : Ok site ≡ Err (loading.Href part) = sym is ∙ e in absurd (cc)
refusal_none expected site (Contract why) is e = let no : Ok site ≡ Err (loading.Contract why) = sym is ∙ e in absurd (cc)
refusal_none expected site (PathTwice path) is e = let no : Ok site ≡ Err (loading.PathTwice path) = sym is ∙ e in absurd (cc)
refusal_none expected site (Rule offence) is e = let no : Ok site ≡ Err (loading.BadRule offence) = sym is ∙ e in absurd (cc)
refusal_none expected site Size is e = let no : Ok site ≡ Err loading.Size = sym is ∙ e in absurd (cc)
refusal_none expected site Memory is e = tt
refusal_none expected site Read is e = absurd e
refusal_none expected site (Document why) is e = absurd e

module _ (one_verdict : (bytes : List ℕ) (ended : Bool) (v w : Verdict) → Judged bytes ended v → Judged bytes ended w → v ≡ w) where
  -- what is judged to be a document isn't refused
  spelled_none : (bytes : List ℕ) (d : Doc) (why : LoadFault) → Judged bytes true (document d) → IsUnspelled bytes why → IsOutside why
  spelled_none bytes d (Document r) is e = let no : document d ≡ fault r.at r.why = one_verdict bytes true (document d) (fault r.at r.why) is e in absurd (cc)
  spelled_none bytes d Memory is e = tt
  spelled_none bytes d Read is e = tt
  spelled_none bytes d RootHref is e = absurd e
  spelled_none bytes d (Href part) is e = absurd e
  spelled_none bytes d (Contract r) is e = absurd e
  spelled_none bytes d (PathTwice path) is e = absurd e
  spelled_none bytes d (Rule offence) is e = absurd e
  spelled_none bytes d Size is e = absurd e

  pub opened_unrefused : (only : (bytes : List ℕ) (ns : Option (List ℕ)) (o : Object) → Spells bytes ns o → Judged bytes true (document (record { ns = ns; root = o })))
      (one_document : (bytes : List ℕ) (ns other : Option (List ℕ)) (o p : Object) → Spells bytes ns o → Spells bytes other p → (ns ≡ other) × (o ≡ p)) → OpenedIsNotRefused
  opened_unrefused only one_document = λ bytes site boot why refuses.
      let ns = site.1 in
      let root = site.3.0 in
      let spells = site.3.1.0 in
      let opens = opens_at_each root site.0 site.2 site.3.1.1 boot in
      elim refuses [
        | unspelled e ↦ spelled_none bytes (record { ns = ns; root = root }) why (only bytes ns root spells) e
        | refused other_ns other other_spells e ↦
            (let same = (one_document bytes ns other_ns root other spells other_spells).1 in
            let here : SiteState = at_moment boot opens.0 site.2 in
            refusal_none (opening other boot) here why (subst (λ (o : Object). opening o boot ≡ Ok here) same opens.1) e)
      ]
