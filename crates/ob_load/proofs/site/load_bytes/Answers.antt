use Rattle.std.proofs.Common.{◌≡◌, ℕ, List, Option, sym, subst}
use Rattle.std.specs.Prelude.{Ok}
use Rattle.ob_object.specs.Object.{Object}
use Rattle.ob_documents.specs.Spelling.{Spells}
use Rattle.ob_site_rules.specs.Opening.{opening}
use Rattle.ob_site_file.specs.Passes.{Refuses}
use Rattle.ob_site.specs.Between.{IsShallow}
use Rattle.ob_load.specs.Loads.{IsSite, refused}
use Rattle.ob_load.proofs.site.load_bytes.Goals as goal

pub site_at-requires : goal.site_at-requires
site_at-requires c = subst (λ (parts : Option (List ℕ) × Object). IsShallow parts.1) (sym c.into_parts-ns.ensures) c.in_ok-doc.ensures.shallow

pub returns-in-Err-clause-refused : goal.returns-in-Err-clause-refused
returns-in-Err-clause-refused c =
    let d = c.in_ok-doc.doc in
    refused d.ns d.root (subst (λ (l : List ℕ). Spells l d.ns d.root) c.deref.ensures.value c.in_ok-doc.ensures.spelled)
    (subst (λ (parts : Option (List ℕ) × Object). Refuses parts.1 c.args.boot c.in-Err.fault) c.into_parts-ns.ensures c.in-Err.ensures.refused)

pub returns-in-Ok-clause-site : goal.returns-in-Ok-clause-site
returns-in-Ok-clause-site c =
    let d = c.in_ok-doc.doc in
    let opens : opening d.root c.args.boot ≡ Ok c.in-Ok.site =
    subst (λ (parts : Option (List ℕ) × Object). opening parts.1 c.args.boot ≡ Ok c.in-Ok.site) c.into_parts-ns.ensures c.in-Ok.ensures.site in
    let spelled : Spells c.args.bytes.items d.ns d.root = subst (λ (l : List ℕ). Spells l d.ns d.root) c.deref.ensures.value c.in_ok-doc.ensures.spelled in
    let told : IsSite c.args.bytes.items c.args.boot d.ns c.in-Ok.site = (d.root, (spelled, opens)) in
    subst (λ (parts : Option (List ℕ) × Object). IsSite c.args.bytes.items c.args.boot parts.0 c.in-Ok.site) (sym c.into_parts-ns.ensures) told
