use Rattle.std.proofs.Common.{◌≡◌, ◌++◌, ◌∷◌, [], Option, None, refl, sym, ap, ◌∙◌, subst}
use Rattle.ob_object.specs.Object.{Object}
use Rattle.ob_contracts.specs.Inherit.{Contracts, Words}
use Rattle.ob_site_rules.specs.Roles.{worded}
use Rattle.ob_roles.specs.Few.{briefly, brief_contracts}
use Rattle.ob_roles.specs.Tables.{Holds}
use Rattle.ob_roles.specs.Worded.{worded_at}
use Rattle.ob_roles.proofs.Brief.{brief_more}
use Rattle.ob_roles.proofs.WordRows.{contract_is}
use Rattle.ob_roles.proofs.worded.put_contract.Goals as goal

pub returns : goal.returns
returns c = λ whole lib tells holds.
    let o = c.args.object.now in
    let u = c.args.word.now in
    let p = worded lib o in
    let made : c.in_ok-made.made ≡ briefly whole p.head.is p =
    c.in_ok-made.ensures whole lib None None tells holds (λ takes. refl) refl ∙ ap (λ (ws : Option Words). briefly whole ws (worded_at lib None None o)) c.is.ensures ∙ contract_is whole lib o in
    subst (λ (l : Contracts). Holds c.put_first.new.table l) (ap (λ (x : Object). brief_contracts whole lib ++ (u, x) ∷ []) made ∙ sym (brief_more whole lib u p))
    (c.in_ok-put_first.ensures (brief_contracts whole lib) holds)
