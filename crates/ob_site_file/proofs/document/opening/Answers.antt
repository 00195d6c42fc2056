use Rattle.std.proofs.Common.{rules, subst, sym, ap, ◌∙◌}
use Rattle.ob_object.specs.Object.{Object}
use Rattle.ob_site_file.specs.Opened.{opened_made}
use Rattle.ob_site_file.specs.Passes.{IsRefusal}
use Rattle.ob_site_file.proofs.Refusing.{past, refused}
use Rattle.ob_site_file.proofs.document.opening.Goals as goal

pub returns-in_err-base-clause-refused : goal.returns-in_err-base-clause-refused
returns-in_err-base-clause-refused c = let e = c.in_err-base.ensures.err c.args.boot in search rules

pub returns-in_err-check_hrefs-clause-refused : goal.returns-in_err-check_hrefs-clause-refused
returns-in_err-check_hrefs-clause-refused c = let e = c.in_err-check_hrefs.ensures.err c.args.boot c.in_ok-base.ensures.ok in search rules

pub returns-in_err-opened-clause-refused : goal.returns-in_err-opened-clause-refused
returns-in_err-opened-clause-refused c =
    let base = c.in_ok-base.base in
    let f = c.in_err-opened.field-0.0 in
    let made = subst (λ (o : Object). IsRefusal (opened_made base c.args.boot o) f) c.in_ok-made.ensures c.in_err-opened.ensures.err in
    let e = refused c.args.root c.args.boot base f c.in_ok-base.ensures.ok c.in_ok-check_hrefs.ensures.ok made in
    search rules

pub returns-clause-opened : goal.returns-clause-opened
returns-clause-opened c =
    past c.args.root c.args.boot c.in_ok-base.base c.in_ok-base.ensures.ok c.in_ok-check_hrefs.ensures.ok
    ∙ ap (λ (o : Object). opened_made c.in_ok-base.base c.args.boot o) (sym c.in_ok-made.ensures)
    ∙ c.in_ok-opened.ensures.ok
