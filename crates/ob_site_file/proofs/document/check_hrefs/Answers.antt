use Rattle.std.proofs.Common.{◌≡◌, sym, ap, ◌∙◌, arith}
use Rattle.ob_object.specs.Object.{in_row, count}
use Rattle.ob_hrefs.specs.Hrefs.{site_path, bad_href}
use Rattle.ob_hrefs.proofs.Rows.{inner_row}
use Rattle.ob_site_file.proofs.Refusing.{bad_one}
use Rattle.ob_site_file.proofs.document.check_hrefs.Goals as goal

pub bad_href-requires : goal.bad_href-requires
bad_href-requires c =
    let row : in_row c.children.result.now ≡ c.args.root.now.inner = inner_row c.args.root.now c.children.result.now c.children.ensures.value in
    omega (arith, ap count row, c.requires)

pub returns-in-Some-clause-err : goal.returns-in-Some-clause-err
returns-in-Some-clause-err c = λ boot url.
    let root = c.args.root.now in
    let base = c.args.base.now in
    let row : in_row c.children.result.now ≡ root.inner = inner_row root c.children.result.now c.children.ensures.value in
    bad_one root boot base c.in-Some.part url (ap (bad_href (site_path base) 1) (sym row) ∙ sym c.in_ok-part.ensures ∙ c.in-Some.is)

pub returns-in-None-clause-ok : goal.returns-in-None-clause-ok
returns-in-None-clause-ok c =
    let root = c.args.root.now in
    let row : in_row c.children.result.now ≡ root.inner = inner_row root c.children.result.now c.children.ensures.value in
    ap (bad_href (site_path c.args.base.now) 1) (sym row) ∙ sym c.in_ok-part.ensures ∙ c.in-None.is
