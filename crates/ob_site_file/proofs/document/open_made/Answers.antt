use Rattle.std.proofs.Common.{true, false, ap, sym, ◌∙◌, rules}
use Rattle.std.specs.Prelude.{Ok, nat_lt}
use Rattle.ob_contracts.specs.Inherit.{Contracts}
use Rattle.ob_object.specs.Object.{parts}
use Rattle.ob_site_rules.specs.Shown.{shown_root}
use Rattle.ob_site_rules.specs.Sites.{SiteState}
use Rattle.ob_site_file.specs.Opened.{Plans}
use Rattle.ob_site_file.proofs.Opens.{site_is}
use Rattle.ob_site_file.proofs.Refusing.{made_refused, made_opens}
use Rattle.ob_site_file.proofs.document.open_made.Goals as goal

pub returns-in_err-judged-clause-err : goal.returns-in_err-judged-clause-err
returns-in_err-judged-clause-err c = let e = made_refused c.args.base c.args.boot c.args.root c.in_err-judged.field-0.0 c.in_err-judged.ensures.err in search rules

pub returns-then-large-clause-err : goal.returns-then-large-clause-err
returns-then-large-clause-err c =
    let base = c.args.base in
    let boot = c.args.boot in
    let root = c.args.root in
    let lib : Contracts = c.in_ok-judged.judged.library in
    let plans : Plans base boot root lib c.in_ok-opened.opened = c.in_ok-opened.ensures c.in_ok-judged.ensures.roles in
    let same = site_is base boot root lib c.in_ok-opened.opened plans c.in_ok-judged.ensures.apart.sound in
    made_opens base boot root lib true c.in_ok-judged.ensures.library c.in_ok-judged.ensures.apart
    (sym c.if-large.true ∙ c.in_ok-large.ensures ∙ ap (λ (st : SiteState). nat_lt 200_000 (parts (shown_root st.plan st.world.site))) same)

pub returns-else-large-clause-ok : goal.returns-else-large-clause-ok
returns-else-large-clause-ok c =
    let base = c.args.base in
    let boot = c.args.boot in
    let root = c.args.root in
    let lib : Contracts = c.in_ok-judged.judged.library in
    let plans : Plans base boot root lib c.in_ok-opened.opened = c.in_ok-opened.ensures c.in_ok-judged.ensures.roles in
    let same = site_is base boot root lib c.in_ok-opened.opened plans c.in_ok-judged.ensures.apart.sound in
    made_opens base boot root lib false c.in_ok-judged.ensures.library c.in_ok-judged.ensures.apart
    (sym c.if-large.false ∙ c.in_ok-large.ensures ∙ ap (λ (st : SiteState). nat_lt 200_000 (parts (shown_root st.plan st.world.site))) same)
    ∙ ap (λ (st : SiteState). Ok st) (sym same)

pub returns-else-large-clause-counted : goal.returns-else-large-clause-counted
returns-else-large-clause-counted c =
    let plans : Plans c.args.base c.args.boot c.args.root c.in_ok-judged.judged.library c.in_ok-opened.opened = c.in_ok-opened.ensures c.in_ok-judged.ensures.roles in
    plans.counted
