use Rattle.std.proofs.Common.{◌≡◌, ◌++◌, ◌∷◌, [], ◌||◌, Bool, true, cond, codes, None, List, ap, sym, ◌∙◌}
use Rattle.ob_parts.specs.Least.{least}
use Rattle.ob_parts.specs.declared.offence.Offence.{Offence}
use Rattle.ob_site_rules.specs.Loading.{Part, breaks, setting_rule, has_bad_source, has_bad_capacity, bad_records, items_of}
use Rattle.ob_site_rules.specs.declared.site_rule.SiteRule.{SiteRule}
use Rattle.ob_roles.specs.SiteParts.{part as site_part}
use Rattle.ob_site_file.proofs.Worst.{history_is}
use Rattle.ob_site_file.proofs.bad.bad_history.Goals as goal

pub returns-then-part : goal.returns-then-part
returns-then-part c = λ ps sees.
    let p : Part = site_part c.args.part.now in
    let all : List (Offence SiteRule) = cond (has_bad_source ps p || has_bad_capacity p) (breaks (setting_rule ps p) p.number ∷ []) [] ++ bad_records None (items_of (codes "data") p) in
    c.earlier.ensures
    ∙ history_is ps p c.bad_settings.result c.bad_record.result (c.bad_settings.ensures ps sees) (c.bad_record.ensures ∙ ap (λ l. least (bad_records None l)) (c.items_of.ensures.items c.requires))
    ∙ ap (λ (b : Bool). least (cond b all [])) (sym c.if-part.true)
