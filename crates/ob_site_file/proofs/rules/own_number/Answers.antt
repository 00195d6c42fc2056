use Rattle.std.proofs.Common.{◌≡◌, ap, ◌∙◌, sym, subst}
use Rattle.std.specs.Prelude.{IfSome, Option}
use Rattle.ob_alarms.specs.declared.rule.Num.{Num}
use Rattle.ob_object.specs.declared.head.Head.{Head}
use Rattle.ob_site_rules.specs.Writes.{number_in}
use Rattle.ob_site_file.specs.RulesAndRecords.{num_kind}
use Rattle.ob_site_file.proofs.Fits.{own_kind}
use Rattle.ob_site_file.proofs.rules.own_number.Goals as goal

pub returns-in-Some-clause-kind : goal.returns-in-Some-clause-kind
returns-in-Some-clause-kind c =
    subst (λ (n : Option Num). IfSome n (λ m. num_kind m ≡ c.args.kind)) (sym (c.number_in.ensures ∙ ap number_in c.slot.ensures ∙ ap (λ (h : Head). number_in h.slot) c.head.ensures.value))
    (own_kind c.args.name.now c.args.kind c.args.item.now c.in-Some.child.now c.in-Some.ensures c.head.ensures.fits)
