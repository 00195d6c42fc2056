use Rattle.std.proofs.Common.{ℕ, List, [], ◌∷◌, ◌++◌, ap, ◌∙◌}
use Rattle.std.specs.Prelude.{codes}
use Rattle.std.proofs.lemmas.Result.{IfOk-weaker}
use Rattle.ob_object.specs.declared.kind.Kind.TheVariants as kind
use Rattle.ob_object.specs.Object.{Object}
use Rattle.ob_site_rules.specs.Build.{valued, text_slot}
use Rattle.ob_replies.proofs.fixed.put_version.Goals as goal

pub returns : goal.returns
returns c =
    IfOk-weaker c.put.result _ _
    (λ _ put. put ∙ ap (λ (o : Object). c.args.objects.now.items ++ o ∷ []) (c.in_ok-valued.ensures ∙ ap (λ (t : List ℕ). valued kind.Str (codes "obixVersion") (text_slot t)) c.in_ok-version.ensures))
    c.put.ensures
