use Rattle.std.proofs.Common.{sym, ap, ◌∙◌}
use Rattle.ob_object.specs.Kinds.{is_ref}
use Rattle.ob_roles.proofs.Handed.{above_ref, above_both}
use Rattle.ob_roles.proofs.given.above_of.Goals as goal

pub returns-then-is_ref : goal.returns-then-is_ref
returns-then-is_ref c = λ lib implied o k f. record {
  finds = above_ref lib c.args.head.now c.args.base.now implied o c.args.over.now k f (sym (ap is_ref c.kind.ensures) ∙ sym c.is_ref.ensures ∙ c.if-is_ref.true);
}

pub returns : goal.returns
returns c = λ lib implied o k f. record {
  finds = above_both lib c.args.head.now c.args.base.now implied o c.args.over.now k f (sym (ap is_ref c.kind.ensures) ∙ sym c.is_ref.ensures ∙ c.if-is_ref.false);
}
