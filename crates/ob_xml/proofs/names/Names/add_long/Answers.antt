use Rattle.std.proofs.Common.{◌<◌, ◌++◌, length, sym, ap, subst, ◌∙◌, arith}
use Rattle.std.specs.FinSet as set
use Rattle.ob_xml.specs.Codes.{AreLong}
use Rattle.ob_xml.proofs.NameSets.{texts, named, long_more, with_long}
use Rattle.ob_xml.proofs.names.Names.add_long.Goals as goal

pub invariant_of-self-2 : goal.invariant_of-self-2
invariant_of-self-2 c =
    let lt : 15 < length c.args.name.items = omega (arith, c.requires, c.args.name.ok.0) in
    (c.self.invariant.0, subst (λ vs. AreLong (texts vs)) (sym c.in_ok-insert.ensures.keys) (long_more c.self.inside.long.keys c.args.name c.self.invariant.1 lt))

pub returns : goal.returns
returns c =
    ap (named (c.self.inside.few.items ++ c.self.inside.short.keys)) c.in_ok-insert.ensures.keys
    ∙ with_long (c.self.inside.few.items ++ c.self.inside.short.keys) c.self.inside.long.keys c.args.name ∙ ap (λ s. set.insert s c.args.name.items) c.self.view_is
