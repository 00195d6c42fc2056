use Rattle.std.proofs.Common.{◌≡◌, ◌++◌, ◌∷◌, [], sym, ap, subst, ◌∙◌, arith}
use Rattle.std.specs.FinSet as set
use Rattle.ob_xml.specs.Codes.{code_of, name_of, AreCodes}
use Rattle.ob_xml.proofs.Codes.{are_bytes, read_back}
use Rattle.ob_xml.proofs.NameSets.{named, codes_more, more_in_row, with_short}
use Rattle.ob_xml.proofs.names.Names.add_few.Goals as goal

pub invariant_of-self-2 : goal.invariant_of-self-2
invariant_of-self-2 c =
    let few = c.self.inside.few.items in
    let short = c.self.inside.short.keys in
    let back : name_of (code_of c.args.name.now) ≡ c.args.name.now = read_back c.args.name.now (are_bytes c.args.name.now (λ k h. omega (arith, c.type_inv.name k))) c.requires in
    let row : c.push.new.self.items ≡ few ++ code_of c.args.name.now ∷ [] = c.in_ok-push.ensures.items ∙ ap (λ n. few ++ n ∷ []) c.code.ensures in
    (subst (λ ks. AreCodes (ks ++ short)) (sym row) (codes_more (few ++ short) _ c.args.name.now (more_in_row few short (code_of c.args.name.now)) c.self.invariant.0 back), c.self.invariant.1)

pub returns : goal.returns
returns c =
    let few = c.self.inside.few.items in
    let short = c.self.inside.short.keys in
    let back : name_of (code_of c.args.name.now) ≡ c.args.name.now = read_back c.args.name.now (are_bytes c.args.name.now (λ k h. omega (arith, c.type_inv.name k))) c.requires in
    let row : c.push.new.self.items ≡ few ++ code_of c.args.name.now ∷ [] = c.in_ok-push.ensures.items ∙ ap (λ n. few ++ n ∷ []) c.code.ensures in
    ap (λ ks. named (ks ++ short) c.self.inside.long.keys) row
    ∙ with_short c.args.name.now (few ++ short) _ c.self.inside.long.keys (more_in_row few short (code_of c.args.name.now)) back ∙ ap (λ s. set.insert s c.args.name.now) c.self.view_is
