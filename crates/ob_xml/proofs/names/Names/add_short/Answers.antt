use Rattle.std.proofs.Common.{◌≡◌, ◌++◌, sym, ap, subst, ◌∙◌, arith}
use Rattle.std.specs.FinSet as set
use Rattle.std.specs.Ordering.{nat_cmp}
use Rattle.std.specs.BTreeSet.{insert_key}
use Rattle.ob_xml.specs.Codes.{code_of, name_of, AreCodes}
use Rattle.ob_xml.proofs.Codes.{are_bytes, read_back}
use Rattle.ob_xml.proofs.NameSets.{named, codes_more, more_in_set, with_short}
use Rattle.ob_xml.proofs.names.Names.add_short.Goals as goal

pub invariant_of-self-2 : goal.invariant_of-self-2
invariant_of-self-2 c =
    let few = c.self.inside.few.items in
    let short = c.self.inside.short.keys in
    let back : name_of (code_of c.args.name.now) ≡ c.args.name.now = read_back c.args.name.now (are_bytes c.args.name.now (λ k h. omega (arith, c.type_inv.name k))) c.requires in
    let keys : c.insert.new.self.keys ≡ insert_key nat_cmp short (code_of c.args.name.now) = c.in_ok-insert.ensures.keys ∙ ap (insert_key nat_cmp short) c.code.ensures in
    (subst (λ ks. AreCodes (few ++ ks)) (sym keys) (codes_more (few ++ short) _ c.args.name.now (more_in_set few short (code_of c.args.name.now)) c.self.invariant.0 back), c.self.invariant.1)

pub returns : goal.returns
returns c =
    let few = c.self.inside.few.items in
    let short = c.self.inside.short.keys in
    let back : name_of (code_of c.args.name.now) ≡ c.args.name.now = read_back c.args.name.now (are_bytes c.args.name.now (λ k h. omega (arith, c.type_inv.name k))) c.requires in
    let keys : c.insert.new.self.keys ≡ insert_key nat_cmp short (code_of c.args.name.now) = c.in_ok-insert.ensures.keys ∙ ap (insert_key nat_cmp short) c.code.ensures in
    ap (λ ks. named (few ++ ks) c.self.inside.long.keys) keys
    ∙ with_short c.args.name.now (few ++ short) _ c.self.inside.long.keys (more_in_set few short (code_of c.args.name.now)) back ∙ ap (λ s. set.insert s c.args.name.now) c.self.view_is
