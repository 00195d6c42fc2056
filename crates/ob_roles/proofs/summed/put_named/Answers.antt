use Rattle.std.proofs.Common.{◌≡◌, true, false, ◌∷◌, [], List, ℕ, Some, sym, ap, ◌∙◌}
use Rattle.std.specs.Ordering.{nat_cmp}
use Rattle.std.specs.Cmp.Lexicographic.{slice_cmp}
use Rattle.std.specs.BTreeMap.{get_by}
use Rattle.ob_object.specs.Object.{children}
use Rattle.ob_object.specs.WellFormed.{is_taken, with_child}
use Rattle.ob_contracts.proofs.Found.{copied_some}
use Rattle.ob_roles.proofs.InPlace.{put_nameless, put_there, put_free, put_new, names_put}
use Rattle.ob_roles.proofs.summed.put_named.Goals as goal

pub returns-in_default : goal.returns-in_default
returns-in_default c = λ has. (put_nameless c.args.object.now c.args.child.now c.in_default.ensures, has)

pub returns-then-contains_key : goal.returns-then-contains_key
returns-then-contains_key c = λ has.
    let m = c.as_str.result.now in
    let there = c.args.there.now in
    let taken : is_taken (Some m) (children c.args.object.now) ≡ true =
    sym (has m) ∙ copied_some (get_by (λ k. slice_cmp nat_cmp m k.now) there) ∙ sym c.contains_key.ensures ∙ c.if-contains_key.true in
    (put_there c.args.object.now c.args.child.now m (ap (λ (x : List ℕ). Some x) c.as_str.ensures.value ∙ c.in-Some.ensures) taken, has)

pub returns : goal.returns
returns c = λ has.
    let m = c.as_str.result.now in
    let there = c.args.there.now in
    let o = c.args.object.now in
    let x = c.args.child.now in
    let new = c.put_if_new.new.object in
    let name = ap (λ (y : List ℕ). Some y) c.as_str.ensures.value ∙ c.in-Some.ensures in
    let free : is_taken (Some m) (children o) ≡ false =
    sym (has m) ∙ copied_some (get_by (λ k. slice_cmp nat_cmp m k.now) there) ∙ sym c.contains_key.ensures ∙ c.if-contains_key.false in
    let put : new ≡ with_child o x = put_free o new x c.in_ok-copy.copy m c.in_ok-copy.ensures name free c.in_ok-put_if_new.ensures in
    (put_new o new x m name free put, names_put there c.put_first.new.names o new x c.from_ref.result.now c.from_ref.ensures.value c.in_ok-put_first.ensures put has)
