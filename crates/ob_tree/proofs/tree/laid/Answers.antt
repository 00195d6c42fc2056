use Rattle.std.proofs.Common.{◌≡◌, ◌++◌, ℕ, List, [], length, map, replicate, None, refl, sym, ap, ◌∙◌, subst}
use Rattle.std.proofs.lemmas.List.{length-replicate}
use Rattle.ob_object.specs.declared.head.Head.{Head}
use Rattle.ob_object.specs.Object.{Object, parts}
use Rattle.ob_object.specs.Paths.{node_path}
use Rattle.ob_tree.specs.declared.spot.Spot.{Spot}
use Rattle.ob_tree.specs.Paths.{first_twice, place_of}
use Rattle.ob_tree.specs.Laid.{heads_of, spots_of, leaf, said, AreLeaves}
use Rattle.ob_tree.proofs.StandsFor.{laid_as, stands_for, same_tree}
use Rattle.ob_tree.proofs.Leaves.{are_leaves, said_leaves, count_leaves}
use Rattle.ob_tree.proofs.tree.laid.Goals as goal

pub invariant_of-result : goal.invariant_of-result
invariant_of-result c =
    let o = c.args.root.now in
    let os = c.lay_leaves.new.into.items in
    let all : os ≡ map leaf (heads_of o) = c.in_ok-lay_leaves.ensures ∙ ap (λ (l : List Object). l ++ map leaf (heads_of o)) c.in_ok-leaves.ensures.items in
    let h : said os ≡ heads_of o = ap said all ∙ said_leaves (heads_of o) in
    let both = rw c.in-Ok.is at c.in_ok-places.ensures in
    let n = ap length c.in_ok-stamps.ensures ∙ length-replicate c.len-2.result 0 ∙ c.len-2.ensures ∙ c.lay_leaves.new.into.ok.0 ∙ count_leaves o os h in
    record {
      leaves = subst (λ (l : List Object). AreLeaves l) (sym all) (are_leaves (heads_of o));
      laid = laid_as o (said os) c.lay_spots.new.into.items c.in_ok-stamps.stamps.items c.in-Ok.places h
          (c.in_ok-lay_spots.ensures ∙ ap (λ (l : List Spot). l ++ spots_of (length l) None o) c.in_ok-spots.ensures.items)
          n
          (λ p. both.1 p ∙ ap (λ (l : List Object). place_of p (map node_path (said l))) c.deref.ensures.value)
          (sym (ap (λ (l : List Object). first_twice [] (map node_path (said l))) c.deref.ensures.value) ∙ both.0)
          c.head-head.ensures.well_formed;
    }

pub returns-in-Ok : goal.returns-in-Ok
returns-in-Ok c =
    let o = c.args.root.now in
    let os = c.lay_leaves.new.into.items in
    let all : os ≡ map leaf (heads_of o) = c.in_ok-lay_leaves.ensures ∙ ap (λ (l : List Object). l ++ map leaf (heads_of o)) c.in_ok-leaves.ensures.items in
    let h : said os ≡ heads_of o = ap said all ∙ said_leaves (heads_of o) in
    let s : c.lay_spots.new.into.items ≡ spots_of 0 None o = c.in_ok-lay_spots.ensures ∙ ap (λ (l : List Spot). l ++ spots_of (length l) None o) c.in_ok-spots.ensures.items in
    let both = rw c.in-Ok.is at c.in_ok-places.ensures in
    let n : c.len-2.result ≡ parts o = c.len-2.ensures ∙ c.lay_leaves.new.into.ok.0 ∙ count_leaves o os h in (
      ap (λ (l : List Head). first_twice [] (map node_path l)) (sym h) ∙ sym (ap (λ (l : List Object). first_twice [] (map node_path (said l))) c.deref.ensures.value) ∙ both.0,
      same_tree _ _ _ _ _ _ (stands_for o (said os) c.lay_spots.new.into.items h s) (c.in_ok-stamps.ensures ∙ ap (λ (k : ℕ). replicate k 0) n) refl,
    )

pub returns-in-Err : goal.returns-in-Err
returns-in-Err c =
    let o = c.args.root.now in
    let os = c.lay_leaves.new.into.items in
    let all : os ≡ map leaf (heads_of o) = c.in_ok-lay_leaves.ensures ∙ ap (λ (l : List Object). l ++ map leaf (heads_of o)) c.in_ok-leaves.ensures.items in
    let h : said os ≡ heads_of o = ap said all ∙ said_leaves (heads_of o) in
    let twice = rw c.in-Err.is at c.in_ok-places.ensures in
    ap (λ (l : List Head). first_twice [] (map node_path l)) (sym h) ∙ sym (ap (λ (l : List Object). first_twice [] (map node_path (said l))) c.deref.ensures.value) ∙ twice
