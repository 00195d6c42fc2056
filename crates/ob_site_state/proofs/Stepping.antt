-- One more step of the tree of a state.
use Rattle.std.proofs.Common.{ℕ, ◌≡◌, ◌+◌, ◌<◌, List, [], ◌∷◌, ◌++◌, map, take, length, get_or, All, refl, sym, ap, ◌∙◌, arith}
use Rattle.std.specs.Prelude.{replicate}
use Rattle.std.proofs.lemmas.List.{take_more, map-append}
use Rattle.std.proofs.lemmas.List.Elements.{All-get_or}
use Rattle.ob_object.specs.Object.{parts}
use Rattle.ob_tree.specs.Trees.{Stamped}
use Rattle.ob_tree.specs.declared.node.NodeId.{NodeId}
use Rattle.ob_tree.specs.LastTouch.{Begins, Touches, done, all_done}
use Rattle.ob_site_rules.specs.State.{State}
use Rattle.ob_site_state.specs.Kept.{Kept}
use Rattle.ob_site_state.specs.Stamping.{after_step, tree_of, stamped_by}
use Rattle.ob_site_state.proofs.Noting.{same_kept}

-- touches change neither the root nor the number of steps
pub rooted : (ns : List ℕ) (t : Stamped) → (all_done (map Touches ns) t).root ≡ t.root
rooted [] t = refl
rooted (n ∷ ns) t = rooted ns (done (Touches n) t)

-- nodes that are touched one by one
abbrev pub numbers_of : List NodeId → List ℕ
numbers_of nodes = map (λ node. node.number) nodes

touched_last : (ns : List ℕ) (n : ℕ) (t : Stamped) → all_done (map Touches (ns ++ n ∷ [])) t ≡ done (Touches n) (all_done (map Touches ns) t)
touched_last [] n t = refl
touched_last (m ∷ ns) n t = touched_last ns n (done (Touches m) t)

pub one_within : (nodes : List NodeId) (i : ℕ) (d : NodeId) (old t : Stamped) → i < length nodes → All (λ node. node.number < parts old.root) nodes
    → t ≡ after_step (numbers_of (take i nodes)) old → (get_or nodes i d).number < parts t.root
one_within nodes i d old t h all so_far =
    let root : t.root ≡ old.root = ap (λ (u : Stamped). u.root) so_far ∙ rooted (numbers_of (take i nodes)) (done Begins old) in
    let within : (get_or nodes i d).number < parts old.root = All-get_or (λ node. node.number < parts old.root) nodes i d h all in
    omega (arith, within, ap parts root)

pub touched_next : (nodes : List NodeId) (i : ℕ) (d : NodeId) (old t u : Stamped) → i < length nodes
    → t ≡ after_step (numbers_of (take i nodes)) old → u ≡ done (Touches (get_or nodes i d).number) t → u ≡ after_step (numbers_of (take (i + 1) nodes)) old
touched_next nodes i d old t u h so_far next =
    let x : NodeId = get_or nodes i d in
    next ∙ ap (done (Touches x.number)) so_far
    ∙ sym (touched_last (numbers_of (take i nodes)) x.number (done Begins old))
    ∙ ap (λ (ns : List ℕ). after_step ns old)
    (sym (ap numbers_of (take_more nodes i d h) ∙ map-append (λ (y : NodeId). y.number) (take i nodes) (x ∷ [])))

-- what a state stands for after that step
pub stamped_as : (old k : Kept) (t b : State) (u : Stamped) (ns : List ℕ) → old ≡ k → t ≡ old.now → b ≡ old.before → u ≡ after_step ns (tree_of old)
    → (let x : Kept = record { plan = old.plan; time = old.time; now = t; since = old.since; before = b; stamps = u.stamps; steps = u.steps } in x) ≡ stamped_by ns k
stamped_as old k t b u ns e is before next =
    same_kept old.plan old.time old.since t old.now b old.before u.stamps (after_step ns (tree_of old)).stamps u.steps (after_step ns (tree_of old)).steps is before
    (ap (λ (x : Stamped). x.stamps) next) (ap (λ (x : Stamped). x.steps) next)
    ∙ ap (stamped_by ns) e

-- and with its steps counted from 1 again
pub renumbered_as : (old k : Kept) (t b : State) (u : Stamped) → old ≡ k → t ≡ old.now → b ≡ old.before
    → u ≡ record (tree_of old) { stamps = replicate (parts old.now.tree) 1; steps = 1 }
    → (let x : Kept = record { plan = old.plan; time = old.time; now = t; since = old.since; before = b; stamps = u.stamps; steps = u.steps } in x)
    ≡ record k { stamps = replicate (parts k.now.tree) 1; steps = 1 }
renumbered_as old k t b u e is before next =
    same_kept old.plan old.time old.since t old.now b old.before u.stamps (replicate (parts old.now.tree) 1) u.steps 1 is before
    (ap (λ (x : Stamped). x.stamps) next) (ap (λ (x : Stamped). x.steps) next)
    ∙ ap (λ (x : Kept). let y : Kept = record x { stamps = replicate (parts x.now.tree) 1; steps = 1 } in y) e
