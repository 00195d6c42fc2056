-- Each own part has the same values exactly where no node shows itself otherwise.
use Rattle.std.proofs.Common.{◌≡◌, Bool, true, false, not, ◌&&◌, ◌||◌, Option, Some, None, refl, sym, ap, ap₂, ◌∙◌, true≢false}
use Rattle.std.specs.Prelude.{is_some}
use Rattle.ob_values.proofs.Bools.{or_first, or_second, not_not}
use Rattle.ob_values.proofs.Lists.{bytes_itself}
use Rattle.ob_object.specs.declared.head.Head.{Head}
use Rattle.ob_object.specs.Object.{Objects, none, node}
use Rattle.ob_object.specs.Paths.{is_path, node_path}
use Rattle.ob_contracts.specs.Inherit.{or_else, only_if}
use Rattle.ob_site_rules.specs.Build.{Path}
use Rattle.ob_shown_laws.specs.Alike.{without_values, AreAlike}
use Rattle.ob_tree.specs.Contexts.{Context, HandedDown, handed_down, under}
use Rattle.ob_shown_laws.specs.Standing.{Standing, standing_in}
use Rattle.ob_shown_laws.specs.Changed.{same_values, head_in, same_leaves, same_node, same_standing, is_in, PathsDiffer}
use Rattle.ob_shown_laws.proofs.Alikes.{same_parts, under_alike, handed_alike}

-- a test of paths, where there is one
abbrev pub holds_at : (Path → Bool) → Option Path → Bool
holds_at test None = false
holds_at test (Some p) = test p

abbrev pub any_in : (Path → Bool) → Objects → Bool
any_in test none = false
any_in test (node h inner rest) = holds_at test (node_path h) || (any_in test inner || any_in test rest)

-- a test holds of a node that shows itself otherwise, and only of such
abbrev pub TellsAt : (Path → Bool) → Option Path → Bool → Type 0
TellsAt test None same = Unit {0}
TellsAt test (Some p) same = same ≡ not (test p)

abbrev pub TellsIn : (Path → Bool) → HandedDown → Objects → Objects → Type 0
TellsIn test r none qs = Unit {0}
TellsIn test r (node h below rest) none = Unit {0}
TellsIn test r (node h below rest) (node k inner more) =
    TellsAt test (node_path h) (same_node (under r h.name) (record { head = h; inner = below }) (record { head = k; inner = inner }))
    × TellsIn test (handed_down (under r h.name) h) below inner
    × TellsIn test r rest more

at_node : (P L d A M B : Bool) → (P && L) ≡ not d → (P && ((L && not A) && (M && not B))) ≡ (M && not (d || (A || B)))
at_node false L true A true B e = refl
at_node false L true A false B e = refl
at_node false L false A M B e = absurd cc
at_node true false true A true B e = refl
at_node true false true A false B e = refl
at_node true false false A M B e = absurd cc
at_node true true false true true B e = refl
at_node true true false true false B e = refl
at_node true true false false M B e = refl
at_node true true true A M B e = absurd cc

at_leaf : (P L A M B : Bool) → (P && ((L && not A) && (M && not B))) ≡ (((P && L) && M) && not (A || B))
at_leaf false L A M B = refl
at_leaf true false A M B = refl
at_leaf true true true true B = refl
at_leaf true true true false B = refl
at_leaf true true false M B = refl

at_either : (test : Path → Bool) (o : Option Path) (P L A M B : Bool) → TellsAt test o (P && L)
    → (P && ((L && not A) && (M && not B))) ≡ (((is_some o || (P && L)) && M) && not (holds_at test o || (A || B)))
at_either test None P L A M B t = at_leaf P L A M B
at_either test (Some p) P L A M B t = at_node P L (test p) A M B t

pub parts_by_nodes : (test : Path → Bool) (r : HandedDown) (os qs : Objects) → AreAlike os qs → TellsIn test r os qs → same_parts r os qs ≡ (same_leaves r os qs && not (any_in test os))
parts_by_nodes test r none none a t = refl
parts_by_nodes test r none (node k inner more) a t = absurd a
parts_by_nodes test r (node h below rest) none a t = absurd a
parts_by_nodes test r (node h below rest) (node k inner more) a t =
    ap₂ (λ x y. own && (x && y))
    (parts_by_nodes test (handed_down (under r h.name) h) below inner a.1 t.1)
    (parts_by_nodes test r rest more a.2 t.2)
    ∙ at_either test (node_path h) own (same_leaves (handed_down (under r h.name) h) below inner) (any_in test below) (same_leaves r rest more) (any_in test rest) t.0
  where
    own : Bool
    own = same_values (head_in (under r h.name) h) (head_in (under r h.name) k)

-- a node and all in it
pub node_by_nodes : (test : Path → Bool) (c : Context) (h k : Head) (below inner : Objects) (p : Path) → node_path h ≡ Some p → AreAlike below inner
    → TellsAt test (node_path h) (same_node c (record { head = h; inner = below }) (record { head = k; inner = inner })) → TellsIn test (handed_down c h) below inner
    → (same_values (head_in c h) (head_in c k) && same_parts (handed_down c h) below inner) ≡ not (holds_at test (node_path h) || any_in test below)
node_by_nodes test c h k below inner p is a here deep =
    ap (λ b. own && b) (parts_by_nodes test (handed_down c h) below inner a deep)
    ∙ whole own (same_leaves (handed_down c h) below inner) (holds_at test (node_path h)) (any_in test below) (at_some (node_path h) is here)
  where
    own : Bool
    own = same_values (head_in c h) (head_in c k)

    at_some : (o : Option Path) → o ≡ Some p → TellsAt test o (own && same_leaves (handed_down c h) below inner) → (own && same_leaves (handed_down c h) below inner) ≡ not (holds_at test o)
    at_some None e t = absurd cc
    at_some (Some q) e t = t

    whole : (P L d A : Bool) → (P && L) ≡ not d → (P && (L && not A)) ≡ not (d || A)
    whole false L true A e = refl
    whole false L false A e = absurd cc
    whole true false true A e = refl
    whole true false false A e = absurd cc
    whole true true false A e = refl
    whole true true true A e = absurd cc

pub path_alike : (h k : Head) → without_values h ≡ without_values k → node_path h ≡ node_path k
path_alike h k e = ap (λ (u : Head). node_path u) e

pub in_alike : (p : Path) (os qs : Objects) → AreAlike os qs → is_in p os ≡ is_in p qs
in_alike p none none a = refl
in_alike p none (node k inner more) a = absurd a
in_alike p (node h below rest) none a = absurd a
in_alike p (node h below rest) (node k inner more) a =
    ap₂ (λ x y. x || y) (ap (is_path p) (path_alike h k a.0)) (ap₂ (λ x y. x || y) (in_alike p below inner a.1) (in_alike p rest more a.2))

some_either : (a b : Option Standing) → is_some (or_else a b) ≡ (is_some a || is_some b)
some_either None b = refl
some_either (Some x) b = refl

some_if : (b : Bool) (x : Standing) → is_some (only_if b (Some x)) ≡ b
some_if true x = refl
some_if false x = refl

pub there : (p : Path) (r : HandedDown) (os : Objects) → is_some (standing_in p r os) ≡ is_in p os
there p r none = refl
there p r (node h below rest) =
    some_either (only_if (is_path p (node_path h)) (Some x)) (or_else (standing_in p (handed_down (under r h.name) h) below) (standing_in p r rest))
    ∙ ap₂ (λ a b. a || b) (some_if (is_path p (node_path h)) x)
    (some_either (standing_in p (handed_down (under r h.name) h) below) (standing_in p r rest)
    ∙ ap₂ (λ a b. a || b) (there p (handed_down (under r h.name) h) below) (there p r rest))
  where
    x : Standing
    x = record { context = under r h.name; object = record { head = h; inner = below } }

-- which of a row's parts has the node
pub found_here : (p : Path) (r : HandedDown) (h : Head) (below rest : Objects) → is_path p (node_path h) ≡ true
    → standing_in p r (node h below rest) ≡ Some (record { context = under r h.name; object = record { head = h; inner = below } })
found_here p r h below rest e =
    ap (λ b. or_else (only_if b (Some x)) (or_else (standing_in p (handed_down (under r h.name) h) below) (standing_in p r rest))) e
  where
    x : Standing
    x = record { context = under r h.name; object = record { head = h; inner = below } }

first_some : (a b : Option Standing) → is_some a ≡ true → or_else a b ≡ a
first_some None b e = absurd cc
first_some (Some x) b e = refl

first_none : (a b : Option Standing) → is_some a ≡ false → or_else a b ≡ b
first_none None b e = refl
first_none (Some x) b e = absurd cc

found_below : (p : Path) (r : HandedDown) (h : Head) (below rest : Objects) → is_path p (node_path h) ≡ false → is_in p below ≡ true
    → standing_in p r (node h below rest) ≡ standing_in p (handed_down (under r h.name) h) below
found_below p r h below rest e f =
    ap (λ b. or_else (only_if b (Some x)) (or_else (standing_in p (handed_down (under r h.name) h) below) (standing_in p r rest))) e
    ∙ first_some (standing_in p (handed_down (under r h.name) h) below) (standing_in p r rest) (there p (handed_down (under r h.name) h) below ∙ f)
  where
    x : Standing
    x = record { context = under r h.name; object = record { head = h; inner = below } }

pub found_behind : (p : Path) (r : HandedDown) (h : Head) (below rest : Objects) → is_path p (node_path h) ≡ false → is_in p below ≡ false
    → standing_in p r (node h below rest) ≡ standing_in p r rest
found_behind p r h below rest e f =
    ap (λ b. or_else (only_if b (Some x)) (or_else (standing_in p (handed_down (under r h.name) h) below) (standing_in p r rest))) e
    ∙ first_none (standing_in p (handed_down (under r h.name) h) below) (standing_in p r rest) (there p (handed_down (under r h.name) h) below ∙ f)
  where
    x : Standing
    x = record { context = under r h.name; object = record { head = h; inner = below } }

-- what is true of the one side can't be where none may be
pub not_both : (a b : Bool) → (a ≡ true → b ≡ false) → b ≡ true → a ≡ false
not_both true b f e = absurd (true≢false (sym e ∙ f refl))
not_both false b f e = refl

-- a test that is told by lookups in the rows tells their nodes
abbrev IsLookup : (Path → Bool) → HandedDown → Objects → Objects → Type 0
IsLookup test r os qs = (p : Path) → is_in p os ≡ true → test p ≡ not (same_standing (standing_in p r os) (standing_in p r qs))

pub tells_nodes : (test : Path → Bool) (r : HandedDown) (os qs : Objects) → AreAlike os qs → PathsDiffer os → IsLookup test r os qs → TellsIn test r os qs
tells_nodes test r none qs a d look = tt
tells_nodes test r (node h below rest) none a d look = tt
tells_nodes test r (node h below rest) (node k inner more) a d look = (
  at_own (node_path h) refl,
  tells_nodes test (handed_down (under r h.name) h) below inner a.1 d.2 deep,
  tells_nodes test r rest more a.2 d.3 behind,
)
  where
    x : Standing
    x = record { context = under r h.name; object = record { head = h; inner = below } }

    y : Standing
    y = record { context = under r k.name; object = record { head = k; inner = inner } }

    at_own : (o : Option Path) → node_path h ≡ o → TellsAt test o (same_node (under r h.name) (record { head = h; inner = below }) (record { head = k; inner = inner }))
    at_own None e = tt
    at_own (Some p) e =
        let own : is_path p (node_path h) ≡ true = ap (is_path p) e ∙ bytes_itself p in
        let its : is_path p (node_path k) ≡ true = ap (is_path p) (sym (path_alike h k a.0)) ∙ own in
        let is : test p ≡ not (same_standing (Some x) (Some y)) =
        look p (or_first (is_path p (node_path h)) (is_in p below || is_in p rest) own)
        ∙ ap₂ (λ u v. not (same_standing u v)) (found_here p r h below rest own) (found_here p r k inner more its) in
        sym (ap not is ∙ not_not (same_standing (Some x) (Some y)))

    deep : IsLookup test (handed_down (under r h.name) h) below inner
    deep p e =
        let own : is_path p (node_path h) ≡ false = not_both (is_path p (node_path h)) (is_in p below || is_in p rest) (d.0 p) (or_first (is_in p below) (is_in p rest) e) in
        let its : is_path p (node_path k) ≡ false = ap (is_path p) (sym (path_alike h k a.0)) ∙ own in
        look p (or_second (is_path p (node_path h)) (is_in p below || is_in p rest) (or_first (is_in p below) (is_in p rest) e))
        ∙ ap₂ (λ u v. not (same_standing u v)) (found_below p r h below rest own e)
        (found_below p r k inner more its (sym (in_alike p below inner a.1) ∙ e)
        ∙ ap (λ (c : Context). standing_in p (handed_down c k) inner) (under_alike r h k a.0)
        ∙ ap (λ (v : HandedDown). standing_in p v inner) (handed_alike (under r h.name) h k a.0))

    behind : IsLookup test r rest more
    behind p e =
        let own : is_path p (node_path h) ≡ false = not_both (is_path p (node_path h)) (is_in p below || is_in p rest) (d.0 p) (or_second (is_in p below) (is_in p rest) e) in
        let its : is_path p (node_path k) ≡ false = ap (is_path p) (sym (path_alike h k a.0)) ∙ own in
        let lower : is_in p below ≡ false = not_both (is_in p below) (is_in p rest) (d.1 p) e in
        look p (or_second (is_path p (node_path h)) (is_in p below || is_in p rest) (or_second (is_in p below) (is_in p rest) e))
        ∙ ap₂ (λ u v. not (same_standing u v)) (found_behind p r h below rest own lower)
        (found_behind p r k inner more its (sym (in_alike p below inner a.1) ∙ lower))

-- and the nodes of a row that is alike have different paths where those of the row have
pub differ_alike : (os qs : Objects) → AreAlike os qs → PathsDiffer os → PathsDiffer qs
differ_alike none none a d = tt
differ_alike none (node k inner more) a d = absurd a
differ_alike (node h below rest) none a d = absurd a
differ_alike (node h below rest) (node k inner more) a d = (
  λ p e. sym (ap₂ (λ x y. x || y) (in_alike p below inner a.1) (in_alike p rest more a.2)) ∙ d.0 p (ap (is_path p) (path_alike h k a.0) ∙ e),
  λ p e. sym (in_alike p rest more a.2) ∙ d.1 p (in_alike p below inner a.1 ∙ e),
  differ_alike below inner a.1 d.2,
  differ_alike rest more a.2 d.3,
)
