-- Own nodes stay where slots are set.
use Rattle.std.proofs.Common.{◌≡◌, true, Bool, List, ◌∷◌, ◌++◌, map, Option, Some, None, option_map, refl, sym, ap, ap₂, ◌∙◌}
use Rattle.std.specs.Prelude.{slice_get}
use Rattle.std.proofs.lemmas.List.{map-append}
use Rattle.std.proofs.lemmas.Option.{slice_get-map}
use Rattle.ob_object.specs.declared.head.Head.{Head}
use Rattle.ob_object.specs.Object.{Objects, none, node, Object}
use Rattle.ob_object.specs.Paths.{node_path}
use Rattle.ob_shown_laws.specs.Alike.{row, without_slot, DifferInSlots}
use Rattle.ob_shown_laws.specs.Changed.{is_watchable}
use Rattle.ob_tree.specs.Laid.{heads, heads_of, head_at}
use Rattle.ob_tree.specs.Paths.{place_of}
use Rattle.ob_tree.proofs.Contexts.{heads_row}
use Rattle.ob_site_watches.specs.Watched.{OwnNodesStay}

-- what heads say beside their slots is the same
module _ {A : Type 0} (f : Head → A) (same : (h k : Head) → without_slot h ≡ without_slot k → f h ≡ f k) where
  same_said : (os qs : Objects) → DifferInSlots os qs → map f (heads os) ≡ map f (heads qs)
  same_said none none d = refl
  same_said none (node k inner more) d = absurd d
  same_said (node h below rest) none d = absurd d
  same_said (node h below rest) (node k inner more) d =
      ap₂ (λ (x : A) (xs : List A). x ∷ xs) (same h k d.0)
      (map-append f (heads below) (heads rest)
      ∙ ap₂ (λ (xs ys : List A). xs ++ ys) (same_said below inner d.2) (same_said rest more d.3)
      ∙ sym (map-append f (heads inner) (heads more)))

  said_of : (o q : Object) → DifferInSlots (row o) (row q) → map f (heads_of o) ≡ map f (heads_of q)
  said_of o q d = ap (map f) (sym (heads_row o)) ∙ same_said (row o) (row q) d ∙ ap (map f) (heads_row q)

same_path : (h k : Head) → without_slot h ≡ without_slot k → node_path h ≡ node_path k
same_path h k e = ap (λ (u : Head). node_path u) e

same_watchable : (h k : Head) → without_slot h ≡ without_slot k → is_watchable h ≡ is_watchable k
same_watchable h k e = ap (λ (u : Head). is_watchable u) e

pub own_nodes_stay : OwnNodesStay
own_nodes_stay o q d p n own = (ap (place_of p) (sym (said_of node_path same_path o q d)) ∙ own.0, λ k is. go k is (head_at n o) refl)
  where
    go : (k : Head) → head_at n q ≡ Some k → (i : Option Head) → head_at n o ≡ i → is_watchable k ≡ true
    go k is i got =
        by_head k i got
        (ap (option_map is_watchable) (sym got)
        ∙ sym (slice_get-map is_watchable (heads_of o) n)
        ∙ ap (λ (l : List Bool). slice_get l n) (said_of is_watchable same_watchable o q d)
        ∙ slice_get-map is_watchable (heads_of q) n
        ∙ ap (option_map is_watchable) is)
      where
        by_head : (k : Head) (i : Option Head) → head_at n o ≡ i → option_map is_watchable i ≡ Some (is_watchable k) → is_watchable k ≡ true
        by_head k None got e = absurd cc
        by_head k (Some h) got e =
            let same : is_watchable h ≡ is_watchable k = cc in
            sym same ∙ own.1 h got
