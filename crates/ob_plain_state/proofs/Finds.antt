-- The node at a path, looked for among children.
use Rattle.std.proofs.Common.{◌≡◌, ℕ, zero, suc, ◌+◌, ◌<◌, ◌≤◌, true, false, List, [], ◌∷◌, length, drop, get_or, Option, Some, None, refl, sym, ap, ◌∙◌, arith, add-one, Bor}
use Rattle.std.specs.Prelude.{is_some}
use Rattle.std.specs.Option.{option_copied}
use Rattle.std.proofs.Math.Seq.{drop-cons}
use Rattle.ob_object.specs.Object.{Object, in_row, children, in_row-listed}
use Rattle.ob_object.specs.Paths.{is_path, node_path}
use Rattle.ob_contracts.specs.Inherit.{or_else, only_if}
use Rattle.ob_contracts.proofs.Found.{or_none}
use Rattle.ob_site_rules.specs.Build.{Path}
use Rattle.ob_site_rules.specs.Shown.{node_in, node_of}

or_else-assoc : (a b r : Option Object) → or_else a (or_else b r) ≡ or_else (or_else a (or_else b None)) r
or_else-assoc None None r = refl
or_else-assoc None (Some b) r = refl
or_else-assoc (Some a) b r = refl

pub node_in-cons : (p : Path) (c : Object) (cs : List Object) → node_in p (in_row (c ∷ cs)) ≡ or_else (node_of p c) (node_in p (in_row cs))
node_in-cons p c cs =
    or_else-assoc (only_if (is_path p (node_path c.head)) (Some (record { head = c.head; inner = c.inner }))) (node_in p c.inner) (node_in p (in_row cs))

node_in-drop : (p : Path) (cs : List Object) (i : ℕ) (x : Object) → i < length cs → x ≡ get_or cs i x → node_in p (in_row (drop i cs)) ≡ or_else (node_of p x) (node_in p (in_row (drop (i + 1) cs)))
node_in-drop p cs i x lt is =
    ap (λ (l : List Object). node_in p (in_row l)) (drop-cons cs i x lt ∙ ap (λ y. y ∷ drop (suc i) cs) (sym is))
    ∙ node_in-cons p x (drop (suc i) cs)
    ∙ ap (λ n. or_else (node_of p x) (node_in p (in_row (drop n cs)))) (sym (add-one i))

-- the node is in the child that is looked at
pub in_child : (p : Path) (cs : List Object) (i : ℕ) (x : Object) (found r : Option Object) → node_in p (in_row (drop i cs)) ≡ r → i < length cs → x ≡ get_or cs i x
    → found ≡ node_of p x → is_some found ≡ true → found ≡ r
in_child p cs i x None r so_far lt is here there = absurd cc
in_child p cs i x (Some y) r so_far lt is here there =
    ap (λ o. or_else o (node_in p (in_row (drop (i + 1) cs)))) here ∙ sym (node_in-drop p cs i x lt is) ∙ so_far

-- the node isn't in it
pub not_in_child : (p : Path) (cs : List Object) (i : ℕ) (x : Object) (found r : Option Object) → node_in p (in_row (drop i cs)) ≡ r → i < length cs → x ≡ get_or cs i x
    → found ≡ node_of p x → is_some found ≡ false → node_in p (in_row (drop (i + 1) cs)) ≡ r
not_in_child p cs i x None r so_far lt is here there =
    ap (λ o. or_else o (node_in p (in_row (drop (i + 1) cs)))) here ∙ sym (node_in-drop p cs i x lt is) ∙ so_far
not_in_child p cs i x (Some y) r so_far lt is here there = absurd cc

pub in_none : (p : Path) (cs : List Object) (i : ℕ) → length cs ≤ i → node_in p (in_row (drop i cs)) ≡ None
in_none p [] zero h = refl
in_none p [] (suc i) h = refl
in_none p (c ∷ cs) zero h = absurd (omega arith)
in_none p (c ∷ cs) (suc i) h = in_none p cs i (omega arith)

-- an object that isn't at the path itself
pub within : (p : Path) (o : Object) (found : Option Object) → is_path p (node_path o.head) ≡ false → found ≡ node_in p (in_row (children o)) → found ≡ node_of p o
within p o found here is =
    is
    ∙ ap (node_in p) (in_row-listed o.inner)
    ∙ sym (ap (λ b. or_else (only_if b (Some (record { head = o.head; inner = o.inner }))) (or_else (node_in p o.inner) None)) here ∙ or_none (node_in p o.inner))

pub itself : (p : Path) (o : Object) → is_path p (node_path o.head) ≡ true → Some o ≡ node_of p o
itself p o here = sym (ap (λ b. or_else (only_if b (Some (record { head = o.head; inner = o.inner }))) (or_else (node_in p o.inner) None)) here)

-- what a reference points to is there where the reference is
pub copied_there : (o : Option (Bor Object)) → is_some o ≡ true → is_some (option_copied o) ≡ true
copied_there None h = h
copied_there (Some x) h = refl
