-- The names that roles derive.
use Rattle.std.proofs.Common.{◌≡◌, Bool, true, false, cond, not, ◌&&◌, ◌||◌, codes, List, [], ◌∷◌, ◌++◌, Option, Some, None, refl, ap, ◌∙◌, true≢false}
use Rattle.std.proofs.lemmas.Slice.Eq.{bytes_eq-Decides}
use Rattle.ob_values.proofs.Bools.{and_false, both_false}
use Rattle.ob_object.specs.declared.kind.Kind.{Kind}
use Rattle.ob_object.specs.declared.kind.Kind.TheVariants as kind
use Rattle.ob_object.specs.declared.head.Head.{Head}
use Rattle.ob_object.specs.Kinds.{same_kind}
use Rattle.ob_object.specs.WellFormed.{has_name}
use Rattle.ob_site_rules.specs.Build.{Text}
use Rattle.ob_site_rules.specs.State.{is_among}
use Rattle.ob_site_rules.specs.declared.roles.Roles.{Roles}
use Rattle.ob_site_rules.specs.Roles.{derived_names, name_among, is_dropped}

-- the names that roles derive, by the flags of a lobby, a point, a history and a subject
abbrev pub names : Bool → Bool → Bool → Bool → List Text
names l p h s =
    cond l (codes "about" ∷ codes "batch" ∷ codes "watchService" ∷ []) []
    ++ (cond p (codes "writePoint" ∷ []) []
    ++ (cond h (codes "count" ∷ codes "start" ∷ codes "end" ∷ codes "query" ∷ codes "feed" ∷ []) []
    ++ cond s (codes "count" ∷ codes "query" ∷ codes "feed" ∷ []) []))

pub same_names : (l m p q h i s t : Bool) → l ≡ m → p ≡ q → h ≡ i → s ≡ t → names l p h s ≡ names m q i t
same_names l m p q h i s t a b c d =
    ap (λ x. names x p h s) a ∙ ap (λ x. names m x h s) b ∙ ap (λ x. names m q x s) c ∙ ap (λ x. names m q i x) d

-- none of them is `contracts`
contracts_among : (l p h s : Bool) → is_among (codes "contracts") (names l p h s) ≡ false
contracts_among true true true true = refl
contracts_among true true true false = refl
contracts_among true true false true = refl
contracts_among true true false false = refl
contracts_among true false true true = refl
contracts_among true false true false = refl
contracts_among true false false true = refl
contracts_among true false false false = refl
contracts_among false true true true = refl
contracts_among false true true false = refl
contracts_among false true false true = refl
contracts_among false true false false = refl
contracts_among false false true true = refl
contracts_among false false true false = refl
contracts_among false false false true = refl
contracts_among false false false false = refl

-- no text stands twice
abbrev pub distinct : List Text → Bool
distinct [] = true
distinct (n ∷ ns) = not (is_among n ns) && distinct ns

-- no name is derived twice, but where a node is a history and the subject
pub distinct_names : (l p h s : Bool) → (h && s) ≡ false → distinct (names l p h s) ≡ true
distinct_names l p true true e = absurd (true≢false e)
distinct_names true true true false e = refl
distinct_names true true false true e = refl
distinct_names true true false false e = refl
distinct_names true false true false e = refl
distinct_names true false false true e = refl
distinct_names true false false false e = refl
distinct_names false true true false e = refl
distinct_names false true false true e = refl
distinct_names false true false false e = refl
distinct_names false false true false e = refl
distinct_names false false false true e = refl
distinct_names false false false false e = refl

-- whether an object of this name and kind is dropped
abbrev dropped_by : Roles → Option Text → Kind → Bool
dropped_by r n k =
    name_among (derived_names r) n
    || ((r.history && (has_name (codes "data") n && same_kind k kind.List))
    || ((r.subject && (has_name (codes "rules") n && same_kind k kind.List))
    || (r.root && (has_name (codes "about") n && same_kind k kind.Obj))))

name_is : (m : Text) (o : Option Text) → has_name m o ≡ true → o ≡ Some m
name_is m None h = absurd (let e : false ≡ true = h in cc)
name_is m (Some n) h = ap Some ((bytes_eq-Decides n m).0 h)

none_of_contracts : (r : Roles) (k : Kind) → dropped_by r (Some (codes "contracts")) k ≡ false
none_of_contracts r k =
    both_false (name_among (derived_names r) (Some (codes "contracts"))) _ (contracts_among r.lobby r.point r.history r.subject)
    (both_false (r.history && false) _ (and_false r.history) (both_false (r.subject && false) _ (and_false r.subject) (and_false r.root)))

-- no role drops a child `contracts`
pub contracts_stay : (r : Roles) (h : Head) → has_name (codes "contracts") h.name ≡ true → is_dropped r h ≡ false
contracts_stay r h e = ap (λ (n : Option Text). dropped_by r n h.kind) (name_is (codes "contracts") h.name e) ∙ none_of_contracts r h.kind
