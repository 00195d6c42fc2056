-- The names of the upstreams that a config tells differ, as those of its parts do.
use Rattle.std.proofs.Common.{◌≡◌, ℕ, Bool, true, false, ◌||◌, cond, List, [], ◌∷◌, map, Option, Some, None, refl, ap, ap₂, sym, ◌∙◌}
use Rattle.std.specs.Prelude.{bytes_eq, is_some, option_and_then, option_map, IfOk}
use Rattle.ob_object.specs.Object.{Object}
use Rattle.ob_object.specs.WellFormed.{has_name, named, is_taken, NamesDiffer}
use Rattle.ob_object.specs.declared.kind.Kind.TheVariants as kind
use Rattle.ob_watching.specs.Tables.{is_among}
use Rattle.ob_watching.specs.WatchOuts.{Text, is_of_kind}
use Rattle.ob_client.proofs.TableLemmas.{bytes_eq_sym}
use Rattle.ob_asking.specs.declared.place.Place.{Place}
use Rattle.ob_parts.specs.Offences.{said}
use Rattle.ob_parts.specs.declared.offence.Offence.{Offence}
use Rattle.ob_super.specs.declared.config_rule.ConfigRule.{ConfigRule}
use Rattle.std.specs.Prelude.{codes}
use Rattle.ob_super.specs.declared.upstream.Upstream as code
use Rattle.ob_super.specs.Upstreams.{Upstream, is_name, name_in, lobby_in, hrefs_in, upstream_in, with_hrefs}
use Rattle.std.specs.declared.result.Result.{Result}
use Rattle.std.specs.declared.result.Result.TheVariants.{Ok, Err}
use Rattle.ob_super.specs.declared.config_fault.ConfigFault.{ConfigFault}
use Rattle.ob_super.specs.Configs.{upstream, unless_any, both, first_of}
use Rattle.ob_super.specs.Names.{are_apart}
use Rattle.ob_super.proofs.ConfigLemmas.{told_of}

-- at the end of a walk
pub ok_walk : {A : Type 0} (Q : A → Type 0) (first : Option (Offence ConfigRule)) (x : A) → (first ≡ None → Q x) → IfOk (unless_any first x) Q
ok_walk Q None x f = f refl
ok_walk Q (Some n) x f = tt

name_of : (a : Option Text) (b : Option Place) (c : Option (List Text)) (u : Upstream) → with_hrefs a b c ≡ Some u → a ≡ Some u.name
name_of None b c u e = absurd (let f : None ≡ Some u = e in cc)
name_of (Some n) None c u e = absurd (let f : None ≡ Some u = e in cc)
name_of (Some n) (Some l) None u e = absurd (let f : None ≡ Some u = e in cc)
name_of (Some n) (Some l) (Some h) u e = ap (option_map (λ (v : Upstream). v.name)) e

kept : (t n : Text) (b : Bool) → cond b (Some t) None ≡ Some n → Some t ≡ Some n
kept t n true e = e
kept t n false e = absurd (let f : None ≡ Some n = e in cc)

own_name : (k : Bool) (a : Option Text) (n : Text) → cond k (option_and_then (λ (t : Text). cond (is_name t) (Some t) None) a) None ≡ Some n → a ≡ Some n
own_name false a n e = absurd (let f : None ≡ Some n = e in cc)
own_name true None n e = e
own_name true (Some t) n e = kept t n (is_name t) e

-- it is a name of the form that an upstream has
form_by : (k : Bool) (a : Option Text) (n : Text) → cond k (option_and_then (λ (t : Text). cond (is_name t) (Some t) None) a) None ≡ Some n → is_name n ≡ true
form_by false a n e = absurd (let f : None ≡ Some n = e in cc)
form_by true None n e = absurd (let f : None ≡ Some n = e in cc)
form_by true (Some t) n e = by_test (is_name t) refl e
  where
    by_test : (b : Bool) → is_name t ≡ b → cond b (Some t) None ≡ Some n → is_name n ≡ true
    by_test true is same = ap is_name (let back : n ≡ t = cc in back) ∙ is
    by_test false is same = absurd (let f : None ≡ Some n = same in cc)

pub named_so : (o : Object) (n : Text) → name_in o ≡ Some n → is_name n ≡ true
named_so o n e = form_by (is_of_kind kind.Obj o) o.head.name n e

abbrev first_or : {A B : Type 0} → A → Result (A × B) ConfigFault → A
first_or a (Ok p) = p.0
first_or a (Err f) = a

-- where both are there, the first is
pub both_first : {A B : Type 0} (x : Result A ConfigFault) (y : Result B ConfigFault) (a : A) (b : B) → both x y ≡ Ok (a, b) → x ≡ Ok a
both_first (Ok p) (Ok q) a b e = ap (λ r. Ok (first_or p r)) e
both_first (Ok p) (Err g) a b e = absurd (let f : Err g ≡ Ok (a, b) = e in cc)
both_first (Err f) (Ok q) a b e = absurd (let g : Err f ≡ Ok (a, b) = e in cc)
both_first (Err f) (Err g) a b e = absurd (let h : Err (first_of f g) ≡ Ok (a, b) = e in cc)

-- an upstream has the name of its object
named_as : (o : Object) (u : Upstream) → upstream_in o ≡ Some u → o.head.name ≡ Some u.name
named_as o u e = own_name (is_of_kind kind.Obj o) o.head.name u.name (name_of (name_in o) (said (codes "url") lobby_in o) (said (codes "hrefs") hrefs_in o) u e)

free_more : (b : Bool) (o : Object) (r : Option Object) → is_some (cond b (Some o) r) ≡ false → (b ≡ false) × (is_some r ≡ false)
free_more true o r e = absurd (let f : true ≡ false = e in cc)
free_more false o r e = (refl, e)

head_of : {A : Type 0} (x y : A) (xs ys : List A) → x ∷ xs ≡ y ∷ ys → x ≡ y
head_of x y xs ys e = cc

tail_of : {A : Type 0} (x y : A) (xs ys : List A) → x ∷ xs ≡ y ∷ ys → xs ≡ ys
tail_of x y xs ys e = cc

abbrev texts_of : List code.Upstream → List Text
texts_of us = map (λ (u : code.Upstream). u.name) us

among : (n : Text) (os : List Object) (us : List code.Upstream) → map upstream_in os ≡ told_of us → is_taken (Some n) os ≡ false → is_among bytes_eq (texts_of us) n ≡ false
among n [] [] e f = refl
among n [] (u ∷ us) e f = absurd (let g : [] ≡ Some (upstream u) ∷ told_of us = e in cc)
among n (o ∷ os) [] e f = absurd (let g : upstream_in o ∷ map upstream_in os ≡ [] = e in cc)
among n (o ∷ os) (u ∷ us) e f =
    let name = named_as o (upstream u) (head_of (upstream_in o) (Some (upstream u)) (map upstream_in os) (told_of us) e) in
    let free = free_more (bytes_eq u.name n) o (named n os) (ap (λ (a : Option Text). is_some (cond (has_name n a) (Some o) (named n os))) (sym name) ∙ f) in
    ap₂ (λ a b. a || b) (bytes_eq_sym n u.name ∙ free.0) (among n os us (tail_of (upstream_in o) (Some (upstream u)) (map upstream_in os) (told_of us) e) free.1)

pub all_apart : (os : List Object) (us : List code.Upstream) → map upstream_in os ≡ told_of us → NamesDiffer os → are_apart (texts_of us) ≡ true
all_apart [] [] e d = refl
all_apart [] (u ∷ us) e d = absurd (let g : [] ≡ Some (upstream u) ∷ told_of us = e in cc)
all_apart (o ∷ os) [] e d = absurd (let g : upstream_in o ∷ map upstream_in os ≡ [] = e in cc)
all_apart (o ∷ os) (u ∷ us) e d =
    let rest = tail_of (upstream_in o) (Some (upstream u)) (map upstream_in os) (told_of us) e in
    let name = named_as o (upstream u) (head_of (upstream_in o) (Some (upstream u)) (map upstream_in os) (told_of us) e) in
    ap₂ (λ b t. cond b false t) (among u.name os us rest (ap (λ (a : Option Text). is_taken a os) (sym name) ∙ d.0)) (all_apart os us rest d.1)
