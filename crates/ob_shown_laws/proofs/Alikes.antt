-- What objects come to that are alike is the same where each of their own parts has the same values.
use Rattle.std.proofs.Common.{◌≡◌, Bool, true, false, not, ◌&&◌, ◌||◌, cond, List, [], ◌∷◌, ◌++◌, map, filter, Option, Some, None, refl, sym, ap, ap₂, ◌∙◌}
use Rattle.std.specs.Prelude.{is_some}
use Rattle.std.specs.List.{list_any}
use Rattle.std.proofs.lemmas.List.{map-append}
use Rattle.ob_object.specs.declared.head.Head.{Head}
use Rattle.ob_object.specs.Object.{Objects, none, node, Object, listed, in_row, children}
use Rattle.ob_object.specs.WellFormed.{has_name, named, is_taken}
use Rattle.ob_contracts.specs.Inherit.{missing, is_new, bare, result_of, row_with_defaults}
use Rattle.ob_site_rules.specs.Build.{Text, nameless, under_href}
use Rattle.ob_site_rules.specs.Sameness.{same_head, same_row, same_object}
use Rattle.ob_shown_laws.specs.Alike.{without_values, AreAlike}
use Rattle.ob_tree.specs.Contexts.{Context, HandedDown, handed_down, under, comes_to}
use Rattle.ob_shown_laws.specs.Changed.{same_values, head_in}
use Rattle.ob_shown_laws.proofs.Standings.{own_row, effective_row}
use Rattle.ob_shown_laws.proofs.Itself.{head_alike, row_itself}

-- each own part of two rows has the same values
abbrev pub same_parts : HandedDown → Objects → Objects → Bool
same_parts r none none = true
same_parts r none (node k inner more) = false
same_parts r (node h below rest) none = false
same_parts r (node h below rest) (node k inner more) =
    same_values (head_in (under r h.name) h) (head_in (under r h.name) k)
    && (same_parts (handed_down (under r h.name) h) below inner && same_parts r rest more)

-- where an object stands, and what it hands down, don't depend on its values
pub under_alike : (r : HandedDown) (h k : Head) → without_values h ≡ without_values k → under r k.name ≡ under r h.name
under_alike r h k e = sym (ap (λ (u : Head). under r u.name) e)

pub handed_alike : (c : Context) (h k : Head) → without_values h ≡ without_values k → handed_down c k ≡ handed_down c h
handed_alike c h k e = sym (ap (λ (u : Head). handed_down c u) e)

pub head_in-alike : (c : Context) (h k : Head) → without_values h ≡ without_values k → without_values (head_in c h) ≡ without_values (head_in c k)
head_in-alike c h k e = ap (λ (u : Head). without_values (head_in c u)) e

-- the children that are missing depend on the names of those that are there
abbrev names_of : List Object → List (Option Text)
names_of os = map (λ o. o.head.name) os

abbrev taken_among : Option Text → List (Option Text) → Bool
taken_among None ns = false
taken_among (Some n) ns = list_any (has_name n) ns

found_or : (b : Bool) (o : Object) (r : Option Object) → is_some (cond b (Some o) r) ≡ (b || is_some r)
found_or true o r = refl
found_or false o r = refl

named-any : (n : Text) (os : List Object) → is_some (named n os) ≡ list_any (has_name n) (names_of os)
named-any n [] = refl
named-any n (o ∷ os) = found_or (has_name n o.head.name) o (named n os) ∙ ap (λ b. has_name n o.head.name || b) (named-any n os)

taken-among : (n : Option Text) (os : List Object) → is_taken n os ≡ taken_among n (names_of os)
taken-among None os = refl
taken-among (Some n) os = named-any n os

new_names : (xs ys : List Object) (o : Object) → names_of xs ≡ names_of ys → is_new xs o ≡ is_new ys o
new_names xs ys o e =
    ap (λ b. is_some o.head.name && not b) (taken-among o.head.name xs ∙ ap (taken_among o.head.name) e ∙ sym (taken-among o.head.name ys))

filter_names : (xs ys os : List Object) → names_of xs ≡ names_of ys → filter (is_new xs) os ≡ filter (is_new ys) os
filter_names xs ys [] e = refl
filter_names xs ys (o ∷ os) e =
    ap (λ b. cond b (o ∷ filter (is_new xs) os) (filter (is_new xs) os)) (new_names xs ys o e)
    ∙ ap (λ l. cond (is_new ys o) (o ∷ l) l) (filter_names xs ys os e)

more_names : (xs ys zs : List Object) → names_of xs ≡ names_of ys → names_of (xs ++ zs) ≡ names_of (ys ++ zs)
more_names xs ys zs e =
    let name : Object → Option Text = λ o. o.head.name in
    map-append name xs zs ∙ ap (λ ns. ns ++ names_of zs) e ∙ sym (map-append name ys zs)

pub missing_names : (xs ys ss : List Object) → names_of xs ≡ names_of ys → missing xs ss ≡ missing ys ss
missing_names xs ys [] e = refl
missing_names xs ys (s ∷ ss) e =
    ap₂ (λ (a b : List Object). a ++ b) (filter_names xs ys (children s) e)
    (missing_names (xs ++ children s) (ys ++ children s) ss (more_names xs ys (children s) e))

pub names_alike : (os qs : Objects) → AreAlike os qs → names_of (listed os) ≡ names_of (listed qs)
names_alike none none a = refl
names_alike none (node k inner more) a = absurd a
names_alike (node h below rest) none a = absurd a
names_alike (node h below rest) (node k inner more) a =
    ap₂ (λ (n : Option Text) (ns : List (Option Text)). n ∷ ns) (ap (λ (u : Head). u.name) a.0) (names_alike rest more a.2)

and3 : (a b c x y z : Bool) → a ≡ x → b ≡ y → c ≡ z → (a && (b && c)) ≡ (x && (y && z))
and3 a b c x y z e f g = ap (λ t. t && (b && c)) e ∙ ap (λ t. x && (t && c)) f ∙ ap (λ t. x && (y && t)) g

-- rows of results, with the same objects behind them
same_results : (r : HandedDown) (os qs : Objects) → AreAlike os qs → (behind : List Object)
    → same_row (row_with_defaults (in_row (listed (own_row r os) ++ behind))) (row_with_defaults (in_row (listed (own_row r qs) ++ behind))) ≡ same_parts r os qs
same_results r none none a behind = row_itself (row_with_defaults (in_row behind))
same_results r none (node k inner more) a behind = absurd a
same_results r (node h below rest) none a behind = absurd a
same_results r (node h below rest) (node k inner more) a behind =
    and3 (same_head (head_in c h) (head_in (under r k.name) k)) (same_row (effective_row d below) (effective_row (handed_down (under r k.name) k) inner)) _
    (same_values (head_in c h) (head_in c k)) (same_parts d below inner) (same_parts r rest more)
    (ap (λ (x : Context). same_head (head_in c h) (head_in x k)) (under_alike r h k a.0) ∙ head_alike (head_in c h) (head_in c k) (head_in-alike c h k a.0))
    (ap (λ (x : HandedDown). same_row (effective_row d below) (effective_row x inner)) (ap (λ (x : Context). handed_down x k) (under_alike r h k a.0) ∙ handed_alike c h k a.0)
    ∙ ap (λ (l : List Object). same_row (effective_row d below) (row_with_defaults (in_row (listed (own_row d inner) ++ map bare l)))) (sym (missing_names (listed below) (listed inner) d.sources (names_alike below inner a.1)))
    ∙ same_results d below inner a.1 (map bare (missing (listed below) d.sources)))
    (same_results r rest more a.2 behind)
  where
    c : Context
    c = under r h.name

    d : HandedDown
    d = handed_down (under r h.name) h

same_inner : (r : HandedDown) (os qs : Objects) → AreAlike os qs → same_row (effective_row r os) (effective_row r qs) ≡ same_parts r os qs
same_inner r os qs a =
    ap (λ (l : List Object). same_row (effective_row r os) (row_with_defaults (in_row (listed (own_row r qs) ++ map bare l)))) (sym (missing_names (listed os) (listed qs) r.sources (names_alike os qs a)))
    ∙ same_results r os qs a (map bare (missing (listed os) r.sources))

-- an object as it is watched
abbrev pub watched : Object → Object
watched o = under_href None (nameless o)

abbrev without_own : Head → Head
without_own h = record h { name = None; href = None }

-- What two objects come to that stand in one place and are alike is shown as the same where each own part has the same values.
pub same_watched : (c : Context) (o q : Object) → without_values o.head ≡ without_values q.head → AreAlike o.inner q.inner
    → same_object (watched (comes_to c o)) (watched (comes_to c q)) ≡ (same_values (head_in c o.head) (head_in c q.head) && same_parts (handed_down c o.head) o.inner q.inner)
unfolding result_of
same_watched c o q e a =
    ap (λ b. b && same_row (effective_row d o.inner) (effective_row (handed_down c q.head) q.inner))
    (head_alike (without_own (head_in c o.head)) (without_own (head_in c q.head)) (ap without_own (head_in-alike c o.head q.head e)))
    ∙ ap (λ b. same_values (head_in c o.head) (head_in c q.head) && b)
    (ap (λ (x : HandedDown). same_row (effective_row d o.inner) (effective_row x q.inner)) (handed_alike c o.head q.head e) ∙ same_inner d o.inner q.inner a)
  where
    d : HandedDown
    d = handed_down c o.head
