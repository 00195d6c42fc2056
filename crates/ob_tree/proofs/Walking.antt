-- What an object inherits from, and where its children stand, by words that stand for others.
use Rattle.std.proofs.Common.{◌≡◌, ℕ, List, Option, Some, None, cond, sym, ap, ◌∙◌, subst}
use Rattle.std.specs.Prelude.{is_some}
use Rattle.ob_object.specs.declared.head.Head.{Head}
use Rattle.ob_object.specs.Object.{Object}
use Rattle.ob_contracts.specs.Inherit.{Contracts, Words, words_in, or_else, present, sources, overridden, implied_by, inherited_head, effective_of, with_defaults}
use Rattle.ob_contracts.specs.Places.{places_by, places_of, sources_of}
use Rattle.ob_contracts.specs.Telling.{Same, StandFor}
use Rattle.ob_contracts.specs.Tellers.{Telling, TellsIn}
use Rattle.ob_contracts.specs.declared.lookup.Sources.{Sources}
use Rattle.ob_contracts.proofs.Dropped.{same_by, stand_in_none, tell_the_same}
use Rattle.ob_contracts.proofs.Taught.{tells_none}
use Rattle.ob_tree.specs.Contexts.{Context, sources_in, handed_down, under, comes_to}
use Rattle.ob_tree.specs.Standings.{MayStand}

-- what is looked up by words that stand for those of an object is what its sources are
pub looked_up : (c : Context) (h : Head) (ws : Option Words) (s : Sources) → places_of s ≡ places_by c.library h.kind (words_in ws) c.over
    → StandFor c.library (words_in ws) (words_in (or_else h.is c.implied)) → Same (sources_of s) (sources_in c h)
looked_up c h ws s at e =
    subst (λ (l : List (Option Object)). Same (present l) (sources_in c h)) (sym at) (same_by c.library h.kind (words_in ws) (words_in (or_else h.is c.implied)) c.over e)

-- and what it hands down is told by its library, its words and the child of that name
pub stands_under : (c : Context) (h : Head) (name : Option (List ℕ)) (s : Context) → s.library ≡ c.library → s.implied ≡ implied_by (inherited_head h (sources_in c h)) → s.over ≡ overridden name (sources_in c h)
    → s ≡ under (handed_down c h) name
stands_under c h name s lib implied over = context_is s (under (handed_down c h) name) lib implied over
  where
    context_is : (a b : Context) → a.library ≡ b.library → a.implied ≡ b.implied → a.over ≡ b.over → a ≡ b
    context_is a b x y z =
        ap (λ (l : Contracts). let k : Context = record { library = l; implied = a.implied; over = a.over } in k) x
        ∙ ap (λ (w : Option Words). let k : Context = record { library = b.library; implied = w; over = a.over } in k) y
        ∙ ap (λ (o : Option Object). let k : Context = record { library = b.library; implied = b.implied; over = o } in k) z

-- by words that stand for those of the list an object comes to the same
pub told_the_same : (c : Context) (o : Object) (told : Option Words) → StandFor c.library (words_in told) (words_in c.implied) → effective_of c.library o told c.over ≡ comes_to c o
told_the_same c o told e = ap with_defaults (tell_the_same c.library told c.implied e o c.over)

-- what is told in place of an object's own words, or else of its list's, is told in place of those that name its contracts
pub told_first : (lib : Contracts) (is told : Option Telling) (own implied : Option Words) → TellsIn lib is own → TellsIn lib told implied → TellsIn lib (cond (is_some own) is told) (or_else own implied)
told_first lib is told None implied e f = f
told_first lib is told (Some ws) implied e f = e

-- all of it stands for these
pub told_all : (lib : Contracts) (told : Option Telling) (t : Telling) (words : Option Words) → told ≡ Some t → TellsIn lib told words → StandFor lib t.all (words_in words)
told_all lib told t words is e = (e t is).all

-- words stand for themselves
pub stand_same : (lib : Contracts) (ts ws : Option Words) → ts ≡ ws → StandFor lib (words_in ts) (words_in ws)
stand_same lib ts ws is = subst (λ (x : Option Words). StandFor lib (words_in ts) (words_in x)) is (stand_in_none lib ts)

-- where nothing is told
pub may_stand_none : (c : Context) (h : Head) → MayStand c h None
may_stand_none c h = record { is = tells_none c.library h.is; items = tells_none c.library (handed_down c h).implied }
