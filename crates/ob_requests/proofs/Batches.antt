-- The items of a batch, done one by one.
use Rattle.std.proofs.Common.{◌≡◌, ℕ, ◌+◌, ◌<◌, ◌≤◌, true, List, [], ◌∷◌, ◌++◌, length, drop, get_or, refl, sym, ap, ◌∙◌, append_assoc}
use Rattle.std.specs.Prelude.{Option, is_none}
use Rattle.std.specs.List.{list_all}
use Rattle.std.proofs.lemmas.List.{append-nil, at_drop_more, at_drop_all}
use Rattle.std.proofs.lemmas.List.Folds.{list_all-append}
use Rattle.url.specs.Parts.{Parts}
use Rattle.ob_object.specs.Object.{Object}
use Rattle.ob_site_rules.specs.Build.{Text, Path}
use Rattle.ob_site_rules.specs.declared.plan.Plan.{Plan}
use Rattle.ob_site_rules.specs.State.{State}
use Rattle.ob_site_rules.specs.Actions.{act_all, act_item, item_request}

-- what was done so far, with what the other items will leave
abbrev pub with_rest : (Parts → Text → Option Path) → Plan → List ℕ → ℕ → State → List Object → List Object → State × List Object
with_rest locate plan ns now s results os =
    let rest : State × List Object = act_all locate plan s ns now os in
    (rest.0, results ++ rest.1)

abbrev with_results : State → List Object → State × List Object
with_results t rs = (t, rs)

regrouped : (t : State) (results : List Object) (o : Object) (rest : List Object) → with_results t ((results ++ o ∷ []) ++ rest) ≡ with_results t (results ++ (o ∷ rest))
regrouped t results o rest = ap (with_results t) (append_assoc results (o ∷ []) rest)

first_done : (locate : Parts → Text → Option Path) (plan : Plan) (ns : List ℕ) (now : ℕ) (s : State) (results : List Object) (o : Object) (os : List Object) → let done : State × Object = act_item locate plan s ns now (item_request o) in with_rest locate plan ns now done.0 (results ++ done.1 ∷ []) os ≡ with_rest locate plan ns now s results (o ∷ os)
first_done locate plan ns now s results o os =
    let done : State × Object = act_item locate plan s ns now (item_request o) in
    let rest : State × List Object = act_all locate plan done.0 ns now os in
    regrouped rest.0 results done.1 rest.1

pub with_more : (locate : Parts → Text → Option Path) (plan : Plan) (ns : List ℕ) (now : ℕ) (s : State) (results os : List Object) (i : ℕ) (o : Object) (t : State) (reply : Object) → i < length os → o ≡ get_or os i o → (t, reply) ≡ act_item locate plan s ns now (item_request o) → with_rest locate plan ns now t (results ++ reply ∷ []) (drop (i + 1) os) ≡ with_rest locate plan ns now s results (drop i os)
with_more locate plan ns now s results os i o t reply lt e done =
    ap (λ (x : State × Object). with_rest locate plan ns now x.0 (results ++ x.1 ∷ []) (drop (i + 1) os)) done
    ∙ first_done locate plan ns now s results o (drop (i + 1) os)
    ∙ sym (at_drop_more (with_rest locate plan ns now s results) os i o lt ∙ ap (λ (x : Object). with_rest locate plan ns now s results (x ∷ drop (i + 1) os)) (sym e))

pub with_none : (locate : Parts → Text → Option Path) (plan : Plan) (ns : List ℕ) (now : ℕ) (s : State) (results os : List Object) (k : ℕ) → length os ≤ k → with_rest locate plan ns now s results (drop k os) ≡ (s, results)
with_none locate plan ns now s results os k le =
    at_drop_all (with_rest locate plan ns now s results) os k le
    ∙ ap (with_results s) (append-nil results)

-- results without names, and one more
pub one_more : (results : List Object) (o : Object) → list_all (λ x. is_none x.head.name) results ≡ true → is_none o.head.name ≡ true → list_all (λ x. is_none x.head.name) (results ++ o ∷ []) ≡ true
one_more results o h k =
    list_all-append (λ (x : Object). is_none x.head.name) results (o ∷ []) ∙ rw (h, k) refl
