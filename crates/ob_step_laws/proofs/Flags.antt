-- Whether a path is that of the lobby, of a point, of a history or of the subject.
use Rattle.std.proofs.Common.{◌≡◌, ℕ, Bool, true, false, cond, ◌&&◌, ◌||◌, bytes_eq, codes, List, [], ◌∷◌, ◌++◌, map, filter, find, option_map, Option, Some, None, refl, sym, ap, ap₂, ◌∙◌}
use Rattle.std.proofs.lemmas.List.{map-append}
use Rattle.std.specs.Prelude.{is_some, unwrap_or}
use Rattle.std.specs.List.{AllByRecursion}
use Rattle.std.proofs.lemmas.Slice.Eq.{bytes_eq-Decides}
use Rattle.ob_values.proofs.Bools.{bool_same}
use Rattle.ob_object.specs.Object.{Object}
use Rattle.ob_object.specs.Paths.{is_path, node_path}
use Rattle.ob_site_rules.specs.Build.{Text, Path}
use Rattle.ob_site_rules.specs.Shown.{derived, lobby_children, write_point_op, history_part, subject_children}
use Rattle.ob_site_rules.specs.State.{Log, State, at, is_among}
use Rattle.ob_site_rules.specs.declared.plan.Plan.{Plan}
use Rattle.ob_plain_state.proofs.Keeping.{names_of}
use Rattle.ob_site_rules.specs.Roles.{derived_names}
use Rattle.ob_site_rules.specs.Loading.{Part, path_of, root_lobby}
use Rattle.ob_step_laws.proofs.Names.{names, same_names, distinct_names}
use Rattle.ob_step_laws.proofs.Roled.{is_lobby, is_subject, IsPlaced}
use Rattle.ob_step_laws.proofs.Kept.{unless}
use Rattle.ob_step_laws.proofs.Found.{IsNodeIf}
use Rattle.ob_step_laws.proofs.Free.{IsNamed}

pub turned : (p q : Path) → bytes_eq p q ≡ bytes_eq q p
turned p q =
    bool_same (bytes_eq p q) (bytes_eq q p) (λ h. (bytes_eq-Decides q p).1 (sym ((bytes_eq-Decides p q).0 h))) (λ h. (bytes_eq-Decides p q).1 (sym ((bytes_eq-Decides q p).0 h)))

none_so : (F : Part → Bool) (ps : List Part) → AllByRecursion (λ (q : Part). F q ≡ false) ps → filter F ps ≡ []
none_so F [] e = refl
none_so F (q ∷ ps) e = ap (λ b. cond b (q ∷ filter F ps) (filter F ps)) e.0 ∙ none_so F ps e.1

-- only the first part may be the lobby
pub lobby_flag : (r : Path) (first : Part) (rest : List Part) (p : Path) → node_path first.own.head ≡ Some r → AllByRecursion (λ (q : Part). q.roles.lobby ≡ false) rest
    → (root_lobby (first ∷ rest) && bytes_eq p r) ≡ is_among p (map path_of (filter is_lobby (first ∷ rest)))
lobby_flag r first rest p is e = go first.roles.lobby
  where
    go : (b : Bool) → (b && bytes_eq p r) ≡ is_among p (map path_of (cond b (first ∷ filter is_lobby rest) (filter is_lobby rest)))
    go true =
        or_false (bytes_eq p r) ∙ ap (λ b. b || false) (turned p r ∙ ap (λ o. bytes_eq (unwrap_or o []) p) (sym is))
        ∙ ap (λ l. bytes_eq (path_of first) p || is_among p (map path_of l)) (sym (none_so is_lobby rest e))
      where
        or_false : (b : Bool) → b ≡ (b || false)
        or_false true = refl
        or_false false = refl
    go false = ap (λ l. is_among p (map path_of l)) (sym (none_so is_lobby rest e))

at_or : (b : Bool) (e : Path × Log) (o : Option (Path × Log)) → is_some (option_map (λ x. x.1) (cond b (Some e) o)) ≡ (b || is_some (option_map (λ x. x.1) o))
at_or true e o = refl
at_or false e o = refl

-- each history has its log
pub history_flag : (L : Part → Log) (p : Path) (ps : List Part) → is_some (at p (map (λ q. (path_of q, L q)) ps)) ≡ is_among p (map path_of ps)
history_flag L p [] = refl
history_flag L p (q ∷ ps) =
    at_or (bytes_eq (path_of q) p) (path_of q, L q) (find (λ (e : Path × Log). bytes_eq e.0 p) (map (λ q. (path_of q, L q)) ps))
    ∙ ap (λ b. bytes_eq (path_of q) p || b) (history_flag L p ps)

first_of : (F : Part → Bool) (ps rest : List Part) (q : Part) → filter F ps ≡ q ∷ rest → find F ps ≡ Some q
first_of F [] rest q h = absurd (let e : [] ≡ q ∷ rest = h in cc)
first_of F (x ∷ ps) rest q h = go (F x) h (λ g. first_of F ps rest q g)
  where
    go : (b : Bool) → cond b (x ∷ filter F ps) (filter F ps) ≡ q ∷ rest → (filter F ps ≡ q ∷ rest → find F ps ≡ Some q) → cond b (Some x) (find F ps) ≡ Some q
    go true g later = let e : x ∷ filter F ps ≡ q ∷ rest = g in let same : x ≡ q = cc in ap Some same
    go false g later = later g

none_of : (F : Part → Bool) (ps : List Part) → filter F ps ≡ [] → find F ps ≡ None
none_of F [] h = refl
none_of F (x ∷ ps) h = go (F x) h (λ g. none_of F ps g)
  where
    go : (b : Bool) → cond b (x ∷ filter F ps) (filter F ps) ≡ [] → (filter F ps ≡ [] → find F ps ≡ None) → cond b (Some x) (find F ps) ≡ None
    go true g later = absurd (let e : x ∷ filter F ps ≡ [] = g in cc)
    go false g later = later g

-- no more than one
abbrev pub IsOneAtMost : List Part → Type 0
IsOneAtMost [] = Unit {0}
IsOneAtMost (q ∷ rest) = rest ≡ []

-- the subject, where there is one at most
pub subject_flag : (p : Path) (ps : List Part) → IsOneAtMost (filter is_subject ps) → is_path p (option_map path_of (find is_subject ps)) ≡ is_among p (map path_of (filter is_subject ps))
subject_flag p ps one = go (filter is_subject ps) refl one
  where
    go : (xs : List Part) → filter is_subject ps ≡ xs → IsOneAtMost xs → is_path p (option_map path_of (find is_subject ps)) ≡ is_among p (map path_of xs)
    go [] e o = ap (λ f. is_path p (option_map path_of f)) (none_of is_subject ps e)
    go (q ∷ rest) e o =
        ap (λ f. is_path p (option_map path_of f)) (first_of is_subject ps rest q e)
        ∙ or_false (bytes_eq (path_of q) p) ∙ ap (λ l. bytes_eq (path_of q) p || is_among p (map path_of l)) (sym o)
      where
        or_false : (b : Bool) → b ≡ (b || false)
        or_false true = refl
        or_false false = refl

-- the names of what is derived, by flags
lobby_names : (plan : Plan) (b : Bool) → names_of (cond b (lobby_children plan) []) ≡ map Some (cond b (codes "about" ∷ codes "batch" ∷ codes "watchService" ∷ []) [])
lobby_names plan true = refl
lobby_names plan false = refl

point_names : (p : Path) (b : Bool) → names_of (cond b (write_point_op p ∷ []) []) ≡ map Some (cond b (codes "writePoint" ∷ []) [])
point_names p true = refl
point_names p false = refl

history_names : (p : Path) (o : Option Log) → names_of (history_part p o) ≡ map Some (cond (is_some o) (codes "count" ∷ codes "start" ∷ codes "end" ∷ codes "query" ∷ codes "feed" ∷ []) [])
history_names p None = refl
history_names p (Some l) = refl

subject_names : (p : Path) (n : ℕ) (b : Bool) → names_of (cond b (subject_children p n) []) ≡ map Some (cond b (codes "count" ∷ codes "query" ∷ codes "feed" ∷ []) [])
subject_names p n true = refl
subject_names p n false = refl

both_names : (xs ys : List Object) (ns ms : List Text) → names_of xs ≡ map Some ns → names_of ys ≡ map Some ms → names_of (xs ++ ys) ≡ map Some (ns ++ ms)
both_names xs ys ns ms e f = map-append (λ (o : Object). o.head.name) xs ys ∙ ap₂ (λ a b. a ++ b) e f ∙ sym (map-append Some ns ms)

names_by : (plan : Plan) (p : Path) (l w s : Bool) (o : Option Log) (n : ℕ)
    → names_of (cond l (lobby_children plan) [] ++ (cond w (write_point_op p ∷ []) [] ++ (history_part p o ++ cond s (subject_children p n) []))) ≡ map Some (names l w (is_some o) s)
names_by plan p l w s o n =
    both_names (cond l (lobby_children plan) []) _ (cond l (codes "about" ∷ codes "batch" ∷ codes "watchService" ∷ []) []) _ (lobby_names plan l)
    (both_names (cond w (write_point_op p ∷ []) []) _ (cond w (codes "writePoint" ∷ []) []) _ (point_names p w)
    (both_names (history_part p o) _ (cond (is_some o) (codes "count" ∷ codes "start" ∷ codes "end" ∷ codes "query" ∷ codes "feed" ∷ []) []) _ (history_names p o) (subject_names p n s)))

-- what a path of a plan and a state tells is what the roles of a part tell
pub record Tells (plan : Plan) (s : State) (q : Part) (p : Path) : Type 0 where
  pub lobby : (plan.lobby && bytes_eq p plan.root) ≡ q.roles.lobby
  pub point : is_among p plan.points ≡ q.roles.point
  pub history : is_some (at p s.logs) ≡ q.roles.history
  pub subject : is_path p plan.subject ≡ q.roles.subject

pub is_named : (plan : Plan) (s : State) (q : Part) → IsNodeIf is_lobby q → IsPlaced q → (q.roles.history && q.roles.subject) ≡ false
    → ((p : Path) → node_path q.own.head ≡ Some p → Tells plan s q p) → IsNamed plan s q
is_named plan s q lobby placed one tells = record {
  names = at_path (node_path q.own.head) refl;
  distinct = distinct_names q.roles.lobby q.roles.point q.roles.history q.roles.subject one;
}
  where
    at_path : (o : Option Path) → node_path q.own.head ≡ o → names_of (derived plan s o) ≡ map Some (derived_names q.roles)
    at_path None e =
        let gone : is_some (node_path q.own.head) ≡ false = ap is_some e in
        ap (map Some) (sym (same_names q.roles.lobby false q.roles.point false q.roles.history false q.roles.subject false
        (unless q.roles.lobby (is_some (node_path q.own.head)) lobby gone)
        (unless q.roles.point (is_some (node_path q.own.head)) placed.point gone)
        (unless q.roles.history (is_some (node_path q.own.head)) placed.history gone)
        (unless q.roles.subject (is_some (node_path q.own.head)) placed.subject gone)))
    at_path (Some p) e =
        let t : Tells plan s q p = tells p e in
        names_by plan p (plan.lobby && bytes_eq p plan.root) (is_among p plan.points) (is_path p plan.subject) (at p s.logs) _
        ∙ ap (map Some) (same_names (plan.lobby && bytes_eq p plan.root) q.roles.lobby (is_among p plan.points) q.roles.point (is_some (at p s.logs)) q.roles.history (is_path p plan.subject) q.roles.subject t.lobby t.point t.history t.subject)
