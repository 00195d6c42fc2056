-- Which own nodes a step has changed, of those that it looked at.
use Rattle.std.proofs.Common.{ℕ, ◌≡◌, zero, suc, Bool, true, false, not, ◌||◌, cond, List, [], ◌∷◌, ◌++◌, map, filter, Option, Some, None, option_map, refl, sym, ap, ◌∙◌, subst, true≢false}
use Rattle.std.specs.Prelude.{nat_eq, is_some, slice_get, option_and_then, option_to_list}
use Rattle.std.specs.List.{AllByRecursion, list_any}
use Rattle.std.specs.Str.{bytes_eq}
use Rattle.std.proofs.lemmas.Bool.{eqb-true}
use Rattle.std.proofs.lemmas.Slice.Eq.{bytes_eq-Decides}
use Rattle.ob_object.specs.Object.{Object}
use Rattle.ob_tree.specs.Laid.{paths}
use Rattle.ob_tree.specs.Paths.{place_of}
use Rattle.ob_shown_laws.specs.Following.{AreNumbers}
use Rattle.ob_step_laws.specs.Laws.{Apart}
use Rattle.ob_site_rules.specs.Build.{Path}
use Rattle.ob_site_rules.specs.declared.plan.Plan.{Plan}
use Rattle.ob_site_rules.specs.declared.plan.PointRule.{PointRule}
use Rattle.ob_site_rules.specs.State.{State, is_among, roll}
use Rattle.ob_shown_laws.specs.Changed.{differs}
use Rattle.ob_shown_laws.specs.Looked.{IsLeft}
use Rattle.ob_site_state.specs.declared.change.Change.{Change}
use Rattle.ob_site_state.specs.declared.change.Change.TheVariants as change
use Rattle.ob_site_state.specs.Changes.{rewound, CanRewind, ChangesTell}
use Rattle.ob_site_state.specs.Kept.{keys, IsSoundFor}
use Rattle.ob_site_settling.specs.Ending.{AreChanged}
use Rattle.ob_site_settling.specs.Noted.{paths_of, looked_at}
use Rattle.ob_site_settling.proofs.Notes.{among_parts, paths_before, notes_tell}
use Rattle.ob_site_settling.proofs.Slots.{placed}
use Rattle.ob_site_settling.proofs.Differing.{ended}
use Rattle.ob_site_settling.proofs.FirstTold.{Has, IsOther, IsNoted, numbers_told, complete, all_other, nodes_noted}

-- a path that is among some of others
in_either : (p : Path) (xs ys : List Path) → is_among p (xs ++ ys) ≡ true → (is_among p xs ≡ false → is_among p ys ≡ true)
in_either p [] ys e off = e
in_either p (x ∷ xs) ys e off = go (bytes_eq x p) e off (λ f g. in_either p xs ys f g)
  where
    go : (b : Bool) → (b || is_among p (xs ++ ys)) ≡ true → (b || is_among p xs) ≡ false
        → (is_among p (xs ++ ys) ≡ true → is_among p xs ≡ false → is_among p ys ≡ true) → is_among p ys ≡ true
    go true e off behind = absurd (true≢false off)
    go false e off behind = behind e off

kept_among : (D : Path → Bool) (p : Path) (xs : List Path) → D p ≡ true → is_among p xs ≡ true → is_among p (filter D xs) ≡ true
kept_among D p [] keeps e = e
kept_among D p (x ∷ xs) keeps e = go (bytes_eq x p) refl e (λ f. kept_among D p xs keeps f)
  where
    cons : (b : Bool) → is_among p (filter D xs) ≡ true → is_among p (cond b (x ∷ filter D xs) (filter D xs)) ≡ true
    cons true h = or_true (bytes_eq x p) (is_among p (filter D xs)) h
      where
        or_true : (a b : Bool) → b ≡ true → (a || b) ≡ true
        or_true true b e = refl
        or_true false b e = e
    cons false h = h

    go : (b : Bool) → bytes_eq x p ≡ b → (b || is_among p xs) ≡ true → (is_among p xs ≡ true → is_among p (filter D xs) ≡ true) → is_among p (cond (D x) (x ∷ filter D xs) (filter D xs)) ≡ true
    go true is e behind =
        let kept : D x ≡ true = ap D ((bytes_eq-Decides x p).0 is) ∙ keeps in
        ap (λ (b : Bool). is_among p (cond b (x ∷ filter D xs) (filter D xs))) kept ∙ ap (λ (b : Bool). b || is_among p (filter D xs)) is
    go false is e behind = cons (D x) (behind e)

filter_append : (D : Path → Bool) (xs ys : List Path) → filter D (xs ++ ys) ≡ filter D xs ++ filter D ys
filter_append D [] ys = refl
filter_append D (x ∷ xs) ys = go (D x) (filter_append D xs ys)
  where
    go : (b : Bool) → filter D (xs ++ ys) ≡ filter D xs ++ filter D ys → cond b (x ∷ filter D (xs ++ ys)) (filter D (xs ++ ys)) ≡ cond b (x ∷ filter D xs) (filter D xs) ++ filter D ys
    go true behind = ap (λ (l : List Path). x ∷ l) behind
    go false behind = behind

none_kept : (D : Path → Bool) (xs : List Path) → filter D (filter (λ p. not (D p)) xs) ≡ []
none_kept D [] = refl
none_kept D (x ∷ xs) = go (D x) refl (none_kept D xs)
  where
    go : (b : Bool) → D x ≡ b → filter D (filter (λ p. not (D p)) xs) ≡ [] → filter D (cond (not b) (x ∷ filter (λ p. not (D p)) xs) (filter (λ p. not (D p)) xs)) ≡ []
    go true is behind = behind
    go false is behind =
        ap (λ (b : Bool). cond b (x ∷ filter D (filter (λ p. not (D p)) xs)) (filter D (filter (λ p. not (D p)) xs))) is ∙ behind

no_more : (xs : List Path) → xs ++ [] ≡ xs
no_more [] = refl
no_more (x ∷ xs) = ap (λ (l : List Path). x ∷ l) (no_more xs)

-- paths of the nodes of these numbers
one_path : (o : Object) (p q : Path) (n : ℕ) → place_of p (paths o) ≡ Some n → place_of q (paths o) ≡ Some n → p ≡ q
one_path o p q n a b =
    let both : Some (Some p) ≡ Some (Some q) = sym (placed p (paths o) n a) ∙ placed q (paths o) n b in
    let same : p ≡ q = cc in same

record PathsOf (plan : Plan) (cs : List Change) (now : State) (ns : List ℕ) : Type 0 where
  paths_told : List Path
  numbers : AreNumbers (rewound cs now).tree (filter (differs plan (rewound cs now) (ended cs now)) paths_told) ns
  among : (p : Path) (n : ℕ) → place_of p (paths now.tree) ≡ Some n → Has n ns → is_among p paths_told ≡ true

paths_for : (plan : Plan) (cs : List Change) (now : State) → CanRewind cs now → (ns : List ℕ) → AllByRecursion (IsOther plan cs now) ns → PathsOf plan cs now ns
paths_for plan cs now can [] all = record { paths_told = []; numbers = tt; among = λ p n here e. absurd (true≢false (sym e)) }
paths_for plan cs now can (n ∷ ns) all = more (paths_for plan cs now can ns all.1)
  where
    D : Path → Bool
    D = differs plan (rewound cs now) (ended cs now)

    q : Path
    q = all.0.0

    found : (rest : PathsOf plan cs now ns) (p : Path) (m : ℕ) → place_of p (paths now.tree) ≡ Some m → (b : Bool) → nat_eq n m ≡ b → (b || list_any (λ k. nat_eq k m) ns) ≡ true
        → (bytes_eq q p || is_among p rest.paths_told) ≡ true
    found rest p m here true is e =
        let same : q ≡ p = one_path now.tree q p m (all.0.1 ∙ ap (λ (k : ℕ). Some k) (eqb-true n m is)) here in
        ap (λ (b : Bool). b || is_among p rest.paths_told) ((bytes_eq-Decides q p).1 same)
    found rest p m here false is e = or_true (bytes_eq q p) (is_among p rest.paths_told) (rest.among p m here e)
      where
        or_true : (a b : Bool) → b ≡ true → (a || b) ≡ true
        or_true true b e = refl
        or_true false b e = e

    more : PathsOf plan cs now ns → PathsOf plan cs now (n ∷ ns)
    more rest = record {
      paths_told = q ∷ rest.paths_told;
      numbers =
          subst
          (λ (b : Bool). AreNumbers (rewound cs now).tree (cond b (q ∷ filter D rest.paths_told) (filter D rest.paths_told)) (n ∷ ns))
          (sym all.0.2)
          (ap (place_of q) (paths_before cs now can) ∙ all.0.1, rest.numbers);
      among = λ p m here e. found rest p m here (nat_eq n m) refl e;
    }

-- each path that a step looked at is that of an own node
only_one : (p q : Path) → is_among p (q ∷ []) ≡ true → q ≡ p
only_one p q e = (bytes_eq-Decides q p).0 (go (bytes_eq q p) e)
  where
    go : (b : Bool) → (b || false) ≡ true → b ≡ true
    go true e = refl
    go false e = absurd (true≢false (sym e))

among_got : (p : Path) (xs : List Path) (i : ℕ) → is_among p (option_to_list (slice_get xs i)) ≡ true → is_among p xs ≡ true
among_got p [] i e = absurd (true≢false (sym e))
among_got p (x ∷ xs) zero e = ap (λ (b : Bool). b || is_among p xs) ((bytes_eq-Decides x p).1 (only_one p x e))
among_got p (x ∷ xs) (suc i) e = or_true (bytes_eq x p) (is_among p xs) (among_got p xs i e)
  where
    or_true : (a b : Bool) → b ≡ true → (a || b) ≡ true
    or_true true b e = refl
    or_true false b e = e

IsOwnPath : State → Path → Type 0
IsOwnPath s p = is_some (place_of p (paths s.tree)) ≡ true

one_own : (plan : Plan) (now : State) (c : Change) (p : Path) → IsNoted now c → keys now.logs ≡ map (λ h. h.0) plan.histories
    → ((q : Path) → is_among q (map (λ h. h.0) plan.histories) ≡ true → is_some (place_of q (paths now.tree)) ≡ true)
    → ((q : Path) → is_among q (map (λ r. r.source) plan.rules) ≡ true → is_some (place_of q (paths now.tree)) ≡ true)
    → ((q : Path) → plan.subject ≡ Some q → is_some (place_of q (paths now.tree)) ≡ true)
    → is_among p (paths_of plan now c) ≡ true → is_some (place_of p (paths now.tree)) ≡ true
one_own plan now (change.Slot id slot) p node all histories rules subject e =
    let there : slice_get (paths now.tree) id.number ≡ Some (Some node.0) = placed node.0 (paths now.tree) id.number node.1 in
    let same : node.0 ≡ p = only_one p node.0 (sym (ap (λ (o : Option (Option Path)). is_among p (option_to_list (option_and_then (λ x. x) o))) there) ∙ e) in
    ap (λ (q : Path). is_some (place_of q (paths now.tree))) (sym same) ∙ ap is_some node.1
one_own plan now (change.Records place len) p node all histories rules subject e =
    histories p (sym (ap (is_among p) all) ∙ among_got p (keys now.logs) place e)
one_own plan now (change.Event rule status) p node all histories rules subject e = of_subject (is_among p (option_to_list plan.subject)) refl
  where
    named : (o : Option Path) → plan.subject ≡ o → is_among p (option_to_list o) ≡ true → is_some (place_of p (paths now.tree)) ≡ true
    named None is h = absurd (true≢false (sym h))
    named (Some q) is h = subject p (is ∙ ap (λ (x : Path). Some x) (only_one p q h))

    got_source : (rs : List PointRule) (i : ℕ) → option_map (λ r. r.source) (slice_get rs i) ≡ slice_get (map (λ r. r.source) rs) i
    got_source [] i = refl
    got_source (r ∷ rs) zero = refl
    got_source (r ∷ rs) (suc i) = got_source rs i

    of_subject : (b : Bool) → is_among p (option_to_list plan.subject) ≡ b → is_some (place_of p (paths now.tree)) ≡ true
    of_subject true is = named plan.subject refl is
    of_subject false is =
        rules p
        (among_got p (map (λ r. r.source) plan.rules) rule
        (sym (ap (λ (o : Option Path). is_among p (option_to_list o)) (got_source plan.rules rule))
        ∙ in_either p (option_to_list plan.subject) (option_to_list (option_map (λ (r : PointRule). r.source) (slice_get plan.rules rule))) e is))
one_own plan now (change.Contracts library) p node all histories rules subject e = absurd (true≢false (sym e))

all_own : (plan : Plan) (now : State) (cs : List Change) (p : Path) → AllByRecursion (IsNoted now) cs → keys now.logs ≡ map (λ h. h.0) plan.histories
    → ((q : Path) → is_among q (map (λ h. h.0) plan.histories) ≡ true → is_some (place_of q (paths now.tree)) ≡ true)
    → ((q : Path) → is_among q (map (λ r. r.source) plan.rules) ≡ true → is_some (place_of q (paths now.tree)) ≡ true)
    → ((q : Path) → plan.subject ≡ Some q → is_some (place_of q (paths now.tree)) ≡ true)
    → is_among p (looked_at plan now cs) ≡ true → is_some (place_of p (paths now.tree)) ≡ true
all_own plan now [] p noted all histories rules subject e = absurd (true≢false (sym e))
all_own plan now (c ∷ cs) p noted all histories rules subject e =
    go (is_among p (paths_of plan now c)) refl (λ f. all_own plan now cs p noted.1 all histories rules subject f)
  where
    go : (b : Bool) → is_among p (paths_of plan now c) ≡ b → (is_among p (looked_at plan now cs) ≡ true → is_some (place_of p (paths now.tree)) ≡ true) → is_some (place_of p (paths now.tree)) ≡ true
    go true is behind = one_own plan now c p noted.0 all histories rules subject is
    go false is behind = behind (in_either p (paths_of plan now c) (looked_at plan now cs) e is)

-- so the numbers that are told are those of the changed nodes
pub are_changed : (plan : Plan) (cs : List Change) (now : State) → CanRewind cs now → ChangesTell plan cs now → roll (rewound cs now) ≡ rewound cs now → IsSoundFor plan (rewound cs now)
    → keys now.logs ≡ map (λ h. h.0) plan.histories → Apart (map (λ h. h.0) plan.histories)
    → AreChanged plan (rewound cs now) (ended cs now) (numbers_told plan cs now)
are_changed plan cs now can told rolled_before sound same apart = record {
  looked = told_paths.paths_told ++ others;
  left = λ p off. left p (among_parts p told_paths.paths_told others off);
  numbers =
      subst (λ (ps : List Path). AreNumbers (rewound cs now).tree ps (numbers_told plan cs now))
      (sym
      (filter_append D told_paths.paths_told others
      ∙ ap (λ (ps : List Path). filter D told_paths.paths_told ++ ps) (none_kept D (looked_at plan now cs))
      ∙ no_more (filter D told_paths.paths_told)))
      told_paths.numbers;
}
  where
    D : Path → Bool
    D = differs plan (rewound cs now) (ended cs now)

    told_paths : PathsOf plan cs now (numbers_told plan cs now)
    told_paths = paths_for plan cs now can (numbers_told plan cs now) (all_other plan cs now can told sound (subst (λ (ps : List Path). Apart ps) (sym same) apart))

    others : List Path
    others = filter (λ p. not (D p)) (looked_at plan now cs)

    here : (q : Path) → is_some (place_of q (paths (rewound cs now).tree)) ≡ true → is_some (place_of q (paths now.tree)) ≡ true
    here q e = ap (λ (ps : List (Option Path)). is_some (place_of q ps)) (sym (paths_before cs now can)) ∙ e

    own : (p : Path) → is_among p (looked_at plan now cs) ≡ true → is_some (place_of p (paths now.tree)) ≡ true
    own p e =
        all_own plan now cs p (nodes_noted plan cs now can told) same
        (λ q h. here q (sound.roles.histories q h))
        (λ q h. here q (sound.roles.rules q h))
        (λ q h. here q (sound.roles.subject q h))
        e

    some_place : (p : Path) (o : Option ℕ) → place_of p (paths now.tree) ≡ o → is_some o ≡ true → (n : ℕ) × (place_of p (paths now.tree) ≡ Some n)
    some_place p None is e = absurd (true≢false (sym e))
    some_place p (Some n) is e = (n, is)

    unlooked : (p : Path) → is_among p told_paths.paths_told ≡ false → is_among p others ≡ false → (b : Bool) → is_among p (looked_at plan now cs) ≡ b → b ≡ false
    unlooked p off_told off_others false is = refl
    unlooked p off_told off_others true is = differing (D p) refl
      where
        place : (n : ℕ) × (place_of p (paths now.tree) ≡ Some n)
        place = some_place p (place_of p (paths now.tree)) refl (own p is)

        differing : (b : Bool) → D p ≡ b → true ≡ false
        differing true e = sym (told_paths.among p place.0 place.1 (complete plan cs now can told rolled_before sound p place.0 place.1 e)) ∙ off_told
        differing false e = sym (kept_among (λ q. not (D q)) p (looked_at plan now cs) (ap not e) is) ∙ off_others

    left : (p : Path) → (is_among p told_paths.paths_told ≡ false) × (is_among p others ≡ false) → IsLeft plan (rewound cs now) (ended cs now) p
    left p off =
        let rest : IsLeft plan (rewound cs now) (roll now) p =
        notes_tell plan cs now can told rolled_before p (unlooked p off.0 off.1 (is_among p (looked_at plan now cs)) refl) in
        record { own = rest.own; status = rest.status; log = rest.log; count = rest.count }
