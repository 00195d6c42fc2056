-- Entries of one path, where other paths have none.
use Rattle.std.proofs.Common.{◌≡◌, Bool, true, false, true≢false, length, ◌||◌, cond, List, [], ◌∷◌, ◌++◌, map, Option, Some, None, option_map, refl, sym, ap, ◌∙◌, ◌⊎◌, inl, inr, arith}
use Rattle.std.specs.Prelude.{codes, ℕ, ◌+◌, ◌≤◌, is_some}
use Rattle.std.specs.List.{flat_map}
use Rattle.std.specs.Str.{bytes_eq}
use Rattle.std.proofs.lemmas.List.{length-append}
use Rattle.std.proofs.lemmas.Slice.Eq.{bytes_eq-Decides}
use Rattle.ob_values.proofs.Bools.{or_first, or_second}
use Rattle.ob_values.proofs.Lists.{bytes_itself}
use Rattle.ob_alarms.specs.Lists.{first_place}
use Rattle.ob_contracts.specs.Inherit.{or_else}
use Rattle.ob_site_rules.specs.Build.{Path}
use Rattle.ob_site_rules.specs.State.{at, is_among}
use Rattle.ob_site_rules.specs.Paths.{below, ends_with_slash}
use Rattle.ob_site_rules.specs.Places.{event_places, history_places, subject_places}
use Rattle.ob_site_rules.specs.declared.plan.Plan.{Plan}
use Rattle.ob_site_rules.specs.declared.resource.Resource.{Resource}
use Rattle.ob_plain_state.specs.Parts.{point_parts, history_parts}
use Rattle.ob_plain_state.proofs.Placed.{at-append, Entries}
use Rattle.ob_site_state.specs.Roles.{is_at, stands_at}
use Rattle.ob_site_state.proofs.Placed.{some_first}
use Rattle.ob_site_reads.specs.Parents.{has_slash, IsParent}
use Rattle.ob_site_reads.proofs.Slashes.{at_parent, no_parent}
use Rattle.ob_site_reads.proofs.Fronts.{point_off, history_off, subject_off}

is_same : (q a : Path) → bytes_eq q a ≡ true → q ≡ a
is_same q a e = (bytes_eq-Decides q a).0 e

in_front : (q : Path) (qs : List Path) → is_among q (q ∷ qs) ≡ true
in_front q qs = or_first (bytes_eq q q) (is_among q qs) (bytes_itself q)

behind : (r q : Path) (qs : List Path) → is_among r qs ≡ true → is_among r (q ∷ qs) ≡ true
behind r q qs e = or_second (bytes_eq q r) (is_among r qs) e

-- where none of them has an entry
none_at : (f : Path → Entries) (p : Path) (qs : List Path) → ((q : Path) → is_among q qs ≡ true → at p (f q) ≡ None) → at p (flat_map f qs) ≡ None
none_at f p [] off = refl
none_at f p (q ∷ qs) off =
    at-append p (f q) (flat_map f qs)
    ∙ ap (λ (o : Option Resource). or_else o (at p (flat_map f qs))) (off q (in_front q qs))
    ∙ none_at f p qs (λ r e. off r (behind r q qs e))

-- where one alone has
found_at : (f : Path → Entries) (p a : Path) (x : Resource) (qs : List Path) → is_among a qs ≡ true → at p (f a) ≡ Some x
    → ((q : Path) → is_among q qs ≡ true → bytes_eq q a ≡ false → at p (f q) ≡ None) → at p (flat_map f qs) ≡ Some x
found_at f p a x [] there e off = absurd cc
found_at f p a x (q ∷ qs) there e off = at-append p (f q) (flat_map f qs) ∙ go (bytes_eq q a) refl there (λ h. found_at f p a x qs h e (λ r i n. off r (behind r q qs i) n))
  where
    go : (b : Bool) → bytes_eq q a ≡ b → (b || is_among a qs) ≡ true → (is_among a qs ≡ true → at p (flat_map f qs) ≡ Some x) → or_else (at p (f q)) (at p (flat_map f qs)) ≡ Some x
    go true g h later = ap (λ (o : Option Resource). or_else o (at p (flat_map f qs))) (ap (λ (r : Path). at p (f r)) (is_same q a g) ∙ e)
    go false g h later = ap (λ (o : Option Resource). or_else o (at p (flat_map f qs))) (off q (in_front q qs) g) ∙ later h

only_at : (f : Path → Entries) (p a : Path) (qs : List Path) → is_among a qs ≡ true → ((q : Path) → is_among q qs ≡ true → bytes_eq q a ≡ false → at p (f q) ≡ None)
    → at p (flat_map f qs) ≡ at p (f a)
only_at f p a qs there off = go (at p (f a)) refl
  where
    by : (q : Path) (b : Bool) → bytes_eq q a ≡ b → is_among q qs ≡ true → at p (f a) ≡ None → at p (f q) ≡ None
    by q true g i e = ap (λ (r : Path). at p (f r)) (is_same q a g) ∙ e
    by q false g i e = off q i g

    go : (o : Option Resource) → at p (f a) ≡ o → at p (flat_map f qs) ≡ o
    go None e = none_at f p qs (λ q i. by q (bytes_eq q a) refl i e)
    go (Some x) e = found_at f p a x qs there e off

-- Where two have entries and no others, those of the one that comes first are found first.
two_at : (f : Path → Entries) (p a b : Path) (qs : List Path) (m n : ℕ) → first_place (is_at a) qs ≡ Some m → first_place (is_at b) qs ≡ Some n → m ≤ n → bytes_eq a b ≡ false
    → ((q : Path) → bytes_eq q a ≡ false → bytes_eq q b ≡ false → at p (f q) ≡ None) → at p (flat_map f qs) ≡ or_else (at p (f a)) (at p (f b))
two_at f p a b [] m n is_m is_n le apart off = absurd cc
two_at f p a b (q ∷ qs) m n is_m is_n le apart off =
    at-append p (f q) (flat_map f qs)
    ∙ go (λ i k is_i is_k least. two_at f p a b qs i k is_i is_k least apart off) (bytes_eq q a) (bytes_eq q b) refl refl (first_place (is_at a) qs) (first_place (is_at b) qs) refl refl is_m is_n
  where
    rest : Option Resource
    rest = at p (flat_map f qs)

    both : Option Resource
    both = or_else (at p (f a)) (at p (f b))

    one : (r : Path) (s : Bool) → bytes_eq r a ≡ s → bytes_eq r b ≡ false → at p (f a) ≡ None → at p (f r) ≡ None
    one r true s other e = ap (λ (u : Path). at p (f u)) (is_same r a s) ∙ e
    one r false s other e = off r s other

    here : (o : Option Resource) (k : ℕ) → at p (f a) ≡ o → first_place (is_at b) qs ≡ Some k → or_else (at p (f a)) rest ≡ both
    here (Some x) k e later = ap (λ (o : Option Resource). or_else o rest) e ∙ sym (ap (λ (o : Option Resource). or_else o (at p (f b))) e)
    here None k e later =
        ap (λ (o : Option Resource). or_else (at p (f a)) o)
        (only_at f p b qs (sym (some_first (is_at b) qs) ∙ ap is_some later) (λ r i other. one r (bytes_eq r a) refl other e))

    found_here : (o : Option ℕ) → option_map (λ k. k + 1) o ≡ Some n → (k : ℕ) × (o ≡ Some k) × (k + 1 ≡ n)
    found_here None e = absurd cc
    found_here (Some k) e = (k, refl, some_is e)
      where
        some_is : {x y : ℕ} → Some x ≡ Some y → x ≡ y
        some_is e = cc

    go : ((i k : ℕ) → first_place (is_at a) qs ≡ Some i → first_place (is_at b) qs ≡ Some k → i ≤ k → rest ≡ both) → (s t : Bool) → bytes_eq q a ≡ s → bytes_eq q b ≡ t → (u v : Option ℕ) → first_place (is_at a) qs ≡ u → first_place (is_at b) qs ≡ v
        → cond s (Some 0) (option_map (λ k. k + 1) u) ≡ Some m → cond t (Some 0) (option_map (λ k. k + 1) v) ≡ Some n → or_else (at p (f q)) rest ≡ both
    go again true true s t u v is_u is_v e g =
        let same : bytes_eq a b ≡ true = ap (λ (r : Path). bytes_eq r b) (sym (is_same q a s)) ∙ t in
        absurd cc
    go again true false s t u v is_u is_v e g =
        let (k, is_k, more) = found_here v g in
        ap (λ (r : Path). or_else (at p (f r)) rest) (is_same q a s) ∙ here (at p (f a)) k refl (is_v ∙ is_k)
    go again false true s t None v is_u is_v e g = absurd cc
    go again false true s t (Some k) v is_u is_v e g = absurd (omega (arith, le, some_is e, some_is g))
      where
        some_is : {x y : ℕ} → Some x ≡ Some y → x ≡ y
        some_is e = cc
    go again false false s t None v is_u is_v e g = absurd cc
    go again false false s t (Some i) v is_u is_v e g =
        let (k, is_k, more) = found_here v g in
        ap (λ (o : Option Resource). or_else o rest) (off q s t)
        ∙ again i k is_u (is_v ∙ is_k) (omega (arith, le, more, some_is e))
      where
        some_is : {x y : ℕ} → Some x ≡ Some y → x ≡ y
        some_is e = cc

-- one that is among some isn't one that isn't
differ : (q a : Path) (qs : List Path) → is_among q qs ≡ true → is_among a qs ≡ false → bytes_eq q a ≡ false
differ q a qs i other = go (bytes_eq q a) refl
  where
    go : (b : Bool) → bytes_eq q a ≡ b → b ≡ false
    go true g =
        let there : is_among a qs ≡ true = ap (λ (r : Path). is_among r qs) (sym (is_same q a g)) ∙ i in
        absurd cc
    go false g = refl

-- Entries at a path are those of its parent alone, with a slash behind it or without.
abbrev pub AreAtParent : (Path → Entries) → Path → Path → Type 0
AreAtParent f p front = (q : Path) → bytes_eq q front ≡ false → bytes_eq q (front ++ 47 ∷ []) ≡ false → at p (f q) ≡ None

pub neither_at : (f : Path → Entries) (p front : Path) (qs : List Path) → AreAtParent f p front → is_among front qs ≡ false → is_among (front ++ 47 ∷ []) qs ≡ false → at p (flat_map f qs) ≡ None
neither_at f p front qs off a b = none_at f p qs (λ q i. off q (differ q front qs i a) (differ q (front ++ 47 ∷ []) qs i b))

pub plain_at : (f : Path → Entries) (p front : Path) (qs : List Path) → AreAtParent f p front → is_among front qs ≡ true → is_among (front ++ 47 ∷ []) qs ≡ false → at p (flat_map f qs) ≡ at p (f front)
plain_at f p front qs off a b = only_at f p front qs a (λ q i n. off q n (differ q (front ++ 47 ∷ []) qs i b))

pub slashed_at : (f : Path → Entries) (p front : Path) (qs : List Path) → AreAtParent f p front → is_among front qs ≡ false → is_among (front ++ 47 ∷ []) qs ≡ true → at p (flat_map f qs) ≡ at p (f (front ++ 47 ∷ []))
slashed_at f p front qs off a b = only_at f p (front ++ 47 ∷ []) qs b (λ q i n. off q (differ q front qs i a) n)

-- the children of no other node have this path
not_below : (p q name front : Path) → IsParent p (Some front) → has_slash name ≡ false → bytes_eq q front ≡ false → bytes_eq q (front ++ 47 ∷ []) ≡ false → bytes_eq (below q name) p ≡ false
not_below p q name front is free a b = go (bytes_eq (below q name) p) refl
  where
    clash : (r : Path) → bytes_eq q r ≡ false → q ≡ r → ⊥
    clash r n e =
        let there : bytes_eq q r ≡ true = ap (bytes_eq q) (sym e) ∙ bytes_itself q in
        absurd cc

    either : (q ≡ front) ⊎ (q ≡ front ++ 47 ∷ []) → ⊥
    either (inl e) = clash front a e
    either (inr e) = clash (front ++ 47 ∷ []) b e

    go : (t : Bool) → bytes_eq (below q name) p ≡ t → t ≡ false
    go true e = absurd (either (at_parent p q name front is free (is_same (below q name) p e)))
    go false e = refl

never_below : (p q name : Path) → IsParent p None → bytes_eq (below q name) p ≡ false
never_below p q name none = go (bytes_eq (below q name) p) refl
  where
    go : (t : Bool) → bytes_eq (below q name) p ≡ t → t ≡ false
    go true e = absurd (no_parent p q name none (is_same (below q name) p e))
    go false e = refl

-- nor do those of any where the path doesn't end with the name
abbrev pub IsUnended : Path → Path → Type 0
IsUnended p name = (front : Path) → p ≡ front ++ name → ⊥

unended_below : (p q name : Path) → IsUnended p name → bytes_eq (below q name) p ≡ false
unended_below p q name off = go (bytes_eq (below q name) p) refl
  where
    go : (t : Bool) → bytes_eq (below q name) p ≡ t → t ≡ false
    go true e = absurd (off (cond (ends_with_slash q) q (q ++ 47 ∷ [])) (sym (is_same (below q name) p e)))
    go false e = refl

pub unended_points : (p : Path) (qs : List Path) → IsUnended p (codes "writePoint") → at p (flat_map point_parts qs) ≡ None
unended_points p qs off = none_at point_parts p qs (λ q i. point_off p q (unended_below p q (codes "writePoint") off))

-- so of points
pub points_at : (p front : Path) → IsParent p (Some front) → AreAtParent point_parts p front
points_at p front is q a b = point_off p q (not_below p q (codes "writePoint") front is refl a b)

-- one is there where a place of one is found
pub has_point : (q : Path) (qs : List Path) (b : Bool) → is_some (first_place (is_at q) qs) ≡ b → is_among q qs ≡ b
has_point q qs b e = sym (some_first (is_at q) qs) ∙ e

pub slashed_point : (p front slashed : Path) (qs : List Path) (r : Option Resource) → IsParent p (Some front) → slashed ≡ front ++ 47 ∷ [] → is_among front qs ≡ false → is_among slashed qs ≡ true
    → r ≡ at p (point_parts slashed) → r ≡ at p (flat_map point_parts qs)
slashed_point p front slashed qs r is e a b here =
    here
    ∙ ap (λ (q : Path). at p (point_parts q)) e
    ∙ sym (slashed_at point_parts p front qs (points_at p front is) a (ap (λ (q : Path). is_among q qs) (sym e) ∙ b))

pub plain_point : (p front slashed : Path) (qs : List Path) (r : Option Resource) → IsParent p (Some front) → slashed ≡ front ++ 47 ∷ [] → is_among front qs ≡ true → is_among slashed qs ≡ false
    → r ≡ at p (point_parts front) → r ≡ at p (flat_map point_parts qs)
plain_point p front slashed qs r is e a b here = here ∙ sym (plain_at point_parts p front qs (points_at p front is) a (ap (λ (q : Path). is_among q qs) (sym e) ∙ b))

pub neither_point : (p front slashed : Path) (qs : List Path) → IsParent p (Some front) → slashed ≡ front ++ 47 ∷ [] → is_among front qs ≡ false → is_among slashed qs ≡ false
    → None ≡ at p (flat_map point_parts qs)
neither_point p front slashed qs is e a b = sym (neither_at point_parts p front qs (points_at p front is) a (ap (λ (q : Path). is_among q qs) (sym e) ∙ b))

-- a path and the one with a slash behind it
apart_slashed : (q : Path) → bytes_eq q (q ++ 47 ∷ []) ≡ false
apart_slashed q = go (bytes_eq q (q ++ 47 ∷ [])) refl
  where
    longer : (r : Path) → r ≡ r ++ 47 ∷ [] → ⊥
    longer r e = absurd (omega (arith, ap length e, length-append r (47 ∷ [])))

    go : (b : Bool) → bytes_eq q (q ++ 47 ∷ []) ≡ b → b ≡ false
    go true e = absurd (longer q (is_same q (q ++ 47 ∷ []) e))
    go false e = refl

apart_plain : (q : Path) → bytes_eq (q ++ 47 ∷ []) q ≡ false
apart_plain q = go (bytes_eq (q ++ 47 ∷ []) q) refl
  where
    go : (b : Bool) → bytes_eq (q ++ 47 ∷ []) q ≡ b → b ≡ false
    go true e =
        let same : bytes_eq q (q ++ 47 ∷ []) ≡ true = ap (bytes_eq q) (is_same (q ++ 47 ∷ []) q e) ∙ bytes_itself q in
        absurd (true≢false (sym same ∙ apart_slashed q))
    go false e = refl

-- where both are there, the one that comes first is looked at first
pub both_plain_first : (f : Path → Entries) (p front slashed : Path) (qs : List Path) (m n : ℕ) → AreAtParent f p front → slashed ≡ front ++ 47 ∷ [] → Some m ≡ first_place (is_at front) qs → Some n ≡ first_place (is_at slashed) qs
    → m ≤ n → or_else (at p (f front)) (at p (f slashed)) ≡ at p (flat_map f qs)
both_plain_first f p front slashed qs m n off e is_m is_n le =
    sym (two_at f p front slashed qs m n (sym is_m) (sym is_n) le (ap (bytes_eq front) e ∙ apart_slashed front) (λ q a b. off q a (ap (bytes_eq q) (sym e) ∙ b)))

pub both_slashed_first : (f : Path → Entries) (p front slashed : Path) (qs : List Path) (m n : ℕ) → AreAtParent f p front → slashed ≡ front ++ 47 ∷ [] → Some m ≡ first_place (is_at front) qs → Some n ≡ first_place (is_at slashed) qs
    → n ≤ m → or_else (at p (f slashed)) (at p (f front)) ≡ at p (flat_map f qs)
both_slashed_first f p front slashed qs m n off e is_m is_n le =
    sym (two_at f p slashed front qs n m (sym is_n) (sym is_m) le (ap (λ (r : Path). bytes_eq r front) e ∙ apart_plain front) (λ q a b. off q b (ap (bytes_eq q) (sym e) ∙ a)))

pub no_points : (p : Path) (qs : List Path) → IsParent p None → at p (flat_map point_parts qs) ≡ None
no_points p qs none = none_at point_parts p qs (λ q i. point_off p q (never_below p q (codes "writePoint") none))

-- and of histories
pub histories_at : (p front : Path) → IsParent p (Some front) → AreAtParent history_parts p front
histories_at p front is q a b = history_off p q (not_below p q (codes "query") front is refl a b) (not_below p q (codes "feed") front is refl a b)

pub by_paths : (hs : List (Path × Option Path)) → flat_map (λ h. history_parts h.0) hs ≡ flat_map history_parts (map (λ h. h.0) hs)
by_paths [] = refl
by_paths (h ∷ hs) = ap (λ (es : Entries). history_parts h.0 ++ es) (by_paths hs)

pub no_histories : (p : Path) (hs : List (Path × Option Path)) → IsParent p None → at p (flat_map (λ h. history_parts h.0) hs) ≡ None
no_histories p hs none =
    ap (at p) (by_paths hs)
    ∙ none_at history_parts p (map (λ h. h.0) hs) (λ q i. history_off p q (never_below p q (codes "query") none) (never_below p q (codes "feed") none))

unended_histories : (p : Path) (hs : List (Path × Option Path)) → IsUnended p (codes "query") → IsUnended p (codes "feed") → at p (flat_map (λ h. history_parts h.0) hs) ≡ None
unended_histories p hs a b =
    ap (at p) (by_paths hs)
    ∙ none_at history_parts p (map (λ h. h.0) hs) (λ q i. history_off p q (unended_below p q (codes "query") a) (unended_below p q (codes "feed") b))

unended_subject : (p : Path) (subject : Option Path) → IsUnended p (codes "query") → IsUnended p (codes "feed") → at p (subject_places subject) ≡ None
unended_subject p None a b = refl
unended_subject p (Some q) a b = subject_off p q (unended_below p q (codes "query") a) (unended_below p q (codes "feed") b)

-- the ops and feeds of histories and of the alarm subject
pub unended_events : (plan : Plan) (p : Path) → IsUnended p (codes "query") → IsUnended p (codes "feed") → at p (event_places plan) ≡ None
unended_events plan p a b =
    at-append p (history_places plan) (subject_places plan.subject)
    ∙ ap (λ (o : Option Resource). or_else o (at p (subject_places plan.subject))) (unended_histories p plan.histories a b)
    ∙ unended_subject p plan.subject a b

-- there is a history at a path where a place of one is found
pub has_history : (p : Path) (hs : List (Path × Option Path)) → is_some (first_place (stands_at p) hs) ≡ is_among p (map (λ h. h.0) hs)
has_history p [] = refl
has_history p (h ∷ hs) = go (bytes_eq h.0 p) (first_place (stands_at p) hs) (has_history p hs)
  where
    go : (b : Bool) (o : Option ℕ) → is_some o ≡ is_among p (map (λ h. h.0) hs) → is_some (cond b (Some 0) (option_map (λ n. n + 1) o)) ≡ (b || is_among p (map (λ h. h.0) hs))
    go true o e = refl
    go false None e = e
    go false (Some n) e = e

abbrev paths_of : List (Path × Option Path) → List Path
paths_of hs = map (λ h. h.0) hs

is_there : (q : Path) (hs : List (Path × Option Path)) (b : Bool) → is_some (first_place (stands_at q) hs) ≡ b → is_among q (paths_of hs) ≡ b
is_there q hs b e = sym (has_history q hs) ∙ e

-- and the place is the same
pub first_of_paths : (p : Path) (hs : List (Path × Option Path)) → first_place (is_at p) (map (λ h. h.0) hs) ≡ first_place (stands_at p) hs
first_of_paths p [] = refl
first_of_paths p (h ∷ hs) = ap (λ (o : Option ℕ). cond (bytes_eq h.0 p) (Some 0) (option_map (λ n. n + 1) o)) (first_of_paths p hs)

pub slashed_history : (p front slashed : Path) (hs : List (Path × Option Path)) (r : Option Resource) → IsParent p (Some front) → slashed ≡ front ++ 47 ∷ []
    → is_some (first_place (stands_at front) hs) ≡ false → is_some (first_place (stands_at slashed) hs) ≡ true → r ≡ at p (history_parts slashed) → r ≡ at p (flat_map (λ h. history_parts h.0) hs)
slashed_history p front slashed hs r is e a b here =
    here
    ∙ ap (λ (q : Path). at p (history_parts q)) e
    ∙ sym (slashed_at history_parts p front (paths_of hs) (histories_at p front is) (is_there front hs false a) (ap (λ (q : Path). is_among q (paths_of hs)) (sym e) ∙ is_there slashed hs true b))
    ∙ ap (at p) (sym (by_paths hs))

pub plain_history : (p front slashed : Path) (hs : List (Path × Option Path)) (r : Option Resource) → IsParent p (Some front) → slashed ≡ front ++ 47 ∷ []
    → is_some (first_place (stands_at front) hs) ≡ true → is_some (first_place (stands_at slashed) hs) ≡ false → r ≡ at p (history_parts front) → r ≡ at p (flat_map (λ h. history_parts h.0) hs)
plain_history p front slashed hs r is e a b here =
    here
    ∙ sym (plain_at history_parts p front (paths_of hs) (histories_at p front is) (is_there front hs true a) (ap (λ (q : Path). is_among q (paths_of hs)) (sym e) ∙ is_there slashed hs false b))
    ∙ ap (at p) (sym (by_paths hs))

pub neither_history : (p front slashed : Path) (hs : List (Path × Option Path)) → IsParent p (Some front) → slashed ≡ front ++ 47 ∷ []
    → is_some (first_place (stands_at front) hs) ≡ false → is_some (first_place (stands_at slashed) hs) ≡ false → None ≡ at p (flat_map (λ h. history_parts h.0) hs)
neither_history p front slashed hs is e a b =
    sym (neither_at history_parts p front (paths_of hs) (histories_at p front is) (is_there front hs false a) (ap (λ (q : Path). is_among q (paths_of hs)) (sym e) ∙ is_there slashed hs false b))
    ∙ ap (at p) (sym (by_paths hs))

-- where both are there, the one that comes first is looked at first
pub both_plain_history : (p front slashed : Path) (hs : List (Path × Option Path)) (m n : ℕ) → IsParent p (Some front) → slashed ≡ front ++ 47 ∷ [] → Some m ≡ first_place (stands_at front) hs
    → Some n ≡ first_place (stands_at slashed) hs → m ≤ n → or_else (at p (history_parts front)) (at p (history_parts slashed)) ≡ at p (flat_map (λ h. history_parts h.0) hs)
both_plain_history p front slashed hs m n is e is_m is_n le =
    both_plain_first history_parts p front slashed (paths_of hs) m n (histories_at p front is) e (is_m ∙ sym (first_of_paths front hs)) (is_n ∙ sym (first_of_paths slashed hs)) le
    ∙ ap (at p) (sym (by_paths hs))

pub both_slashed_history : (p front slashed : Path) (hs : List (Path × Option Path)) (m n : ℕ) → IsParent p (Some front) → slashed ≡ front ++ 47 ∷ [] → Some m ≡ first_place (stands_at front) hs
    → Some n ≡ first_place (stands_at slashed) hs → n ≤ m → or_else (at p (history_parts slashed)) (at p (history_parts front)) ≡ at p (flat_map (λ h. history_parts h.0) hs)
both_slashed_history p front slashed hs m n is e is_m is_n le =
    both_slashed_first history_parts p front slashed (paths_of hs) m n (histories_at p front is) e (is_m ∙ sym (first_of_paths front hs)) (is_n ∙ sym (first_of_paths slashed hs)) le
    ∙ ap (at p) (sym (by_paths hs))
