-- What a state owes its plan, kept.
use Rattle.std.proofs.Common.{◌≡◌, ℕ, zero, suc, ◌-◌, ◌<◌, ◌^◌, Bool, true, false, ◌||◌, ◌&&◌, cond, List, [], ◌∷◌, ◌++◌, map, length, get_or, Option, Some, None, option_map, refl, sym, ap, ◌∙◌, subst, arith}
use Rattle.std.specs.Prelude.{is_some, find, codes}
use Rattle.std.specs.Str.{bytes_eq}
use Rattle.std.specs.List.{list_any}
use Rattle.std.proofs.lemmas.List.{map-append, length-drop}
use Rattle.ob_object.specs.Object.{Object, Objects, none, node, listed}
use Rattle.ob_object.specs.WellFormed.{has_name, named, is_taken, NamesDiffer}
use Rattle.ob_object.specs.Paths.{is_path, node_path}
use Rattle.ob_site_rules.specs.State.{Log as SiteLog, State as SiteState, at, board, is_among, rolled, rolled_logs}
use Rattle.ob_site_rules.specs.declared.plan.Plan.{Plan}
use Rattle.ob_site_rules.specs.Build.{Path}
use Rattle.ob_plain_state.specs.States.{AreCounted, NamesAreFree, entry_of, log_of}
use Rattle.ob_site_rules.specs.Shown.{derived, derived_at, history_part, lobby_children, subject_children, write_point_op}
use Rattle.ob_site_rules.specs.Writes.{events_ever}
use Rattle.ob_plain_state.specs.declared.log.OpenedLog.{OpenedLog}

abbrev pub names_of : List Object → List (Option Path)
names_of os = map (λ o. o.head.name) os

abbrev pub taken_among : Option Path → List (Option Path) → Bool
taken_among None ns = false
taken_among (Some n) ns = list_any (has_name n) ns

pub found_or : (b : Bool) (o : Object) (r : Option Object) → is_some (cond b (Some o) r) ≡ (b || is_some r)
found_or true o r = refl
found_or false o r = refl

pub named-any : (n : Path) (os : List Object) → is_some (named n os) ≡ list_any (has_name n) (names_of os)
named-any n [] = refl
named-any n (o ∷ os) = found_or (has_name n o.head.name) o (named n os) ∙ ap (λ b. has_name n o.head.name || b) (named-any n os)

pub taken-among : (n : Option Path) (os : List Object) → is_taken n os ≡ taken_among n (names_of os)
taken-among None os = refl
taken-among (Some n) os = named-any n os

abbrev Differ : List (Option Path) → Type 0
Differ [] = Unit {0}
Differ (n ∷ ns) = (taken_among n ns ≡ false) × Differ ns

differ_names : (os : List Object) → NamesDiffer os → Differ (names_of os)
differ_names [] d = tt
differ_names (o ∷ os) d = (sym (taken-among o.head.name os) ∙ d.0, differ_names os d.1)

names_differ : (os : List Object) → Differ (names_of os) → NamesDiffer os
names_differ [] d = tt
names_differ (o ∷ os) d = (taken-among o.head.name os ∙ d.0, names_differ os d.1)

-- whether names differ is told by the names
pub NamesDiffer-same : (xs ys : List Object) → names_of xs ≡ names_of ys → NamesDiffer xs → NamesDiffer ys
NamesDiffer-same xs ys e d = names_differ ys (subst Differ e (differ_names xs d))

abbrev pub keys_of : {A : Type 0} → List (Path × A) → List Path
keys_of es = map (λ e. e.0) es

at_or : {A : Type 0} (b : Bool) (e : Path × A) (r : Option (Path × A)) → is_some (option_map (λ x. x.1) (cond b (Some e) r)) ≡ (b || is_some (option_map (λ x. x.1) r))
at_or true e r = refl
at_or false e r = refl

at-keys : {A : Type 0} (p : Path) (es : List (Path × A)) → is_some (at p es) ≡ list_any (λ k. bytes_eq k p) (keys_of es)
at-keys p [] = refl
at-keys p (e ∷ es) = at_or (bytes_eq e.0 p) e (find (λ x. bytes_eq x.0 p) es) ∙ ap (λ b. bytes_eq e.0 p || b) (at-keys p es)

abbrev history_names : Bool → List (Option Path)
history_names b = cond b (Some (codes "count") ∷ Some (codes "start") ∷ Some (codes "end") ∷ Some (codes "query") ∷ Some (codes "feed") ∷ []) []

names-history : (p : Path) (o : Option SiteLog) → names_of (history_part p o) ≡ history_names (is_some o)
names-history p None = refl
names-history p (Some l) = refl

abbrev subject_names : Bool → List (Option Path)
subject_names b = cond b (Some (codes "count") ∷ Some (codes "query") ∷ Some (codes "feed") ∷ []) []

names-subject : (b : Bool) (p : Path) (n : ℕ) → names_of (cond b (subject_children p n) []) ≡ subject_names b
names-subject true p n = refl
names-subject false p n = refl

-- the names that roles derive, where the histories are known
abbrev names_at : Plan → Bool → Path → List (Option Path)
names_at plan history p =
    names_of (cond (plan.lobby && bytes_eq p plan.root) (lobby_children plan) [])
    ++ (names_of (cond (is_among p plan.points) (write_point_op p ∷ []) []) ++ (history_names history ++ subject_names (is_path p plan.subject)))

names-derived_at : (plan : Plan) (s : SiteState) (p : Path) → names_of (derived_at plan s p) ≡ names_at plan (is_some (at p s.logs)) p
names-derived_at plan s p =
    let name : Object → Option Path = λ o. o.head.name in
    let lobby = cond (plan.lobby && bytes_eq p plan.root) (lobby_children plan) [] in
    let point = cond (is_among p plan.points) (write_point_op p ∷ []) [] in
    let history = history_part p (at p s.logs) in
    let subject = cond (is_path p plan.subject) (subject_children p (length s.alarms)) [] in
    map-append name lobby (point ++ (history ++ subject))
    ∙ ap (λ l. names_of lobby ++ l) (map-append name point (history ++ subject)
    ∙ ap (λ l. names_of point ++ l) (map-append name history subject
    ∙ ap (λ l. l ++ names_of subject) (names-history p (at p s.logs))
    ∙ ap (λ l. history_names (is_some (at p s.logs)) ++ l) (names-subject (is_path p plan.subject) p (length s.alarms))))

-- histories at the same paths derive the same names
pub names-derived : (plan : Plan) (s t : SiteState) → keys_of s.logs ≡ keys_of t.logs → (p : Option Path) → names_of (derived plan s p) ≡ names_of (derived plan t p)
names-derived plan s t e None = refl
names-derived plan s t e (Some p) =
    let same : is_some (at p s.logs) ≡ is_some (at p t.logs) = at-keys p s.logs ∙ ap (list_any (λ k. bytes_eq k p)) e ∙ sym (at-keys p t.logs) in
    names-derived_at plan s p ∙ ap (λ b. names_at plan b p) same ∙ sym (names-derived_at plan t p)

pub NamesAreFree-same : (plan : Plan) (s t : SiteState) → keys_of s.logs ≡ keys_of t.logs → (r : Objects) → NamesAreFree plan s r → NamesAreFree plan t r
NamesAreFree-same plan s t e none f = tt
NamesAreFree-same plan s t e (node h inner rest) f =
    let name : Object → Option Path = λ o. o.head.name in
    let own = listed inner in
    let names : names_of (own ++ derived plan s (node_path h)) ≡ names_of (own ++ derived plan t (node_path h)) =
    map-append name own (derived plan s (node_path h))
    ∙ ap (λ l. names_of own ++ l) (names-derived plan s t e (node_path h))
    ∙ sym (map-append name own (derived plan t (node_path h))) in
    (NamesDiffer-same _ _ names f.0, NamesAreFree-same plan s t e inner f.1, NamesAreFree-same plan s t e rest f.2)

-- the log of an entry is counted
pub counted_at : (ls : List (Path × OpenedLog)) (i : ℕ) (x : Path × OpenedLog) → i < length ls → x ≡ get_or ls i x → AreCounted (map entry_of ls) → events_ever (log_of x.1) < 2 ^ 63
counted_at [] i x lt is c = absurd (omega arith)
counted_at (l ∷ ls) zero x lt is c = subst (λ (e : Path × OpenedLog). events_ever (log_of e.1) < 2 ^ 63) (sym is) c.0
counted_at (l ∷ ls) (suc i) x lt is c = counted_at ls i x (omega arith) is c.1

rolled-counted : (l : SiteLog) (o : Option ℕ) → l.capacity ≡ o → events_ever l < 2 ^ 63 → events_ever (rolled l) < 2 ^ 63
rolled-counted l None e h = rw e h
rolled-counted l (Some c) e h = rw e (omega (arith, length-drop (length l.kept - c) l.kept))

-- rolled logs are counted
pub rolled_counted : (ls : List (Path × SiteLog)) → AreCounted ls → AreCounted (rolled_logs ls)
rolled_counted [] c = tt
rolled_counted (l ∷ ls) c = (rolled-counted l.1 l.1.capacity refl c.0, rolled_counted ls c.1)

pub keys-rolled : (ls : List (Path × SiteLog)) → keys_of ls ≡ keys_of (rolled_logs ls)
keys-rolled [] = refl
keys-rolled (l ∷ ls) = ap (λ ks. l.0 ∷ ks) (keys-rolled ls)
