-- The moment of the boot is in no refusal, and in the state only as the boot and in the time.
use Rattle.std.proofs.Common.{◌≡◌, ℕ, Bool, true, false, cond, List, [], ◌++◌, Option, Some, None, refl, ap, ◌∙◌, subst, nat_lt}
use Rattle.std.specs.Prelude.{Result, Ok, Err}
use Rattle.url.specs.Parts.{Parts}
use Rattle.ob_object.specs.declared.head.Head.{Head}
use Rattle.ob_object.specs.Object.{Objects, none, node, Object, listed, in_row, parts}
use Rattle.ob_object.specs.Paths.{node_path}
use Rattle.ob_contracts.specs.Inherit.{Contracts, effective_of}
use Rattle.ob_contracts.specs.Standard.{standard}
use Rattle.ob_contracts.specs.declared.adding.LibFault.{LibFault}
use Rattle.ob_hrefs.specs.Hrefs.{root_url, site_path, bad_href}
use Rattle.ob_site_rules.specs.Build.{Path}
use Rattle.ob_site_rules.specs.Shown.{rule_of, with_status_by, with_status_at, with_status, derived, with_roles, dressed, shown_root}
use Rattle.ob_site_rules.specs.State.{State}
use Rattle.ob_site_rules.specs.declared.plan.Plan.{Plan}
use Rattle.ob_site_rules.specs.Writes.{site_contracts}
use Rattle.ob_site_rules.specs.Sites.{SiteState}
use Rattle.ob_site_rules.specs.Roles.{no_roles, all_roles, worded_contracts}
use Rattle.ob_site_rules.specs.Opening.{standard_words, opening}
use Rattle.ob_site_rules.specs.Loading.{LoadFault, Href, BadRule, Size, row_of, kept_root, parts_of, paths_in, taken_twice, bad_part, opened, or_twice, or_bad, within_size, opened_with, opened_by, opening_at, made_root, root_of, add_contracts}
use Rattle.ob_opening_laws.specs.Moments.{at_moment, OpensAtEach, RefusedAtEach}

-- ---- what is shown

-- a plan at another boot
abbrev booted : ℕ → Plan → Plan
booted other plan = record plan { boot = other }

module _ (plan : Plan) (other : ℕ) (s : State) where
  by_rule : (h : Head) (rule : Option ℕ) → with_status_by plan s h rule ≡ with_status_by (booted other plan) s h rule
  by_rule h None = refl
  by_rule h (Some n) = refl

  at_path : (h : Head) (p : Option Path) → with_status_at plan s h p ≡ with_status_at (booted other plan) s h p
  at_path h None = refl
  at_path h (Some p) = by_rule h (rule_of plan p)

  derived_same : (p : Option Path) → derived plan s p ≡ derived (booted other plan) s p
  derived_same None = refl
  derived_same (Some p) = refl

  head_same : (h : Head) → with_status plan s h ≡ with_status (booted other plan) s h
  head_same h = at_path h (node_path h)

  inner_same : (inner : Objects) (p : Option Path) → with_roles plan s inner ≡ with_roles (booted other plan) s inner
      → in_row (listed (with_roles plan s inner) ++ derived plan s p) ≡ in_row (listed (with_roles (booted other plan) s inner) ++ derived (booted other plan) s p)
  inner_same inner p is = ap (λ (r : Objects). in_row (listed r ++ derived plan s p)) is ∙ ap (λ ds. in_row (listed (with_roles (booted other plan) s inner) ++ ds)) (derived_same p)

  row_same : (r : Objects) → with_roles plan s r ≡ with_roles (booted other plan) s r
  row_same none = refl
  row_same (node h inner rest) =
      let shown : Objects = in_row (listed (with_roles plan s inner) ++ derived plan s (node_path h)) in
      let shown' : Objects = in_row (listed (with_roles (booted other plan) s inner) ++ derived (booted other plan) s (node_path h)) in
      ap (λ (x : Head). node x shown (with_roles plan s rest)) (head_same h)
      ∙ ap (λ (x : Objects). node (with_status (booted other plan) s h) x (with_roles plan s rest)) (inner_same inner (node_path h) (row_same inner))
      ∙ ap (λ (x : Objects). node (with_status (booted other plan) s h) shown' x) (row_same rest)

  dressed_same : dressed plan s ≡ dressed (booted other plan) s
  dressed_same =
      let inner : Objects = in_row (listed (with_roles plan s s.tree.inner) ++ derived plan s (node_path s.tree.head)) in
      ap (λ (x : Head). record { head = x; inner = inner }) (head_same s.tree.head)
      ∙ ap (λ (x : Objects). record { head = with_status (booted other plan) s s.tree.head; inner = x }) (inner_same s.tree.inner (node_path s.tree.head) (row_same s.tree.inner))

  -- what is shown doesn't depend on the moment of the boot
  pub shown_same : shown_root plan s ≡ shown_root (booted other plan) s
  shown_same = ap (λ (o : Object). effective_of s.library o None None) dressed_same

-- ---- what is opened

-- at another moment: the same refusal, or the same state but for the boot and the time
abbrev Alike : ℕ → (a b : Result SiteState LoadFault) → Type 0
Alike other (Ok st) (Ok st') = (time : ℕ) × (st' ≡ at_moment other time st)
Alike other (Err fault) (Err fault') = fault' ≡ fault
Alike other _ _ = ⊥

size_alike : (other time : ℕ) (st : SiteState) → Alike other (within_size st) (within_size (at_moment other time st))
size_alike other time st =
    subst (λ (o : Object). Alike other (within_size st) (cond (nat_lt 200_000 (parts o)) (Err Size) (Ok (at_moment other time st)))) (shown_same st.plan other st.world.site)
    (go (nat_lt 200_000 (parts (shown_root st.plan st.world.site))))
  where
    go : (b : Bool) → Alike other (cond b (Err Size) (Ok st)) (cond b (Err Size) (Ok (at_moment other time st)))
    go true = refl
    go false = (time, refl)

bad_alike : {A : Type 0} (other : ℕ) (fault : A → LoadFault) (o : Option A) (a b : Result SiteState LoadFault) → Alike other a b → Alike other (or_bad fault o a) (or_bad fault o b)
bad_alike other fault None a b h = h
bad_alike other fault (Some n) a b h = refl

twice_alike : (other : ℕ) (o : Option Path) (a b : Result SiteState LoadFault) → Alike other a b → Alike other (or_twice o a) (or_twice o b)
twice_alike other None a b h = h
twice_alike other (Some p) a b h = refl

with_alike : (base : Parts) (r : Path) (boot other : ℕ) (lib words : Contracts) (root : Object)
    → Alike other (opened_with base r boot lib words root) (opened_with base r other lib words root)
with_alike base r boot other lib words root =
    let rs = all_roles words root in
    let ps = parts_of rs 0 false no_roles (row_of root) in
    let made : ℕ → SiteState = λ b. opened base r b lib root (kept_root rs root) ps in
    twice_alike other (taken_twice r [] (paths_in rs 0 no_roles (row_of root))) (or_bad BadRule (bad_part ps) (within_size (made boot))) (or_bad BadRule (bad_part ps) (within_size (made other)))
    (bad_alike other BadRule (bad_part ps) (within_size (made boot)) (within_size (made other)) (size_alike other (made other).world.time (made boot)))

by_alike : (base : Parts) (r : Path) (boot other : ℕ) (added : Result Contracts LibFault) (words : Contracts) (root : Object)
    → Alike other (opened_by base r boot added words root) (opened_by base r other added words root)
by_alike base r boot other (Err fault) words root = refl
by_alike base r boot other (Ok lib) words root = with_alike base r boot other lib (worded_contracts words (site_contracts root)) root

module _ (url : List ℕ → Option Parts) (resolve : Parts → List ℕ → Option Path) (std words : Contracts) where
  at_alike : (root : Object) (boot other : ℕ) (u : Option Parts) → Alike other (opening_at url resolve std words root boot u) (opening_at url resolve std words root other u)
  at_alike root boot other None = refl
  at_alike root boot other (Some u) =
      let m : Object = made_root url resolve std words u root in
      let added : Result Contracts LibFault = add_contracts (Ok std) (site_contracts m) in
      bad_alike other Href (bad_href (resolve u) 1 root.inner) (opened_by u u.path boot added words m) (opened_by u u.path other added words m) (by_alike u u.path boot other added words m)

opening_alike : (root : Object) (boot other : ℕ) → Alike other (opening root boot) (opening root other)
opening_alike root boot other = at_alike root_url site_path standard standard_words root boot other (root_of root_url site_path standard standard_words root)

-- ---- the laws

ok_alike : (other : ℕ) (a b : Result SiteState LoadFault) (st : SiteState) → Alike other a b → a ≡ Ok st → (time : ℕ) × (b ≡ Ok (at_moment other time st))
ok_alike other (Ok s) (Ok s') st h e = (h.0, ap (λ x. Ok x) h.1 ∙ ap (λ (x : Result SiteState LoadFault). ok_moved x) e)
  where
    ok_moved : Result SiteState LoadFault → Result SiteState LoadFault
    ok_moved (Ok x) = Ok (at_moment other h.0 x)
    ok_moved (Err fault) = Err fault
ok_alike other (Ok s) (Err fault) st h e = absurd h
ok_alike other (Err fault) b st h e = absurd (let no : Err fault ≡ Ok st = e in cc)

err_alike : (other : ℕ) (a b : Result SiteState LoadFault) (fault : LoadFault) → Alike other a b → a ≡ Err fault → b ≡ Err fault
err_alike other (Err f) (Err f') fault h e = ap (λ x. Err x) h ∙ e
err_alike other (Err f) (Ok s) fault h e = absurd h
err_alike other (Ok s) b fault h e = absurd (let no : Ok s ≡ Err fault = e in cc)

pub opens_at_each : OpensAtEach
opens_at_each root boot st h other = ok_alike other (opening root boot) (opening root other) st (opening_alike root boot other) h

pub refused_at_each : RefusedAtEach
refused_at_each root boot fault h other = err_alike other (opening root boot) (opening root other) fault (opening_alike root boot other) h
