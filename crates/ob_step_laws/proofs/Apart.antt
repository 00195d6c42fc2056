-- No two nodes of an opened root have one path.
use Rattle.std.proofs.Common.{◌≡◌, ℕ, ◌+◌, Bool, true, false, cond, ◌&&◌, ◌||◌, bytes_eq, codes, List, [], ◌∷◌, ◌++◌, map, filter, Option, Some, None, refl, sym, ap, ap₂, ◌∙◌, subst, append_assoc, append-nil, true≢false}
use Rattle.std.specs.Prelude.{is_some}
use Rattle.std.specs.List.{AllByRecursion}
use Rattle.std.proofs.lemmas.Slice.Eq.{bytes_eq-Decides}
use Rattle.url.specs.Parts.{Parts}
use Rattle.ob_object.specs.Object.{Objects, none, node, Object, count, listed, in_row}
use Rattle.ob_object.specs.Paths.{is_path, node_path}
use Rattle.ob_contracts.specs.Inherit.{Contracts}
use Rattle.ob_hrefs.specs.Hrefs.{site_path, made_object}
use Rattle.ob_site_rules.specs.Build.{Path}
use Rattle.ob_site_rules.specs.Shown.{derived, lobby_children, write_point_op, history_part, subject_children, with_status, with_roles, dressed}
use Rattle.ob_site_rules.specs.State.{Log, State, at, is_among, rolled}
use Rattle.ob_site_rules.specs.declared.plan.Plan.{Plan}
use Rattle.ob_site_rules.specs.Paths.{below, behind, batch_path}
use Rattle.ob_site_rules.specs.Sites.{SiteState}
use Rattle.ob_site_rules.specs.Writes.{site_contracts}
use Rattle.ob_site_rules.specs.declared.roles.Roles.{Roles}
use Rattle.ob_site_rules.specs.Roles.{no_roles, all_roles, is_dropped, holds_contracts, role_at, worded_contracts}
use Rattle.ob_site_rules.specs.Opening.{standard_words}
use Rattle.ob_site_rules.specs.Loading.{Part, row_of, kept_root, kept_row, parts_of, paths_in, listed_path, derived_paths, is_computed, taken_twice, path_of, histories_in, subjects, root_lobby, opened}
use Rattle.ob_step_laws.specs.Laws.{Apart, row_paths}
use Rattle.ob_step_laws.proofs.Lists.{each_first, each_second, each_more, each_two}
use Rattle.ob_values.proofs.Bools.{neither_left, neither_right, both_false}
use Rattle.ob_step_laws.proofs.Once.{cond_none, taken_once}
use Rattle.ob_step_laws.proofs.OneKind.{among_append, apart_first, apart_second, apart_not, listed_is}
use Rattle.ob_step_laws.proofs.Fit.{Fit, all_fit}
use Rattle.ob_step_laws.proofs.Walk.{part_here, root_parts, none_dropped}
use Rattle.ob_values.proofs.Lists.{bytes_itself}
use Rattle.ob_step_laws.proofs.Kept.{part_paths, root_paths, root_apart, unless, Under, under_same, under_both}
use Rattle.ob_step_laws.proofs.Found.{IsNodeIf, IsTold, all_told}
use Rattle.ob_step_laws.proofs.Roled.{is_lobby, is_point, is_history, is_subject, IsPlaced, all_placed, none_lobby, root_placed}
use Rattle.ob_step_laws.proofs.Flags.{IsOneAtMost, Tells, lobby_flag, history_flag, subject_flag}
use Rattle.ob_step_laws.proofs.Counts.{log_of}
use Rattle.ob_step_laws.proofs.Begins.{Begins, begins}
use Rattle.ob_step_laws.proofs.Inverted.{Opens, all_good, one_subject}
use Rattle.ob_shown_laws.specs.Changed.{is_in, PathsDiffer}
use Rattle.ob_shown_laws.proofs.Owning.{path_off}
use Rattle.ob_step_laws.specs.Apart.{OpensApart}

-- nodes whose paths are apart differ in their paths
in_among : (p : Path) (r : Objects) → is_in p r ≡ is_among p (row_paths r)
in_among p none = refl
in_among p (node h inner rest) =
    ap₂ (λ a b. a || b) (sym (listed_is p (node_path h))) (ap₂ (λ a b. a || b) (in_among p inner) (in_among p rest) ∙ sym (among_append p (row_paths inner) (row_paths rest)))
    ∙ sym (among_append p (listed_path (node_path h)) (row_paths inner ++ row_paths rest))

not_if : (a b : Bool) → (b ≡ true → a ≡ false) → a ≡ true → b ≡ false
not_if a true f e = absurd (true≢false (sym e ∙ f refl))
not_if a false f e = refl

apart_differ : (r : Objects) → Apart (row_paths r) → PathsDiffer r
apart_differ none a = tt
apart_differ (node h inner rest) a =
    let own = listed_path (node_path h) in
    let both : Apart (row_paths inner ++ row_paths rest) = apart_second own (row_paths inner ++ row_paths rest) a in (
      λ p e.
          ap₂ (λ x y. x || y) (in_among p inner) (in_among p rest) ∙ sym (among_append p (row_paths inner) (row_paths rest))
          ∙ not_if (is_among p own) (is_among p (row_paths inner ++ row_paths rest)) (apart_not own (row_paths inner ++ row_paths rest) p a) (listed_is p (node_path h) ∙ e),
      λ p e.
          in_among p rest
          ∙ not_if (is_among p (row_paths inner)) (is_among p (row_paths rest)) (apart_not (row_paths inner) (row_paths rest) p both) (sym (in_among p inner) ∙ e),
      apart_differ inner (apart_first (row_paths inner) (row_paths rest) both),
      apart_differ rest (apart_second (row_paths inner) (row_paths rest) both),
    )

-- the paths of objects one after another
paths_behind : (xs ys : List Object) → row_paths (in_row (xs ++ ys)) ≡ row_paths (in_row xs) ++ row_paths (in_row ys)
paths_behind [] ys = refl
paths_behind (x ∷ xs) ys =
    let own = listed_path (node_path x.head) in
    ap (λ l. own ++ (row_paths x.inner ++ l)) (paths_behind xs ys)
    ∙ ap (λ l. own ++ l) (sym (append_assoc (row_paths x.inner) (row_paths (in_row xs)) (row_paths (in_row ys))))
    ∙ sym (append_assoc own (row_paths x.inner ++ row_paths (in_row xs)) (row_paths (in_row ys)))

row_listed : (r : Objects) → in_row (listed r) ≡ r
row_listed none = refl
row_listed (node h inner rest) = ap (node h inner) (row_listed rest)

paths_then : (r : Objects) (ys : List Object) → row_paths (in_row (listed r ++ ys)) ≡ row_paths r ++ row_paths (in_row ys)
paths_then r ys = paths_behind (listed r) ys ∙ ap (λ (q : Objects). row_paths q ++ row_paths (in_row ys)) (row_listed r)

-- the paths of what is derived, by flags
lobby_paths : (plan : Plan) (b : Bool) → row_paths (in_row (cond b (lobby_children plan) [])) ≡ cond b (batch_path plan ∷ []) []
lobby_paths plan true = refl
lobby_paths plan false = refl

point_paths : (p : Path) (b : Bool) → row_paths (in_row (cond b (write_point_op p ∷ []) [])) ≡ cond b (below p (codes "writePoint") ∷ []) []
point_paths p true = refl
point_paths p false = refl

history_paths : (p : Path) (o : Option Log) → row_paths (in_row (history_part p o)) ≡ cond (is_some o) (below p (codes "query") ∷ below p (codes "feed") ∷ []) []
history_paths p None = refl
history_paths p (Some l) = refl

subject_paths : (p : Path) (n : ℕ) (b : Bool) → row_paths (in_row (cond b (subject_children p n) [])) ≡ cond b (below p (codes "query") ∷ below p (codes "feed") ∷ []) []
subject_paths p n true = refl
subject_paths p n false = refl

abbrev paths_by : Plan → Path → Bool → Bool → Bool → Bool → List Path
paths_by plan p l w h s =
    cond l (batch_path plan ∷ []) []
    ++ (cond w (below p (codes "writePoint") ∷ []) []
    ++ (cond h (below p (codes "query") ∷ below p (codes "feed") ∷ []) []
    ++ cond s (below p (codes "query") ∷ below p (codes "feed") ∷ []) []))

all_paths : (plan : Plan) (p : Path) (l w s : Bool) (o : Option Log) (n : ℕ)
    → row_paths (in_row (cond l (lobby_children plan) [] ++ (cond w (write_point_op p ∷ []) [] ++ (history_part p o ++ cond s (subject_children p n) [])))) ≡ paths_by plan p l w (is_some o) s
all_paths plan p l w s o n =
    paths_behind (cond l (lobby_children plan) []) (cond w (write_point_op p ∷ []) [] ++ (history_part p o ++ cond s (subject_children p n) []))
    ∙ ap₂ (λ a b. a ++ b) (lobby_paths plan l)
    (paths_behind (cond w (write_point_op p ∷ []) []) (history_part p o ++ cond s (subject_children p n) [])
    ∙ ap₂ (λ a b. a ++ b) (point_paths p w)
    (paths_behind (history_part p o) (cond s (subject_children p n) []) ∙ ap₂ (λ a b. a ++ b) (history_paths p o) (subject_paths p n s)))

same_flags : (plan : Plan) (p : Path) (l w h s k v g t : Bool) → l ≡ k → w ≡ v → h ≡ g → s ≡ t → paths_by plan p l w h s ≡ paths_by plan p k v g t
same_flags plan p l w h s k v g t e f i j =
    ap (λ x. paths_by plan p x w h s) e ∙ ap (λ x. paths_by plan p k x h s) f ∙ ap (λ x. paths_by plan p k v x s) i ∙ ap (λ x. paths_by plan p k v g x) j

-- what the roles of a part derive has the paths that they derive
abbrev Derives : Plan → State → Part → Type 0
Derives plan s q = row_paths (in_row (derived plan s (node_path q.own.head))) ≡ cond q.roles.lobby (batch_path plan ∷ []) [] ++ derived_paths q.roles (node_path q.own.head)

derives : (plan : Plan) (s : State) (q : Part) → IsNodeIf is_lobby q → ((p : Path) → node_path q.own.head ≡ Some p → Tells plan s q p) → Derives plan s q
derives plan s q lobby tells = at_path (node_path q.own.head) refl
  where
    at_path : (o : Option Path) → node_path q.own.head ≡ o → row_paths (in_row (derived plan s o)) ≡ cond q.roles.lobby (batch_path plan ∷ []) [] ++ derived_paths q.roles o
    at_path None e = sym (ap (λ (b : Bool). cond b (batch_path plan ∷ []) [] ++ []) (unless q.roles.lobby (is_some (node_path q.own.head)) lobby (ap is_some e)))
    at_path (Some p) e =
        let t : Tells plan s q p = tells p e in
        all_paths plan p (plan.lobby && bytes_eq p plan.root) (is_among p plan.points) (is_path p plan.subject) (at p s.logs) _
        ∙ same_flags plan p (plan.lobby && bytes_eq p plan.root) (is_among p plan.points) (is_some (at p s.logs)) (is_path p plan.subject) q.roles.lobby q.roles.point q.roles.history q.roles.subject t.lobby t.point t.history t.subject

-- what is kept and derived in a row without a lobby has paths among those asked for
abbrev NoLobby : Part → Type 0
NoLobby q = q.roles.lobby ≡ false

under_dressed : (plan : Plan) (s : State) (rs : List Roles) (n : ℕ) (inside : Bool) (above : Roles) (r : Objects)
    → AllByRecursion (λ q. Derives plan s q × NoLobby q) (parts_of rs n inside above r) → Under (row_paths (with_roles plan s (kept_row rs n above r))) (paths_in rs n above r)
under_dressed plan s rs n inside above none each = under_same []
under_dressed plan s rs n inside above (node h inner rest) each =
    go (is_dropped above h) each
    (λ e. under_dressed plan s rs (n + 1) (inside || holds_contracts above.root h) (role_at rs n) inner e)
    (λ e. under_dressed plan s rs (n + 1 + count inner) inside above rest e)
  where
    Known : Part → Type 0
    Known q = Derives plan s q × NoLobby q

    first : List Part
    first = parts_of rs (n + 1) (inside || holds_contracts above.root h) (role_at rs n) inner

    second : List Part
    second = parts_of rs (n + 1 + count inner) inside above rest

    own : List Path
    own = listed_path (node_path h)

    dress : Objects
    dress = with_roles plan s (kept_row rs (n + 1) (role_at rs n) inner)

    others : Objects
    others = with_roles plan s (kept_row rs (n + 1 + count inner) above rest)

    new : List Path
    new = derived_paths (role_at rs n) (node_path h)

    within : List Path
    within = paths_in rs (n + 1) (role_at rs n) inner

    later_paths : List Path
    later_paths = paths_in rs (n + 1 + count inner) above rest

    go : (b : Bool)
        → AllByRecursion (λ q. Derives plan s q × NoLobby q) (cond b [] (part_here rs n inside h inner ∷ parts_of rs (n + 1) (inside || holds_contracts above.root h) (role_at rs n) inner) ++ parts_of rs (n + 1 + count inner) inside above rest)
        → (AllByRecursion (λ q. Derives plan s q × NoLobby q) (parts_of rs (n + 1) (inside || holds_contracts above.root h) (role_at rs n) inner) → Under (row_paths (with_roles plan s (kept_row rs (n + 1) (role_at rs n) inner))) (paths_in rs (n + 1) (role_at rs n) inner))
        → (AllByRecursion (λ q. Derives plan s q × NoLobby q) (parts_of rs (n + 1 + count inner) inside above rest) → Under (row_paths (with_roles plan s (kept_row rs (n + 1 + count inner) above rest))) (paths_in rs (n + 1 + count inner) above rest))
        → Under (row_paths (with_roles plan s (cond b (kept_row rs (n + 1 + count inner) above rest) (node h (kept_row rs (n + 1) (role_at rs n) inner) (kept_row rs (n + 1 + count inner) above rest)))))
        (cond b [] (listed_path (node_path h) ++ (paths_in rs (n + 1) (role_at rs n) inner ++ derived_paths (role_at rs n) (node_path h))) ++ paths_in rs (n + 1 + count inner) above rest)
    go true e deep later = later e
    go false e deep later =
        let all : row_paths (in_row (listed dress ++ derived plan s (node_path h))) ≡ row_paths dress ++ new =
        paths_then dress (derived plan s (node_path h)) ∙ ap (λ l. row_paths dress ++ l) (e.0.0 ∙ ap (λ (b : Bool). cond b (batch_path plan ∷ []) [] ++ new) e.0.1) in
        let as_listed : (own ++ (row_paths dress ++ new)) ++ row_paths others
        ≡ listed_path (node_path (with_status plan s h)) ++ (row_paths (in_row (listed dress ++ derived plan s (node_path h))) ++ row_paths others) =
        append_assoc own (row_paths dress ++ new) (row_paths others)
        ∙ ap (λ (l : List Path). own ++ (l ++ row_paths others)) (sym all)
        ∙ ap (λ (o : Option Path). listed_path o ++ (row_paths (in_row (listed dress ++ derived plan s (node_path h))) ++ row_paths others)) (sym (path_off plan s h (node_path h))) in
        subst (λ (l : List Path). Under l ((own ++ (within ++ new)) ++ later_paths)) as_listed
        (under_both (own ++ (row_paths dress ++ new)) (own ++ (within ++ new)) (row_paths others) later_paths
        (under_both own own (row_paths dress ++ new) (within ++ new) (under_same own)
        (under_both (row_paths dress) within new new (deep (each_first (λ q. Derives plan s q × NoLobby q) (parts_of rs (n + 1) (inside || holds_contracts above.root h) (role_at rs n) inner) (parts_of rs (n + 1 + count inner) inside above rest) e.1)) (under_same new)))
        (later (each_second (λ q. Derives plan s q × NoLobby q) (parts_of rs (n + 1) (inside || holds_contracts above.root h) (role_at rs n) inner) (parts_of rs (n + 1 + count inner) inside above rest) e.1)))

-- paths that are apart, and none of the others
apart_both : (xs ys : List Path) → Apart xs → Apart ys → ((p : Path) → is_among p ys ≡ true → is_among p xs ≡ false) → Apart (xs ++ ys)
apart_both [] ys a b c = b
apart_both (x ∷ xs) ys a b c =
    let own : is_among x ys ≡ true → true ≡ false = λ h. sym (ap (λ t. t || is_among x xs) (bytes_itself x)) ∙ c x h in (
      among_append x xs ys ∙ both_false (is_among x xs) (is_among x ys) a.0 (unless (is_among x ys) false (λ h. sym (own h)) refl),
      apart_both xs ys a.1 b (λ p h. neither_right (bytes_eq x p) (is_among p xs) (c p h)),
    )

-- a path that isn't there is put between others
put_between : (b : Bool) (p : Path) (xs ys : List Path) → Apart (xs ++ ys) → is_among p (xs ++ ys) ≡ false → Apart (xs ++ (cond b (p ∷ []) [] ++ ys))
put_between false p xs ys a out = a
put_between true p xs ys a out =
    let before : is_among p xs ≡ false = neither_left (is_among p xs) (is_among p ys) (sym (among_append p xs ys) ∙ out) in
    let behind : is_among p ys ≡ false = neither_right (is_among p xs) (is_among p ys) (sym (among_append p xs ys) ∙ out) in
    apart_both xs (p ∷ ys) (apart_first xs ys a) (behind, apart_second xs ys a) (λ q h. go q (bytes_eq p q) refl h before)
  where
    go : (q : Path) (c : Bool) → bytes_eq p q ≡ c → (c || is_among q ys) ≡ true → is_among p xs ≡ false → is_among q xs ≡ false
    go q true e h before = ap (λ (x : Path). is_among x xs) (sym ((bytes_eq-Decides p q).0 e)) ∙ before
    go q false e h before = apart_not xs ys q a h

none_computed : (r : Path) (seen ps : List Path) → taken_twice r seen ps ≡ None → AllByRecursion (λ p. is_computed r p ≡ false) ps
none_computed r seen [] h = tt
none_computed r seen (p ∷ ps) h =
    let t = cond_none (is_computed r p || is_among p seen) p (taken_twice r (p ∷ seen) ps) h in
    (neither_left (is_computed r p) (is_among p seen) t.0, none_computed r (p ∷ seen) ps t.1)

each_at : (P : Path → Type 0) (ys : List Path) (p : Path) → AllByRecursion P ys → is_among p ys ≡ true → P p
each_at P [] p e h = absurd (true≢false (sym h))
each_at P (y ∷ ys) p e h = go (bytes_eq y p) refl h (λ g. each_at P ys p e.1 g)
  where
    go : (b : Bool) → bytes_eq y p ≡ b → (b || is_among p ys) ≡ true → (is_among p ys ≡ true → P p) → P p
    go true is g later = subst P ((bytes_eq-Decides y p).0 is) e.0
    go false is g later = later g

or_middle : (a c : Bool) → ((a || true) || c) ≡ true
or_middle true c = refl
or_middle false c = refl

batch_computed : (r : Path) → is_computed r (r ++ codes "batch") ≡ true
batch_computed r =
    let p : Path = r ++ codes "batch" in
    let others : Bool = is_some (behind (r ++ codes "watch/") p) || is_some (behind (r ++ codes "alarm/") p) in
    ap (λ b. (bytes_eq (r ++ codes "about") p || (b || is_among p ((r ++ codes "watchService") ∷ (r ++ codes "watchService/make") ∷ []))) || others) (bytes_itself p)
    ∙ or_middle (bytes_eq (r ++ codes "about") p) others

-- the roles of a root, whatever the library, its parts and what is kept of it
module _ (base : Parts) (r : Path) (boot : ℕ) (lib words : Contracts) (root : Object) where
  abbrev rs : List Roles
  rs = all_roles words root

  abbrev ps : List Part
  ps = parts_of rs 0 false no_roles (row_of root)

  abbrev tree : Object
  tree = kept_root rs root

  abbrev made : SiteState
  made = opened base r boot lib root tree ps

  fits : Fit rs 0 true false false (row_of root)
  fits = all_fit words root

  abbrev rest : List Part
  rest = parts_of rs 1 false (role_at rs 0) root.inner

  no_lobbies : AllByRecursion NoLobby rest
  no_lobbies = none_lobby rs 1 false (role_at rs 0) root.inner true false fits.1

  lobby_told : node_path root.head ≡ Some r → (p : Path) → (root_lobby ps && bytes_eq p r) ≡ is_among p (map path_of (filter is_lobby ps))
  lobby_told is p =
      ap (λ l. root_lobby l && bytes_eq p r) (root_parts rs root)
      ∙ lobby_flag r (part_here rs 0 false root.head root.inner) rest p is no_lobbies
      ∙ ap (λ l. is_among p (map path_of (filter is_lobby l))) (sym (root_parts rs root))

  abbrev Known : Part → Type 0
  Known q = IsNodeIf is_lobby q × ((IsTold is_lobby ps q × IsTold is_point ps q) × (IsTold is_history ps q × IsTold is_subject ps q))

  all_known : node_path root.head ≡ Some r → Apart (part_paths ps) → AllByRecursion Known ps
  all_known is apart =
      let placed : AllByRecursion IsPlaced ps = all_placed rs root fits in
      let lobby : AllByRecursion (IsNodeIf is_lobby) ps = root_placed rs root r is fits in
      each_two (IsNodeIf is_lobby) (λ q. (IsTold is_lobby ps q × IsTold is_point ps q) × (IsTold is_history ps q × IsTold is_subject ps q)) ps lobby
      (each_two (λ q. IsTold is_lobby ps q × IsTold is_point ps q) (λ q. IsTold is_history ps q × IsTold is_subject ps q) ps
      (each_two (IsTold is_lobby ps) (IsTold is_point ps) ps (all_told is_lobby ps lobby apart) (all_told is_point ps (each_more IsPlaced (IsNodeIf is_point) ps (λ q t. t.point) placed) apart))
      (each_two (IsTold is_history ps) (IsTold is_subject ps) ps (all_told is_history ps (each_more IsPlaced (IsNodeIf is_history) ps (λ q t. t.history) placed) apart)
      (all_told is_subject ps (each_more IsPlaced (IsNodeIf is_subject) ps (λ q t. t.subject) placed) apart)))

  part_derives : node_path root.head ≡ Some r → IsOneAtMost (subjects ps) → (q : Part) → Known q → Derives made.plan made.world.site q
  part_derives is one q k =
      derives made.plan made.world.site q k.0
      (λ p e. record {
        lobby = lobby_told is p ∙ k.1.0.0 p e;
        point = k.1.0.1 p e;
        history = history_flag (λ q. rolled (log_of q)) p (histories_in ps) ∙ k.1.1.0 p e;
        subject = subject_flag p ps one ∙ k.1.1.1 p e;
      })

  dressed_apart : node_path root.head ≡ Some r → IsOneAtMost (subjects ps) → taken_twice r [] (paths_in rs 0 no_roles (row_of root)) ≡ None
      → Apart (row_paths (row_of (dressed made.plan made.world.site)))
  dressed_apart is one once =
      let all : Apart (paths_in rs 0 no_roles (row_of root)) = taken_once r (paths_in rs 0 no_roles (row_of root)) once in
      let apart : Apart (part_paths ps) = subst Apart (root_paths rs root) (root_apart rs root all) in
      let each : AllByRecursion (Derives made.plan made.world.site) ps = each_more Known (Derives made.plan made.world.site) ps (λ q k. part_derives is one q k) (all_known is apart) in
      let parts : AllByRecursion (Derives made.plan made.world.site) (part_here rs 0 false root.head root.inner ∷ rest) = subst (AllByRecursion (Derives made.plan made.world.site)) (root_parts rs root) each in
      let inner : Under (row_paths dress) within =
      under_dressed made.plan made.world.site rs 1 false (role_at rs 0) root.inner (each_two (Derives made.plan made.world.site) NoLobby rest parts.1 no_lobbies) in
      let whole : paths_in rs 0 no_roles (row_of root) ≡ own ++ (within ++ new) =
      ap (λ (b : Bool). cond b [] (own ++ (within ++ new)) ++ []) (none_dropped root.head) ∙ append-nil (own ++ (within ++ new)) in
      let under : Under (own ++ (row_paths dress ++ new)) (own ++ (within ++ new)) =
      under_both own own (row_paths dress ++ new) (within ++ new) (under_same own) (under_both (row_paths dress) within new new inner (under_same new)) in
      let once_all : Apart (own ++ (within ++ new)) = subst Apart whole all in
      let computed : AllByRecursion (λ p. is_computed r p ≡ false) (own ++ (within ++ new)) =
      subst (AllByRecursion (λ p. is_computed r p ≡ false)) whole (none_computed r [] (paths_in rs 0 no_roles (row_of root)) once) in
      let out : is_among batch (own ++ (row_paths dress ++ new)) ≡ false =
      unless (is_among batch (own ++ (row_paths dress ++ new))) false (λ h. absurd (true≢false (sym (batch_computed r) ∙ each_at (λ p. is_computed r p ≡ false) (own ++ (within ++ new)) batch computed (under.among batch h)))) refl in
      let front : (own ++ row_paths dress) ++ new ≡ own ++ (row_paths dress ++ new) = append_assoc own (row_paths dress) new in
      let put : Apart ((own ++ row_paths dress) ++ (cond (role_at rs 0).lobby (batch ∷ []) [] ++ new)) =
      put_between (role_at rs 0).lobby batch (own ++ row_paths dress) new (subst Apart (sym front) (under.apart once_all)) (ap (is_among batch) front ∙ out) in
      subst Apart
      (append_assoc own (row_paths dress) (cond (role_at rs 0).lobby (batch ∷ []) [] ++ new)
      ∙ ap (λ (l : List Path). own ++ (row_paths dress ++ l)) (sym parts.0)
      ∙ ap (λ (l : List Path). own ++ l) (sym (paths_then dress (derived made.plan made.world.site (node_path root.head))))
      ∙ ap (λ (l : List Path). own ++ l) (sym (append-nil (row_paths (in_row (listed dress ++ derived made.plan made.world.site (node_path root.head))))))
      ∙ ap (λ (o : Option Path). listed_path o ++ (row_paths (in_row (listed dress ++ derived made.plan made.world.site (node_path root.head))) ++ [])) (sym (path_off made.plan made.world.site root.head (node_path root.head))))
      put
    where
      own : List Path
      own = listed_path (node_path root.head)

      dress : Objects
      dress = with_roles made.plan made.world.site (kept_row rs 1 (role_at rs 0) root.inner)

      within : List Path
      within = paths_in rs 1 (role_at rs 0) root.inner

      new : List Path
      new = derived_paths (role_at rs 0) (node_path root.head)

      batch : Path
      batch = r ++ codes "batch"

  pub opened_differ : (st : SiteState) → node_path root.head ≡ Some r → Opens base r boot lib words root st → PathsDiffer (row_of (dressed st.plan st.world.site))
  opened_differ st is o =
      subst (λ (x : SiteState). PathsDiffer (row_of (dressed x.plan x.world.site))) o.is
      (apart_differ (row_of (dressed made.plan made.world.site)) (dressed_apart is (one_subject ps (subjects ps) (all_good ps o.good).subjects) o.once))

pub opens_apart : OpensApart
opens_apart root boot st h =
    let b : Begins root boot st = begins root boot st h in
    let m : Object = made_object (site_path b.base) (Some b.base.path) root in
    opened_differ b.base b.base.path boot b.lib (worded_contracts standard_words (site_contracts m)) m st b.path b.opens
