-- The parts of what is shown, counted object by object.
use Rattle.std.proofs.Common.{◌≡◌, ℕ, ◌+◌, ◌-◌, Bool, true, false, cond, ◌&&◌, ◌||◌, codes, List, [], ◌∷◌, ◌++◌, map, length, Option, Some, None, refl, sym, ap, ap₂, ◌∙◌, append_assoc, arith}
use Rattle.std.specs.Prelude.{min, is_some, nat_lt, bytes_eq}
use Rattle.std.proofs.lemmas.Bool.Decides.{nat_tests}
use Rattle.std.proofs.lemmas.List.{append-nil}
use Rattle.ob_object.specs.declared.facet.Facets.{Facets}
use Rattle.ob_object.specs.declared.head.Head.{Head}
use Rattle.ob_object.specs.Object.{Object, Objects, none, node, listed, in_row, children, count, parts, in_row-listed, listed-in_row}
use Rattle.ob_object.specs.WellFormed.{is_taken, has_name}
use Rattle.ob_object.specs.Paths.{is_path, node_path}
use Rattle.ob_contracts.specs.Inherit.{Contracts, Words, sources, overridden, implied_by, inherited_head, row_results, result_of, missing, bare, row_with_defaults}
use Rattle.ob_contracts.proofs.UpTo.{count_bare_row}
use Rattle.ob_roles.proofs.Named.{taken_first}
use Rattle.ob_site_rules.specs.Build.{Path}
use Rattle.ob_site_rules.specs.Shown.{derived, derived_at, lobby_children, write_point_op, history_part, subject_children, rule_of, with_status, with_status_at, with_status_by, with_roles, shown_root}
use Rattle.ob_site_rules.specs.State.{Log, State, at, is_among}
use Rattle.ob_site_rules.specs.declared.plan.Plan.{Plan}
use Rattle.ob_site_file.specs.Sizes.{dressed_at, row_count, plain, stand_in}

-- what is left of a limit

pub left_both : (m k n a b : ℕ) → k ≡ m - a → n ≡ k - b → n ≡ m - (a + b)
left_both m k n a b first second = omega (arith, first, second)

pub left_next : (k n a b c w : ℕ) → c ≡ a + b → n ≡ k - a → k - c ≡ w → n - b ≡ w
left_next k n a b c w split is h = omega (arith, split, is, h)

pub left_none : (k c w : ℕ) → k ≡ 0 → k - c ≡ w → 0 ≡ w
left_none k c w zero_left h = omega (arith, zero_left, h)

pub left_end : (k c w : ℕ) → c ≡ 0 → k - c ≡ w → k ≡ w
left_end k c w zero_more h = omega (arith, zero_more, h)

pub left_one : (m k a : ℕ) → k ≡ m - 1 → k - a ≡ m - (1 + a)
left_one m k a is = omega (arith, is)

pub none_left : (m k r a b c : ℕ) → k ≡ 0 → k - r ≡ m - (1 + a) → 0 ≡ m - (a + b + c + 1)
none_left m k r a b c zero_left h = omega (arith, zero_left, h)

pub all_left : (m k n r a b c : ℕ) → r ≡ 0 → n ≡ k - (b + c) → k - r ≡ m - (1 + a) → n ≡ m - (a + b + c + 1)
all_left m k n r a b c zero_more is h = omega (arith, zero_more, is, h)

pub counted_up : (limit left n parts : ℕ) → left ≡ limit - n → parts ≡ limit - left → parts ≡ min limit n
counted_up limit left n parts is e = omega (arith, is, e)

pub counted_test : (n parts : ℕ) → parts ≡ min 200_001 n → nat_lt 200_000 parts ≡ nat_lt 200_000 n
counted_test n parts is = grind (arith, nat_tests, is)

-- how many objects rows have

pub count_append : (xs ys : List Object) → count (in_row (xs ++ ys)) ≡ count (in_row xs) + count (in_row ys)
count_append [] ys = omega arith
count_append (x ∷ xs) ys = omega (arith, count_append xs ys)

count_bare : (os : List Object) → count (in_row (map bare os)) ≡ count (in_row os)
count_bare [] = refl
count_bare (o ∷ os) = omega (arith, count_bare_row o.inner, count_bare os)

count_defaults : (r : Objects) → count (row_with_defaults r) ≡ count r
count_defaults none = refl
count_defaults (node h below rest) = omega (arith, count_defaults below, count_defaults rest)

behind_row : (r : Objects) (os : List Object) → count (in_row (listed r ++ map bare os)) ≡ count r + count (in_row os)
behind_row r os = omega (arith, count_append (listed r) (map bare os), count_bare os, ap count (in_row-listed r))

shuffled : (a b : ℕ) → a + b + 1 ≡ (a + 1) + b
shuffled a b = omega arith

module _ (lib : Contracts) (g : Option Words) (above : List Object) where
  -- the results of a row are those of its objects
  pub row_one : (h : Head) (inner rest : Objects) → row_count lib g above (node h inner rest) ≡ parts (result_of lib (record { head = h; inner = inner }) g (overridden h.name above)) + row_count lib g above rest
  unfolding result_of
  row_one h inner rest = shuffled _ (row_count lib g above rest)

  pub row_append : (xs ys : List Object) → row_count lib g above (in_row (xs ++ ys)) ≡ row_count lib g above (in_row xs) + row_count lib g above (in_row ys)
  row_append [] ys = omega arith
  row_append (x ∷ xs) ys =
      omega (arith, row_one x.head x.inner (in_row (xs ++ ys)), row_append xs ys, row_one x.head x.inner (in_row xs))

-- the parts of a result: those of its own children's results, and those that are inherited
pub result_parts : (lib : Contracts) (o : Object) (implied : Option Words) (over : Option Object) → parts (result_of lib o implied over)
    ≡ row_count lib (implied_by (inherited_head o.head (sources lib o.head implied over))) (sources lib o.head implied over) o.inner + count (in_row (missing (children o) (sources lib o.head implied over))) + 1
unfolding result_of
result_parts lib o implied over =
    let from = sources lib o.head implied over in
    ap (λ n. n + 1) (behind_row (row_results lib (implied_by (inherited_head o.head from)) from o.inner) (missing (children o) from))

-- a status changes nothing that isn't a facet
pub with_status_is : {A : Type 0} (F : Head → A) → ((h : Head) (f : Facets) → F (record h { facets = f }) ≡ F h) → (plan : Plan) (s : State) (h : Head) → F (with_status plan s h) ≡ F h
with_status_is {A} F same plan s h = at_path (node_path h)
  where
    by_rule : (o : Option ℕ) → F (with_status_by plan s h o) ≡ F h
    by_rule None = refl
    by_rule (Some rule) = same h _

    at_path : (p : Option Path) → F (with_status_at plan s h p) ≡ F h
    at_path None = refl
    at_path (Some p) = by_rule (rule_of plan p)

-- what an object that is dressed shows
pub dressed_parts : (lib : Contracts) (plan : Plan) (s : State) (o : Object) (implied : Option Words) (over : Option Object) → parts (result_of lib (dressed_at plan s o) implied over)
    ≡ (row_count lib (implied_by (inherited_head o.head (sources lib o.head implied over))) (sources lib o.head implied over) (with_roles plan s o.inner)
    + row_count lib (implied_by (inherited_head o.head (sources lib o.head implied over))) (sources lib o.head implied over) (in_row (derived plan s (node_path o.head))))
    + count (in_row (missing (listed (with_roles plan s o.inner) ++ derived plan s (node_path o.head)) (sources lib o.head implied over))) + 1
dressed_parts lib plan s o implied over =
    let kids = listed (with_roles plan s o.inner) in
    let more = derived plan s (node_path o.head) in
    let from = sources lib o.head implied over in
    let g = implied_by (inherited_head o.head from) in
    let F : Head → ℕ = λ h. row_count lib (implied_by (inherited_head h (sources lib h implied over))) (sources lib h implied over) (in_row (kids ++ more))
    + count (in_row (missing (children (dressed_at plan s o)) (sources lib h implied over))) + 1 in
    result_parts lib (dressed_at plan s o) implied over
    ∙ with_status_is F (λ h f. refl) plan s o.head
    ∙ ap₂ (λ a b. a + b + 1) (row_append lib g from kids more ∙ ap (λ r. row_count lib g from r + row_count lib g from (in_row more)) (in_row-listed (with_roles plan s o.inner)))
    (ap (λ l. count (in_row (missing l from))) (listed-in_row (kids ++ more)))

-- the next object of a row that is dressed
pub dressed_one : (lib : Contracts) (g : Option Words) (above : List Object) (plan : Plan) (s : State) (x : Object) (rest : Objects)
    → row_count lib g above (with_roles plan s (node x.head x.inner rest)) ≡ parts (result_of lib (dressed_at plan s x) g (overridden x.head.name above)) + row_count lib g above (with_roles plan s rest)
dressed_one lib g above plan s x rest =
    row_one lib g above (with_status plan s x.head) (dressed_at plan s x).inner (with_roles plan s rest)
    ∙ ap (λ p. parts (result_of lib (dressed_at plan s x) g p) + row_count lib g above (with_roles plan s rest)) (with_status_is (λ h. overridden h.name above) (λ h f. refl) plan s x.head)

-- the whole root
pub root_parts : (plan : Plan) (s : State) → parts (shown_root plan s) ≡ parts (result_of s.library (dressed_at plan s s.tree) None None)
root_parts plan s = ap (λ n. n + 1) (count_defaults (result_of s.library (dressed_at plan s s.tree) None None).inner)

-- the names of a row that is dressed are those of the row
pub dressed_names : (plan : Plan) (s : State) (n : List ℕ) (r : Objects) → is_taken (Some n) (listed (with_roles plan s r)) ≡ is_taken (Some n) (listed r)
dressed_names plan s n none = refl
dressed_names plan s n (node h inner rest) =
    taken_first n (record { head = with_status plan s h; inner = (dressed_at plan s (record { head = h; inner = inner })).inner }) (listed (with_roles plan s rest))
    ∙ ap₂ (λ a b. a || b) (with_status_is (λ h. has_name n h.name) (λ h f. refl) plan s h) (dressed_names plan s n rest)
    ∙ sym (taken_first n (record { head = h; inner = inner }) (listed rest))

-- objects and those that stand for them have the same names
pub plain_names : (n : List ℕ) (os : List Object) → is_taken (Some n) (map plain os) ≡ is_taken (Some n) os
plain_names n [] = refl
plain_names n (o ∷ os) = taken_first n (plain o) (map plain os) ∙ ap (λ b. has_name n o.head.name || b) (plain_names n os) ∙ sym (taken_first n o os)

map_append : {A B : Type 0} (f : A → B) (xs ys : List A) → map f (xs ++ ys) ≡ map f xs ++ map f ys
map_append f [] ys = refl
map_append f (x ∷ xs) ys = ap (λ l. f x ∷ l) (map_append f xs ys)

-- one child more in front of others
pub one_more : (xs ys zs : List Object) (o : Object) (os : List Object) → ys ≡ xs ++ o ∷ [] → zs ≡ ys ++ os → zs ≡ xs ++ o ∷ os
one_more xs ys zs o os e f = f ∙ ap (λ l. l ++ os) e ∙ append_assoc xs (o ∷ []) os

-- children of a role that an object has, and of one that it hasn't
pub if_there : (b : Bool) (xs ys os : List Object) → b ≡ true → ys ≡ xs ++ os → ys ≡ xs ++ cond b os []
if_there b xs ys os is e = e ∙ ap (λ c. xs ++ cond c os []) (sym is)

pub if_not : (b : Bool) (xs os : List Object) → b ≡ false → xs ≡ xs ++ cond b os []
if_not b xs os is = sym (append-nil xs) ∙ ap (λ c. xs ++ cond c os []) (sym is)

pub four_more : (l0 l1 l2 l3 l4 a b c d : List Object) → l1 ≡ l0 ++ a → l2 ≡ l1 ++ b → l3 ≡ l2 ++ c → l4 ≡ l3 ++ d → l4 ≡ l0 ++ (a ++ (b ++ (c ++ d)))
four_more l0 l1 l2 l3 l4 a b c d e1 e2 e3 e4 =
    e4 ∙ ap (λ l. l ++ d) (e3 ∙ ap (λ l. l ++ c) (e2 ∙ ap (λ l. l ++ b) e1))
    ∙ ap (λ l. l ++ d) (append_assoc (l0 ++ a) b c)
    ∙ append_assoc (l0 ++ a) (b ++ c) d
    ∙ ap (λ l. (l0 ++ a) ++ l) (append_assoc b c d)
    ∙ append_assoc l0 a (b ++ (c ++ d))

abbrev pub LobbyShapes : List Object
LobbyShapes = stand_in true (codes "about") ∷ stand_in false (codes "batch") ∷ stand_in true (codes "watchService") ∷ []

abbrev pub PointShapes : List Object
PointShapes = stand_in false (codes "writePoint") ∷ []

abbrev pub HistoryShapes : List Object
HistoryShapes = stand_in false (codes "count") ∷ stand_in false (codes "start") ∷ stand_in false (codes "end") ∷ stand_in false (codes "query") ∷ stand_in false (codes "feed") ∷ []

abbrev pub SubjectShapes : List Object
SubjectShapes = stand_in false (codes "count") ∷ stand_in false (codes "query") ∷ stand_in false (codes "feed") ∷ []

if_plain : (b : Bool) (os shapes : List Object) → map plain os ≡ shapes → map plain (cond b os []) ≡ cond b shapes []
if_plain true os shapes e = e
if_plain false os shapes e = refl

history_plain : (p : Path) (log : Option Log) → map plain (history_part p log) ≡ cond (is_some log) HistoryShapes []
history_plain p None = refl
history_plain p (Some log) = refl

-- what roles derive, by the names
pub derived_plain : (plan : Plan) (s : State) (p : Path) (lobby point history subject : Bool) → lobby ≡ (plan.lobby && bytes_eq p plan.root) → point ≡ is_among p plan.points → history ≡ is_some (at p s.logs) → subject ≡ is_path p plan.subject
    → cond lobby LobbyShapes [] ++ (cond point PointShapes [] ++ (cond history HistoryShapes [] ++ cond subject SubjectShapes [])) ≡ map plain (derived_at plan s p)
derived_plain plan s p lobby point history subject e1 e2 e3 e4 =
    let A = cond (plan.lobby && bytes_eq p plan.root) (lobby_children plan) [] in
    let B = cond (is_among p plan.points) (write_point_op p ∷ []) [] in
    let C = history_part p (at p s.logs) in
    let D = cond (is_path p plan.subject) (subject_children p (length s.alarms)) [] in
    sym (map_append plain A (B ++ (C ++ D))
    ∙ ap₂ (λ x y. x ++ y) (if_plain (plan.lobby && bytes_eq p plan.root) (lobby_children plan) LobbyShapes refl ∙ ap (λ b. cond b LobbyShapes []) (sym e1))
    (map_append plain B (C ++ D)
    ∙ ap₂ (λ x y. x ++ y) (if_plain (is_among p plan.points) (write_point_op p ∷ []) PointShapes refl ∙ ap (λ b. cond b PointShapes []) (sym e2))
    (map_append plain C D
    ∙ ap₂ (λ x y. x ++ y) (history_plain p (at p s.logs) ∙ ap (λ b. cond b HistoryShapes []) (sym e3))
    (if_plain (is_path p plan.subject) (subject_children p (length s.alarms)) SubjectShapes refl ∙ ap (λ b. cond b SubjectShapes []) (sym e4)))))

module _ (lib : Contracts) (g : Option Words) (above : List Object) where
  -- objects of which as many parts are shown as of those that stand for them
  abbrev AreAlike : List Object → Type 0
  AreAlike os = row_count lib g above (in_row os) ≡ row_count lib g above (in_row (map plain os))

  alike_append : (xs ys : List Object) → AreAlike xs → AreAlike ys → AreAlike (xs ++ ys)
  alike_append xs ys a b =
      row_append lib g above xs ys ∙ ap₂ (λ m n. m + n) a b ∙ sym (row_append lib g above (map plain xs) (map plain ys))
      ∙ ap (λ l. row_count lib g above (in_row l)) (sym (map_append plain xs ys))

  alike_if : (b : Bool) (os : List Object) → AreAlike os → AreAlike (cond b os [])
  alike_if true os a = a
  alike_if false os a = refl

  alike_history : (p : Path) (log : Option Log) → AreAlike (history_part p log)
  alike_history p None = refl
  alike_history p (Some log) = refl

  pub derived_alike : (plan : Plan) (s : State) (p : Option Path) → AreAlike (derived plan s p)
  derived_alike plan s None = refl
  derived_alike plan s (Some p) =
      let A = cond (plan.lobby && bytes_eq p plan.root) (lobby_children plan) [] in
      let B = cond (is_among p plan.points) (write_point_op p ∷ []) [] in
      let C = history_part p (at p s.logs) in
      let D = cond (is_path p plan.subject) (subject_children p (length s.alarms)) [] in
      alike_append A (B ++ (C ++ D)) (alike_if (plan.lobby && bytes_eq p plan.root) (lobby_children plan) refl)
      (alike_append B (C ++ D) (alike_if (is_among p plan.points) (write_point_op p ∷ []) refl)
      (alike_append C D (alike_history p (at p s.logs)) (alike_if (is_path p plan.subject) (subject_children p (length s.alarms)) refl)))
