-- A source that tells nothing that no source before it does may be left out.
use Rattle.std.proofs.Common.{◌≡◌, ℕ, Bool, true, false, not, ◌&&◌, ◌||◌, cond, List, [], ◌∷◌, ◌++◌, map, filter, Option, Some, None, refl, sym, ap, ap₂, ◌∙◌, true≢false, append_assoc, subst}
use Rattle.std.specs.Prelude.{is_some}
use Rattle.std.specs.Option.{option_copied}
use Rattle.std.proofs.lemmas.Slice.Eq.{bytes_eq-Decides}
use Rattle.ob_values.proofs.Bools.{or_false, or_second}
use Rattle.ob_object.specs.declared.head.Head.{Head}
use Rattle.ob_object.specs.declared.kind.Kind.{Kind}
use Rattle.ob_object.specs.Kinds.{is_ref, same_kind, has_of, has_input, has_output}
use Rattle.ob_object.specs.Object.{Object, Objects, none, node, listed, in_row, children}
use Rattle.ob_object.specs.WellFormed.{named, is_taken, has_name}
use Rattle.ob_contracts.specs.Telling.{TellTheSame, Gave, IsHeadTold, IsTold, Same, named_by, StandFor, StandIn}
use Rattle.ob_contracts.specs.Inherit.{Contracts, Words, words_in, contract_of, present, or_else, only_if, given, first_given, overridden, is_new, missing, bare, sources, implied_by, inherited_head, row_results, result_of}
use Rattle.ob_contracts.specs.HandedDown.{MayGive}
use Rattle.ob_contracts.specs.Shown.{shown_result, own_child_of, view_sources}
use Rattle.ob_contracts.specs.Places.{sources_by}
use Rattle.ob_contracts.specs.declared.reading.View.{View}
use Rattle.ob_contracts.proofs.Children.{named-append}

or_assoc : {A : Type 0} (a b c : Option A) → or_else (or_else a b) c ≡ or_else a (or_else b c)
or_assoc None b c = refl
or_assoc (Some x) b c = refl

module _ {A : Type 0} (f : Object → Option A) where
  pub first-append : (P X : List Object) → first_given f (P ++ X) ≡ or_else (first_given f P) (first_given f X)
  first-append [] X = refl
  first-append (p ∷ ps) X = ap (or_else (f p)) (first-append ps X) ∙ sym (or_assoc (f p) (first_given f ps) (first_given f X))

  dropped_at : (a b r : Option A) → (is_some b ≡ true → is_some a ≡ true) → or_else a (or_else b r) ≡ or_else a r
  dropped_at (Some x) b r h = refl
  dropped_at None None r h = refl
  dropped_at None (Some y) r h = absurd (true≢false (sym (h refl)))

  pub first_dropped : (P : List Object) (s : Object) (R : List Object) → Gave f P s → first_given f (P ++ s ∷ R) ≡ first_given f (P ++ R)
  first_dropped P s R h =
      first-append P (s ∷ R) ∙ dropped_at (first_given f P) (f s) (first_given f R) h ∙ sym (first-append P R)

  some_or : (a b : Option A) → is_some a ≡ true → is_some (or_else a b) ≡ true
  some_or None b h = absurd (true≢false (sym h))
  some_or (Some x) b h = refl

  -- what is given is given where more sources come
  pub some_more : (P X : List Object) → is_some (first_given f P) ≡ true → is_some (first_given f (P ++ X)) ≡ true
  some_more P X h = ap is_some (first-append P X) ∙ some_or (first_given f P) (first_given f X) h

  or_some : (a b : Option A) → is_some b ≡ true → is_some (or_else a b) ≡ true
  or_some None b h = h
  or_some (Some x) b h = refl

  or_none : (a : Option A) → or_else a None ≡ a
  or_none None = refl
  or_none (Some x) = refl

  -- it stays told where more sources come
  pub told_more : (P X : List Object) (s : Object) → Gave f P s → Gave f (P ++ X) s
  told_more P X s h has = ap is_some (first-append P X) ∙ some_or (first_given f P) (first_given f X) (h has)

  -- and a source tells what it has itself
  pub told_itself : (P : List Object) (s : Object) → Gave f (P ++ s ∷ []) s
  told_itself P s has =
      ap is_some (first-append P (s ∷ []) ∙ ap (or_else (first_given f P)) (or_none (f s))) ∙ or_some (first_given f P) (f s) has

pub head_dropped : (h : Head) (P : List Object) (s : Object) (R : List Object) → IsHeadTold P s → inherited_head h (P ++ s ∷ R) ≡ inherited_head h (P ++ R)
head_dropped h P s R t =
    rw (
      first_dropped (λ o. only_if (has_of h.kind) o.head.of) P s R (t.of h.kind),
      first_dropped (λ o. only_if (has_input h.kind) o.head.input) P s R (t.input h.kind),
      first_dropped (λ o. only_if (has_output h.kind) o.head.output) P s R (t.output h.kind),
      first_dropped (λ o. only_if (same_kind o.head.kind h.kind) (given o.head.slot)) P s R (t.slot h.kind),
      first_dropped (λ o. o.head.facets.display) P s R t.display,
      first_dropped (λ o. o.head.facets.display_name) P s R t.display_name,
      first_dropped (λ o. o.head.facets.icon) P s R t.icon,
      first_dropped (λ o. only_if (same_kind o.head.kind h.kind) o.head.facets.min) P s R (t.min h.kind),
      first_dropped (λ o. only_if (same_kind o.head.kind h.kind) o.head.facets.max) P s R (t.max h.kind),
      first_dropped (λ o. o.head.facets.precision) P s R t.precision,
      first_dropped (λ o. o.head.facets.range) P s R t.range,
      first_dropped (λ o. o.head.facets.status) P s R t.status,
      first_dropped (λ o. o.head.facets.tz) P s R t.tz,
      first_dropped (λ o. o.head.facets.unit) P s R t.unit,
      first_dropped (λ o. o.head.facets.writable) P s R t.writable,
    ) refl

over_dropped : (n : Option (List ℕ)) (P : List Object) (s : Object) (R : List Object) → IsTold P s → overridden n (P ++ s ∷ R) ≡ overridden n (P ++ R)
over_dropped None P s R t = refl
over_dropped (Some n) P s R t = first_dropped (λ o. named n (children o)) P s R (t.names n)

-- where no name of some objects is new, none of them is
abbrev AllTaken : List Object → List Object → Type 0
AllTaken there cs = (n : List ℕ) → is_some (named n cs) ≡ true → is_some (named n there) ≡ true

there_too : (b : Bool) (c : Object) (r : Option Object) → is_some r ≡ true → is_some (cond b (Some c) r) ≡ true
there_too true c r h = refl
there_too false c r h = h

is_not_new : (there : List Object) (c : Object) (cs : List Object) (o : Option (List ℕ)) → c.head.name ≡ o → AllTaken there (c ∷ cs) → is_new there c ≡ false
is_not_new there c cs None is all = ap (λ (m : Option (List ℕ)). is_some m && not (is_taken m there)) is
is_not_new there c cs (Some m) is all =
    let here : named m (c ∷ cs) ≡ Some c =
    ap (λ (k : Option (List ℕ)). cond (has_name m k) (Some c) (named m cs)) is ∙ ap (λ b. cond b (Some c) (named m cs)) ((bytes_eq-Decides m m).1 refl) in
    ap (λ (k : Option (List ℕ)). is_some k && not (is_taken k there)) is ∙ ap not (all m (ap is_some here))

none_new : (there cs : List Object) → AllTaken there cs → filter (is_new there) cs ≡ []
none_new there [] all = refl
none_new there (c ∷ cs) all =
    ap (λ b. cond b (c ∷ filter (is_new there) cs) (filter (is_new there) cs)) (is_not_new there c cs c.head.name refl all)
    ∙ none_new there cs (λ n h. all n (there_too (has_name n c.head.name) c (named n cs) h))

abbrev SameNames : List Object → List Object → Type 0
SameNames xs ys = (n : List ℕ) → is_taken (Some n) xs ≡ is_taken (Some n) ys

new_same : (xs ys : List Object) → SameNames xs ys → (o : Option (List ℕ)) → (is_some o && not (is_taken o xs)) ≡ (is_some o && not (is_taken o ys))
new_same xs ys e None = refl
new_same xs ys e (Some n) = ap not (e n)

filter_same : (xs ys cs : List Object) → SameNames xs ys → filter (is_new xs) cs ≡ filter (is_new ys) cs
filter_same xs ys [] e = refl
filter_same xs ys (c ∷ cs) e =
    ap₂ (λ b l. cond b (c ∷ l) l) (new_same xs ys e c.head.name) (filter_same xs ys cs e)

is_some_or : (a b : Option Object) → is_some (or_else a b) ≡ (is_some a || is_some b)
is_some_or None b = refl
is_some_or (Some x) b = refl

names_more : (xs ys cs : List Object) → SameNames xs ys → SameNames (xs ++ cs) (ys ++ cs)
names_more xs ys cs e = λ n.
    ap is_some (named-append n xs cs) ∙ is_some_or (named n xs) (named n cs)
    ∙ ap (λ b. b || is_some (named n cs)) (e n)
    ∙ sym (ap is_some (named-append n ys cs) ∙ is_some_or (named n ys) (named n cs))

missing_same : (xs ys R : List Object) → SameNames xs ys → missing xs R ≡ missing ys R
missing_same xs ys [] e = refl
missing_same xs ys (s ∷ ss) e =
    ap₂ (λ a b. a ++ b) (filter_same xs ys (children s) e) (missing_same (xs ++ children s) (ys ++ children s) ss (names_more xs ys (children s) e))

absorbed : (a b : Bool) → (b ≡ true → a ≡ true) → (a || b) ≡ a
absorbed true b h = refl
absorbed false true h = absurd (true≢false (sym (h refl)))
absorbed false false h = refl

regroup : (a b c : Bool) → (a || (b || c)) ≡ ((a || b) || c)
regroup true b c = refl
regroup false b c = refl

missing_dropped : (there P : List Object) (s : Object) (R : List Object)
    → ((n : List ℕ) → is_some (named n (children s)) ≡ true → (is_some (named n there) || is_some (overridden (Some n) P)) ≡ true)
    → missing there (P ++ s ∷ R) ≡ missing there (P ++ R)
missing_dropped there [] s R h =
    let all : AllTaken there (children s) = λ n has. sym (or_false (is_some (named n there))) ∙ h n has in
    ap (λ l. l ++ missing (there ++ children s) R) (none_new there (children s) all)
    ∙ missing_same (there ++ children s) there R
    (λ n. ap is_some (named-append n there (children s)) ∙ is_some_or (named n there) (named n (children s)) ∙ absorbed (is_some (named n there)) (is_some (named n (children s))) (all n))
missing_dropped there (p ∷ ps) s R h =
    ap (λ l. filter (is_new there) (children p) ++ l)
    (missing_dropped (there ++ children p) ps s R
    (λ n has.
    ap (λ b. b || is_some (overridden (Some n) ps)) (ap is_some (named-append n there (children p)) ∙ is_some_or (named n there) (named n (children p)))
    ∙ sym (regroup (is_some (named n there)) (is_some (named n (children p))) (is_some (overridden (Some n) ps)))
    ∙ ap (λ b. is_some (named n there) || b) (sym (is_some_or (named n (children p)) (overridden (Some n) ps)))
    ∙ h n has))

pub same_refl : (ss : List Object) → Same ss ss
same_refl ss = record { head = λ h. refl; over = λ n. refl; missing = λ t. refl }

pub same_trans : (a b c : List Object) → Same a b → Same b c → Same a c
same_trans a b c p q = record { head = λ h. p.head h ∙ q.head h; over = λ n. p.over n ∙ q.over n; missing = λ t. p.missing t ∙ q.missing t }

-- a source that tells nothing new is left out
pub same_dropped : (P : List Object) (s : Object) (R : List Object) → IsTold P s → Same (P ++ R) (P ++ s ∷ R)
same_dropped P s R t = record {
  head = λ h. sym (head_dropped h P s R t.head);
  over = λ n. sym (over_dropped n P s R t);
  missing = λ there. sym (missing_dropped there P s R (λ n has. or_second (is_some (named n there)) (is_some (overridden (Some n) P)) (t.names n has)));
}

rows_same : (lib : Contracts) (implied : Option Words) (ss ts : List Object) → ((n : Option (List ℕ)) → overridden n ss ≡ overridden n ts) → (r : Objects) → row_results lib implied ss r ≡ row_results lib implied ts r
rows_same lib implied ss ts e none = refl
rows_same lib implied ss ts e (node h below rest) =
    ap₂ (λ (o : Option Object) (r : Objects).
    node (inherited_head h (sources lib h implied o))
    (in_row (listed (row_results lib (implied_by (inherited_head h (sources lib h implied o))) (sources lib h implied o) below) ++ map bare (missing (listed below) (sources lib h implied o)))) r)
    (e h.name) (rows_same lib implied ss ts e rest)

-- and the result of an object is the same by the same sources
pub result_same : (lib : Contracts) (o : Object) (implied other : Option Words) (over : Option Object) → Same (sources lib o.head implied over) (sources lib o.head other over)
    → result_of lib o implied over ≡ result_of lib o other over
unfolding result_of
result_same lib o implied other over e =
    let from = sources lib o.head implied over in
    let to = sources lib o.head other over in
    ap₂ (λ (h : Head) (l : List Object). let x : Object = record { head = h; inner = in_row l } in x) (e.head o.head)
    (ap₂ (λ (a b : List Object). a ++ b)
    (ap listed (ap (λ (h : Head). row_results lib (implied_by h) from o.inner) (e.head o.head) ∙ rows_same lib (implied_by (inherited_head o.head to)) from to e.over o.inner))
    (ap (map bare) (e.missing (children o))))

shown_is : (w : View) → shown_result w ≡ cond w.as_it_stands (bare w.own.now) (result_of w.library.now w.own.now (option_copied w.implied) (option_copied w.over))
unfolding shown_result
shown_is w = refl

-- what the view of an own child shows that has words which tell it the same
pub own_child_told : (v w : View) (c : Object) → w.library.now ≡ v.library.now → w.own.now ≡ c → MayGive v (option_copied w.implied) → option_copied w.over ≡ overridden c.head.name (view_sources v) → w.as_it_stands ≡ v.as_it_stands → shown_result w ≡ own_child_of v c
own_child_told v w c lib own may over stands =
    let o = overridden c.head.name (view_sources v) in
    let shows : shown_result w ≡ cond v.as_it_stands (bare c) (result_of v.library.now c (option_copied w.implied) o) = shown_is w ∙ cc in
    shows ∙ ap (cond v.as_it_stands (bare c)) (may c o)

pub present-append : (xs ys : List (Option Object)) → present (xs ++ ys) ≡ present xs ++ present ys
present-append [] ys = refl
present-append (None ∷ xs) ys = present-append xs ys
present-append (Some x ∷ xs) ys = ap (λ l. x ∷ l) (present-append xs ys)

map-append : {A B : Type 0} (F : A → B) (xs ys : List A) → map F (xs ++ ys) ≡ map F xs ++ map F ys
map-append F [] ys = refl
map-append F (x ∷ xs) ys = ap (λ l. F x ∷ l) (map-append F xs ys)

pub named_by-append : (lib : Contracts) (vs ws : Words) → named_by lib (vs ++ ws) ≡ named_by lib vs ++ named_by lib ws
named_by-append lib vs ws = ap present (map-append (contract_of lib) vs ws) ∙ present-append (map (contract_of lib) vs) (map (contract_of lib) ws)

-- what is looked up for an object is the same by words that stand for others
pub same_by : (lib : Contracts) (k : Kind) (ts ws : Words) (over : Option Object) → StandFor lib ts ws → Same (sources_by lib k ts over) (sources_by lib k ws over)
same_by lib k ts ws over e = go (is_ref k)
  where
    go : (r : Bool) → Same (present (cond r [] (map (contract_of lib) ts ++ over ∷ []))) (present (cond r [] (map (contract_of lib) ws ++ over ∷ [])))
    go true = same_refl []
    go false =
        subst (λ (x : List Object). Same x (present (map (contract_of lib) ws ++ over ∷ []))) (sym (present-append (map (contract_of lib) ts) (over ∷ [])))
        (subst (λ (x : List Object). Same (named_by lib ts ++ present (over ∷ [])) x) (sym (present-append (map (contract_of lib) ws) (over ∷ []))) (e (present (over ∷ []))))

-- the sources of an object are the same by words that stand for others
pub same_sources : (lib : Contracts) (told words : Option Words) → StandFor lib (words_in told) (words_in words) → (h : Head) (over : Option Object) → Same (sources lib h told over) (sources lib h words over)
same_sources lib told words e h over = go h.is
  where
    go : (is : Option Words) → Same (sources_by lib h.kind (words_in (or_else is told)) over) (sources_by lib h.kind (words_in (or_else is words)) over)
    go (Some vs) = same_refl (sources_by lib h.kind vs over)
    go None = same_by lib h.kind (words_in told) (words_in words) over e

-- such words tell the same
pub tell_the_same : (lib : Contracts) (told words : Option Words) → StandFor lib (words_in told) (words_in words) → TellTheSame lib told words
tell_the_same lib told words e = λ o over. result_same lib o told words over (same_sources lib told words e o.head over)

-- where no words are told, a list's own stand for themselves
pub stand_in_none : (lib : Contracts) (words : Option Words) → StandIn lib None words
stand_in_none lib words = λ R. same_refl (named_by lib (words_in words) ++ R)

-- one word more, put to both
pub stand_kept : (lib : Contracts) (ts ws : Words) (w : List ℕ) → StandFor lib ts ws → StandFor lib (ts ++ w ∷ []) (ws ++ w ∷ [])
stand_kept lib ts ws w e = λ R.
    let c = named_by lib (w ∷ []) in
    subst (λ (x : List Object). Same (x ++ R) (named_by lib (ws ++ w ∷ []) ++ R)) (sym (named_by-append lib ts (w ∷ [])))
    (subst (λ (x : List Object). Same ((named_by lib ts ++ c) ++ R) (x ++ R)) (sym (named_by-append lib ws (w ∷ [])))
    (subst (λ (x : List Object). Same x ((named_by lib ws ++ c) ++ R)) (sym (append_assoc (named_by lib ts) c R))
    (subst (λ (x : List Object). Same (named_by lib ts ++ (c ++ R)) x) (sym (append_assoc (named_by lib ws) c R)) (e (c ++ R)))))

-- one that names no contract
pub stand_none : (lib : Contracts) (ts ws : Words) (w : List ℕ) → contract_of lib w ≡ None → StandFor lib ts ws → StandFor lib ts (ws ++ w ∷ [])
stand_none lib ts ws w gone e = λ R.
    subst (λ (x : List Object). Same (named_by lib ts ++ R) (x ++ R))
    (sym (named_by-append lib ws (w ∷ []) ∙ ap (λ o. named_by lib ws ++ present (o ∷ [])) gone ∙ append_none (named_by lib ws))) (e R)
  where
    append_none : (xs : List Object) → xs ++ [] ≡ xs
    append_none [] = refl
    append_none (x ∷ xs) = ap (λ l. x ∷ l) (append_none xs)

-- and one whose contract tells nothing new
pub stand_told : (lib : Contracts) (ts ws : Words) (w : List ℕ) (c : Object) → contract_of lib w ≡ Some c → IsTold (named_by lib ts) c → StandFor lib ts ws → StandFor lib ts (ws ++ w ∷ [])
stand_told lib ts ws w c is told e = λ R.
    same_trans (named_by lib ts ++ R) (named_by lib ts ++ c ∷ R) (named_by lib (ws ++ w ∷ []) ++ R) (same_dropped (named_by lib ts) c R told)
    (subst (λ (x : List Object). Same (named_by lib ts ++ c ∷ R) (x ++ R))
    (sym (named_by-append lib ws (w ∷ []) ∙ ap (λ o. named_by lib ws ++ present (o ∷ [])) is))
    (subst (λ (x : List Object). Same (named_by lib ts ++ c ∷ R) x) (sym (append_assoc (named_by lib ws) (c ∷ []) R)) (e (c ∷ R))))

-- what is told stays told where more sources come
pub told_still : (P X : List Object) (s : Object) → IsTold P s → IsTold (P ++ X) s
told_still P X s t = record {
  head = record {
    of = λ k. told_more (λ o. only_if (has_of k) o.head.of) P X s (t.head.of k);
    input = λ k. told_more (λ o. only_if (has_input k) o.head.input) P X s (t.head.input k);
    output = λ k. told_more (λ o. only_if (has_output k) o.head.output) P X s (t.head.output k);
    slot = λ k. told_more (λ o. only_if (same_kind o.head.kind k) (given o.head.slot)) P X s (t.head.slot k);
    display = told_more (λ o. o.head.facets.display) P X s t.head.display;
    display_name = told_more (λ o. o.head.facets.display_name) P X s t.head.display_name;
    icon = told_more (λ o. o.head.facets.icon) P X s t.head.icon;
    min = λ k. told_more (λ o. only_if (same_kind o.head.kind k) o.head.facets.min) P X s (t.head.min k);
    max = λ k. told_more (λ o. only_if (same_kind o.head.kind k) o.head.facets.max) P X s (t.head.max k);
    precision = told_more (λ o. o.head.facets.precision) P X s t.head.precision;
    range = told_more (λ o. o.head.facets.range) P X s t.head.range;
    status = told_more (λ o. o.head.facets.status) P X s t.head.status;
    tz = told_more (λ o. o.head.facets.tz) P X s t.head.tz;
    unit = told_more (λ o. o.head.facets.unit) P X s t.head.unit;
    writable = told_more (λ o. o.head.facets.writable) P X s t.head.writable;
  };
  names = λ n. told_more (λ o. named n (children o)) P X s (t.names n);
}

-- and a source tells all that it tells
pub told_by_itself : (P : List Object) (s : Object) → IsTold (P ++ s ∷ []) s
told_by_itself P s = record {
  head = record {
    of = λ k. told_itself (λ o. only_if (has_of k) o.head.of) P s;
    input = λ k. told_itself (λ o. only_if (has_input k) o.head.input) P s;
    output = λ k. told_itself (λ o. only_if (has_output k) o.head.output) P s;
    slot = λ k. told_itself (λ o. only_if (same_kind o.head.kind k) (given o.head.slot)) P s;
    display = told_itself (λ o. o.head.facets.display) P s;
    display_name = told_itself (λ o. o.head.facets.display_name) P s;
    icon = told_itself (λ o. o.head.facets.icon) P s;
    min = λ k. told_itself (λ o. only_if (same_kind o.head.kind k) o.head.facets.min) P s;
    max = λ k. told_itself (λ o. only_if (same_kind o.head.kind k) o.head.facets.max) P s;
    precision = told_itself (λ o. o.head.facets.precision) P s;
    range = told_itself (λ o. o.head.facets.range) P s;
    status = told_itself (λ o. o.head.facets.status) P s;
    tz = told_itself (λ o. o.head.facets.tz) P s;
    unit = told_itself (λ o. o.head.facets.unit) P s;
    writable = told_itself (λ o. o.head.facets.writable) P s;
  };
  names = λ n. told_itself (λ o. named n (children o)) P s;
}
