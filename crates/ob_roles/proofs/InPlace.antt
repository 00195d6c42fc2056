-- One object in place of many contracts tells the same of what roles ask for.
use Rattle.std.proofs.Common.{◌≡◌, ℕ, zero, suc, Bool, true, false, cond, not, ◌&&◌, ◌||◌, List, [], ◌∷◌, ◌++◌, map, filter, Option, Some, None, option_map, refl, sym, ap, ap₂, ◌∙◌, subst, append_assoc}
use Rattle.std.specs.Prelude.{is_some, slice_get}
use Rattle.std.specs.List.{list_any}
use Rattle.std.proofs.lemmas.List.{append-nil}
use Rattle.std.proofs.lemmas.List.Elements.{filter-append}
use Rattle.ob_values.proofs.Bools.{and_false}
use Rattle.ob_object.specs.declared.head.Head.{Head}
use Rattle.ob_object.specs.Kinds.{is_ref, has_of}
use Rattle.ob_object.specs.Object.{Object, children, listed-in_row}
use Rattle.ob_object.specs.WellFormed.{named, is_taken, with_child}
use Rattle.ob_contracts.specs.Found.{Names, found}
use Rattle.ob_contracts.specs.Inherit.{Contracts, Words, contract_of, words_in, or_else, only_if, present, first_given, overridden, sources, inherited_head, implied_by, is_new, missing}
use Rattle.ob_contracts.proofs.Children.{named-missing}
use Rattle.ob_contracts.proofs.Dropped.{first-append}
use Rattle.ob_contracts.proofs.Found.{nameless_not_new}
use Rattle.ob_contracts.proofs.Missing.{taken-append}
use Rattle.ob_roles.specs.Few.{brief, brief_contracts}
use Rattle.ob_roles.specs.Given.{contracts_in}
use Rattle.ob_roles.specs.Summed.{HasNames, IsPutIfNew, IsSum, SumsUp, IsGivenBy, given_from, taken_from}
use Rattle.ob_roles.proofs.Brief.{Likes, of_like, over_like, missing_like, sources_like}
use Rattle.ob_roles.proofs.Named.{Same, same_more, same_new}
use Rattle.ob_roles.proofs.Taken.{implied_is, present_behind}

and_true : (a : Bool) → (a && true) ≡ a
and_true true = refl
and_true false = refl

-- a name is new behind two lists where it is new behind each
new_both : (xs cs : List Object) (n : Option (List ℕ)) → ((is_some n && not (is_taken n xs)) && (is_some n && not (is_taken n cs))) ≡ (is_some n && not (is_taken n (xs ++ cs)))
new_both xs cs None = refl
new_both xs cs (Some n) = neither (is_taken (Some n) xs) (is_taken (Some n) cs) ∙ ap not (sym (taken-append n xs cs))
  where
    neither : (a b : Bool) → (not a && not b) ≡ not (a || b)
    neither true b = refl
    neither false b = refl

filter_both : (xs cs ds : List Object) → filter (is_new xs) (filter (is_new cs) ds) ≡ filter (is_new (xs ++ cs)) ds
filter_both xs cs [] = refl
filter_both xs cs (d ∷ ds) = go (filter_both xs cs ds) (is_new cs d) refl
  where
    both : List Object
    both = filter (is_new (xs ++ cs)) ds

    new : (b : Bool) → is_new cs d ≡ b → (is_new xs d && b) ≡ is_new (xs ++ cs) d
    new b e = ap (λ c. is_new xs d && c) (sym e) ∙ new_both xs cs d.head.name

    go : filter (is_new xs) (filter (is_new cs) ds) ≡ filter (is_new (xs ++ cs)) ds → (b : Bool) → is_new cs d ≡ b
        → filter (is_new xs) (cond b (d ∷ filter (is_new cs) ds) (filter (is_new cs) ds)) ≡ cond (is_new (xs ++ cs) d) (d ∷ both) both
    go rest true e = ap₂ (λ c l. cond c (d ∷ l) l) (sym (and_true (is_new xs d)) ∙ new true e) rest
    go rest false e = rest ∙ ap (λ c. cond c (d ∷ both) both) (sym (and_false (is_new xs d)) ∙ new false e)

same_before : (xs ys cs : List Object) → Same xs ys → Same (xs ++ cs) (ys ++ cs)
same_before xs ys cs s = λ n. taken-append n xs cs ∙ ap (λ b. b || is_taken (Some n) cs) (s n) ∙ sym (taken-append n ys cs)

same_behind : (xs ys zs : List Object) → Same ys zs → Same (xs ++ ys) (xs ++ zs)
same_behind xs ys zs s = λ n. taken-append n xs ys ∙ ap (λ b. is_taken (Some n) xs || b) (s n) ∙ sym (taken-append n xs zs)

missing_same : (xs ys ss : List Object) → Same xs ys → missing xs ss ≡ missing ys ss
missing_same xs ys [] s = refl
missing_same xs ys (o ∷ os) s =
    ap₂ (λ a b. a ++ b) (same_new xs ys (children o) s) (missing_same (xs ++ children o) (ys ++ children o) os (same_before xs ys (children o) s))

-- what is missing of a source with these children and of those behind it
abbrev missing_of : List Object → List Object → List Object → List Object
missing_of xs cs ss = filter (is_new xs) cs ++ missing (xs ++ cs) ss

-- a source may be put to the one before it
merged : (xs cs : List Object) (a : Object) (ss : List Object) → missing_of xs (cs ++ filter (is_new cs) (children a)) ss ≡ missing_of xs cs (a ∷ ss)
merged xs cs a ss =
    let ds = children a in
    let new = filter (is_new cs) ds in
    let more : Same (cs ++ ds) (cs ++ new) = same_more cs cs ds (λ n. refl) in
    let same : Same (xs ++ (cs ++ new)) ((xs ++ cs) ++ ds) =
    λ n. same_behind xs (cs ++ new) (cs ++ ds) (λ m. sym (more m)) n ∙ ap (is_taken (Some n)) (sym (append_assoc xs cs ds)) in
    ap₂ (λ a b. a ++ b) (filter-append (is_new xs) cs new ∙ ap (λ l. filter (is_new xs) cs ++ l) (filter_both xs cs ds)) (missing_same (xs ++ (cs ++ new)) ((xs ++ cs) ++ ds) ss same)
    ∙ append_assoc (filter (is_new xs) cs) (filter (is_new (xs ++ cs)) ds) (missing ((xs ++ cs) ++ ds) ss)

-- and so may all that come first
summed : (xs cs ss rest : List Object) → missing_of xs (cs ++ missing cs ss) rest ≡ missing_of xs cs (ss ++ rest)
summed xs cs [] rest = ap (λ l. missing_of xs l rest) (append-nil cs)
summed xs cs (a ∷ ss) rest =
    let new = filter (is_new cs) (children a) in
    ap (λ l. missing_of xs l rest)
    (ap (λ l. cs ++ (new ++ l)) (missing_same (cs ++ children a) (cs ++ new) ss (same_more cs cs (children a) (λ n. refl))) ∙ sym (append_assoc cs new (missing (cs ++ new) ss)))
    ∙ summed xs (cs ++ new) ss rest
    ∙ merged xs cs a (ss ++ rest)

-- sources that tell the same of what roles ask for
record TellAlike (fs ss : List Object) : Type 0 where
  of : first_given (λ s. s.head.of) fs ≡ first_given (λ s. s.head.of) ss
  over : (n : Option (List ℕ)) → overridden n fs ≡ overridden n ss
  lacks : (there : List Object) → missing there fs ≡ missing there ss

alike_same : (fs ss : List Object) → fs ≡ ss → TellAlike fs ss
alike_same fs ss e = record {
  of = ap (first_given (λ s. s.head.of)) e;
  over = λ n. ap (overridden n) e;
  lacks = λ there. ap (missing there) e;
}

alike_sum : (s : Object) (ss rest : List Object) → IsSum s ss → TellAlike (s ∷ rest) (ss ++ rest)
alike_sum s ss rest k = record {
  of = ap (λ w. or_else w (first_given (λ x. x.head.of) rest)) k.of ∙ sym (first-append (λ x. x.head.of) ss rest);
  over = over;
  lacks = λ there. ap (λ l. missing_of there l rest) k.all ∙ summed there [] ss rest ∙ ap (λ l. missing l (ss ++ rest)) (append-nil there);
}
  where
    over : (n : Option (List ℕ)) → overridden n (s ∷ rest) ≡ overridden n (ss ++ rest)
    over None = refl
    over (Some n) =
        ap (λ l. or_else (named n l) (overridden (Some n) rest)) k.all
        ∙ ap (λ o. or_else o (overridden (Some n) rest)) (named-missing n [] ss)
        ∙ sym (first-append (λ x. named n (children x)) ss rest)

-- what an object takes from by what it is given, and by the words
alike_by : (lib : Contracts) (h : Head) (implied : Option Words) (sum over : Option Object) → IsGivenBy sum lib h implied → TellAlike (taken_from lib h sum over) (sources lib h implied over)
alike_by lib h implied sum over given = go (is_ref h.kind) h.is given
  where
    named_by : Option Words → List (Option Object)
    named_by ws = map (contract_of lib) (words_in ws)

    told : (s : Option Object) → SumsUp s (contracts_in lib implied) → TellAlike (present (s ∷ []) ++ present (over ∷ [])) (present (named_by implied ++ over ∷ []))
    told None e = alike_same (present (over ∷ [])) (present (named_by implied ++ over ∷ [])) (ap (λ l. l ++ present (over ∷ [])) (sym e) ∙ sym (present_behind (named_by implied) over))
    told (Some s) k =
        subst (TellAlike (s ∷ present (over ∷ []))) (sym (present_behind (named_by implied) over)) (alike_sum s (contracts_in lib implied) (present (over ∷ [])) k)

    go : (r : Bool) (is : Option Words) → ((not (is_some is) && not r) ≡ true → SumsUp sum (contracts_in lib implied))
        → TellAlike (cond r [] (given_from lib is sum ++ present (over ∷ []))) (present (cond r [] (map (contract_of lib) (words_in (or_else is implied)) ++ over ∷ [])))
    go true is g = alike_same [] [] refl
    go false None g = told sum (g refl)
    go false (Some ws) g =
        alike_same (present (map (contract_of lib) ws) ++ present (over ∷ [])) (present (map (contract_of lib) ws ++ over ∷ [])) (sym (present_behind (map (contract_of lib) ws) over))

-- sources with few words at each part, which tell what others with all words do
pub record TellFew (whole : Contracts) (fs ss : List Object) : Type 0 where
  pub of : first_given (λ s. s.head.of) fs ≡ first_given (λ s. s.head.of) ss
  pub over : (n : Option (List ℕ)) → overridden n fs ≡ option_map (brief whole) (overridden n ss)
  pub lacks : (there : List Object) → missing there fs ≡ map (brief whole) (missing there ss)

module _ (whole : Contracts) where
  few_alike : (fs ms ss : List Object) → TellAlike fs ms → Likes whole ms ss → TellFew whole fs ss
  few_alike fs ms ss a k = record {
    of = a.of ∙ of_like whole ms ss k;
    over = λ n. a.over n ∙ over_like whole n ms ss k;
    lacks = λ there. a.lacks there ∙ missing_like whole there there ms ss (λ n. refl) k;
  }

  -- the words that a list or a feed gives
  pub gives_few : (h : Head) (fs ss : List Object) → TellFew whole fs ss → implied_by (inherited_head h fs) ≡ implied_by (inherited_head h ss)
  gives_few h fs ss k = implied_is h fs ∙ ap (λ w. only_if (has_of h.kind) (or_else h.of w)) k.of ∙ sym (implied_is h ss)

  -- what an object takes from, by contracts with few words at each part
  pub from_few : (lib : Contracts) (x : Object) (h : Head) (implied : Option Words) (sum p o : Option Object) (fs : List Object) → h ≡ x.head → fs ≡ taken_from (brief_contracts whole lib) h sum p → p ≡ option_map (brief whole) o
      → IsGivenBy sum (brief_contracts whole lib) x.head implied → TellFew whole fs (sources lib x.head implied o)
  from_few lib x h implied sum p o fs same f e given =
      let few = brief_contracts whole lib in
      let b = option_map (brief whole) o in
      subst (λ (l : List Object). TellFew whole l (sources lib x.head implied o)) (sym (f ∙ ap₂ (λ k q. taken_from few k sum q) same e))
      (few_alike (taken_from few x.head sum b) (sources few x.head implied b) (sources lib x.head implied o) (alike_by few x.head implied sum b given) (sources_like whole lib x.head implied o))

-- some object passes where the one at a place does
pub any_at : (P : Object → Bool) (os : List Object) (i : ℕ) (x : Object) → Some x ≡ slice_get os i → P x ≡ true → list_any P os ≡ true
any_at P [] i x is h = cc
any_at P (o ∷ os) zero x is h =
    let e : x ≡ o = cc in
    ap (λ b. b || list_any P os) (ap P (sym e) ∙ h)
any_at P (o ∷ os) (suc i) x is h = or_true (P o) (any_at P os i x is h)
  where
    or_true : (b : Bool) → list_any P os ≡ true → (b || list_any P os) ≡ true
    or_true true h = refl
    or_true false h = h

new_is : (o x : Object) (m : List ℕ) (b : Bool) → Some m ≡ x.head.name → is_taken (Some m) (children o) ≡ b → not b ≡ is_new (children o) x
new_is o x m b name taken = ap not (sym taken) ∙ ap (λ (k : Option (List ℕ)). is_some k && not (is_taken k (children o))) name

-- a child that has no name isn't put
pub put_nameless : (o x : Object) → None ≡ x.head.name → IsPutIfNew o o x
put_nameless o x name = ap (λ b. cond b (with_child o x) o) (nameless_not_new (children o) x name)

-- nor is one whose name is there
pub put_there : (o x : Object) (m : List ℕ) → Some m ≡ x.head.name → is_taken (Some m) (children o) ≡ true → IsPutIfNew o o x
put_there o x m name taken = ap (λ b. cond b (with_child o x) o) (new_is o x m true name taken)

-- and one whose name is new is put
pub put_free : (o new x copy : Object) (m : List ℕ) → copy ≡ x → Some m ≡ x.head.name → is_taken (Some m) (children o) ≡ false
    → new ≡ cond (is_taken copy.head.name (children o)) o (with_child o copy) → new ≡ with_child o x
put_free o new x copy m same name free put =
    put ∙ ap (λ (z : Object). cond (is_taken z.head.name (children o)) o (with_child o z)) same
    ∙ ap (λ (k : Option (List ℕ)). cond (is_taken k (children o)) o (with_child o x)) (sym name)
    ∙ ap (λ b. cond b o (with_child o x)) free

pub put_new : (o new x : Object) (m : List ℕ) → Some m ≡ x.head.name → is_taken (Some m) (children o) ≡ false → new ≡ with_child o x → IsPutIfNew o new x
put_new o new x m name free put = put ∙ ap (λ b. cond b (with_child o x) o) (new_is o x m false name free)

some_or : (a b : Option Object) → is_some (or_else a b) ≡ (is_some a || is_some b)
some_or None b = refl
some_or (Some x) b = refl

-- its name is known then
pub names_put : (old new : Names) (o made x : Object) (cs : List Object) → cs ≡ x ∷ [] → ((n : List ℕ) → found new n ≡ or_else (found old n) (named n cs)) → made ≡ with_child o x → HasNames old o → HasNames new made
names_put old new o made x cs one put is has = λ n.
    ap is_some (put n ∙ ap (λ l. or_else (found old n) (named n l)) one)
    ∙ some_or (found old n) (named n (x ∷ []))
    ∙ ap (λ b. b || is_some (named n (x ∷ []))) (has n)
    ∙ sym (ap (is_taken (Some n)) (ap children is ∙ listed-in_row (children o ++ x ∷ [])) ∙ taken-append n (children o) (x ∷ []))

-- the names of an object are those of what has the same
pub names_same : (names : Names) (o made : Object) → ((n : List ℕ) → found names n ≡ overridden (Some n) (o ∷ [])) → Same (children o) (children made) → HasNames names made
names_same names o made is same = λ n. ap is_some (is n) ∙ alone (named n (children o)) ∙ same n
  where
    alone : (a : Option Object) → is_some (or_else a None) ≡ is_some a
    alone None = refl
    alone (Some x) = refl

pub names_none : (names : Names) (o : Object) → ((n : List ℕ) → found names n ≡ None) → children o ≡ [] → HasNames names o
names_none names o is none = λ n. ap is_some (is n) ∙ sym (ap (is_taken (Some n)) none)
