-- What a config tells, and the first part that offends.
use Rattle.std.proofs.Common.{◌≡◌, ℕ, zero, suc, ◌+◌, ◌≤◌, Bool, true, false, ◌||◌, List, [], ◌∷◌, ◌++◌, map, length, take, Option, Some, None, refl, ap, ap₂, sym, subst, ◌∙◌, arith, Bor}
use Rattle.std.specs.Prelude.{cond, is_some, option_map, option_and_then, Result}
use Rattle.std.specs.declared.result.Result.TheVariants.{Ok, Err}
use Rattle.std.specs.List.{list_any}
use Rattle.std.proofs.lemmas.List.{map-append}
use Rattle.ob_object.specs.Object.{Object}
use Rattle.ob_watching.specs.WatchOuts.{Text}
use Rattle.ob_parts.specs.Numbered.{Part}
use Rattle.ob_parts.specs.Offences.{breaks, unless}
use Rattle.ob_parts.specs.declared.offence.Offence.{Offence}
use Rattle.ob_parts.specs.Least.{first_of, earlier, least}
use Rattle.ob_parts.proofs.Earliest.{least_append, least_none}
use Rattle.ob_super.specs.declared.config_fault.ConfigFault.{ConfigFault}
use Rattle.ob_super.specs.declared.config_fault.ConfigFault.TheVariants.{Shape, Memory}
use Rattle.ob_super.specs.declared.config_rule.ConfigRule.{ConfigRule}
use Rattle.ob_super.specs.declared.upstream.Upstream as code
use Rattle.ob_super.specs.Upstreams.{Upstream, is_text, href_in, new_href, href_rule, href_offences, upstream_in, upstream_offences, all_of}
use Rattle.ob_super.specs.Configs.{upstream, Judges, unless_any, both, was_seen, unseen, Sees, TakesHref, TakesIn}

-- ---- results

no_more : (xs ys : List (Offence ConfigRule)) → xs ≡ [] → ys ≡ [] → xs ++ ys ≡ []
no_more xs ys e f = ap₂ (λ a b. a ++ b) e f

-- what two parts tell together
pub both_judge : {A B : Type 0} (xs ys : List (Offence ConfigRule)) (P : A → Type 0) (Q : B → Type 0) (a : Result A ConfigFault) (b : Result B ConfigFault)
    → Judges xs P a → Judges ys Q b → Judges (xs ++ ys) (λ r. P r.0 × Q r.1) (both a b)
both_judge xs ys P Q (Ok a) (Ok b) h k = (no_more xs ys h.0 k.0, (h.1, k.1))
both_judge xs ys P Q (Ok a) (Err (Shape m)) h k = least_append xs ys ∙ ap₂ earlier (ap least h.0) k
both_judge xs ys P Q (Ok a) (Err Memory) h k = tt
both_judge xs ys P Q (Err (Shape n)) (Ok b) h k = least_append xs ys ∙ ap₂ earlier h (ap least k.0)
both_judge xs ys P Q (Err (Shape n)) (Err (Shape m)) h k = least_append xs ys ∙ ap₂ earlier h k
both_judge xs ys P Q (Err (Shape n)) (Err Memory) h k = tt
both_judge xs ys P Q (Err Memory) (Ok b) h k = tt
both_judge xs ys P Q (Err Memory) (Err g) h k = tt

-- a refusal says the same, whatever would be told
pub judge_err : {A B : Type 0} (xs : List (Offence ConfigRule)) (P : A → Type 0) (Q : B → Type 0) (f : ConfigFault) → Judges xs P (Err f) → Judges xs Q (Err f)
judge_err xs P Q (Shape n) h = h
judge_err xs P Q Memory h = tt

-- of three parts, the first that offends
pub refused : {A B C D : Type 0} (xs ys zs : List (Offence ConfigRule)) (P : A → Type 0) (Q : B → Type 0) (R : C → Type 0) (S : D → Type 0)
    (a : Result A ConfigFault) (b : Result B ConfigFault) (c : Result C ConfigFault) (bc : Result (B × C) ConfigFault) (f : ConfigFault)
    → Judges xs P a → Judges ys Q b → Judges zs R c → bc ≡ both b c → both a bc ≡ Err f → Judges (xs ++ (ys ++ zs)) S (Err f)
refused {A = A} {B = B} {C = C} xs ys zs P Q R S a b c bc f p q r is e =
    judge_err (xs ++ (ys ++ zs)) (λ (t : A × (B × C)). P t.0 × (Q t.1.0 × R t.1.1)) S f
    (subst (Judges (xs ++ (ys ++ zs)) (λ (t : A × (B × C)). P t.0 × (Q t.1.0 × R t.1.1))) (ap (both a) (sym is) ∙ e)
    (both_judge xs (ys ++ zs) P (λ (u : B × C). Q u.0 × R u.1) a (both b c) p (both_judge ys zs Q R b c q r)))

-- what is told where the offences are others, and told otherwise
pub judge_as : {A : Type 0} (xs ys : List (Offence ConfigRule)) (P Q : A → Type 0) (r : Result A ConfigFault) → ys ≡ xs → ((x : A) → P x → Q x) → Judges xs P r → Judges ys Q r
judge_as xs ys P Q (Ok x) e f h = (e ∙ h.0, f x h.1)
judge_as xs ys P Q (Err (Shape n)) e f h = ap least e ∙ h
judge_as xs ys P Q (Err Memory) e f h = tt

-- at the end of a walk
pub judge_walk : {A : Type 0} (xs : List (Offence ConfigRule)) (P : A → Type 0) (first : Option (Offence ConfigRule)) (x : A) → first ≡ least xs → (first ≡ None → P x) → Judges xs P (unless_any first x)
judge_walk xs P None x e f = (least_none xs (sym e), f refl)
judge_walk xs P (Some n) x e f = sym e

pub all_some : {A : Type 0} (xs : List A) → all_of (map Some xs) ≡ Some xs
all_some [] = refl
all_some (x ∷ xs) = ap (option_map (λ ys. x ∷ ys)) (all_some xs)

-- ---- the walk over hrefs

any_more : {A : Type 0} (f : A → Bool) (xs : List A) (x : A) → list_any f (xs ++ x ∷ []) ≡ (list_any f xs || f x)
any_more f [] x = go (f x)
  where
    go : (b : Bool) → (b || false) ≡ (false || b)
    go true = refl
    go false = refl
any_more f (y ∷ ys) x = ap (λ b. f y || b) (any_more f ys x) ∙ go (f y) (list_any f ys) (f x)
  where
    go : (a b c : Bool) → (a || (b || c)) ≡ ((a || b) || c)
    go true b c = refl
    go false b c = refl

-- these texts were seen: those that objects say
abbrev pub HasSeen : List (Bor (List ℕ)) → List Object → Type 0
HasSeen seen before = (t : Text) → was_seen seen t ≡ list_any (λ o. is_text t (href_in o)) before

pub unseen_is : (seen : List (Bor (List ℕ))) (before : List Object) (o : Object) → HasSeen seen before → unseen seen (href_in o) ≡ new_href before o
unseen_is seen before o h = go (href_in o)
  where
    go : (a : Option Text) → option_and_then (λ (t : Text). cond (was_seen seen t) None (Some t)) a
        ≡ option_and_then (λ (t : Text). cond (list_any (λ other. is_text t (href_in other)) before) None (Some t)) a
    go None = refl
    go (Some t) = ap (λ b. cond b None (Some t)) (h t)

pub seen_more : (old new : List (Bor (List ℕ))) (before : List Object) (o : Object) → HasSeen old before → Sees old (href_in o) new → HasSeen new (before ++ o ∷ [])
seen_more old new before o h s = λ t. s t ∙ (ap (λ b. b || is_text t (href_in o)) (h t) ∙ sym (any_more (λ x. is_text t (href_in x)) before o))

kept : (u t : Text) (b : Bool) → cond b None (Some u) ≡ Some t → Some u ≡ Some t
kept u t true e = absurd (let f : None ≡ Some t = e in cc)
kept u t false e = e

-- the href is told where it is new
new_is : (before : List Object) (o : Object) (t : Text) → new_href before o ≡ Some t → href_in o ≡ Some t
new_is before o t e = go (href_in o) e
  where
    go : (a : Option Text) → option_and_then (λ (u : Text). cond (list_any (λ other. is_text u (href_in other)) before) None (Some u)) a ≡ Some t → a ≡ Some t
    go None e = e
    go (Some u) e = kept u t (list_any (λ other. is_text u (href_in other)) before) e

-- an object offends where its href isn't taken
pub href_judged : (old new : List Text) (p : Part) (before : List Object) (offence : Option (Offence ConfigRule)) (h : Option Text) → h ≡ new_href before p.object → TakesHref old new p h offence
    → offence ≡ least (href_offences before p)
href_judged old new p before offence (Some t) e k = k.1 ∙ ap (λ (a : Option Text). least (unless (is_some a) (href_rule p.object) p)) e
href_judged old new p before offence None e k = k.1 ∙ ap (λ (a : Option Text). least (unless (is_some a) (href_rule p.object) p)) e

left_none : (a b : Option (Offence ConfigRule)) → earlier a b ≡ None → a ≡ None
left_none None b e = refl
left_none (Some a) None e = e
left_none (Some a) (Some b) e = absurd (let f : Some (first_of a b) ≡ None = e in cc)

right_none : (a b : Option (Offence ConfigRule)) → earlier a b ≡ None → b ≡ None
right_none None b e = e
right_none (Some a) None e = refl
right_none (Some a) (Some b) e = absurd (let f : Some (first_of a b) ≡ None = e in cc)

pub hrefs_more : (old new : List Text) (p : Part) (before : List Object) (first offence next : Option (Offence ConfigRule)) (h : Option Text)
    → h ≡ new_href before p.object → TakesHref old new p h offence → next ≡ earlier first offence → (first ≡ None → map href_in before ≡ map Some old) → next ≡ None → map href_in (before ++ p.object ∷ []) ≡ map Some new
hrefs_more old new p before first offence next (Some t) e k n told none =
    let first_none = left_none first offence (sym n ∙ none) in
    map-append href_in before (p.object ∷ [])
    ∙ (ap₂ (λ xs (a : Option Text). xs ++ a ∷ []) (told first_none) (new_is before p.object t (sym e))
    ∙ (sym (map-append Some old (t ∷ [])) ∙ ap (map Some) (sym k.0)))
hrefs_more old new p before first offence next None e k n told none =
    absurd (let f : Some (breaks (href_rule p.object) p) ≡ None = sym k.1 ∙ right_none first offence (sym n ∙ none) in cc)

-- ---- the walk over upstreams

pub upstream_judged : (old new : List code.Upstream) (p : Part) (offence : Option (Offence ConfigRule)) (u : Result code.Upstream ConfigFault)
    → Judges (upstream_offences [] p) (λ v. upstream_in p.object ≡ Some (upstream v)) u → TakesIn old new u offence → offence ≡ least (upstream_offences [] p)
upstream_judged old new p offence (Ok u) j k = k.1 ∙ sym (ap least j.0)
upstream_judged old new p offence (Err (Shape n)) j k = k.1 ∙ sym j
upstream_judged old new p offence (Err Memory) j k = absurd k

abbrev pub told_of : List code.Upstream → List (Option Upstream)
told_of us = map (λ (u : code.Upstream). Some (upstream u)) us

pub upstreams_more : (old new : List code.Upstream) (before : List Object) (p : Part) (first offence next : Option (Offence ConfigRule)) (u : Result code.Upstream ConfigFault)
    → Judges (upstream_offences [] p) (λ v. upstream_in p.object ≡ Some (upstream v)) u → TakesIn old new u offence → next ≡ earlier first offence
    → (first ≡ None → map upstream_in before ≡ told_of old) → next ≡ None → map upstream_in (before ++ p.object ∷ []) ≡ told_of new
upstreams_more old new before p first offence next (Ok u) j k n told none =
    map-append upstream_in before (p.object ∷ [])
    ∙ (ap₂ (λ xs (a : Option Upstream). xs ++ a ∷ []) (told (left_none first offence (sym n ∙ none))) j.1
    ∙ (sym (map-append (λ (v : code.Upstream). Some (upstream v)) old (u ∷ [])) ∙ ap told_of (sym k.0)))
upstreams_more old new before p first offence next (Err (Shape m)) j k n told none =
    absurd (let f : Some m ≡ None = sym k.1 ∙ right_none first offence (sym n ∙ none) in cc)
upstreams_more old new before p first offence next (Err Memory) j k n told none = absurd k

pub told_all : (us : List code.Upstream) → all_of (told_of us) ≡ Some (map upstream us)
told_all [] = refl
told_all (u ∷ us) = ap (option_map (λ ys. upstream u ∷ ys)) (told_all us)

pub take_all : {A : Type 0} (xs : List A) (k : ℕ) → length xs ≤ k → take k xs ≡ xs
take_all [] zero h = refl
take_all [] (suc k) h = refl
take_all (x ∷ xs) zero h = absurd (omega (arith, h))
take_all (x ∷ xs) (suc k) h = ap (λ ys. x ∷ ys) (take_all xs k (omega (arith, h)))
