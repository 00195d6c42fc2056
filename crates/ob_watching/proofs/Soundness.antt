-- Every state that a step leaves is sound; and what a step leaves, target by target.
use Rattle.std.proofs.Common.{Ok, Err, ◌≡◌, ◌≢◌, ℕ, ◌+◌, ◌<◌, ◌≤◌, max, Bool, true, false, cond, not, List, [], ◌∷◌, ◌++◌, map, ◌==◌, Option, Some, None, refl, sym, ap, ap₂, ◌∙◌, subst, arith, le_trans, ◌⊎◌, inl, inr}
use Rattle.std.specs.Prelude.{zero, suc, nat_lt, nat_le, ◌||◌, length, option_map, unwrap_or}
use Rattle.std.specs.List.{filter, AllByRecursion}
use Rattle.std.proofs.lemmas.Bool.Decides.{nat_tests, eqb_tells}
use Rattle.ob_machine.specs.History.{left_by}
use Rattle.ob_machine.specs.declared.call.Answer.TheVariants.{Done, NoMemory}
use Rattle.ob_watching.specs.Operations.{Look, Renew, Add, Remove, PollChanges, PollRefresh, Delete, Refuse, Target, Itself, Nowhere, NewWatch, OneWatch, Told, Refused}
use Rattle.ob_watching.specs.Sites.{Site, IsLawful}
use Rattle.ob_watching.specs.Tables.{lookup, map_values, replace, numbers_of}
use Rattle.ob_watching.specs.Watches.{last_number, max_watches, first_lease, Room, room_beside, lacks_room, idlest, yielding, yielded, Tracked, Object, Feed, Item, Watch, World, Reply, Asks, with_lease, settled_at, settled, reported, firsts, with_items, watch_after, has_lapsed, begun, touched, made, is_full, on_watch, with_site, acted, ended, act, Distinct, Rises, IsSound}
use Rattle.ob_watching.specs.Clients.{Replied, Asking}
use Rattle.ob_watching.specs.Laws.{unless_lapsed, step}
use Rattle.ob_watching.proofs.Tables.{lookup_all, lookup-taken, lookup-replace_other}
use Rattle.ob_watching.proofs.Texts.{distinct_map, distinct_filter, distinct_items_added}

pub all_filter : {A : Type 0} (P : A → Type 0) (keep : A → Bool) (xs : List A) → AllByRecursion P xs → AllByRecursion P (filter keep xs)
all_filter P keep [] h = tt
all_filter P keep (x ∷ xs) h = elim (keep x) as (λ b. AllByRecursion P (cond b (x ∷ filter keep xs) (filter keep xs))) [ true ↦ (h.0, all_filter P keep xs h.1) | false ↦ all_filter P keep xs h.1 ]

all_values : {A B : Type 0} (P : A → Type 0) (Q : B → Type 0) (f : A → B) → ((a : A) → P a → Q (f a)) → (es : List (ℕ × A)) → AllByRecursion (λ e. P e.1) es → AllByRecursion (λ e. Q e.1) (map_values f es)
all_values P Q f each [] h = tt
all_values P Q f each (e ∷ es) h = (each e.1 h.0, all_values P Q f each es h.1)

all_append : {A : Type 0} (P : A → Type 0) (xs : List A) (x : A) → AllByRecursion P xs → P x → AllByRecursion P (xs ++ x ∷ [])
all_append P [] x h g = (g, tt)
all_append P (y ∷ ys) x h g = (h.0, all_append P ys x h.1 g)

at_cond : {A B : Type 0} (f : A → B) (b : Bool) (x y : A) → f (cond b x y) ≡ cond b (f x) (f y)
at_cond f true x y = refl
at_cond f false x y = refl

abbrev pub OfSome : {A : Type 0} → (A → Type 0) → Option A → Type 0
OfSome P None = Unit {0}
OfSome P (Some a) = P a

all_replace : {A : Type 0} (P : A → Type 0) (n : ℕ) (new : Option A) (es : List (ℕ × A)) → OfSome P new → AllByRecursion (λ e. P e.1) es → AllByRecursion (λ e. P e.1) (replace n new es)
all_replace P n new [] g h = tt
all_replace P n None (e ∷ es) g h = elim (e.0 == n) as (λ b. AllByRecursion (λ e. P e.1) (cond b (replace n None es) (e ∷ replace n None es))) [ true ↦ all_replace P n None es g h.1 | false ↦ (h.0, all_replace P n None es g h.1) ]
all_replace P n (Some a) (e ∷ es) g h = (elim (e.0 == n) as (λ b. P (cond b a e.1)) [ true ↦ g | false ↦ h.0 ], all_replace P n (Some a) es g h.1)

-- what is found where a number is taken away was there before
found_before : {A : Type 0} (k n : ℕ) (es : List (ℕ × A)) (a : A) → lookup n (replace k None es) ≡ Some a → lookup n es ≡ Some a
found_before k n es a h = go (eqb_tells n k)
  where
    go : ((n == k ≡ true) × (n ≡ k)) ⊎ ((n == k ≡ false) × (n ≢ k)) → lookup n es ≡ Some a
    go (inl w) = absurd (let f : None ≡ Some a = sym (lookup-taken k es) ∙ subst (λ j. lookup j (replace k None es) ≡ Some a) w.1 h in cc)
    go (inr w) = sym (lookup-replace_other n k None es w.1) ∙ h

module _ (m : Site) where
  rises_le : (low next : ℕ) (es : List (ℕ × Watch m)) → Rises m low next es → low ≤ next
  rises_le low next [] h = h
  rises_le low next (e ∷ es) h = (let rest = rises_le (e.0 + 1) next es h.1 in omega (arith, h.0, rest))

  rises_lower : (low high next : ℕ) (es : List (ℕ × Watch m)) → low ≤ high → Rises m high next es → Rises m low next es
  rises_lower low high next [] l h = le_trans l h
  rises_lower low high next (e ∷ es) l h = (le_trans l h.0, h.1)

  rises_filter : (keep : ℕ × Watch m → Bool) (low next : ℕ) (es : List (ℕ × Watch m)) → Rises m low next es → Rises m low next (filter keep es)
  rises_filter keep low next [] h = h
  rises_filter keep low next (e ∷ es) h = elim (keep e) as (λ b. Rises m low next (cond b (e ∷ filter keep es) (filter keep es))) [
    | true ↦ (h.0, rises_filter keep (e.0 + 1) next es h.1)
    | false ↦ rises_lower low (e.0 + 1) next (filter keep es) (omega (arith, h.0)) (rises_filter keep (e.0 + 1) next es h.1)
  ]

  rises_values : (f : Watch m → Watch m) (low next : ℕ) (es : List (ℕ × Watch m)) → Rises m low next es → Rises m low next (map_values f es)
  rises_values f low next [] h = h
  rises_values f low next (e ∷ es) h = (h.0, rises_values f (e.0 + 1) next es h.1)

  rises_replace : (n : ℕ) (new : Option (Watch m)) (low next : ℕ) (es : List (ℕ × Watch m)) → Rises m low next es → Rises m low next (replace n new es)
  rises_replace n new low next [] h = h
  rises_replace n None low next (e ∷ es) h = elim (e.0 == n) as (λ b. Rises m low next (cond b (replace n None es) (e ∷ replace n None es))) [
    | true ↦ rises_lower low (e.0 + 1) next (replace n None es) (omega (arith, h.0)) (rises_replace n None (e.0 + 1) next es h.1)
    | false ↦ (h.0, rises_replace n None (e.0 + 1) next es h.1)
  ]
  rises_replace n (Some a) low next (e ∷ es) h = (h.0, rises_replace n (Some a) (e.0 + 1) next es h.1)

  rises_append : (a : Watch m) (low next : ℕ) (es : List (ℕ × Watch m)) → Rises m low next es → Rises m low (next + 1) (es ++ (next, a) ∷ [])
  rises_append a low next [] h = (h, omega arith)
  rises_append a low next (e ∷ es) h = (h.0, rises_append a (e.0 + 1) next es h.1)

  -- no number below low is there, and none from next on
  lookup_below : (n low next : ℕ) (es : List (ℕ × Watch m)) → Rises m low next es → n < low → lookup n es ≡ None
  lookup_below n low next [] h l = refl
  lookup_below n low next (e ∷ es) h l =
      let differ : e.0 ≢ n = omega (arith, h.0) in
      let rest = lookup_below n (e.0 + 1) next es h.1 (omega (arith, h.0)) in
      grind (arith, nat_tests, differ, rest)

  pub number_below : (n low next : ℕ) (es : List (ℕ × Watch m)) (v : Watch m) → Rises m low next es → lookup n es ≡ Some v → n < next
  number_below n low next [] v h g = absurd (cc)
  number_below n low next (e ∷ es) v h g =
      let first = rises_le (e.0 + 1) next es h.1 in
      let rest = number_below n (e.0 + 1) next es v h.1 in
      grind (arith, nat_tests, first, rest, g)

  pub lookup_next : (low next : ℕ) (es : List (ℕ × Watch m)) → Rises m low next es → lookup next es ≡ None
  lookup_next low next [] h = refl
  lookup_next low next (e ∷ es) h =
      let first = rises_le (e.0 + 1) next es h.1 in
      let rest = lookup_next (e.0 + 1) next es h.1 in
      grind (arith, nat_tests, first, rest)

  -- a filter finds nothing new
  pub lookup-filter : (keep : ℕ × Watch m → Bool) (n low next : ℕ) (es : List (ℕ × Watch m)) (v : Watch m) → Rises m low next es → lookup n (filter keep es) ≡ Some v → lookup n es ≡ Some v
  lookup-filter keep n low next [] v h g = g
  lookup-filter keep n low next (e ∷ es) v h g = go (keep e) (e.0 == n) (eqb_tells e.0 n) (lookup-filter keep n (e.0 + 1) next es v h.1) (sym (at_cond (lookup n) (keep e) _ _) ∙ g)
    where
      go : (b t : Bool) → ((t ≡ true) × (e.0 ≡ n)) ⊎ ((t ≡ false) × (e.0 ≢ n)) → (lookup n (filter keep es) ≡ Some v → lookup n es ≡ Some v) → cond b (cond t (Some e.1) (lookup n (filter keep es))) (lookup n (filter keep es)) ≡ Some v → cond t (Some e.1) (lookup n es) ≡ Some v
      go true true w rest g = g
      go true false w rest g = rest g
      go false false w rest g = rest g
      go false true (inl w) rest g = let gone : lookup n (filter keep es) ≡ None = lookup_below n (e.0 + 1) next (filter keep es) (rises_filter keep (e.0 + 1) next es h.1) (omega arith) in absurd (cc)
      go false true (inr w) rest g = absurd (cc)

  -- of the watches that have not lapsed the look-up finds what it found
  pub lookup-standing : (now n low next : ℕ) (es : List (ℕ × Watch m)) → Rises m low next es → lookup n (filter (λ e. not (has_lapsed m now e.1)) es) ≡ unless_lapsed m now (lookup n es)
  lookup-standing now n low next [] h = refl
  lookup-standing now n low next (e ∷ es) h =
      at_cond (lookup n) (not (has_lapsed m now e.1)) _ _
      ∙ go (has_lapsed m now e.1) refl (e.0 == n) (eqb_tells e.0 n) (lookup-standing now n (e.0 + 1) next es h.1)
    where
      others : List (ℕ × Watch m)
      others = filter (λ e. not (has_lapsed m now e.1)) es

      go : (b : Bool) → has_lapsed m now e.1 ≡ b → (t : Bool) → ((t ≡ true) × (e.0 ≡ n)) ⊎ ((t ≡ false) × (e.0 ≢ n)) → lookup n others ≡ unless_lapsed m now (lookup n es) → cond (not b) (cond t (Some e.1) (lookup n others)) (lookup n others) ≡ unless_lapsed m now (cond t (Some e.1) (lookup n es))
      go true is false w rest = rest
      go false is false w rest = rest
      go false is true w rest = rw is refl
      go true is true (inl w) rest = lookup_below n (e.0 + 1) next others (rises_filter (λ e. not (has_lapsed m now e.1)) (e.0 + 1) next es h.1) (omega arith) ∙ sym (ap (λ b. cond b None (Some e.1)) is)
      go true is true (inr w) rest = absurd (cc)

  -- time goes on
  pub sound_begun : (w : World m) (moment : ℕ) → IsSound m w → IsSound m (begun m w moment)
  sound_begun w moment h = record {
    numbers = rises_filter (λ e. not (has_lapsed m (max w.time moment) e.1)) 0 w.next w.watches h.numbers;
    next = h.next;
    rolled = h.rolled;
    texts = all_filter (λ e. Distinct m e.1.items) (λ e. not (has_lapsed m (max w.time moment) e.1)) w.watches h.texts;
  }

  distinct_after : IsLawful m → (s : m.State) (ns : List ℕ) (room : Room) (v : Watch m) (op : Asks m) → Distinct m v.items → OfSome (λ u. Distinct m u.items) (watch_after m s ns room v op)
  distinct_after law s ns room v (Look part) h = h
  distinct_after law s ns room v (Renew input) h = elim (m.lease_asked s input) as (λ asked. Distinct m (with_lease m v asked).items) [ Ok lease ↦ h | Err fault ↦ h ]
  distinct_after law s ns room v (Add asked) h = distinct_items_added m law s ns room (firsts m [] asked) v.items h
  distinct_after law s ns room v (Remove texts) h = distinct_filter m _ v.items h
  distinct_after law s ns room v PollChanges h = distinct_map m (reported m s) (λ _. refl) v.items h
  distinct_after law s ns room v PollRefresh h = distinct_map m (reported m s) (λ _. refl) v.items h
  distinct_after law s ns room v Delete h = tt
  distinct_after law s ns room v (Refuse fault) h = h

  sound_on_watch : IsLawful m → (w : World m) (n : ℕ) (op : Asks m) (found : Option (Watch m)) → lookup n w.watches ≡ found → IsSound m w → IsSound m (on_watch m w n op found).0
  sound_on_watch law w n op None e h = h
  sound_on_watch law w n op (Some v) e h = record {
    numbers = rises_replace n _ 0 w.next w.watches h.numbers;
    next = h.next;
    rolled = h.rolled;
    texts = all_replace (λ u. Distinct m u.items) n _ w.watches (distinct_after law w.site (numbers_of w.watches) (room_beside m n w.watches) (touched m w.time v) op (lookup_all (λ u. Distinct m u.items) n w.watches v h.texts e)) h.texts;
  }

  is_last : (full : Bool) (next : ℕ) → (full || nat_lt last_number next) ≡ false → next ≤ last_number
  is_last true next h = absurd cc
  is_last false next h = grind (arith, nat_tests, h)

  -- those that give way: the others stay as they are
  over_idlest : (P : List (ℕ × Watch m) → Type 0) (keep : ℕ → List (ℕ × Watch m)) (ws : List (ℕ × Watch m)) → P ws → ((n : ℕ) → P (keep n)) → (lacks : Bool) (who : Option ℕ) → P (cond lacks (unwrap_or (option_map keep who) ws) ws)
  over_idlest P keep ws h each false who = h
  over_idlest P keep ws h each true None = h
  over_idlest P keep ws h each true (Some n) = each n

  rises_yielding : (most now low next : ℕ) (ws : List (ℕ × Watch m)) → Rises m low next ws → Rises m low next (yielding m most now ws)
  rises_yielding zero now low next ws h = h
  rises_yielding (suc most) now low next ws h =
      over_idlest (Rises m low next) (λ n. yielding m most now (replace n None ws)) ws h (λ n. rises_yielding most now low next (replace n None ws) (rises_replace n None low next ws h)) (lacks_room m ws) (idlest m now ws)

  texts_yielding : (most now : ℕ) (ws : List (ℕ × Watch m)) → AllByRecursion (λ e. Distinct m e.1.items) ws → AllByRecursion (λ e. Distinct m e.1.items) (yielding m most now ws)
  texts_yielding zero now ws h = h
  texts_yielding (suc most) now ws h =
      over_idlest (AllByRecursion (λ e. Distinct m e.1.items)) (λ n. yielding m most now (replace n None ws)) ws h (λ n. texts_yielding most now (replace n None ws) (all_replace (λ u. Distinct m u.items) n None ws tt h)) (lacks_room m ws) (idlest m now ws)

  pub sound_yielded : (w : World m) → IsSound m w → IsSound m (yielded m w)
  sound_yielded w h = record {
    numbers = rises_yielding (length w.watches) w.time 0 w.next w.watches h.numbers;
    next = h.next;
    rolled = h.rolled;
    texts = texts_yielding (length w.watches) w.time w.watches h.texts;
  }

  -- and none is found anew
  pub lookup_yielding : (n most now : ℕ) (ws : List (ℕ × Watch m)) (v : Watch m) → lookup n (yielding m most now ws) ≡ Some v → lookup n ws ≡ Some v
  lookup_yielding n zero now ws v h = h
  lookup_yielding n (suc most) now ws v h =
      over_idlest (λ us. lookup n us ≡ Some v → lookup n ws ≡ Some v) (λ k. yielding m most now (replace k None ws)) ws (λ e. e) (λ k e. found_before k n ws v (lookup_yielding n most now (replace k None ws) v e)) (lacks_room m ws) (idlest m now ws) h

  pub gone_yielding : (n most now : ℕ) (ws : List (ℕ × Watch m)) → lookup n ws ≡ None → lookup n (yielding m most now ws) ≡ None
  gone_yielding n most now ws none = go (lookup n (yielding m most now ws)) refl
    where
      go : (found : Option (Watch m)) → lookup n (yielding m most now ws) ≡ found → lookup n (yielding m most now ws) ≡ None
      go None e = e
      go (Some v) e = absurd (let f : Some v ≡ None = sym (lookup_yielding n most now ws v e) ∙ none in cc)

  sound_made : (w : World m) → is_full m w ≡ false → IsSound m w → IsSound m (made m w)
  sound_made w room h = record {
    numbers = rises_append (record { lease = first_lease; touched = w.time; items = [] }) 0 w.next w.watches h.numbers;
    next = below_last w.next (is_last (nat_le max_watches (length w.watches)) w.next room);
    rolled = h.rolled;
    texts = all_append (λ e. Distinct m e.1.items) w.watches (w.next, record { lease = first_lease; touched = w.time; items = [] }) h.texts tt;
  }
    where
      below_last : (k : ℕ) → k ≤ last_number → k + 1 ≤ last_number + 1
      below_last k h = omega (arith, h)

  -- where nothing is shown otherwise nothing is marked
  settled_same : IsLawful m → (s u : m.State) → u ≡ s → (items : List (Item m)) → map (settled m s u) items ≡ items
  settled_same law s u e [] = refl
  settled_same law s u e (item ∷ items) = ap₂ (λ (x : Item m) (xs : List (Item m)). x ∷ xs) (λ i. record { text = item.text; path = item.path; tracked = go item.tracked i }) (settled_same law s u e items)
    where
      shown : m.same (m.shown s item.path) (m.shown u item.path) ≡ true
      shown = (law.same _ _).1 (ap (λ s. m.shown s item.path) (sym e))

      or_false : (b : Bool) → (b || false) ≡ b
      or_false true = refl
      or_false false = refl

      go : (t : Tracked m) → settled_at m (m.same (m.shown s item.path) (m.shown u item.path)) t ≡ t
      go (Object changed) = ap (λ b. Object (changed || not b)) shown ∙ ap Object (or_false changed)
      go (Feed bounds given) = refl

  values_same : (f : Watch m → Watch m) → ((v : Watch m) → f v ≡ v) → (es : List (ℕ × Watch m)) → map_values f es ≡ es
  values_same f same [] = refl
  values_same f same (e ∷ es) = ap₂ (λ (v : Watch m) (vs : List (ℕ × Watch m)). (e.0, v) ∷ vs) (same e.1) (values_same f same es)

  -- a step that leaves the site alone marks nothing, and nothing rolls off
  quiet : IsLawful m → (s : m.State) → m.roll s ≡ s → (w : World m) → w.site ≡ s → ended m s w ≡ w
  quiet law s rolled w e =
      ap₂ (λ site watches. record { time = w.time; site = site; next = w.next; watches = watches })
      (ap m.roll e ∙ rolled ∙ sym e)
      (values_same _ (λ v. ap (with_items m v) (settled_same law s (m.roll w.site) (ap m.roll e ∙ rolled) v.items)) w.watches)

  -- what a request leaves once its step has ended
  abbrev pub left : World m → m.Request → Target m.Text m.Input m.Part m.Fault → World m
  left w r Itself = ended m w.site (with_site m w (m.act w.site (numbers_of w.watches) r w.time).0)
  left w r t = (acted m w r t).0

  ended_left : IsLawful m → (w : World m) → m.roll w.site ≡ w.site → (r : m.Request) (t : Target m.Text m.Input m.Part m.Fault) → ended m w.site (acted m w r t).0 ≡ left w r t
  ended_left law w rolled r Itself = refl
  ended_left law w rolled r Nowhere = quiet law w.site rolled w refl
  ended_left law w rolled r NewWatch = go (is_full m (yielded m w))
    where
      go : (b : Bool) → let done : World m × Reply m = cond b (w, Refused m.too_many_watches) (made m (yielded m w), Told w.next first_lease m.whole) in ended m w.site done.0 ≡ done.0
      go true = quiet law w.site rolled w refl
      go false = quiet law w.site rolled (made m (yielded m w)) refl
  ended_left law w rolled r (OneWatch n op) = go (lookup n w.watches)
    where
      go : (found : Option (Watch m)) → ended m w.site (on_watch m w n op found).0 ≡ (on_watch m w n op found).0
      go None = quiet law w.site rolled w refl
      go (Some v) = quiet law w.site rolled (on_watch m w n op (Some v)).0 refl

  -- the same of a request at a moment
  pub step_left : IsLawful m → (w : World m) → IsSound m w → (r : m.Request) (moment : ℕ) → (act m w r moment).0 ≡ left (begun m w moment) r (m.target r)
  step_left law w h r moment = ended_left law (begun m w moment) h.rolled r (m.target r)

  sound_left : IsLawful m → (w : World m) (r : m.Request) (t : Target m.Text m.Input m.Part m.Fault) → IsSound m w → IsSound m (left w r t)
  sound_left law w r Itself h = record {
    numbers = over.numbers;
    next = over.next;
    rolled = over.rolled;
    texts = over.texts;
  }
    where
      watches : List (ℕ × Watch m)
      watches = map_values (λ v. with_items m v (map (settled m w.site (m.roll (m.act w.site (numbers_of w.watches) r w.time).0)) v.items)) w.watches

      over : IsSound m (record { time = w.time; site = m.roll (m.act w.site (numbers_of w.watches) r w.time).0; next = w.next; watches = watches })
      over = record {
        numbers = rises_values (λ v. with_items m v (map (settled m w.site (m.roll (m.act w.site (numbers_of w.watches) r w.time).0)) v.items)) 0 w.next w.watches h.numbers;
        next = h.next;
        rolled = law.rolls_once (m.act w.site (numbers_of w.watches) r w.time).0;
        texts = all_values (λ u. Distinct m u.items) (λ u. Distinct m u.items) (λ v. with_items m v (map (settled m w.site (m.roll (m.act w.site (numbers_of w.watches) r w.time).0)) v.items)) (λ v d. distinct_map m (settled m w.site (m.roll (m.act w.site (numbers_of w.watches) r w.time).0)) (λ _. refl) v.items d) w.watches h.texts;
      }
  sound_left law w r Nowhere h = h
  sound_left law w r NewWatch h = go (is_full m (yielded m w)) refl
    where
      go : (b : Bool) → is_full m (yielded m w) ≡ b → let done : World m × Reply m = cond b (w, Refused m.too_many_watches) (made m (yielded m w), Told w.next first_lease m.whole) in IsSound m done.0
      go true full = h
      go false room = sound_made (yielded m w) room (sound_yielded w h)
  sound_left law w r (OneWatch n op) h = sound_on_watch law w n op (lookup n w.watches) refl h

  -- each step keeps it
  pub sound_step : IsLawful m → (w : World m) (e : Asking m) → IsSound m w → IsSound m (step m w e)
  sound_step law w e h = go e.answer
    where
      go : (a : Replied m) → IsSound m (left_by (act m) w e.request e.moment a)
      go NoMemory = h
      go (Done reply) = subst (IsSound m) (sym (step_left law w h e.request e.moment)) (sound_left law (begun m w e.moment) e.request (m.target e.request) (sound_begun w e.moment h))
