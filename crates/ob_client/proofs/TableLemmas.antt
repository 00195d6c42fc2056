-- A list of what is held, and an index of its texts.
use Rattle.std.proofs.Common.{◌≡◌, ℕ, zero, suc, ◌+◌, ◌-◌, ◌<◌, ◌&&◌, ◌||◌, Bool, true, false, cond, not, List, [], ◌∷◌, ◌++◌, map, length, drop, take, get_or, refl, sym, ap, subst, ◌∙◌, drop-cons, add-one, true≢false, arith}
use Rattle.std.specs.Prelude.{Option, Some, None, is_some, slice_get, slice_set, option_map, option_and_then, String}
use Rattle.std.specs.BTreeMap.{BTreeMap, get_by_text}
use Rattle.std.specs.List.{filter}
use Rattle.std.specs.Str.{bytes_eq}
use Rattle.std.proofs.lemmas.Slice.Eq.{bytes_eq-Decides}
use Rattle.ob_values.proofs.Bools.{bool_same}
use Rattle.ob_watching.specs.Tables.{put, is_among}
use Rattle.ob_watching.specs.WatchOuts.{Text, Held}
use Rattle.ob_client.specs.Mirrors.{found}
use Rattle.ob_client.specs.Tables.{put_new, put_all, texts_of, place_of, stands_at, if_there, has_key, have_keys, IsIndex, KeepsIndex, KeepsKeys, Leads}

-- ---- texts

pub bytes_eq_sym : (a b : Text) → bytes_eq a b ≡ bytes_eq b a
bytes_eq_sym a b =
    bool_same (bytes_eq a b) (bytes_eq b a)
    (λ e. (bytes_eq-Decides b a).1 (sym ((bytes_eq-Decides a b).0 e)))
    (λ e. (bytes_eq-Decides a b).1 (sym ((bytes_eq-Decides b a).0 e)))

same_text : (t : Text) → bytes_eq t t ≡ true
same_text t = (bytes_eq-Decides t t).1 refl

-- ---- where a text stands

behind : {A : Type 0} (x : A) (xs : List A) (o : Option ℕ) → option_and_then (λ n. slice_get (x ∷ xs) n) (option_map suc o) ≡ option_and_then (λ n. slice_get xs n) o
behind x xs None = refl
behind x xs (Some n) = refl

-- what is found stands at the place of its text
pub found_at : (t : Text) (hs : List Held) → option_and_then (λ n. slice_get hs n) (place_of t (texts_of hs)) ≡ found t hs
found_at t [] = refl
found_at t (h ∷ hs) = go (bytes_eq t h.text) (found_at t hs)
  where
    go : (b : Bool) → option_and_then (λ n. slice_get hs n) (place_of t (texts_of hs)) ≡ found t hs
        → option_and_then (λ n. slice_get (h ∷ hs) n) (cond b (Some 0) (option_map suc (place_of t (texts_of hs)))) ≡ cond b (Some h) (found t hs)
    go true e = refl
    go false e = behind h hs (place_of t (texts_of hs)) ∙ e

-- what is found stands under the text
pub own_found : (t : Text) (hs : List Held) (v : Held) → found t hs ≡ Some v → t ≡ v.text
own_found t [] v e = absurd (let f : None ≡ Some v = e in cc)
own_found t (h ∷ hs) v e = go (bytes_eq t h.text) refl e (own_found t hs v)
  where
    go : (b : Bool) → bytes_eq t h.text ≡ b → cond b (Some h) (found t hs) ≡ Some v → (found t hs ≡ Some v → t ≡ v.text) → t ≡ v.text
    go true same e rest = (bytes_eq-Decides t h.text).0 same ∙ ap (λ (w : Held). w.text) (let f : h ≡ v = cc in f)
    go false same e rest = rest e

no_later : (o : Option ℕ) → option_map suc o ≡ None → o ≡ None
no_later None e = refl
no_later (Some n) e = absurd (let f : Some (suc n) ≡ None = e in cc)

-- a text without a place stands nowhere
pub nowhere : (t : Text) (ts : List Text) (n : ℕ) → place_of t ts ≡ None → stands_at t ts n ≡ false
nowhere t [] n e = refl
nowhere t (u ∷ ts) n e = go (bytes_eq t u) n refl e (λ m. nowhere t ts m)
  where
    go : (b : Bool) (n : ℕ) → bytes_eq t u ≡ b → cond b (Some 0) (option_map suc (place_of t ts)) ≡ None → ((m : ℕ) → place_of t ts ≡ None → stands_at t ts m ≡ false) → stands_at t (u ∷ ts) n ≡ false
    go true n same e rest = absurd (let f : Some 0 ≡ None = e in cc)
    go false zero same e rest = same
    go false (suc n) same e rest = rest n (no_later (place_of t ts) e)

-- and one with a place stands there
pub somewhere : (t : Text) (ts : List Text) (n : ℕ) → place_of t ts ≡ Some n → stands_at t ts n ≡ true
somewhere t [] n e = absurd (let f : None ≡ Some n = e in cc)
somewhere t (u ∷ ts) n e = go (bytes_eq t u) (place_of t ts) n refl refl e (λ m. somewhere t ts m)
  where
    go : (b : Bool) (o : Option ℕ) (n : ℕ) → bytes_eq t u ≡ b → place_of t ts ≡ o → cond b (Some 0) (option_map suc o) ≡ Some n → ((m : ℕ) → place_of t ts ≡ Some m → stands_at t ts m ≡ true) → stands_at t (u ∷ ts) n ≡ true
    go true o n same is e rest = ap (stands_at t (u ∷ ts)) (let f : n ≡ 0 = cc in f) ∙ same
    go false None n same is e rest = absurd (let f : None ≡ Some n = e in cc)
    go false (Some m) n same is e rest = ap (stands_at t (u ∷ ts)) (let f : n ≡ suc m = cc in f) ∙ rest m is

-- within the texts
pub within : (t : Text) (ts : List Text) (n : ℕ) → place_of t ts ≡ Some n → n < length ts
within t [] n e = absurd (let f : None ≡ Some n = e in cc)
within t (u ∷ ts) n e = go (bytes_eq t u) (place_of t ts) n refl e (λ m. within t ts m)
  where
    go : (b : Bool) (o : Option ℕ) (n : ℕ) → place_of t ts ≡ o → cond b (Some 0) (option_map suc o) ≡ Some n → ((m : ℕ) → place_of t ts ≡ Some m → m < length ts) → n < suc (length ts)
    go true o n is e rest = let zero_is : n ≡ 0 = cc in omega (arith, zero_is)
    go false None n is e rest = absurd (let f : None ≡ Some n = e in cc)
    go false (Some m) n is e rest = let one_more : n ≡ suc m = cc in omega (arith, one_more, rest m is)

no_place : (t : Text) (ts : List Text) (o : Option ℕ) → place_of t ts ≡ None → if_there t ts o ≡ None
no_place t ts None e = refl
no_place t ts (Some n) e = ap (λ b. cond b (Some n) None) (nowhere t ts n e)

one_place : (t : Text) (ts : List Text) (n : ℕ) → place_of t ts ≡ Some n → if_there t ts (Some n) ≡ Some n
one_place t ts n e = ap (λ b. cond b (Some n) None) (somewhere t ts n e)

later_or : (b d : Bool) (n : ℕ) (o : Option ℕ) → (b ≡ true → d ≡ false) → cond b (Some 0) (option_map suc (cond d (Some n) o)) ≡ cond d (Some (suc n)) (cond b (Some 0) (option_map suc o))
later_or true true n o h = absurd (true≢false (h refl))
later_or true false n o h = refl
later_or false true n o h = refl
later_or false false n o h = refl

-- a text that has none gets the place behind the others
pub place_last : (u : Text) (ts : List Text) → place_of u ts ≡ None → (t : Text) → place_of t (ts ++ u ∷ []) ≡ cond (bytes_eq u t) (Some (length ts)) (place_of t ts)
place_last u [] e t = ap (λ b. cond b (Some 0) None) (bytes_eq_sym t u)
place_last u (v ∷ ts) e t = go (bytes_eq u v) refl e (λ h. place_last u ts h t)
  where
    go : (b : Bool) → bytes_eq u v ≡ b → cond b (Some 0) (option_map suc (place_of u ts)) ≡ None → (place_of u ts ≡ None → place_of t (ts ++ u ∷ []) ≡ cond (bytes_eq u t) (Some (length ts)) (place_of t ts))
        → place_of t (v ∷ ts ++ u ∷ []) ≡ cond (bytes_eq u t) (Some (suc (length ts))) (place_of t (v ∷ ts))
    go true same e rest = absurd (let f : Some 0 ≡ None = e in cc)
    go false same e rest =
        ap (λ o. cond (bytes_eq t v) (Some 0) (option_map suc o)) (rest (no_later (place_of u ts) e))
        ∙ later_or (bytes_eq t v) (bytes_eq u t) (length ts) (place_of t ts) (λ h. ap (bytes_eq u) ((bytes_eq-Decides t v).0 h) ∙ same)

stands_last : (u : Text) (ts : List Text) → stands_at u (ts ++ u ∷ []) (length ts) ≡ true
stands_last u [] = same_text u
stands_last u (t ∷ ts) = stands_last u ts

stands_before : (t u : Text) (ts : List Text) (n : ℕ) → bytes_eq t u ≡ false → stands_at t (ts ++ u ∷ []) n ≡ stands_at t ts n
stands_before t u [] zero e = e
stands_before t u [] (suc n) e = refl
stands_before t u (v ∷ ts) zero e = refl
stands_before t u (v ∷ ts) (suc n) e = stands_before t u ts n e

there_before : (t u : Text) (ts : List Text) (o : Option ℕ) → bytes_eq t u ≡ false → if_there t (ts ++ u ∷ []) o ≡ if_there t ts o
there_before t u ts None e = refl
there_before t u ts (Some n) e = ap (λ b. cond b (Some n) None) (stands_before t u ts n e)

-- ---- writes of an index

module _ {Y : Type 0} (old new : BTreeMap (String Y) ℕ) where
  -- from a text that isn't there it may lead anywhere
  pub index_key : (u : Text) (n : ℕ) → Leads old new u n → has_key old u ≡ false → KeepsIndex old new
  index_key u n leads absent ts is t = go (bytes_eq u t) refl
    where
      none : get_by_text old u ≡ None
      none = gone (get_by_text old u) absent
        where
          gone : (o : Option ℕ) → is_some o ≡ false → o ≡ None
          gone None e = refl
          gone (Some n) e = absurd (true≢false e)

      placeless : place_of u ts ≡ None
      placeless = sym (is u) ∙ ap (if_there u ts) none

      go : (b : Bool) → bytes_eq u t ≡ b → if_there t ts (get_by_text new t) ≡ place_of t ts
      go true same =
          let e : place_of t ts ≡ None = ap (λ (w : Text). place_of w ts) (sym ((bytes_eq-Decides u t).0 same)) ∙ placeless in
          no_place t ts (get_by_text new t) e ∙ sym e
      go false same = ap (if_there t ts) (leads t ∙ ap (λ b. cond b (Some n) (get_by_text old t)) same) ∙ is t

  pub keys_led : (u : Text) (n : ℕ) → Leads old new u n → KeepsKeys old new
  keys_led u n leads t e = ap is_some (leads t) ∙ go (bytes_eq u t)
    where
      go : (b : Bool) → is_some (cond b (Some n) (get_by_text old t)) ≡ true
      go true = refl
      go false = e

  pub key_led : (u : Text) (n : ℕ) → Leads old new u n → has_key new u ≡ true
  key_led u n leads = ap is_some (leads u) ∙ ap (λ b. is_some (cond b (Some n) (get_by_text old u))) (same_text u)

  -- one text more, at its place
  pub index_last : (u : Text) (ts : List Text) → IsIndex old ts → place_of u ts ≡ None → Leads old new u (length ts) → IsIndex new (ts ++ u ∷ [])
  index_last u ts is absent leads t = go (bytes_eq u t) refl
    where
      go : (b : Bool) → bytes_eq u t ≡ b → if_there t (ts ++ u ∷ []) (get_by_text new t) ≡ place_of t (ts ++ u ∷ [])
      go true same =
          let here : t ≡ u = sym ((bytes_eq-Decides u t).0 same) in
          ap (if_there t (ts ++ u ∷ [])) (leads t ∙ ap (λ b. cond b (Some (length ts)) (get_by_text old t)) same)
          ∙ ap (λ b. cond b (Some (length ts)) None) (ap (λ (w : Text). stands_at w (ts ++ u ∷ []) (length ts)) here ∙ stands_last u ts)
          ∙ sym (place_last u ts absent t ∙ ap (λ b. cond b (Some (length ts)) (place_of t ts)) same)
      go false same =
          ap (if_there t (ts ++ u ∷ [])) (leads t ∙ ap (λ b. cond b (Some (length ts)) (get_by_text old t)) same)
          ∙ there_before t u ts (get_by_text old t) (bytes_eq_sym t u ∙ same)
          ∙ is t
          ∙ sym (place_last u ts absent t ∙ ap (λ b. cond b (Some (length ts)) (place_of t ts)) same)

-- ---- what is put among what stands under texts

module _ {A : Type 0} (text : A → Text) (new : A) where
  module _ (is : A → Bool) (same : (x : A) → is x ≡ bytes_eq (text new) (text x)) where
    -- in the place of the first that stands under its text
    pub put_there : (xs : List A) (n : ℕ) → place_of (text new) (map text xs) ≡ Some n → put is (λ _. new) new xs ≡ slice_set xs n new
    put_there [] n e = absurd (let f : None ≡ Some n = e in cc)
    put_there (x ∷ xs) n e = go (bytes_eq (text new) (text x)) (place_of (text new) (map text xs)) n (same x) refl e (λ m. put_there xs m)
      where
        go : (b : Bool) (o : Option ℕ) (n : ℕ) → is x ≡ b → place_of (text new) (map text xs) ≡ o → cond b (Some 0) (option_map suc o) ≡ Some n
            → ((m : ℕ) → place_of (text new) (map text xs) ≡ Some m → put is (λ _. new) new xs ≡ slice_set xs m new) → put is (λ _. new) new (x ∷ xs) ≡ slice_set (x ∷ xs) n new
        go true o n at there e rest =
            ap (λ b. cond b (new ∷ xs) (x ∷ put is (λ _. new) new xs)) at ∙ ap (λ (m : ℕ). slice_set (x ∷ xs) m new) (let f : 0 ≡ n = cc in f)
        go false None n at there e rest = absurd (let f : None ≡ Some n = e in cc)
        go false (Some m) n at there e rest =
            ap (λ b. cond b (new ∷ xs) (x ∷ put is (λ _. new) new xs)) at ∙ ap (λ (ys : List A). x ∷ ys) (rest m there) ∙ ap (λ (k : ℕ). slice_set (x ∷ xs) k new) (let f : suc m ≡ n = cc in f)

    -- or last
    pub put_last : (xs : List A) → place_of (text new) (map text xs) ≡ None → put is (λ _. new) new xs ≡ xs ++ new ∷ []
    put_last [] e = refl
    put_last (x ∷ xs) e = go (bytes_eq (text new) (text x)) (same x) e (put_last xs)
      where
        go : (b : Bool) → is x ≡ b → cond b (Some 0) (option_map suc (place_of (text new) (map text xs))) ≡ None → (place_of (text new) (map text xs) ≡ None → put is (λ _. new) new xs ≡ xs ++ new ∷ [])
            → put is (λ _. new) new (x ∷ xs) ≡ x ∷ xs ++ new ∷ []
        go true at e rest = absurd (let f : Some 0 ≡ None = e in cc)
        go false at e rest = ap (λ b. cond b (new ∷ xs) (x ∷ put is (λ _. new) new xs)) at ∙ ap (λ (ys : List A). x ∷ ys) (rest (no_later (place_of (text new) (map text xs)) e))

  pub texts_there : (xs : List A) (n : ℕ) → place_of (text new) (map text xs) ≡ Some n → map text (slice_set xs n new) ≡ map text xs
  texts_there [] n e = refl
  texts_there (x ∷ xs) n e = go (bytes_eq (text new) (text x)) (place_of (text new) (map text xs)) n refl refl e (λ m. texts_there xs m)
    where
      go : (b : Bool) (o : Option ℕ) (n : ℕ) → bytes_eq (text new) (text x) ≡ b → place_of (text new) (map text xs) ≡ o → cond b (Some 0) (option_map suc o) ≡ Some n
          → ((m : ℕ) → place_of (text new) (map text xs) ≡ Some m → map text (slice_set xs m new) ≡ map text xs) → map text (slice_set (x ∷ xs) n new) ≡ map text (x ∷ xs)
      go true o n at there e rest =
          ap (λ (m : ℕ). map text (slice_set (x ∷ xs) m new)) (let f : n ≡ 0 = cc in f) ∙ ap (λ (t : Text). t ∷ map text xs) ((bytes_eq-Decides (text new) (text x)).0 at)
      go false None n at there e rest = absurd (let f : None ≡ Some n = e in cc)
      go false (Some m) n at there e rest = ap (λ (k : ℕ). map text (slice_set (x ∷ xs) k new)) (let f : n ≡ suc m = cc in f) ∙ ap (λ (ts : List Text). text x ∷ ts) (rest m there)

  pub texts_last : (xs : List A) → map text (xs ++ new ∷ []) ≡ map text xs ++ text new ∷ []
  texts_last [] = refl
  texts_last (x ∷ xs) = ap (λ (ts : List Text). text x ∷ ts) (texts_last xs)

module _ {Y : Type 0} (old new : BTreeMap (String Y) ℕ) where
  -- what is put over what stands under its text keeps the index
  pub index_there : (x : Held) (hs : List Held) (n : ℕ) → IsIndex old (texts_of hs) → place_of x.text (texts_of hs) ≡ Some n → IsIndex old (texts_of (slice_set hs n x))
  index_there x hs n is at = subst (IsIndex old) (sym (texts_there (λ (h : Held). h.text) x hs n at)) is

  -- and what is put last, once the index leads to it
  pub index_behind : (x : Held) (hs : List Held) → IsIndex old (texts_of hs) → place_of x.text (texts_of hs) ≡ None → Leads old new x.text (length hs) → IsIndex new (texts_of (hs ++ x ∷ []))
  index_behind x hs is none leads =
      subst (IsIndex new) (sym (texts_last (λ (h : Held). h.text) x hs))
      (index_last old new x.text (texts_of hs) is none (λ t. leads t ∙ ap (λ (n : ℕ). cond (bytes_eq x.text t) (Some n) (get_by_text old t)) (sym (counted hs))))
    where
      counted : (xs : List Held) → length (texts_of xs) ≡ length xs
      counted [] = refl
      counted (y ∷ ys) = ap suc (counted ys)

-- ---- what is put one after the other

pub put_next : (items : List Held) (k : ℕ) (x : Held) (us vs : List Held) → k < length items → x ≡ get_or items k x → vs ≡ put_new x us
    → put_all (drop (k + 1) items) vs ≡ put_all (drop k items) us
put_next items k x us vs lt at e =
    ap (put_all (drop (k + 1) items)) e
    ∙ sym (ap (λ (xs : List Held). put_all xs us) (drop-cons items k x lt ∙ ap (λ (n : ℕ). get_or items k x ∷ drop n items) (sym (add-one k)) ∙ ap (λ (y : Held). y ∷ drop (k + 1) items) (sym at)))

drop_all : {A : Type 0} (items : List A) → drop (length items) items ≡ []
drop_all [] = refl
drop_all (x ∷ xs) = drop_all xs

pub put_done : (items : List Held) (k : ℕ) (us : List Held) → k ≡ length items → us ≡ put_all (drop k items) us
put_done items k us e = sym (ap (λ (xs : List Held). put_all xs us) (ap (λ n. drop n items) e ∙ drop_all items))

-- ---- the keys of an index

left_of : (a b : Bool) → (a && b) ≡ true → a ≡ true
left_of true b e = refl
left_of false b e = e

right_of : (a b : Bool) → (a && b) ≡ true → b ≡ true
right_of true b e = e
right_of false b e = absurd (true≢false (sym e))

both_of : (a b : Bool) → a ≡ true → b ≡ true → (a && b) ≡ true
both_of true b e f = f
both_of false b e f = e

module _ {Y : Type 0} (index : BTreeMap (String Y) ℕ) where
  pub key_at : (items : List Held) (k : ℕ) (x : Held) → k < length items → x ≡ get_or items k x → have_keys index (texts_of items) ≡ true → has_key index x.text ≡ true
  key_at [] k x lt at e = absurd (omega (arith, lt))
  key_at (h ∷ hs) zero x lt at e = ap (λ (y : Held). has_key index y.text) at ∙ left_of (has_key index h.text) (have_keys index (texts_of hs)) e
  key_at (h ∷ hs) (suc k) x lt at e = key_at hs k x (omega (arith, lt)) at (right_of (has_key index h.text) (have_keys index (texts_of hs)) e)

  keys_more : (items : List Held) (k : ℕ) (x : Held) → k < length items → x ≡ get_or items k x → have_keys index (texts_of (take k items)) ≡ true → has_key index x.text ≡ true
      → have_keys index (texts_of (take (suc k) items)) ≡ true
  keys_more [] k x lt at e new = absurd (omega (arith, lt))
  keys_more (h ∷ hs) zero x lt at e new = both_of (has_key index h.text) true (ap (λ (y : Held). has_key index y.text) (sym at) ∙ new) refl
  keys_more (h ∷ hs) (suc k) x lt at e new =
      both_of (has_key index h.text) (have_keys index (texts_of (take (suc k) hs))) (left_of (has_key index h.text) (have_keys index (texts_of (take k hs))) e)
      (keys_more hs k x (omega (arith, lt)) at (right_of (has_key index h.text) (have_keys index (texts_of (take k hs))) e) new)

  pub keys_next : (items : List Held) (k : ℕ) (x : Held) → k < length items → x ≡ get_or items k x → have_keys index (texts_of (take k items)) ≡ true → has_key index x.text ≡ true
      → have_keys index (texts_of (take (k + 1) items)) ≡ true
  keys_next items k x lt at e new = ap (λ n. have_keys index (texts_of (take n items))) (add-one k) ∙ keys_more items k x lt at e new

  key_there : (ts : List Text) → IsIndex index ts → (t : Text) → is_some (place_of t ts) ≡ true → has_key index t ≡ true
  key_there ts is t e = go (get_by_text index t) refl
    where
      go : (o : Option ℕ) → get_by_text index t ≡ o → is_some o ≡ true
      go None none = absurd (true≢false (sym e ∙ ap is_some (sym (is t) ∙ ap (if_there t ts) none)))
      go (Some n) some = refl

  has_place : (t : Text) (ts : List Text) → is_some (place_of t ts) ≡ is_among bytes_eq ts t
  has_place t [] = refl
  has_place t (u ∷ ts) = go (bytes_eq t u) (place_of t ts) (has_place t ts)
    where
      go : (b : Bool) (o : Option ℕ) → is_some o ≡ is_among bytes_eq ts t → is_some (cond b (Some 0) (option_map suc o)) ≡ (b || is_among bytes_eq ts t)
      go true o e = refl
      go false None e = e
      go false (Some n) e = e

  keys_among : (ts : List Text) → ((t : Text) → is_among bytes_eq ts t ≡ true → has_key index t ≡ true) → have_keys index ts ≡ true
  keys_among [] all = refl
  keys_among (t ∷ ts) all =
      both_of (has_key index t) (have_keys index ts) (all t (ap (λ b. b || is_among bytes_eq ts t) (same_text t)))
      (keys_among ts (λ u e. all u (later (bytes_eq u t) (is_among bytes_eq ts u) e)))
    where
      later : (a b : Bool) → b ≡ true → (a || b) ≡ true
      later true b e = refl
      later false b e = e

  keys_filter : (f : Held → Bool) (hs : List Held) → have_keys index (texts_of hs) ≡ true → have_keys index (texts_of (filter f hs)) ≡ true
  keys_filter f [] e = refl
  keys_filter f (h ∷ hs) e = go (f h) (keys_filter f hs (right_of (has_key index h.text) (have_keys index (texts_of hs)) e))
    where
      go : (b : Bool) → have_keys index (texts_of (filter f hs)) ≡ true → have_keys index (texts_of (cond b (h ∷ filter f hs) (filter f hs))) ≡ true
      go true rest = both_of (has_key index h.text) (have_keys index (texts_of (filter f hs))) (left_of (has_key index h.text) (have_keys index (texts_of hs)) e) rest
      go false rest = rest

  -- what is left of what is held has its keys
  pub keys_left : (f : Held → Bool) (hs left : List Held) → IsIndex index (texts_of hs) → left ≡ filter f hs → have_keys index (texts_of left) ≡ true
  keys_left f hs left is e =
      ap (λ (xs : List Held). have_keys index (texts_of xs)) e
      ∙ keys_filter f hs (keys_among (texts_of hs) (λ t among. key_there (texts_of hs) is t (has_place t (texts_of hs) ∙ among)))

pub keys_kept : {Y : Type 0} (old new : BTreeMap (String Y) ℕ) (ts : List Text) → KeepsKeys old new → have_keys old ts ≡ true → have_keys new ts ≡ true
keys_kept old new [] keeps e = refl
keys_kept old new (t ∷ ts) keeps e =
    both_of (has_key new t) (have_keys new ts) (keeps t (left_of (has_key old t) (have_keys old ts) e)) (keys_kept old new ts keeps (right_of (has_key old t) (have_keys old ts) e))

pub text_at : (hs : List Held) (k : ℕ) (h : Held) → k < length hs → h ≡ get_or hs k h → h.text ≡ get_or (texts_of hs) k h.text
text_at [] k h lt at = absurd (omega (arith, lt))
text_at (x ∷ hs) zero h lt at = ap (λ (y : Held). y.text) at
text_at (x ∷ hs) (suc k) h lt at = text_at hs k h (omega (arith, lt)) at

-- ---- an index made anew, from the last text to the first

-- from each of the texts behind so many it leads to its place
abbrev pub IsLed : {Y : Type 0} → BTreeMap (String Y) ℕ → ℕ → List Text → Type 0
IsLed index k ts = (t : Text) (n : ℕ) → place_of t (drop k ts) ≡ Some n → get_by_text index t ≡ Some (k + n)

pub led_none : {Y : Type 0} (index : BTreeMap (String Y) ℕ) (ts : List Text) → IsLed index (length ts) ts
led_none index ts t n e = absurd (let f : None ≡ Some n = sym (ap (place_of t) (drop_all ts)) ∙ e in cc)

pub led_more : {Y : Type 0} (old new : BTreeMap (String Y) ℕ) (k : ℕ) (ts : List Text) (u : Text) → IsLed old (suc k) ts → k < length ts → u ≡ get_or ts k u → Leads old new u k → IsLed new k ts
led_more old new k ts u led lt at leads t n e =
    go (bytes_eq t u) (place_of t (drop (suc k) ts)) refl refl (sym (ap (place_of t) (drop-cons ts k u lt ∙ ap (λ (v : Text). v ∷ drop (suc k) ts) (sym at))) ∙ e)
  where
    go : (b : Bool) (o : Option ℕ) → bytes_eq t u ≡ b → place_of t (drop (suc k) ts) ≡ o → cond b (Some 0) (option_map suc o) ≡ Some n → get_by_text new t ≡ Some (k + n)
    go true o same is f =
        leads t ∙ ap (λ b. cond b (Some k) (get_by_text old t)) (bytes_eq_sym u t ∙ same)
        ∙ ap (λ (m : ℕ). Some m) (let first : 0 ≡ n = cc in omega (arith, first))
    go false None same is f = absurd (let g : None ≡ Some n = f in cc)
    go false (Some m) same is f =
        leads t ∙ ap (λ b. cond b (Some k) (get_by_text old t)) (bytes_eq_sym u t ∙ same) ∙ led t m is
        ∙ ap (λ (i : ℕ). Some i) (let one : suc m ≡ n = cc in omega (arith, one))

pub index_led : {Y : Type 0} (index : BTreeMap (String Y) ℕ) (ts : List Text) → IsLed index 0 ts → IsIndex index ts
index_led index ts led t = go (place_of t ts) refl
  where
    go : (o : Option ℕ) → place_of t ts ≡ o → if_there t ts (get_by_text index t) ≡ o
    go None e = no_place t ts (get_by_text index t) e
    go (Some n) e = ap (if_there t ts) (led t n e ∙ ap (λ (m : ℕ). Some m) (omega arith)) ∙ one_place t ts n e

-- ---- what a remove leaves

abbrev pub stays : List Text → Held → Bool
stays texts h = not (is_among bytes_eq texts h.text)

gone : (texts : List Text) (t : Text) (hs : List Held) → is_among bytes_eq texts t ≡ true → place_of t (texts_of (filter (stays texts) hs)) ≡ None
gone texts t [] e = refl
gone texts t (h ∷ hs) e = go (is_among bytes_eq texts h.text) refl (gone texts t hs e)
  where
    apart : (b : Bool) → is_among bytes_eq texts h.text ≡ false → bytes_eq t h.text ≡ b → b ≡ false
    apart true off same = absurd (true≢false (sym e ∙ ap (is_among bytes_eq texts) ((bytes_eq-Decides t h.text).0 same) ∙ off))
    apart false off same = refl

    go : (b : Bool) → is_among bytes_eq texts h.text ≡ b → place_of t (texts_of (filter (stays texts) hs)) ≡ None → place_of t (texts_of (cond (not b) (h ∷ filter (stays texts) hs) (filter (stays texts) hs))) ≡ None
    go true off rest = rest
    go false off rest =
        ap (λ b. cond b (Some 0) (option_map suc (place_of t (texts_of (filter (stays texts) hs))))) (apart (bytes_eq t h.text) off refl)
        ∙ ap (option_map suc) rest

among_more : (texts : List Text) (k : ℕ) (x t : Text) → k < length texts → x ≡ get_or texts k x → is_among bytes_eq (take (suc k) texts) t ≡ (is_among bytes_eq (take k texts) t || bytes_eq t x)
among_more [] k x t lt at = absurd (omega (arith, lt))
among_more (y ∷ texts) zero x t lt at = ap (λ (z : Text). bytes_eq t z || false) (sym at) ∙ go (bytes_eq t x)
  where
    go : (b : Bool) → (b || false) ≡ b
    go true = refl
    go false = refl
among_more (y ∷ texts) (suc k) x t lt at = go (bytes_eq t y) (among_more texts k x t (omega (arith, lt)) at)
  where
    go : (b : Bool) → is_among bytes_eq (take (suc k) texts) t ≡ (is_among bytes_eq (take k texts) t || bytes_eq t x)
        → (b || is_among bytes_eq (take (suc k) texts) t) ≡ ((b || is_among bytes_eq (take k texts) t) || bytes_eq t x)
    go true e = refl
    go false e = e

-- a text that isn't among so many and the next is neither among those nor the next
pub not_among : (texts : List Text) (k : ℕ) (x t : Text) → k < length texts → x ≡ get_or texts k x → is_among bytes_eq (take (k + 1) texts) t ≡ false → (is_among bytes_eq (take k texts) t ≡ false) × (bytes_eq t x ≡ false)
not_among texts k x t lt at e =
    go (is_among bytes_eq (take k texts) t) (bytes_eq t x) (sym (ap (λ n. is_among bytes_eq (take n texts) t) (add-one k) ∙ among_more texts k x t lt at) ∙ e)
  where
    go : (a b : Bool) → (a || b) ≡ false → (a ≡ false) × (b ≡ false)
    go true b h = absurd (true≢false h)
    go false b h = (refl, h)

pub index_gone : {Y : Type 0} (old new : BTreeMap (String Y) ℕ) (texts : List Text) (hs left : List Held) → left ≡ filter (stays texts) hs → IsIndex old (texts_of left)
    → ((t : Text) → is_among bytes_eq texts t ≡ false → get_by_text new t ≡ get_by_text old t) → IsIndex new (texts_of left)
index_gone old new texts hs left e is same t = go (is_among bytes_eq texts t) refl
  where
    go : (b : Bool) → is_among bytes_eq texts t ≡ b → if_there t (texts_of left) (get_by_text new t) ≡ place_of t (texts_of left)
    go true there =
        let none : place_of t (texts_of left) ≡ None = ap (λ (xs : List Held). place_of t (texts_of xs)) e ∙ gone texts t hs there in
        no_place t (texts_of left) (get_by_text new t) none ∙ sym none
    go false there = ap (if_there t (texts_of left)) (same t there) ∙ is t
