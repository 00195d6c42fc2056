-- What is to be reported of a feed.
use Rattle.std.proofs.Common.{◌≡◌, ℕ, zero, suc, ◌+◌, ◌-◌, ◌<◌, ◌≤◌, Bool, true, false, cond, not, ◌&&◌, ◌||◌, List, [], ◌∷◌, map, length, drop, filter, refl, sym, ap, ap₂, ◌∙◌, arith}
use Rattle.std.specs.Prelude.{nat_lt, Option, None}
use Rattle.std.specs.List.{list_any}
use Rattle.std.proofs.lemmas.Bool.Decides.{nat_tests}
use Rattle.ob_times.specs.Times.{Instant}
use Rattle.ob_object.specs.Object as object
use Rattle.ob_object.specs.declared.kind.Kind.TheVariants as kind
use Rattle.ob_object.specs.declared.head.Slot.TheVariants.{Null}
use Rattle.ob_history.specs.Records.{is_after, is_before}
use Rattle.ob_history.specs.declared.records.Filter.{Filter}
use Rattle.ob_history.specs.declared.records.Record.{Record}
use Rattle.ob_site_rules.specs.Entries.{is_within}
use Rattle.ob_watch.specs.Feeds.{FeedLog, ever, has_news, passes_since}

abbrev Events : Type 0
Events = List object.Object

-- events that pass as their timestamps do
module _ (p : object.Object → Bool) (w : Instant → Bool) where
  pub as_many : (es : Events) (ts : List Instant) → map p es ≡ map w ts → length es ≡ length ts
  as_many [] [] same = refl
  as_many [] (t ∷ ts) same = absurd (let e : [] ≡ w t ∷ map w ts = same in cc)
  as_many (x ∷ es) [] same = absurd (let e : p x ∷ map p es ≡ [] = same in cc)
  as_many (x ∷ es) (t ∷ ts) same =
      let both : p x ∷ map p es ≡ w t ∷ map w ts = same in
      let rest : map p es ≡ map w ts = cc in
      ap suc (as_many es ts rest)

  pub any_same : (n : ℕ) (es : Events) (ts : List Instant) → map p es ≡ map w ts → list_any p (drop n es) ≡ list_any w (drop n ts)
  any_same zero [] [] same = refl
  any_same (suc n) [] [] same = refl
  any_same n [] (t ∷ ts) same = absurd (let e : [] ≡ w t ∷ map w ts = same in cc)
  any_same n (x ∷ es) [] same = absurd (let e : p x ∷ map p es ≡ [] = same in cc)
  any_same zero (x ∷ es) (t ∷ ts) same =
      let both : p x ∷ map p es ≡ w t ∷ map w ts = same in
      let first : p x ≡ w t = cc in
      let rest : map p es ≡ map w ts = cc in
      ap (λ b. b || list_any p es) first ∙ ap (λ b. w t || b) (any_same zero es ts rest)
  any_same (suc n) (x ∷ es) (t ∷ ts) same =
      let both : p x ∷ map p es ≡ w t ∷ map w ts = same in
      let rest : map p es ≡ map w ts = cc in
      any_same n es ts rest

-- what passes
module _ (p : object.Object → Bool) where
  pub none_pass : (es : Events) → list_any p es ≡ false → filter p es ≡ []
  none_pass [] none = refl
  none_pass (x ∷ xs) none = go (p x) none (none_pass xs)
    where
      go : (b : Bool) → (b || list_any p xs) ≡ false → (list_any p xs ≡ false → filter p xs ≡ []) → cond b (x ∷ filter p xs) (filter p xs) ≡ []
      go true none rest = absurd (let f : true ≡ false = none in cc)
      go false none rest = rest none

  pub some_pass : (es : Events) → list_any p es ≡ true → (y : object.Object) × ((ys : Events) × (filter p es ≡ y ∷ ys))
  some_pass [] some = absurd (let f : false ≡ true = some in cc)
  some_pass (x ∷ xs) some = go (p x) refl some (some_pass xs)
    where
      go : (b : Bool) → p x ≡ b → (b || list_any p xs) ≡ true → (list_any p xs ≡ true → (y : object.Object) × ((ys : Events) × (filter p xs ≡ y ∷ ys)))
          → (y : object.Object) × ((ys : Events) × (cond b (x ∷ filter p xs) (filter p xs) ≡ y ∷ ys))
      go true is some rest = (x, (filter p xs, refl))
      go false is some rest = rest some

-- ---- how it is told

drop_all : {A : Type 0} (es : List A) (n : ℕ) → length es ≤ n → drop n es ≡ []
drop_all [] zero le = refl
drop_all [] (suc n) le = refl
drop_all (x ∷ xs) zero le = absurd (omega arith)
drop_all (x ∷ xs) (suc n) le = drop_all xs n (omega arith)

-- where so many were reported as there were ever, there is none
pub news_none : (l : FeedLog) (given : ℕ) (f : Filter) → ever l ≤ given → has_news l given f ≡ false
news_none l given f le =
    let before : nat_lt given l.gone ≡ false = grind (arith, nat_tests) in
    ap (λ b. b || list_any (is_within f) (drop (given - l.gone) l.times)) before
    ∙ ap (list_any (is_within f)) (drop_all l.times (given - l.gone) (omega (arith, le)))

-- a filter without bounds passes each time
pub open_passes : (f : Filter) → f.start ≡ None → f.end ≡ None → (t : Instant) → is_within f t ≡ true
open_passes f start end t =
    let r : Record = record { time = t; kind = kind.Abstime; slot = Null } in
    ap₂ (λ (a b : Option Instant). not (is_before a r) && not (is_after b r)) start end

-- so whatever is left
all_within : (f : Filter) → ((t : Instant) → is_within f t ≡ true) → (ts : List Instant) (n : ℕ) → nat_lt n (length ts) ≡ true → list_any (is_within f) (drop n ts) ≡ true
all_within f each [] n lt = absurd (let no : nat_lt n 0 ≡ false = grind (arith, nat_tests) in let e : false ≡ true = sym no ∙ lt in cc)
all_within f each (t ∷ ts) zero lt = ap (λ b. b || list_any (is_within f) ts) (each t)
all_within f each (t ∷ ts) (suc n) lt = all_within f each ts n (let less : nat_lt n (length ts) ≡ true = grind (arith, nat_tests) in less)

or_true : (b : Bool) → (b || true) ≡ true
or_true true = refl
or_true false = refl

pub news_open : (l : FeedLog) (given all : ℕ) (f : Filter) → ((t : Instant) → is_within f t ≡ true) → all ≡ ever l → given < all → has_news l given f ≡ true
news_open l given all f each is less = go (nat_lt given l.gone) refl
  where
    go : (b : Bool) → nat_lt given l.gone ≡ b → (b || passes_since l given f) ≡ true
    go true before = refl
    go false before = all_within f each l.times (given - l.gone) (let some : nat_lt (given - l.gone) (length l.times) ≡ true = grind (arith, nat_tests) in some)
