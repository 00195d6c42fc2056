-- Facts of all elements of lists.
use Rattle.std.proofs.Common.{◌≡◌, ℕ, zero, suc, ◌<◌, Bool, true, false, cond, List, [], ◌∷◌, ◌++◌, map, length, filter, filter_map, flat_map, find, All, get_or, Option, Some, None, refl, sym, ap, ◌∙◌, subst, arith}
use Rattle.std.specs.List.{AllByRecursion, cons_option}

module _ {A : Type 0} (P : A → Type 0) where
  pub each_first : (xs ys : List A) → AllByRecursion P (xs ++ ys) → AllByRecursion P xs
  each_first [] ys e = tt
  each_first (x ∷ xs) ys e = (e.0, each_first xs ys e.1)

  pub each_second : (xs ys : List A) → AllByRecursion P (xs ++ ys) → AllByRecursion P ys
  each_second [] ys e = e
  each_second (x ∷ xs) ys e = each_second xs ys e.1

  pub each_both : (xs ys : List A) → AllByRecursion P xs → AllByRecursion P ys → AllByRecursion P (xs ++ ys)
  each_both [] ys a b = b
  each_both (x ∷ xs) ys a b = (a.0, each_both xs ys a.1 b)

  pub each_filter : (F : A → Bool) (xs : List A) → AllByRecursion P xs → AllByRecursion P (filter F xs)
  each_filter F [] e = tt
  each_filter F (x ∷ xs) e = go (F x) (each_filter F xs e.1)
    where
      go : (b : Bool) → AllByRecursion P (filter F xs) → AllByRecursion P (cond b (x ∷ filter F xs) (filter F xs))
      go true rest = (e.0, rest)
      go false rest = rest

  -- what is found, where all are so
  pub each_found : (F : A → Bool) (xs : List A) (x : A) → AllByRecursion P xs → find F xs ≡ Some x → P x × (F x ≡ true)
  each_found F [] x e h = absurd (let g : None ≡ Some x = h in cc)
  each_found F (y ∷ ys) x e h = go (F y) refl h (λ g. each_found F ys x e.1 g)
    where
      go : (b : Bool) → F y ≡ b → cond b (Some y) (find F ys) ≡ Some x → (find F ys ≡ Some x → P x × (F x ≡ true)) → P x × (F x ≡ true)
      go true is g later =
          let g2 : Some y ≡ Some x = g in
          let same : y ≡ x = cc in
          (subst P same e.0, ap F (sym same) ∙ is)
      go false is g later = later g

  pub all_places : (xs : List A) → AllByRecursion P xs → All P xs
  all_places [] e = λ k d h. absurd (omega arith)
  all_places (x ∷ xs) e = at_place (all_places xs e.1)
    where
      at_place : All P xs → (k : ℕ) (d : A) → k < length (x ∷ xs) → P (get_or (x ∷ xs) k d)
      at_place rest zero d h = e.0
      at_place rest (suc k) d h = rest k d (omega arith)

pub each_more : {A : Type 0} (P Q : A → Type 0) (xs : List A) → ((x : A) → P x → Q x) → AllByRecursion P xs → AllByRecursion Q xs
each_more P Q [] f e = tt
each_more P Q (x ∷ xs) f e = (f x e.0, each_more P Q xs f e.1)

pub each_two : {A : Type 0} (P Q : A → Type 0) (xs : List A) → AllByRecursion P xs → AllByRecursion Q xs → AllByRecursion (λ x. P x × Q x) xs
each_two P Q [] a b = tt
each_two P Q (x ∷ xs) a b = ((a.0, b.0), each_two P Q xs a.1 b.1)

module _ {A B : Type 0} (P : B → Type 0) where
  pub each_map : (f : A → B) (xs : List A) → AllByRecursion (λ x. P (f x)) xs → AllByRecursion P (map f xs)
  each_map f [] e = tt
  each_map f (x ∷ xs) e = (e.0, each_map f xs e.1)

  pub each_filter_map : (f : A → Option B) (xs : List A) → AllByRecursion (λ x. (y : B) → f x ≡ Some y → P y) xs → AllByRecursion P (filter_map f xs)
  each_filter_map f [] e = tt
  each_filter_map f (x ∷ xs) e = go (f x) refl (each_filter_map f xs e.1)
    where
      go : (o : Option B) → f x ≡ o → AllByRecursion P (filter_map f xs) → AllByRecursion P (cons_option o (filter_map f xs))
      go None is rest = rest
      go (Some y) is rest = (e.0 y is, rest)

  pub each_flat_map : (f : A → List B) (xs : List A) → AllByRecursion (λ x. AllByRecursion P (f x)) xs → AllByRecursion P (flat_map f xs)
  each_flat_map f [] e = tt
  each_flat_map f (x ∷ xs) e = each_both P (f x) (flat_map f xs) e.0 (each_flat_map f xs e.1)
