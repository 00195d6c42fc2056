-- What is left of a list from a place on.
use Rattle.std.proofs.Common.{◌≡◌, ℕ, suc, ◌+◌, ◌<◌, List, [], ◌∷◌, map, length, drop, get_or, refl, sym, ap, ◌∙◌, add-one}
use Rattle.std.specs.List.{filter_map, cons_option}
use Rattle.std.specs.Prelude.{Option}
use Rattle.std.proofs.Math.Seq.{drop-cons}

pub rest_more : {A : Type 0} (xs : List A) (i : ℕ) (x : A) → i < length xs → x ≡ get_or xs i x → drop i xs ≡ x ∷ drop (i + 1) xs
rest_more xs i x h is = drop-cons xs i x h ∙ ap (λ y. y ∷ drop (suc i) xs) (sym is) ∙ rw add-one refl

pub filter_map-map : {A B C : Type 0} (f : B → Option C) (g : A → B) (xs : List A) → filter_map f (map g xs) ≡ filter_map (λ x. f (g x)) xs
filter_map-map f g [] = refl
filter_map-map f g (x ∷ xs) = ap (cons_option (f (g x))) (filter_map-map f g xs)
