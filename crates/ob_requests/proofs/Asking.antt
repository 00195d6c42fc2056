-- What is asked for, read one after the other.
use Rattle.std.proofs.Common.{◌≡◌, ℕ, suc, ◌+◌, ◌<◌, cond, List, [], ◌∷◌, ◌++◌, length, take, drop, get_or, Option, Some, None, refl, sym, ap, ◌∙◌, drop-cons, add-one}
use Rattle.std.specs.Prelude.{codes, option_map, option_and_then}
use Rattle.std.proofs.lemmas.List.{take_more, take-append-drop}
use Rattle.ob_object.specs.Object.{Object}
use Rattle.ob_site_rules.specs.Build.{Text, child}
use Rattle.ob_site_rules.specs.Actions.{uri_of}
use Rattle.ob_site_rules.specs.Watched.{Asked, asked_items}
use Rattle.ob_requests.specs.Calls.{asked_of, holds_text, firsts_behind}

value_of : {A : Type 0} (a b : A) → Some a ≡ Some b → a ≡ b
value_of a b h = cc

abbrev paired : Object → Text → Asked
paired o text = (text, child (codes "in") o)

-- what one object asks for, before what others do
abbrev step : Option Text → Object → Option (List Asked) → Option (List Asked)
step u o rest = option_and_then (λ text. option_map (λ more. paired o text ∷ more) rest) u

step_none : (u : Option Text) (o : Object) → step u o None ≡ None
step_none None o = refl
step_none (Some t) o = refl

asked_push : (xs : List Object) (o : Object) (asked : List Asked) (a : Asked) → asked_items xs ≡ Some asked → asked_of o ≡ Some a → asked_items (xs ++ o ∷ []) ≡ Some (asked ++ a ∷ [])
asked_push [] o asked a h g = go (uri_of o) g
  where
    go : (u : Option Text) → option_map (paired o) u ≡ Some a → step u o (Some []) ≡ Some (asked ++ a ∷ [])
    go None g = absurd (cc)
    go (Some t) g = ap (λ (b : Asked). Some (b ∷ [])) (value_of _ _ g) ∙ ap (λ (bs : List Asked). Some (bs ++ a ∷ [])) (value_of _ _ h)
asked_push (x ∷ xs) o asked a h g = go (uri_of x) (asked_items xs) (λ more e. asked_push xs o more a e g) refl h
  where
    go : (u : Option Text) (r : Option (List Asked)) → ((more : List Asked) → asked_items xs ≡ Some more → asked_items (xs ++ o ∷ []) ≡ Some (more ++ a ∷ [])) → asked_items xs ≡ r → step u x r ≡ Some asked → step u x (asked_items (xs ++ o ∷ [])) ≡ Some (asked ++ a ∷ [])
    go None r rec e h = absurd (cc)
    go (Some t) None rec e h = absurd (cc)
    go (Some t) (Some more) rec e h = ap (step (Some t) x) (rec more e) ∙ ap (λ (bs : List Asked). Some (bs ++ a ∷ [])) (value_of _ _ h)

asked_none : (xs : List Object) (o : Object) (ys : List Object) → asked_of o ≡ None → asked_items (xs ++ o ∷ ys) ≡ None
asked_none [] o ys h = go (uri_of o) h
  where
    go : (u : Option Text) → option_map (paired o) u ≡ None → step u o (asked_items ys) ≡ None
    go None h = refl
    go (Some t) h = absurd (cc)
asked_none (x ∷ xs) o ys h = ap (step (uri_of x) x) (asked_none xs o ys h) ∙ step_none (uri_of x) x

-- the objects up to a place ask for this, and so does one more
pub asked_more : (os : List Object) (i : ℕ) (o : Object) (asked : List Asked) (a : Asked) → i < length os → o ≡ get_or os i o → asked_items (take i os) ≡ Some asked → asked_of o ≡ Some a → asked_items (take (i + 1) os) ≡ Some (asked ++ a ∷ [])
asked_more os i o asked a l at h g =
    ap asked_items (take_more os i o l ∙ ap (λ p. take i os ++ p ∷ []) (sym at)) ∙ asked_push (take i os) o asked a h g

pub asked_stop : (os : List Object) (i : ℕ) (o : Object) → i < length os → o ≡ get_or os i o → asked_of o ≡ None → asked_items os ≡ None
asked_stop os i o l at h =
    ap asked_items (sym (take-append-drop i os) ∙ ap (λ rest. take i os ++ rest) (drop-cons os i o l ∙ ap (λ p. p ∷ drop (suc i) os) (sym at)))
    ∙ asked_none (take i os) o (drop (suc i) os) h

-- one more of what is asked for
pub firsts_more : (kept asked : List Asked) (i : ℕ) (a : Asked) → i < length asked → a ≡ get_or asked i a → firsts_behind kept (drop i asked) ≡ firsts_behind (cond (holds_text kept a.0) kept (kept ++ a ∷ [])) (drop (i + 1) asked)
firsts_more kept asked i a l at =
    ap (firsts_behind kept) (drop-cons asked i a l ∙ ap (λ b. b ∷ drop (suc i) asked) (sym at))
    ∙ ap (λ k. firsts_behind (cond (holds_text kept a.0) kept (kept ++ a ∷ [])) (drop k asked)) (sym (add-one i))
