-- Names that no object before has.
use Rattle.std.proofs.Common.{◌≡◌, ℕ, true, false, List, [], ◌∷◌, ◌++◌, refl, sym, subst, append_assoc}
use Rattle.std.specs.Prelude.{Option, Some, None, is_none}
use Rattle.std.specs.List.{list_all}
use Rattle.std.proofs.lemmas.List.{append-nil}
use Rattle.ob_values.proofs.Bools.{and_first, and_second, not_true}
use Rattle.ob_object.specs.Object.{Object}
use Rattle.ob_object.specs.WellFormed.{is_taken, NamesDiffer}
use Rattle.ob_object.proofs.Names.{NamesDiffer-more}
use Rattle.ob_times.specs.Times.{Instant}
use Rattle.ob_replies.specs.Names.{are_new}
use Rattle.ob_replies.specs.Queries.{counts_of, data_of}
use Rattle.ob_replies.specs.declared.query.Numbers.{Numbers}

differ_behind : (before os : List Object) → NamesDiffer before → are_new before os ≡ true → NamesDiffer (before ++ os)
differ_behind before [] differ e = subst NamesDiffer (sym (append-nil before)) differ
differ_behind before (o ∷ os) differ e =
    subst NamesDiffer (append_assoc before (o ∷ []) os)
    (differ_behind (before ++ o ∷ []) os (NamesDiffer-more before o differ (not_true _ (and_first _ _ e))) (and_second _ _ e))

-- the names of objects differ, where none has that of one before it
pub new_differ : (os : List Object) → are_new [] os ≡ true → NamesDiffer os
new_differ os e = differ_behind [] os tt e

is_none_taken : (n : Option (List ℕ)) (os : List Object) → is_none n ≡ true → is_taken n os ≡ false
is_none_taken None os h = refl
is_none_taken (Some n) os h = absurd (let e : false ≡ true = h in cc)

-- behind any objects, objects without names
pub nameless_behind : (before os : List Object) → list_all (λ o. is_none o.head.name) os ≡ true → are_new before os ≡ true
nameless_behind before [] h = refl
nameless_behind before (o ∷ os) h =
    rw (is_none_taken o.head.name before (and_first _ _ h)) (nameless_behind (before ++ o ∷ []) os (and_second _ _ h))

-- objects without names
pub nameless_new : (os : List Object) → list_all (λ o. is_none o.head.name) os ≡ true → are_new [] os ≡ true
nameless_new os h = nameless_behind [] os h

-- one object alone
pub one_new : (o : Object) → are_new [] (o ∷ []) ≡ true
one_new o = rw (not_among o.head.name) refl
  where
    not_among : (n : Option (List ℕ)) → is_taken n [] ≡ false
    not_among None = refl
    not_among (Some n) = refl

-- the names of what an answer to a query has differ
pub counts_new : (count : ℕ) (numbers : Option Numbers) (times : List Instant) (of : List ℕ) (os : List Object) → are_new [] (counts_of count numbers times ++ data_of of os ∷ []) ≡ true
counts_new count None times of os = refl
counts_new count (Some n) times of os = with_first n.gone n.first
  where
    with_first : (gone : ℕ) (first : Option ℕ) → are_new [] (counts_of count (Some (record { gone = gone; first = first })) times ++ data_of of os ∷ []) ≡ true
    with_first gone None = refl
    with_first gone (Some k) = refl
