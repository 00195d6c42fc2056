-- What an object hands down, by what is given to it.
use Rattle.std.proofs.Common.{◌≡◌, ℕ, Bool, true, false, cond, List, [], ◌∷◌, ◌++◌, map, Option, Some, None, refl, sym, ap, ap₂, ◌∙◌, true≢false}
use Rattle.std.specs.Prelude.{is_some, option_and_then}
use Rattle.std.specs.Option.{option_copied}
use Rattle.ob_object.specs.declared.kind.Kind.{Kind}
use Rattle.ob_object.specs.declared.kind.Kind.TheVariants as kind
use Rattle.ob_object.specs.declared.head.Head.{Head}
use Rattle.ob_object.specs.Kinds.{is_ref, has_of}
use Rattle.ob_object.specs.Object.{Object, children}
use Rattle.ob_object.specs.WellFormed.{named}
use Rattle.ob_contracts.specs.Found.{Names, found}
use Rattle.ob_contracts.specs.Inherit.{Contracts, Words, contract_of, present, words_in, or_else, only_if, first_given, overridden, sources, inherited_head, implied_by}
use Rattle.ob_contracts.proofs.Dropped.{first-append}
use Rattle.ob_roles.specs.declared.given.Given.{Given}
use Rattle.ob_roles.specs.Given.{IsBase, contracts_in, found_by}
use Rattle.ob_roles.proofs.Taken.{implied_is, present_behind, else_none}

-- the first of two
pub or_first : (a b : Option Object) → is_some a ≡ true → a ≡ or_else a b
or_first None b h = absurd (true≢false (sym h))
or_first (Some x) b h = refl

pub or_second : (a b : Option Object) → is_some a ≡ false → b ≡ or_else a b
or_second None b h = refl
or_second (Some x) b h = absurd (true≢false h)

-- what is found by any name
pub by_name : (names : Names) (ss : List Object) → ((n : List ℕ) → found names n ≡ overridden (Some n) ss) → (n : Option (List ℕ)) → found_by names n ≡ overridden n ss
by_name names ss h None = refl
by_name names ss h (Some n) = h n

sources_if : (r : Bool) (xs : List (Option Object)) (o : Option Object) → present (cond r [] (xs ++ o ∷ [])) ≡ cond r [] (present xs ++ present (o ∷ []))
sources_if true xs o = refl
sources_if false xs o = present_behind xs o

-- the sources of an object, by what is given to it
sources_by : (lib : Contracts) (h : Head) (g : Given) (implied : Option Words) (o : Option Object) → IsBase g lib h implied
    → sources lib h implied o ≡ cond (is_ref h.kind) [] (contracts_in lib (option_copied g.words) ++ present (o ∷ []))
sources_by lib h g implied o k =
    sources_if (is_ref h.kind) (map (contract_of lib) (words_in (or_else h.is implied))) o
    ∙ ap (λ (w : Option Words). cond (is_ref h.kind) [] (contracts_in lib w ++ present (o ∷ []))) (sym k.words)

no_ref : (k : Kind) → has_of k ≡ true → is_ref k ≡ false
no_ref kind.Obj e = refl
no_ref kind.Bool e = refl
no_ref kind.Int e = refl
no_ref kind.Real e = refl
no_ref kind.Str e = refl
no_ref kind.Enum e = refl
no_ref kind.Uri e = refl
no_ref kind.Abstime e = refl
no_ref kind.Reltime e = refl
no_ref kind.Date e = refl
no_ref kind.Time e = refl
no_ref kind.List e = refl
no_ref kind.Op e = refl
no_ref kind.Feed e = refl
no_ref kind.Ref e = absurd (true≢false (sym e))
no_ref kind.Err e = refl

of_one : (o : Option Object) → first_given (λ s. s.head.of) (present (o ∷ [])) ≡ option_and_then (λ x. x.head.of) o
of_one None = refl
of_one (Some x) = else_none x.head.of

-- the words that a list or a feed gives
pub gives_is : (lib : Contracts) (h : Head) (g : Given) (implied : Option Words) (o : Option Object) → has_of h.kind ≡ true → IsBase g lib h implied
    → or_else h.of (or_else (option_copied g.of) (option_and_then (λ x. x.head.of) o)) ≡ implied_by (inherited_head h (sources lib h implied o))
gives_is lib h g implied o has k =
    let first : first_given (λ s. s.head.of) (sources lib h implied o) ≡ or_else (option_copied g.of) (option_and_then (λ x. x.head.of) o) =
    ap (first_given (λ s. s.head.of)) (sources_by lib h g implied o k ∙ ap (λ b. cond b [] (contracts_in lib (option_copied g.words) ++ present (o ∷ []))) (no_ref h.kind has))
    ∙ first-append (λ s. s.head.of) (contracts_in lib (option_copied g.words)) (present (o ∷ []))
    ∙ ap₂ (λ a b. or_else a b) (sym k.given.of) (of_one o) in
    ap (or_else h.of) (sym first)
    ∙ ap (λ b. only_if b (or_else h.of (first_given (λ s. s.head.of) (sources lib h implied o)))) (sym has)
    ∙ sym (implied_is h (sources lib h implied o))

-- and that another kind gives
pub gives_none : (h : Head) (ss : List Object) → has_of h.kind ≡ false → None ≡ implied_by (inherited_head h ss)
gives_none h ss has = ap (λ b. only_if b (inherited_head h ss).of) (sym has)

-- what is found where nothing is taken
none_taken : (r : Bool) (bs os : List Object) (over : Names) → r ≡ true → ((m : List ℕ) → found over m ≡ overridden (Some m) (cond r [] os)) → (n : Option (List ℕ)) → found_by over n ≡ overridden n (cond r [] (bs ++ os))
none_taken true bs os over e f None = refl
none_taken true bs os over e f (Some m) = f m
none_taken false bs os over e f n = absurd (true≢false (sym e))

-- what is found among the children of the contracts, and then of the child that is overridden
both_taken : (r : Bool) (bs os : List Object) (base over : Names) → r ≡ false → ((m : List ℕ) → found base m ≡ overridden (Some m) bs) → ((m : List ℕ) → found over m ≡ overridden (Some m) (cond r [] os)) → (n : Option (List ℕ))
    → or_else (found_by base n) (found_by over n) ≡ overridden n (cond r [] (bs ++ os))
both_taken true bs os base over e b f n = absurd (true≢false e)
both_taken false bs os base over e b f None = refl
both_taken false bs os base over e b f (Some m) = ap₂ (λ x y. or_else x y) (b m) (f m) ∙ sym (first-append (λ s. named m (children s)) bs os)

module _ (lib : Contracts) (h : Head) (g : Given) (implied : Option Words) (o : Option Object) (over : Names) (k : IsBase g lib h implied)
    (f : (m : List ℕ) → found over m ≡ overridden (Some m) (cond (is_ref h.kind) [] (present (o ∷ [])))) where
  pub above_ref : is_ref h.kind ≡ true → (n : Option (List ℕ)) → found_by over n ≡ overridden n (sources lib h implied o)
  above_ref e n =
      none_taken (is_ref h.kind) (contracts_in lib (option_copied g.words)) (present (o ∷ [])) over e f n ∙ ap (overridden n) (sym (sources_by lib h g implied o k))

  pub above_both : is_ref h.kind ≡ false → (n : Option (List ℕ)) → or_else (found_by g.names n) (found_by over n) ≡ overridden n (sources lib h implied o)
  above_both e n =
      both_taken (is_ref h.kind) (contracts_in lib (option_copied g.words)) (present (o ∷ [])) g.names over e k.given.names f n ∙ ap (overridden n) (sym (sources_by lib h g implied o k))
