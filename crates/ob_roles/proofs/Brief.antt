-- Contracts with few words at each part, in place of those with all.
use Rattle.std.proofs.Common.{◌≡◌, ℕ, Bool, true, false, cond, not, ◌&&◌, ◌||◌, codes, bytes_eq, List, [], ◌∷◌, ◌++◌, map, filter, reverse, find, Option, Some, None, option_map, refl, sym, ap, ap₂, ◌∙◌, subst}
use Rattle.std.specs.Prelude.{is_some, option_and_then}
use Rattle.std.proofs.lemmas.List.{reverse-append, map-append}
use Rattle.ob_object.specs.declared.head.Head.{Head}
use Rattle.ob_object.specs.Kinds.{is_ref, has_of}
use Rattle.ob_object.specs.Object.{Object, Objects, none, node, listed, in_row, children}
use Rattle.ob_object.specs.WellFormed.{named, is_taken}
use Rattle.ob_contracts.specs.Adding.{is_among}
use Rattle.ob_contracts.specs.Ancestry.{is_one, is_a, own_words}
use Rattle.ob_contracts.specs.Inherit.{Contracts, Words, contract_of, words_in, or_else, only_if, present, first_given, overridden, sources, inherited_head, implied_by, is_new, missing}
use Rattle.ob_contracts.proofs.Children.{named-map}
use Rattle.ob_contracts.proofs.Missing.{taken-append}
use Rattle.ob_roles.specs.Few.{few_words, brief_row, briefly, brief, brief_contracts}
use Rattle.ob_roles.specs.Kinds.{Known, word_is, Are, Tells}
use Rattle.ob_roles.proofs.Named.{Same, same_taken}
use Rattle.ob_roles.proofs.Taken.{implied_is}

or_map : {A B : Type 0} (f : A → B) (a b : Option A) → or_else (option_map f a) (option_map f b) ≡ option_map f (or_else a b)
or_map f None b = refl
or_map f (Some x) b = refl

module _ (whole : Contracts) where
  listed_brief : (r : Objects) → listed (brief_row whole r) ≡ map (brief whole) (listed r)
  listed_brief none = refl
  listed_brief (node h below rest) = ap (λ l. brief whole (record { head = h; inner = below }) ∷ l) (listed_brief rest)

  pub row_brief : (os : List Object) → brief_row whole (in_row os) ≡ in_row (map (brief whole) os)
  row_brief [] = refl
  row_brief (o ∷ os) = ap (node (brief whole o).head (brief whole o).inner) (row_brief os)

  -- sources that give the same, the first with few words at each part
  abbrev pub Likes : List Object → List Object → Type 0
  Likes [] [] = Unit {0}
  Likes [] (t ∷ ts) = ⊥
  Likes (s ∷ ss) [] = ⊥
  Likes (s ∷ ss) (t ∷ ts) = (s.head.of ≡ t.head.of) × ((s.inner ≡ brief_row whole t.inner) × Likes ss ts)

  pub of_like : (ss ts : List Object) → Likes ss ts → first_given (λ s. s.head.of) ss ≡ first_given (λ s. s.head.of) ts
  of_like [] [] k = refl
  of_like [] (t ∷ ts) k = absurd k
  of_like (s ∷ ss) [] k = absurd k
  of_like (s ∷ ss) (t ∷ ts) k = ap₂ (λ a b. or_else a b) k.0 (of_like ss ts k.1.1)

  pub gives_like : (h : Head) (ss ts : List Object) → Likes ss ts → implied_by (inherited_head h ss) ≡ implied_by (inherited_head h ts)
  gives_like h ss ts k = implied_is h ss ∙ ap (λ w. only_if (has_of h.kind) (or_else h.of w)) (of_like ss ts k) ∙ sym (implied_is h ts)

  kids : (s t : Object) → s.inner ≡ brief_row whole t.inner → children s ≡ map (brief whole) (children t)
  kids s t e = ap listed e ∙ listed_brief t.inner

  pub over_like : (n : Option (List ℕ)) (ss ts : List Object) → Likes ss ts → overridden n ss ≡ option_map (brief whole) (overridden n ts)
  over_like None ss ts k = refl
  over_like (Some n) [] [] k = refl
  over_like (Some n) [] (t ∷ ts) k = absurd k
  over_like (Some n) (s ∷ ss) [] k = absurd k
  over_like (Some n) (s ∷ ss) (t ∷ ts) k =
      ap₂ (λ a b. or_else a b) (ap (named n) (kids s t k.1.0) ∙ named-map (brief whole) (λ o. refl) n (children t)) (over_like (Some n) ss ts k.1.1)
      ∙ or_map (brief whole) (named n (children t)) (overridden (Some n) ts)

  -- the names of objects stay
  taken_brief : (n : List ℕ) (os : List Object) → is_taken (Some n) (map (brief whole) os) ≡ is_taken (Some n) os
  taken_brief n os = ap is_some (named-map (brief whole) (λ o. refl) n os) ∙ stays (named n os)
    where
      stays : (o : Option Object) → is_some (option_map (brief whole) o) ≡ is_some o
      stays None = refl
      stays (Some x) = refl

  pub same_brief : (os : List Object) → Same os (map (brief whole) os)
  same_brief os = λ n. sym (taken_brief n os)

  new_brief : (xs ys : List Object) → Same xs ys → (os : List Object) → filter (is_new xs) (map (brief whole) os) ≡ map (brief whole) (filter (is_new ys) os)
  new_brief xs ys s [] = refl
  new_brief xs ys s (o ∷ os) =
      ap₂ (λ b l. cond b (brief whole o ∷ l) l) (ap (λ b. is_some o.head.name && not b) (same_taken o.head.name xs ys s)) (new_brief xs ys s os)
      ∙ go (is_new ys o)
    where
      go : (b : Bool) → cond b (brief whole o ∷ map (brief whole) (filter (is_new ys) os)) (map (brief whole) (filter (is_new ys) os)) ≡ map (brief whole) (cond b (o ∷ filter (is_new ys) os) (filter (is_new ys) os))
      go true = refl
      go false = refl

  pub missing_like : (xs ys ss ts : List Object) → Same xs ys → Likes ss ts → missing xs ss ≡ map (brief whole) (missing ys ts)
  missing_like xs ys [] [] s k = refl
  missing_like xs ys [] (t ∷ ts) s k = absurd k
  missing_like xs ys (v ∷ ss) [] s k = absurd k
  missing_like xs ys (v ∷ ss) (t ∷ ts) s k =
      let there : children v ≡ map (brief whole) (children t) = kids v t k.1.0 in
      let more : Same (xs ++ children v) (ys ++ children t) = λ n.
      taken-append n xs (children v)
      ∙ ap₂ (λ a b. a || b) (s n) (ap (is_taken (Some n)) there ∙ taken_brief n (children t))
      ∙ sym (taken-append n ys (children t)) in
      ap₂ (λ a b. a ++ b) (ap (filter (is_new xs)) there ∙ new_brief xs ys s (children t)) (missing_like (xs ++ children v) (ys ++ children t) ss ts more k.1.1)
      ∙ sym (map-append (brief whole) (filter (is_new ys) (children t)) (missing (ys ++ children t) ts))

  contract_brief : (lib : Contracts) (w : List ℕ) → contract_of (brief_contracts whole lib) w ≡ option_map (λ o. briefly whole o.head.is o) (contract_of lib w)
  contract_brief [] w = refl
  contract_brief (c ∷ lib) w = go (bytes_eq c.0 w) (contract_brief lib w)
    where
      go : (b : Bool) → contract_of (brief_contracts whole lib) w ≡ option_map (λ o. briefly whole o.head.is o) (contract_of lib w)
          → option_map (λ (d : List ℕ × Object). d.1) (cond b (Some (c.0, briefly whole c.1.head.is c.1)) (find (λ d. bytes_eq d.0 w) (brief_contracts whole lib)))
          ≡ option_map (λ (o : Object). briefly whole o.head.is o) (option_map (λ (d : List ℕ × Object). d.1) (cond b (Some c) (find (λ d. bytes_eq d.0 w) lib)))
      go true e = refl
      go false e = e

  one_like : (p q : Option Object) (ss ts : List (Option Object)) → p ≡ option_map (λ o. briefly whole o.head.is o) q → Likes (present ss) (present ts) → Likes (present (p ∷ ss)) (present (q ∷ ts))
  one_like p None ss ts e k = subst (λ (o : Option Object). Likes (present (o ∷ ss)) (present ts)) (sym e) k
  one_like p (Some x) ss ts e k = subst (λ (o : Option Object). Likes (present (o ∷ ss)) (x ∷ present ts)) (sym e) (refl, (refl, k))

  over_alone : (o : Option Object) → Likes (present (option_map (brief whole) o ∷ [])) (present (o ∷ []))
  over_alone None = tt
  over_alone (Some x) = (refl, (refl, tt))

  words_like : (lib : Contracts) (ws : Words) (o : Option Object)
      → Likes (present (map (contract_of (brief_contracts whole lib)) ws ++ option_map (brief whole) o ∷ [])) (present (map (contract_of lib) ws ++ o ∷ []))
  words_like lib [] o = over_alone o
  words_like lib (w ∷ ws) o =
      one_like (contract_of (brief_contracts whole lib) w) (contract_of lib w) (map (contract_of (brief_contracts whole lib)) ws ++ option_map (brief whole) o ∷ []) (map (contract_of lib) ws ++ o ∷ [])
      (contract_brief lib w) (words_like lib ws o)

  -- what an object takes from
  pub sources_like : (lib : Contracts) (h : Head) (implied : Option Words) (o : Option Object) → Likes (sources (brief_contracts whole lib) h implied (option_map (brief whole) o)) (sources lib h implied o)
  sources_like lib h implied o = go (is_ref h.kind)
    where
      go : (b : Bool) → Likes (present (cond b [] (map (contract_of (brief_contracts whole lib)) (words_in (or_else h.is implied)) ++ option_map (brief whole) o ∷ [])))
          (present (cond b [] (map (contract_of lib) (words_in (or_else h.is implied)) ++ o ∷ [])))
      go true = tt
      go false = words_like lib (words_in (or_else h.is implied)) o

  one_brief : (cs : Contracts) (ws : Words) (asked : List ℕ) → is_one (brief_contracts whole cs) ws asked ≡ is_one cs ws asked
  one_brief [] ws asked = refl
  one_brief (c ∷ cs) ws asked =
      ap₂ (λ a b. a || (is_among c.0 ws && b)) (one_brief cs ws asked) (one_brief cs (words_in c.1.head.is) asked)

  reverse_brief : (cs : Contracts) → reverse (brief_contracts whole cs) ≡ brief_contracts whole (reverse cs)
  reverse_brief [] = refl
  reverse_brief (c ∷ cs) =
      let f : List ℕ × Object → List ℕ × Object = λ d. (d.0, briefly whole d.1.head.is d.1) in
      reverse-append (f c ∷ []) (map f cs) ∙ ap (λ l. l ++ f c ∷ []) (reverse_brief cs)
      ∙ sym (ap (map f) (reverse-append (c ∷ []) cs) ∙ map-append f (reverse cs) (c ∷ []))

  -- words are what they are
  pub is_brief : (lib : Contracts) (ws : Words) (asked : List ℕ) → is_a (brief_contracts whole lib) ws asked ≡ is_a lib ws asked
  is_brief lib ws asked = ap (λ l. is_one l ws asked) (reverse_brief lib) ∙ one_brief (reverse lib) ws asked

  pub tells_brief : (known : Known) (lib : Contracts) → Tells known lib → Tells known (brief_contracts whole lib)
  tells_brief known lib tells = λ w.
      let t : Are (word_is known w) lib (w ∷ []) = tells w in
      record {
        lobby = t.lobby ∙ sym (is_brief lib (w ∷ []) (codes "obix:Lobby"));
        point = t.point ∙ sym (is_brief lib (w ∷ []) (codes "obix:WritablePoint"));
        history = t.history ∙ sym (is_brief lib (w ∷ []) (codes "obix:History"));
        subject = t.subject ∙ sym (is_brief lib (w ∷ []) (codes "obix:AlarmSubject"));
      }

  -- one contract more
  pub brief_more : (lib : Contracts) (u : List ℕ) (o : Object) → brief_contracts whole (lib ++ (u, o) ∷ []) ≡ brief_contracts whole lib ++ (u, briefly whole o.head.is o) ∷ []
  brief_more lib u o = map-append (λ d. (d.0, briefly whole d.1.head.is d.1)) lib ((u, o) ∷ [])

  -- few of the words of an object are few of its own, where it has some
  pub own_few : (h : Head) (implied : Option Words) (o : Option Object) → is_some h.is ≡ true → option_map (few_words whole) h.is ≡ option_map (few_words whole) (own_words h implied o)
  own_few h implied o e = go h.is e
    where
      go : (w : Option Words) → is_some w ≡ true → option_map (few_words whole) w ≡ option_map (few_words whole) (or_else w (or_else implied (option_and_then (λ (x : Object). x.head.is) o)))
      go None e = cc
      go (Some ws) e = refl

  -- and else few of those that are given to it, or those of the child that it overrides, which has few
  pub given_few : (h : Head) (implied : Option Words) (o : Option Object) (g : Option Words) (p : Option Object) → is_some h.is ≡ false → g ≡ option_map (few_words whole) implied → p ≡ option_map (brief whole) o
      → own_words h g p ≡ option_map (few_words whole) (own_words h implied o)
  given_few h implied o g p e given over = go h.is e
    where
      few_over : (q : Option Object) → option_and_then (λ (x : Object). x.head.is) (option_map (brief whole) q) ≡ option_map (few_words whole) (option_and_then (λ (x : Object). x.head.is) q)
      few_over None = refl
      few_over (Some x) = refl

      go : (w : Option Words) → is_some w ≡ false
          → or_else w (or_else g (option_and_then (λ (x : Object). x.head.is) p)) ≡ option_map (few_words whole) (or_else w (or_else implied (option_and_then (λ (x : Object). x.head.is) o)))
      go None e =
          ap₂ (λ (a : Option Words) (q : Option Object). or_else a (option_and_then (λ (x : Object). x.head.is) q)) given over
          ∙ ap (or_else (option_map (few_words whole) implied)) (few_over o)
          ∙ or_map (few_words whole) implied (option_and_then (λ (x : Object). x.head.is) o)
      go (Some ws) e = cc
