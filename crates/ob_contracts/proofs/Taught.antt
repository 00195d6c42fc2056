-- What is told in place of words gives the same as these.
use Rattle.std.proofs.Common.{◌≡◌, ℕ, ◌+◌, ◌<◌, Bool, true, false, ◌||◌, ◌&&◌, cond, List, [], ◌∷◌, ◌++◌, map, take, length, get_or, Option, Some, None, refl, sym, ap, ap₂, ◌∙◌, true≢false, append_assoc, subst}
use Rattle.std.specs.Prelude.{is_some, option_and_then, String, string_bytes}
use Rattle.std.specs.Option.{option_copied}
use Rattle.std.specs.Str.{bytes_eq}
use Rattle.std.specs.Ordering.{nat_cmp}
use Rattle.std.specs.Cmp.Lexicographic.{slice_cmp}
use Rattle.std.specs.BTreeMap.{is_at}
use Rattle.std.specs.Map.{lookup}
use Rattle.std.proofs.lemmas.Map.Text.{is_eq-slice_cmp}
use Rattle.std.proofs.lemmas.List.Folds.{list_any-append}
use Rattle.std.proofs.lemmas.Slice.Eq.{bytes_eq-Decides}
use Rattle.ob_values.proofs.Bools.{or_false}
use Rattle.ob_object.specs.declared.head.Head.{Head}
use Rattle.ob_object.specs.declared.kind.Kind.{Kind}
use Rattle.ob_object.specs.Kinds.{is_ref, same_kind}
use Rattle.ob_object.specs.Object.{Object, children}
use Rattle.ob_object.specs.WellFormed.{named, is_taken, has_name}
use Rattle.ob_contracts.specs.Inherit.{Contracts, Words, contract_of, words_in, or_else, overridden, places, present, inherited_head}
use Rattle.ob_contracts.specs.Parts.{has_part}
use Rattle.ob_contracts.specs.Places.{places_by, places_of, sources_by, sources_of, child_in, named_in, overridden_in}
use Rattle.ob_contracts.specs.Shown.{view_places, view_sources, looked_places, looked_sources}
use Rattle.ob_contracts.specs.Telling.{named_by, StandFor, has_one, tells_part}
use Rattle.ob_contracts.specs.Tellers.{Telling, TellsFor, TellsIn, HeadsFor, IsHeadTelling, AreWords, heads_in, child_by, told_child}
use Rattle.ob_contracts.specs.declared.lookup.Sources.{Sources}
use Rattle.ob_contracts.specs.declared.reading.View.{View}
use Rattle.ob_contracts.proofs.Dropped.{first-append, head_dropped, named_by-append, present-append}
use Rattle.ob_contracts.proofs.Heads.{head_told, taken_next}

-- where nothing is told
pub tells_none : (lib : Contracts) (ws : Option Words) → TellsIn lib None ws
tells_none lib ws = λ t e. absurd cc

-- and where something is
pub tells_some : (lib : Contracts) (t : Telling) (ws : Option Words) → TellsFor lib t (words_in ws) → TellsIn lib (Some t) ws
tells_some lib t ws e = λ x is. let same : t ≡ x = cc in subst (λ (y : Telling). TellsFor lib y (words_in ws)) same e

-- a head takes the same
heads_at : (lib : Contracts) (told : Option Telling) (ws : Option Words) → TellsIn lib told ws → HeadsFor lib (heads_in told ws) (words_in ws)
heads_at lib None ws e = λ h R. refl
heads_at lib (Some t) ws e = (e t refl).heads

pub heads_by : (lib : Contracts) (k : Kind) (told : Option Telling) (ws : Option Words) (over : Option Object) → TellsIn lib told ws → (h : Head)
    → inherited_head h (sources_by lib k (heads_in told ws) over) ≡ inherited_head h (sources_by lib k (words_in ws) over)
heads_by lib k told ws over e h = go (is_ref k)
  where
    go : (r : Bool) → inherited_head h (present (cond r [] (map (contract_of lib) (heads_in told ws) ++ over ∷ []))) ≡ inherited_head h (present (cond r [] (map (contract_of lib) (words_in ws) ++ over ∷ [])))
    go true = refl
    go false =
        ap (inherited_head h) (present-append (map (contract_of lib) (heads_in told ws)) (over ∷ []))
        ∙ heads_at lib told ws e h (present (over ∷ []))
        ∙ sym (ap (inherited_head h) (present-append (map (contract_of lib) (words_in ws)) (over ∷ [])))

-- so a view's does
pub looked_heads : (v : View) (h : Head) → inherited_head h (looked_sources v) ≡ inherited_head h (view_sources v)
unfolding looked_places view_places
looked_heads v h = go v.as_it_stands
  where
    lib : Contracts
    lib = v.library.now

    told : Option Telling
    told = option_copied v.told

    words : Option Words
    words = or_else v.own.now.head.is (option_copied v.implied)

    go : (b : Bool) → inherited_head h (present (cond b [] (places_by lib v.own.now.head.kind (heads_in told words) (option_copied v.over)))) ≡ inherited_head h (present (cond b [] (places_by lib v.own.now.head.kind (words_in words) (option_copied v.over))))
    go true = refl
    go false = heads_by lib v.own.now.head.kind told words (option_copied v.over) v.stand h

-- and a child of a name is the same
child_told : (lib : Contracts) (k : Kind) (t : Telling) (ws : Words) (over : Option Object) → TellsFor lib t ws → (n : List ℕ)
    → cond (is_ref k) None (or_else (told_child lib t n) (overridden (Some n) (present (over ∷ [])))) ≡ overridden (Some n) (sources_by lib k ws over)
child_told lib k t ws over e n = go (is_ref k)
  where
    go : (r : Bool) → cond r None (or_else (told_child lib t n) (overridden (Some n) (present (over ∷ [])))) ≡ overridden (Some n) (present (cond r [] (map (contract_of lib) ws ++ over ∷ [])))
    go true = refl
    go false =
        ap (λ (o : Option Object). or_else o (overridden (Some n) (present (over ∷ [])))) (e.names n)
        ∙ sym (first-append (λ o. named n (children o)) (named_by lib ws) (present (over ∷ [])))
        ∙ sym (ap (overridden (Some n)) (present-append (map (contract_of lib) ws) (over ∷ [])))

pub over_told : (lib : Contracts) (k : Kind) (t : Telling) (ws : Words) (over : Option Object) (s : Sources) → TellsFor lib t ws
    → ((n : List ℕ) → child_in s n ≡ cond (is_ref k) None (or_else (told_child lib t n) (overridden (Some n) (present (over ∷ [])))))
    → (n : Option (List ℕ)) → overridden_in s n ≡ overridden n (sources_by lib k ws over)
over_told lib k t ws over s e child None = refl
over_told lib k t ws over s e child (Some n) = child n ∙ child_told lib k t ws over e n

-- where nothing is told, it is looked for by all of the words
pub over_untold : (s : Sources) (ps : List (Option Object)) → option_copied s.told ≡ None → places_of s ≡ ps → (n : Option (List ℕ)) → overridden_in s n ≡ overridden n (present ps)
over_untold s ps none is None = refl
over_untold s ps none is (Some n) = untold (option_copied s.told) none ∙ ap (λ (l : List (Option Object)). overridden (Some n) (present l)) is
  where
    untold : (t : Option Telling) → t ≡ None → named_in s.library.now t (sources_of s) (option_copied s.over) n ≡ overridden (Some n) (sources_of s)
    untold None e = refl
    untold (Some t) e = absurd cc

-- a word more that names a contract
named_last : (lib : Contracts) (ws : Words) (w : List ℕ) (c : Object) → contract_of lib w ≡ Some c → named_by lib (ws ++ w ∷ []) ≡ named_by lib ws ++ c ∷ []
named_last lib ws w c is = named_by-append lib ws (w ∷ []) ∙ ap (λ o. named_by lib ws ++ present (o ∷ [])) is

named_more : (lib : Contracts) (ws : Words) (w : List ℕ) (c : Object) (R : List Object) → contract_of lib w ≡ Some c → named_by lib (ws ++ w ∷ []) ++ R ≡ named_by lib ws ++ c ∷ R
named_more lib ws w c R is =
    ap (λ (l : List Object). l ++ R) (named_last lib ws w c is) ∙ append_assoc (named_by lib ws) (c ∷ []) R

-- and one that names none
named_none : (lib : Contracts) (ws : Words) (w : List ℕ) → contract_of lib w ≡ None → named_by lib (ws ++ w ∷ []) ≡ named_by lib ws
named_none lib ws w gone = named_by-append lib ws (w ∷ []) ∙ ap (λ o. named_by lib ws ++ present (o ∷ [])) gone ∙ append_none (named_by lib ws)
  where
    append_none : (xs : List Object) → xs ++ [] ≡ xs
    append_none [] = refl
    append_none (x ∷ xs) = ap (λ l. x ∷ l) (append_none xs)

-- before the first word nothing is told
pub heads_begun : (lib : Contracts) (telling : Words) (H : List Object) → telling ≡ [] → H ≡ [] → IsHeadTelling lib telling [] H
heads_begun lib telling H fresh none = record {
  stand = λ h R. ap (λ (ws : Words). inherited_head h (named_by lib ws ++ R)) fresh;
  knows = λ k p e. absurd (true≢false (sym (ap (λ (l : List Object). has_one l k p) (sym none) ∙ e)));
}

module _ (lib : Contracts) (telling looked : Words) (w : List ℕ) (H : List Object) (s : IsHeadTelling lib telling looked H) where
  pub heads_none : contract_of lib w ≡ None → IsHeadTelling lib telling (looked ++ w ∷ []) H
  heads_none gone = record {
    stand = λ h R. s.stand h R ∙ ap (λ (l : List Object). inherited_head h (l ++ R)) (sym (named_none lib looked w gone));
    knows = s.knows;
  }

  either : (a b c : Bool) → (a ≡ true → c ≡ true) → (b ≡ true → c ≡ true) → (a || b) ≡ true → c ≡ true
  either true b c f g h = f refl
  either false b c f g h = g h

  or_first : (a b : Bool) → a ≡ true → (a || b) ≡ true
  or_first true b h = refl
  or_first false b h = absurd (true≢false (sym h))

  or_second : (a b : Bool) → b ≡ true → (a || b) ≡ true
  or_second true b h = refl
  or_second false b h = h

  -- where the contract tells something, its word is put
  pub heads_new : (c : Object) (G : List Object) → contract_of lib w ≡ Some c → G ≡ H ++ c ∷ [] → IsHeadTelling lib (telling ++ w ∷ []) (looked ++ w ∷ []) G
  heads_new c G is put = record {
    stand = λ h R.
        ap (inherited_head h) (named_more lib telling w c R is) ∙ s.stand h (c ∷ R) ∙ sym (ap (inherited_head h) (named_more lib looked w c R is));
    knows = λ k p e.
        let one : Object → Bool = λ x. same_kind x.head.kind k && has_part p x in
        ap (λ (l : List Object). has_one l k p) (named_last lib telling w c is)
        ∙ list_any-append one (named_by lib telling) (c ∷ [])
        ∙ either (has_one H k p) (has_one (c ∷ []) k p) (has_one (named_by lib telling) k p || has_one (c ∷ []) k p)
        (λ a. or_first (has_one (named_by lib telling) k p) (has_one (c ∷ []) k p) (s.knows k p a))
        (λ b. or_second (has_one (named_by lib telling) k p) (has_one (c ∷ []) k p) b)
        (sym (list_any-append one H (c ∷ [])) ∙ ap (λ (l : List Object). has_one l k p) (sym put) ∙ e);
  }

  -- and else it isn't
  pub heads_old : (c : Object) (G : List Object) → contract_of lib w ≡ Some c → tells_part H c ≡ false → G ≡ H ++ [] → IsHeadTelling lib telling (looked ++ w ∷ []) G
  heads_old c G is tells put = record {
    stand = λ h R.
        sym (head_dropped h (named_by lib telling) c R (head_told (named_by lib telling) H c s.knows tells))
        ∙ s.stand h (c ∷ R)
        ∙ sym (ap (inherited_head h) (named_more lib looked w c R is));
    knows = λ k p e.
        s.knows k p (subst (λ (l : List Object). has_one l k p ≡ true) (put ∙ append_none H) e);
  }
    where
      append_none : (xs : List Object) → xs ++ [] ≡ xs
      append_none [] = refl
      append_none (x ∷ xs) = ap (λ l. x ∷ l) (append_none xs)

-- the word of a text in a map
pub word_is : {Y : Type 0} (es : List (String Y × List ℕ)) (n : List ℕ)
    → lookup (is_at (λ (k : String Y). slice_cmp nat_cmp n (string_bytes k))) es ≡ lookup (bytes_eq n) (map (λ (e : String Y × List ℕ). (string_bytes e.0, e.1)) es)
word_is [] n = refl
word_is (e ∷ es) n =
    ap₂ (λ (b : Bool) (r : Option (List ℕ)). cond b (Some e.1) r) (is_eq-slice_cmp n (string_bytes e.0)) (word_is es n)

-- before the first word no name has one
pub words_begun : (lib : Contracts) (known : List ℕ → Option (List ℕ)) → ((n : List ℕ) → known n ≡ None) → AreWords lib known []
words_begun lib known none = record {
  gives = λ n. ap (option_and_then (child_by lib n)) (none n);
  there = λ n. ap is_some (none n);
}

-- one word more, of an object that has a child of the name or not
word_more : (f : List ℕ → Option Object) (w : List ℕ) (g : Option (List ℕ)) (v x : Option Object) → option_and_then f g ≡ v → is_some g ≡ is_some v → f w ≡ x
    → (option_and_then f (or_else g (cond (is_some x) (Some w) None)) ≡ or_else v x) × (is_some (or_else g (cond (is_some x) (Some w) None)) ≡ is_some (or_else v x))
word_more f w None None None e s is = (refl, refl)
word_more f w None None (Some x) e s is = (is, refl)
word_more f w None (Some y) x e s is = absurd (true≢false (sym s))
word_more f w (Some g) None x e s is = absurd (true≢false s)
word_more f w (Some g) (Some y) x e s is = (e, refl)

pub words_more : (lib : Contracts) (old new : List ℕ → Option (List ℕ)) (looked : Words) (w : List ℕ) (c : Object) → contract_of lib w ≡ Some c
    → ((n : List ℕ) → new n ≡ or_else (old n) (cond (is_taken (Some n) (children c)) (Some w) None)) → AreWords lib old (named_by lib looked) → AreWords lib new (named_by lib (looked ++ w ∷ []))
words_more lib old new looked w c is put held = record {
  gives = λ n. ap (option_and_then (child_by lib n)) (put n) ∙ (more n).0 ∙ sym (all n);
  there = λ n. ap is_some (put n) ∙ (more n).1 ∙ sym (ap is_some (all n));
}
  where
    none_or : (o : Option Object) → or_else o None ≡ o
    none_or None = refl
    none_or (Some x) = refl

    more : (n : List ℕ) → (option_and_then (child_by lib n) (or_else (old n) (cond (is_taken (Some n) (children c)) (Some w) None)) ≡ or_else (overridden (Some n) (named_by lib looked)) (named n (children c)))
        × (is_some (or_else (old n) (cond (is_taken (Some n) (children c)) (Some w) None)) ≡ is_some (or_else (overridden (Some n) (named_by lib looked)) (named n (children c))))
    more n =
        word_more (child_by lib n) w (old n) (overridden (Some n) (named_by lib looked)) (named n (children c)) (held.gives n) (held.there n) (ap (option_and_then (λ (o : Object). named n (children o))) is)

    all : (n : List ℕ) → overridden (Some n) (named_by lib (looked ++ w ∷ [])) ≡ or_else (overridden (Some n) (named_by lib looked)) (named n (children c))
    all n =
        ap (overridden (Some n)) (named_last lib looked w c is)
        ∙ first-append (λ o. named n (children o)) (named_by lib looked) (c ∷ [])
        ∙ ap (or_else (overridden (Some n) (named_by lib looked))) (none_or (named n (children c)))

pub words_none : (lib : Contracts) (known : List ℕ → Option (List ℕ)) (looked : Words) (w : List ℕ) → contract_of lib w ≡ None → AreWords lib known (named_by lib looked) → AreWords lib known (named_by lib (looked ++ w ∷ []))
words_none lib known looked w gone held = subst (λ (l : List Object). AreWords lib known l) (sym (named_none lib looked w gone)) held

-- what is told by words that stand for others is told for these
pub tells_all : (lib : Contracts) (t : Telling) (all ws : Words) → t.all ≡ all → HeadsFor lib t.heads all → ((n : List ℕ) → told_child lib t n ≡ overridden (Some n) (named_by lib all)) → StandFor lib all ws → TellsFor lib t ws
tells_all lib t all ws is heads names e = record {
  all = subst (λ (l : Words). StandFor lib l ws) (sym is) e;
  heads = λ h R. heads h R ∙ (e R).head h;
  names = λ n.
      names n
      ∙ ap (overridden (Some n)) (sym (append_none (named_by lib all)))
      ∙ (e []).over (Some n)
      ∙ ap (overridden (Some n)) (append_none (named_by lib ws));
}
  where
    append_none : (xs : List Object) → xs ++ [] ≡ xs
    append_none [] = refl
    append_none (x ∷ xs) = ap (λ l. x ∷ l) (append_none xs)

-- a view that stands as it is has no sources
pub view_stands : (v : View) → v.as_it_stands ≡ true → view_places v ≡ []
unfolding view_places
view_stands v is = ap (λ (b : Bool). cond b [] (places v.library.now v.own.now.head (option_copied v.implied) (option_copied v.over))) is

-- and another has those of its words
pub view_looks : (v : View) (ws : Option Words) → ws ≡ or_else v.own.now.head.is (option_copied v.implied) → v.as_it_stands ≡ false → view_places v ≡ places_by v.library.now v.own.now.head.kind (words_in ws) (option_copied v.over)
unfolding view_places
view_looks v ws words is =
    ap (λ (b : Bool). cond b [] (places v.library.now v.own.now.head (option_copied v.implied) (option_copied v.over))) is
    ∙ sym (ap (λ (x : Option Words). places_by v.library.now v.own.now.head.kind (words_in x) (option_copied v.over)) words)

-- the child of a name in one object
pub one_source : (n : List ℕ) (o : Object) → overridden (Some n) (present (Some o ∷ [])) ≡ named n (children o)
one_source n o = none_or (named n (children o))
  where
    none_or : (x : Option Object) → or_else x None ≡ x
    none_or None = refl
    none_or (Some y) = refl

-- a word for a name that has one, and for one that has none
pub word_kept : {A : Type 0} (old : List ℕ → Option A) (name : List ℕ) (w : A) → is_some (old name) ≡ true → (n : List ℕ) → old n ≡ or_else (old n) (cond (bytes_eq name n) (Some w) None)
word_kept {A} old name w there n = go (bytes_eq name n) refl (old n) refl
  where
    go : (b : Bool) → bytes_eq name n ≡ b → (o : Option A) → old n ≡ o → o ≡ or_else o (cond b (Some w) None)
    go b e (Some x) is = refl
    go false e None is = refl
    go true e None is = absurd (true≢false (sym there ∙ ap (λ (m : List ℕ). is_some (old m)) ((bytes_eq-Decides name n).0 e) ∙ ap is_some is))

pub word_put : {A : Type 0} (old : List ℕ → Option A) (name : List ℕ) (w : A) → is_some (old name) ≡ false → (n : List ℕ) → cond (bytes_eq name n) (Some w) (old n) ≡ or_else (old n) (cond (bytes_eq name n) (Some w) None)
word_put {A} old name w gone n = go (bytes_eq name n) refl (old n) refl
  where
    go : (b : Bool) → bytes_eq name n ≡ b → (o : Option A) → old n ≡ o → cond b (Some w) o ≡ or_else o (cond b (Some w) None)
    go true e None is = refl
    go false e None is = refl
    go false e (Some x) is = refl
    go true e (Some x) is = absurd (true≢false (sym (ap is_some is) ∙ sym (ap (λ (m : List ℕ). is_some (old m)) ((bytes_eq-Decides name n).0 e)) ∙ gone))

-- words for the names of the children up to a place
pub words_start : (old : Option (List ℕ)) (w : List ℕ) → old ≡ or_else old (cond false (Some w) None)
words_start None w = refl
words_start (Some x) w = refl

next_word : (old : Option (List ℕ)) (w : List ℕ) (a b : Bool) → or_else (or_else old (cond a (Some w) None)) (cond b (Some w) None) ≡ or_else old (cond (a || b) (Some w) None)
next_word (Some x) w a b = refl
next_word None w true b = refl
next_word None w false b = refl

pub words_next : (old now : Option (List ℕ)) (w n : List ℕ) (cs : List Object) (i : ℕ) (x : Object) (m : List ℕ) → i < length cs → x ≡ get_or cs i x → Some m ≡ x.head.name
    → now ≡ or_else old (cond (is_taken (Some n) (take i cs)) (Some w) None) → or_else now (cond (bytes_eq m n) (Some w) None) ≡ or_else old (cond (is_taken (Some n) (take (i + 1) cs)) (Some w) None)
words_next old now w n cs i x m h is name held =
    ap (λ (o : Option (List ℕ)). or_else o (cond (bytes_eq m n) (Some w) None)) held
    ∙ next_word old w (is_taken (Some n) (take i cs)) (bytes_eq m n)
    ∙ ap (λ (k : Option (List ℕ)). or_else old (cond (is_taken (Some n) (take i cs) || has_name n k) (Some w) None)) name
    ∙ sym (ap (λ (b : Bool). or_else old (cond b (Some w) None)) (taken_next n cs i x h is))

pub words_pass : (old now : Option (List ℕ)) (w n : List ℕ) (cs : List Object) (i : ℕ) (x : Object) → i < length cs → x ≡ get_or cs i x → None ≡ x.head.name
    → now ≡ or_else old (cond (is_taken (Some n) (take i cs)) (Some w) None) → now ≡ or_else old (cond (is_taken (Some n) (take (i + 1) cs)) (Some w) None)
words_pass old now w n cs i x h is nameless held =
    held
    ∙ ap (λ (b : Bool). or_else old (cond b (Some w) None)) (sym (or_false (is_taken (Some n) (take i cs))) ∙ ap (λ (k : Option (List ℕ)). is_taken (Some n) (take i cs) || has_name n k) nameless ∙ sym (taken_next n cs i x h is))

-- an empty map has no word
pub none_there : {Y : Type 0} (es : List (String Y × List ℕ)) → es ≡ [] → (n : List ℕ) → lookup (is_at (λ (k : String Y). slice_cmp nat_cmp n (string_bytes k))) es ≡ None
none_there es empty n = ap (lookup (is_at (λ k. slice_cmp nat_cmp n (string_bytes k)))) empty
