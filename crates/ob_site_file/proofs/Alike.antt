-- What words are, by contracts with the words of their parts and by the results of contracts.
use Rattle.std.proofs.Common.{◌≡◌, ℕ, ◌&&◌, ◌||◌, codes, List, [], ◌∷◌, ◌++◌, Option, Some, None, refl, sym, ap, ap₂, ◌∙◌, subst, append_assoc}
use Rattle.std.proofs.lemmas.List.{reverse-append, append-nil}
use Rattle.ob_object.specs.Object.{Object}
use Rattle.ob_contracts.specs.Inherit.{Contracts, Words, words_in, or_else, result_of}
use Rattle.ob_contracts.specs.Adding.{is_among}
use Rattle.ob_contracts.specs.Ancestry.{is_one, is_a}
use Rattle.ob_contracts.specs.Standard.{standard, with_added}
use Rattle.ob_site_rules.specs.Opening.{standard_words}
use Rattle.ob_site_rules.specs.Roles.{worded, worded_contracts}
use Rattle.ob_roles.specs.Kinds.{Known, word_is, Are, Tells}
use Rattle.ob_roles.proofs.WordRows.{worded_is}

-- two libraries by which words are the same
abbrev pub Alike : Contracts → Contracts → Type 0
Alike a b = (ws : Words) (asked : List ℕ) → is_a a ws asked ≡ is_a b ws asked

behind : (lib : Contracts) (u : List ℕ) (o : Object) (ws : Words) (asked : List ℕ) → is_a (lib ++ (u, o) ∷ []) ws asked ≡ (is_a lib ws asked || (is_among u ws && is_a lib (words_in o.head.is) asked))
behind lib u o ws asked = ap (λ l. is_one l ws asked) (reverse-append lib ((u, o) ∷ []))

alike_more : (a b : Contracts) (u : List ℕ) (o p : Object) → Alike a b → o.head.is ≡ p.head.is → Alike (a ++ (u, o) ∷ []) (b ++ (u, p) ∷ [])
alike_more a b u o p same e = λ ws asked.
    behind a u o ws asked
    ∙ ap₂ (λ x y. x || (is_among u ws && y)) (same ws asked) (ap (λ (w : Option Words). is_a a (words_in w) asked) e ∙ same (words_in p.head.is) asked)
    ∙ sym (behind b u p ws asked)

-- a contract by itself has its own words
no_other : (w : Option Words) → or_else w None ≡ w
no_other None = refl
no_other (Some ws) = refl

own_worded : (lib : Contracts) (o : Object) → (worded lib o).head.is ≡ o.head.is
own_worded lib o = ap (λ (x : Object). x.head.is) (worded_is lib o) ∙ no_other o.head.is

own_result : (lib : Contracts) (o : Object) → o.head.is ≡ (result_of lib o None None).head.is
unfolding result_of
own_result lib o = refl

worded_alike : (a b cs : Contracts) → Alike a b → Alike (worded_contracts a cs) (b ++ cs)
worded_alike a b [] same = subst (Alike a) (sym (append-nil b)) same
worded_alike a b (c ∷ cs) same =
    subst (Alike (worded_contracts a (c ∷ cs))) (append_assoc b (c ∷ []) cs)
    (worded_alike (a ++ (c.0, worded a c.1) ∷ []) (b ++ c ∷ []) cs (alike_more a b c.0 (worded a c.1) c.1 same (own_worded a c.1)))

added_alike : (a b cs : Contracts) → Alike a b → Alike (a ++ cs) (with_added b cs)
added_alike a b [] same = subst (λ l. Alike l b) (sym (append-nil a)) same
added_alike a b (c ∷ cs) same =
    subst (λ l. Alike l (with_added b (c ∷ cs))) (append_assoc a (c ∷ []) cs)
    (added_alike (a ++ c ∷ []) (b ++ (c.0, result_of b c.1 None None) ∷ []) cs (alike_more a b c.0 c.1 (result_of b c.1 None None) same (own_result b c.1)))

-- the words of a site are by its library what they are by its contracts with words
pub site_alike : (cs : Contracts) → Alike (with_added standard cs) (worded_contracts standard_words cs)
site_alike cs = λ ws asked.
    sym (worded_alike standard_words standard cs (worded_alike [] [] standard (λ ws asked. refl)) ws asked ∙ added_alike standard standard cs (λ ws asked. refl) ws asked)

pub tells_alike : (known : Known) (a b : Contracts) → Alike a b → Tells known a → Tells known b
tells_alike known a b same tells = λ w.
    let t : Are (word_is known w) a (w ∷ []) = tells w in
    record {
      lobby = t.lobby ∙ same (w ∷ []) (codes "obix:Lobby");
      point = t.point ∙ same (w ∷ []) (codes "obix:WritablePoint");
      history = t.history ∙ same (w ∷ []) (codes "obix:History");
      subject = t.subject ∙ same (w ∷ []) (codes "obix:AlarmSubject");
    }
