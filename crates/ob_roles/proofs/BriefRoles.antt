-- The roles by contracts with few words at each part are those by the contracts.
use Rattle.std.proofs.Common.{◌≡◌, ℕ, Bool, true, false, cond, ◌||◌, codes, List, [], ◌∷◌, ◌++◌, Option, Some, None, option_map, refl, sym, ap, ap₂, ◌∙◌, subst}
use Rattle.std.specs.Prelude.{option_and_then}
use Rattle.ob_object.specs.declared.head.Head.{Head}
use Rattle.ob_object.specs.Object.{Object, Objects, none, node}
use Rattle.ob_contracts.specs.Ancestry.{is_a, own_words}
use Rattle.ob_contracts.specs.Inherit.{Contracts, Words, words_in, or_else, overridden, sources, inherited_head, implied_by}
use Rattle.ob_site_rules.specs.Roles.{no_roles, roles_of, roles_there, holds_contracts, row_roles, all_roles}
use Rattle.ob_roles.specs.declared.ancestors.Ancestors.{Ancestors}
use Rattle.ob_roles.specs.Few.{few_words, brief, brief_contracts}
use Rattle.ob_roles.specs.Kinds.{Are}
use Rattle.ob_roles.proofs.Brief.{Likes, gives_like, over_like, sources_like, is_brief}
use Rattle.ob_roles.proofs.Fewer.{few_lobby, few_point, few_history, few_subject}
use Rattle.ob_roles.proofs.Taken.{roles_are}

module _ (lib : Contracts) where
  few_are : (asked : List ℕ) → ((ws : Words) → is_a lib (few_words lib ws) asked ≡ is_a lib ws asked) → (ws : Option Words) → is_a lib (words_in (option_map (few_words lib) ws)) asked ≡ is_a lib (words_in ws) asked
  few_are asked few None = refl
  few_are asked few (Some ws) = few ws

  -- an object is by its words, or by the few of the child that it overrides, what it is
  own_are : (asked : List ℕ) → ((ws : Words) → is_a lib (few_words lib ws) asked ≡ is_a lib ws asked) → (h : Head) (implied : Option Words) (o : Option Object)
      → is_a (brief_contracts lib lib) (words_in (own_words h implied (option_map (brief lib) o))) asked ≡ is_a lib (words_in (own_words h implied o)) asked
  own_are asked few h implied o = is_brief lib lib (words_in (own_words h implied (option_map (brief lib) o))) asked ∙ go h.is implied o
    where
      go : (w v : Option Words) (o : Option Object) → is_a lib (words_in (or_else w (or_else v (option_and_then (λ (x : Object). x.head.is) (option_map (brief lib) o))))) asked
          ≡ is_a lib (words_in (or_else w (or_else v (option_and_then (λ (x : Object). x.head.is) o)))) asked
      go (Some w) v o = refl
      go None (Some v) o = refl
      go None None None = refl
      go None None (Some x) = few_are asked few x.head.is

  one_brief : (root inside : Bool) (h : Head) (implied : Option Words) (o : Option Object)
      → roles_there (brief_contracts lib lib) root inside h (own_words h implied (option_map (brief lib) o)) ≡ roles_there lib root inside h (own_words h implied o)
  one_brief root inside h implied o =
      let few = brief_contracts lib lib in
      let ws = own_words h implied (option_map (brief lib) o) in
      let vs = own_words h implied o in
      let a : Ancestors = record {
        lobby = is_a few (words_in ws) (codes "obix:Lobby");
        point = is_a few (words_in ws) (codes "obix:WritablePoint");
        history = is_a few (words_in ws) (codes "obix:History");
        subject = is_a few (words_in ws) (codes "obix:AlarmSubject");
      } in
      let are : Are a lib (words_in vs) = record {
        lobby = own_are (codes "obix:Lobby") (few_lobby lib) h implied o;
        point = own_are (codes "obix:WritablePoint") (few_point lib) h implied o;
        history = own_are (codes "obix:History") (few_history lib) h implied o;
        subject = own_are (codes "obix:AlarmSubject") (few_subject lib) h implied o;
      } in
      ap (cond inside no_roles) (roles_are lib root h vs a (roles_of few root h ws) are refl refl refl refl refl)

  row_brief : (r : Objects) (root under inside : Bool) (implied : Option Words) (ss ts : List Object) → Likes lib ss ts
      → row_roles (brief_contracts lib lib) root under inside implied ss r ≡ row_roles lib root under inside implied ts r
  row_brief none root under inside implied ss ts k = refl
  row_brief (node h inner rest) root under inside implied ss ts k =
      let few = brief_contracts lib lib in
      let b = inside || holds_contracts under h in
      let p = overridden h.name ss in
      let q = overridden h.name ts in
      let over : p ≡ option_map (brief lib) q = over_like lib h.name ss ts k in
      let from = sources lib h implied q in
      let taken = sources few h implied p in
      let like : Likes lib taken from = subst (λ (x : Option Object). Likes lib (sources few h implied x) from) (sym over) (sources_like lib lib h implied q) in
      let first : roles_there few root b h (own_words h implied p) ≡ roles_there lib root b h (own_words h implied q) =
      ap (λ (x : Option Object). roles_there few root b h (own_words h implied x)) over ∙ one_brief root b h implied q in
      let within : row_roles few false root b (implied_by (inherited_head h taken)) taken inner ≡ row_roles lib false root b (implied_by (inherited_head h from)) from inner =
      ap (λ w. row_roles few false root b w taken inner) (gives_like lib h taken from like)
      ∙ row_brief inner false root b (implied_by (inherited_head h from)) taken from like in
      ap₂ (λ x y. x ++ y) (ap₂ (λ x y. x ∷ y) first within) (row_brief rest root under inside implied ss ts k)

  pub all_brief : (root : Object) → all_roles (brief_contracts lib lib) root ≡ all_roles lib root
  all_brief root = row_brief (node root.head root.inner none) true false false None [] [] tt
