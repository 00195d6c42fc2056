-- The roles of a row, one object after the other.
use Rattle.std.proofs.Common.{◌≡◌, ℕ, ◌+◌, ◌<◌, ◌≤◌, Bool, false, ◌||◌, List, [], ◌∷◌, ◌++◌, length, drop, get_or, Option, sym, ap, ap₂, ◌∙◌, append_assoc, arith}
use Rattle.std.proofs.lemmas.List.{append-nil}
use Rattle.ob_object.specs.declared.head.Head.{Head}
use Rattle.ob_object.specs.Object.{Object, none, in_row, children}
use Rattle.ob_contracts.specs.Ancestry.{own_words}
use Rattle.ob_contracts.specs.Inherit.{Contracts, Words, sources, overridden, implied_by, inherited_head}
use Rattle.ob_site_rules.specs.declared.roles.Roles.{Roles}
use Rattle.ob_site_rules.specs.Roles.{roles_there, holds_contracts, row_roles}
use Rattle.ob_hrefs.proofs.Rows.{row_more, row_past, inner_row}

module _ (lib : Contracts) (root under inside : Bool) (implied : Option Words) (above : List Object) where
  abbrev pub Goes : List Object → ℕ → List Roles → List Roles → Type 0
  Goes all i old new = new ++ row_roles lib root under inside implied above (in_row (drop i all)) ≡ old ++ row_roles lib root under inside implied above (in_row all)

  abbrev pub from_of : Object → List Object
  from_of x = sources lib x.head implied (overridden x.head.name above)

  -- the roles of what is in an object
  abbrev pub inner_roles : Object → List Roles
  inner_roles x = row_roles lib false root (inside || holds_contracts under x.head) (implied_by (inherited_head x.head (from_of x))) (from_of x) x.inner

  pub inner_put : (x : Object) (h : Head) (over : Option Object) (b : Bool) (handed gives : Option Words) (cs : List Object) → h ≡ x.head → over ≡ overridden x.head.name above → b ≡ (inside || holds_contracts under x.head) → handed ≡ gives
      → gives ≡ implied_by (inherited_head h (sources lib h implied over)) → cs ≡ children x → row_roles lib false root b handed (sources lib h implied over) (in_row cs) ≡ inner_roles x
  inner_put x h over b handed gives cs same which there given is all =
      ap (λ w. row_roles lib false root b w (sources lib h implied over) (in_row cs)) (given ∙ is)
      ∙ ap₂ (λ k o. row_roles lib false root b (implied_by (inherited_head k (sources lib k implied o))) (sources lib k implied o) (in_row cs)) same which
      ∙ ap₂ (λ v r. row_roles lib false root v (implied_by (inherited_head x.head (from_of x))) (from_of x) r) there (inner_row x cs all)

  pub inner_none : (x : Object) (cs : List Object) → cs ≡ children x → length cs ≤ 0 → [] ≡ inner_roles x
  inner_none x [] all h = ap (row_roles lib false root (inside || holds_contracts under x.head) (implied_by (inherited_head x.head (from_of x))) (from_of x)) (inner_row x [] all)
  inner_none x (c ∷ cs) all h = absurd (omega arith)

  pub goes_more : (all : List Object) (i : ℕ) (x : Object) (old new mid last put : List Roles) (r : Roles) → i < length all → x ≡ get_or all i x
      → r ≡ roles_there lib root (inside || holds_contracts under x.head) x.head (own_words x.head implied (overridden x.head.name above)) → mid ≡ new ++ r ∷ [] → last ≡ mid ++ put → put ≡ inner_roles x
      → Goes all i old new → Goes all (i + 1) old last
  goes_more all i x old new mid last put r h is which pushed more inner p =
      let one = roles_there lib root (inside || holds_contracts under x.head) x.head (own_words x.head implied (overridden x.head.name above)) in
      let rest = row_roles lib root under inside implied above (in_row (drop (i + 1) all)) in
      ap (λ l. l ++ rest) (more ∙ ap₂ (λ a c. a ++ c) (pushed ∙ ap (λ z. new ++ z ∷ []) which) inner ∙ append_assoc new (one ∷ []) (inner_roles x))
      ∙ append_assoc new (one ∷ inner_roles x) rest
      ∙ ap (λ l. new ++ l) (sym (ap (row_roles lib root under inside implied above) (row_more all i x h is)))
      ∙ p

  pub goes_all : (all : List Object) (i : ℕ) (old new : List Roles) → length all ≤ i → Goes all i old new → new ≡ old ++ row_roles lib root under inside implied above (in_row all)
  goes_all all i old new h p = sym (append-nil new) ∙ ap (λ r. new ++ row_roles lib root under inside implied above r) (sym (row_past all i h)) ∙ p
