use Rattle.std.proofs.Common.{◌≡◌, ℕ, List, [], ◌∷◌, ◌++◌, Some, None, false, cond, length, subst, sym, ap, ◌∙◌}
use Rattle.std.specs.Prelude.{is_some, string_bytes}
use Rattle.std.specs.Str.{bytes_eq}
use Rattle.std.specs.BTreeMap.{get_by_text}
use Rattle.std.proofs.lemmas.Map.Text.{btree_map_updates_text}
use Rattle.ob_contracts.specs.Index.{place_of}
use Rattle.ob_object.specs.Object.{Object}
use Rattle.ob_contracts.specs.Inherit.{Contracts, contract_of, result_of}
use Rattle.ob_contracts.specs.Adding.{names_word}
use Rattle.ob_contracts.specs.Named.{HasAll}
use Rattle.ob_contracts.proofs.Fitting.{AllSound-more}
use Rattle.ob_contracts.proofs.Indexed.{without_place, place_put}
use Rattle.ob_contracts.proofs.Known.{library_known}
use Rattle.ob_contracts.proofs.Naming.{result_known}
use Rattle.ob_contracts.proofs.library.Library.put.Goals as goal

pub invariant_of-self-2 : goal.invariant_of-self-2
invariant_of-self-2 c =
    let old = c.self.invariant in
    let items = c.self.inside.contracts.items in
    let places = c.self.inside.places in
    let uri = c.args.uri in
    let made = c.args.made in
    let key = c.in_ok-word.word in
    let place = length c.as_slice-place.result.now in
    let same : string_bytes key ≡ uri = c.in_ok-word.ensures.ok ∙ c.as_str.ensures.value in
    let counted : place ≡ length items = ap length c.as_slice-place.ensures.value in
    let absent : place_of uri items ≡ None =
    without_place uri items (subst (λ (l : Contracts). is_some (contract_of l uri) ≡ false) (sym c.self.view_is) c.requires.new) in
    let inherits : made ≡ result_of items c.args.contract.now None None =
    c.requires.made ∙ ap (λ (l : Contracts). result_of l c.args.contract.now None None) (sym c.self.view_is) in
    let all =
    subst (λ (o : Object). HasAll c.put_named.new.known (λ word. names_word word o)) (sym inherits)
    (result_known c.self.inside.named c.put_named.new.known items c.args.contract.now c.put_named.ensures.kept old.10 c.in_ok-put_named.ensures.ok) in
    let put = c.push_reserved.ensures.items ∙ ap (λ (l : Contracts). l ++ (uri, made) ∷ []) c.reserve.ensures.items in (
      rw c.push_reserved.ensures.items (rw c.reserve.ensures.items (AllSound-more _ _ old.0 (record { well_formed = c.head-head.ensures.well_formed; small = c.requires.small }))),
      old.1,
      old.2,
      old.3,
      old.4,
      old.5,
      old.6,
      old.7,
      old.8,
      λ word. btree_map_updates_text (string_bytes key) places c.insert.new.self (Some place) c.in_ok-insert.ensures.updates word
          ∙ ap (λ (u : List ℕ). cond (bytes_eq u word) (Some place) (get_by_text places word)) same
          ∙ ap (λ (n : ℕ). cond (bytes_eq uri word) (Some n) (get_by_text places word)) counted
          ∙ ap (cond (bytes_eq uri word) (Some (length items))) (old.9 word)
          ∙ place_put uri made items absent word
          ∙ ap (place_of word) (sym put),
      library_known c.self.inside.named c.put_named.new.known items c.push_reserved.new.self.items (uri, made) put c.put_named.ensures.kept all old.10,
    )

pub returns-clause-ok : goal.returns-clause-ok
returns-clause-ok c =
    c.push_reserved.ensures.items ∙ ap (λ (l : Contracts). l ++ (c.args.uri, c.args.made) ∷ []) (c.reserve.ensures.items ∙ c.self.view_is)
