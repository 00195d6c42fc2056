-- Names that differ, and the lists of upstreams in the tree.
use Rattle.std.proofs.Common.{◌≡◌, ℕ, ◌<◌, Bool, true, false, cond, List, [], ◌∷◌, map, length, take, get_or, Option, Some, None, refl, sym, ap, ap₂, subst, ◌∙◌, true≢false, ◌&&◌, leb, arith}
use Rattle.std.specs.Prelude.{◌||◌, bytes_eq, find, is_some, option_map, slice_get, Vec}
use Rattle.std.specs.Vec.{with_items}
use Rattle.std.proofs.lemmas.List.{take-map, length-map, with_items_is}
use Rattle.std.proofs.lemmas.Option.{slice_get-get_or, slice_get-map}
use Rattle.ob_object.specs.Object.{Object}
use Rattle.ob_object.specs.WellFormed.{has_name, is_taken, NamesDiffer}
use Rattle.ob_contracts.proofs.Distinct.{free_at}
use Rattle.ob_client.proofs.TableLemmas.{bytes_eq_sym}
use Rattle.ob_watching.specs.Tables.{is_among}
use Rattle.ob_watching.specs.WatchOuts.{Text}
use Rattle.ob_super.specs.declared.upstream.Followed.{Followed}
use Rattle.std.specs.List.{list_all}
use Rattle.std.proofs.lemmas.Bool.{leb-true, le-leb}
use Rattle.ob_values.proofs.Bools.{both_true}
use Rattle.ob_object.specs.Fits.{fits_name}
use Rattle.ob_super.specs.Upstreams.{Upstream, is_name, is_letter}
use Rattle.ob_super.specs.Trees.{View, subtree}
use Rattle.ob_super.specs.Names.{are_apart, names}
use Rattle.ob_super.specs.InHand.{upstreams, upstream, view, views}

-- the list of an upstream has its name
list_name : (v : View) → (subtree v).head.name ≡ Some v.0.name
list_name (u, None) = refl
list_name (u, Some held) = refl

taken_more : (n : Text) (o : Object) (os : List Object) (b : Bool) (t : Bool) → is_taken (Some n) os ≡ t → is_some (cond b (Some o) (find (λ (o : Object). has_name n o.head.name) os)) ≡ (b || t)
taken_more n o os true t e = refl
taken_more n o os false t e = e

apart_first : (b t : Bool) → cond b false t ≡ true → (b ≡ false) × (t ≡ true)
apart_first true t e = absurd (true≢false (sym e))
apart_first false t e = (refl, e)

module _ {L : Type 0} where
  list_taken : (n : Text) (all : List (Followed L)) → is_taken (Some n) (map subtree (views all)) ≡ is_among bytes_eq (names all) n
  list_taken n [] = refl
  list_taken n (f ∷ fs) =
      ap (λ (name : Option Text). is_some (cond (has_name n name) (Some (subtree (view f))) (find (λ (o : Object). has_name n o.head.name) (map subtree (views fs))))) (list_name (view f))
      ∙ ap (λ (b : Bool). is_some (cond b (Some (subtree (view f))) (find (λ (o : Object). has_name n o.head.name) (map subtree (views fs))))) (bytes_eq_sym f.upstream.name n)
      ∙ taken_more n (subtree (view f)) (map subtree (views fs)) (bytes_eq n f.upstream.name) (is_among bytes_eq (names fs) n) (list_taken n fs)

  lists_apart : (all : List (Followed L)) → are_apart (names all) ≡ true → NamesDiffer (map subtree (views all))
  lists_apart [] apart = tt
  lists_apart (f ∷ fs) apart =
      let e = apart_first (is_among bytes_eq (names fs) f.upstream.name) (are_apart (names fs)) apart in
      (ap (λ (name : Option Text). is_taken name (map subtree (views fs))) (list_name (view f)) ∙ list_taken f.upstream.name fs ∙ e.0, lists_apart fs e.1)

  -- no list in front has the name of the one at a place
  pub list_free : (all : List (Followed L)) (i : ℕ) (f : Followed L) → are_apart (names all) ≡ true → i < length all → f ≡ get_or all i f → is_taken (subtree (view f)).head.name (map subtree (views (take i all))) ≡ false
  list_free all i f apart lt is =
      ap (λ (os : List Object). is_taken (subtree (view f)).head.name os) (sym (both (take i all)) ∙ sym (take-map listed i all) ∙ ap (take i) (both all))
      ∙ free_at (map subtree (views all)) i (subtree (view f)) (lists_apart all apart) at
    where
      listed : Followed L → Object
      listed x = subtree (view x)

      both : (xs : List (Followed L)) → map listed xs ≡ map subtree (views xs)
      both [] = refl
      both (x ∷ xs) = ap (λ (os : List Object). subtree (view x) ∷ os) (both xs)

      at : Some (subtree (view f)) ≡ slice_get (map subtree (views all)) i
      at = ap (λ (x : Followed L). Some (listed x)) is ∙ ap (option_map listed) (sym (slice_get-get_or all i f lt)) ∙ sym (slice_get-map listed all i) ∙ ap (λ (os : List Object). slice_get os i) (both all)

  names_of : (all : List (Followed L)) → names all ≡ map (λ (u : Upstream). u.name) (upstreams all)
  names_of [] = refl
  names_of (f ∷ fs) = ap (λ (ns : List Text). f.upstream.name ∷ ns) (names_of fs)

  -- they stay apart while the upstreams are the same
  pub apart_still : (old new : List (Followed L)) → upstreams new ≡ upstreams old → are_apart (names old) ≡ true → are_apart (names new) ≡ true
  apart_still old new same apart = subst (λ (ns : List Text). are_apart ns ≡ true) (names_of old ∙ ap (map (λ (u : Upstream). u.name)) (sym same) ∙ sym (names_of new)) apart

  -- with other elements of the same upstreams in the same place these are its elements
  pub items_after : {Z : Type 0} (v : Vec (Followed L) Z) (new : List (Followed L)) → length v.items ≡ v.len → upstreams new ≡ upstreams v.items → (with_items v new).items ≡ new
  items_after v new len same =
      with_items_is v new (sym (length-map new (λ (f : Followed L). upstream f.upstream)) ∙ ap length same ∙ length-map v.items (λ (f : Followed L). upstream f.upstream) ∙ len)

  -- and their names differ as before
  pub apart_after : {Z : Type 0} (v : Vec (Followed L) Z) (new : List (Followed L)) → length v.items ≡ v.len → upstreams new ≡ upstreams v.items → are_apart (names v.items) ≡ true
      → are_apart (names (with_items v new).items) ≡ true
  apart_after v new len same apart =
      subst (λ (fs : List (Followed L)). are_apart (names fs) ≡ true) (sym (items_after v new len same)) (apart_still v.items new same apart)

-- ---- a name of the form that an upstream has fits an object

pub name_fits : (t : Text) → is_name t ≡ true → fits_name (Some t) ≡ true
name_fits t e =
    let n = length t in
    let size : leb 1 n && leb n 32 ≡ true = (both_true (leb 1 n && leb n 32) (list_all is_letter t) e).0 in
    let ends = both_true (leb 1 n) (leb n 32) size in
    ap₂ (λ a b. a && b) ends.0 (le-leb n 255 (omega (arith, leb-true n 32 ends.1)))
