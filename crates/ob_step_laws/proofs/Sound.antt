-- Objects whose slots fit their kinds and whose children's names differ, with paths in place of texts.
use Rattle.std.proofs.Common.{◌≡◌, ◌+◌, Bool, true, false, ◌&&◌, List, ◌∷◌, IsTrue, Option, refl, ap, ◌∙◌}
use Rattle.ob_object.specs.declared.head.Head.{Head}
use Rattle.ob_object.specs.Fits.{fits_name, fits_lists, fits_slot, fits_facets, fits_head}
use Rattle.ob_object.specs.Object.{Objects, none, node, count, listed}
use Rattle.ob_object.specs.WellFormed.{NamesDiffer, RowIsWellFormed}
use Rattle.ob_hrefs.specs.Hrefs.{row_with_paths}
use Rattle.ob_plain_state.proofs.Keeping.{names_of, NamesDiffer-same}
use Rattle.ob_site_rules.specs.Build.{Text, Path}

-- each slot fits its kind, and the names of children differ
abbrev pub Sound : Objects → Type 0
Sound none = Unit {0}
Sound (node h inner rest) = IsTrue (fits_slot h.kind h.slot) × NamesDiffer (listed inner) × Sound inner × Sound rest

and_left : (a b : Bool) → IsTrue (a && b) → IsTrue a
and_left true b h = refl
and_left false b h = h

and_right : (a b : Bool) → IsTrue (a && b) → IsTrue b
and_right true b h = h
and_right false b h = absurd cc

pub slot_fits : (h : Head) → IsTrue (fits_head h) → IsTrue (fits_slot h.kind h.slot)
slot_fits h f = and_left (fits_slot h.kind h.slot) (fits_facets h.kind h.facets) (and_right (fits_name h.name && fits_lists h) (fits_slot h.kind h.slot && fits_facets h.kind h.facets) f)

pub formed_sound : (r : Objects) → RowIsWellFormed r → Sound r
formed_sound none w = tt
formed_sound (node h inner rest) w = (slot_fits h w.0, w.1, formed_sound inner w.2, formed_sound rest w.3)

module _ (resolve : Text → Option Path) where
  made_names : (r : Objects) → names_of (listed r) ≡ names_of (listed (row_with_paths resolve r))
  made_names none = refl
  made_names (node h inner rest) = ap (λ (ns : List (Option Path)). h.name ∷ ns) (made_names rest)

  pub made_differ : (r : Objects) → NamesDiffer (listed r) → NamesDiffer (listed (row_with_paths resolve r))
  made_differ r d = NamesDiffer-same (listed r) (listed (row_with_paths resolve r)) (made_names r) d

  pub made_sound : (r : Objects) → Sound r → Sound (row_with_paths resolve r)
  made_sound none s = tt
  made_sound (node h inner rest) s = (s.0, made_differ inner s.1, made_sound inner s.2, made_sound rest s.3)

  pub made_count : (r : Objects) → count (row_with_paths resolve r) ≡ count r
  made_count none = refl
  made_count (node h inner rest) = ap (λ n. n + count (row_with_paths resolve rest) + 1) (made_count inner) ∙ ap (λ n. count inner + n + 1) (made_count rest)
