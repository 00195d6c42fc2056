-- The text of an object that bytes spell has at most sixteen times their length.
use Rattle.std.proofs.Common.{◌≡◌, ℕ, suc, true, ◌+◌, ◌*◌, ◌≤◌, List, [], ◌∷◌, ◌++◌, length, Option, None, refl, ap, ◌∙◌, arith, length-append}
use Rattle.ob_object.specs.declared.head.Head.{Head}
use Rattle.ob_object.specs.declared.kind.Kind.{Kind}
use Rattle.ob_object.specs.Object.{Objects, none, node, Object}
use Rattle.ob_scan.specs.declared.piece.Place.{Place}
use Rattle.ob_scan.specs.Constructs.{Construct, tag_end, empty_end, closing}
use Rattle.ob_encoding.specs.Names.{kind_name}
use Rattle.ob_encoding.specs.Canonical.{attributes, attributes_text, start_text, end_text, row_text, canonical_text}
use Rattle.ob_documents.specs.Attributes.{Describe}
use Rattle.ob_documents.specs.Grammar.{Element, empty, full, Content, nothing, pause, child, attributes_of, name_of}
use Rattle.ob_documents.specs.Spelling.{Cuts, none as no_cut, some as one_cut, place_behind, Spells}
use Rattle.ob_size_laws.specs.Sizes.{sizes}
use Rattle.ob_size_laws.proofs.Taken.{construct_fits}
use Rattle.ob_size_laws.proofs.Heads.{weight, weighs, empty_weight, tag_size, PartsAreShort, tell_grows}

-- ---- what constructs take

pub cuts_fit : (place : Place) (bytes : List ℕ) (cs : List Construct) → Cuts place bytes cs → sizes cs ≤ length bytes
cuts_fit place bytes all (no_cut first) = omega arith
cuts_fit place bytes all (one_cut at here rest c cs e behind) =
    omega (arith, construct_fits at true here rest c e, cuts_fit (place_behind c) rest cs behind)

pub sizes_append : (xs ys : List Construct) → sizes (xs ++ ys) ≡ sizes xs + sizes ys
sizes_append [] ys = omega arith
sizes_append (x ∷ xs) ys = (let rest = sizes_append xs ys in omega (arith, rest))

attributes_size : (attrs : List (List ℕ × List ℕ)) → sizes (attributes_of attrs) ≡ tag_size attrs
attributes_size [] = refl
attributes_size (a ∷ attrs) = ap (λ (n : ℕ). ((length a.0 + length a.1) + 4) + n) (attributes_size attrs)

-- ---- what is written

start_length : (h : Head) → length (start_text None h) ≡ 1 + (length (kind_name h.kind) + weight h)
start_length h = omega (arith, length-append (kind_name h.kind) (attributes_text (attributes None h)), weighs h)

end_most : (k : Kind) (o : Objects) (inner : List ℕ) → length (end_text k o inner) ≤ (length inner + length (kind_name k)) + 4
end_most k none inner = omega arith
end_most k (node h below rest) inner =
    let last = length-append (kind_name k) (62 ∷ []) in
    omega (arith, last, length-append inner (60 ∷ 47 ∷ (kind_name k ++ 62 ∷ [])))

module _ (parts_are_short : PartsAreShort) where
  head_most : (attrs : List (List ℕ × List ℕ)) (h : Head) → Describe attrs h → weight h ≤ 16 * tag_size attrs
  head_most attrs h d = omega (arith, tell_grows parts_are_short h.kind attrs _ h d.told, empty_weight h.kind)

  mutual
    element_most : (level : ℕ) (attrs : List (List ℕ × List ℕ)) (o : Object) (cs : List Construct) → Element level attrs o cs → length (canonical_text None o) ≤ 16 * sizes cs
    element_most level given o cs (empty l h attrs low d) =
        let split = sizes_append (attributes_of attrs) (empty_end ∷ []) in
        omega (arith, split, attributes_size attrs, head_most attrs h d, start_length h, length-append (start_text None h) (end_text h.kind none []))
    element_most level given o cs (full l h attrs children inner low d differ content) =
        let split = sizes_append (attributes_of attrs) (tag_end ∷ (inner ++ (closing (name_of h) ∷ []))) in
        let last = sizes_append inner (closing (name_of h) ∷ []) in
        omega (arith, split, last, attributes_size attrs, head_most attrs h d, start_length h, end_most h.kind children (row_text children), content_most (suc l) children inner content, length-append (start_text None h) (end_text h.kind children (row_text children)))

    content_most : (level : ℕ) (children : Objects) (cs : List Construct) → Content level children cs → length (row_text children) ≤ 16 * sizes cs
    content_most level children cs (nothing l) = omega arith
    content_most level children cs (pause l kids rest content) = omega (arith, content_most l kids rest content)
    content_most level children cs (child l attrs o rest es more element content) =
        omega (arith, sizes_append es more, element_most l attrs o es element, content_most l rest more content, length-append (canonical_text None o) (row_text rest))

  -- an object's text is at most sixteen times as long as bytes that spell it
  pub text_most : (bytes : List ℕ) (ns : Option (List ℕ)) (o : Object) → Spells bytes ns o → length (canonical_text None o) ≤ 16 * length bytes
  text_most bytes ns o s =
      let d = s.is_document in
      let behind = sizes_append d.before (d.element ++ d.after) in
      let parts = ap sizes d.parts ∙ sizes_append d.first (d.before ++ (d.element ++ d.after)) in
      omega (arith, parts, behind, sizes_append d.element d.after, element_most 0 d.attributes o d.element d.is_element, cuts_fit _ bytes s.constructs s.cut)
