-- What constructs make a document: one element, with comments, instructions and white space round it.
use Rattle.std.specs.Prelude.{◌≡◌, ℕ, suc, ◌<◌, List, [], ◌∷◌, ◌++◌, Option, map}
use Rattle.ob_scan.specs.Constructs.{Construct, opening, attribute, tag_end, empty_end, closing, skipped, mark}
use Rattle.ob_object.specs.declared.head.Head.{Head}
use Rattle.ob_object.specs.Object.{Objects, none, node, Object, listed}
use Rattle.ob_object.specs.WellFormed.{NamesDiffer}
use Rattle.ob_encoding.specs.Names.{kind_name}
use Rattle.ob_documents.specs.Attributes.{Describe, NamespaceIs}

abbrev pub attributes_of : List (List ℕ × List ℕ) → List Construct
attributes_of = map (λ a. attribute a.0 a.1)

-- the name of an element of the kind
abbrev pub name_of : Head → List ℕ
name_of h = kind_name h.kind

mutual
  -- an element with these attributes that stands in so many others
  pub data Element : ℕ → List (List ℕ × List ℕ) → Object → List Construct → Type 0 where
    -- an empty tag
    empty : (level : ℕ) (h : Head) (attributes : List (List ℕ × List ℕ)) → level < 32 → Describe attributes h
        → Element level attributes (record { head = h; inner = none }) (opening (name_of h) ∷ (attributes_of attributes ++ (empty_end ∷ [])))
    -- a start tag, children of different names, and an end tag of the same kind
    full : (level : ℕ) (h : Head) (attributes : List (List ℕ × List ℕ)) (children : Objects) (inner : List Construct) → level < 32 → Describe attributes h
        → NamesDiffer (listed children) → Content (suc level) children inner
        → Element level attributes (record { head = h; inner = children }) (opening (name_of h) ∷ (attributes_of attributes ++ (tag_end ∷ (inner ++ (closing (name_of h) ∷ [])))))

  -- children, with comments, instructions and white space between them
  pub data Content : ℕ → Objects → List Construct → Type 0 where
    nothing : (level : ℕ) → Content level none []
    pause : (level : ℕ) (children : Objects) (cs : List Construct) → Content level children cs → Content level children (skipped ∷ cs)
    child : (level : ℕ) (attributes : List (List ℕ × List ℕ)) (o : Object) (children : Objects) (es cs : List Construct) → Element level attributes o es → Content level children cs
        → Content level (node o.head o.inner children) (es ++ cs)

-- EF BB BF, or nothing
abbrev pub IsMark : List Construct → Type 0
IsMark [] = Unit {0}
IsMark (mark ∷ []) = Unit {0}
IsMark cs = ⊥

abbrev pub AreSkipped : List Construct → Type 0
AreSkipped [] = Unit {0}
AreSkipped (skipped ∷ cs) = AreSkipped cs
AreSkipped cs = ⊥

-- the constructs are a document: the namespace of the root, and the root
pub record IsDocument (ns : Option (List ℕ)) (o : Object) (cs : List Construct) : Type 0 where
  pub first : List Construct
  pub before : List Construct
  pub attributes : List (List ℕ × List ℕ)
  pub element : List Construct
  pub after : List Construct
  pub is_mark : IsMark first
  pub before_skipped : AreSkipped before
  pub namespace : NamespaceIs attributes ns
  pub is_element : Element 0 attributes o element
  pub after_skipped : AreSkipped after
  pub parts : cs ≡ first ++ (before ++ (element ++ after))
