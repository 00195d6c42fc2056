-- A whole document (XML 1.0, sections 2.1, 2.8, 3 and 3.1), and the object that it says.
use Rattle.std.specs.Prelude.{◌≡◌, ℕ, suc, ◌<◌, ◌≤◌, Bool, true, false, List, [], ◌∷◌, ◌++◌, length, map, Option, Some, None, codes, IsTrue}
use Rattle.std.specs.List.{AllByRecursion, flat_map}
use Rattle.ob_object.specs.declared.kind.Kind.{Kind}
use Rattle.ob_object.specs.declared.head.Head.{Head}
use Rattle.ob_object.specs.Object.{Objects, none, node, Object, listed, empty_head}
use Rattle.ob_object.specs.WellFormed.{NamesDiffer}
use Rattle.ob_object.specs.Fits.{fits_head}
use Rattle.ob_encoding.specs.Kinds.{same}
use Rattle.ob_encoding.specs.Fields.{known}
use Rattle.ob_encoding.specs.Names.{kind_name}
use Rattle.ob_documents.specs.Attributes.{AreDistinct, Says}
use Rattle.ob_markup.specs.Characters.{IsBlank, IsSpace}
use Rattle.ob_markup.specs.References.{HasReferences, StandsFor}
use Rattle.ob_markup.specs.Markup.{print_comment, IsComment, Instruction, print_instruction, IsInstruction, Declaration, print_declaration, IsDeclaration, IsTagName, Attribute, print_attribute, IsAttribute, EndTag, print_end_tag, IsEndTag}

-- ---- tags

-- S Attribute
pub record Spaced : Type 0 where
  pub space : List ℕ
  pub attribute : Attribute

abbrev pub print_spaced : Spaced → List ℕ
print_spaced s = s.space ++ print_attribute s.attribute

-- with references alone behind each & of its value
pub record IsSpaced (s : Spaced) : Type 0 where
  pub space : IsSpace s.space
  pub attribute : IsAttribute s.attribute
  pub references : HasReferences s.attribute.value

-- '<' Name (S Attribute)* S?, of [40] STag and [44] EmptyElemTag
pub record Tag : Type 0 where
  pub name : List ℕ
  pub attributes : List Spaced
  pub space : List ℕ

abbrev pub print_tag : Tag → List ℕ
print_tag t = codes "<" ++ (t.name ++ (flat_map print_spaced t.attributes ++ t.space))

pub record IsTag (t : Tag) : Type 0 where
  pub name : IsTagName t.name
  pub attributes : AllByRecursion IsSpaced t.attributes
  pub space : IsBlank t.space

-- the names of the attributes, each with what stands between its quotes
abbrev pub attributes_in : Tag → List (List ℕ × List ℕ)
attributes_in t = map (λ s. (s.attribute.name, s.attribute.value)) t.attributes

-- ---- elements

pub data Filler : Type 0 where
  comment : List ℕ → Filler
  instruction : Instruction → Filler

abbrev pub print_filler : Filler → List ℕ
print_filler (comment text) = print_comment text
print_filler (instruction i) = print_instruction i

abbrev pub IsFiller : Filler → Type 0
IsFiller (comment text) = IsComment text
IsFiller (instruction i) = IsInstruction i

mutual
  -- [39] element ::= EmptyElemTag | STag content ETag
  pub data Element : Type 0 where
    empty : Tag → Element
    full : Tag → Content → EndTag → Element

  -- [43] content ::= CharData? ((element | PI | Comment) CharData?)*, where the characters between tags are white space alone
  pub data Content : Type 0 where
    last : List ℕ → Content
    filled : List ℕ → Filler → Content → Content
    child : List ℕ → Element → Content → Content

abbrev mutual
  pub print_element : Element → List ℕ
  print_element (empty tag) = print_tag tag ++ codes "/>"
  print_element (full tag content end) = print_tag tag ++ (codes ">" ++ (print_content content ++ print_end_tag end))

  pub print_content : Content → List ℕ
  print_content (last space) = space
  print_content (filled space f content) = space ++ (print_filler f ++ print_content content)
  print_content (child space e content) = space ++ (print_element e ++ print_content content)

-- an end tag has the name of its start tag (section 3, Element Type Match)
abbrev mutual
  pub IsElement : Element → Type 0
  IsElement (empty tag) = IsTag tag
  IsElement (full tag content end) = IsTag tag × IsContent content × IsEndTag end × (end.name ≡ tag.name)

  pub IsContent : Content → Type 0
  IsContent (last space) = IsBlank space
  IsContent (filled space f content) = IsBlank space × IsFiller f × IsContent content
  IsContent (child space e content) = IsBlank space × IsElement e × IsContent content

-- ---- documents

-- S? (Filler S?)*, the language of [27] Misc*
pub data Misc : Type 0 where
  misc_end : List ℕ → Misc
  misc_filler : List ℕ → Filler → Misc → Misc

abbrev pub print_misc : Misc → List ℕ
print_misc (misc_end space) = space
print_misc (misc_filler space f m) = space ++ (print_filler f ++ print_misc m)

abbrev pub IsMisc : Misc → Type 0
IsMisc (misc_end space) = IsBlank space
IsMisc (misc_filler space f m) = IsBlank space × IsFiller f × IsMisc m

-- [1] document ::= prolog element Misc*, [22] prolog ::= XMLDecl? Misc*, behind EF BB BF or nothing
pub record Document : Type 0 where
  pub marked : Bool
  pub declaration : Option Declaration
  pub prolog : Misc
  pub root : Element
  pub behind : Misc

abbrev pub print_mark : Bool → List ℕ
print_mark true = 0xEF ∷ 0xBB ∷ 0xBF ∷ []
print_mark false = []

abbrev pub print_declared : Option Declaration → List ℕ
print_declared None = []
print_declared (Some d) = print_declaration d

abbrev pub print_document : Document → List ℕ
print_document d = print_mark d.marked ++ (print_declared d.declaration ++ (print_misc d.prolog ++ (print_element d.root ++ print_misc d.behind)))

abbrev pub IsDeclared : Option Declaration → Type 0
IsDeclared None = Unit {0}
IsDeclared (Some d) = IsDeclaration d

pub record IsDocument (d : Document) : Type 0 where
  pub declaration : IsDeclared d.declaration
  pub prolog : IsMisc d.prolog
  pub root : IsElement d.root
  pub behind : IsMisc d.behind

-- ---- what a document says

-- the value stands for a text, and that says it
abbrev pub AttributeSays : Kind → List ℕ × List ℕ → Head → Head → Type 0
AttributeSays k a before after = (text : List ℕ) × StandsFor a.1 text × Says (known k a.0) k text before after

-- one attribute after another
abbrev pub AttributesSay : Kind → List (List ℕ × List ℕ) → Head → Head → Type 0
AttributesSay k [] before after = after ≡ before
AttributesSay k (a ∷ attributes) before after = (between : Head) × AttributeSays k a before between × AttributesSay k attributes between after

-- the name of the kind, and attributes of different names (section 3.1, Unique Att Spec) that say the head
pub record TagSays (t : Tag) (h : Head) : Type 0 where
  pub name : t.name ≡ kind_name h.kind
  pub distinct : AreDistinct (attributes_in t)
  pub said : AttributesSay h.kind (attributes_in t) (empty_head h.kind) h
  pub fits : IsTrue (fits_head h)

-- an element that stands in so many others says the head of an object and what is in it
abbrev mutual
  pub ElementSays : ℕ → Element → Head → Objects → Type 0
  ElementSays level (empty tag) h inner = (level < 32) × TagSays tag h × (inner ≡ none)
  ElementSays level (full tag content end) h inner =
      (level < 32) × TagSays tag h × NamesDiffer (listed inner) × ContentSays (suc level) content inner

  pub ContentSays : ℕ → Content → Objects → Type 0
  ContentSays level (last space) row = row ≡ none
  ContentSays level (filled space f content) row = ContentSays level content row
  ContentSays level (child space e content) row =
      (h : Head) × (inner : Objects) × (rest : Objects) × (row ≡ node h inner rest)
      × ElementSays level e h inner × ContentSays level content rest

abbrev pub tag_of : Element → Tag
tag_of (empty tag) = tag
tag_of (full tag content end) = tag

-- the first xmlns stands for the namespace; where there is none, there is no namespace
abbrev pub NamespaceBy : Bool → List ℕ → Option (List ℕ) → Type 0 → Type 0
NamespaceBy true raw ns Behind = (text : List ℕ) × StandsFor raw text × (ns ≡ Some text)
NamespaceBy false raw ns Behind = Behind

abbrev pub NamespaceIs : List (List ℕ × List ℕ) → Option (List ℕ) → Type 0
NamespaceIs [] ns = ns ≡ None
NamespaceIs (a ∷ attributes) ns = NamespaceBy (same a.0 (codes "xmlns")) a.1 ns (NamespaceIs attributes ns)

-- the bytes are a document of at most 16 MiB whose root says the object, with this namespace
pub record IsDocumentOf (bytes : List ℕ) (ns : Option (List ℕ)) (o : Object) : Type 0 where
  pub small : length bytes ≤ 16_777_216
  pub document : Document
  pub form : IsDocument document
  pub printed : bytes ≡ print_document document
  pub namespace : NamespaceIs (attributes_in (tag_of document.root)) ns
  pub says : ElementSays 0 document.root o.head o.inner
