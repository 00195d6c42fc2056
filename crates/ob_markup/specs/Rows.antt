-- Rows worked on the definitions.
use Rattle.std.specs.Prelude.{◌≡◌, ℕ, false, List, [], ◌∷◌, Some, None, codes}
use Rattle.ob_scan.specs.declared.piece.Place.TheVariants.{Between, InTag}
use Rattle.ob_object.specs.declared.kind.Kind.TheVariants as kind
use Rattle.ob_object.specs.Object.{none, Object, empty_head}
use Rattle.ob_markup.specs.Characters.{Equals}
use Rattle.ob_markup.specs.References.{BeginsReference, StandsFor}
use Rattle.ob_markup.specs.Markup.{IsComment, IsInstruction, Setting, Attribute}
use Rattle.ob_markup.specs.Pieces.{NeverHasForm, MayHaveForm}
use Rattle.ob_markup.specs.Documents.{Tag, comment, empty, full, last, filled, child, misc_end, misc_filler, Document, print_document, IsDocumentOf}

abbrev tight : Equals
tight = record { before = []; after = [] }

abbrev setting : List ℕ → Setting
setting value = record { space = codes " "; equals = tight; quote = 34; value = value }

-- val ='1'
abbrev val_attribute : Attribute
val_attribute = record { name = codes "val"; equals = record { before = codes " "; after = [] }; quote = 39; value = codes "1" }

abbrev int_tag : Tag
int_tag = record {
  name = codes "int";
  attributes = record { space = codes " "; attribute = val_attribute } ∷ [];
  space = codes " ";
}

abbrev obj_tag : Tag
obj_tag = record { name = codes "obj"; attributes = []; space = [] }

abbrev sample : Document
sample = record {
  marked = false;
  declaration = Some (record { version = setting (codes "1.0"); encoding = Some (setting (codes "UTF-8")); standalone = None; space = [] });
  prolog = misc_filler [] (comment (codes " c ")) (misc_end (codes " "));
  root = full obj_tag (child (codes " ") (empty int_tag) (filled [] (comment []) (last []))) (record { name = codes "obj"; space = codes " " });
  behind = misc_end [];
}

-- a document and its bytes
abbrev pub PrintsSample : Type 0
PrintsSample = print_document sample ≡ codes "<?xml version=\"1.0\" encoding=\"UTF-8\"?><!-- c --> <obj> <int val ='1' /><!----></obj >"

abbrev pub bare_object : Object
bare_object = record { head = empty_head kind.Obj; inner = none }

abbrev pub ReadsBareObject : Type 0
ReadsBareObject = IsDocumentOf (codes "<obj/>") None bare_object

-- no -- in a comment, and no - at its end
abbrev pub NoDashes : Type 0
NoDashes = ¬ (IsComment (codes "a--b")) × ¬ (IsComment (codes "a-"))

-- no target is xml in any case
abbrev pub NoXmlTarget : Type 0
NoXmlTarget = ¬ (IsInstruction (record { target = codes "XmL"; content = [] }))

-- CR LF is one space, and a reference stays what it is
abbrev pub StandsForText : Type 0
StandsForText = StandsFor (120 ∷ 13 ∷ 10 ∷ codes "&#13;&lt;") (120 ∷ 32 ∷ 13 ∷ 60 ∷ [])

-- &#0; stands for no character, and &x; for none that the profile knows
abbrev pub NoReferences : Type 0
NoReferences = ¬ (BeginsReference (codes "&#0;")) × ¬ (BeginsReference (codes "&x;"))

-- a document type can't become a comment; an attribute may be read to its end before its references are judged
abbrev pub NeverADoctype : Type 0
NeverADoctype = NeverHasForm Between (codes "<!D")

abbrev pub MayBeAnAttribute : Type 0
MayBeAnAttribute = MayHaveForm InTag (codes " a='&x")
