-- What a site file opens, or why it opens nothing.
use Rattle.std.specs.Prelude.{◌≡◌, ℕ, List, Option, true, Ok}
use Rattle.ob_object.specs.Object.{Object}
use Rattle.ob_site.specs.Between.{IsShallow}
use Rattle.ob_site_open.specs.Opens.{IsFromRoot}
use Rattle.ob_documents.specs.Spelling.{Spells}
use Rattle.ob_xml.specs.Judged.{Judged, fault}
use Rattle.ob_site_rules.specs.Sites.{SiteState}
use Rattle.ob_site_rules.specs.Opening.{opening}
use Rattle.ob_site_file.specs.Passes.{Refuses}
use Rattle.ob_site_file.specs.declared.fault.LoadFault.{LoadFault}
use Rattle.ob_site_file.specs.declared.fault.LoadFault.TheVariants.{Read, Document, Memory}

-- the file can't be read, or there is no memory
abbrev pub IsOutside : LoadFault → Type 0
IsOutside Read = Unit {0}
IsOutside Memory = Unit {0}
IsOutside _ = ⊥

-- the bytes are no document, or there is no memory
abbrev pub IsUnspelled : List ℕ → LoadFault → Type 0
IsUnspelled bytes (Document refused) = Judged bytes true (fault refused.at refused.why)
IsUnspelled bytes Memory = Unit {0}
IsUnspelled bytes _ = ⊥

-- a site that some root of at most 32 levels opens at some moment
pub record IsFromShallow (site : SiteState) : Type 0 where
  pub from : IsFromRoot site
  pub shallow : IsShallow from.root

-- The bytes spell a document with this xmlns, whose root opens this site at the moment.
abbrev pub IsSite : List ℕ → ℕ → Option (List ℕ) → SiteState → Type 0
IsSite bytes boot ns site = (root : Object) × (Spells bytes ns root × (opening root boot ≡ Ok site))

-- They open a site at some moment, and so at each: what is opened is the same but for the boot's moment and the time.
abbrev pub OpensSite : List ℕ → Type 0
OpensSite bytes = (boot : ℕ) × (ns : Option (List ℕ)) × (site : SiteState) × IsSite bytes boot ns site

-- Why bytes open no site: they spell no document, and this is the first refused construct; or the root of the document that they
-- spell is refused so by the definition of the opening.
pub data RefusesBytes (bytes : List ℕ) (boot : ℕ) (fault : LoadFault) : Type 0 where
  unspelled : IsUnspelled bytes fault → RefusesBytes bytes boot fault
  refused : (ns : Option (List ℕ)) → (root : Object) → Spells bytes ns root → Refuses root boot fault → RefusesBytes bytes boot fault

-- Bytes that open a site at some moment are refused at none: only a read that failed or want of memory keeps them from it.
abbrev pub OpenedIsNotRefused : Type 0
OpenedIsNotRefused = (bytes : List ℕ) → OpensSite bytes → (boot : ℕ) (fault : LoadFault) → RefusesBytes bytes boot fault → IsOutside fault
