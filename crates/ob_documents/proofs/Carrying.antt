-- What bytes spell, a document can carry.
use Rattle.std.proofs.Common.{ℕ, suc, ◌<◌, List, Option}
use Rattle.std.specs.Prelude.{IsTrue}
use Rattle.ob_scan.specs.Constructs.{Construct}
use Rattle.ob_object.specs.Fits.{fits_head}
use Rattle.ob_object.specs.Object.{Objects, Object, listed}
use Rattle.ob_object.specs.WellFormed.{NamesDiffer, RowIsWellFormed}
use Rattle.ob_documents.specs.Carried.{IsHeadCarried, IsRowCarried, IsCarried}
use Rattle.ob_documents.specs.Grammar.{Element, empty, full, Content, nothing, pause, child}
use Rattle.ob_documents.specs.Spelling.{Spells}
use Rattle.ob_documents.proofs.ReadHeads.{described, namespace_carried}

record IsElementCarried (level : ℕ) (o : Object) : Type 0 where
  few : level < 32
  fits : IsTrue (fits_head o.head)
  head : IsHeadCarried o.head
  names : NamesDiffer (listed o.inner)
  well_formed : RowIsWellFormed o.inner
  row : IsRowCarried (suc level) o.inner

mutual
  element_carried : (level : ℕ) (xs : List (List ℕ × List ℕ)) (o : Object) (cs : List Construct) → Element level xs o cs → IsElementCarried level o
  element_carried level xs o cs (empty l h ys few d) = record { few = few; fits = d.fits; head = described ys h d; names = tt; well_formed = tt; row = tt }
  element_carried level xs o cs (full l h ys kids inner few d names c) =
      let below = content_carried (suc l) kids inner c in
      record { few = few; fits = d.fits; head = described ys h d; names = names; well_formed = below.0; row = below.1 }

  content_carried : (level : ℕ) (row : Objects) (cs : List Construct) → Content level row cs → RowIsWellFormed row × IsRowCarried level row
  content_carried level row cs (nothing l) = (tt, tt)
  content_carried level row cs (pause l kids ds h) = content_carried l kids ds h
  content_carried level row cs (child l xs o kids es ds f h) =
      let first = element_carried l xs o es f in
      let rest = content_carried l kids ds h in
      ((first.fits, first.names, first.well_formed, rest.0), (first.few, first.head, first.row, rest.1))

pub carried : (bytes : List ℕ) (ns : Option (List ℕ)) (o : Object) → Spells bytes ns o → IsCarried ns o
carried bytes ns o s =
    let d = s.is_document in
    let root = element_carried 0 d.attributes o d.element d.is_element in
    record {
      namespace = namespace_carried d.attributes ns d.namespace;
      well_formed = record { head_fits = root.fits; names_differ = root.names; row = root.well_formed };
      head = root.head;
      row = root.row;
    }
