use Rattle.std.proofs.Common.{◌≡◌, ◌++◌, Option, sym, ap, subst, ◌∙◌}
use Rattle.std.specs.Prelude.{IfSome, IfNone}
use Rattle.ob_record.specs.declared.run.Entry.{Entry}
use Rattle.ob_record.specs.Parts.{Parts, parts_of_slices, parts_text}
use Rattle.ob_record.specs.Runs.{IsEntry, parts_of}
use Rattle.ob_record.proofs.PartLaws.{parts_found}
use Rattle.ob_record.proofs.Reading.{none_parted, none_decoded}
use Rattle.ob_record.proofs.decode.next_entry.Goals as goal

pub returns-in_default-clause-none : goal.returns-in_default-clause-none
returns-in_default-clause-none c = none_parted c.args.bytes.now (sym c.in_default.ensures)

pub entry_of-requires : goal.entry_of-requires
entry_of-requires c = (parts_found c.args.bytes.now (parts_of_slices c.in-Some.parts) c.in-Some.rest.now (sym c.in-Some.ensures)).0

pub returns-in-Some-2-clause-found : goal.returns-in-Some-2-clause-found
returns-in-Some-2-clause-found c =
    let p = parts_of_slices c.in-Some.parts in
    let rest = c.in-Some.rest.now in
    let is = subst (λ (o : Option Entry). IfSome o (λ e. IsEntry e × (p ≡ parts_of e))) c.in-Some-2.is c.in_ok-entry.ensures.found in
    (is.0, (parts_found c.args.bytes.now p rest (sym c.in-Some.ensures)).1 ∙ ap (λ (q : Parts). parts_text q ++ rest) is.1)

pub returns-in-None-clause-none : goal.returns-in-None-clause-none
returns-in-None-clause-none c =
    let p = parts_of_slices c.in-Some.parts in
    none_decoded c.args.bytes.now p c.in-Some.rest.now (sym c.in-Some.ensures)
    (subst (λ (o : Option Entry). IfNone o ((e : Entry) → IsEntry e → p ≡ parts_of e → ⊥)) c.in-None.is c.in_ok-entry.ensures.none)
