-- Entries that are written as a journal appends them.
use Rattle.std.proofs.Common.{◌≡◌, ◌↔◌, ℕ, suc, ◌+◌, ◌<◌, ◌≤◌, ◌^◌, List, [], ◌∷◌, ◌++◌, length, drop, Option, Some, None, refl, sym, ap, ◌∙◌, subst, arith, ap₂, ◌-◌, take, drop_at, length-append, add-one, append-nil}
use Rattle.std.proofs.lemmas.List.{take_at}
use Rattle.std.specs.Prelude.{get_or}
use Rattle.ob_object.specs.Object.{Object, Objects, none, node, in_row, listed, in_row-listed}
use Rattle.ob_encoding.specs.Canonical.{canonical_text}
use Rattle.ob_documents.specs.Carried.{IsCarried, IsRowCarried, IsTextIfThere}
use Rattle.ob_documents.specs.Held.{IsHeld, IsShallow}
use Rattle.ob_documents.proofs.Holding.{cut}
use Rattle.ob_site_rules.specs.declared.request.Request.{Request}
use Rattle.ob_times.specs.Times.{IsMoment}
use Rattle.ob_values.specs.XmlText.{IsXmlText}
use Rattle.ob_record.specs.Blocks.{block_text}
use Rattle.ob_record.specs.Parts.{open_text}
use Rattle.ob_record.specs.Runs.{IsBody, IsEntry, boot_line, entry_text, first_line, head_text, parts_of}
use Rattle.ob_record.specs.declared.run.Entry.{Entry}
use Rattle.ob_record.specs.declared.run.Told.TheVariants.{Reply}
use Rattle.ob_record.proofs.PartLaws.{parts_closed}
use Rattle.ob_record_journal.specs.Runs.{opening_line}

module _ (level : ℕ) (os : List Object) (i : ℕ) (o : Object) (h : i < length os) (is : o ≡ get_or os i o) (all : IsShallow level (in_row (drop i os)) ↔ IsShallow level (in_row os)) where
  -- one object where all are shallow
  one_shallow : IsShallow level (in_row os) → (level < 32) × IsShallow (suc level) o.inner × IsShallow level (in_row (drop (i + 1) os))
  one_shallow whole = subst (λ (l : List Object). IsShallow level (in_row l)) (cut os i o h is) (all.1 whole)

  pub low_one : IsShallow level (in_row os) → level < 32
  low_one whole = (one_shallow whole).0

  module _ (kids : List Object) (kids_are : kids ≡ listed o.inner) where
    -- what is in it, as its children tell it
    inside_is : IsShallow (suc level) o.inner ≡ IsShallow (level + 1) (in_row kids)
    inside_is = ap₂ IsShallow (sym (add-one level)) (sym (ap in_row kids_are ∙ in_row-listed o.inner))

    pub kids_shallow : IsShallow level (in_row os) → IsShallow (level + 1) (in_row kids)
    kids_shallow whole = subst (λ (T : Type 0). T) inside_is (one_shallow whole).1

    -- one object more is shallow
    pub next_shallow : level < 32 → IsShallow (level + 1) (in_row kids) → IsShallow level (in_row (drop (i + 1) os)) ↔ IsShallow level (in_row os)
    next_shallow low inner = (
      λ rest. all.0 (subst (λ (l : List Object). IsShallow level (in_row l)) (sym (cut os i o h is)) (low, subst (λ (T : Type 0). T) (sym inside_is) inner, rest)),
      λ whole. (one_shallow whole).2,
    )

-- what a document carries is shallow
carried_shallow : (level : ℕ) (os : Objects) → IsRowCarried level os → IsShallow level os
carried_shallow level none row = tt
carried_shallow level (node h below rest) row = (row.0, carried_shallow (suc level) below row.2, carried_shallow level rest row.3)

pub shallow_body : (o : Object) (kids : List Object) (text : List ℕ) → ((ns : Option (List ℕ)) (o : Object) → IsTextIfThere ns → IsHeld o → IsShallow 1 o.inner → IsCarried ns o)
    → IsHeld o → kids ≡ listed o.inner → IsShallow 1 (in_row kids) → text ≡ canonical_text None o → length text ≤ 16_777_216 → IsBody (Some o)
shallow_body o kids text carried held kids_are shallow is short =
    (carried None o tt held (subst (IsShallow 1) (ap in_row kids_are ∙ in_row-listed o.inner) shallow), subst (λ (l : List ℕ). length l ≤ 16_777_216) is short)

-- a body of a record has shallow children
pub body_shallow : (o : Object) (kids : List Object) → kids ≡ listed o.inner → IsBody (Some o) → IsShallow 1 (in_row kids)
body_shallow o kids kids_are body = subst (IsShallow 1) (sym (ap in_row kids_are ∙ in_row-listed o.inner)) (carried_shallow 1 o.inner body.0.row)

-- what stands before the last byte of an entry's text, and the line of the opening
pub closed_is : (boot : Option ℕ) (e : Entry) (line text block : List ℕ) → line ≡ opening_line boot → text ≡ entry_text e → block ≡ (line ++ take (length text - 1) text) ++ 0 ∷ [] → block ≡ block_text boot (parts_of e) ++ 0 ∷ []
closed_is boot e line text block line_is text_is is =
    is ∙ ap₂ (λ (a b : List ℕ). (a ++ b) ++ 0 ∷ []) line_is open_is ∙ at_boot boot
  where
    open_is : take (length text - 1) text ≡ open_text (parts_of e)
    open_is =
        let whole : text ≡ open_text (parts_of e) ++ 10 ∷ [] = text_is ∙ sym (append-nil (entry_text e)) ∙ parts_closed (parts_of e) [] in
        let long : length text ≡ length (open_text (parts_of e)) + 1 = ap length whole ∙ length-append (open_text (parts_of e)) (10 ∷ []) in
        ap₂ (λ (n : ℕ) (l : List ℕ). take n l) (let cut : length text - 1 ≡ length (open_text (parts_of e)) = omega (arith, long) in cut) whole
        ∙ take_at (open_text (parts_of e)) (10 ∷ []) (length (open_text (parts_of e))) refl

    at_boot : (b : Option ℕ) → (opening_line b ++ open_text (parts_of e)) ++ 0 ∷ [] ≡ block_text b (parts_of e) ++ 0 ∷ []
    at_boot None = refl
    at_boot (Some ms) = refl

pub some_text : (e : Entry) (text : List ℕ) → text ≡ entry_text e → 1 ≤ length text
some_text e text is =
    let whole : text ≡ open_text (parts_of e) ++ 10 ∷ [] = is ∙ sym (append-nil (entry_text e)) ∙ parts_closed (parts_of e) [] in
    let long : length text ≡ length (open_text (parts_of e)) + 1 = ap length whole ∙ length-append (open_text (parts_of e)) (10 ∷ []) in
    omega (arith, long)

pub line_is : (boot : ℕ) (head : List ℕ) → head ≡ head_text boot → drop 14 head ≡ boot_line boot
line_is boot head is = ap (λ (l : List ℕ). drop 14 l) is ∙ drop_at first_line (boot_line boot) 14 refl

pub entry_written : (r : Request) (moment : ℕ) (reply : List ℕ) → IsMoment moment → IsXmlText r.target → length r.target < 2 ^ 63 → IsBody r.body → length reply < 2 ^ 63
    → IsEntry (record { moment = moment; request = r; reply = Reply reply })
entry_written r moment reply is target long body short = record { moment = is; target = (target, long); body = body; reply = short }
