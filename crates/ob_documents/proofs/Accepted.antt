-- What bytes spell is judged to be it.
use Rattle.std.proofs.Common.{◌≡◌, ℕ, suc, ◌<◌, ◌≤◌, Bool, true, false, cond, List, [], ◌∷◌, ◌++◌, length, Option, Some, None, Result, Ok, Err, refl, sym, ap, ◌∙◌, subst, append_assoc, arith}
use Rattle.std.specs.Prelude.{codes, is_some, nat_le}
use Rattle.std.specs.Ordering.{nat_cmp, eq_by_cmp}
use Rattle.std.specs.Cmp.Lexicographic.{slice_cmp, nat_list_cmp_total}
use Rattle.std.specs.FinSet as set
use Rattle.std.specs.Str.{bytes_eq}
use Rattle.std.proofs.lemmas.List.{append-nil}
use Rattle.std.proofs.lemmas.Bool.{lt-leb, eq-eqb}
use Rattle.std.proofs.lemmas.Bool.Decides.{nat_tests}
use Rattle.std.proofs.lemmas.Map.Text.{is_eq-slice_cmp}
use Rattle.std.proofs.lemmas.Slice.Eq.{bytes_eq-Decides}
use Rattle.ob_values.specs.Faults.{ValueFault, NotName}
use Rattle.ob_values.proofs.Bools.{both_false, neither_left, neither_right}
use Rattle.ob_scan.specs.declared.piece.Place.{Place}
use Rattle.ob_scan.specs.declared.piece.Place.TheVariants as places
use Rattle.ob_scan.specs.Constructs.{Construct, found, scan}
use Rattle.ob_scan.specs.Constructs as constructs
use Rattle.ob_scan.specs.Expansion.{Expands}
use Rattle.ob_object.specs.declared.kind.Kind.{Kind}
use Rattle.ob_object.specs.declared.kind.Kind.TheVariants as kinds
use Rattle.ob_object.specs.declared.head.Head.{Head}
use Rattle.ob_object.specs.Kinds.{number, same_kind}
use Rattle.ob_object.specs.Fits.{fits_head, fits_name}
use Rattle.ob_object.specs.Object.{Objects, Object, listed, in_row, empty_head, listed-in_row, in_row-listed}
use Rattle.ob_object.specs.WellFormed.{NamesDiffer, has_name as is_named, named, is_taken, with_child}
use Rattle.ob_encoding.specs.declared.field.TextField.{TextField}
use Rattle.ob_encoding.specs.declared.field.TextField.TheVariants as texts
use Rattle.ob_encoding.specs.declared.field.Field.{Field}
use Rattle.ob_encoding.specs.declared.field.Field.TheVariants as field
use Rattle.ob_encoding.specs.declared.part.Part.{Part}
use Rattle.ob_encoding.specs.declared.part.Part.TheVariants as part
use Rattle.ob_encoding.specs.Kinds.{same, kind_of}
use Rattle.ob_encoding.specs.Fields.{field_of, known}
use Rattle.ob_encoding.specs.Parts.{ReadsPart, put_part}
use Rattle.ob_documents.specs.Attributes.{has_name, AreDistinct, Says, Tell, NamespaceBy, NamespaceIs}
use Rattle.ob_documents.specs.Grammar.{attributes_of, name_of, Element, empty, full, Content, nothing, pause, child, IsMark, AreSkipped, IsDocument}
use Rattle.ob_documents.specs.Spelling.{place_behind, Cuts, none as no_more, some, Spells}
use Rattle.ob_documents.proofs.One.{kind_back}
use Rattle.ob_documents.proofs.Fitting.{same_true, known_parts, no_name, fit_parts, fit_whole, same_part, part_keeps, IsNoNamePart, no_name_part, kind_stays, tell_name}
use Rattle.ob_xml.specs.declared.doc.Doc.{Doc}
use Rattle.ob_xml.specs.declared.refused.Why.{Why}
use Rattle.ob_xml.specs.declared.refused.Why.TheVariants as causes
use Rattle.ob_xml.specs.declared.meaning.Said.{Said}
use Rattle.ob_xml.specs.declared.meaning.Said.TheVariants as said
use Rattle.ob_xml.specs.Indexes.{NameSet}
use Rattle.ob_xml.specs.Meanings.{Meaning, opening, attribute, tag_end, empty_end, closing, skipped, ending, mark, ReadsKnown, Means}
use Rattle.ob_xml.specs.Structure.{State, start, marked, between, in_tag, behind, whole, beginning, place_of, kind_in, step, bare, closed, closed_as, end_tag, opened_as, told, siblings, with_ns, is_name_twice, is_twice}
use Rattle.ob_xml.specs.Judged.{Verdict, document, is_open, Judges, complete, goes_on, max_len, JudgedBy, Judged}
use Rattle.ob_xml.proofs.Unique.{OneText}

-- the constructs lead from one state to another
pub data Leads : State → List Construct → State → Type 0 where
  done : (s : State) → Leads s [] s
  on : (s u t : State) (c : Construct) (m : Meaning) (cs : List Construct) → Means (kind_in s) c m → step s m ≡ Ok u → Leads u cs t → Leads s (c ∷ cs) t

leads_then : (s : State) (cs : List Construct) (t : State) (ds : List Construct) (u : State) → Leads s cs t → Leads t ds u → Leads s (cs ++ ds) u
leads_then s cs t ds u (done x) q = q
leads_then s cs t ds u (on x y z c m es h e p) q = on x y u c m (es ++ ds) h e (leads_then y es z ds u p q)

-- ---- names of attributes, as a set

abbrev pub Unseen : NameSet → List (List ℕ × List ℕ) → Type 0
Unseen names [] = Unit {0}
Unseen names (x ∷ xs) = (set.contains names x.0 ≡ false) × Unseen names xs

unseen_more : (names : NameSet) (n : List ℕ) (xs : List (List ℕ × List ℕ)) → has_name xs n ≡ false → Unseen names xs → Unseen (set.insert names n) xs
unseen_more names n [] h u = tt
unseen_more names n (x ∷ xs) h u = (
  set.contains-insert nat_list_cmp_total names n x.0 ∙ both_false (eq_by_cmp (slice_cmp nat_cmp) x.0 n) (set.contains names x.0) (is_eq-slice_cmp x.0 n ∙ neither_left (same x.0 n) (has_name xs n) h) u.0,
  unseen_more names n xs (neither_right (same x.0 n) (has_name xs n) h) u.1,
)

none_seen : (xs : List (List ℕ × List ℕ)) → Unseen set.empty xs
none_seen [] = tt
none_seen (x ∷ xs) = (set.contains-empty (slice_cmp nat_cmp) x.0, none_seen xs)

-- ---- what attributes make of the namespace

abbrev pub NsStep : Option Field → List Object → List ℕ × List ℕ → Option (List ℕ) → Option (List ℕ) → Type 0
NsStep None outer x a m = (text : List ℕ) × Expands x.1 text × (m ≡ with_ns a outer x.0 text)
NsStep (Some f) outer x a m = m ≡ a

abbrev pub NsAfter : List Object → Kind → List (List ℕ × List ℕ) → Option (List ℕ) → Option (List ℕ) → Type 0
NsAfter outer k [] a b = b ≡ a
NsAfter outer k (x ∷ xs) a b = (m : Option (List ℕ)) × NsStep (known k x.0) outer x a m × NsAfter outer k xs m b

pub inner_step : (o : Option Field) (parent : Object) (more : List Object) (x : List ℕ × List ℕ) (a m : Option (List ℕ)) → NsStep o (parent ∷ more) x a m → m ≡ a
inner_step None parent more x a m s = s.2
inner_step (Some f) parent more x a m s = s

-- below the root it stays
pub ns_inner : (parent : Object) (more : List Object) (k : Kind) (xs : List (List ℕ × List ℕ)) (a b : Option (List ℕ)) → NsAfter (parent ∷ more) k xs a b → b ≡ a
ns_inner parent more k [] a b n = n
ns_inner parent more k (x ∷ xs) a b n = ns_inner parent more k xs n.0 b n.2 ∙ inner_step (known k x.0) parent more x a n.0 n.1

pub root_none : (o : Option Field) (x : List ℕ × List ℕ) (a m : Option (List ℕ)) → same x.0 (codes "xmlns") ≡ false → NsStep o [] x a m → m ≡ a
root_none None x a m other s = s.2 ∙ off (same x.0 (codes "xmlns")) (Some s.0) a other
  where
    off : (b : Bool) (t e : Option (List ℕ)) → b ≡ false → cond b t e ≡ e
    off true t e p = absurd cc
    off false t e p = refl
root_none (Some f) x a m other s = s

pub ns_none : (k : Kind) (xs : List (List ℕ × List ℕ)) (a b : Option (List ℕ)) → has_name xs (codes "xmlns") ≡ false → NsAfter [] k xs a b → b ≡ a
ns_none k [] a b h n = n
ns_none k (x ∷ xs) a b h n =
    ns_none k xs n.0 b (neither_right (same x.0 (codes "xmlns")) (has_name xs (codes "xmlns")) h) n.2
    ∙ root_none (known k x.0) x a n.0 (neither_left (same x.0 (codes "xmlns")) (has_name xs (codes "xmlns")) h) n.1

pub xmlns_unknown : (k : Kind) → known k (codes "xmlns") ≡ None
unfolding field_of
xmlns_unknown k = refl

-- at the root it is what the attribute xmlns stands for
ns_root : OneText → (k : Kind) (xs : List (List ℕ × List ℕ)) (ns b : Option (List ℕ)) → AreDistinct xs → NamespaceIs xs ns → NsAfter [] k xs None b → b ≡ ns
ns_root texts k [] ns b d h n = n ∙ sym h
ns_root texts k (x ∷ xs) ns b d h n = by (same x.0 (codes "xmlns")) refl h (λ r m. ns_root texts k xs ns b d.1 r m)
  where
    by : (v : Bool) → same x.0 (codes "xmlns") ≡ v → NamespaceBy v x.1 ns (NamespaceIs xs ns) → (NamespaceIs xs ns → NsAfter [] k xs None b → b ≡ ns) → b ≡ ns
    by true e h next =
        let name : x.0 ≡ codes "xmlns" = same_true x.0 (codes "xmlns") e in
        let unknown : known k x.0 ≡ None = ap (known k) name ∙ xmlns_unknown k in
        let s : NsStep None [] x None n.0 = subst (λ (o : Option Field). NsStep o [] x None n.0) unknown n.1 in
        let given : n.0 ≡ Some s.0 = s.2 ∙ ap (λ (t : Bool). cond t (Some s.0) None) e in
        let rest : has_name xs (codes "xmlns") ≡ false = subst (λ (m : List ℕ). has_name xs m ≡ false) name d.0 in
        ns_none k xs n.0 b rest n.2 ∙ given ∙ ap (λ (t : List ℕ). Some t) (texts x.1 s.0 h.0 s.1 h.1) ∙ sym h.2
    by false e h next =
        let kept : n.0 ≡ None = root_none (known k x.0) x None n.0 e n.1 in
        next h (subst (λ (m : Option (List ℕ)). NsAfter [] k xs m b) kept n.2)

-- ---- one attribute

is_name : field_of (codes "name") ≡ Some (field.Text texts.Name)
unfolding field_of
is_name = refl

some_field : (f g : Field) (a : Option Field) → a ≡ Some f → a ≡ Some g → f ≡ g
some_field f g a p q = cc

part_step : (ns : Option (List ℕ)) (names : NameSet) (h : Head) (outer : List Object) (n : List ℕ) (p : Part) → set.contains names n ≡ false → fits_head (put_part p h) ≡ true → is_twice p (siblings outer) ≡ false
    → step (in_tag ns names h outer) (attribute n (Ok (said.Part p))) ≡ Ok (in_tag ns (set.insert names n) (put_part p h) outer)
part_step ns names h outer n p a b c = rw (a, b, c) refl

other_step : (ns : Option (List ℕ)) (names : NameSet) (h : Head) (outer : List Object) (n text : List ℕ) → set.contains names n ≡ false
    → step (in_tag ns names h outer) (attribute n (Ok (said.Other text))) ≡ Ok (in_tag (with_ns ns outer n text) (set.insert names n) h outer)
other_step ns names h outer n text a = rw a refl

text_once : (f : TextField) (t : List ℕ) (os : List Object) → IsNoNamePart (part.Text f t) → is_name_twice f t os ≡ false
text_once texts.Name t os n = absurd n
text_once texts.Href t os n = refl
text_once texts.Display t os n = refl
text_once texts.DisplayName t os n = refl
text_once texts.Icon t os n = refl
text_once texts.Range t os n = refl
text_once texts.Tz t os n = refl
text_once texts.Unit t os n = refl

part_once : (p : Part) (os : List Object) → IsNoNamePart p → is_twice p os ≡ false
part_once (part.Text f t) os n = text_once f t os n
part_once (part.Words f ws) os n = refl
part_once (part.Null b) os n = refl
part_once (part.Val v) os n = refl
part_once (part.Max v) os n = refl
part_once (part.Min v) os n = refl
part_once (part.Precision z) os n = refl
part_once (part.Status s) os n = refl
part_once (part.Writable b) os n = refl

name_fits : (h : Head) (t : List ℕ) → fits_head h ≡ true → fits_name (Some t) ≡ true → fits_head (put_part (part.Text texts.Name t) h) ≡ true
name_fits h t fits e =
    let p = fit_parts h fits in
    fit_whole (put_part (part.Text texts.Name t) h) (record { name = e; is = p.is; of = p.of; input = p.input; output = p.output; slot = p.slot; min = p.min; max = p.max })

-- the part fits, and is no sibling's name
record IsGood (p : Part) (h : Head) (os : List Object) : Type 0 where
  fits : fits_head (put_part p h) ≡ true
  once : is_twice p os ≡ false

-- ... where it is the name that the object has in the end
named_part : (h : Head) (f : Field) (n text : List ℕ) (p : Part) (final : Option (List ℕ)) (os : List Object) → field_of n ≡ Some f → n ≡ codes "name" → ReadsPart h.kind f text (Ok p)
    → (put_part p h).name ≡ final → fits_name final ≡ true → is_taken final os ≡ false → fits_head h ≡ true → IsGood p h os
named_part h f n text p final os known_is is r keeps fits_final free fits =
    let same_field : f ≡ field.Text texts.Name = some_field f (field.Text texts.Name) (field_of n) known_is (ap field_of is ∙ is_name) in
    let r' : ReadsPart h.kind (field.Text texts.Name) text (Ok p) = subst (λ (g : Field). ReadsPart h.kind g text (Ok p)) same_field r in
    let part_is : p ≡ part.Text texts.Name text = same_part p (part.Text texts.Name text) r' in
    let final_is : Some text ≡ final = sym (ap (λ (q : Part). (put_part q h).name) part_is) ∙ keeps in
    record {
      fits = subst (λ (q : Part). fits_head (put_part q h) ≡ true) (sym part_is) (name_fits h text fits (subst (λ (o : Option (List ℕ)). fits_name o ≡ true) (sym final_is) fits_final));
      once = subst (λ (q : Part). is_twice q os ≡ false) (sym part_is) (subst (λ (o : Option (List ℕ)). is_taken o os ≡ false) (sym final_is) free);
    }

record AttributeLeads (ns : Option (List ℕ)) (names : NameSet) (before after : Head) (outer : List Object) (x : List ℕ × List ℕ) : Type 0 where
  meaning : Meaning
  ns_after : Option (List ℕ)
  means : Means before.kind (constructs.attribute x.0 x.1) meaning
  steps : step (in_tag ns names before outer) meaning ≡ Ok (in_tag ns_after (set.insert names x.0) after outer)
  ns_step : NsStep (known before.kind x.0) outer x ns ns_after
  fits : fits_head after ≡ true
  kind_is : after.kind ≡ before.kind

attribute_leads : (o : Option Field) (ns : Option (List ℕ)) (names : NameSet) (before after : Head) (outer : List Object) (x : List ℕ × List ℕ) (text : List ℕ)
    → known before.kind x.0 ≡ o → Expands x.1 text → Says o before.kind text before after → set.contains names x.0 ≡ false → fits_head before ≡ true
    → ((f : Field) (p : Part) → known before.kind x.0 ≡ Some f → ReadsPart before.kind f text (Ok p) → after ≡ put_part p before → IsGood p before (siblings outer))
    → AttributeLeads ns names before after outer x
attribute_leads None ns names before after outer x text e ex s new fits good =
    record {
      meaning = attribute x.0 (Ok (said.Other text));
      ns_after = with_ns ns outer x.0 text;
      means = (text, ex, (Ok (said.Other text), subst (λ (o : Option Field). ReadsKnown o before.kind text (Ok (said.Other text))) (sym e) refl, refl));
      steps = other_step ns names before outer x.0 text new ∙ ap (λ (h : Head). Ok (in_tag (with_ns ns outer x.0 text) (set.insert names x.0) h outer)) (sym s);
      ns_step = subst (λ (o : Option Field). NsStep o outer x ns (with_ns ns outer x.0 text)) (sym e) (text, ex, refl);
      fits = subst (λ (h : Head). fits_head h ≡ true) (sym s) fits;
      kind_is = ap (λ (h : Head). h.kind) s;
    }
attribute_leads (Some f) ns names before after outer x text e ex s new fits good =
    let g = good f s.0 e s.1 s.2 in
    record {
      meaning = attribute x.0 (Ok (said.Part s.0));
      ns_after = ns;
      means = (text, ex, (Ok (said.Part s.0), subst (λ (o : Option Field). ReadsKnown o before.kind text (Ok (said.Part s.0))) (sym e) (Ok s.0, s.1, refl), refl));
      steps = part_step ns names before outer x.0 s.0 new g.fits g.once ∙ ap (λ (h : Head). Ok (in_tag ns (set.insert names x.0) h outer)) (sym s.2);
      ns_step = subst (λ (o : Option Field). NsStep o outer x ns ns) (sym e) refl;
      fits = subst (λ (h : Head). fits_head h ≡ true) (sym s.2) g.fits;
      kind_is = ap (λ (h : Head). h.kind) s.2 ∙ kind_stays s.0 before;
    }

-- ---- all attributes of a tag

record TagLeads (ns : Option (List ℕ)) (names : NameSet) (before after : Head) (outer : List Object) (xs : List (List ℕ × List ℕ)) : Type 0 where
  ns_after : Option (List ℕ)
  names_after : NameSet
  leads : Leads (in_tag ns names before outer) (attributes_of xs) (in_tag ns_after names_after after outer)
  told_ns : NsAfter outer before.kind xs ns ns_after

attributes_lead : (xs : List (List ℕ × List ℕ)) (ns : Option (List ℕ)) (names : NameSet) (before after : Head) (outer : List Object) → Tell before.kind xs before after → AreDistinct xs → Unseen names xs
    → fits_head before ≡ true → fits_head after ≡ true → is_taken after.name (siblings outer) ≡ false → TagLeads ns names before after outer xs
attributes_lead [] ns names before after outer t d u fits last free =
    record {
      ns_after = ns;
      names_after = names;
      leads = subst (λ (h : Head). Leads (in_tag ns names before outer) [] (in_tag ns names h outer)) (sym t) (done (in_tag ns names before outer));
      told_ns = refl;
    }
attributes_lead (x ∷ xs) ns names before after outer t d u fits last free =
    let middle : Head = t.0 in
    let good = λ (f : Field) (p : Part) (e : known before.kind x.0 ≡ Some f) (r : ReadsPart before.kind f t.1.0 (Ok p)) (m : middle ≡ put_part p before). choose (same x.0 (codes "name")) refl f p e r m in
    let a = attribute_leads (known before.kind x.0) ns names before middle outer x t.1.0 refl t.1.1 t.1.2 u.0 fits good in
    let rest_told : Tell middle.kind xs middle after = subst (λ (k : Kind). Tell k xs middle after) (sym a.kind_is) t.2 in
    let rest = attributes_lead xs a.ns_after (set.insert names x.0) middle after outer rest_told d.1 (unseen_more names x.0 xs d.0 u.1) a.fits last free in
    record {
      ns_after = rest.ns_after;
      names_after = rest.names_after;
      leads = on (in_tag ns names before outer) (in_tag a.ns_after (set.insert names x.0) middle outer) (in_tag rest.ns_after rest.names_after after outer) (constructs.attribute x.0 x.1) a.meaning (attributes_of xs) a.means a.steps rest.leads;
      told_ns = (a.ns_after, a.ns_step, subst (λ (k : Kind). NsAfter outer k xs a.ns_after rest.ns_after) a.kind_is rest.told_ns);
    }
  where
    choose : (v : Bool) → same x.0 (codes "name") ≡ v → (f : Field) (p : Part) → known before.kind x.0 ≡ Some f → ReadsPart before.kind f t.1.0 (Ok p) → t.0 ≡ put_part p before → IsGood p before (siblings outer)
    choose true e f p k r m =
        let is : x.0 ≡ codes "name" = same_true x.0 (codes "name") e in
        let later : has_name xs (codes "name") ≡ false = subst (λ (n : List ℕ). has_name xs n ≡ false) is d.0 in
        let keeps : (put_part p before).name ≡ after.name = sym (ap (λ (h : Head). h.name) m) ∙ sym (tell_name before.kind xs t.0 after later t.2) in
        named_part before f x.0 t.1.0 p after.name (siblings outer) (known_parts before.kind x.0 f k).field_is is r keeps (fit_parts after last).name free fits
    choose false e f p k r m =
        let parts = known_parts before.kind x.0 f k in
        let other = no_name x.0 f parts.field_is e in
        record { fits = part_keeps before f t.1.0 p parts.applies_is other r fits; once = part_once p (siblings outer) (no_name_part before.kind f t.1.0 p other r) }

-- ---- siblings of different names

pub taken_none : (n : Option (List ℕ)) → is_taken n [] ≡ false
taken_none None = refl
taken_none (Some n) = refl

not_among : (m : List ℕ) (xs : List Object) (o : Object) (rest : List Object) → is_taken (Some m) (xs ++ o ∷ rest) ≡ false → is_named m o.head.name ≡ false
not_among m [] o rest h = by (is_named m o.head.name) h
  where
    by : (v : Bool) → is_some (cond v (Some o) (named m rest)) ≡ false → v ≡ false
    by true h = absurd cc
    by false h = refl
not_among m (x ∷ xs) o rest h = not_among m xs o rest (by (is_named m x.head.name) h)
  where
    by : (v : Bool) → is_some (cond v (Some x) (named m (xs ++ o ∷ rest))) ≡ false → is_taken (Some m) (xs ++ o ∷ rest) ≡ false
    by true h = absurd cc
    by false h = h

same_swap : (a b : List ℕ) → bytes_eq a b ≡ false → bytes_eq b a ≡ false
same_swap a b h = on (bytes_eq b a) refl
  where
    on : (v : Bool) → bytes_eq b a ≡ v → v ≡ false
    on true p = sym ((bytes_eq-Decides a b).1 (sym ((bytes_eq-Decides b a).0 p))) ∙ h
    on false p = refl

names_apart : (n : List ℕ) (m o : Option (List ℕ)) (xs rest : List Object) (p : Object) → p.head.name ≡ Some n → m ≡ o → is_taken o (xs ++ p ∷ rest) ≡ false → is_named n m ≡ false
names_apart n None o xs rest p e i h = refl
names_apart n (Some m) o xs rest p e i h =
    let there : is_taken (Some m) (xs ++ p ∷ rest) ≡ false = subst (λ (x : Option (List ℕ)). is_taken x (xs ++ p ∷ rest) ≡ false) (sym i) h in
    same_swap n m (subst (λ (x : Option (List ℕ)). is_named m x ≡ false) e (not_among m xs p rest there))

still_free : (n : List ℕ) (x : Object) (xs : List Object) → is_named n x.head.name ≡ false → is_taken (Some n) xs ≡ false → is_taken (Some n) (x ∷ xs) ≡ false
still_free n x xs p q = rw p q

free_before : (xs : List Object) (o : Object) (rest : List Object) → NamesDiffer (xs ++ o ∷ rest) → is_taken o.head.name xs ≡ false
free_before [] o rest d = taken_none o.head.name
free_before (x ∷ xs) o rest d = by o.head.name refl (free_before xs o rest d.1)
  where
    by : (n : Option (List ℕ)) → o.head.name ≡ n → is_taken o.head.name xs ≡ false → is_taken n (x ∷ xs) ≡ false
    by None e free = refl
    by (Some n) e free = still_free n x xs (names_apart n x.head.name x.head.name xs rest o e refl d.0) (subst (λ (m : Option (List ℕ)). is_taken m xs ≡ false) e free)

-- ---- elements

kind_same : (k : Kind) → same_kind k k ≡ true
kind_same k = eq-eqb (number k) (number k) refl

opens : (ns : Option (List ℕ)) (h : Head) (outer : List Object) → length outer < 32 → step (between ns outer) (opening (name_of h)) ≡ Ok (in_tag ns set.empty (empty_head h.kind) outer)
opens ns h outer few = rw (kind_back h.kind, lt-leb 32 (length outer) few) refl

closes : (ns : Option (List ℕ)) (o : Object) (outer : List Object) → step (between ns (o ∷ outer)) (closing (name_of o.head)) ≡ Ok (closed ns o outer)
closes ns o outer = rw (kind_back o.head.kind, kind_same o.head.kind) refl

pub empty_fits : (k : Kind) → fits_head (empty_head k) ≡ true
empty_fits k = refl

abbrev pub object_with : Head → Objects → Object
object_with g r = record { head = g; inner = r }

abbrev object_of : Head → List Object → Object
object_of g xs = record { head = g; inner = in_row xs }

more_child : (g : Head) (xs : List Object) (o : Object) → with_child (object_of g xs) o ≡ object_of g (xs ++ o ∷ [])
more_child g xs o = ap (λ (ys : List Object). object_of g (ys ++ o ∷ [])) (listed-in_row xs)

record ElementLeads (ns : Option (List ℕ)) (o : Object) (xs : List (List ℕ × List ℕ)) (es : List Construct) (outer : List Object) : Type 0 where
  ns_after : Option (List ℕ)
  leads : Leads (between ns outer) es (closed ns_after o outer)
  told_ns : NsAfter outer o.head.kind xs ns ns_after

mutual
  element_leads : (level : ℕ) (xs : List (List ℕ × List ℕ)) (o : Object) (es : List Construct) → Element level xs o es → (ns : Option (List ℕ)) (outer : List Object) → level ≡ length outer → is_taken o.head.name (siblings outer) ≡ false
      → ElementLeads ns o xs es outer
  element_leads level xs o es (empty l h ys few d) ns outer e free =
      let t = attributes_lead ys ns set.empty (empty_head h.kind) h outer d.told d.distinct (none_seen ys) (empty_fits h.kind) d.fits free in
      let tag : State = in_tag t.ns_after t.names_after h outer in
      let last : State = closed t.ns_after (bare h) outer in
      record {
        ns_after = t.ns_after;
        leads = on (between ns outer) (in_tag ns set.empty (empty_head h.kind) outer) last (constructs.opening (name_of h)) (opening (name_of h)) (attributes_of ys ++ (constructs.empty_end ∷ [])) refl (opens ns h outer (subst (λ (n : ℕ). n < 32) e few))
            (leads_then (in_tag ns set.empty (empty_head h.kind) outer) (attributes_of ys) tag (constructs.empty_end ∷ []) last t.leads (on tag last last constructs.empty_end empty_end [] refl refl (done last)));
        told_ns = t.told_ns;
      }
  element_leads level xs o es (full l h ys kids inner few d names c) ns outer e free =
      let t = attributes_lead ys ns set.empty (empty_head h.kind) h outer d.told d.distinct (none_seen ys) (empty_fits h.kind) d.fits free in
      let tag : State = in_tag t.ns_after t.names_after h outer in
      let element : Object = record { head = h; inner = kids } in
      let last : State = closed t.ns_after element outer in
      let within = content_leads (suc l) kids inner c t.ns_after h [] outer (ap suc e) names in
      let full_row : object_of h (listed kids) ≡ element = ap (λ (r : Objects). object_with h r) (in_row-listed kids) in
      let filled : Leads (between t.ns_after (bare h ∷ outer)) inner (between t.ns_after (element ∷ outer)) = subst (λ (x : Object). Leads (between t.ns_after (bare h ∷ outer)) inner (between t.ns_after (x ∷ outer))) full_row within in
      record {
        ns_after = t.ns_after;
        leads = on (between ns outer) (in_tag ns set.empty (empty_head h.kind) outer) last (constructs.opening (name_of h)) (opening (name_of h)) (attributes_of ys ++ (constructs.tag_end ∷ (inner ++ (constructs.closing (name_of h) ∷ [])))) refl (opens ns h outer (subst (λ (n : ℕ). n < 32) e few))
            (leads_then (in_tag ns set.empty (empty_head h.kind) outer) (attributes_of ys) tag (constructs.tag_end ∷ (inner ++ (constructs.closing (name_of h) ∷ []))) last t.leads
            (on tag (between t.ns_after (bare h ∷ outer)) last constructs.tag_end tag_end (inner ++ (constructs.closing (name_of h) ∷ [])) refl refl
            (leads_then (between t.ns_after (bare h ∷ outer)) inner (between t.ns_after (element ∷ outer)) (constructs.closing (name_of h) ∷ []) last filled
            (on (between t.ns_after (element ∷ outer)) last last (constructs.closing (name_of h)) (closing (name_of h)) [] refl (closes t.ns_after element outer) (done last)))));
        told_ns = t.told_ns;
      }

  content_leads : (level : ℕ) (row : Objects) (cs : List Construct) → Content level row cs → (ns : Option (List ℕ)) (g : Head) (so_far outer : List Object) → level ≡ suc (length outer) → NamesDiffer (so_far ++ listed row)
      → Leads (between ns (object_of g so_far ∷ outer)) cs (between ns (object_of g (so_far ++ listed row) ∷ outer))
  content_leads level row cs (nothing l) ns g so_far outer e names =
      subst (λ (xs : List Object). Leads (between ns (object_of g so_far ∷ outer)) [] (between ns (object_of g xs ∷ outer))) (sym (append-nil so_far)) (done (between ns (object_of g so_far ∷ outer)))
  content_leads level row cs (pause l kids ds h) ns g so_far outer e names =
      on (between ns (object_of g so_far ∷ outer)) (between ns (object_of g so_far ∷ outer)) (between ns (object_of g (so_far ++ listed kids) ∷ outer)) constructs.skipped skipped ds refl refl (content_leads l kids ds h ns g so_far outer e names)
  content_leads level row cs (child l xs o kids es ds f h) ns g so_far outer e names =
      let parent : Object = object_of g so_far in
      let free : is_taken o.head.name (siblings (parent ∷ outer)) ≡ false = subst (λ (os : List Object). is_taken o.head.name os ≡ false) (sym (listed-in_row so_far)) (free_before so_far o (listed kids) names) in
      let first = element_leads l xs o es f ns (parent ∷ outer) e free in
      let same_ns : first.ns_after ≡ ns = ns_inner parent outer o.head.kind xs ns first.ns_after first.told_ns in
      let one : Leads (between ns (parent ∷ outer)) es (between ns (object_of g (so_far ++ o ∷ []) ∷ outer)) =
      subst (λ (p : Object). Leads (between ns (parent ∷ outer)) es (between ns (p ∷ outer))) (more_child g so_far o)
      (subst (λ (n : Option (List ℕ)). Leads (between ns (parent ∷ outer)) es (between n (with_child parent o ∷ outer))) same_ns first.leads) in
      let all : (so_far ++ o ∷ []) ++ listed kids ≡ so_far ++ o ∷ listed kids = append_assoc so_far (o ∷ []) (listed kids) in
      let rest = content_leads l kids ds h ns g (so_far ++ o ∷ []) outer e (subst NamesDiffer (sym all) names) in
      leads_then (between ns (parent ∷ outer)) es (between ns (object_of g (so_far ++ o ∷ []) ∷ outer)) ds (between ns (object_of g (so_far ++ o ∷ listed kids) ∷ outer)) one
      (subst (λ (os : List Object). Leads (between ns (object_of g (so_far ++ o ∷ []) ∷ outer)) ds (between ns (object_of g os ∷ outer))) all rest)

-- ---- documents

skips_lead : (s : State) (cs : List Construct) → step s skipped ≡ Ok s → AreSkipped cs → Leads s cs s
skips_lead s [] e h = done s
skips_lead s (constructs.skipped ∷ cs) e h = on s s s constructs.skipped skipped cs refl e (skips_lead s cs e h)
skips_lead s (constructs.opening n ∷ cs) e h = absurd h
skips_lead s (constructs.attribute n r ∷ cs) e h = absurd h
skips_lead s (constructs.tag_end ∷ cs) e h = absurd h
skips_lead s (constructs.empty_end ∷ cs) e h = absurd h
skips_lead s (constructs.closing n ∷ cs) e h = absurd h
skips_lead s (constructs.ending ∷ cs) e h = absurd h
skips_lead s (constructs.mark ∷ cs) e h = absurd h

-- behind the states of the very start, what leads on from between the tags leads on
abbrev MayBegin : Construct → Type 0
MayBegin (constructs.opening n) = Unit {0}
MayBegin (constructs.attribute n r) = ⊥
MayBegin constructs.tag_end = ⊥
MayBegin constructs.empty_end = ⊥
MayBegin (constructs.closing n) = ⊥
MayBegin constructs.skipped = Unit {0}
MayBegin constructs.ending = ⊥
MayBegin constructs.mark = ⊥

start_step : (c : Construct) (m : Meaning) (u : State) → MayBegin c → Means kinds.Obj c m → step (between None []) m ≡ Ok u → step start m ≡ Ok u
start_step (constructs.opening n) m u b h e = subst (λ (x : Meaning). step start x ≡ Ok u) (sym h) (subst (λ (x : Meaning). step (between None []) x ≡ Ok u) h e)
start_step (constructs.attribute n r) m u b h e = absurd b
start_step constructs.tag_end m u b h e = absurd b
start_step constructs.empty_end m u b h e = absurd b
start_step (constructs.closing n) m u b h e = absurd b
start_step constructs.skipped m u b h e = subst (λ (x : Meaning). step start x ≡ Ok u) (sym h) (subst (λ (x : Meaning). step (between None []) x ≡ Ok u) h e)
start_step constructs.ending m u b h e = absurd b
start_step constructs.mark m u b h e = absurd b

record Begins (cs : List Construct) : Type 0 where
  first : Construct
  rest : List Construct
  may : MayBegin first
  parts_are : cs ≡ first ∷ rest

begun_by : (c : Construct) (cs : List Construct) (t : State) → MayBegin c → Leads (between None []) (c ∷ cs) t → Leads start (c ∷ cs) t
begun_by c cs t b (on s u v d m ds h e p) = on start u v d m ds h (start_step d m u b h e) p

marked_by : (c : Construct) (cs : List Construct) (t : State) → Leads (between None []) (c ∷ cs) t → Leads marked (c ∷ cs) t
marked_by c cs t (on s u v d m ds h e p) = on marked u v d m ds h e p

from_start : (cs : List Construct) (t : State) → Begins cs → Leads (between None []) cs t → Leads start cs t
from_start cs t b l = subst (λ (ds : List Construct). Leads start ds t) (sym b.parts_are) (begun_by b.first b.rest t b.may (subst (λ (ds : List Construct). Leads (between None []) ds t) b.parts_are l))

from_mark : (cs : List Construct) (t : State) → Begins cs → Leads (between None []) cs t → Leads marked cs t
from_mark cs t b l = subst (λ (ds : List Construct). Leads marked ds t) (sym b.parts_are) (marked_by b.first b.rest t (subst (λ (ds : List Construct). Leads (between None []) ds t) b.parts_are l))

element_begins : (level : ℕ) (xs : List (List ℕ × List ℕ)) (o : Object) (es rest : List Construct) → Element level xs o es → Begins (es ++ rest)
element_begins level xs o es rest (empty l h ys few d) = record { first = constructs.opening (name_of h); rest = (attributes_of ys ++ (constructs.empty_end ∷ [])) ++ rest; may = tt; parts_are = refl }
element_begins level xs o es rest (full l h ys kids inner few d names c) = record { first = constructs.opening (name_of h); rest = (attributes_of ys ++ (constructs.tag_end ∷ (inner ++ (constructs.closing (name_of h) ∷ [])))) ++ rest; may = tt; parts_are = refl }

begins : (before cs : List Construct) → AreSkipped before → Begins cs → Begins (before ++ cs)
begins [] cs h b = b
begins (constructs.skipped ∷ xs) cs h b = record { first = constructs.skipped; rest = xs ++ cs; may = tt; parts_are = refl }
begins (constructs.opening n ∷ xs) cs h b = absurd h
begins (constructs.attribute n r ∷ xs) cs h b = absurd h
begins (constructs.tag_end ∷ xs) cs h b = absurd h
begins (constructs.empty_end ∷ xs) cs h b = absurd h
begins (constructs.closing n ∷ xs) cs h b = absurd h
begins (constructs.ending ∷ xs) cs h b = absurd h
begins (constructs.mark ∷ xs) cs h b = absurd h

with_mark : (first cs : List Construct) (t : State) → IsMark first → Begins cs → Leads (between None []) cs t → Leads start (first ++ cs) t
with_mark [] cs t m b l = from_start cs t b l
with_mark (constructs.mark ∷ []) cs t m b l = on start marked t constructs.mark mark cs refl refl (from_mark cs t b l)
with_mark (constructs.mark ∷ (c ∷ ds)) cs t m b l = absurd m
with_mark (constructs.opening n ∷ ds) cs t m b l = absurd m
with_mark (constructs.attribute n r ∷ ds) cs t m b l = absurd m
with_mark (constructs.tag_end ∷ ds) cs t m b l = absurd m
with_mark (constructs.empty_end ∷ ds) cs t m b l = absurd m
with_mark (constructs.closing n ∷ ds) cs t m b l = absurd m
with_mark (constructs.skipped ∷ ds) cs t m b l = absurd m
with_mark (constructs.ending ∷ ds) cs t m b l = absurd m

abbrev pub doc_of : Option (List ℕ) → Object → Doc
doc_of ns o = record { ns = ns; root = o }

document_leads : OneText → (ns : Option (List ℕ)) (o : Object) (cs : List Construct) → IsDocument ns o cs → Leads beginning cs (behind (doc_of ns o))
document_leads texts ns o cs d =
    let e = element_leads 0 d.attributes o d.element d.is_element None [] refl (taken_none o.head.name) in
    let ns_is : e.ns_after ≡ ns = root_ns d.attributes o d.element d.is_element d.namespace e.ns_after e.told_ns in
    let element : Leads (between None []) d.element (behind (doc_of ns o)) = subst (λ (n : Option (List ℕ)). Leads (between None []) d.element (behind (doc_of n o))) ns_is e.leads in
    let after : Leads (between None []) (d.element ++ d.after) (behind (doc_of ns o)) = leads_then (between None []) d.element (behind (doc_of ns o)) d.after (behind (doc_of ns o)) element (skips_lead (behind (doc_of ns o)) d.after refl d.after_skipped) in
    let all : Leads (between None []) (d.before ++ (d.element ++ d.after)) (behind (doc_of ns o)) = leads_then (between None []) d.before (between None []) (d.element ++ d.after) (behind (doc_of ns o)) (skips_lead (between None []) d.before refl d.before_skipped) after in
    subst (λ (ds : List Construct). Leads start ds (behind (doc_of ns o))) (sym d.parts)
    (with_mark d.first (d.before ++ (d.element ++ d.after)) (behind (doc_of ns o)) d.is_mark (begins d.before (d.element ++ d.after) d.before_skipped (element_begins 0 d.attributes o d.element d.after d.is_element)) all)
  where
    root_ns : (xs : List (List ℕ × List ℕ)) (p : Object) (es : List Construct) → Element 0 xs p es → NamespaceIs xs ns → (b : Option (List ℕ)) → NsAfter [] p.head.kind xs None b → b ≡ ns
    root_ns xs p es (empty l h ys few g) n b a = ns_root texts h.kind ys ns b g.distinct n a
    root_ns xs p es (full l h ys kids inner few g names c) n b a = ns_root texts h.kind ys ns b g.distinct n a

-- ---- from the constructs to the verdict

abbrev pub place_in : State → Place
place_in start = places.Start
place_in marked = places.Marked
place_in (between ns outer) = places.Between
place_in (in_tag ns names h outer) = places.InTag
place_in (behind d) = places.Between
place_in (whole d) = places.Between

-- what isn't the end
abbrev pub NotEnding : Construct → Type 0
NotEnding (constructs.opening n) = Unit {0}
NotEnding (constructs.attribute n r) = Unit {0}
NotEnding constructs.tag_end = Unit {0}
NotEnding constructs.empty_end = Unit {0}
NotEnding (constructs.closing n) = Unit {0}
NotEnding constructs.skipped = Unit {0}
NotEnding constructs.ending = ⊥
NotEnding constructs.mark = Unit {0}

whole_stuck : (x d : Doc) (cs : List Construct) → Leads (whole x) cs (behind d) → ⊥
whole_stuck x d cs (on s u t c m ds h e p) = absurd (failed m u e)
  where
    failed : (m : Meaning) (u : State) → step (whole x) m ≡ Ok u → ⊥
    failed m u e = absurd cc

open_before : (s : State) (m : Meaning) (t : State) → step s m ≡ Ok t → is_open s ≡ true
open_before start m t e = refl
open_before marked m t e = refl
open_before (between ns outer) m t e = refl
open_before (in_tag ns names h outer) m t e = refl
open_before (behind d) m t e = refl
open_before (whole d) m t e = absurd cc

scan_there : (s : State) (bytes rest : List ℕ) (c : Construct) → is_open s ≡ true → scan (place_in s) true bytes ≡ found c rest → scan (place_of s) true bytes ≡ found c rest
scan_there start bytes rest c o e = e
scan_there marked bytes rest c o e = e
scan_there (between ns outer) bytes rest c o e = e
scan_there (in_tag ns names h outer) bytes rest c o e = e
scan_there (behind d) [] rest c o e = absurd cc
scan_there (behind d) (b ∷ bytes) rest c o e = e
scan_there (whole d) bytes rest c o e = absurd cc

pub same_state : (u t : State) (a b : Result State Why) → a ≡ Ok u → b ≡ Ok t → a ≡ b → u ≡ t
same_state u t a b p q e = cc

ok_place : (u t : State) (p : Place) → ◌≡◌ {A = Result State Why} (Ok u) (Ok t) → place_in u ≡ p → place_in t ≡ p
ok_place u t p e h = subst (λ (x : State). place_in x ≡ p) (same_state u t (Ok u) (Ok t) refl refl e) h

closed_place : (ns : Option (List ℕ)) (o : Object) (outer : List Object) → place_in (closed ns o outer) ≡ places.Between
closed_place ns o [] = refl
closed_place ns o (parent ∷ outer) = refl

chosen_place : (v : Bool) (why : Why) (u t : State) (p : Place) → cond v (Err why) (Ok u) ≡ Ok t → place_in u ≡ p → place_in t ≡ p
chosen_place true why u t p e h = absurd cc
chosen_place false why u t p e h = ok_place u t p e h

opened_place : (o : Option Kind) (ns : Option (List ℕ)) (outer : List Object) (t : State) → opened_as o ns outer ≡ Ok t → place_in t ≡ places.InTag
opened_place None ns outer t e = absurd cc
opened_place (Some k) ns outer t e = chosen_place (nat_le 32 (length outer)) causes.Deep (in_tag ns set.empty (empty_head k) outer) t places.InTag e refl

opening_place : (s : State) (n : List ℕ) (t : State) → step s (opening n) ≡ Ok t → place_in t ≡ places.InTag
opening_place start n t e = opened_place (kind_of n) None [] t e
opening_place marked n t e = opened_place (kind_of n) None [] t e
opening_place (between ns outer) n t e = opened_place (kind_of n) ns outer t e
opening_place (in_tag ns names h outer) n t e = absurd cc
opening_place (behind d) n t e = absurd cc
opening_place (whole d) n t e = absurd cc

kept_place : (fit twice : Bool) (u t : State) → cond fit (cond twice (Err causes.SameName) (Ok u)) (Err (causes.Value NotName)) ≡ Ok t → place_in u ≡ places.InTag → place_in t ≡ places.InTag
kept_place true twice u t e h = chosen_place twice causes.SameName u t places.InTag e h
kept_place false twice u t e h = absurd cc

told_place : (ns : Option (List ℕ)) (names : NameSet) (h : Head) (outer : List Object) (n : List ℕ) (answer : Result Said ValueFault) (t : State) → told ns names h outer n answer ≡ Ok t → place_in t ≡ places.InTag
told_place ns names h outer n (Err f) t e = absurd cc
told_place ns names h outer n (Ok (said.Other text)) t e = ok_place (in_tag (with_ns ns outer n text) (set.insert names n) h outer) t places.InTag e refl
told_place ns names h outer n (Ok (said.Part p)) t e = kept_place (fits_head (put_part p h)) (is_twice p (siblings outer)) (in_tag ns (set.insert names n) (put_part p h) outer) t e refl

seen_place : (seen : Bool) (r : Result State Why) (t : State) → cond seen (Err causes.Twice) r ≡ Ok t → (r ≡ Ok t → place_in t ≡ places.InTag) → place_in t ≡ places.InTag
seen_place true r t e h = absurd cc
seen_place false r t e h = h e

attribute_place : (s : State) (n : List ℕ) (answer : Result Said ValueFault) (t : State) → step s (attribute n answer) ≡ Ok t → place_in t ≡ places.InTag
attribute_place start n answer t e = absurd cc
attribute_place marked n answer t e = absurd cc
attribute_place (between ns outer) n answer t e = absurd cc
attribute_place (in_tag ns names h outer) n answer t e = seen_place (set.contains names n) (told ns names h outer n answer) t e (λ r. told_place ns names h outer n answer t r)
attribute_place (behind d) n answer t e = absurd cc
attribute_place (whole d) n answer t e = absurd cc

tag_end_place : (s t : State) → step s tag_end ≡ Ok t → place_in t ≡ places.Between
tag_end_place start t e = absurd cc
tag_end_place marked t e = absurd cc
tag_end_place (between ns outer) t e = absurd cc
tag_end_place (in_tag ns names h outer) t e = ok_place (between ns (bare h ∷ outer)) t places.Between e refl
tag_end_place (behind d) t e = absurd cc
tag_end_place (whole d) t e = absurd cc

empty_end_place : (s t : State) → step s empty_end ≡ Ok t → place_in t ≡ places.Between
empty_end_place start t e = absurd cc
empty_end_place marked t e = absurd cc
empty_end_place (between ns outer) t e = absurd cc
empty_end_place (in_tag ns names h outer) t e = ok_place (closed ns (bare h) outer) t places.Between e (closed_place ns (bare h) outer)
empty_end_place (behind d) t e = absurd cc
empty_end_place (whole d) t e = absurd cc

same_place : (v : Bool) (u t : State) → cond v (Ok u) (Err causes.Mismatch) ≡ Ok t → place_in u ≡ places.Between → place_in t ≡ places.Between
same_place true u t e h = ok_place u t places.Between e h
same_place false u t e h = absurd cc

closed_as_place : (o : Option Kind) (ns : Option (List ℕ)) (p : Object) (outer : List Object) (t : State) → closed_as o ns p outer ≡ Ok t → place_in t ≡ places.Between
closed_as_place None ns p outer t e = absurd cc
closed_as_place (Some k) ns p outer t e = same_place (same_kind k p.head.kind) (closed ns p outer) t e (closed_place ns p outer)

end_tag_place : (ns : Option (List ℕ)) (outer : List Object) (n : List ℕ) (t : State) → end_tag ns outer n ≡ Ok t → place_in t ≡ places.Between
end_tag_place ns [] n t e = absurd cc
end_tag_place ns (o ∷ outer) n t e = closed_as_place (kind_of n) ns o outer t e

closing_place : (s : State) (n : List ℕ) (t : State) → step s (closing n) ≡ Ok t → place_in t ≡ places.Between
closing_place start n t e = absurd cc
closing_place marked n t e = end_tag_place None [] n t e
closing_place (between ns outer) n t e = end_tag_place ns outer n t e
closing_place (in_tag ns names h outer) n t e = absurd cc
closing_place (behind d) n t e = absurd cc
closing_place (whole d) n t e = absurd cc

skipped_place : (s t : State) → step s skipped ≡ Ok t → place_in t ≡ places.Between
skipped_place start t e = ok_place (between None []) t places.Between e refl
skipped_place marked t e = ok_place (between None []) t places.Between e refl
skipped_place (between ns outer) t e = ok_place (between ns outer) t places.Between e refl
skipped_place (in_tag ns names h outer) t e = absurd cc
skipped_place (behind d) t e = ok_place (behind d) t places.Between e refl
skipped_place (whole d) t e = absurd cc

mark_place : (s t : State) → step s mark ≡ Ok t → place_in t ≡ places.Marked
mark_place start t e = ok_place marked t places.Marked e refl
mark_place marked t e = absurd cc
mark_place (between ns outer) t e = absurd cc
mark_place (in_tag ns names h outer) t e = absurd cc
mark_place (behind d) t e = absurd cc
mark_place (whole d) t e = absurd cc

pub by_meaning : (s : State) (m n : Meaning) (t : State) → m ≡ n → step s m ≡ Ok t → step s n ≡ Ok t
by_meaning s m n t h e = subst (λ (x : Meaning). step s x ≡ Ok t) h e

pub next_place : (s : State) (c : Construct) (m : Meaning) (t : State) → Means (kind_in s) c m → step s m ≡ Ok t → NotEnding c → place_in t ≡ place_behind c
next_place s (constructs.opening n) m t h e q = opening_place s n t (by_meaning s m (opening n) t h e)
next_place s (constructs.attribute n r) m t h e q = attribute_place s n h.2.0 t (by_meaning s m (attribute n h.2.0) t h.2.2 e)
next_place s constructs.tag_end m t h e q = tag_end_place s t (by_meaning s m tag_end t h e)
next_place s constructs.empty_end m t h e q = empty_end_place s t (by_meaning s m empty_end t h e)
next_place s (constructs.closing n) m t h e q = closing_place s n t (by_meaning s m (closing n) t h e)
next_place s constructs.skipped m t h e q = skipped_place s t (by_meaning s m skipped t h e)
next_place s constructs.ending m t h e q = absurd q
next_place s constructs.mark m t h e q = mark_place s t (by_meaning s m mark t h e)

ending_stuck : (s u : State) (d : Doc) (cs : List Construct) → step s ending ≡ Ok u → Leads u cs (behind d) → ⊥
ending_stuck start u d cs e l = absurd cc
ending_stuck marked u d cs e l = absurd cc
ending_stuck (between ns outer) u d cs e l = absurd cc
ending_stuck (in_tag ns names h outer) u d cs e l = absurd cc
ending_stuck (behind x) u d cs e l = whole_stuck x d cs (subst (λ (y : State). Leads y cs (behind d)) (sym (same_state (whole x) u (Ok (whole x)) (Ok u) refl refl e)) l)
ending_stuck (whole x) u d cs e l = absurd cc

no_end : (s u : State) (c : Construct) (m : Meaning) (d : Doc) (cs : List Construct) → Means (kind_in s) c m → step s m ≡ Ok u → Leads u cs (behind d) → NotEnding c
no_end s u (constructs.opening n) m d cs h e l = tt
no_end s u (constructs.attribute n r) m d cs h e l = tt
no_end s u constructs.tag_end m d cs h e l = tt
no_end s u constructs.empty_end m d cs h e l = tt
no_end s u (constructs.closing n) m d cs h e l = tt
no_end s u constructs.skipped m d cs h e l = tt
no_end s u constructs.ending m d cs h e l = ending_stuck s u d cs (by_meaning s m ending u h e) l
no_end s u constructs.mark m d cs h e l = tt

judges_back : (place : Place) (bytes : List ℕ) (cs : List Construct) (s : State) (at : ℕ) (d : Doc) → Cuts place bytes cs → place_in s ≡ place → Leads s cs (behind d) → Judges true s at bytes (document d)
judges_back place bytes cs s at d (no_more p) h (done x) = goes_on (behind d) (whole d) at [] [] constructs.ending ending (document d) refl refl refl refl (complete d _ [])
judges_back place bytes cs s at d (some p bs rest c ds f later) h (on x u t k m es means e l) =
    let n = no_end x u c m d ds means e l in
    let o = open_before x m u e in
    goes_on x u at bs rest c m (document d) o (scan_there x bs rest c o (subst (λ (q : Place). scan q true bs ≡ found c rest) (sym h) f)) means e
    (judges_back (place_behind c) rest ds u _ d later (next_place x c m u means e n) l)

judged_whole : (bytes : List ℕ) (v : Verdict) → length bytes ≤ max_len → Judges true beginning 0 bytes v → Judged bytes true v
judged_whole bytes v h j =
    let e : nat_le (length bytes) max_len ≡ true = grind (arith, nat_tests) in
    subst (λ (b : Bool). JudgedBy b bytes true v) (sym e) j

-- bytes that spell a document are judged to be it
pub only : OneText → (bytes : List ℕ) (ns : Option (List ℕ)) (o : Object) → Spells bytes ns o → Judged bytes true (document (doc_of ns o))
only texts bytes ns o s = judged_whole bytes (document (doc_of ns o)) s.small (judges_back places.Start bytes s.constructs start 0 (doc_of ns o) s.cut refl (document_leads texts ns o s.constructs s.is_document))
