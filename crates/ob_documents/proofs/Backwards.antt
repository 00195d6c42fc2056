-- What bytes are judged to be, they spell.
use Rattle.std.proofs.Common.{◌≡◌, ℕ, zero, suc, ◌+◌, ◌-◌, ◌<◌, ◌≤◌, Bool, true, false, cond, ◌||◌, eqb, List, [], ◌∷◌, ◌++◌, length, Option, Some, None, Result, Ok, Err, refl, sym, ap, ◌∙◌, subst, append_assoc, arith}
use Rattle.std.specs.Prelude.{codes, nat_le, take}
use Rattle.std.specs.Cmp.Lexicographic.{nat_list_cmp_total}
use Rattle.std.specs.FinSet as set
use Rattle.std.proofs.lemmas.List.{append-nil}
use Rattle.std.proofs.lemmas.Bool.{eqb-true}
use Rattle.std.proofs.lemmas.Bool.Decides.{nat_tests}
use Rattle.std.proofs.lemmas.Map.Text.{is_eq-slice_cmp}
use Rattle.ob_values.specs.Faults.{ValueFault, NotName}
use Rattle.ob_values.proofs.Bools.{neither_left, neither_right, both_false}
use Rattle.ob_scan.specs.declared.piece.Place.{Place}
use Rattle.ob_scan.specs.declared.piece.Place.TheVariants as places
use Rattle.ob_scan.specs.declared.piece.Why.TheVariants.{Text}
use Rattle.ob_scan.specs.declared.stop.Stop.{Stop}
use Rattle.ob_scan.specs.declared.stop.Stop.TheVariants.{Want, Malformed}
use Rattle.ob_scan.specs.declared.reading.Ends.TheVariants.{Name, Target}
use Rattle.ob_scan.specs.Reading.{◌>>=◌, literal, spaces, word, behind_pair, behind_spaces}
use Rattle.ob_scan.specs.Constructs.{Construct, Scanned, found, more, refused, scan, wanting, judged, comment_at, is_xml, behind_target, instruction_at, end_tag_at, tag_name_at, markup_at, blank, outside}
use Rattle.ob_scan.specs.Constructs as constructs
use Rattle.ob_scan.specs.Expansion.{Expands}
use Rattle.ob_scan.specs.Judgement.{IsWellFound}
use Rattle.ob_object.specs.declared.kind.Kind.{Kind}
use Rattle.ob_object.specs.declared.kind.Kind.TheVariants as kinds
use Rattle.ob_object.specs.declared.head.Head.{Head}
use Rattle.ob_object.specs.Kinds.{number, same_kind}
use Rattle.ob_object.specs.Fits.{fits_head}
use Rattle.ob_object.specs.Object.{Objects, Object, none as no_objects, node, listed, in_row, children, empty_head, listed-in_row, in_row-listed}
use Rattle.ob_object.specs.WellFormed.{NamesDiffer, is_taken, with_child}
use Rattle.ob_object.proofs.Names.{NamesDiffer-more}
use Rattle.ob_encoding.specs.declared.field.Field.{Field}
use Rattle.ob_encoding.specs.declared.part.Part.{Part}
use Rattle.ob_encoding.specs.Kinds.{same, plain_kind, timed_kind, or_else, kind_of}
use Rattle.ob_encoding.specs.Fields.{known}
use Rattle.ob_encoding.specs.Parts.{ReadsPart, read_as, put_part}
use Rattle.ob_encoding.specs.Names.{kind_name}
use Rattle.ob_documents.specs.Attributes.{has_name, AreDistinct, Says, Tell, Describe, NamespaceBy, NamespaceIs}
use Rattle.ob_documents.specs.Grammar.{attributes_of, name_of, Element, empty, full, Content, nothing, pause, child, IsMark, AreSkipped, IsDocument}
use Rattle.ob_documents.specs.Spelling.{Cuts, none as no_more, some, Spells}
use Rattle.ob_documents.proofs.Fitting.{same_true, kind_stays}
use Rattle.ob_xml.proofs.Frees.{still_free}
use Rattle.ob_xml.proofs.Ends.{NotEnd, not_whole, only_at_end}
use Rattle.ob_documents.proofs.Accepted.{Leads, done, on, Unseen, NsStep, NsAfter, ns_inner, ns_none, root_none, xmlns_unknown, place_in, NotEnding, next_place, same_state, by_meaning, empty_fits, doc_of, object_with}
use Rattle.ob_xml.specs.declared.doc.Doc.{Doc}
use Rattle.ob_xml.specs.declared.refused.Why.{Why}
use Rattle.ob_xml.specs.declared.refused.Why.TheVariants as causes
use Rattle.ob_xml.specs.declared.meaning.Said.{Said}
use Rattle.ob_xml.specs.declared.meaning.Said.TheVariants as said
use Rattle.ob_xml.specs.Indexes.{NameSet}
use Rattle.ob_xml.specs.Meanings.{Meaning, opening, attribute, tag_end, empty_end, closing, skipped, ending, mark, ReadsKnown, Means}
use Rattle.ob_xml.specs.Structure.{State, start, marked, between, in_tag, behind, whole, beginning, place_of, kind_in, step, bare, closed, closed_as, opened_as, told, siblings, with_ns, is_twice}
use Rattle.ob_xml.specs.Judged.{Verdict, pending, document, fault, is_open, Judges, complete, goes_on, misplaced, malformed, unfinished, overlong, max_len, JudgedBy, Judged}

-- ---- between tags no end of the input is found

abbrev Ordinary : Result (Construct × List ℕ) Stop → Type 0
Ordinary (Ok x) = NotEnding x.0
Ordinary (Err e) = Unit {0}

ordinary_then : {X : Type 0} (r : Result X Stop) (f : X → Result (Construct × List ℕ) Stop) → ((x : X) → Ordinary (f x)) → Ordinary (r >>= f)
ordinary_then (Ok x) f h = h x
ordinary_then (Err e) f h = tt

one_of : (b : Bool) (r s : Result (Construct × List ℕ) Stop) → Ordinary r → Ordinary s → Ordinary (cond b r s)
one_of true r s p q = p
one_of false r s p q = q

comment_ordinary : (bytes : List ℕ) → Ordinary (comment_at bytes)
unfolding comment_at
comment_ordinary bytes = ordinary_then (literal (codes "--") bytes) _ (λ body. ordinary_then (behind_pair 45 45 body) _ (λ behind. ordinary_then (literal (codes ">") behind) _ (λ rest. tt)))

instruction_ordinary : (bytes : List ℕ) → Ordinary (instruction_at bytes)
unfolding instruction_at
instruction_ordinary bytes = ordinary_then (word Target bytes) _ (λ target. ordinary_then (cond (is_xml target.0) (Err Malformed) (behind_target target.1)) _ (λ rest. tt))

end_tag_ordinary : (bytes : List ℕ) → Ordinary (end_tag_at bytes)
unfolding end_tag_at
end_tag_ordinary bytes = ordinary_then (word Name bytes) _ (λ name. ordinary_then (spaces name.1) _ (λ behind. ordinary_then (literal (codes ">") behind) _ (λ rest. tt)))

tag_name_ordinary : (bytes : List ℕ) → Ordinary (tag_name_at bytes)
unfolding tag_name_at
tag_name_ordinary bytes = ordinary_then (word Name bytes) _ (λ name. tt)

markup_ordinary : (bytes : List ℕ) → Ordinary (markup_at bytes)
markup_ordinary [] = tt
markup_ordinary (b ∷ bytes) =
    one_of (eqb b 33) (comment_at bytes) (cond (eqb b 63) (instruction_at bytes) (cond (eqb b 47) (end_tag_at bytes) (tag_name_at (b ∷ bytes)))) (comment_ordinary bytes)
    (one_of (eqb b 63) (instruction_at bytes) (cond (eqb b 47) (end_tag_at bytes) (tag_name_at (b ∷ bytes))) (instruction_ordinary bytes)
    (one_of (eqb b 47) (end_tag_at bytes) (tag_name_at (b ∷ bytes)) (end_tag_ordinary bytes) (tag_name_ordinary (b ∷ bytes))))

abbrev NoEnd : Scanned → Type 0
NoEnd (found c rest) = NotEnding c
NoEnd more = Unit {0}
NoEnd (refused k why) = Unit {0}

no_end_judged : (bytes : List ℕ) (r : Result (Construct × List ℕ) Stop) → Ordinary r → NoEnd (judged true bytes 0 r)
no_end_judged bytes (Ok x) h = h
no_end_judged bytes (Err Want) h = tt
no_end_judged bytes (Err Malformed) h = tt

no_end_either : (b : Bool) (r s : Scanned) → NoEnd r → NoEnd s → NoEnd (cond b r s)
no_end_either true r s p q = p
no_end_either false r s p q = q

no_end_blank : (bytes : List ℕ) → NoEnd (blank true bytes)
no_end_blank [] = tt
no_end_blank (b ∷ bytes) = no_end_either (eqb b 60) (found constructs.skipped (b ∷ bytes)) (refused 0 Text) tt tt

no_end_outside : (bytes : List ℕ) → NoEnd (outside true bytes)
no_end_outside [] = tt
no_end_outside (b ∷ bytes) = no_end_either (eqb b 60) (judged true (b ∷ bytes) 0 (markup_at bytes)) (blank true (behind_spaces (b ∷ bytes))) (no_end_judged (b ∷ bytes) (markup_at bytes) (markup_ordinary bytes)) (no_end_blank (behind_spaces (b ∷ bytes)))

never_ending : (bytes rest : List ℕ) → scan places.Between true bytes ≡ found constructs.ending rest → ⊥
never_ending bytes rest e = subst NoEnd e (no_end_outside bytes)

-- ---- from the verdict to the constructs

record Traced (s : State) (bytes : List ℕ) (d : Doc) : Type 0 where
  cs : List Construct
  cut : Cuts (place_in s) bytes cs
  leads : Leads s cs (behind d)

not_end : (k : Kind) (c : Construct) (m : Meaning) → Means k c m → NotEnding c → NotEnd m
not_end k (constructs.opening n) m h q = subst NotEnd (sym h) tt
not_end k (constructs.attribute n r) m h q = subst NotEnd (sym h.2.2) tt
not_end k constructs.tag_end m h q = subst NotEnd (sym h) tt
not_end k constructs.empty_end m h q = subst NotEnd (sym h) tt
not_end k (constructs.closing n) m h q = subst NotEnd (sym h) tt
not_end k constructs.skipped m h q = subst NotEnd (sym h) tt
not_end k constructs.ending m h q = absurd q
not_end k constructs.mark m h q = subst NotEnd (sym h) tt

open_after : (s : State) (m : Meaning) (t : State) → NotEnd m → step s m ≡ Ok t → is_open t ≡ true
open_after s m start n e = refl
open_after s m marked n e = refl
open_after s m (between ns outer) n e = refl
open_after s m (in_tag ns names h outer) n e = refl
open_after s m (behind d) n e = refl
open_after s m (whole d) n e = absurd (not_whole s m d n e)

found_one : (c x : Construct) (rest more_bytes : List ℕ) → found c rest ≡ found x more_bytes → c ≡ x
found_one c x rest more_bytes e = ap (λ s. of s) e
  where
    of : Scanned → Construct
    of (found y r) = y
    of more = c
    of (refused k why) = c

scan_here : (s : State) (bytes rest : List ℕ) (c : Construct) → is_open s ≡ true → NotEnding c → scan (place_of s) true bytes ≡ found c rest → scan (place_in s) true bytes ≡ found c rest
scan_here start bytes rest c o q e = e
scan_here marked bytes rest c o q e = e
scan_here (between ns outer) bytes rest c o q e = e
scan_here (in_tag ns names h outer) bytes rest c o q e = e
scan_here (behind d) [] rest c o q e = absurd (subst NotEnding (sym (found_one constructs.ending c [] rest e)) q)
scan_here (behind d) (b ∷ bytes) rest c o q e = e
scan_here (whole d) bytes rest c o q e = absurd cc

further : (s t : State) (bytes rest : List ℕ) (c : Construct) (m : Meaning) (d : Doc) → is_open s ≡ true → scan (place_of s) true bytes ≡ found c rest → Means (kind_in s) c m → step s m ≡ Ok t
    → NotEnding c → (is_open t ≡ true → Traced t rest d) → Traced s bytes d
further s t bytes rest c m d o f h e q next =
    let r = next (open_after s m t (not_end (kind_in s) c m h q) e) in
    record {
      cs = c ∷ r.cs;
      cut = some (place_in s) bytes rest c r.cs (scan_here s bytes rest c o q f) (subst (λ (p : Place). Cuts p rest r.cs) (next_place s c m t h e q) r.cut);
      leads = on s t (behind d) c m r.cs h e r.leads;
    }

at_end : (x t : State) (bytes rest : List ℕ) (d : Doc) → is_open x ≡ true → scan (place_of x) true bytes ≡ found constructs.ending rest → step x ending ≡ Ok t → ((y : Doc) → t ≡ whole y → y ≡ d) → Traced x bytes d
at_end start t bytes rest d o f e is = absurd cc
at_end marked t bytes rest d o f e is = absurd cc
at_end (between ns outer) t bytes rest d o f e is = absurd cc
at_end (in_tag ns names h outer) t bytes rest d o f e is = absurd cc
at_end (behind y) t [] rest d o f e is =
    let same_doc : y ≡ d = is y (sym (same_state (whole y) t (Ok (whole y)) (Ok t) refl refl e)) in
    record { cs = []; cut = no_more places.Between; leads = subst (λ (z : Doc). Leads (behind y) [] (behind z)) same_doc (done (behind y)) }
at_end (behind y) t (b ∷ bytes) rest d o f e is = absurd (never_ending (b ∷ bytes) rest f)
at_end (whole y) t bytes rest d o f e is = absurd cc

trace_step : (s t : State) (bytes rest : List ℕ) (c : Construct) (m : Meaning) (d : Doc) → is_open s ≡ true → scan (place_of s) true bytes ≡ found c rest → Means (kind_in s) c m → step s m ≡ Ok t
    → (is_open t ≡ true → Traced t rest d) → ((y : Doc) → t ≡ whole y → y ≡ d) → Traced s bytes d
trace_step s t bytes rest (constructs.opening n) m d o f h e next is = further s t bytes rest (constructs.opening n) m d o f h e tt next
trace_step s t bytes rest (constructs.attribute n r) m d o f h e next is = further s t bytes rest (constructs.attribute n r) m d o f h e tt next
trace_step s t bytes rest constructs.tag_end m d o f h e next is = further s t bytes rest constructs.tag_end m d o f h e tt next
trace_step s t bytes rest constructs.empty_end m d o f h e next is = further s t bytes rest constructs.empty_end m d o f h e tt next
trace_step s t bytes rest (constructs.closing n) m d o f h e next is = further s t bytes rest (constructs.closing n) m d o f h e tt next
trace_step s t bytes rest constructs.skipped m d o f h e next is = further s t bytes rest constructs.skipped m d o f h e tt next
trace_step s t bytes rest constructs.ending m d o f h e next is = at_end s t bytes rest d o f (by_meaning s m ending t h e) is
trace_step s t bytes rest constructs.mark m d o f h e next is = further s t bytes rest constructs.mark m d o f h e tt next

same_doc : (x d : Doc) (v w : Verdict) → v ≡ document x → w ≡ document d → v ≡ w → x ≡ d
same_doc x d v w p q e = cc

whole_doc : (ended : Bool) (y : Doc) (at : ℕ) (bytes : List ℕ) (v : Verdict) → Judges ended (whole y) at bytes v → v ≡ document y
whole_doc ended y at bytes v (complete t a b) = refl
whole_doc ended y at bytes v (goes_on s1 u a b rest c p w o f m g later) = absurd cc
whole_doc ended y at bytes v (misplaced s1 a b rest c p why o f m g) = absurd cc
whole_doc ended y at bytes v (malformed s1 a b k why o f) = absurd cc
whole_doc ended y at bytes v (unfinished s1 a b o f) = absurd cc

trace : (s : State) (at : ℕ) (bytes : List ℕ) (d : Doc) → is_open s ≡ true → Judges true s at bytes (document d) → Traced s bytes d
trace s at bytes d o (complete x a bs) = absurd cc
trace s at bytes d o (goes_on x t a bs rest c m v op f h e j) =
    trace_step x t bs rest c m d op f h e (λ after. trace t (a + (length bs - length rest)) rest d after j)
    (λ y i. same_doc y d (document y) (document d) refl refl (sym (whole_doc true y (a + (length bs - length rest)) rest (document d) (subst (λ (z : State). Judges true z (a + (length bs - length rest)) rest (document d)) i j))))

never_early : IsWellFound → (s : State) (at : ℕ) (bytes : List ℕ) (d : Doc) → is_open s ≡ true → Judges false s at bytes (document d) → ⊥
never_early well s at bytes d o (complete x a bs) = absurd cc
never_early well s at bytes d o (goes_on x t a bs rest c m v op f h e j) = by t e (λ after. never_early well t (a + (length bs - length rest)) rest d after j)
  where
    by : (u : State) → step x m ≡ Ok u → (is_open u ≡ true → ⊥) → ⊥
    by start g next = next refl
    by marked g next = next refl
    by (between ns outer) g next = next refl
    by (in_tag ns names q outer) g next = next refl
    by (behind y) g next = next refl
    by (whole y) g next = let no : false ≡ true = only_at_end well false x bs rest c m y f h g in absurd cc

-- ---- kinds by their names

abbrev Named : List ℕ → Option Kind → Type 0
Named n None = Unit {0}
Named n (Some k) = n ≡ kind_name k

named_by : (n s : List ℕ) (k : Kind) (r : Option Kind) → s ≡ kind_name k → Named n r → Named n (cond (same n s) (Some k) r)
named_by n s k r i q = by (same n s) refl
  where
    by : (b : Bool) → same n s ≡ b → Named n (cond b (Some k) r)
    by true e = same_true n s e ∙ i
    by false e = q

first_named : (n : List ℕ) (a b : Option Kind) → Named n a → Named n b → Named n (or_else a b)
first_named n None b p q = q
first_named n (Some k) b p q = p

plain_named : (n : List ℕ) → Named n (plain_kind n)
plain_named n =
    named_by n (codes "obj") kinds.Obj _ refl
    (named_by n (codes "bool") kinds.Bool _ refl
    (named_by n (codes "int") kinds.Int _ refl
    (named_by n (codes "real") kinds.Real _ refl
    (named_by n (codes "str") kinds.Str _ refl
    (named_by n (codes "enum") kinds.Enum _ refl
    (named_by n (codes "uri") kinds.Uri None refl tt))))))

timed_named : (n : List ℕ) → Named n (timed_kind n)
timed_named n =
    named_by n (codes "abstime") kinds.Abstime _ refl
    (named_by n (codes "reltime") kinds.Reltime _ refl
    (named_by n (codes "date") kinds.Date _ refl
    (named_by n (codes "time") kinds.Time _ refl
    (named_by n (codes "list") kinds.List _ refl
    (named_by n (codes "op") kinds.Op _ refl
    (named_by n (codes "feed") kinds.Feed _ refl
    (named_by n (codes "ref") kinds.Ref _ refl
    (named_by n (codes "err") kinds.Err None refl tt))))))))

all_named : (n : List ℕ) → Named n (kind_of n)
unfolding kind_of
all_named n = first_named n (plain_kind n) (timed_kind n) (plain_named n) (timed_named n)

kind_is_named : (n : List ℕ) (k : Kind) → kind_of n ≡ Some k → n ≡ kind_name k
kind_is_named n k e = subst (Named n) e (all_named n)

abbrev name_in : List (List ℕ) → ℕ → List ℕ
name_in [] n = []
name_in (x ∷ xs) zero = x
name_in (x ∷ xs) (suc n) = name_in xs n

abbrev kind_names : List (List ℕ)
kind_names = kind_name kinds.Obj ∷ kind_name kinds.Bool ∷ kind_name kinds.Int ∷ kind_name kinds.Real ∷ kind_name kinds.Str ∷ kind_name kinds.Enum ∷ kind_name kinds.Uri ∷ kind_name kinds.Abstime ∷ kind_name kinds.Reltime ∷ kind_name kinds.Date ∷ kind_name kinds.Time ∷ kind_name kinds.List ∷ kind_name kinds.Op ∷ kind_name kinds.Feed ∷ kind_name kinds.Ref ∷ kind_name kinds.Err ∷ []

name_there : (k : Kind) → name_in kind_names (number k) ≡ kind_name k
name_there kinds.Obj = refl
name_there kinds.Bool = refl
name_there kinds.Int = refl
name_there kinds.Real = refl
name_there kinds.Str = refl
name_there kinds.Enum = refl
name_there kinds.Uri = refl
name_there kinds.Abstime = refl
name_there kinds.Reltime = refl
name_there kinds.Date = refl
name_there kinds.Time = refl
name_there kinds.List = refl
name_there kinds.Op = refl
name_there kinds.Feed = refl
name_there kinds.Ref = refl
name_there kinds.Err = refl

same_kind_name : (k l : Kind) → same_kind k l ≡ true → kind_name k ≡ kind_name l
same_kind_name k l e = sym (name_there k) ∙ ap (name_in kind_names) (eqb-true (number k) (number l) e) ∙ name_there l

-- ---- names of attributes, the namespace, and siblings

insert_misses : (names : NameSet) (n m : List ℕ) → set.contains (set.insert names n) m ≡ false → (same m n || set.contains names m) ≡ false
insert_misses names n m h = ap (λ (b : Bool). b || set.contains names m) (sym (is_eq-slice_cmp m n)) ∙ sym (set.contains-insert nat_list_cmp_total names n m) ∙ h

unseen_less : (names : NameSet) (n : List ℕ) (xs : List (List ℕ × List ℕ)) → Unseen (set.insert names n) xs → Unseen names xs
unseen_less names n [] u = tt
unseen_less names n (x ∷ xs) u = (neither_right (same x.0 n) (set.contains names x.0) (insert_misses names n x.0 u.0), unseen_less names n xs u.1)

not_again : (names : NameSet) (n : List ℕ) (xs : List (List ℕ × List ℕ)) → Unseen (set.insert names n) xs → has_name xs n ≡ false
not_again names n [] u = refl
not_again names n (x ∷ xs) u = both_false (same x.0 n) (has_name xs n) (neither_left (same x.0 n) (set.contains names x.0) (insert_misses names n x.0 u.0)) (not_again names n xs u.1)

namespace_is : (k : Kind) (xs : List (List ℕ × List ℕ)) (b : Option (List ℕ)) → AreDistinct xs → NsAfter [] k xs None b → NamespaceIs xs b
namespace_is k [] b d n = n
namespace_is k (x ∷ xs) b d n = by (same x.0 (codes "xmlns")) refl (λ m. namespace_is k xs b d.1 m)
  where
    by : (v : Bool) → same x.0 (codes "xmlns") ≡ v → (NsAfter [] k xs None b → NamespaceIs xs b) → NamespaceBy v x.1 b (NamespaceIs xs b)
    by true e later =
        let name : x.0 ≡ codes "xmlns" = same_true x.0 (codes "xmlns") e in
        let unknown : known k x.0 ≡ None = ap (known k) name ∙ xmlns_unknown k in
        let s : NsStep None [] x None n.0 = subst (λ (o : Option Field). NsStep o [] x None n.0) unknown n.1 in
        let given : n.0 ≡ Some s.0 = s.2 ∙ ap (λ (t : Bool). cond t (Some s.0) None) e in
        let left_out : has_name xs (codes "xmlns") ≡ false = subst (λ (m : List ℕ). has_name xs m ≡ false) name d.0 in
        (s.0, s.1, ns_none k xs n.0 b left_out n.2 ∙ given)
    by false e later =
        let kept_ns : n.0 ≡ None = root_none (known k x.0) x None n.0 e n.1 in
        later (subst (λ (m : Option (List ℕ)). NsAfter [] k xs m b) kept_ns n.2)

-- each has a name that none before it has
abbrev AllFree : List Object → List Object → Type 0
AllFree os [] = Unit {0}
AllFree os (o ∷ more_os) = (is_taken o.head.name os ≡ false) × AllFree (os ++ o ∷ []) more_os

all_differ : (os es : List Object) → NamesDiffer os → AllFree os es → NamesDiffer (os ++ es)
all_differ os [] d f = subst NamesDiffer (sym (append-nil os)) d
all_differ os (e ∷ es) d f = subst NamesDiffer (append_assoc os (e ∷ []) es) (all_differ (os ++ e ∷ []) es (NamesDiffer-more os e d f.0) f.1)

-- ---- what leads from a state to the document

abbrev with_row : Object → Objects → Object
with_row o kids = record { head = o.head; inner = in_row (children o ++ listed kids) }

row_none : (o : Object) → with_row o no_objects ≡ o
row_none o = ap (λ (os : List Object). object_with o.head (in_row os)) (append-nil (children o)) ∙ ap (λ (r : Objects). object_with o.head r) (in_row-listed o.inner)

row_more : (o e : Object) (kids : Objects) → with_row (with_child o e) kids ≡ with_row o (node e.head e.inner kids)
row_more o e kids =
    ap (λ (os : List Object). object_with o.head (in_row (os ++ listed kids))) (listed-in_row (children o ++ e ∷ []))
    ∙ ap (λ (os : List Object). object_with o.head (in_row os)) (append_assoc (children o) (e ∷ []) (listed kids))

row_bare : (h : Head) (kids : Objects) → with_row (bare h) kids ≡ object_with h kids
row_bare h kids = ap (λ (r : Objects). object_with h r) (in_row-listed kids)

-- the rest of an open element, and what is behind it
record Inside (Behind : Object → List Construct → Type 0) (o : Object) (level : ℕ) (cs : List Construct) : Type 0 where
  kids : Objects
  inner : List Construct
  later : List Construct
  content : Content (suc level) kids inner
  names : AllFree (children o) (listed kids)
  parts : cs ≡ inner ++ (constructs.closing (name_of o.head) ∷ later)
  last : Behind (with_row o kids) later

abbrev After : Option (List ℕ) → Doc → List Object → Object → List Construct → Type 0
After ns d [] o cs = AreSkipped cs × (d ≡ doc_of ns o)
After ns d (parent ∷ outer) o cs = Inside (After ns d outer) (with_child parent o) (length outer) cs

data Ends (level : ℕ) (h : Head) : Objects → List Construct → Type 0 where
  at_once : Ends level h no_objects (constructs.empty_end ∷ [])
  with_kids : (kids : Objects) (inner : List Construct) → NamesDiffer (listed kids) → Content (suc level) kids inner → Ends level h kids (constructs.tag_end ∷ (inner ++ (constructs.closing (name_of h) ∷ [])))

-- the rest of a start tag and its element, and what is behind it
record TagRest (ns : Option (List ℕ)) (names : NameSet) (h : Head) (outer : List Object) (cs : List Construct) (d : Doc) : Type 0 where
  xs : List (List ℕ × List ℕ)
  g : Head
  kind_is : g.kind ≡ h.kind
  told : Tell h.kind xs h g
  unseen : Unseen names xs
  distinct : AreDistinct xs
  ns_after : Option (List ℕ)
  told_ns : NsAfter outer h.kind xs ns ns_after
  fits : fits_head g ≡ true
  free : is_taken g.name (siblings outer) ≡ false
  kids : Objects
  es : List Construct
  ends : Ends (length outer) g kids es
  later : List Construct
  last : After ns_after d outer (object_with g kids) later
  parts : cs ≡ attributes_of xs ++ (es ++ later)

-- a document but for its mark
record Body (ns : Option (List ℕ)) (cs : List Construct) (d : Doc) : Type 0 where
  before : List Construct
  xs : List (List ℕ × List ℕ)
  es : List Construct
  after : List Construct
  skips : AreSkipped before
  distinct : AreDistinct xs
  told_ns : NsAfter [] d.root.head.kind xs ns d.ns
  element : Element 0 xs d.root es
  last : AreSkipped after
  parts : cs ≡ before ++ (es ++ after)

abbrev RestOf : State → List Construct → Doc → Type 0
RestOf start cs d = IsDocument d.ns d.root cs
RestOf marked cs d = Body None cs d
RestOf (between ns []) cs d = Body ns cs d
RestOf (between ns (o ∷ outer)) cs d = Inside (After ns d outer) o (length outer) cs
RestOf (in_tag ns names h outer) cs d = TagRest ns names h outer cs d
RestOf (behind x) cs d = AreSkipped cs × (d ≡ x)
RestOf (whole x) cs d = ⊥

-- the head so far fits, and its name is free
abbrev Sound : State → Type 0
Sound start = Unit {0}
Sound marked = Unit {0}
Sound (between ns outer) = Unit {0}
Sound (in_tag ns names h outer) = (fits_head h ≡ true) × (is_taken h.name (siblings outer) ≡ false)
Sound (behind x) = Unit {0}
Sound (whole x) = Unit {0}

abbrev Next : State → List Construct → Doc → Type 0
Next s cs d = Sound s → RestOf s cs d

next_at : (u v : State) (cs : List Construct) (d : Doc) → u ≡ v → Next u cs d → Next v cs d
next_at u v cs d e n = subst (λ (s : State). Next s cs d) e n

behind_closed : (ns : Option (List ℕ)) (o : Object) (outer : List Object) (cs : List Construct) (d : Doc) → Next (closed ns o outer) cs d → After ns d outer o cs
behind_closed ns o [] cs d n = n tt
behind_closed ns o (parent ∷ outer) cs d n = n tt

ok_state : (u v : State) → ◌≡◌ {A = Result State Why} (Ok u) (Ok v) → u ≡ v
ok_state u v e = same_state u v (Ok u) (Ok v) refl refl e

body_document : (first cs : List Construct) (d : Doc) → IsMark first → Body None cs d → IsDocument d.ns d.root (first ++ cs)
body_document first cs d m b = record {
  first = first;
  before = b.before;
  attributes = b.xs;
  element = b.es;
  after = b.after;
  is_mark = m;
  before_skipped = b.skips;
  namespace = namespace_is d.root.head.kind b.xs d.ns b.distinct b.told_ns;
  is_element = b.element;
  after_skipped = b.last;
  parts = ap (λ (es : List Construct). first ++ es) b.parts;
}

body_pause : (ns : Option (List ℕ)) (cs : List Construct) (d : Doc) → Body ns cs d → Body ns (constructs.skipped ∷ cs) d
body_pause ns cs d b = record {
  before = constructs.skipped ∷ b.before;
  xs = b.xs;
  es = b.es;
  after = b.after;
  skips = b.skips;
  distinct = b.distinct;
  told_ns = b.told_ns;
  element = b.element;
  last = b.last;
  parts = ap (λ (es : List Construct). constructs.skipped ∷ es) b.parts;
}

inside_pause : (Behind : Object → List Construct → Type 0) (o : Object) (level : ℕ) (cs : List Construct) → Inside Behind o level cs → Inside Behind o level (constructs.skipped ∷ cs)
inside_pause Behind o level cs i = record {
  kids = i.kids;
  inner = constructs.skipped ∷ i.inner;
  later = i.later;
  content = pause (suc level) i.kids i.inner i.content;
  names = i.names;
  parts = ap (λ (es : List Construct). constructs.skipped ∷ es) i.parts;
  last = i.last;
}

-- ---- a whole element

abbrev element_constructs : Head → List (List ℕ × List ℕ) → List Construct → List Construct
element_constructs g xs es = constructs.opening (name_of g) ∷ (attributes_of xs ++ es)

tag_element : (ns : Option (List ℕ)) (k : Kind) (outer : List Object) (cs : List Construct) (d : Doc) (r : TagRest ns set.empty (empty_head k) outer cs d) → length outer < 32
    → Element (length outer) r.xs (object_with r.g r.kids) (element_constructs r.g r.xs r.es)
tag_element ns k outer cs d r few = by r.kids r.es r.ends
  where
    described : Describe r.xs r.g
    described = record { distinct = r.distinct; told = subst (λ (l : Kind). Tell l r.xs (empty_head l) r.g) (sym r.kind_is) r.told; fits = r.fits }

    by : (kids : Objects) (es : List Construct) → Ends (length outer) r.g kids es → Element (length outer) r.xs (object_with r.g kids) (element_constructs r.g r.xs es)
    by kids es at_once = empty (length outer) r.g r.xs few described
    by kids es (with_kids row inner n c) = full (length outer) r.g r.xs row inner few described n c

element_parts : (ns : Option (List ℕ)) (k : Kind) (n : List ℕ) (outer : List Object) (cs : List Construct) (d : Doc) (r : TagRest ns set.empty (empty_head k) outer cs d) → n ≡ kind_name k
    → constructs.opening n ∷ cs ≡ element_constructs r.g r.xs r.es ++ r.later
element_parts ns k n outer cs d r i =
    ap (λ (m : List ℕ). constructs.opening m ∷ cs) (i ∙ ap kind_name (sym r.kind_is))
    ∙ ap (λ (es : List Construct). constructs.opening (name_of r.g) ∷ es) (r.parts ∙ sym (append_assoc (attributes_of r.xs) r.es r.later))

root_body : (ns : Option (List ℕ)) (k : Kind) (n : List ℕ) (cs : List Construct) (d : Doc) → TagRest ns set.empty (empty_head k) [] cs d → n ≡ kind_name k → length {A = Object} [] < 32 → Body ns (constructs.opening n ∷ cs) d
root_body ns k n cs d r i few = record {
  before = [];
  xs = r.xs;
  es = element_constructs r.g r.xs r.es;
  after = r.later;
  skips = tt;
  distinct = r.distinct;
  told_ns = subst (λ (x : Doc). NsAfter [] x.root.head.kind r.xs ns x.ns) (sym r.last.1) (subst (λ (l : Kind). NsAfter [] l r.xs ns r.ns_after) (sym r.kind_is) r.told_ns);
  element = subst (λ (x : Doc). Element 0 r.xs x.root (element_constructs r.g r.xs r.es)) (sym r.last.1) (tag_element ns k [] cs d r few);
  last = r.last.0;
  parts = element_parts ns k n [] cs d r i;
}

child_inside : (ns : Option (List ℕ)) (k : Kind) (n : List ℕ) (o : Object) (outer : List Object) (cs : List Construct) (d : Doc) → TagRest ns set.empty (empty_head k) (o ∷ outer) cs d → n ≡ kind_name k → length (o ∷ outer) < 32
    → Inside (After ns d outer) o (length outer) (constructs.opening n ∷ cs)
child_inside ns k n o outer cs d r i few =
    let e : Object = object_with r.g r.kids in
    let q : Inside (After r.ns_after d outer) (with_child o e) (length outer) r.later = r.last in
    let own : List Construct = element_constructs r.g r.xs r.es in
    let same_ns : r.ns_after ≡ ns = ns_inner o outer k r.xs ns r.ns_after r.told_ns in
    record {
      kids = node r.g r.kids q.kids;
      inner = own ++ q.inner;
      later = q.later;
      content = child (suc (length outer)) r.xs e q.kids own q.inner (tag_element ns k (o ∷ outer) cs d r few) q.content;
      names = (r.free, subst (λ (os : List Object). AllFree os (listed q.kids)) (listed-in_row (children o ++ e ∷ [])) q.names);
      parts = element_parts ns k n (o ∷ outer) cs d r i ∙ ap (λ (es : List Construct). own ++ es) q.parts ∙ sym (append_assoc own q.inner (constructs.closing (name_of o.head) ∷ q.later));
      last = subst (λ (m : Option (List ℕ)). After m d outer (with_row o (node r.g r.kids q.kids)) q.later) same_ns (subst (λ (x : Object). After r.ns_after d outer x q.later) (row_more o e q.kids) q.last);
    }

-- ---- each construct from the states where it may stand

record Opened (o : Option Kind) (ns : Option (List ℕ)) (outer : List Object) (u : State) : Type 0 where
  k : Kind
  is : o ≡ Some k
  few : length outer < 32
  u_is : u ≡ in_tag ns set.empty (empty_head k) outer

opened_by : (o : Option Kind) (ns : Option (List ℕ)) (outer : List Object) (u : State) → opened_as o ns outer ≡ Ok u → Opened o ns outer u
opened_by None ns outer u e = absurd cc
opened_by (Some k) ns outer u e = by (nat_le 32 (length outer)) refl e
  where
    by : (b : Bool) → nat_le 32 (length outer) ≡ b → cond b (Err causes.Deep) (Ok (in_tag ns set.empty (empty_head k) outer)) ≡ Ok u → Opened (Some k) ns outer u
    by true i h = absurd cc
    by false i h = record { k = k; is = refl; few = few_of i; u_is = sym (ok_state (in_tag ns set.empty (empty_head k) outer) u h) }
      where
        few_of : nat_le 32 (length outer) ≡ false → length outer < 32
        few_of i = grind (arith, nat_tests)

opened_sound : (k : Kind) (ns : Option (List ℕ)) (outer : List Object) → Sound (in_tag ns set.empty (empty_head k) outer)
opened_sound k ns outer = (empty_fits k, refl)

root_opens : (ns : Option (List ℕ)) (n : List ℕ) (u : State) (cs : List Construct) (d : Doc) → opened_as (kind_of n) ns [] ≡ Ok u → Next u cs d → Body ns (constructs.opening n ∷ cs) d
root_opens ns n u cs d e next =
    let p = opened_by (kind_of n) ns [] u e in
    root_body ns p.k n cs d (next_at u (in_tag ns set.empty (empty_head p.k) []) cs d p.u_is next (opened_sound p.k ns [])) (kind_is_named n p.k p.is) p.few

child_opens : (ns : Option (List ℕ)) (n : List ℕ) (o : Object) (outer : List Object) (u : State) (cs : List Construct) (d : Doc) → opened_as (kind_of n) ns (o ∷ outer) ≡ Ok u → Next u cs d
    → Inside (After ns d outer) o (length outer) (constructs.opening n ∷ cs)
child_opens ns n o outer u cs d e next =
    let p = opened_by (kind_of n) ns (o ∷ outer) u e in
    child_inside ns p.k n o outer cs d (next_at u (in_tag ns set.empty (empty_head p.k) (o ∷ outer)) cs d p.u_is next (opened_sound p.k ns (o ∷ outer))) (kind_is_named n p.k p.is) p.few

opening_back : (s : State) (n : List ℕ) (u : State) (cs : List Construct) (d : Doc) → step s (opening n) ≡ Ok u → Next u cs d → RestOf s (constructs.opening n ∷ cs) d
opening_back start n u cs d e next = body_document [] (constructs.opening n ∷ cs) d tt (root_opens None n u cs d e next)
opening_back marked n u cs d e next = root_opens None n u cs d e next
opening_back (between ns []) n u cs d e next = root_opens ns n u cs d e next
opening_back (between ns (o ∷ outer)) n u cs d e next = child_opens ns n o outer u cs d e next
opening_back (in_tag ns names h outer) n u cs d e next = absurd cc
opening_back (behind x) n u cs d e next = absurd cc
opening_back (whole x) n u cs d e next = absurd cc

record ClosedBy (p : Option Kind) (ns : Option (List ℕ)) (o : Object) (outer : List Object) (u : State) : Type 0 where
  k : Kind
  is : p ≡ Some k
  same_name : kind_name k ≡ name_of o.head
  u_is : u ≡ closed ns o outer

closed_by : (p : Option Kind) (ns : Option (List ℕ)) (o : Object) (outer : List Object) (u : State) → closed_as p ns o outer ≡ Ok u → ClosedBy p ns o outer u
closed_by None ns o outer u e = absurd cc
closed_by (Some k) ns o outer u e = by (same_kind k o.head.kind) refl e
  where
    by : (b : Bool) → same_kind k o.head.kind ≡ b → cond b (Ok (closed ns o outer)) (Err causes.Mismatch) ≡ Ok u → ClosedBy (Some k) ns o outer u
    by true i h = record { k = k; is = refl; same_name = same_kind_name k o.head.kind i; u_is = sym (ok_state (closed ns o outer) u h) }
    by false i h = absurd cc

closes_inside : (ns : Option (List ℕ)) (n : List ℕ) (o : Object) (outer : List Object) (u : State) (cs : List Construct) (d : Doc) → closed_as (kind_of n) ns o outer ≡ Ok u → Next u cs d
    → Inside (After ns d outer) o (length outer) (constructs.closing n ∷ cs)
closes_inside ns n o outer u cs d e next =
    let p = closed_by (kind_of n) ns o outer u e in
    let a : After ns d outer o cs = behind_closed ns o outer cs d (next_at u (closed ns o outer) cs d p.u_is next) in
    record {
      kids = no_objects;
      inner = [];
      later = cs;
      content = nothing (suc (length outer));
      names = tt;
      parts = ap (λ (m : List ℕ). constructs.closing m ∷ cs) (kind_is_named n p.k p.is ∙ p.same_name);
      last = subst (λ (x : Object). After ns d outer x cs) (sym (row_none o)) a;
    }

closing_back : (s : State) (n : List ℕ) (u : State) (cs : List Construct) (d : Doc) → step s (closing n) ≡ Ok u → Next u cs d → RestOf s (constructs.closing n ∷ cs) d
closing_back start n u cs d e next = absurd cc
closing_back marked n u cs d e next = absurd cc
closing_back (between ns []) n u cs d e next = absurd cc
closing_back (between ns (o ∷ outer)) n u cs d e next = closes_inside ns n o outer u cs d e next
closing_back (in_tag ns names h outer) n u cs d e next = absurd cc
closing_back (behind x) n u cs d e next = absurd cc
closing_back (whole x) n u cs d e next = absurd cc

skipped_back : (s u : State) (cs : List Construct) (d : Doc) → step s skipped ≡ Ok u → Next u cs d → RestOf s (constructs.skipped ∷ cs) d
skipped_back start u cs d e next = body_document [] (constructs.skipped ∷ cs) d tt (body_pause None cs d (next_at u (between None []) cs d (sym (ok_state (between None []) u e)) next tt))
skipped_back marked u cs d e next = body_pause None cs d (next_at u (between None []) cs d (sym (ok_state (between None []) u e)) next tt)
skipped_back (between ns []) u cs d e next = body_pause ns cs d (next_at u (between ns []) cs d (sym (ok_state (between ns []) u e)) next tt)
skipped_back (between ns (o ∷ outer)) u cs d e next = inside_pause (After ns d outer) o (length outer) cs (next_at u (between ns (o ∷ outer)) cs d (sym (ok_state (between ns (o ∷ outer)) u e)) next tt)
skipped_back (in_tag ns names h outer) u cs d e next = absurd cc
skipped_back (behind x) u cs d e next = next_at u (behind x) cs d (sym (ok_state (behind x) u e)) next tt
skipped_back (whole x) u cs d e next = absurd cc

mark_back : (s u : State) (cs : List Construct) (d : Doc) → step s mark ≡ Ok u → Next u cs d → RestOf s (constructs.mark ∷ cs) d
mark_back start u cs d e next = body_document (constructs.mark ∷ []) cs d tt (next_at u marked cs d (sym (ok_state marked u e)) next tt)
mark_back marked u cs d e next = absurd cc
mark_back (between ns []) u cs d e next = absurd cc
mark_back (between ns (o ∷ outer)) u cs d e next = absurd cc
mark_back (in_tag ns names h outer) u cs d e next = absurd cc
mark_back (behind x) u cs d e next = absurd cc
mark_back (whole x) u cs d e next = absurd cc

tag_ends : (ns : Option (List ℕ)) (names : NameSet) (h : Head) (outer : List Object) (cs : List Construct) (d : Doc) → Sound (in_tag ns names h outer) → Inside (After ns d outer) (bare h) (length outer) cs
    → TagRest ns names h outer (constructs.tag_end ∷ cs) d
tag_ends ns names h outer cs d ok i = record {
  xs = [];
  g = h;
  kind_is = refl;
  told = refl;
  unseen = tt;
  distinct = tt;
  ns_after = ns;
  told_ns = refl;
  fits = ok.0;
  free = ok.1;
  kids = i.kids;
  es = constructs.tag_end ∷ (i.inner ++ (constructs.closing (name_of h) ∷ []));
  ends = with_kids i.kids i.inner (all_differ [] (listed i.kids) tt i.names) i.content;
  later = i.later;
  last = subst (λ (x : Object). After ns d outer x i.later) (row_bare h i.kids) i.last;
  parts = ap (λ (es : List Construct). constructs.tag_end ∷ es) (i.parts ∙ sym (append_assoc i.inner (constructs.closing (name_of h) ∷ []) i.later));
}

tag_end_back : (s u : State) (cs : List Construct) (d : Doc) → step s tag_end ≡ Ok u → Sound s → Next u cs d → RestOf s (constructs.tag_end ∷ cs) d
tag_end_back start u cs d e ok next = absurd cc
tag_end_back marked u cs d e ok next = absurd cc
tag_end_back (between ns []) u cs d e ok next = absurd cc
tag_end_back (between ns (o ∷ outer)) u cs d e ok next = absurd cc
tag_end_back (in_tag ns names h outer) u cs d e ok next = tag_ends ns names h outer cs d ok (next_at u (between ns (bare h ∷ outer)) cs d (sym (ok_state (between ns (bare h ∷ outer)) u e)) next tt)
tag_end_back (behind x) u cs d e ok next = absurd cc
tag_end_back (whole x) u cs d e ok next = absurd cc

tag_closes : (ns : Option (List ℕ)) (names : NameSet) (h : Head) (outer : List Object) (cs : List Construct) (d : Doc) → Sound (in_tag ns names h outer) → After ns d outer (bare h) cs → TagRest ns names h outer (constructs.empty_end ∷ cs) d
tag_closes ns names h outer cs d ok a = record {
  xs = [];
  g = h;
  kind_is = refl;
  told = refl;
  unseen = tt;
  distinct = tt;
  ns_after = ns;
  told_ns = refl;
  fits = ok.0;
  free = ok.1;
  kids = no_objects;
  es = constructs.empty_end ∷ [];
  ends = at_once;
  later = cs;
  last = a;
  parts = refl;
}

empty_end_back : (s u : State) (cs : List Construct) (d : Doc) → step s empty_end ≡ Ok u → Sound s → Next u cs d → RestOf s (constructs.empty_end ∷ cs) d
empty_end_back start u cs d e ok next = absurd cc
empty_end_back marked u cs d e ok next = absurd cc
empty_end_back (between ns []) u cs d e ok next = absurd cc
empty_end_back (between ns (o ∷ outer)) u cs d e ok next = absurd cc
empty_end_back (in_tag ns names h outer) u cs d e ok next = tag_closes ns names h outer cs d ok (behind_closed ns (bare h) outer cs d (next_at u (closed ns (bare h) outer) cs d (sym (ok_state (closed ns (bare h) outer) u e)) next))
empty_end_back (behind x) u cs d e ok next = absurd cc
empty_end_back (whole x) u cs d e ok next = absurd cc

-- ---- attributes

-- an attribute before those that are left
more_told : (ns m : Option (List ℕ)) (names : NameSet) (h k : Head) (outer : List Object) (n raw text : List ℕ) (cs : List Construct) (d : Doc) → k.kind ≡ h.kind → Expands raw text → Says (known h.kind n) h.kind text h k
    → NsStep (known h.kind n) outer (n, raw) ns m → set.contains names n ≡ false → TagRest m (set.insert names n) k outer cs d → TagRest ns names h outer (constructs.attribute n raw ∷ cs) d
more_told ns m names h k outer n raw text cs d kind_is ex says ns_step new r = record {
  xs = (n, raw) ∷ r.xs;
  g = r.g;
  kind_is = r.kind_is ∙ kind_is;
  told = (k, (text, ex, says), subst (λ (l : Kind). Tell l r.xs k r.g) kind_is r.told);
  unseen = (new, unseen_less names n r.xs r.unseen);
  distinct = (not_again names n r.xs r.unseen, r.distinct);
  ns_after = r.ns_after;
  told_ns = (m, ns_step, subst (λ (l : Kind). NsAfter outer l r.xs m r.ns_after) kind_is r.told_ns);
  fits = r.fits;
  free = r.free;
  kids = r.kids;
  es = r.es;
  ends = r.ends;
  later = r.later;
  last = r.last;
  parts = ap (λ (es : List Construct). constructs.attribute n raw ∷ es) r.parts;
}

other_back : (ns : Option (List ℕ)) (names : NameSet) (h : Head) (outer : List Object) (n raw text : List ℕ) (u : State) (cs : List Construct) (d : Doc) → known h.kind n ≡ None → Expands raw text → set.contains names n ≡ false
    → told ns names h outer n (Ok (said.Other text)) ≡ Ok u → Sound (in_tag ns names h outer) → Next u cs d → TagRest ns names h outer (constructs.attribute n raw ∷ cs) d
other_back ns names h outer n raw text u cs d unknown ex new e ok next =
    let v : State = in_tag (with_ns ns outer n text) (set.insert names n) h outer in
    more_told ns (with_ns ns outer n text) names h h outer n raw text cs d refl ex (subst (λ (o : Option Field). Says o h.kind text h h) (sym unknown) refl)
    (subst (λ (o : Option Field). NsStep o outer (n, raw) ns (with_ns ns outer n text)) (sym unknown) (text, ex, refl)) new
    (next_at u v cs d (sym (ok_state v u e)) next ok)

record Kept (h : Head) (outer : List Object) (p : Part) (v u : State) : Type 0 where
  fits : fits_head (put_part p h) ≡ true
  once : is_twice p (siblings outer) ≡ false
  u_is : u ≡ v

kept_by : (h : Head) (outer : List Object) (p : Part) (v u : State) (a b : Bool) → fits_head (put_part p h) ≡ a → is_twice p (siblings outer) ≡ b
    → cond a (cond b (Err causes.SameName) (Ok v)) (Err (causes.Value NotName)) ≡ Ok u → Kept h outer p v u
kept_by h outer p v u true true i j e = absurd cc
kept_by h outer p v u true false i j e = record { fits = i; once = j; u_is = sym (ok_state v u e) }
kept_by h outer p v u false b i j e = absurd cc

part_back : (ns : Option (List ℕ)) (names : NameSet) (h : Head) (outer : List Object) (n raw text : List ℕ) (f : Field) (p : Part) (u : State) (cs : List Construct) (d : Doc) → known h.kind n ≡ Some f → Expands raw text
    → ReadsPart h.kind f text (Ok p) → set.contains names n ≡ false → told ns names h outer n (Ok (said.Part p)) ≡ Ok u → Sound (in_tag ns names h outer) → Next u cs d → TagRest ns names h outer (constructs.attribute n raw ∷ cs) d
part_back ns names h outer n raw text f p u cs d is ex r new e ok next =
    let v : State = in_tag ns (set.insert names n) (put_part p h) outer in
    let k = kept_by h outer p v u (fits_head (put_part p h)) (is_twice p (siblings outer)) refl refl e in
    more_told ns ns names h (put_part p h) outer n raw text cs d (kind_stays p h) ex (subst (λ (o : Option Field). Says o h.kind text h (put_part p h)) (sym is) (p, r, refl))
    (subst (λ (o : Option Field). NsStep o outer (n, raw) ns ns) (sym is) refl) new
    (next_at u v cs d k.u_is next (k.fits, still_free p h (siblings outer) ok.1 k.once))

known_back : (o : Option Field) (ns : Option (List ℕ)) (names : NameSet) (h : Head) (outer : List Object) (n raw text : List ℕ) (answer : Result Said ValueFault) (u : State) (cs : List Construct) (d : Doc) → known h.kind n ≡ o → Expands raw text
    → ReadsKnown o h.kind text answer → set.contains names n ≡ false → told ns names h outer n answer ≡ Ok u → Sound (in_tag ns names h outer) → Next u cs d → TagRest ns names h outer (constructs.attribute n raw ∷ cs) d
known_back None ns names h outer n raw text answer u cs d i ex r new e ok next =
    other_back ns names h outer n raw text u cs d i ex new (subst (λ (a : Result Said ValueFault). told ns names h outer n a ≡ Ok u) r e) ok next
known_back (Some f) ns names h outer n raw text answer u cs d i ex r new e ok next =
    by r.0 r.1 (subst (λ (a : Result Said ValueFault). told ns names h outer n a ≡ Ok u) r.2 e)
  where
    by : (q : Result Part ValueFault) → ReadsPart h.kind f text q → told ns names h outer n (read_as (λ p. said.Part p) q) ≡ Ok u → TagRest ns names h outer (constructs.attribute n raw ∷ cs) d
    by (Ok p) reads g = part_back ns names h outer n raw text f p u cs d i ex reads new g ok next
    by (Err fault_of) reads g = absurd cc

attribute_back : (s : State) (n raw text : List ℕ) (answer : Result Said ValueFault) (u : State) (cs : List Construct) (d : Doc) → Expands raw text → ReadsKnown (known (kind_in s) n) (kind_in s) text answer
    → step s (attribute n answer) ≡ Ok u → Sound s → Next u cs d → RestOf s (constructs.attribute n raw ∷ cs) d
attribute_back start n raw text answer u cs d ex r e ok next = absurd cc
attribute_back marked n raw text answer u cs d ex r e ok next = absurd cc
attribute_back (between ns []) n raw text answer u cs d ex r e ok next = absurd cc
attribute_back (between ns (o ∷ outer)) n raw text answer u cs d ex r e ok next = absurd cc
attribute_back (in_tag ns names h outer) n raw text answer u cs d ex r e ok next = by (set.contains names n) refl e
  where
    by : (b : Bool) → set.contains names n ≡ b → cond b (Err causes.Twice) (told ns names h outer n answer) ≡ Ok u → TagRest ns names h outer (constructs.attribute n raw ∷ cs) d
    by true i g = absurd cc
    by false i g = known_back (known h.kind n) ns names h outer n raw text answer u cs d refl ex r i g ok next
attribute_back (behind x) n raw text answer u cs d ex r e ok next = absurd cc
attribute_back (whole x) n raw text answer u cs d ex r e ok next = absurd cc

-- ---- all constructs

ending_back : (s u : State) (cs : List Construct) (d : Doc) → step s ending ≡ Ok u → Sound s → Next u cs d → RestOf s (constructs.ending ∷ cs) d
ending_back start u cs d e ok next = absurd cc
ending_back marked u cs d e ok next = absurd cc
ending_back (between ns []) u cs d e ok next = absurd cc
ending_back (between ns (o ∷ outer)) u cs d e ok next = absurd cc
ending_back (in_tag ns names h outer) u cs d e ok next = absurd cc
ending_back (behind x) u cs d e ok next = absurd (next_at u (whole x) cs d (sym (ok_state (whole x) u e)) next tt)
ending_back (whole x) u cs d e ok next = absurd cc

step_back : (s : State) (c : Construct) (m : Meaning) (u : State) (cs : List Construct) (d : Doc) → Means (kind_in s) c m → step s m ≡ Ok u → Sound s → Next u cs d → RestOf s (c ∷ cs) d
step_back s (constructs.opening n) m u cs d h e ok next = opening_back s n u cs d (by_meaning s m (opening n) u h e) next
step_back s (constructs.attribute n r) m u cs d h e ok next = attribute_back s n r h.0 h.2.0 u cs d h.1 h.2.1 (by_meaning s m (attribute n h.2.0) u h.2.2 e) ok next
step_back s constructs.tag_end m u cs d h e ok next = tag_end_back s u cs d (by_meaning s m tag_end u h e) ok next
step_back s constructs.empty_end m u cs d h e ok next = empty_end_back s u cs d (by_meaning s m empty_end u h e) ok next
step_back s (constructs.closing n) m u cs d h e ok next = closing_back s n u cs d (by_meaning s m (closing n) u h e) next
step_back s constructs.skipped m u cs d h e ok next = skipped_back s u cs d (by_meaning s m skipped u h e) next
step_back s constructs.ending m u cs d h e ok next = ending_back s u cs d (by_meaning s m ending u h e) ok next
step_back s constructs.mark m u cs d h e ok next = mark_back s u cs d (by_meaning s m mark u h e) next

rest_of : (s : State) (cs : List Construct) (d : Doc) → Leads s cs (behind d) → Sound s → RestOf s cs d
rest_of s cs d (done x) ok = (tt, refl)
rest_of s cs d (on x u t c m es h e l) ok = step_back x c m u es d h e ok (rest_of u es d l)

small : (bytes : List ℕ) → nat_le (length bytes) max_len ≡ true → length bytes ≤ 16_777_216
small bytes e = grind (arith, nat_tests)

judged_spells : (bytes : List ℕ) (d : Doc) → length bytes ≤ 16_777_216 → Judges true beginning 0 bytes (document d) → Spells bytes d.ns d.root
judged_spells bytes d few j =
    let t = trace start 0 bytes d refl j in
    record { small = few; constructs = t.cs; cut = t.cut; is_document = rest_of start t.cs d t.leads tt }

overlong_document : (w : Verdict) (d : Doc) → document d ≡ overlong w → w ≡ document d
overlong_document pending d e = absurd cc
overlong_document (document x) d e = sym e
overlong_document (fault at why) d e = absurd cc

-- what bytes are judged to be, they spell
pub spelled : IsWellFound → (bytes : List ℕ) (d : Doc) → Judged bytes true (document d) → Spells bytes d.ns d.root
spelled well bytes d j = by (nat_le (length bytes) max_len) refl j
  where
    by : (b : Bool) → nat_le (length bytes) max_len ≡ b → JudgedBy b bytes true (document d) → Spells bytes d.ns d.root
    by true e h = judged_spells bytes d (small bytes e) h
    by false e h = absurd (never_early well beginning 0 (take max_len bytes) d refl (subst (λ (v : Verdict). Judges false beginning 0 (take max_len bytes) v) (overlong_document h.0 d h.2) h.1))
