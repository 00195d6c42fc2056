-- What the scanner asks for and refuses.
use Rattle.std.proofs.Common.{◌≡◌, ◌≢◌, ℕ, ◌-◌, ◌⊎◌, inl, inr, Bool, true, false, cond, eqb, List, [], ◌∷◌, ◌++◌, length, Option, Some, None, Result, Ok, Err, refl, sym, ap, ◌∙◌, subst, append-nil, arith}
use Rattle.ob_scan.specs.declared.stop.Stop.{Stop}
use Rattle.ob_scan.specs.declared.stop.Stop.TheVariants.{Want, Malformed}
use Rattle.ob_scan.specs.declared.piece.Why.{Why}
use Rattle.ob_scan.specs.declared.piece.Why.TheVariants as whys
use Rattle.ob_scan.specs.declared.piece.Place.{Place}
use Rattle.ob_scan.specs.declared.piece.Place.TheVariants.{Start, Marked, Between, InTag, After}
use Rattle.ob_scan.specs.Reading.{behind_spaces}
use Rattle.ob_scan.specs.Constructs.{Construct, Scanned, found, more, refused, markup_at, attribute_at, bad_reference, declaration_at, declares, mark_at, wanting, judged, checked, attribute_found, empty_end_at, tag_part, blank, outside, behind_element, declared, behind_mark, marked, scan}
use Rattle.ob_scan.specs.Constructs as scanned
use Rattle.ob_scan.specs.Judgement.{StaysWith, IsJudgedOnce}
use Rattle.ob_markup.specs.Pieces.{Piece, attribute, HasForm, HasNoForm, MayHaveForm}
use Rattle.ob_markup.specs.Scanning.{told, RefersBadly, BeginsDark, BlamesInTag, BlamesOutside, Blames, IsRefused, IsUnfinished, AsksForMore, RefusesOthers, RefusesAtTheEnd}
use Rattle.ob_markup.specs.Characters.{IsBlank, is_white}
use Rattle.ob_markup.proofs.Found.{found_ok}
use Rattle.ob_markup.proofs.Refused.{same_refused, ill_scan, Stood, is_found, is_refused, stood, refused_ok}
use Rattle.ob_markup.proofs.Unfinished.{more_may}

-- ---- where a piece stands, nothing more is asked for

stood_asks : (place : Place) (ended : Bool) (bytes : List ℕ) (p : Piece) (rest : List ℕ) → scan place ended bytes ≡ more → HasForm place ended bytes p rest → ⊥
stood_asks place ended bytes p rest e f = on (stood place ended bytes p rest f)
  where
    on : Stood place ended bytes p rest → ⊥
    on (is_found h) = let t : found (told p) rest ≡ more = sym h ∙ e in cc
    on (is_refused space a j g h) = let t : refused _ whys.Markup ≡ more = sym h ∙ e in cc

-- what is refused has no piece, or is an attribute with a bad reference
refused_never : (place : Place) (bytes : List ℕ) (k : ℕ) (why : Why) → IsRefused place bytes k why → HasNoForm place false bytes → MayHaveForm place bytes → ⊥
refused_never place bytes k why (inl h) n m = h.0 m.0 m.1 m.2 m.3
refused_never place bytes k why (inr h) n m = n (attribute h.1.space h.1.attr) h.1.rest h.1.form

pub asks_for_more : IsJudgedOnce → AsksForMore
asks_for_more once place bytes = (λ e. (λ p rest f. stood_asks place false bytes p rest e f, more_may place bytes e), λ u. on (scan place false bytes) refl u)
  where
    on : (s : Scanned) → scan place false bytes ≡ s → IsUnfinished place false bytes → s ≡ more
    on (found c rest) e u = let r = found_ok place false bytes c rest e in absurd (u.0 r.piece rest r.form)
    on more e u = refl
    on (refused k why) e u = absurd (refused_never place bytes k why (refused_ok once place bytes k why e) u.0 u.1)

-- ---- one place and cause

blank_length : (white other : List ℕ) (xs ys : List ℕ) → IsBlank white → IsBlank other → BeginsDark xs → BeginsDark ys → white ++ xs ≡ other ++ ys → length white ≡ length other
blank_length [] [] xs ys w v d f e = refl
blank_length [] (o ∷ other) [] ys w v d f e = absurd cc
blank_length [] (o ∷ other) (x ∷ xs) ys w v d f e =
    let same : x ≡ o = cc in
    let g : true ≡ false = sym v.0 ∙ ap is_white (sym same) ∙ d in
    absurd cc
blank_length (x ∷ white) [] xs [] w v d f e = absurd cc
blank_length (x ∷ white) [] xs (y ∷ ys) w v d f e =
    let same : x ≡ y = cc in
    let g : true ≡ false = sym w.0 ∙ ap is_white same ∙ f in
    absurd cc
blank_length (x ∷ white) (o ∷ other) xs ys w v d f e =
    let later : white ++ xs ≡ other ++ ys = cc in
    omega (arith, blank_length white other xs ys w.1 v.1 d f later)

in_tag_one : (bytes : List ℕ) (j k : ℕ) (v w : Why) → BlamesInTag bytes j v → BlamesInTag bytes k w → (j ≡ k) × (v ≡ w)
in_tag_one bytes j k v w a b =
    (a.place_is ∙ blank_length a.white b.white a.rest b.rest a.is_white b.is_white a.is_dark b.is_dark (sym a.parts ∙ b.parts) ∙ sym b.place_is, a.why_is ∙ sym b.why_is)

outside_one : (bytes : List ℕ) (j k : ℕ) (v w : Why) → BlamesOutside bytes j v → BlamesOutside bytes k w → (j ≡ k) × (v ≡ w)
outside_one [] j k v w a b = absurd a
outside_one (x ∷ bytes) j k v w a b = (a.0 ∙ sym b.0, on a.1 b.1)
  where
    on : (x ≡ 60) × (v ≡ whys.Markup) ⊎ (x ≢ 60) × (v ≡ whys.Text) → (x ≡ 60) × (w ≡ whys.Markup) ⊎ (x ≢ 60) × (w ≡ whys.Text) → v ≡ w
    on (inl p) (inl q) = p.1 ∙ sym q.1
    on (inl p) (inr q) = absurd (q.0 p.0)
    on (inr p) (inl q) = absurd (p.0 q.0)
    on (inr p) (inr q) = p.1 ∙ sym q.1

blames_one : (place : Place) (bytes : List ℕ) (j k : ℕ) (v w : Why) → Blames place bytes j v → Blames place bytes k w → (j ≡ k) × (v ≡ w)
blames_one Start bytes j k v w a b = outside_one bytes j k v w a b
blames_one Marked bytes j k v w a b = outside_one bytes j k v w a b
blames_one Between bytes j k v w a b = outside_one bytes j k v w a b
blames_one InTag bytes j k v w a b = in_tag_one bytes j k v w a b
blames_one After bytes j k v w a b = outside_one bytes j k v w a b

bare_form : (place : Place) (bytes : List ℕ) (p : Piece) (rest : List ℕ) → HasForm place false bytes p rest → HasForm place false (bytes ++ []) p rest
bare_form place bytes p rest f = subst (λ (xs : List ℕ). HasForm place false xs p rest) (sym (append-nil bytes)) f

badly_refused : (place : Place) (bytes : List ℕ) (k : ℕ) (why : Why) → why ≡ whys.Markup → RefersBadly place bytes k → scan place false bytes ≡ refused k why
badly_refused place bytes k why w r =
    ill_scan place false bytes r.space r.attr r.rest r.bad r.form r.is_bad ∙ ap (λ (n : ℕ). refused n whys.Markup) (sym r.place_is) ∙ ap (refused k) (sym w)

refused_again : IsJudgedOnce → (place : Place) (bytes : List ℕ) (k : ℕ) (why : Why) → IsRefused place bytes k why → scan place false bytes ≡ refused k why
refused_again once place bytes k why (inr h) = badly_refused place bytes k why h.0 h.1
refused_again once place bytes k why (inl h) = on (scan place false bytes) refl
  where
    by : (j : ℕ) (v : Why) → IsRefused place bytes j v → refused j v ≡ refused k why
    by j v (inl g) = let one = blames_one place bytes j k v why g.1 h.1 in ap (λ (n : ℕ). refused n v) one.0 ∙ ap (refused k) one.1
    by j v (inr g) = absurd (h.0 [] (attribute g.1.space g.1.attr) g.1.rest (bare_form place bytes (attribute g.1.space g.1.attr) g.1.rest g.1.form))

    on : (s : Scanned) → scan place false bytes ≡ s → s ≡ refused k why
    on (found c rest) e = let r = found_ok place false bytes c rest e in absurd (h.0 [] r.piece rest (bare_form place bytes r.piece rest r.form))
    on more e = let m = more_may place bytes e in absurd (h.0 m.0 m.1 m.2 m.3)
    on (refused j v) e = by j v (refused_ok once place bytes j v e)

pub refuses_others : IsJudgedOnce → RefusesOthers
refuses_others once place bytes k why = (refused_ok once place bytes k why, refused_again once place bytes k why)

-- ---- where the bytes have ended

-- something found, or the end inside a piece
data AtEnd (bytes : List ℕ) (s : Scanned) : Type 0 where
  ends_found : (c : Construct) (rest : List ℕ) → s ≡ found c rest → AtEnd bytes s
  ends_inside : s ≡ refused (length bytes) whys.Ended → AtEnd bytes s

judged_ends : (bytes : List ℕ) (place : ℕ) (r : Result (Construct × List ℕ) Stop) → judged false bytes place r ≡ more → AtEnd bytes (judged true bytes place r)
judged_ends bytes place (Ok x) e = absurd cc
judged_ends bytes place (Err Want) e = ends_inside refl
judged_ends bytes place (Err Malformed) e = absurd cc

blank_ends : (bytes xs : List ℕ) → blank false xs ≡ more → AtEnd bytes (blank true xs)
blank_ends bytes [] e = ends_found scanned.skipped [] refl
blank_ends bytes (x ∷ xs) e = on (eqb x 60) e
  where
    on : (v : Bool) → cond v (found scanned.skipped (x ∷ xs)) (refused 0 whys.Text) ≡ more → AtEnd bytes (cond v (found scanned.skipped (x ∷ xs)) (refused 0 whys.Text))
    on true h = absurd cc
    on false h = absurd cc

outside_ends : (bytes : List ℕ) → outside false bytes ≡ more → AtEnd bytes (outside true bytes)
outside_ends [] e = ends_inside refl
outside_ends (b ∷ bytes) e = on (eqb b 60) e
  where
    on : (v : Bool) → cond v (judged false (b ∷ bytes) 0 (markup_at bytes)) (blank false (behind_spaces (b ∷ bytes))) ≡ more → AtEnd (b ∷ bytes) (cond v (judged true (b ∷ bytes) 0 (markup_at bytes)) (blank true (behind_spaces (b ∷ bytes))))
    on true h = judged_ends (b ∷ bytes) 0 (markup_at bytes) h
    on false h = blank_ends (b ∷ bytes) (behind_spaces (b ∷ bytes)) h

declared_ends : (bytes : List ℕ) (r : Result (List ℕ) Stop) → declared false bytes r ≡ more → AtEnd bytes (declared true bytes r)
declared_ends bytes (Ok behind) e = judged_ends bytes 0 (declaration_at behind) e
declared_ends bytes (Err Want) e = ends_inside refl
declared_ends bytes (Err Malformed) e = outside_ends bytes e

marked_ends : (bytes : List ℕ) (r : Result (List ℕ) Stop) → marked false bytes r ≡ more → AtEnd bytes (marked true bytes r)
marked_ends bytes (Ok behind) e = absurd cc
marked_ends bytes (Err Want) e = ends_inside refl
marked_ends bytes (Err Malformed) e = declared_ends bytes (declares bytes) e

element_ends : (bytes : List ℕ) → behind_element false bytes ≡ more → AtEnd bytes (behind_element true bytes)
element_ends [] e = ends_found scanned.ending [] refl
element_ends (b ∷ bytes) e = outside_ends (b ∷ bytes) e

attribute_ends : (bytes here : List ℕ) (r : Result ((List ℕ × List ℕ) × List ℕ) Stop) → attribute_found false bytes here r ≡ more → AtEnd bytes (attribute_found true bytes here r)
attribute_ends bytes here (Err Want) e = ends_inside refl
attribute_ends bytes here (Err Malformed) e = absurd cc
attribute_ends bytes here (Ok x) e = absurd (never (bad_reference x.0.1) e)
  where
    never : (o : Option ℕ) → checked bytes here x o ≡ more → ⊥
    never None e = cc
    never (Some k) e = cc

part_ends : (bytes here : List ℕ) → tag_part false bytes here ≡ more → AtEnd bytes (tag_part true bytes here)
part_ends bytes [] e = ends_inside refl
part_ends bytes (b ∷ here) e = on (eqb b 62) (eqb b 47) (eqb (length bytes) (length (b ∷ here))) e
  where
    on : (p q r : Bool) → cond p (found scanned.tag_end here) (cond q (judged false bytes (length bytes - length (b ∷ here)) (empty_end_at here)) (cond r (refused 0 whys.Markup) (attribute_found false bytes (b ∷ here) (attribute_at (b ∷ here))))) ≡ more
        → AtEnd bytes (cond p (found scanned.tag_end here) (cond q (judged true bytes (length bytes - length (b ∷ here)) (empty_end_at here)) (cond r (refused 0 whys.Markup) (attribute_found true bytes (b ∷ here) (attribute_at (b ∷ here))))))
    on true q r h = absurd cc
    on false true r h = judged_ends bytes (length bytes - length (b ∷ here)) (empty_end_at here) h
    on false false true h = absurd cc
    on false false false h = attribute_ends bytes (b ∷ here) (attribute_at (b ∷ here)) h

more_ends : (place : Place) (bytes : List ℕ) → scan place false bytes ≡ more → AtEnd bytes (scan place true bytes)
more_ends Start bytes e = marked_ends bytes (mark_at bytes) e
more_ends Marked bytes e = declared_ends bytes (declares bytes) e
more_ends Between bytes e = outside_ends bytes e
more_ends InTag bytes e = part_ends bytes (behind_spaces bytes) e
more_ends After bytes e = element_ends bytes e

stays_at_end : IsJudgedOnce → (place : Place) (bytes : List ℕ) (s : Scanned) → scan place false bytes ≡ s → StaysWith [] s (scan place true bytes)
stays_at_end once place bytes s e =
    subst (λ (t : Scanned). StaysWith [] t (scan place true bytes)) e (subst (λ (xs : List ℕ). StaysWith [] (scan place false bytes) (scan place true xs)) (append-nil bytes) (once place true bytes []))

not_inside : (place : Place) (bytes : List ℕ) (p : Piece) (rest : List ℕ) → scan place true bytes ≡ refused (length bytes) whys.Ended → HasForm place true bytes p rest → ⊥
not_inside place bytes p rest e f = on (stood place true bytes p rest f)
  where
    apart : (j k : ℕ) → refused j whys.Markup ≡ refused k whys.Ended → ⊥
    apart j k e = let w : whys.Markup ≡ whys.Ended = cc in cc

    on : Stood place true bytes p rest → ⊥
    on (is_found h) = let t : found (told p) rest ≡ refused (length bytes) whys.Ended = sym h ∙ e in cc
    on (is_refused space a j g h) = apart _ (length bytes) (sym h ∙ e)

end_ok : IsJudgedOnce → (place : Place) (bytes : List ℕ) (k : ℕ) (why : Why) → scan place true bytes ≡ refused k why → IsRefused place bytes k why ⊎ IsUnfinished place true bytes × (why ≡ whys.Ended) × (k ≡ length bytes)
end_ok once place bytes k why e = on (scan place false bytes) refl
  where
    by : scan place false bytes ≡ more → AtEnd bytes (scan place true bytes) → IsRefused place bytes k why ⊎ IsUnfinished place true bytes × (why ≡ whys.Ended) × (k ≡ length bytes)
    by m (ends_found c rest h) = let t : found c rest ≡ refused k why = sym h ∙ e in absurd cc
    by m (ends_inside h) =
        let same = same_refused (length bytes) k whys.Ended why (sym h ∙ e) in
        inr ((λ p rest f. not_inside place bytes p rest h f, more_may place bytes m), sym same.why, sym same.place)

    on : (s : Scanned) → scan place false bytes ≡ s → IsRefused place bytes k why ⊎ IsUnfinished place true bytes × (why ≡ whys.Ended) × (k ≡ length bytes)
    on (found c rest) h = let t : found c (rest ++ []) ≡ refused k why = sym (stays_at_end once place bytes (found c rest) h) ∙ e in absurd cc
    on (refused j v) h =
        let same = same_refused j k v why (sym (stays_at_end once place bytes (refused j v) h) ∙ e) in
        inl (subst (λ (n : ℕ). IsRefused place bytes n why) same.place (subst (λ (w : Why). IsRefused place bytes j w) same.why (refused_ok once place bytes j v h)))
    on more h = by h (more_ends place bytes h)

end_again : IsJudgedOnce → (place : Place) (bytes : List ℕ) (k : ℕ) (why : Why) → IsRefused place bytes k why ⊎ IsUnfinished place true bytes × (why ≡ whys.Ended) × (k ≡ length bytes) → scan place true bytes ≡ refused k why
end_again once place bytes k why (inl h) = stays_at_end once place bytes (refused k why) (refused_again once place bytes k why h)
end_again once place bytes k why (inr (u, w, n)) = on (scan place false bytes) refl
  where
    found_none : (c : Construct) (rest : List ℕ) → scan place true bytes ≡ found c rest → ⊥
    found_none c rest h = let r = found_ok place true bytes c rest h in u.0 r.piece rest r.form

    bad : (j : ℕ) → RefersBadly place bytes j → ⊥
    bad j r = u.0 (attribute r.space r.attr) r.rest (record { stands = r.form.stands; form = r.form.form; printed = r.form.printed; follows = tt })

    never : (j : ℕ) (v : Why) → IsRefused place bytes j v → ⊥
    never j v (inl g) = g.0 u.1.0 u.1.1 u.1.2 u.1.3
    never j v (inr g) = bad j g.1

    by : AtEnd bytes (scan place true bytes) → scan place true bytes ≡ refused k why
    by (ends_found c rest h) = absurd (found_none c rest h)
    by (ends_inside h) = h ∙ ap (λ (m : ℕ). refused m whys.Ended) (sym n) ∙ ap (refused k) (sym w)

    on : (s : Scanned) → scan place false bytes ≡ s → scan place true bytes ≡ refused k why
    on (found c rest) h = absurd (found_none c (rest ++ []) (stays_at_end once place bytes (found c rest) h))
    on (refused j v) h = absurd (never j v (refused_ok once place bytes j v h))
    on more h = by (more_ends place bytes h)

pub refuses_at_the_end : IsJudgedOnce → RefusesAtTheEnd
refuses_at_the_end once place bytes k why = (end_ok once place bytes k why, end_again once place bytes k why)
