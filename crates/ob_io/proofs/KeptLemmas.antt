-- Things that are kept while there is room.
use Rattle.std.proofs.Common.{◌≡◌, ℕ, Bool, true, false, List, [], ◌∷◌, ◌++◌, map, Option, Some, None, option_map, is_some, IsSome, refl, sym, ap, ◌∙◌, subst}
use Rattle.std.proofs.lemmas.List.{map-append}
use Rattle.ob_io.specs.Told.{Gains}
use Rattle.ob_io.specs.Visits.{Visit, IsVisit}
use Rattle.ob_io.specs.Doors.{Doorway, IsDoorway}
use Rattle.ob_io.specs.Kept.{all_of, told_of, visit_of, visits_of, doorway_of, doorways_of}

module _ {A : Type 0} where
  all_of-none : (ms : List (Option A)) → all_of (ms ++ None ∷ []) ≡ None
  all_of-none [] = refl
  all_of-none (None ∷ ms) = refl
  all_of-none (Some m ∷ ms) = ap (option_map (λ (xs : List A). m ∷ xs)) (all_of-none ms)

  in_front : (m x : A) (o : Option (List A))
      → option_map (λ (xs : List A). m ∷ xs) (option_map (λ (xs : List A). xs ++ x ∷ []) o)
      ≡ option_map (λ (xs : List A). xs ++ x ∷ []) (option_map (λ (xs : List A). m ∷ xs) o)
  in_front m x None = refl
  in_front m x (Some xs) = refl

  all_of-last : (ms : List (Option A)) (x : A) → all_of (ms ++ Some x ∷ []) ≡ option_map (λ (xs : List A). xs ++ x ∷ []) (all_of ms)
  all_of-last [] x = refl
  all_of-last (None ∷ ms) x = refl
  all_of-last (Some m ∷ ms) x =
      ap (option_map (λ (xs : List A). m ∷ xs)) (all_of-last ms x) ∙ in_front m x (all_of ms)

  gains_last : (o : Option (List A)) (x : A) → Gains o (x ∷ []) (option_map (λ (xs : List A). xs ++ x ∷ []) o)
  gains_last None x = tt
  gains_last (Some xs) x = refl

  -- the last of them is told, or none is
  abbrev LastIs : Option (List A) → Option (List A) → Option A → Type 0
  LastIs before after last = (x : A) × Gains before (x ∷ []) after × (IsSome after → last ≡ Some x)

  last_is : (d : A) (ms : List (Option A)) (o : Option A) → LastIs (all_of ms) (all_of (ms ++ o ∷ [])) o
  last_is d ms None = (
    d,
    subst (λ (a : Option (List A)). Gains (all_of ms) (d ∷ []) a) (sym (all_of-none ms)) tt,
    λ some. absurd (let no : false ≡ true = sym (ap is_some (all_of-none ms)) ∙ some in cc),
  )
  last_is d ms (Some x) = (
    x,
    subst (λ (a : Option (List A)). Gains (all_of ms) (x ∷ []) a) (sym (all_of-last ms x)) (gains_last (all_of ms) x),
    λ some. refl,
  )

module _ {T : Type 0} where
  -- this thing was kept behind the others, where all are told
  abbrev pub Keeps : Bool → Bool → List T → List T → T → Type 0
  Keeps has has' things things' thing = has' ≡ true → (has ≡ true) × (things' ≡ things ++ thing ∷ [])

module _ {T A : Type 0} where
  pub told_last : (tell : T → Option A) (d : A) (has has' : Bool) (things things' : List T) (thing : T) → Keeps has has' things things' thing
      → LastIs (told_of tell has things) (told_of tell has' things') (tell thing)
  told_last tell d has false things things' thing keeps = (d, tt, λ some. absurd (let no : false ≡ true = some in cc))
  told_last tell d false true things things' thing keeps = absurd (let no : false ≡ true = (keeps refl).0 in cc)
  told_last tell d true true things things' thing keeps =
      let items : map tell things' ≡ map tell things ++ tell thing ∷ [] = ap (map tell) (keeps refl).1 ∙ map-append tell things (thing ∷ []) in
      subst (λ (ms : List (Option A)). LastIs (all_of (map tell things)) (all_of ms) (tell thing)) (sym items) (last_is d (map tell things) (tell thing))

-- what was told of a link that came back is its visit
visit_is : (left taken held : Option (List ℕ)) (reads writes : ℕ) (v : Visit) → visit_of left taken held reads writes ≡ Some v → IsVisit v left taken held reads writes
visit_is (Some l) (Some t) (Some h) r w v is =
    let told : Visit = record { reads = r; writes = w; taken = t; written = h; left = l } in
    let same : told ≡ v = cc in
    subst (λ (u : Visit). IsVisit u (Some l) (Some t) (Some h) r w) same
    (record { reads_are = refl; writes_are = refl; taken_is = refl; written_is = refl; left_is = refl })
visit_is None t h r w v is = absurd (cc)
visit_is (Some l) None h r w v is = absurd (cc)
visit_is (Some l) (Some t) None r w v is = absurd (cc)

blank_visit : Visit
blank_visit = record { reads = 0; writes = 0; taken = []; written = []; left = [] }

module _ {L : Type 0} (left taken held : L → Option (List ℕ)) (reads writes : L → ℕ) where
  pub visited : (has has' : Bool) (links links' : List L) (link : L) → Keeps has has' links links' link
      → (visit : Visit) × Gains (visits_of left taken held reads writes has links) (visit ∷ []) (visits_of left taken held reads writes has' links')
      × (IsSome (visits_of left taken held reads writes has' links') → IsVisit visit (left link) (taken link) (held link) (reads link) (writes link))
  visited has has' links links' link keeps =
      let last = told_last (λ (l : L). visit_of (left l) (taken l) (held l) (reads l) (writes l)) blank_visit has has' links links' link keeps in
      (last.0, last.1, λ some. visit_is (left link) (taken link) (held link) (reads link) (writes link) last.0 (last.2 some))

-- nothing is told of a link that came back
pub untold_link : (left taken held : Option (List ℕ)) (reads writes : ℕ) → (visit : Visit) × Unit {0} × (false ≡ true → IsVisit visit left taken held reads writes)
untold_link left taken held reads writes = (blank_visit, tt, λ some. absurd (let no : false ≡ true = some in cc))

doorway_is : (faults handed returned : ℕ) (closed : Bool) (visits : Option (List Visit)) (d : Doorway) → doorway_of faults handed returned closed visits ≡ Some d
    → IsDoorway d faults handed returned closed visits
doorway_is f h r c (Some vs) d is =
    let told : Doorway = record { faults = f; handed = h; returned = r; closed = c; visits = vs } in
    let same : told ≡ d = cc in
    subst (λ (u : Doorway). IsDoorway u f h r c (Some vs)) same
    (record { faults_are = refl; handed_are = refl; returned_are = refl; closed_is = refl; visits_are = refl })
doorway_is f h r c None d is = absurd (cc)

blank_doorway : Doorway
blank_doorway = record { faults = 0; handed = 0; returned = 0; closed = false; visits = [] }

module _ {D : Type 0} (faults handed returned : D → ℕ) (closed : D → Bool) (visits : D → Option (List Visit)) where
  pub came_back : (has has' : Bool) (doors doors' : List D) (door : D) → Keeps has has' doors doors' door
      → (doorway : Doorway) × Gains (doorways_of faults handed returned closed visits has doors) (doorway ∷ []) (doorways_of faults handed returned closed visits has' doors')
      × (IsSome (doorways_of faults handed returned closed visits has' doors') → IsDoorway doorway (faults door) (handed door) (returned door) (closed door) (visits door))
  came_back has has' doors doors' door keeps =
      let last = told_last (λ (d : D). doorway_of (faults d) (handed d) (returned d) (closed d) (visits d)) blank_doorway has has' doors doors' door keeps in
      (last.0, last.1, λ some. doorway_is (faults door) (handed door) (returned door) (closed door) (visits door) last.0 (last.2 some))

-- nothing is told of a door that came back
pub untold_door : (faults handed returned : ℕ) (closed : Bool) (visits : Option (List Visit)) → (doorway : Doorway) × Unit {0} × (false ≡ true → IsDoorway doorway faults handed returned closed visits)
untold_door faults handed returned closed visits = (blank_doorway, tt, λ some. absurd (let no : false ≡ true = some in cc))
