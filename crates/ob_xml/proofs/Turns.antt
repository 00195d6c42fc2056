-- What one turn over a text tells of the whole.
use Rattle.std.proofs.Common.{◌≡◌, ◌≢◌, ℕ, ◌+◌, ◌<◌, ◌≤◌, Bool, true, false, List, length, drop, Result, Ok, Err, refl, sym, ap, subst, ◌∙◌, arith}
use Rattle.std.proofs.lemmas.List.{length-drop}
use Rattle.ob_scan.specs.declared.piece.Place.{Place}
use Rattle.ob_scan.specs.declared.piece.ScanFault.{ScanFault}
use Rattle.ob_scan.specs.declared.piece.Piece.{Piece}
use Rattle.ob_scan.specs.declared.piece.Piece.TheVariants as pieces
use Rattle.ob_scan.specs.declared.piece.Found.TheVariants as finds
use Rattle.ob_scan.specs.declared.wait.Wait.{Wait}
use Rattle.ob_scan.specs.Constructs.{Construct, Scanned, found, more, refused, scan, lead}
use Rattle.ob_scan.proofs.Advance.{Proper, scan_proper}
use Rattle.ob_scan.specs.Judgement.{IsWellFound}
use Rattle.ob_scan.specs.View.{construct_of, Answers, Advances, HasValue}
use Rattle.ob_scan.specs.Waiting.{IsWaiting}
use Rattle.ob_xml.specs.declared.refused.Why.{Why}
use Rattle.ob_xml.specs.declared.refused.Why.TheVariants.{Markup, Element, Mismatch, Twice, SameName, Value, Text, Deep, Big, Ended, Memory}
use Rattle.ob_xml.specs.declared.judge.Turn.{Turn}
use Rattle.ob_xml.specs.declared.judge.Turn.TheVariants as turns
use Rattle.ob_xml.specs.declared.state.State.{State as Kept}
use Rattle.ob_xml.specs.Meanings.{Meaning, ending, Means}
use Rattle.ob_xml.specs.Structure.{State, start, marked, between, in_tag, behind, whole, place_of, kind_in, step}
use Rattle.ob_xml.specs.Outcomes.{Fails}
use Rattle.ob_xml.specs.Judged.{document, fault, cause_of, is_open, Judges, complete, goes_on, misplaced, malformed}
use Rattle.ob_xml.specs.Leading.{LeadsOn}
use Rattle.ob_xml.specs.Views.{state_of, HasMeaning}
use Rattle.ob_xml.specs.Turning.{Turned, Refuses, Settles}
use Rattle.ob_xml.proofs.Ends.{only_at_end}

pub refused_turn : (ended : Bool) (s : State) (bytes : List ℕ) (base at place_told : ℕ) (place : Place) (f : ScanFault) (why : Why) → is_open s ≡ true → place ≡ place_of s → why ≡ cause_of f.why → place_told ≡ base + f.at
    → Answers place bytes at (Err f) (scan place ended (drop at bytes)) → Judges ended s (base + at) (drop at bytes) (fault place_told why)
refused_turn ended s bytes base at place_told place f why still p w q a =
    let place_is : place_told ≡ (base + at) + a.0 = omega (arith, q, a.2) in
    subst (λ (n : ℕ). Judges ended s (base + at) (drop at bytes) (fault n why)) (sym place_is)
    (subst (λ (w : Why). Judges ended s (base + at) (drop at bytes) (fault ((base + at) + a.0) w)) (sym w)
    (malformed s (base + at) (drop at bytes) a.0 f.why still (ap (λ (q : Place). scan q ended (drop at bytes)) (sym p) ∙ a.1)))

-- a place that is told is within the bytes
pub fault_within : (ended : Bool) (bytes : List ℕ) (at : ℕ) (place : Place) (f : ScanFault) → at ≤ length bytes → Answers place bytes at (Err f) (scan place ended (drop at bytes)) → f.at ≤ length bytes
fault_within ended bytes at place f le a =
    let p : Proper (drop at bytes) (refused a.0 f.why) = subst (Proper (drop at bytes)) a.1 (scan_proper place ended (drop at bytes)) in
    omega (arith, p, a.2, length-drop at bytes)

pub first_within : (bytes : List ℕ) (at : ℕ) (place : Place) (piece : Piece) (first next : ℕ) (s : Scanned) → at ≤ length bytes → Answers place bytes at (Ok (finds.Piece piece first next)) s → first ≤ length bytes
first_within bytes at place piece first next s le a = omega (arith, a.1, length-drop at bytes)

pub waiting_turn : (ended : Bool) (s : State) (bytes : List ℕ) (at : ℕ) (place : Place) (wait : Wait) → place ≡ place_of s
    → Answers place bytes at (Ok (finds.More wait)) (scan place ended (drop at bytes)) → scan (place_of s) ended (drop at bytes) ≡ more
waiting_turn ended s bytes at place wait p a = ap (λ (q : Place). scan q ended (drop at bytes)) (sym p) ∙ a

pub waits_there : (s : State) (bytes : List ℕ) (at : ℕ) (place : Place) (wait : Wait) → place ≡ place_of s → IsWaiting place (drop at bytes) wait → IsWaiting (place_of s) (drop at bytes) wait
waits_there s bytes at place wait p w = subst (λ (q : Place). IsWaiting q (drop at bytes) wait) p w

pub has_meaning : (piece : Piece) (first next : ℕ) → HasValue (Ok (finds.Piece piece first next)) → HasMeaning piece
has_meaning (pieces.Open name) first next h = tt
has_meaning (pieces.Attr name raw) first next h = h
has_meaning pieces.TagEnd first next h = tt
has_meaning pieces.EmptyEnd first next h = tt
has_meaning (pieces.Close name) first next h = tt
has_meaning pieces.Skipped first next h = tt
has_meaning pieces.End first next h = tt
has_meaning pieces.Mark first next h = tt

-- the end leads on from no state that stays open
not_at_end : (s t : State) → step s ending ≡ Ok t → is_open t ≡ true → ⊥
not_at_end start t e h = absurd cc
not_at_end marked t e h = absurd cc
not_at_end (between ns outer) t e h = absurd cc
not_at_end (in_tag ns names x outer) t e h = absurd cc
not_at_end (behind x) t e h =
    let is : whole x ≡ t = cc in
    let no : false ≡ true = ap is_open is ∙ h in absurd cc
not_at_end (whole x) t e h = absurd cc

-- only at the end a construct takes nothing, and no element is open behind it
moves : (s t : State) (piece : Piece) (m : Meaning) (at first next : ℕ) → Means (kind_in s) (construct_of piece) m → step s m ≡ Ok t → is_open t ≡ true → Advances at (Ok (finds.Piece piece first next)) → at < next
moves s t (pieces.Open name) p at first next m e h a = a
moves s t (pieces.Attr name raw) p at first next m e h a = a
moves s t pieces.TagEnd p at first next m e h a = a
moves s t pieces.EmptyEnd p at first next m e h a = a
moves s t (pieces.Close name) p at first next m e h a = a
moves s t pieces.Skipped p at first next m e h a = a
moves s t pieces.Mark p at first next m e h a = a
moves s t pieces.End p at first next m e h a = absurd (not_at_end s t (ap (step s) (sym m) ∙ e) h)

-- the construct at a place
leads_on : (ended : Bool) (s t : State) (bytes : List ℕ) (at next : ℕ) (place : Place) (c : Construct) (m : Meaning) → is_open s ≡ true → place ≡ place_of s
    → scan place ended (drop at bytes) ≡ found c (drop next bytes) → Means (kind_in s) c m → step s m ≡ Ok t → LeadsOn ended s (drop at bytes) t (drop next bytes)
leads_on ended s t bytes at next place c m still q a means e = record {
  construct = c;
  meaning = m;
  goes_on = still;
  stands = ap (λ (q : Place). scan q ended (drop at bytes)) (sym q) ∙ a;
  means = means;
  steps = e;
}

pub stepped_turn : (well : IsWellFound) (ended : Bool) (s : Kept) (t : State) (bytes : List ℕ) (base at first next : ℕ) (place : Place) (piece : Piece) (m : Meaning) (turn : Turn) → is_open (state_of s) ≡ true → place ≡ place_of (state_of s)
    → Answers place bytes at (Ok (finds.Piece piece first next)) (scan place ended (drop at bytes)) → Advances at (Ok (finds.Piece piece first next))
    → Means (kind_in (state_of s)) (construct_of piece) m → step (state_of s) m ≡ Ok t → Settles t next turn → Turned ended bytes base s at turn
unfolding leads_on
stepped_turn well ended s t bytes base at first next place piece m (turns.On u n) still q a adv means e h =
    let lt : at < next = moves (state_of s) t piece m at first next means e h.2 adv in
    let same : LeadsOn ended (state_of s) (drop at bytes) t (drop next bytes) = leads_on ended (state_of s) t bytes at next place (construct_of piece) m still q a.0 means e in (
      ap is_open h.0 ∙ h.2,
      h.3,
      omega (arith, h.1, lt),
      omega (arith, h.1, a.3),
      subst (λ (x : State). LeadsOn ended (state_of s) (drop at bytes) x (drop n bytes)) (sym h.0) (subst (λ (k : ℕ). LeadsOn ended (state_of s) (drop at bytes) t (drop k bytes)) (sym h.1) same),
    )
stepped_turn well ended s t bytes base at first next place piece m (turns.Waiting u wait) still q a adv means e h = absurd h
stepped_turn well ended s t bytes base at first next place piece m (turns.Document root) still q a adv means e h =
    let w : step (state_of s) m ≡ Ok (whole root.value) = e ∙ ap Ok h in
    let on = leads_on ended (state_of s) (whole root.value) bytes at next place (construct_of piece) m still q a.0 means w in (
      only_at_end well ended (state_of s) (drop at bytes) (drop next bytes) (construct_of piece) m root.value on.stands means w,
      goes_on (state_of s) (whole root.value) (base + at) (drop at bytes) (drop next bytes) (construct_of piece) m (document root.value) still on.stands means w (complete root.value _ (drop next bytes)),
    )
stepped_turn well ended s t bytes base at first next place piece m (turns.Fault told) still q a adv means e h = absurd h

fails_for : {Y : Type 0} (why : Why) (r : Result Y Why) → why ≢ Memory → Fails why r → r ≡ Err why
fails_for Markup r n h = h
fails_for Element r n h = h
fails_for Mismatch r n h = h
fails_for Twice r n h = h
fails_for SameName r n h = h
fails_for (Value f) r n h = h
fails_for Text r n h = h
fails_for Deep r n h = h
fails_for Big r n h = h
fails_for Ended r n h = h
fails_for Memory r n h = absurd (n refl)

pub misplaced_turn : (ended : Bool) (s : Kept) (bytes : List ℕ) (base at first next place_told : ℕ) (place : Place) (piece : Piece) (m : Meaning) (why : Why) (turn : Turn) → is_open (state_of s) ≡ true → place ≡ place_of (state_of s)
    → place_told ≡ base + first
    → Answers place bytes at (Ok (finds.Piece piece first next)) (scan place ended (drop at bytes)) → Means (kind_in (state_of s)) (construct_of piece) m
    → Fails why (step (state_of s) m) → Refuses place_told why turn → Turned ended bytes base s at turn
misplaced_turn ended s bytes base at first next place_told place piece m why (turns.On u n) still q told a means e h = absurd h
misplaced_turn ended s bytes base at first next place_told place piece m why (turns.Waiting u wait) still q told a means e h = absurd h
misplaced_turn ended s bytes base at first next place_told place piece m why (turns.Document root) still q told a means e h = absurd h
misplaced_turn ended s bytes base at first next place_told place piece m why (turns.Fault told_of) still q told a means e h =
    let here : lead place (drop at bytes) ≡ lead (place_of (state_of s)) (drop at bytes) = ap (λ (x : Place). lead x (drop at bytes)) q in
    let place_is : told_of.at ≡ (base + at) + lead (place_of (state_of s)) (drop at bytes) = omega (arith, h.1, told, a.1, here) in
    subst (λ (n : ℕ). Judges ended (state_of s) (base + at) (drop at bytes) (fault n told_of.why)) (sym place_is)
    (subst (λ (w : Why). Judges ended (state_of s) (base + at) (drop at bytes) (fault ((base + at) + lead (place_of (state_of s)) (drop at bytes)) w)) (sym h.2)
    (misplaced (state_of s) (base + at) (drop at bytes) (drop next bytes) (construct_of piece) m why still (ap (λ (q : Place). scan q ended (drop at bytes)) (sym q) ∙ a.0) means (fails_for why (step (state_of s) m) h.0 e)))
