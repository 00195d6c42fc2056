-- The constructs that have been read decide, and stay, however the bytes go on.
use Rattle.std.proofs.Common.{◌≡◌, ℕ, ◌+◌, ◌-◌, ◌≤◌, Bool, true, false, List, [], ◌∷◌, ◌++◌, length, drop, suc, Option, Some, None, refl, sym, ap, subst, ◌∙◌, append_assoc, arith, length-append}
use Rattle.std.specs.Prelude.{is_some}
use Rattle.std.proofs.lemmas.List.{append-nil, length-drop}
use Rattle.std.proofs.lemmas.Grind.{common_steps}
use Rattle.ob_scan.specs.declared.piece.Place.{Place}
use Rattle.ob_scan.specs.declared.wait.Wait.{Wait}
use Rattle.ob_scan.specs.Constructs.{Scanned, more, scan, then_read}
use Rattle.ob_scan.specs.Judgement.{StaysWith, IsJudgedOnce}
use Rattle.ob_scan.specs.Waiting.{after_wait, after_all, IsWaiting}
use Rattle.ob_xml.specs.Structure.{State, beginning, place_of}
use Rattle.ob_xml.specs.Judged.{Verdict, Judges, goes_on}
use Rattle.ob_xml.specs.Leading.{LeadsOn, Leads}
use Rattle.ob_xml.specs.Leading as leading

pub drop_longer : (n : ℕ) (bytes tail : List ℕ) → n ≤ length bytes → drop n (bytes ++ tail) ≡ drop n bytes ++ tail
drop_longer n bytes tail le = grind (arith, common_steps)

-- behind bytes that have gone
pub drop_gone : (gone bytes : List ℕ) (n : ℕ) → drop (length gone + n) (gone ++ bytes) ≡ drop n bytes
drop_gone [] bytes n = let e : 0 + n ≡ n = omega arith in ap (λ (k : ℕ). drop k bytes) e
drop_gone (b ∷ gone) bytes n =
    let e : length (b ∷ gone) + n ≡ suc (length gone + n) = omega arith in
    ap (λ (k : ℕ). drop k (b ∷ (gone ++ bytes))) e ∙ drop_gone gone bytes n

pub drop_twice : (n m : ℕ) (bytes : List ℕ) → n ≤ m → m ≤ length bytes → drop (m - n) (drop n bytes) ≡ drop m bytes
drop_twice n m bytes le end = grind (arith, common_steps)

-- what is judged from there on is judged of the whole text
pub leads_judges : (ended : Bool) (bytes : List ℕ) (s : State) (at from : ℕ) (v : Verdict) → Leads ended bytes s at from → Judges ended s at (drop at bytes) v → Judges ended beginning 0 bytes v
leads_judges ended bytes s at from v leading.begins j = j
leads_judges ended bytes s at from v (leading.on s1 t a f next l o le end) j =
    let n : a + (length (drop a bytes) - length (drop next bytes)) ≡ next = omega (arith, length-drop a bytes, length-drop next bytes) in
    leads_judges ended bytes s1 a f v l
    (goes_on s1 t a (drop a bytes) (drop next bytes) o.construct o.meaning v o.goes_on o.stands o.means o.steps (subst (λ (k : ℕ). Judges ended t k (drop next bytes) v) (sym n) j))

step_longer : (judged : IsJudgedOnce) (ended : Bool) (s t : State) (bytes rest tail : List ℕ) → LeadsOn false s bytes t rest → LeadsOn ended s (bytes ++ tail) t (rest ++ tail)
step_longer judged ended s t bytes rest tail o = record {
  construct = o.construct;
  meaning = o.meaning;
  goes_on = o.goes_on;
  stands = subst (λ (r : Scanned). StaysWith tail r (scan (place_of s) ended (bytes ++ tail))) o.stands (judged (place_of s) ended bytes tail);
  means = o.means;
  steps = o.steps;
}

pub leads_longer : (judged : IsJudgedOnce) (ended : Bool) (bytes tail : List ℕ) (s : State) (at from : ℕ) → Leads false bytes s at from → Leads ended (bytes ++ tail) s at from
leads_longer judged ended bytes tail s at from leading.begins = leading.begins
leads_longer judged ended bytes tail s at from (leading.on s1 t a f next l o le end) =
    let here : drop a bytes ++ tail ≡ drop a (bytes ++ tail) = sym (drop_longer a bytes tail (omega arith)) in
    let there : drop next bytes ++ tail ≡ drop next (bytes ++ tail) = sym (drop_longer next bytes tail end) in
    leading.on s1 t a f next (leads_longer judged ended bytes tail s1 a f l)
    (subst (λ (xs : List ℕ). LeadsOn ended s1 (drop a (bytes ++ tail)) t xs) there (subst (λ (xs : List ℕ). LeadsOn ended s1 xs t (drop next bytes ++ tail)) here (step_longer judged ended s1 t (drop a bytes) (drop next bytes) tail o)))
    le (omega (arith, length-append bytes tail))

pub leads_ended : (judged : IsJudgedOnce) (bytes : List ℕ) (s : State) (at from : ℕ) → Leads false bytes s at from → Leads true bytes s at from
leads_ended judged bytes s at from l = subst (λ (xs : List ℕ). Leads true xs s at from) (append-nil bytes) (leads_longer judged true bytes [] s at from l)

-- ---- waiting

pub all_behind : (wait : Wait) (xs ys : List ℕ) → after_all wait (xs ++ ys) ≡ then_read (after_all wait xs) (λ w. after_all w ys)
all_behind wait [] ys = refl
all_behind wait (b ∷ xs) ys = on (after_wait wait b) (λ w. all_behind w xs ys)
  where
    on : (o : Option Wait) → ((w : Wait) → after_all w (xs ++ ys) ≡ then_read (after_all w xs) (λ n. after_all n ys))
        → then_read o (λ n. after_all n (xs ++ ys)) ≡ then_read (then_read o (λ n. after_all n xs)) (λ n. after_all n ys)
    on None h = refl
    on (Some w) h = h w

pub waits_behind : (place : Place) (bytes piece : List ℕ) (wait after : Wait) → IsWaiting place bytes wait → Some after ≡ after_all wait piece → IsWaiting place (bytes ++ piece) after
waits_behind place bytes piece wait after h e tail t =
    let there : is_some (after_all wait (piece ++ tail)) ≡ true = ap is_some (all_behind wait piece tail) ∙ ap (λ (o : Option Wait). is_some (then_read o (λ w. after_all w tail))) (sym e) ∙ t in
    subst (λ (xs : List ℕ). scan place false xs ≡ more) (sym (append_assoc bytes piece tail)) (h (piece ++ tail) there)

pub waits_now : (place : Place) (bytes : List ℕ) (wait : Wait) → IsWaiting place bytes wait → scan place false bytes ≡ more
waits_now place bytes wait h = ap (scan place false) (sym (append-nil bytes)) ∙ h [] refl
