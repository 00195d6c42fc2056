-- A run over the bytes at hand, behind others that have gone.
use Rattle.std.proofs.Common.{◌≡◌, ℕ, ◌+◌, ◌<◌, ◌≤◌, Bool, true, false, List, ◌++◌, length, drop, refl, sym, ap, subst, ◌∙◌, arith, length-append}
use Rattle.ob_scan.specs.declared.wait.Wait.{Wait}
use Rattle.ob_scan.specs.Constructs.{more, scan}
use Rattle.ob_scan.specs.Waiting.{IsWaiting}
use Rattle.ob_xml.specs.Structure.{State, beginning, place_of, IsSound}
use Rattle.ob_xml.specs.Judged.{Verdict, Judges, is_open}
use Rattle.ob_xml.specs.Turning.{Rests}
use Rattle.ob_xml.specs.Leading.{LeadsOn, Leads, is_tag, begins_by, tag_begins}
use Rattle.ob_xml.specs.Leading as leading
use Rattle.ob_xml.proofs.Leadings.{drop_gone, leads_judges}

begins_shifted : (b c : Bool) (g from at next : ℕ) → begins_by b c (g + from) (g + at) (g + next) ≡ g + begins_by b c from at next
begins_shifted true true g from at next = refl
begins_shifted false true g from at next = refl
begins_shifted true false g from at next = refl
begins_shifted false false g from at next = refl

pub begins_within : (b c : Bool) (from at next : ℕ) → from ≤ at → at < next → begins_by b c from at next ≤ next
begins_within true true from at next p q = omega arith
begins_within false true from at next p q = omega arith
begins_within true false from at next p q = omega arith
begins_within false false from at next p q = omega arith

pub lead_more : (ended : Bool) (gone bytes : List ℕ) (s t : State) (base at from next : ℕ) → base ≡ length gone → Leads ended (gone ++ bytes) s (base + at) (base + from)
    → LeadsOn ended s (drop at bytes) t (drop next bytes) → at < next → next ≤ length bytes → Leads ended (gone ++ bytes) t (base + next) (base + tag_begins s t from at next)
lead_more ended gone bytes s t base at from next e l o lt le =
    let there : Leads ended (gone ++ bytes) s (length gone + at) (length gone + from) = subst (λ (n : ℕ). Leads ended (gone ++ bytes) s (n + at) (n + from)) e l in
    let on : LeadsOn ended s (drop (length gone + at) (gone ++ bytes)) t (drop (length gone + next) (gone ++ bytes)) =
    subst (λ (xs : List ℕ). LeadsOn ended s xs t (drop (length gone + next) (gone ++ bytes))) (sym (drop_gone gone bytes at))
    (subst (λ (xs : List ℕ). LeadsOn ended s (drop at bytes) t xs) (sym (drop_gone gone bytes next)) o) in
    let more : Leads ended (gone ++ bytes) t (length gone + next) (tag_begins s t (length gone + from) (length gone + at) (length gone + next)) =
    leading.on s t (length gone + at) (length gone + from) (length gone + next) there on (omega arith) (omega (arith, length-append gone bytes)) in
    subst (λ (n : ℕ). Leads ended (gone ++ bytes) t (n + next) (n + tag_begins s t from at next)) (sym e)
    (subst (λ (n : ℕ). Leads ended (gone ++ bytes) t (length gone + next) n) (begins_shifted (is_tag s) (is_tag t) (length gone) from at next) more)

pub judges_gone : (ended : Bool) (gone bytes : List ℕ) (s : State) (base at from : ℕ) (v : Verdict) → base ≡ length gone → Leads ended (gone ++ bytes) s (base + at) (base + from)
    → Judges ended s (base + at) (drop at bytes) v → Judges ended beginning 0 (gone ++ bytes) v
judges_gone ended gone bytes s base at from v e l j =
    let there : drop (base + at) (gone ++ bytes) ≡ drop at bytes = ap (λ (n : ℕ). drop (n + at) (gone ++ bytes)) e ∙ drop_gone gone bytes at in
    leads_judges ended (gone ++ bytes) s (base + at) (base + from) v l (subst (λ (xs : List ℕ). Judges ended s (base + at) xs v) (sym there) j)

pub from_base : (ended : Bool) (xs : List ℕ) (s : State) (n base : ℕ) → Leads ended xs s n base → Leads ended xs s n (base + 0)
from_base ended xs s n base l = let e : base + 0 ≡ base = omega arith in subst (Leads ended xs s n) (sym e) l

pub from_gone : (ended : Bool) (gone bytes : List ℕ) (s t : State) (base at from : ℕ) → base ≡ length gone → t ≡ s → Leads ended (gone ++ bytes) s (base + at) (base + from) → Leads ended (gone ++ bytes) t (length gone + at) (length gone + from)
from_gone ended gone bytes s t base at from e q l = subst (λ (x : State). Leads ended (gone ++ bytes) x (length gone + at) (length gone + from)) (sym q) (subst (λ (n : ℕ). Leads ended (gone ++ bytes) s (n + at) (n + from)) e l)

-- the state that is handed back is the one that was read on from
pub rests_on : (ended : Bool) (bytes : List ℕ) (s t : State) (at from : ℕ) (wait : Wait) → t ≡ s → is_open s ≡ true → IsSound s → from ≤ at → at ≤ length bytes
    → scan (place_of s) ended (drop at bytes) ≡ more → IsWaiting (place_of s) (drop at bytes) wait → Rests ended bytes t at from wait
rests_on ended bytes s t at from wait q still sound begins place stands waits =
    let here : Rests ended bytes s at from wait = record { goes_on = still; sound = sound; begins = begins; place = place; stands = stands; waits = waits } in
    subst (λ (x : State). Rests ended bytes x at from wait) (sym q) here
