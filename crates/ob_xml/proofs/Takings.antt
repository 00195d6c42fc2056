-- What a decoder has read, and what it keeps.
use Rattle.std.proofs.Common.{◌≡◌, ℕ, ◌+◌, ◌-◌, ◌<◌, ◌≤◌, Bool, true, false, List, [], ◌∷◌, ◌++◌, length, take, drop, Some, refl, sym, ap, subst, ◌∙◌, append_assoc, arith, length-append}
use Rattle.std.specs.Prelude.{nat_le}
use Rattle.std.proofs.lemmas.List.{take-append-drop}
use Rattle.std.proofs.lemmas.Bool.Decides.{nat_tests}
use Rattle.std.proofs.lemmas.Grind.{common_steps}
use Rattle.ob_scan.specs.declared.wait.Wait.{Wait}
use Rattle.ob_scan.specs.declared.wait.Wait.TheVariants.{Next}
use Rattle.ob_scan.specs.Constructs.{more, scan}
use Rattle.ob_scan.specs.Judgement.{IsJudgedOnce}
use Rattle.ob_scan.specs.Waiting.{after_all, IsWaiting}
use Rattle.ob_xml.specs.declared.reading.Reading.{Reading}
use Rattle.ob_xml.specs.Structure.{State, beginning, place_of}
use Rattle.ob_xml.specs.Judged.{Verdict, pending, is_open, Judges, unfinished, max_len, overlong, JudgedBy, Judged}
use Rattle.ob_xml.specs.Leading.{Leads}
use Rattle.ob_xml.specs.Turning.{Rests}
use Rattle.ob_xml.specs.Leading as leading
use Rattle.ob_xml.specs.Views.{state_of}
use Rattle.ob_xml.specs.Decoding.{HasTaken, Keeps}
use Rattle.ob_xml.proofs.Leadings.{drop_longer, drop_gone, drop_twice, leads_judges, leads_longer, leads_ended, waits_behind, waits_now}
use Rattle.ob_xml.proofs.Unique.{front_of_longer}

-- the bytes that are kept go on from the first of what isn't whole
pub taken_on : (r : Reading) (gone kept : List ℕ) (at from : ℕ) → r.kept.items ≡ drop from kept → r.base ≡ length gone + from → r.at ≡ at - from → from ≤ at → at ≤ length kept
    → length (gone ++ kept) ≤ max_len → Leads false (gone ++ kept) (state_of r.state) (length gone + at) (length gone + from) → IsWaiting (place_of (state_of r.state)) (drop at kept) r.wait → HasTaken r (gone ++ kept)
taken_on r gone kept at from items base place begins within short l w =
    let count : length (take from kept) ≡ from = grind (arith, common_steps) in
    let at_is : length gone + at ≡ r.base + r.at = omega arith in
    let here : drop r.at r.kept.items ≡ drop at kept = ap (λ (xs : List ℕ). drop r.at xs) items ∙ ap (λ (n : ℕ). drop n (drop from kept)) place ∙ drop_twice from at kept begins within in
    record {
      gone = gone ++ take from kept;
      parts = sym (append_assoc gone (take from kept) r.kept.items ∙ ap (λ (xs : List ℕ). gone ++ (take from kept ++ xs)) items ∙ ap (λ (xs : List ℕ). gone ++ xs) (take-append-drop from kept));
      count = omega (arith, base, count, length-append gone (take from kept));
      short = short;
      leads = subst (λ (n : ℕ). Leads false (gone ++ kept) (state_of r.state) n r.base) at_is (subst (λ (n : ℕ). Leads false (gone ++ kept) (state_of r.state) (length gone + at) n) (sym base) l);
      waits = subst (λ (xs : List ℕ). IsWaiting (place_of (state_of r.state)) xs r.wait) (sym here) w;
    }

-- more bytes that go on with what isn't whole
pub taken_more : (judged : IsJudgedOnce) (r new : Reading) (bytes piece : List ℕ) → HasTaken r bytes → new.state ≡ r.state → new.kept.items ≡ r.kept.items ++ piece → new.base ≡ r.base → new.at ≡ r.at → r.at ≤ length r.kept.items
    → Some new.wait ≡ after_all r.wait piece → length (bytes ++ piece) ≤ max_len → HasTaken new (bytes ++ piece)
taken_more judged r new bytes piece h state items base place within waits short =
    let longer : drop new.at new.kept.items ≡ drop r.at r.kept.items ++ piece = ap (λ (xs : List ℕ). drop new.at xs) items ∙ ap (λ (n : ℕ). drop n (r.kept.items ++ piece)) place ∙ drop_longer r.at r.kept.items piece within in
    let same : state_of r.state ≡ state_of new.state = ap state_of (sym state) in
    record {
      gone = h.gone;
      parts = ap (λ (xs : List ℕ). xs ++ piece) h.parts ∙ append_assoc h.gone r.kept.items piece ∙ ap (λ (xs : List ℕ). h.gone ++ xs) (sym items);
      count = base ∙ h.count;
      short = short;
      leads = subst (λ (s : State). Leads false (bytes ++ piece) s (new.base + new.at) new.base) same
          (subst (λ (n : ℕ). Leads false (bytes ++ piece) (state_of r.state) (n + new.at) n) (sym base)
          (subst (λ (n : ℕ). Leads false (bytes ++ piece) (state_of r.state) (r.base + n) r.base) (sym place) (leads_longer judged false bytes piece (state_of r.state) (r.base + r.at) r.base h.leads)));
      waits = subst (λ (s : State). IsWaiting (place_of s) (drop new.at new.kept.items) new.wait) same
          (subst (λ (xs : List ℕ). IsWaiting (place_of (state_of r.state)) xs new.wait) (sym longer) (waits_behind (place_of (state_of r.state)) (drop r.at r.kept.items) piece r.wait new.wait h.waits waits));
    }

-- the parts of what was read, with a piece
pub with_piece : (judged : IsJudgedOnce) (r : Reading) (bytes piece kept : List ℕ) (h : HasTaken r bytes) → kept ≡ r.kept.items ++ piece → Leads false (h.gone ++ kept) (state_of r.state) (r.base + r.at) r.base
with_piece judged r bytes piece kept h items =
    let whole : bytes ++ piece ≡ h.gone ++ kept = ap (λ (xs : List ℕ). xs ++ piece) h.parts ∙ append_assoc h.gone r.kept.items piece ∙ ap (λ (xs : List ℕ). h.gone ++ xs) (sym items) in
    subst (λ (xs : List ℕ). Leads false xs (state_of r.state) (r.base + r.at) r.base) whole (leads_longer judged false bytes piece (state_of r.state) (r.base + r.at) r.base h.leads)

pub whole_is : (r : Reading) (bytes piece kept : List ℕ) (h : HasTaken r bytes) → kept ≡ r.kept.items ++ piece → h.gone ++ kept ≡ bytes ++ piece
whole_is r bytes piece kept h items = sym (ap (λ (xs : List ℕ). xs ++ piece) h.parts ∙ append_assoc h.gone r.kept.items piece ∙ ap (λ (xs : List ℕ). h.gone ++ xs) (sym items))

-- the place that want of memory is told at
pub length_is : (r : Reading) (bytes piece : List ℕ) → HasTaken r bytes → r.base + length r.kept.items + length piece ≡ length (bytes ++ piece)
length_is r bytes piece h = omega (arith, h.count, ap length h.parts, length-append h.gone r.kept.items, length-append bytes piece)

-- the construct at the place isn't whole
pub stands_more : (r : Reading) (bytes : List ℕ) → HasTaken r bytes → scan (place_of (state_of r.state)) false (drop (r.base + r.at) bytes) ≡ more
stands_more r bytes h =
    let there : drop (r.base + r.at) bytes ≡ drop r.at r.kept.items = ap (λ (n : ℕ). drop (n + r.at) bytes) h.count ∙ ap (drop (length h.gone + r.at)) h.parts ∙ drop_gone h.gone r.kept.items r.at in
    ap (scan (place_of (state_of r.state)) false) there ∙ waits_now (place_of (state_of r.state)) (drop r.at r.kept.items) r.wait h.waits

pub pending_so_far : (r : Reading) (bytes : List ℕ) → HasTaken r bytes → is_open (state_of r.state) ≡ true → Judges false beginning 0 bytes pending
pending_so_far r bytes h still = leads_judges false bytes (state_of r.state) (r.base + r.at) r.base pending h.leads (unfinished (state_of r.state) (r.base + r.at) (drop (r.base + r.at) bytes) still (stands_more r bytes h))

pub keeps : (r : Reading) (bytes : List ℕ) (kept : ℕ) → HasTaken r bytes → kept ≡ length r.kept.items → Keeps bytes kept
keeps r bytes kept h e = (state_of r.state, r.base + r.at, r.base, h.leads, stands_more r bytes h, omega (arith, e, h.count, ap length h.parts, length-append h.gone r.kept.items))

-- ---- a text that is short enough, and one that is too long

pub judged_short : (bytes : List ℕ) (ended : Bool) (v : Verdict) → length bytes ≤ max_len → Judges ended beginning 0 bytes v → Judged bytes ended v
judged_short bytes ended v le j = let e : nat_le (length bytes) max_len ≡ true = grind (arith, nat_tests) in subst (λ (b : Bool). JudgedBy b bytes ended v) (sym e) j

pub judged_long : (bytes front : List ℕ) (ended : Bool) (v : Verdict) → max_len < length bytes → take max_len bytes ≡ front → Judges false beginning 0 front v → Judged bytes ended (overlong v)
judged_long bytes front ended v lt e j =
    let long : nat_le (length bytes) max_len ≡ false = grind (arith, nat_tests) in
    subst (λ (b : Bool). JudgedBy b bytes ended (overlong v)) (sym long) (v, subst (λ (xs : List ℕ). Judges false beginning 0 xs v) (sym e) j, refl)

-- the first bytes of a text that is too long with the piece
pub front_is : (bytes piece : List ℕ) (room : ℕ) → length bytes + room ≡ max_len → take max_len (bytes ++ piece) ≡ bytes ++ take room piece
front_is bytes piece room e =
    let k : max_len - length bytes ≡ room = omega arith in
    front_of_longer bytes piece max_len (omega arith) ∙ ap (λ (n : ℕ). bytes ++ take n piece) k

start_waits : IsWaiting (place_of beginning) [] Next
start_waits [] e = refl
start_waits (b ∷ tail) e = absurd cc

pub taken_none : (r : Reading) → state_of r.state ≡ beginning → r.kept.items ≡ [] → r.base ≡ 0 → r.at ≡ 0 → r.wait ≡ Next → HasTaken r []
taken_none r state items base place wait =
    let at_is : 0 ≡ r.base + r.at = omega arith in
    let here : drop r.at r.kept.items ≡ [] = ap (λ (n : ℕ). drop n r.kept.items) place ∙ items in
    record {
      gone = [];
      parts = sym items;
      count = base;
      short = omega arith;
      leads = subst (λ (s : State). Leads false [] s (r.base + r.at) r.base) (sym state) (subst (λ (n : ℕ). Leads false [] beginning n r.base) at_is (subst (λ (n : ℕ). Leads false [] beginning 0 n) (sym base) leading.begins));
      waits = subst (λ (s : State). IsWaiting (place_of s) (drop r.at r.kept.items) r.wait) (sym state) (subst (λ (xs : List ℕ). IsWaiting (place_of beginning) xs r.wait) (sym here) (subst (λ (w : Wait). IsWaiting (place_of beginning) [] w) (sym wait) start_waits));
    }

-- the construct at a place of the bytes that are kept isn't whole
pub taken_behind : (r : Reading) (gone kept bytes : List ℕ) (base at from : ℕ) → bytes ≡ kept → base ≡ length gone → base + length kept ≤ max_len → r.kept.items ≡ drop from kept → r.base ≡ base + from → r.at ≡ at - from
    → Rests false bytes (state_of r.state) at from r.wait → Leads false (gone ++ bytes) (state_of r.state) (length gone + at) (length gone + from) → HasTaken r (gone ++ kept)
taken_behind r gone kept bytes base at from same count few items base_is place rests l =
    let here : Rests false kept (state_of r.state) at from r.wait = subst (λ (xs : List ℕ). Rests false xs (state_of r.state) at from r.wait) same rests in
    taken_on r gone kept at from items (base_is ∙ ap (λ (n : ℕ). n + from) count) place here.begins here.place (omega (arith, count, few, length-append gone kept))
    (subst (λ (xs : List ℕ). Leads false (gone ++ xs) (state_of r.state) (length gone + at) (length gone + from)) same l) here.waits

pub taken_len : (r : Reading) (bytes : List ℕ) → HasTaken r bytes → r.base + length r.kept.items ≡ length bytes
taken_len r bytes h = omega (arith, h.count, ap length h.parts, length-append h.gone r.kept.items)

-- where the input ends
pub ended_leads : (judged : IsJudgedOnce) (r : Reading) (bytes here : List ℕ) (h : HasTaken r bytes) → here ≡ r.kept.items → Leads true (h.gone ++ here) (state_of r.state) (r.base + r.at) r.base
ended_leads judged r bytes here h same =
    subst (λ (xs : List ℕ). Leads true xs (state_of r.state) (r.base + r.at) r.base) (h.parts ∙ ap (λ (xs : List ℕ). h.gone ++ xs) (sym same)) (leads_ended judged bytes (state_of r.state) (r.base + r.at) r.base h.leads)

pub ended_judges : (r : Reading) (bytes here : List ℕ) (v : Verdict) (h : HasTaken r bytes) → here ≡ r.kept.items → Judges true beginning 0 (h.gone ++ here) v → Judges true beginning 0 bytes v
ended_judges r bytes here v h same j = subst (λ (xs : List ℕ). Judges true beginning 0 xs v) (sym (h.parts ∙ ap (λ (xs : List ℕ). h.gone ++ xs) (sym same))) j
