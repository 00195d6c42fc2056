-- A dialogue over links that are dialled, put together from what was had on each.
use Rattle.std.proofs.Common.{◌≡◌, ◌≢◌, ◌⊎◌, ℕ, zero, suc, ◌+◌, ◌-◌, ◌<◌, Bool, true, false, List, [], ◌∷◌, ◌++◌, map, length, Option, Some, None, Ok, Err, refl, sym, ap, subst, ◌∙◌, append-nil, inl, inr, arith, nat_lt, length-append}
use Rattle.std.proofs.lemmas.Bool.Decides.{nat_tests}
use Rattle.std.specs.Prelude.{IsSome, IfSome}
use Rattle.ob_io.specs.Dials.{Dial, Visit, IsVisit}
use Rattle.ob_io.specs.Faults.{Rose}
use Rattle.ob_io.specs.Links.{IsFresh}
use Rattle.ob_io.specs.Told.{Gains, IsFront, Gains-none, Gains-then}
use Rattle.ob_object.specs.Object.{Object}
use Rattle.ob_http.specs.Replies.{AreTaken}
use Rattle.ob_dialogue.specs.Plans.{DialoguePlan, host_of, port_in, host_field}
use Rattle.ob_dialogue.specs.Stages.{Stage}
use Rattle.ob_dialogue.specs.Turns.{Reached, Turn, Reply, Broken, in_front, on_links, asked, shown, after, polls, resumed, lines}
use Rattle.ob_dialogue.specs.Links.{texts, Came, is_printed, IsLink, AreLinks, AreOf, counted, dialled, Outside, outside, TalksFrom}
use Rattle.ob_dialogue.specs.Legs.{Pause, Ended, Failed, Cut, ending_of, Goes, Had, Leg, HasOne, Visits}
use Rattle.ob_client.proofs.SessionLemmas.{never}
use Rattle.ob_asking.proofs.WireLemmas.{front_behind, at_end_left}
use Rattle.ob_dialogue.proofs.LegLemmas.{none_front, shown_none}
use Rattle.ob_dialogue.specs.declared.ending.Peer.TheVariants as peer
use Rattle.ob_dialogue.specs.declared.ending.Ending.{Ending}
use Rattle.ob_dialogue.specs.declared.ending.Ending.TheVariants as ending

-- ---- a link that came back

told_all : {A : Type 0} (u v : Option (List A)) (more xs : List A) → IfSome u (λ bytes. bytes ≡ []) → Gains u more v → v ≡ Some xs → xs ≡ more
told_all u None more xs none gained is = absurd (let e : None ≡ Some xs = is in cc)
told_all None (Some ys) more xs none gained is = absurd gained
told_all (Some us) (Some ys) more xs none gained is =
    let same : xs ≡ ys = cc in
    same ∙ gained ∙ ap (λ l. l ++ more) none

pub rose_some : (old new n : ℕ) → old ≡ 0 → Rose old new → n ≡ new → n ≢ 0
rose_some old new n none rose is = λ e. omega (arith, none, rose, is, e)

module _ (p : DialoguePlan) (mends : Bool) (at : Reached) (old new : Had) (pause : Pause) (leg : Leg p (host_field p.url) mends at old new pause)
    (reads writes reads' writes' : ℕ) (fresh : IsFresh old.inlet.taken old.sent reads writes) (kept : AreTaken [] [] old.kept)
    (link : ending_of pause ≡ ending.Link → Rose reads reads' ⊎ Rose writes writes') where
  pub is_link : (v : Visit) → IsVisit v new.inlet.left new.inlet.taken new.sent reads' writes' → IsLink p at leg.replies (ending_of pause) v
  is_link v is =
      let written : v.written ≡ leg.written = told_all old.sent new.sent leg.written v.written fresh.held_none leg.wrote is.written_is in
      let taken : v.taken ≡ leg.taken = told_all old.inlet.taken new.inlet.taken leg.taken v.taken fresh.taken_none leg.takes.1 is.taken_is in
      record {
        front = subst (λ (t : List ℕ). IsFront t (texts (host_field p.url) (asked p at leg.replies))) (sym written) leg.front;
        whole = λ e. written ∙ leg.whole e;
        came = subst (λ (t : List ℕ). Came t [] leg.replies (ending_of pause)) (sym taken) (leg.came [] [] kept);
        at_end = λ e. at_end_left new.inlet.left v.left (leg.at_end e) is.left_is;
        failed = λ e. elim (link e) [
          | inl r ↦ inl (rose_some reads reads' v.reads fresh.reads_none r is.reads_are)
          | inr w ↦ inr (rose_some writes writes' v.writes fresh.writes_none w is.writes_are)
        ];
      }

-- ---- one dial

one_dialled : (d : Dial) → d.failed ≡ false → dialled (d ∷ []) ≡ 1
one_dialled d is = ap (λ b. counted b 0) is

none_dialled : (d : Dial) → d.failed ≡ true → dialled (d ∷ []) ≡ 0
none_dialled d is = ap (λ b. counted b 0) is

-- nothing was dialled, for want of memory
pub visits_none : (p : DialoguePlan) (mends : Bool) (s : Stage) (o : Outside) → Visits p mends s o o (Ended ending.Memory)
visits_none p mends s o = record {
  replies = [];
  visits = [];
  dials = [];
  back = Gains-none o.visits;
  dialled_are = Gains-none o.dials;
  places = tt;
  all_back = refl;
  one = (refl, inr refl);
  text = [];
  printed = Gains-none o.held;
  begun = none_front [];
  all = λ b. refl;
}

-- the dial failed
pub visits_failed : (p : DialoguePlan) (mends : Bool) (s : Stage) (dials dials' : Option (List Dial)) (visits visits' : Option (List Visit)) (held : Option (List ℕ)) (d : Dial)
    → Gains dials (d ∷ []) dials' → d.failed ≡ true → d.host ≡ host_of p.url → d.port ≡ port_in p.url → visits' ≡ visits
    → Visits p mends s (outside dials visits held) (outside dials' visits' held) (Ended ending.Link)
visits_failed p mends s dials dials' visits visits' held d gained failed host port same = record {
  replies = [];
  visits = [];
  dials = d ∷ [];
  back = subst (λ (x : Option (List Visit)). Gains visits [] x) (sym same) (Gains-none visits);
  dialled_are = gained;
  places = ((host, port), tt);
  all_back = none_dialled d failed;
  one = (refl, inl refl);
  text = [];
  printed = Gains-none held;
  begun = none_front [];
  all = λ b. refl;
}

-- a link was had
pub visits_had : (p : DialoguePlan) (mends : Bool) (s : Stage) (dials dials' : Option (List Dial)) (visits mid visits' : Option (List Visit)) (h i : Had) (pause : Pause) (d : Dial) (v : Visit)
    → (leg : Leg p (host_field p.url) mends (Ok s) h i pause) → (IsSome visits' → IsLink p (Ok s) leg.replies (ending_of pause) v)
    → Gains dials (d ∷ []) dials' → d.failed ≡ false → d.host ≡ host_of p.url → d.port ≡ port_in p.url → mid ≡ visits → Gains mid (v ∷ []) visits'
    → Visits p mends s (outside dials visits h.printed) (outside dials' visits' i.printed) pause
visits_had p mends s dials dials' visits mid visits' h i pause d v leg link gained given host port same back = record {
  replies = leg.replies;
  visits = v ∷ [];
  dials = d ∷ [];
  back = subst (λ (x : Option (List Visit)). Gains x (v ∷ []) visits') same back;
  dialled_are = gained;
  places = ((host, port), tt);
  all_back = one_dialled d given;
  one = (leg.goes, leg.ends, leg.answered, link);
  text = leg.text;
  printed = leg.printed;
  begun = leg.begun;
  all = leg.all;
}

-- ---- all links

still_told : {A : Type 0} (u v : Option (List A)) (more : List A) → Gains u more v → IsSome v → IsSome u
still_told u None more gained is = never is
still_told None (Some vs) more gained is = absurd gained
still_told (Some us) (Some vs) more gained is = refl

lines_one : (p : DialoguePlan) (at : Reached) (os : List Object) → lines p at (os ∷ []) ≡ shown p at os
lines_one p at os = append-nil (shown p at os)

ended_is : (a b : Ending) → Ended a ≡ Ended b → a ≡ b
ended_is a b e = ap ending_of e

no_retries : (retries : ℕ) → nat_lt 0 retries ≡ false → retries ≡ 0
no_retries zero e = refl
no_retries (suc n) e = let f : nat_lt 0 (suc n) ≡ true = grind (arith, nat_tests) in never (sym e ∙ f)

some_retries : (retries : ℕ) → nat_lt 0 retries ≡ true → 0 < retries
some_retries zero e = never e
some_retries (suc n) e = omega arith

one_link : (Told : Type 0) (p : DialoguePlan) (retries : ℕ) (at : Reached) (os : List Object) (vs : List Visit) (e : Ending)
    → HasOne Told p (nat_lt 0 retries) at os vs (Ended e) → AreLinks Told p retries at (os ∷ []) vs e
one_link Told p retries at os [] e (none, which) = (none, elim which [ inl l ↦ inl (ended_is e ending.Link l) | inr m ↦ inr (inl (ended_is e ending.Memory m)) ])
one_link Told p retries at os (v ∷ []) e (goes, ends, answered, link) =
    record { answered = answered; ends = ends; spent = λ b polled. no_retries retries (goes b polled); link = link }
one_link Told p retries at os (v ∷ (w ∷ vs)) e one = absurd one

-- replies and nothing else are those of one link
on_one : (os : List Object) → on_links (map (λ o. Reply o) os) ≡ os ∷ []
on_one [] = refl
on_one (o ∷ os) = ap (in_front o) (on_one os)

-- a break ends them
on_more : (os : List Object) (ts : List Turn) → on_links (map (λ o. Reply o) os ++ Broken ∷ ts) ≡ os ∷ on_links ts
on_more [] ts = refl
on_more (o ∷ os) ts = ap (in_front o) (on_more os ts)

lines_of_one : (p : DialoguePlan) (at : Reached) (os : List Object) → lines p at (on_links (map (λ o. Reply o) os)) ≡ shown p at os
lines_of_one p at os = ap (lines p at) (on_one os) ∙ lines_one p at os

-- the dialogue ended on the first link
pub talks_once : (p : DialoguePlan) (retries : ℕ) (s : Stage) (old new : Outside) (e : Ending) → Visits p (nat_lt 0 retries) s old new (Ended e) → TalksFrom p retries (Ok s) old new e
talks_once p retries s old new e v = record {
  turns = map (λ o. Reply o) v.replies;
  visits = v.visits;
  dials = v.dials;
  back = v.back;
  dialled_are = v.dialled_are;
  places = v.places;
  all_back = v.all_back;
  are = subst (λ (ls : List (List Object)). AreLinks (IsSome new.visits) p retries (Ok s) ls v.visits e) (sym (on_one v.replies))
      (one_link (IsSome new.visits) p retries (Ok s) v.replies v.visits e v.one);
  text = v.text;
  printed = v.printed;
  front = subst (λ (all : List ℕ). IsFront v.text all) (sym (lines_of_one p (Ok s) v.replies)) v.begun;
  whole = λ b. v.all b ∙ sym (lines_of_one p (Ok s) v.replies);
}

are_of_then : (p : DialoguePlan) (ds es : List Dial) → AreOf p ds → AreOf p es → AreOf p (ds ++ es)
are_of_then p [] es a b = b
are_of_then p (d ∷ ds) es a b = (a.0, are_of_then p ds es a.1 b)

counted_then : (b : Bool) (m n : ℕ) → counted b (m + n) ≡ counted b m + n
counted_then true m n = refl
counted_then false m n = omega arith

dialled_then : (ds es : List Dial) → dialled (ds ++ es) ≡ dialled ds + dialled es
dialled_then [] es = omega arith
dialled_then (d ∷ ds) es = ap (counted d.failed) (dialled_then ds es) ∙ counted_then d.failed (dialled ds) (dialled es)

-- a poll was broken that is mended: the link failed, or ended
abbrev pub IsMending : Pause → Stage → Type 0
IsMending pause t = (pause ≡ Failed t) ⊎ (pause ≡ Cut t)

abbrev Resumes : Bool → Reached → Stage → Type 0
Resumes mends at t = (mends ≡ true) × (polls at ≡ true) × (resumed at ≡ Ok t)

mending_goes : (mends : Bool) (at : Reached) (pause : Pause) (t : Stage) → IsMending pause t → Goes mends at pause → Resumes mends at t
mending_goes mends at pause t which goes = elim which [
  | inl f ↦ subst (λ (q : Pause). Goes mends at q) f goes
  | inr c ↦ subst (λ (q : Pause). Goes mends at q) c goes
]

mending_ends : (pause : Pause) (t : Stage) → IsMending pause t → (ending_of pause ≡ ending.Link) ⊎ (ending_of pause ≡ ending.Peer peer.Ended)
mending_ends pause t which = elim which [ inl f ↦ inl (ap ending_of f) | inr c ↦ inr (ap ending_of c) ]

mending_printed : (pause : Pause) (t : Stage) → IsMending pause t → is_printed (ending_of pause) ≡ true
mending_printed pause t which = elim which [ inl f ↦ ap (λ q. is_printed (ending_of q)) f | inr c ↦ ap (λ q. is_printed (ending_of q)) c ]

not_mending : (e : Ending) (t : Stage) (pause : Pause) → pause ≡ Ended e → IsMending pause t → ⊥
not_mending e t pause is which = elim which [
  | inl f ↦ (let g : Ended e ≡ Failed t = sym is ∙ f in cc)
  | inr c ↦ (let g : Ended e ≡ Cut t = sym is ∙ c in cc)
]

more_links : (Told Told' : Type 0) (down : Told' → Told) (p : DialoguePlan) (retries : ℕ) (at : Reached) (os : List Object) (vs ws : List Visit) (links : List (List Object)) (e : Ending) (pause : Pause) (t : Stage)
    → IsMending pause t → HasOne Told p (nat_lt 0 retries) at os vs pause → AreLinks Told' p (retries - 1) (Ok t) links ws e → AreLinks Told' p retries at (os ∷ links) (vs ++ ws) e
more_links Told Told' down p retries at os [] ws links e pause t which (none, why) are =
    absurd (elim why [ inl l ↦ not_mending ending.Link t pause l which | inr m ↦ not_mending ending.Memory t pause m which ])
more_links Told Told' down p retries at os (v ∷ []) ws [] e pause t which one are = absurd are
more_links Told Told' down p retries at os (v ∷ []) ws (ps ∷ links) e pause t which (goes, ends, answered, link) are =
    let r = mending_goes (nat_lt 0 retries) (after p at os) pause t which goes in (
      record {
        some = some_retries retries r.0;
        answered = answered;
        polled = r.1;
        link = λ told. elim (mending_ends pause t which) [
          | inl l ↦ inl (subst (λ (x : Ending). IsLink p at os x v) l (link (down told)))
          | inr c ↦ inr (subst (λ (x : Ending). IsLink p at os x v) c (link (down told)))
        ];
      },
      subst (λ (x : Reached). AreLinks Told' p (retries - 1) x (ps ∷ links) ws e) (sym r.2) are,
    )
more_links Told Told' down p retries at os (v ∷ (w ∷ vs)) ws links e pause t which one are = absurd one

-- a poll was broken on the first link, and this is what came behind it
pub talks_more : (p : DialoguePlan) (retries : ℕ) (s t : Stage) (old mid new : Outside) (pause : Pause) (e : Ending) → IsMending pause t → Visits p (nat_lt 0 retries) s old mid pause
    → TalksFrom p (retries - 1) (Ok t) mid new e → TalksFrom p retries (Ok s) old new e
talks_more p retries s t old mid new pause e which v rest =
    let resumes : resumed (after p (Ok s) v.replies) ≡ Ok t = resumed_at v.visits v.one in
    let links = on_links rest.turns in
    let turns = on_more v.replies rest.turns in
    let all : shown p (Ok s) v.replies ++ lines p (Ok t) links ≡ lines p (Ok s) (on_links (map (λ o. Reply o) v.replies ++ Broken ∷ rest.turns)) =
    ap (λ (x : Reached). shown p (Ok s) v.replies ++ lines p x links) (sym resumes) ∙ ap (lines p (Ok s)) (sym turns) in
    let text : v.text ≡ shown p (Ok s) v.replies = v.all (mending_printed pause t which) in
    record {
      turns = map (λ o. Reply o) v.replies ++ Broken ∷ rest.turns;
      visits = v.visits ++ rest.visits;
      dials = v.dials ++ rest.dials;
      back = Gains-then old.visits mid.visits new.visits v.visits rest.visits v.back rest.back;
      dialled_are = Gains-then old.dials mid.dials new.dials v.dials rest.dials v.dialled_are rest.dialled_are;
      places = are_of_then p v.dials rest.dials v.places rest.places;
      all_back = dialled_then v.dials rest.dials ∙ ap (λ n. n + dialled rest.dials) v.all_back ∙ ap (λ n. length v.visits + n) rest.all_back ∙ sym (length-append v.visits rest.visits);
      are = subst (λ (ls : List (List Object)). AreLinks (IsSome new.visits) p retries (Ok s) ls (v.visits ++ rest.visits) e) (sym turns)
          (more_links (IsSome mid.visits) (IsSome new.visits) (still_told mid.visits new.visits rest.visits rest.back) p retries (Ok s) v.replies v.visits rest.visits links e pause t which v.one rest.are);
      text = v.text ++ rest.text;
      printed = Gains-then old.held mid.held new.held v.text rest.text v.printed rest.printed;
      front = subst (λ (x : List ℕ). IsFront (v.text ++ rest.text) x) (ap (λ (x : List ℕ). x ++ lines p (Ok t) links) text ∙ all) (front_behind v.text rest.text (lines p (Ok t) links) rest.front);
      whole = λ b. ap (λ (x : List ℕ). x ++ rest.text) text ∙ ap (λ (x : List ℕ). shown p (Ok s) v.replies ++ x) (rest.whole b) ∙ all;
    }
  where
    resumed_at : (vs : List Visit) → HasOne (IsSome mid.visits) p (nat_lt 0 retries) (Ok s) v.replies vs pause → resumed (after p (Ok s) v.replies) ≡ Ok t
    resumed_at [] (none, why) = absurd (elim why [ inl l ↦ not_mending ending.Link t pause l which | inr m ↦ not_mending ending.Memory t pause m which ])
    resumed_at (w ∷ []) (goes, ends, answered, link) = (mending_goes (nat_lt 0 retries) (after p (Ok s) v.replies) pause t which goes).2
    resumed_at (w ∷ (x ∷ vs)) one = absurd one

-- nothing was dialled
pub talks_none : (p : DialoguePlan) (retries : ℕ) (at : Reached) (o : Outside) (e : Ending) → (e ≡ ending.Memory) ⊎ ((e ≡ ending.Peer peer.Shape) × (at ≡ Err peer.Shape)) → TalksFrom p retries at o o e
talks_none p retries at o e which = record {
  turns = [];
  visits = [];
  dials = [];
  back = Gains-none o.visits;
  dialled_are = Gains-none o.dials;
  places = tt;
  all_back = refl;
  are = (refl, inr which);
  text = [];
  printed = Gains-none o.held;
  front = none_front (lines p at ([] ∷ []));
  whole = λ b. sym (lines_one p at [] ∙ shown_none p at);
}
