-- A dialogue that is served comes to its end.
use Rattle.std.proofs.Common.{◌≡◌, ◌≢◌, ◌⊎◌, ℕ, ◌-◌, Bool, true, List, [], ◌∷◌, ◌++◌, Option, Some, None, Ok, Err, refl, sym, ap, subst, ◌∙◌, append-nil, inl, inr}
use Rattle.std.specs.Prelude.{IsSome}
use Rattle.ob_io.specs.Dials.{Dial, Visit}
use Rattle.ob_io.specs.Faults.{Rose}
use Rattle.ob_io.specs.Told.{Gains}
use Rattle.ob_object.specs.Object.{Object}
use Rattle.ob_documents.specs.Spelling.{Spells}
use Rattle.ob_documents.proofs.Verdicts.{OneVerdict, IsJudgedSo}
use Rattle.ob_xml.specs.declared.refused.Why.{Why}
use Rattle.ob_xml.specs.Judged.{fault, document, Judged}
use Rattle.ob_http.specs.Reply.{Response, ReplyStands}
use Rattle.ob_http.specs.Replies.{never_last, Replied, AreFirstReplies}
use Rattle.ob_http.specs.Stream.{End, resting, faulted}
use Rattle.ob_http.proofs.RepliesLemmas.{reply_framing}
use Rattle.ob_http.proofs.StreamLemmas.{framed_unique, end_stays}
use Rattle.ob_dialogue.specs.Plans.{DialoguePlan}
use Rattle.ob_dialogue.specs.Stages.{Lobby, Service, Make, Subject, Adding, Acking, Polling, Mending, Deleting, Over}
use Rattle.ob_dialogue.specs.Taking.{taken}
use Rattle.ob_dialogue.specs.Turns.{Reached, on_links, after, IsAsking, AreAnswers, polls}
use Rattle.ob_dialogue.specs.Links.{AreReplies, Came, EndsAt, IsLink, IsMended, AreLinks, outside, TalksFrom}
use Rattle.ob_dialogue.specs.Completes.{LeadOn, AreServed, Completes, DialoguesComplete}
use Rattle.ob_dialogue.specs.declared.ending.Peer.{Peer}
use Rattle.ob_dialogue.specs.declared.ending.Peer.TheVariants as peer
use Rattle.ob_dialogue.specs.declared.ending.Ending.{Ending}
use Rattle.ob_dialogue.specs.declared.ending.Ending.TheVariants as ending
use Rattle.ob_client.proofs.SessionLemmas.{never}
use Rattle.ob_dialogue.proofs.LegLemmas.{after_none}

-- ---- lists

append_same : {A : Type 0} (xs ys zs : List A) → xs ++ ys ≡ xs ++ zs → ys ≡ zs
append_same [] ys zs e = e
append_same (x ∷ xs) ys zs e = append_same xs ys zs (let rest : xs ++ ys ≡ xs ++ zs = cc in rest)

no_more : {A : Type 0} (xs : List A) (y : A) (ys : List A) → xs ≡ xs ++ y ∷ ys → ⊥
no_more xs y ys e = let none : [] ≡ y ∷ ys = append_same xs [] (y ∷ ys) (append-nil xs ∙ e) in cc

gained_once : {A : Type 0} (old new : Option (List A)) (xs ys : List A) → IsSome new → Gains old xs new → Gains old ys new → xs ≡ ys
gained_once old None xs ys some a b = never some
gained_once None (Some zs) xs ys some a b = absurd a
gained_once (Some us) (Some zs) xs ys some a b = append_same us xs ys (sym a ∙ b)

-- ---- laws of documents

-- no bytes spell two documents
abbrev pub OneDocument : Type 0
OneDocument = (bytes : List ℕ) (ns other : Option (List ℕ)) (o p : Object) → Spells bytes ns o → Spells bytes other p → (ns ≡ other) × (o ≡ p)

-- ---- how far the replies of a link led

-- behind these of a link's replies one more comes, which has the status 200 and spells an object, and the dialogue goes on to
-- its end; or it has come there
pub record GoesOn (p : DialoguePlan) (at : Reached) (rs all : List Response) : Type 0 where
  pub next : Response
  pub later : List Response
  pub is : all ≡ rs ++ next ∷ later
  pub status : next.status ≡ 200
  pub ns : Option (List ℕ)
  pub object : Object
  pub spells : Spells next.body ns object
  pub replies : List Object
  pub over : after p at replies ≡ Ok Over

abbrev IsOnWay : DialoguePlan → Reached → List Response → List Response → Type 0
IsOnWay p at rs all = (at ≡ Ok Over) ⊎ GoesOn p at rs all

not_over : (p : DialoguePlan) (f : Peer) (os : List Object) → after p (Err f) os ≡ Ok Over → ⊥
not_over p f os e = let wrong : (let at : Reached = Err f in at) ≡ Ok Over = e in cc

asks_nothing : IsAsking (Ok Over) → ⊥
asks_nothing h = never h

module _ (one : OneDocument) where
  led : (p : DialoguePlan) (at : Reached) (first later : List Response) (os : List Object) (rs more : List Response) (replies : List Object) → AreReplies first os → after p at os ≡ Ok Over
      → AreReplies rs replies → AreAnswers p at replies → first ++ later ≡ rs ++ more → IsOnWay p (after p at replies) rs (first ++ later)
  led p at [] later [] [] more [] are over came answers same = inl over
  led p at [] later [] (r ∷ rs) more (o ∷ replies) are over came answers same = absurd (asked at over answers)
    where
      asked : (x : Reached) → after p x [] ≡ Ok Over → AreAnswers p x (o ∷ replies) → ⊥
      asked (Ok s) e a = asks_nothing (subst IsAsking e a.0)
      asked (Err f) e a = a
  led p at (f ∷ first) later (x ∷ os) [] more [] are over came answers same = inr (record {
    next = f;
    later = first ++ later;
    is = refl;
    status = are.0.0;
    ns = are.0.1.0;
    object = x;
    spells = are.0.1.1;
    replies = x ∷ os;
    over = ap (λ (y : Reached). after p y (x ∷ os)) (after_none p at) ∙ over;
  })
  led p (Err f) (q ∷ first) later (x ∷ os) (r ∷ rs) more (o ∷ replies) are over came answers same = absurd answers
  led p (Ok s) (q ∷ first) later (x ∷ os) (r ∷ rs) more (o ∷ replies) are over came answers same =
      let both : q ∷ (first ++ later) ≡ r ∷ (rs ++ more) = same in
      let head : q ≡ r = cc in
      let tail : first ++ later ≡ rs ++ more = cc in
      let object : x ≡ o = (one q.body are.0.1.0 came.0.1.0 x o are.0.1.1 (subst (λ (y : Response). Spells y.body came.0.1.0 o) (sym head) came.0.1.1)).1 in
      behind head (led p (taken p s o).next first later os rs more replies are.1 (ap (λ (y : Object). after p (taken p s y).next os) (sym object) ∙ over) came.1 answers.1 tail)
    where
      behind : q ≡ r → IsOnWay p (after p (taken p s o).next replies) rs (first ++ later) → IsOnWay p (after p (taken p s o).next replies) (r ∷ rs) (q ∷ (first ++ later))
      behind head (inl e) = inl e
      behind head (inr g) = inr (record {
        next = g.next;
        later = g.later;
        is = λ i. head i ∷ g.is i;
        status = g.status;
        ns = g.ns;
        object = g.object;
        spells = g.spells;
        replies = g.replies;
        over = g.over;
      })
  led p at [] later (x ∷ os) rs more replies are over came answers same = absurd are
  led p at (f ∷ first) later [] rs more replies are over came answers same = absurd are
  led p at first later os [] more (o ∷ replies) are over came answers same = absurd came
  led p at first later os (r ∷ rs) more [] are over came answers same = absurd came

-- ---- one link

-- the bytes that were taken from a link, and those that are left in it
module _ (one : OneDocument) (verdict : OneVerdict) (so : IsJudgedSo) (p : DialoguePlan) (at : Reached) (bytes left : List ℕ) (s : LeadOn p at (bytes ++ left)) (replies : List Object) (answers : AreAnswers p at replies) where
  on_way : (e : Ending) → (c : Came bytes [] replies e) → IsOnWay p (after p at replies) c.rs (s.first ++ s.later)
  on_way e c =
      let begun = c.first left (s.first ++ s.later) s.end s.framed in
      led one p at s.first s.later s.replies c.rs begun.0 replies s.are s.over c.are answers begun.1

  -- the replies that came are all
  not_all : (rs : List Response) (x : End) → Replied (bytes ++ left) rs x → IsAsking (after p at replies) → IsOnWay p (after p at replies) rs (s.first ++ s.later) → ⊥
  not_all rs x framed asks (inl e) = asks_nothing (subst IsAsking e asks)
  not_all rs x framed asks (inr g) = no_more rs g.next g.later (sym (framed_unique ReplyStands never_last reply_framing 0 (bytes ++ left) (s.first ++ s.later) rs s.end x s.framed framed).0 ∙ g.is)

  -- the next of them isn't this
  next_is : (rs : List Response) (r : Response) (g : GoesOn p (after p at replies) rs (s.first ++ s.later)) → AreFirstReplies bytes (rs ++ r ∷ []) → g.next ≡ r
  next_is rs r g first =
      let more = first left (s.first ++ s.later) s.end s.framed in
      let same : g.next ∷ g.later ≡ r ∷ more.0 = append_same rs (g.next ∷ g.later) (r ∷ more.0) (sym g.is ∙ more.1 ∙ append_more rs r more.0) in
      cc
    where
      append_more : (xs : List Response) (y : Response) (ys : List Response) → (xs ++ y ∷ []) ++ ys ≡ xs ++ y ∷ ys
      append_more [] y ys = refl
      append_more (x ∷ xs) y ys = ap (λ (l : List Response). x ∷ l) (append_more xs y ys)

  abbrev IsEnd : Ending → Type 0
  IsEnd e = (e ≡ ending.Done) ⊎ (e ≡ ending.Memory)

  no_status : (n : ℕ) (c : Came bytes [] replies (ending.Peer (peer.Status n))) → IsAsking (after p at replies) → IsOnWay p (after p at replies) c.rs (s.first ++ s.later) → ⊥
  no_status n c asks (inl e) = asks_nothing (subst IsAsking e asks)
  no_status n c asks (inr g) = c.next.3 (sym c.next.2 ∙ ap (λ (r : Response). r.status) (sym (next_is c.rs c.next.0 g c.next.1)) ∙ g.status)

  no_document : (a : ℕ) (why : Why) (r : Response) (c : List Response) → (g : GoesOn p (after p at replies) c (s.first ++ s.later)) → AreFirstReplies bytes (c ++ r ∷ []) → Judged r.body true (fault a why) → ⊥
  no_document a why r c g first judged =
      let spells : Spells r.body g.ns g.object = subst (λ (x : Response). Spells x.body g.ns g.object) (next_is c r g first) g.spells in
      let two : document (record { ns = g.ns; root = g.object }) ≡ fault a why = verdict r.body true (document (record { ns = g.ns; root = g.object })) (fault a why) (so r.body g.ns g.object spells) judged in
      cc

  -- so the dialogue ends otherwise only by a fault, or for want of memory
  ends_so : (e : Ending) → Came bytes [] replies e → EndsAt (after p at replies) e → (e ≡ ending.Peer peer.Ended → left ≡ []) → (e ≡ ending.Link → ⊥) → (e ≡ ending.Write → ⊥) → IsEnd e
  ends_so ending.Done c ends at_end link write = inl refl
  ends_so ending.Memory c ends at_end link write = inr refl
  ends_so ending.Link c ends at_end link write = absurd (link refl)
  ends_so ending.Write c ends at_end link write = absurd (write refl)
  ends_so (ending.Peer (peer.Err o)) c ends at_end link write = absurd (refused (on_way (ending.Peer (peer.Err o)) c))
    where
      refused : IsOnWay p (after p at replies) c.rs (s.first ++ s.later) → ⊥
      refused (inl e) = not_over p (peer.Err o) [] (sym ends ∙ e)
      refused (inr g) = not_over p (peer.Err o) g.replies (ap (λ (x : Reached). after p x g.replies) (sym ends) ∙ g.over)
  ends_so (ending.Peer peer.Shape) c ends at_end link write = absurd (refused (on_way (ending.Peer peer.Shape) c))
    where
      refused : IsOnWay p (after p at replies) c.rs (s.first ++ s.later) → ⊥
      refused (inl e) = not_over p peer.Shape [] (sym ends ∙ e)
      refused (inr g) = not_over p peer.Shape g.replies (ap (λ (x : Reached). after p x g.replies) (sym ends) ∙ g.over)
  ends_so (ending.Peer (peer.Status n)) c ends at_end link write = absurd (no_status n c ends (on_way (ending.Peer (peer.Status n)) c))
  ends_so (ending.Peer (peer.Document f)) c ends at_end link write = absurd (refused (on_way (ending.Peer (peer.Document f)) c))
    where
      refused : IsOnWay p (after p at replies) c.rs (s.first ++ s.later) → ⊥
      refused (inl e) = asks_nothing (subst IsAsking e ends)
      refused (inr g) = no_document f.at f.why c.next.0 c.rs g c.next.1 c.next.3
  ends_so (ending.Peer (peer.Frame f)) c ends at_end link write =
      absurd (not_all c.rs (faulted f c.next.0) (end_stays ReplyStands never_last reply_framing 0 bytes left c.rs (faulted f c.next.0) (λ rest e. let g : faulted f c.next.0 ≡ resting rest = e in cc) c.next.1) ends (on_way (ending.Peer (peer.Frame f)) c))
  ends_so (ending.Peer peer.Ended) c ends at_end link write =
      absurd (not_all c.rs (resting c.next.0) (subst (λ (b : List ℕ). Replied b c.rs (resting c.next.0)) (sym (append-nil bytes) ∙ ap (λ (l : List ℕ). bytes ++ l) (sym (at_end refl))) c.next.1) ends (on_way (ending.Peer peer.Ended) c))

no_break : (e : Ending) → (e ≡ ending.Done) ⊎ (e ≡ ending.Memory) → e ≡ ending.Peer peer.Ended → ⊥
no_break e (inl d) b = let wrong : ending.Done ≡ ending.Peer peer.Ended = sym d ∙ b in cc
no_break e (inr m) b = let wrong : ending.Memory ≡ ending.Peer peer.Ended = sym m ∙ b in cc

-- a link that had no fault, as its visit tells
module _ (one : OneDocument) (verdict : OneVerdict) (so : IsJudgedSo) (p : DialoguePlan) (at : Reached) (v : Visit) (s : LeadOn p at (v.taken ++ v.left)) (reads : v.reads ≡ 0) (writes : v.writes ≡ 0) (replies : List Object) (answers : AreAnswers p at replies) where
  no_fault : (v.reads ≢ 0) ⊎ (v.writes ≢ 0) → ⊥
  no_fault (inl r) = r reads
  no_fault (inr w) = w writes

  link_ends : (e : Ending) → IsLink p at replies e v → EndsAt (after p at replies) e → (e ≡ ending.Write → ⊥) → (e ≡ ending.Done) ⊎ (e ≡ ending.Memory)
  link_ends e l ends write = ends_so one verdict so p at v.taken v.left s replies answers e l.came ends l.at_end (λ f. no_fault (l.failed f)) write

  -- a poll that broke was asked
  polled_asks : (x : Reached) → polls x ≡ true → IsAsking x
  polled_asks (Ok (Lobby a)) e = never e
  polled_asks (Ok (Service a)) e = never e
  polled_asks (Ok (Make a)) e = never e
  polled_asks (Ok (Subject o a)) e = never e
  polled_asks (Ok (Adding w)) e = never e
  polled_asks (Ok (Acking w t b)) e = never e
  polled_asks (Ok (Polling w)) e = refl
  polled_asks (Ok (Mending w)) e = refl
  polled_asks (Ok (Deleting w)) e = never e
  polled_asks (Ok Over) e = never e
  polled_asks (Err f) e = never e

  mended_not : (Told : Type 0) (retries : ℕ) → IsMended Told p retries at replies v → Told → ⊥
  mended_not Told retries m told = elim (m.link told) [
    | inl l ↦ no_fault (l.failed refl)
    | inr l ↦ no_break (ending.Peer peer.Ended) (link_ends (ending.Peer peer.Ended) l (polled_asks (after p at replies) m.polled) (λ e. let g : ending.Peer peer.Ended ≡ ending.Write = e in cc)) refl
  ]

-- ---- all links

module _ (one : OneDocument) (verdict : OneVerdict) (so : IsJudgedSo) where
  links_end : (Told : Type 0) (p : DialoguePlan) (retries : ℕ) (at : Reached) (ls : List (List Object)) (vs : List Visit) (e : Ending) → AreLinks Told p retries at ls vs e → Told → AreServed p at vs
      → (e ≡ ending.Link → ⊥) → (e ≡ ending.Write → ⊥) → (e ≡ ending.Done) ⊎ (e ≡ ending.Memory)
  links_end Told p retries at (os ∷ []) [] e h told served link write = elim h.1 [
    | inl l ↦ absurd (link l)
    | inr other ↦ elim other [ inl m ↦ inr m | inr shape ↦ absurd (subst IsAsking shape.1 served) ]
  ]
  links_end Told p retries at (os ∷ []) (v ∷ []) e h told served link write =
      link_ends one verdict so p at v served.0 served.1 served.2 os h.answered e (h.link told) h.ends write
  links_end Told p retries at (os ∷ (ps ∷ links)) (v ∷ vs) e h told served link write =
      absurd (mended_not one verdict so p at v served.0 served.1 served.2 os h.0.answered Told retries h.0 told)
  links_end Told p retries at [] vs e h told served link write = absurd h
  links_end Told p retries at (os ∷ []) (v ∷ (w ∷ vs)) e h told served link write = absurd h
  links_end Told p retries at (os ∷ (ps ∷ links)) [] e h told served link write = absurd h

  pub completes : DialoguesComplete
  completes p retries at old new e dials dials' writes writes' talks link write told quiet still visits gained served =
      links_end (IsSome new.visits) p retries at (on_links talks.turns) talks.visits e talks.are told
      (subst (λ (vs : List Visit). AreServed p at vs) (gained_once old.visits new.visits visits talks.visits told gained talks.back) served)
      (λ f. quiet (link f)) (λ f. still (write f))

-- so does one that begins here, with what its dialer and its sink told
pub completes_begun : DialoguesComplete → (p : DialoguePlan) (retries : ℕ) (at from : Reached) (dials dials' : Option (List Dial)) (visits visits' : Option (List Visit)) (held held' : Option (List ℕ)) (e : Ending) (faults faults' writes writes' : ℕ) (rose : Bool) → at ≡ from
    → TalksFrom p retries from (outside dials visits held) (outside dials' visits' held') e
    → (e ≡ ending.Link → Rose faults faults' × (rose ≡ true)) → (e ≡ ending.Write → Rose writes writes') → Completes p at visits visits' faults faults' writes writes' e
completes_begun law p retries at from dials dials' visits visits' held held' e faults faults' writes writes' rose same talks link write =
    law p retries at (outside dials visits held) (outside dials' visits' held') e faults faults' writes writes'
    (subst (λ (x : Reached). TalksFrom p retries x (outside dials visits held) (outside dials' visits' held') e) (sym same) talks) (λ f. (link f).0) write
