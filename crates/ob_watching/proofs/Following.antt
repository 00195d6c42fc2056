-- A client that replays the replies on a watch follows it, over every legal history.
use Rattle.std.proofs.Common.{◌≡◌, ◌≢◌, ℕ, ◌+◌, ◌^◌, ◌<◌, ◌≤◌, Bool, true, false, cond, ◌||◌, List, [], ◌∷◌, ◌++◌, map, ◌==◌, Option, Some, None, Ok, Err, refl, sym, ap, ◌∙◌, subst, ap₂, subst₂, eq-eqb, arith, ◌⊎◌, inl, inr}
use Rattle.std.specs.Prelude.{suc, length, Contains}
use Rattle.std.specs.List.{list_any, AllByRecursion}
use Rattle.std.proofs.lemmas.Bool.Decides.{eqb_tells}
use Rattle.ob_machine.specs.History.{left_by, IsAnswer, IsCall}
use Rattle.ob_machine.specs.declared.call.Answer.TheVariants.{Done, NoMemory}
use Rattle.ob_watching.specs.Operations.{Operation, Look, Renew, Add, Remove, PollChanges, PollRefresh, Delete, Refuse, Target, Itself, Nowhere, NewWatch, OneWatch, Told, Refused, Values, Nothing, Other}
use Rattle.ob_watching.specs.Sites.{Site, IsLawful, HasRolled}
use Rattle.ob_watching.specs.Tables.{lookup, replace, numbers_of}
use Rattle.ob_watching.specs.Watches.{last_number, first_lease, Room, room_beside, yielded, Item, Watch, World, Reading, Reply, Asks, settled, reading, reported, firsts, with_items, with_lease, watch_after, reply_to, begun, touched, made, is_full, on_watch, acted, act, Distinct, IsSound}
use Rattle.ob_watching.specs.Replay.{gives_whole, replay_heard, has_content}
use Rattle.ob_watching.specs.Clients.{Heard, Replied, Asking, Call, call_of, calls, call_gives, replay_call, replayed}
use Rattle.ob_watching.specs.Laws.{step, after, Legal, IsMake, IsRead, Ends, whole_by, whole_at, HadEvent}
use Rattle.ob_watching.proofs.Tables.{map_option, lookup-map_values, lookup-replaced, lookup-taken, lookup-replace_other, lookup-append_other, lookup-append, lookup_all}
use Rattle.ob_watching.proofs.Readable.{readable_added, readable_changes, readable_items}
use Rattle.ob_watching.proofs.Agreement.{GoesOn, HasSuch, AllAgree, agree_on, agree_without, agree_added, agree_refreshed, agree_polled, entries_at}
use Rattle.ob_watching.proofs.Soundness.{OfSome, number_below, lookup_next, lookup_yielding, lookup-filter, sound_begun, sound_yielded, sound_step, left, step_left}

later : {A : Type 0} (x y : A) (xs : List A) → Contains xs y → Contains (x ∷ xs) y
later x y xs h = (suc h.0, omega (arith, h.1), h.2)

all_contained : {A : Type 0} (P : A → Type 0) (xs : List A) → ((x : A) → Contains xs x → P x) → AllByRecursion P xs
all_contained P [] h = tt
all_contained P (x ∷ xs) h = (h x (0, omega arith, refl), all_contained P xs (λ y there. h y (later x y xs there)))

module _ (m : Site) where
  -- numbers of watches are small
  next_small : (k : ℕ) → k ≤ last_number + 1 → k < 2 ^ 64
  next_small k h = omega (arith, h)

  -- what an entry leaves whose target and answer are known
  pub left_done : IsLawful m → (w : World m) (e : Asking m) (t : Target m.Text m.Input m.Part m.Fault) (reply : m.Sent) → IsSound m w → m.target e.request ≡ t → e.answer ≡ Done reply → step m w e ≡ left m (begun m w e.moment) e.request t
  left_done law w e t reply sound target answer = ap (left_by (act m) w e.request e.moment) answer ∙ step_left m law w sound e.request e.moment ∙ ap (left m (begun m w e.moment) e.request) target

  abbrev IsSent : World m → m.Request → Replied m → Target m.Text m.Input m.Part m.Fault → Type 0
  IsSent w r (Done reply) t = reply ≡ m.sent (acted m w r t).1
  IsSent w r NoMemory t = Unit {0}

  pub reply_done : (w : World m) (e : Asking m) (t : Target m.Text m.Input m.Part m.Fault) (reply : m.Sent) → IsCall (act m) w e → m.target e.request ≡ t → e.answer ≡ Done reply → reply ≡ m.sent (acted m (begun m w e.moment) e.request t).1
  reply_done w e t reply is target answer = subst₂ (IsSent (begun m w e.moment) e.request) answer target (go e.answer is.answer)
    where
      go : (a : Replied m) → IsAnswer (act m) w e.request e.moment a → IsSent (begun m w e.moment) e.request a (m.target e.request)
      go (Done reply) h = h
      go NoMemory h = tt

  -- a make that was answered gave the next number
  pub made_next : IsLawful m → (n : ℕ) → n < 2 ^ 64 → (w : World m) (e : Asking m) → IsSound m w → IsCall (act m) w e → IsMake m n e → (n ≡ w.next) × (step m w e ≡ made m (yielded m (begun m w e.moment)))
  made_next law n small w e sound is h =
      (let done = go (is_full m (yielded m v)) (reply_done w e NewWatch (m.sent (Told n h.lease m.whole)) is h.target h.answer) in
      (done.0, left_done law w e NewWatch _ sound h.target h.answer ∙ done.1))
    where
      v : World m
      v = begun m w e.moment

      go : (b : Bool) → let done : World m × Reply m = cond b (v, Refused m.too_many_watches) (made m (yielded m v), Told v.next first_lease m.whole) in m.sent (Told n h.lease m.whole) ≡ m.sent done.1 → (n ≡ w.next) × (done.0 ≡ made m (yielded m v))
      go true g = absurd (law.told_refused n h.lease m.too_many_watches g)
      go false g = (law.told n v.next h.lease first_lease small (next_small v.next sound.next) g, refl)

  -- a watch of which all was reported
  pub record Polled (n : ℕ) (w : World m) : Type 0 where
    pub watch : Watch m
    pub stands : lookup n w.watches ≡ Some (with_items m watch (map (reported m w.site) watch.items))

  abbrev pub IsPoll : Asks m → Type 0
  IsPoll op = (s : m.State) (ns : List ℕ) (room : Room) (v : Watch m) → watch_after m s ns room v op ≡ Some (with_items m v (map (reported m s) v.items))

  polled_on : IsLawful m → (n : ℕ) (w : World m) (op : Asks m) → IsPoll op → (found : Option (Watch m)) (given : List (Reading m)) → lookup n w.watches ≡ found → m.heard op (m.sent (on_watch m w n op found).1) ≡ Values given → Polled n (on_watch m w n op found).0
  polled_on law n w op poll None given e is = absurd (cc (law.heard_refused op m.not_found))
  polled_on law n w op poll (Some v) given e is = record {
    watch = touched m w.time v;
    stands = ap (λ new. lookup n (replace n new w.watches)) (poll w.site (numbers_of w.watches) (room_beside m n w.watches) (touched m w.time v)) ∙ lookup-replaced n _ w.watches v e;
  }

  polled_step : IsLawful m → (n : ℕ) (op : Asks m) → IsPoll op → (w : World m) (e : Asking m) → IsSound m w → IsCall (act m) w e → IsRead m n op e → Polled n (step m w e)
  polled_step law n op poll w e sound is h =
      subst (Polled n) (sym (left_done law w e (OneWatch n op) h.reply sound h.target h.answer))
      (polled_on law n (begun m w e.moment) op poll _ h.given refl (ap (m.heard op) (sym (reply_done w e (OneWatch n op) h.reply is h.target h.answer)) ∙ h.heard))

  pub polled_after : IsLawful m → (n : ℕ) (es : List (Asking m)) (w : World m) → IsSound m w → Legal m w es → Ends m n es → Polled n (after m w es)
  polled_after law n [] w sound legal ends = absurd ends
  polled_after law n (e ∷ []) w sound legal (inl h) = polled_step law n PollChanges (λ s ns room v. refl) w e sound legal.0 h
  polled_after law n (e ∷ []) w sound legal (inr h) = polled_step law n PollRefresh (λ s ns room v. refl) w e sound legal.0 h
  polled_after law n (e ∷ f ∷ es) w sound legal ends = polled_after law n (f ∷ es) (step m w e) (sound_step m law w e sound) legal.1 ends

  -- where each href was given whole, after an answer to a request
  abbrev pub given_by : ℕ → m.State → Replied m → Target m.Text m.Input m.Part m.Fault → (m.Text → m.State) → m.Text → m.State
  given_by n s answer t when text = cond (list_any (λ c. call_gives m text c.operation c.answer) (call_of m n answer t)) s (when text)

-- operations that neither change what a client holds nor end the watch
abbrev IsQuiet : {Text Input Part Fault : Type 0} → Operation Text Input Part Fault → Type 0
IsQuiet (Look part) = Unit {0}
IsQuiet (Renew input) = Unit {0}
IsQuiet (Refuse fault) = Unit {0}
IsQuiet _ = ⊥

-- the events of a feed that a client holds are such
module _ (m : Site) (had : m.Path → m.Event → Type 0) where
  -- a client of watch n that holds these readings is behind by the items' changes alone
  pub record Follows (n : ℕ) (w : World m) (when : m.Text → m.State) (held : List (Reading m)) : Type 0 where
    pub made : n < w.next
    pub agree : (v : Watch m) → lookup n w.watches ≡ Some v → AllAgree m had w.site when v.items held

  follows_begun : (n : ℕ) (w : World m) (moment : ℕ) (when : m.Text → m.State) (held : List (Reading m)) → IsSound m w → Follows n w when held → Follows n (begun m w moment) when held
  follows_begun n w moment when held sound h = record {
    made = h.made;
    agree = λ v e. h.agree v (lookup-filter m _ n 0 w.next w.watches v sound.numbers e);
  }

  follows_made : (n : ℕ) (w : World m) (when : m.Text → m.State) (held : List (Reading m)) → Follows n w when held → Follows n (made m w) when held
  follows_made n w when held h = record {
    made = omega (arith, h.made);
    agree = λ v e. h.agree v (sym (lookup-append_other n w.next _ w.watches (omega (arith, h.made))) ∙ e);
  }

  follows_yielded : (n : ℕ) (w : World m) (when : m.Text → m.State) (held : List (Reading m)) → Follows n w when held → Follows n (yielded m w) when held
  follows_yielded n w when held h = record {
    made = h.made;
    agree = λ v e. h.agree v (lookup_yielding m n (length w.watches) w.time w.watches v e);
  }

  -- the site's own request: events come, and then the oldest roll off
  goes_on : IsLawful m → (s : m.State) (ns : List ℕ) (r : m.Request) (now : ℕ) (path : m.Path) → let u = m.roll (m.act s ns r now).0 in GoesOn m.Event (m.gone s path) (m.gone u path) (m.events s path) (m.events u path)
  goes_on law s ns r now path = record {
    more = (law.grows s ns r now path).0;
    rolled =
        subst₂ (λ gone events. HasRolled m.Event gone (m.gone (m.roll (m.act s ns r now).0) path) events (m.events (m.roll (m.act s ns r now).0) path)) (law.counts s ns r now path) (law.grows s ns r now path).1
        (law.rolls (m.act s ns r now).0 path);
  }

  follows_site : IsLawful m → (n : ℕ) (w : World m) (r : m.Request) (when : m.Text → m.State) (held : List (Reading m)) → Follows n w when held → Follows n (left m w r Itself) when held
  follows_site law n w r when held h = record { made = h.made; agree = λ v e. go (lookup n w.watches) refl v (sym (lookup-map_values marked n w.watches) ∙ e) }
    where
      next : m.State
      next = m.roll (m.act w.site (numbers_of w.watches) r w.time).0

      marked : Watch m → Watch m
      marked v = with_items m v (map (settled m w.site (m.roll (m.act w.site (numbers_of w.watches) r w.time).0)) v.items)

      go : (found : Option (Watch m)) → lookup n w.watches ≡ found → (v : Watch m) → map_option marked found ≡ Some v → AllAgree m had (m.roll (m.act w.site (numbers_of w.watches) r w.time).0) when v.items held
      go None e v g = absurd (cc)
      go (Some u) e v g =
          let same : marked u ≡ v = cc in
          subst (λ v. AllAgree m had (m.roll (m.act w.site (numbers_of w.watches) r w.time).0) when v.items held) same
          (agree_on m had law w.site (m.roll (m.act w.site (numbers_of w.watches) r w.time).0) when (goes_on law w.site (numbers_of w.watches) r w.time) u.items held (h.agree u e))

  follows_other : (n k : ℕ) (w : World m) (op : Asks m) (found : Option (Watch m)) (when : m.Text → m.State) (held : List (Reading m)) → n ≢ k → Follows n w when held → Follows n (on_watch m w k op found).0 when held
  follows_other n k w op None when held differ h = h
  follows_other n k w op (Some v) when held differ h = record {
    made = h.made;
    agree = λ u e. h.agree u (sym (lookup-replace_other n k _ w.watches differ) ∙ e);
  }

  -- an operation on the watch itself
  abbrev heard_at : m.State → Asks m → Heard m → (m.Text → m.State) → m.Text → m.State
  heard_at s op heard when text = cond (gives_whole m.same_text text op heard) s (when text)

  -- where the state is left as it is, and so is what is held, whatever is read
  agree_quiet : (s : m.State) (op : Asks m) → IsQuiet op → (items : List (Item m)) (when : m.Text → m.State) (held : List (Reading m)) → AllAgree m had s when items held → (heard : Heard m) → AllAgree m had s (heard_at s op heard when) items (replay_heard m.same_text op heard held)
  agree_quiet s (Look part) quiet items when held all (Values rs) = all
  agree_quiet s (Look part) quiet items when held all Nothing = all
  agree_quiet s (Look part) quiet items when held all Other = all
  agree_quiet s (Renew input) quiet items when held all (Values rs) = all
  agree_quiet s (Renew input) quiet items when held all Nothing = all
  agree_quiet s (Renew input) quiet items when held all Other = all
  agree_quiet s (Refuse fault) quiet items when held all (Values rs) = all
  agree_quiet s (Refuse fault) quiet items when held all Nothing = all
  agree_quiet s (Refuse fault) quiet items when held all Other = all
  agree_quiet s (Add asked) quiet items when held all heard = absurd quiet
  agree_quiet s (Remove texts) quiet items when held all heard = absurd quiet
  agree_quiet s PollChanges quiet items when held all heard = absurd quiet
  agree_quiet s PollRefresh quiet items when held all heard = absurd quiet
  agree_quiet s Delete quiet items when held all heard = absurd quiet

  -- what is read in the reply
  abbrev heard_in : m.State → List ℕ → Room → ℕ → Watch m → Asks m → Heard m
  heard_in s ns room n v op = m.heard op (m.sent (reply_to m s ns room n v op))

  abbrev AgreesOwn : m.State → List ℕ → Room → Watch m → Asks m → (m.Text → m.State) → List (Reading m) → Heard m → Type 0
  AgreesOwn s ns room v op when held heard = OfSome (λ u. AllAgree m had s (heard_at s op heard when) u.items (replay_heard m.same_text op heard held)) (watch_after m s ns room v op)

  agree_own : (law : IsLawful m) → (s : m.State) → HasSuch m had s → (ns : List ℕ) (room : Room) (n : ℕ) (v : Watch m) (op : Asks m) (when : m.Text → m.State) (held : List (Reading m)) → Distinct m v.items → AllAgree m had s when v.items held → AgreesOwn s ns room v op when held (heard_in s ns room n v op)
  agree_own law s such ns room n v (Look part) when held distinct all = agree_quiet s (Look part) tt v.items when held all _
  agree_own law s such ns room n v (Renew input) when held distinct all =
      elim (m.lease_asked s input) as (λ asked. AllAgree m had s (heard_at s (Renew input) (heard_in s ns room n v (Renew input)) when) (with_lease m v asked).items (replay_heard {Input = m.Input} {Part = m.Part} {Fault = m.Fault} m.same_text (Renew input) (heard_in s ns room n v (Renew input)) held)) [
        | Ok lease ↦ agree_quiet s (Renew input) tt v.items when held all _
        | Err fault ↦ agree_quiet s (Renew input) tt v.items when held all _
      ]
  agree_own law s such ns room n v (Add asked) when held distinct all =
      subst (AgreesOwn s ns room v (Add asked) when held) (sym (law.heard_out (Add asked) tt _ (readable_added m law (Add asked) s ns room v.items (firsts m [] asked))))
      (agree_added m had law s such ns room when (firsts m [] asked) v.items held distinct all)
  agree_own law s such ns room n v (Remove texts) when held distinct all =
      subst (AgreesOwn s ns room v (Remove texts) when held) (sym (law.heard_nil texts)) (agree_without m had s when texts v.items held all)
  agree_own law s such ns room n v PollChanges when held distinct all =
      subst (AgreesOwn s ns room v PollChanges when held) (sym (law.heard_out PollChanges tt _ (readable_changes m law s v.items))) (agree_polled m had law s such when v.items held distinct all)
  agree_own law s such ns room n v PollRefresh when held distinct all =
      subst (AgreesOwn s ns room v PollRefresh when held) (sym (law.heard_out PollRefresh tt _ (readable_items m law PollRefresh s v.items))) (agree_refreshed m had law s such when v.items)
  agree_own law s such ns room n v Delete when held distinct all = tt
  agree_own law s such ns room n v (Refuse fault) when held distinct all = agree_quiet s (Refuse fault) tt v.items when held all _

  follows_own : IsLawful m → (n : ℕ) (w : World m) → HasSuch m had w.site → (op : Asks m) (v : Watch m) (when : m.Text → m.State) (held : List (Reading m)) → IsSound m w → lookup n w.watches ≡ Some v → Follows n w when held → let done = on_watch m w n op (Some v) in Follows n done.0 (heard_at w.site op (m.heard op (m.sent done.1)) when) (replay_heard m.same_text op (m.heard op (m.sent done.1)) held)
  follows_own law n w such op v when held sound found h = record {
    made = h.made;
    agree = go (watch_after m w.site (numbers_of w.watches) (room_beside m n w.watches) (touched m w.time v) op) (agree_own law w.site such (numbers_of w.watches) (room_beside m n w.watches) n (touched m w.time v) op when held (lookup_all (λ u. Distinct m u.items) n w.watches v sound.texts found) (h.agree v found));
  }
    where
      now_at : m.Text → m.State
      now_at = heard_at w.site op (heard_in w.site (numbers_of w.watches) (room_beside m n w.watches) n (touched m w.time v) op) when

      now_held : List (Reading m)
      now_held = replay_heard m.same_text op (heard_in w.site (numbers_of w.watches) (room_beside m n w.watches) n (touched m w.time v) op) held

      go : (new : Option (Watch m)) → OfSome (λ u. AllAgree m had w.site now_at u.items now_held) new → (u : Watch m) → lookup n (replace n new w.watches) ≡ Some u → AllAgree m had w.site now_at u.items now_held
      go None a u e = absurd (cc (lookup-taken n w.watches))
      go (Some x) a u e =
          let same : x ≡ u = cc (lookup-replaced n x w.watches v found) in
          subst (λ u. AllAgree m had w.site now_at u.items now_held) same a

  or_false : (b : Bool) → (b || false) ≡ b
  or_false true = refl
  or_false false = refl

  -- one call alone gives what it gives
  alone : (s : m.State) (op : Asks m) (heard : Heard m) (when : m.Text → m.State) → (λ (text : m.Text). cond (gives_whole m.same_text text op heard || false) s (when text)) ≡ heard_at s op heard when
  alone s op heard when = λ i text. cond (or_false (gives_whole m.same_text text op heard) i) s (when text)

  -- whatever a request does, a client that hears the replies on its watch follows it
  follows_left : IsLawful m → (n : ℕ) (w : World m) → HasSuch m had w.site → (r : m.Request) (t : Target m.Text m.Input m.Part m.Fault) (when : m.Text → m.State) (held : List (Reading m)) → IsSound m w → Follows n w when held → let reply = m.sent (acted m w r t).1 in Follows n (left m w r t) (given_by m n w.site (Done reply) t when) (replayed m (call_of m n (Done reply) t) held)
  follows_left law n w such r Itself when held sound h = follows_site law n w r when held h
  follows_left law n w such r Nowhere when held sound h = h
  follows_left law n w such r NewWatch when held sound h = go (is_full m (yielded m w))
    where
      go : (b : Bool) → let done : World m × Reply m = cond b (w, Refused m.too_many_watches) (made m (yielded m w), Told w.next first_lease m.whole) in Follows n done.0 when held
      go true = h
      go false = follows_made n (yielded m w) when held (follows_yielded n w when held h)
  follows_left law n w such r (OneWatch k op) when held sound h = go (lookup k w.watches) refl (k == n) (eqb_tells k n)
    where
      go : (found : Option (Watch m)) → lookup k w.watches ≡ found → (b : Bool) → ((b ≡ true) × (k ≡ n)) ⊎ ((b ≡ false) × (k ≢ n)) →
          let cs : List (Call m) = cond b (record { operation = op; answer = Done (m.sent (on_watch m w k op found).1) } ∷ []) [] in
          Follows n (on_watch m w k op found).0 (λ text. cond (list_any (λ c. call_gives m text c.operation c.answer) cs) w.site (when text)) (replayed m cs held)
      go found e false differ = follows_other n k w op found when held (grind (arith, differ)) h
      go None e true same =
          subst (λ heard. Follows n w (λ text. cond (gives_whole m.same_text text op heard || false) w.site (when text)) (replay_heard m.same_text op heard held)) (sym (law.heard_refused op m.not_found)) h
      go (Some v) e true same =
          let is : k ≡ n = grind (arith, same) in
          let reply = m.sent (on_watch m w k op (Some v)).1 in
          subst (λ at. Follows n (on_watch m w k op (Some v)).0 at (replay_heard m.same_text op (m.heard op reply) held)) (sym (alone w.site op (m.heard op reply) when))
          (subst (λ j. Follows j (on_watch m w k op (Some v)).0 (heard_at w.site op (m.heard op reply) when) (replay_heard m.same_text op (m.heard op reply) held)) is
          (follows_own law k w such op v when held sound e (subst (λ j. Follows j w when held) (sym is) h)))

  unheard : (n : ℕ) (s : m.State) (t : Target m.Text m.Input m.Part m.Fault) (w : World m) (when : m.Text → m.State) (held : List (Reading m)) → Follows n w when held → Follows n w (given_by m n s NoMemory t when) (replayed m (call_of m n NoMemory t) held)
  unheard n s Itself w when held h = h
  unheard n s Nowhere w when held h = h
  unheard n s NewWatch w when held h = h
  unheard n s (OneWatch k op) w when held h = elim (k == n) as (λ b. let cs : List (Call m) = cond b (record { operation = op; answer = NoMemory } ∷ []) [] in Follows n w (λ text. cond (list_any (λ c. call_gives m text c.operation c.answer) cs) s (when text)) (replayed m cs held)) [ true ↦ h | false ↦ h ]

  -- the same of an entry of a legal history
  follows_step : IsLawful m → (n : ℕ) (w : World m) → HasSuch m had w.site → (e : Asking m) (when : m.Text → m.State) (held : List (Reading m)) → IsSound m w → IsCall (act m) w e → Follows n w when held → Follows n (step m w e) (whole_by m n w.site e when) (replayed m (call_of m n e.answer (m.target e.request)) held)
  follows_step law n w such e when held sound is h = go e.answer is.answer
    where
      go : (a : Replied m) → IsAnswer (act m) w e.request e.moment a → Follows n (left_by (act m) w e.request e.moment a) (given_by m n w.site a (m.target e.request) when) (replayed m (call_of m n a (m.target e.request)) held)
      go NoMemory is = unheard n w.site (m.target e.request) w when held h
      go (Done reply) is =
          subst₂ (λ u reply. Follows n u (given_by m n w.site (Done reply) (m.target e.request) when) (replayed m (call_of m n (Done reply) (m.target e.request)) held)) (sym (step_left m law w sound e.request e.moment)) (sym is)
          (follows_left law n (begun m w e.moment) such e.request (m.target e.request) when held (sound_begun m w e.moment sound) (follows_begun n w e.moment when held sound h))

  replayed-append : (cs ds : List (Call m)) (held : List (Reading m)) → replayed m (cs ++ ds) held ≡ replayed m ds (replayed m cs held)
  replayed-append [] ds held = refl
  replayed-append (c ∷ cs) ds held = replayed-append cs ds (replay_call m c.operation c.answer held)

  -- the events that the feeds have now
  pub has_such : (w : World m) (e : Asking m) (es : List (Asking m)) → ((path : m.Path) (event : m.Event) → HadEvent m w (e ∷ es) path event → had path event) → HasSuch m had w.site
  has_such w e es such path = all_contained (had path) (m.events w.site path) (λ event h. such path event (inl h))

  -- over a history
  pub follows_after : IsLawful m → (n : ℕ) (es : List (Asking m)) (w : World m) → ((path : m.Path) (event : m.Event) → HadEvent m w es path event → had path event) → (when : m.Text → m.State) (held : List (Reading m)) → IsSound m w → Legal m w es → Follows n w when held → Follows n (after m w es) (whole_at m n w es when) (replayed m (calls m n es) held)
  follows_after law n [] w such when held sound legal h = h
  follows_after law n (e ∷ es) w such when held sound legal h =
      subst (Follows n (after m w (e ∷ es)) (whole_at m n w (e ∷ es) when)) (sym (replayed-append (call_of m n e.answer (m.target e.request)) (calls m n es) held))
      (follows_after law n es (step m w e) (λ path event h. such path event (inr h)) _ _ (sound_step m law w e sound) legal.1 (follows_step law n w (has_such w e es such) e when held sound legal.0 h))

  follows_make : IsLawful m → (n : ℕ) → n < 2 ^ 64 → (w : World m) (e : Asking m) (when : m.Text → m.State) → IsSound m w → IsCall (act m) w e → IsMake m n e → Follows n (step m w e) when []
  follows_make law n small w e when sound is h =
      (let new = made_next m law n small w e sound is h in
      subst₂ (λ k u. Follows k u when []) (sym new.0) (sym new.1) begins)
    where
      v : World m
      v = yielded m (begun m w e.moment)

      empty : Watch m
      empty = record { lease = first_lease; touched = v.time; items = [] }

      begins : Follows w.next (made m v) when []
      begins = record {
        made = omega arith;
        agree = λ u found.
            (let none = lookup_next m 0 v.next v.watches (sound_yielded m (begun m w e.moment) (sound_begun m w e.moment sound)).numbers in
            let same : empty ≡ u = cc (lookup-append v.next empty v.watches none) in
            subst (λ u. AllAgree m had v.site when u.items []) same tt);
      }

  refreshed : IsLawful m → (n : ℕ) (w : World m) → HasSuch m had w.site → (found : Option (Watch m)) (given : List (Reading m)) (when : m.Text → m.State) → IsSound m w → lookup n w.watches ≡ found → m.heard PollRefresh (m.sent (on_watch m w n PollRefresh found).1) ≡ Values given → Follows n (on_watch m w n PollRefresh found).0 (entries_at m had w.site given when) given
  refreshed law n w such None given when sound e is = absurd (cc (law.heard_refused PollRefresh m.not_found))
  refreshed law n w such (Some v) given when sound e is = record {
    made = number_below m n 0 w.next w.watches v sound.numbers e;
    agree = λ u found.
        (let same : with_items m (touched m w.time v) (map (reported m w.site) v.items) ≡ u = cc (lookup-replaced n (with_items m (touched m w.time v) (map (reported m w.site) v.items)) w.watches v e) in
        let told : map (reading m w.site) v.items ≡ given = cc (law.heard_out PollRefresh tt (map (reading m w.site) v.items) (readable_items m law PollRefresh w.site v.items)) in
        subst₂ (λ u given. AllAgree m had w.site (entries_at m had w.site given when) u.items given) same told (agree_refreshed m had law w.site such when v.items));
  }

  -- an answered pollRefresh, whatever was held before
  follows_refresh : IsLawful m → (n : ℕ) (w : World m) → HasSuch m had w.site → (e : Asking m) (when : m.Text → m.State) → IsSound m w → IsCall (act m) w e → IsRead m n PollRefresh e → Follows n (step m w e) (whole_by m n w.site e when) (replayed m (call_of m n e.answer (m.target e.request)) [])
  follows_refresh law n w such e when sound is h =
      subst₂ (λ at held. Follows n (step m w e) at held) (sym at_is) (sym held_is)
      (subst (λ u. Follows n u (entries_at m had w.site h.given when) h.given) (sym (left_done m law w e (OneWatch n PollRefresh) h.reply sound h.target h.answer))
      (refreshed law n (begun m w e.moment) such _ h.given when (sound_begun m w e.moment sound) refl (ap (m.heard PollRefresh) (sym (reply_done m w e (OneWatch n PollRefresh) h.reply is h.target h.answer)) ∙ h.heard)))
    where
      one : call_of m n e.answer (m.target e.request) ≡ record { operation = PollRefresh; answer = Done h.reply } ∷ []
      one = ap₂ (call_of m n) h.answer h.target ∙ ap (λ b. cond b (record { operation = PollRefresh; answer = Done h.reply } ∷ []) []) (eq-eqb n n refl)

      held_is : replayed m (call_of m n e.answer (m.target e.request)) [] ≡ h.given
      held_is = ap (λ cs. replayed m cs []) one ∙ ap (λ heard. replay_heard {Input = m.Input} {Part = m.Part} {Fault = m.Fault} m.same_text PollRefresh heard []) h.heard

      gives : (text : m.Text) → list_any (λ c. call_gives m text c.operation c.answer) (call_of m n e.answer (m.target e.request)) ≡ has_content m.same_text h.given text
      gives text = ap (list_any (λ c. call_gives m text c.operation c.answer)) one ∙ or_false _ ∙ ap (gives_whole {Input = m.Input} {Part = m.Part} {Fault = m.Fault} m.same_text text PollRefresh) h.heard

      at_is : whole_by m n w.site e when ≡ entries_at m had w.site h.given when
      at_is = λ i text. cond (gives text i) w.site (when text)

  -- where the part of a history begins
  pub follows_first : IsLawful m → (n : ℕ) → n < 2 ^ 64 → (w : World m) → HasSuch m had w.site → (e : Asking m) (when : m.Text → m.State) → IsSound m w → IsCall (act m) w e → IsMake m n e ⊎ IsRead m n PollRefresh e → Follows n (step m w e) (whole_by m n w.site e when) (replayed m (call_of m n e.answer (m.target e.request)) [])
  follows_first law n small w such e when sound is (inr h) = follows_refresh law n w such e when sound is h
  follows_first law n small w such e when sound is (inl h) =
      subst (λ t. Follows n (step m w e) (given_by m n w.site e.answer t when) (replayed m (call_of m n e.answer t) [])) (sym h.target)
      (follows_make law n small w e when sound is h)
