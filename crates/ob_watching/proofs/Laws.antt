-- The laws of watches, for any lawful site.
use Rattle.std.proofs.Common.{◌≡◌, ℕ, ◌+◌, ◌-◌, ◌^◌, ◌<◌, ◌≤◌, Bool, true, false, cond, List, [], ◌∷◌, ◌++◌, map, length, take, Option, Some, None, refl, sym, ap, ◌∙◌, subst, ap₂, arith, inl, inr, le_trans, le_refl, length-append}
use Rattle.std.specs.List.{filter, list_any, AllByRecursion}
use Rattle.std.proofs.Math.Seq.{take-length}
use Rattle.std.proofs.lemmas.List.Elements.{filter-append}
use Rattle.ob_values.proofs.Lists.{all_mapped}
use Rattle.ob_machine.specs.History.{left_by, IsAnswer, IsCall}
use Rattle.ob_machine.specs.declared.call.Answer.TheVariants.{Done, NoMemory}
use Rattle.ob_machine.proofs.HistoryLemmas.{after-append, legal_front, legal_back}
use Rattle.ob_watching.specs.Operations.{Target, Itself, Nowhere, NewWatch, OneWatch, Told, Refused, Lists}
use Rattle.ob_watching.specs.Sites.{Site, IsLawful}
use Rattle.ob_watching.specs.Tables.{lookup, numbers_of}
use Rattle.ob_watching.specs.Watches.{first_lease, Tracked, Object, Feed, Item, Watch, World, Content, Reading, Reply, count, content_now, reading, reported_now, reported, with_items, begun, made, is_full, yielded, on_watch, acted, act, IsSound}
use Rattle.ob_watching.specs.Clients.{Replied, Asking, Call, call_of, call_gives, calls, replay_call, replayed, replay, readings}
use Rattle.ob_watching.specs.Laws.{step, after, Legal, IsMake, Begins, Ends, whole_by, whole_at, HoldsFeed, HoldsItem, HoldsAll, KeepsItem, EachExact, HadEvent, Holds, WatchReplays, IsOn, IsNotFound, WasMade, WatchStaysGone, unless_lapsed, standing_after, LeavesOthers}
use Rattle.ob_watching.proofs.Tables.{map_option, lookup-map_values, lookup-replace_other, lookup-append_other, lookup-filter_none}
use Rattle.ob_watching.proofs.Agreement.{HoldsSo, HoldsGiven, AllAgree}
use Rattle.ob_watching.proofs.Soundness.{sound_step, gone_yielding, lookup-standing, left, step_left}
use Rattle.ob_watching.proofs.Following.{Follows, has_such, follows_after, follows_first, made_next, Polled, polled_after}

-- a filter that passes all passes as many
length-all : {A : Type 0} (keep : A → Bool) (xs : List A) → AllByRecursion (λ x. keep x ≡ true) xs → length (filter keep xs) ≡ length xs
length-all keep [] h = refl
length-all keep (x ∷ xs) h = (let rest = length-all keep xs h.1 in ap (λ b. length (cond b (x ∷ filter keep xs) (filter keep xs))) h.0 ∙ omega (arith, rest))

module _ (m : Site) where
  -- once all was reported what agrees is what is watched
  all_of : (s : m.State) (path : m.Path) → take (count m s path - m.gone s path) (m.events s path) ≡ m.events s path
  all_of s path = ap (λ n. take n (m.events s path)) there ∙ take-length (m.events s path)
    where
      there : count m s path - m.gone s path ≡ length (m.events s path)
      there = omega arith

  holds_feed : (s then : m.State) (had : m.Path → m.Event → Type 0) (path : m.Path) (bounds : m.Filter) (c : Content m) → HoldsGiven m had s then path bounds (count m s path) c → HoldsFeed m s then (had path) path bounds c
  holds_feed s then had path bounds c h = record {
    missed = h.missed;
    seen = h.seen;
    content = h.content;
    kept = (h.kept.0, whole);
    passing = (filter (m.passes bounds) h.kept.0, sym (filter-append (m.passes bounds) h.kept.0 (m.events s path)) ∙ ap (filter (m.passes bounds)) whole);
    number = h.number;
    genuine = h.genuine;
    unfiltered = λ passes. length-all (m.passes bounds) h.seen (all_mapped (had path) (λ e. m.passes bounds e ≡ true) passes h.seen h.genuine);
  }
    where
      whole : h.kept.0 ++ m.events s path ≡ h.seen
      whole = ap (λ es. h.kept.0 ++ es) (sym (all_of s path)) ∙ h.kept.1

  holds_item : (s then : m.State) (had : m.Path → m.Event → Type 0) (path : m.Path) (t : Tracked m) (c : Content m) → HoldsSo m had s then path (reported_now m s path t) c → HoldsItem m s then had path (reported_now m s path t) c
  holds_item s then had path (Object changed) c h = h
  holds_item s then had path (Feed bounds given) c h = holds_feed s then had path bounds c h

  holds_all : (s : m.State) (when : m.Text → m.State) (had : m.Path → m.Event → Type 0) (items : List (Item m)) (held : List (Reading m)) → AllAgree m had s when (map (reported m s) items) held → HoldsAll m s when had (map (reported m s) items) held
  holds_all s when had [] [] h = tt
  holds_all s when had [] (r ∷ rs) h = absurd h
  holds_all s when had (item ∷ items) [] h = absurd h
  holds_all s when had (item ∷ items) (r ∷ rs) h = ((sym h.0.text, holds_item s (when item.text) had item.path item.tracked r.content h.0.content), holds_all s when had items rs h.1)

  -- and exactly where nothing rolled off
  none_before : {A : Type 0} (front : List A) → length front ≡ 0 → front ≡ []
  none_before [] h = refl
  none_before (x ∷ xs) h = absurd (omega (arith, h))

  exact_feed : (s then : m.State) (had : m.Event → Type 0) (path : m.Path) (bounds : m.Filter) (c : Content m) → HoldsFeed m s then had path bounds c → m.gone s path ≡ m.gone then path → c ≡ Lists (m.feed path) 0 (filter (m.passes bounds) (m.events s path))
  exact_feed s then had path bounds c h k = h.content ∙ ap₂ (λ n es. Lists (m.feed path) n (filter (m.passes bounds) es)) missed seen
    where
      sizes : length h.kept.0 + length (m.events s path) ≡ length h.seen
      sizes = sym (length-append h.kept.0 (m.events s path)) ∙ ap length h.kept.1

      missed : h.missed ≡ 0
      missed = omega (arith, sizes, h.number, k)

      seen : h.seen ≡ m.events s path
      seen = sym h.kept.1 ∙ ap (λ es. es ++ m.events s path) (none_before h.kept.0 (omega (arith, sizes, h.number, k)))

  exact_item : (s then : m.State) (had : m.Path → m.Event → Type 0) (path : m.Path) (t : Tracked m) (c : Content m) → HoldsItem m s then had path t c → KeepsItem m s then path t → c ≡ content_now m s path t
  exact_item s then had path (Object changed) c h k = h
  exact_item s then had path (Feed bounds given) c h k = exact_feed s then (had path) path bounds c h k

  each_exact : (s : m.State) (when : m.Text → m.State) (had : m.Path → m.Event → Type 0) (items : List (Item m)) (held : List (Reading m)) → HoldsAll m s when had items held → EachExact m s when items held
  each_exact s when had [] [] h = tt
  each_exact s when had [] (r ∷ rs) h = absurd h
  each_exact s when had (item ∷ items) [] h = absurd h
  each_exact s when had (item ∷ items) (r ∷ rs) h = (
    λ k. λ i. record { text = h.0.0 i; content = exact_item s (when item.text) had item.path item.tracked r.content h.0.1 k i },
    each_exact s when had items rs h.1,
  )

  exact_all : (s : m.State) (when : m.Text → m.State) (items : List (Item m)) (held : List (Reading m)) → EachExact m s when items held → AllByRecursion (λ item. KeepsItem m s (when item.text) item.path item.tracked) items → held ≡ map (reading m s) items
  exact_all s when [] [] h k = refl
  exact_all s when [] (r ∷ rs) h k = absurd h
  exact_all s when (item ∷ items) [] h k = absurd h
  exact_all s when (item ∷ items) (r ∷ rs) h k = ap₂ (λ (x : Reading m) (xs : List (Reading m)). x ∷ xs) (h.0 k.0) (exact_all s when items rs h.1 k.1)

  holds_polled : (n : ℕ) (w : World m) (part : List (Asking m)) → Follows m (HadEvent m w part) n (after m w part) (whole_at m n w part (λ _. w.site)) (replay m (calls m n part)) → Polled m n (after m w part) → Holds m n w part
  holds_polled n w part follows polled = record {
    watch = watch;
    stands = polled.stands;
    held = held;
    each = each;
    exact = λ k. ap Some (exact_all s when watch.items (replay m (calls m n part)) each k) ∙ ap (readings m s) (sym polled.stands);
  }
    where
      s : m.State
      s = (after m w part).site

      when : m.Text → m.State
      when = whole_at m n w part (λ _. w.site)

      watch : Watch m
      watch = with_items m polled.watch (map (reported m (after m w part).site) polled.watch.items)

      held : HoldsAll m (after m w part).site (whole_at m n w part (λ _. w.site)) (HadEvent m w part) (map (reported m (after m w part).site) polled.watch.items) (replay m (calls m n part))
      held = holds_all (after m w part).site (whole_at m n w part (λ _. w.site)) (HadEvent m w part) polled.watch.items (replay m (calls m n part)) (follows.agree watch polled.stands)

      each : EachExact m (after m w part).site (whole_at m n w part (λ _. w.site)) (map (reported m (after m w part).site) polled.watch.items) (replay m (calls m n part))
      each = each_exact (after m w part).site (whole_at m n w part (λ _. w.site)) (HadEvent m w part) (map (reported m (after m w part).site) polled.watch.items) (replay m (calls m n part)) held

  replayed-append : (n : ℕ) (e : Asking m) (es : List (Asking m)) → replay m (calls m n (e ∷ es)) ≡ replayed m (calls m n es) (replayed m (call_of m n e.answer (m.target e.request)) [])
  replayed-append n e es = go (call_of m n e.answer (m.target e.request)) []
    where
      go : (cs : List (Call m)) (held : List (Reading m)) → replayed m (cs ++ calls m n es) held ≡ replayed m (calls m n es) (replayed m cs held)
      go [] held = refl
      go (c ∷ cs) held = go cs (replay_call m c.operation c.answer held)

  replays_from : IsLawful m → (n : ℕ) → n < 2 ^ 64 → (w : World m) (part : List (Asking m)) → IsSound m w → Legal m w part → Begins m n part → Ends m n part → Holds m n w part
  replays_from law n small w [] sound legal begins ends = absurd begins
  replays_from law n small w (e ∷ es) sound legal begins ends =
      holds_polled n w (e ∷ es)
      (subst (Follows m (HadEvent m w (e ∷ es)) n (after m w (e ∷ es)) (whole_at m n w (e ∷ es) (λ _. w.site))) (sym (replayed-append n e es))
      (follows_after m (HadEvent m w (e ∷ es)) law n es (step m w e) (λ path event h. inr h) _ _ (sound_step m law w e sound) legal.1 (follows_first m (HadEvent m w (e ∷ es)) law n small w (has_such m (HadEvent m w (e ∷ es)) w e es (λ path event h. h)) e (λ _. w.site) sound legal.0 begins)))
      (polled_after m law n (e ∷ es) w sound legal ends)

  pub sound_after : IsLawful m → (w : World m) (es : List (Asking m)) → IsSound m w → IsSound m (after m w es)
  sound_after law w [] h = h
  sound_after law w (e ∷ es) h = sound_after law (step m w e) es (sound_step m law w e h)

  -- what the site's own requests and rolling keep holds of every state, and of the site wherever an href was given whole
  module _ (law : IsLawful m) (Keeps : m.State → Type 0) (keep : (s : m.State) (ns : List ℕ) (r : m.Request) (now : ℕ) → Keeps s → Keeps (m.roll (m.act s ns r now).0)) where
    keeps_left : (w : World m) (r : m.Request) (t : Target m.Text m.Input m.Part m.Fault) → Keeps w.site → Keeps (left m w r t).site
    keeps_left w r Itself h = keep w.site (numbers_of w.watches) r w.time h
    keeps_left w r Nowhere h = h
    keeps_left w r NewWatch h = elim (is_full m (yielded m w)) as (λ b. let done : World m × Reply m = cond b (w, Refused m.too_many_watches) (made m (yielded m w), Told w.next first_lease m.whole) in Keeps done.0.site) [ true ↦ h | false ↦ h ]
    keeps_left w r (OneWatch k op) h = elim (lookup k w.watches) as (λ found. Keeps (on_watch m w k op found).0.site) [ None ↦ h | Some v ↦ h ]

    keeps_step : (w : World m) (e : Asking m) → IsSound m w → Keeps w.site → Keeps (step m w e).site
    keeps_step w e sound h = go e.answer
      where
        go : (a : Replied m) → Keeps (left_by (act m) w e.request e.moment a).site
        go NoMemory = h
        go (Done reply) = subst (λ (u : World m). Keeps u.site) (sym (step_left m law w sound e.request e.moment)) (keeps_left (begun m w e.moment) e.request (m.target e.request) h)

    pub keeps_after : (w : World m) (es : List (Asking m)) → IsSound m w → Keeps w.site → Keeps (after m w es).site
    keeps_after w [] sound h = h
    keeps_after w (e ∷ es) sound h = keeps_after (step m w e) es (sound_step m law w e sound) (keeps_step w e sound h)

    keeps_by : (b : Bool) (s u : m.State) → Keeps s → Keeps u → Keeps (cond b s u)
    keeps_by true s u h g = h
    keeps_by false s u h g = g

    pub keeps_whole : (n : ℕ) (w : World m) (es : List (Asking m)) (when : m.Text → m.State) → IsSound m w → Keeps w.site → ((text : m.Text) → Keeps (when text)) → (text : m.Text) → Keeps (whole_at m n w es when text)
    keeps_whole n w [] when sound h all text = all text
    keeps_whole n w (e ∷ es) when sound h all text =
        keeps_whole n (step m w e) es (whole_by m n w.site e when) (sound_step m law w e sound) (keeps_step w e sound h)
        (λ t. keeps_by (list_any (λ c. call_gives m t c.operation c.answer) (call_of m n e.answer (m.target e.request))) w.site (when t) h (all t)) text

  pub watch_replays : IsLawful m → (n : ℕ) → WatchReplays m n
  watch_replays law n small start sound before part legal begins ends =
      replays_from law n small (after m start before) part (sound_after law start before sound) (legal_back (act m) start before part legal) begins ends

  -- no step brings a watch back
  gone_left : (n : ℕ) (w : World m) (r : m.Request) (t : Target m.Text m.Input m.Part m.Fault) → n < w.next → lookup n w.watches ≡ None → (n < (left m w r t).next) × (lookup n (left m w r t).watches ≡ None)
  gone_left n w r Itself made gone = (made, lookup-map_values _ n w.watches ∙ ap (map_option _) gone)
  gone_left n w r Nowhere made gone = (made, gone)
  gone_left n w r NewWatch is gone = go (is_full m (yielded m w))
    where
      go : (b : Bool) → let done : World m × Reply m = cond b (w, Refused m.too_many_watches) (made m (yielded m w), Told w.next first_lease m.whole) in (n < done.0.next) × (lookup n done.0.watches ≡ None)
      go true = (is, gone)
      go false = (omega arith, lookup-append_other n w.next _ (yielded m w).watches (omega arith) ∙ gone_yielding m n (length w.watches) w.time w.watches gone)
  gone_left n w r (OneWatch k op) made gone = go (lookup k w.watches) refl
    where
      go : (found : Option (Watch m)) → lookup k w.watches ≡ found → (n < (on_watch m w k op found).0.next) × (lookup n (on_watch m w k op found).0.watches ≡ None)
      go None e = (made, gone)
      go (Some v) e = (made, lookup-replace_other n k _ w.watches (λ same. absurd (cc (ap (λ k. lookup k w.watches) same))) ∙ gone)

  gone_step : IsLawful m → (n : ℕ) (w : World m) (e : Asking m) → IsSound m w → n < w.next → lookup n w.watches ≡ None → (n < (step m w e).next) × (lookup n (step m w e).watches ≡ None)
  gone_step law n w e sound made gone = go e.answer
    where
      go : (a : Replied m) → let v = left_by (act m) w e.request e.moment a in (n < v.next) × (lookup n v.watches ≡ None)
      go NoMemory = (made, gone)
      go (Done reply) =
          subst (λ v. (n < v.next) × (lookup n v.watches ≡ None)) (sym (step_left m law w sound e.request e.moment))
          (gone_left n (begun m w e.moment) e.request (m.target e.request) made (lookup-filter_none _ n w.watches gone))

  not_found : (n : ℕ) (w : World m) (e : Asking m) → lookup n w.watches ≡ None → IsCall (act m) w e → IsOn m n e → IsNotFound m e.answer
  not_found n w e gone is on = go e.answer is.answer
    where
      reply : (act m w e.request e.moment).1 ≡ m.sent (Refused m.not_found)
      reply = ap (λ t. m.sent (acted m (begun m w e.moment) e.request t).1) on.1 ∙ ap (λ found. m.sent (on_watch m (begun m w e.moment) n on.0 found).1) (lookup-filter_none _ n w.watches gone)

      go : (a : Replied m) → IsAnswer (act m) w e.request e.moment a → IsNotFound m a
      go NoMemory is = inr refl
      go (Done given) is = inl (ap Done (is ∙ reply))

  -- and no make answers with a number that was given
  not_again : IsLawful m → (n : ℕ) → n < 2 ^ 64 → (w : World m) (e : Asking m) → IsSound m w → IsCall (act m) w e → n < w.next → IsMake m n e → ⊥
  not_again law n small w e sound is made make = (let new = (made_next m law n small w e sound is make).0 in omega (arith, new, made))

  stays_gone : IsLawful m → (n : ℕ) → n < 2 ^ 64 → (w : World m) (es : List (Asking m)) → IsSound m w → n < w.next → lookup n w.watches ≡ None → Legal m w es → (lookup n (after m w es).watches ≡ None) × AllByRecursion (λ e. (IsMake m n e → ⊥) × (IsOn m n e → IsNotFound m e.answer)) es
  stays_gone law n small w [] sound made gone legal = (gone, tt)
  stays_gone law n small w (e ∷ es) sound made gone legal =
      let later = gone_step law n w e sound made gone in
      let rest = stays_gone law n small (step m w e) es (sound_step m law w e sound) later.0 later.1 legal.1 in
      (rest.0, ((not_again law n small w e sound legal.0 made, not_found n w e gone legal.0), rest.1))

  -- numbers are not given back
  next_left : (w : World m) (r : m.Request) (t : Target m.Text m.Input m.Part m.Fault) → w.next ≤ (left m w r t).next
  next_left w r Itself = omega arith
  next_left w r Nowhere = omega arith
  next_left w r NewWatch = elim (is_full m (yielded m w)) as (λ b. let done : World m × Reply m = cond b (w, Refused m.too_many_watches) (made m (yielded m w), Told w.next first_lease m.whole) in w.next ≤ done.0.next) [ true ↦ omega arith | false ↦ omega arith ]
  next_left w r (OneWatch k op) = elim (lookup k w.watches) as (λ found. w.next ≤ (on_watch m w k op found).0.next) [ None ↦ omega arith | Some v ↦ omega arith ]

  next_step : IsLawful m → (w : World m) (e : Asking m) → IsSound m w → w.next ≤ (step m w e).next
  next_step law w e sound = go e.answer
    where
      go : (a : Replied m) → w.next ≤ (left_by (act m) w e.request e.moment a).next
      go NoMemory = omega arith
      go (Done reply) = subst (λ v. w.next ≤ v.next) (sym (step_left m law w sound e.request e.moment)) (next_left (begun m w e.moment) e.request (m.target e.request))

  next_after : IsLawful m → (w : World m) (es : List (Asking m)) → IsSound m w → w.next ≤ (after m w es).next
  next_after law w [] sound = omega arith
  next_after law w (e ∷ es) sound = le_trans (next_step law w e sound) (next_after law (step m w e) es (sound_step m law w e sound))

  was_made : IsLawful m → (n : ℕ) → n < 2 ^ 64 → (start w : World m) (es : List (Asking m)) → IsSound m w → start.next ≤ w.next → Legal m w es → WasMade m start n es → n < (after m w es).next
  was_made law n small start w [] sound le legal made = omega (arith, le, made)
  was_made law n small start w (e ∷ es) sound le legal (inl make) =
      (let new = made_next m law n small w e sound legal.0 make in
      let later = next_after law (step m w e) es (sound_step m law w e sound) in
      let grew : n < (step m w e).next = subst (λ u. n < u.next) (sym new.1) (omega (arith, new.0)) in
      omega (arith, later, grew))
  was_made law n small start w (e ∷ es) sound le legal (inr made) =
      was_made law n small start (step m w e) es (sound_step m law w e sound) (le_trans le (next_step law w e sound)) legal.1 made

  pub watch_stays_gone : IsLawful m → (n : ℕ) → WatchStaysGone m n
  watch_stays_gone law n small start sound before later legal made gone =
      let given = was_made law n small start start before sound (le_refl start.next) (legal_front (act m) start before later legal) made in
      let rest = stays_gone law n small (after m start before) later (sound_after law start before sound) given gone (legal_back (act m) start before later legal) in
      (ap (λ w. lookup n w.watches) (after-append (act m) start before later) ∙ rest.0, rest.1)

  pub leaves_others : IsLawful m → (n : ℕ) → LeavesOthers m n
  leaves_others law n w sound e on k differ = go e.answer refl
    where
      standing : lookup k (begun m w e.moment).watches ≡ unless_lapsed m (begun m w e.moment).time (lookup k w.watches)
      standing = lookup-standing m (begun m w e.moment).time k 0 w.next w.watches sound.numbers

      found : (v : Option (Watch m)) → let u = (on_watch m (begun m w e.moment) n on.0 v).0 in lookup k u.watches ≡ unless_lapsed m u.time (lookup k w.watches)
      found None = standing
      found (Some v) = lookup-replace_other k n _ (begun m w e.moment).watches differ ∙ standing

      go : (a : Replied m) → e.answer ≡ a → let u = left_by (act m) w e.request e.moment a in lookup k u.watches ≡ standing_after m a u.time (lookup k w.watches)
      go NoMemory is = refl
      go (Done reply) is =
          subst (λ u. lookup k u.watches ≡ unless_lapsed m u.time (lookup k w.watches)) (sym (step_left m law w sound e.request e.moment ∙ ap (left m (begun m w e.moment) e.request) on.1))
          (found (lookup n (begun m w e.moment).watches))
