-- What was missed of a feed can be counted with what a pollChanges tells of it.
use Rattle.std.proofs.Common.{arith, ◌≡◌, ℕ, zero, suc, ◌+◌, ◌≤◌, Bool, true, false, cond, not, ◌&&◌, List, [], ◌∷◌, ◌++◌, map, length, nat_le, drop, Option, Some, None, refl, sym, ap, ◌∙◌, subst, ◌-◌, ◌⊎◌, inl, inr}
use Rattle.std.proofs.lemmas.Bool.Decides.{nat_tests}
use Rattle.std.proofs.lemmas.List.{length-map}
use Rattle.std.proofs.lemmas.Slice.Eq.{bytes_eq-Decides}
use Rattle.std.specs.Prelude.{codes, find, option_map, unwrap_or, is_none}
use Rattle.std.specs.List.{AllByRecursion, filter}
use Rattle.std.specs.Str.{bytes_eq}
use Rattle.ob_values.proofs.Bools.{not_true, neither_left, neither_right}
use Rattle.ob_object.specs.declared.kind.Kind.TheVariants as kind
use Rattle.ob_object.specs.Object.{Object, none, children, listed-in_row}
use Rattle.ob_object.specs.WellFormed.{has_name, named}
use Rattle.ob_alarms.specs.Changes.{State as Board}
use Rattle.ob_watching.specs.Operations.{Shows, Lists, Refuses}
use Rattle.ob_watching.specs.Replay.{continued, change, changed_by}
use Rattle.ob_watching.specs.Tables.{put, is_among}
use Rattle.ob_watching.specs.Watches.{Object as ObjectItem, Feed as FeedItem, Tracked, Item, Reading, since, lists_some, changes_of, changes}
use Rattle.ob_watching.specs.Laws.{HoldsItem, HoldsAll}
use Rattle.ob_watching.specs.WatchOuts.{Text, Held, without_name, without_href, is_of_kind, is_dropped, number_in, dropped_in, content_if, entry_read}
use Rattle.ob_site_rules.specs.Build.{Path, valued, number_slot}
use Rattle.ob_site_rules.specs.Entries.{record_object, event_object, first_events}
use Rattle.ob_site_rules.specs.declared.resource.Resource.{Resource}
use Rattle.ob_site_rules.specs.declared.resource.Resource.TheVariants.{About, Batch, Service, Make, AlarmAt, AckOf, WritePointOf, QueryOf, FeedOf, AlarmQuery, AlarmFeed, Node}
use Rattle.ob_site_rules.specs.Places.{event_places}
use Rattle.ob_site_rules.specs.Posts.{kept_in, records_of}
use Rattle.ob_site_rules.specs.Replies.{dropped_child, entry}
use Rattle.ob_site_rules.specs.Sites.{watched_object}
use Rattle.ob_site_rules.specs.declared.plan.Plan.{Plan}
use Rattle.ob_site_rules.specs.State.{State, Log, at, board}
use Rattle.ob_site_rules.specs.Watched.{events_at, gone_in, gone_at}
use Rattle.ob_site_rules.specs.Writes.{events_ever}
use Rattle.ob_site_laws.specs.SiteLaws.{of_plan}
use Rattle.ob_site_laws.proofs.Nameless.{all_nameless}
use Rattle.ob_site_laws.proofs.Plain.{watched_plain}
use Rattle.ob_site_laws.proofs.Rolling.{picked}
use Rattle.ob_site_laws.proofs.Heard.{not_none}
use Rattle.ob_client.specs.Entries.{is_feed, is_err, text_of, each_once}
use Rattle.ob_client.specs.Mirrors.{found, missed_in, most_missed, has_count, follows, can_follow, all_follow}
use Rattle.ob_client.specs.Shown.{Content}
use Rattle.ob_client.proofs.TableLemmas.{bytes_eq_sym}
use Rattle.ob_client.proofs.OnceLemmas.{left_new, right_once}
use Rattle.ob_client_laws.specs.Counting.{AreCounted}
use Rattle.ob_values.proofs.Lists.{all_both}

-- ---- how many events a feed has had

abbrev FewIn : Option Log → Type 0
FewIn o = gone_in o + length (kept_in o) ≤ most_missed

nothing : 0 + 0 ≤ 9_223_372_036_854_775_807
nothing = omega arith

picked_few : (b : Bool) (l : Path × Log) (o : Option (Path × Log)) → events_ever l.1 ≤ most_missed → FewIn (option_map (λ (e : Path × Log). e.1) o) → FewIn (picked b l o)
picked_few true l o one rest = one
picked_few false l o one rest = rest

log_few : (h : Path) (ls : List (Path × Log)) → AllByRecursion (λ l. events_ever l.1 ≤ most_missed) ls → FewIn (at h ls)
log_few h [] all = nothing
log_few h (l ∷ ls) all = picked_few (bytes_eq l.0 h) l (find (λ e. bytes_eq e.0 h) ls) all.0 (log_few h ls all.1)

length-last : (os : List Object) (o : Object) → length (os ++ o ∷ []) ≡ suc (length os)
length-last [] o = refl
length-last (p ∷ os) o = ap suc (length-last os o)

first_length : (b : Board) (n : ℕ) → length (first_events b n) ≡ n
first_length b zero = refl
first_length b (suc n) = length-last (first_events b n) (event_object b n) ∙ ap suc (first_length b n)

place_few : (plan : Plan) (s : State) (place : Option Resource) → AreCounted s → gone_at s place + length (events_at plan s place) ≤ most_missed
place_few plan s (Some (FeedOf h)) c =
    subst (λ n. gone_in (at h s.logs) + n ≤ most_missed) (sym (length-map (records_of s h) record_object)) (log_few h s.logs c.records)
place_few plan s (Some AlarmFeed) c = subst (λ n. 0 + n ≤ most_missed) (sym (first_length (board plan s) (length s.events))) (none_more (length s.events) c.alarms)
  where
    none_more : (n : ℕ) → n ≤ most_missed → 0 + n ≤ most_missed
    none_more n h = omega (arith, h)
place_few plan s None c = nothing
place_few plan s (Some (Node o)) c = nothing
place_few plan s (Some About) c = nothing
place_few plan s (Some Batch) c = nothing
place_few plan s (Some Service) c = nothing
place_few plan s (Some Make) c = nothing
place_few plan s (Some (AlarmAt n)) c = nothing
place_few plan s (Some (AckOf n)) c = nothing
place_few plan s (Some (WritePointOf q)) c = nothing
place_few plan s (Some (QueryOf h)) c = nothing
place_few plan s (Some AlarmQuery) c = nothing

-- ---- what is held after a poll

abbrev pub IsFew : Content → Type 0
IsFew c = missed_in c ≤ most_missed

abbrev pub AllFew : List Held → Type 0
AllFew held = AllByRecursion (λ h. IsFew h.content) held

bounded : (seen missed gone all : ℕ) → seen + missed + gone ≡ all → all ≤ 9_223_372_036_854_775_807 → missed ≤ 9_223_372_036_854_775_807
bounded seen missed gone all e h = omega (arith, e, h)

none_few : 0 ≤ 9_223_372_036_854_775_807
none_few = omega arith

module _ (plan : Plan) where
  few_item : (s then : State) (had : Path → Object → Type 0) (p : Path) (tracked : Tracked (of_plan plan)) (c : Content) → AreCounted s → HoldsItem (of_plan plan) s then had p tracked c → IsFew c
  few_item s then had p (ObjectItem changed) c counted h = subst IsFew (sym h) none_few
  few_item s then had p (FeedItem bounds given) c counted h =
      subst IsFew (sym h.content)
      (bounded (length h.seen) h.missed ((of_plan plan).gone then p) ((of_plan plan).gone s p + length ((of_plan plan).events s p)) h.number (place_few plan s (at p (event_places plan)) counted))

  pub held_few : (s : State) (when : Text → State) (had : Path → Object → Type 0) (items : List (Item (of_plan plan))) (held : List Held) → AreCounted s → HoldsAll (of_plan plan) s when had items held → AllFew held
  held_few s when had [] [] counted h = tt
  held_few s when had [] (r ∷ rs) counted h = absurd h
  held_few s when had (item ∷ items) [] counted h = absurd h
  held_few s when had (item ∷ items) (r ∷ rs) counted h = (few_item s (when item.text) had item.path item.tracked r.content counted h.0.1, held_few s when had items rs counted h.1)

-- ---- from what is held after a poll to what was held before

abbrev held_of : Text → Content → Held
held_of t c = record { text = t; content = c }

abbrev pub texts_of : List Held → List Text
texts_of rs = map (λ (r : Held). r.text) rs

found_few : (t : Text) (held : List Held) (h : Held) → AllFew held → found t held ≡ Some h → IsFew h.content
found_few t [] h all e = absurd (let f : None ≡ Some h = e in cc)
found_few t (x ∷ held) h all e = go (bytes_eq t x.text) e (found_few t held h all.1)
  where
    go : (b : Bool) → cond b (Some x) (found t held) ≡ Some h → (found t held ≡ Some h → IsFew h.content) → IsFew h.content
    go true e rest = subst (λ (y : Held). IsFew y.content) (let same : x ≡ h = cc in same) all.0
    go false e rest = rest e

-- what is put under another href isn't found
put_other : (u : Text) (r : Held) (f : Held → Content) (held : List Held) → bytes_eq u r.text ≡ false
    → found u (put (λ (old : Held). bytes_eq old.text r.text) (λ (old : Held). held_of old.text (f old)) r held) ≡ found u held
put_other u r f [] e = ap (λ b. let o : Option Held = cond b (Some r) None in o) e
put_other u r f (x ∷ held) e = go (bytes_eq x.text r.text) refl (put_other u r f held e)
  where
    other : bytes_eq x.text r.text ≡ true → bytes_eq u x.text ≡ false
    other is = ap (bytes_eq u) ((bytes_eq-Decides x.text r.text).0 is) ∙ e

    go : (b : Bool) → bytes_eq x.text r.text ≡ b → found u (put (λ (old : Held). bytes_eq old.text r.text) (λ (old : Held). held_of old.text (f old)) r held) ≡ found u held
        → found u (cond b (held_of x.text (f x) ∷ held) (x ∷ put (λ (old : Held). bytes_eq old.text r.text) (λ (old : Held). held_of old.text (f old)) r held)) ≡ cond (bytes_eq u x.text) (Some x) (found u held)
    go true is rest =
        ap (λ b. cond b (Some (held_of x.text (f x))) (found u held)) (other is) ∙ sym (ap (λ b. cond b (Some x) (found u held)) (other is))
    go false is rest = ap (λ (o : Option Held). cond (bytes_eq u x.text) (Some x) o) rest

change_other : (u : Text) (r : Held) (c : Content) (held : List Held) → bytes_eq u r.text ≡ false → found u (change bytes_eq r c held) ≡ found u held
change_other u r (Refuses o) held e = refl
change_other u r (Shows o) held e = put_other u r (λ old. continued old.content (Shows o)) held e
change_other u r (Lists f d es) held e = put_other u r (λ old. continued old.content (Lists f d es)) held e

-- what is put under an href is found there
put_same : (r : Held) (f : Held → Content) (held : List Held) (h : Held) → found r.text held ≡ Some h
    → found r.text (put (λ (old : Held). bytes_eq old.text r.text) (λ (old : Held). held_of old.text (f old)) r held) ≡ Some (held_of h.text (f h))
put_same r f [] h e = absurd (let g : None ≡ Some h = e in cc)
put_same r f (x ∷ held) h e = go (bytes_eq r.text x.text) refl e (put_same r f held h)
  where
    go : (b : Bool) → bytes_eq r.text x.text ≡ b → cond b (Some x) (found r.text held) ≡ Some h
        → (found r.text held ≡ Some h → found r.text (put (λ (old : Held). bytes_eq old.text r.text) (λ (old : Held). held_of old.text (f old)) r held) ≡ Some (held_of h.text (f h)))
        → found r.text (cond (bytes_eq x.text r.text) (held_of x.text (f x) ∷ held) (x ∷ put (λ (old : Held). bytes_eq old.text r.text) (λ (old : Held). held_of old.text (f old)) r held)) ≡ Some (held_of h.text (f h))
    go true is there rest =
        ap (λ b. found r.text (cond b (held_of x.text (f x) ∷ held) (x ∷ put (λ (old : Held). bytes_eq old.text r.text) (λ (old : Held). held_of old.text (f old)) r held))) (bytes_eq_sym x.text r.text ∙ is)
        ∙ ap (λ b. cond b (Some (held_of x.text (f x))) (found r.text held)) is
        ∙ ap (λ (y : Held). Some (held_of y.text (f y))) (let same : x ≡ h = cc in same)
    go false is there rest =
        ap (λ b. found r.text (cond b (held_of x.text (f x) ∷ held) (x ∷ put (λ (old : Held). bytes_eq old.text r.text) (λ (old : Held). held_of old.text (f old)) r held))) (bytes_eq_sym x.text r.text ∙ is)
        ∙ ap (λ b. cond b (Some x) (found r.text (put (λ (old : Held). bytes_eq old.text r.text) (λ (old : Held). held_of old.text (f old)) r held))) is
        ∙ rest there

-- what stands under none of their hrefs stays
found_past : (u : Text) (rs held : List Held) → is_among bytes_eq (texts_of rs) u ≡ false → found u (changed_by bytes_eq rs held) ≡ found u held
found_past u [] held e = refl
found_past u (r ∷ rs) held e =
    found_past u rs (change bytes_eq r r.content held) (neither_right (bytes_eq u r.text) (is_among bytes_eq (texts_of rs) u) e)
    ∙ change_other u r r.content held (neither_left (bytes_eq u r.text) (is_among bytes_eq (texts_of rs) u) e)

-- of a feed that is held, what was missed with what these tell is few
abbrev pub GoesOn : List Held → Held → Type 0
GoesOn held r = (h : Held) → found r.text held ≡ Some h → (feed : Object) (dropped : ℕ) (es : List Object) → r.content ≡ Lists feed dropped es → IsFew (continued h.content (Lists feed dropped es))

abbrev pub AllGoOn : List Held → List Held → Type 0
AllGoOn held rs = AllByRecursion (λ r. GoesOn held r) rs

-- the same of what is held once another entry was put
still_on : (r : Held) (held rs : List Held) → is_among bytes_eq (texts_of rs) r.text ≡ false → AllGoOn (change bytes_eq r r.content held) rs → AllGoOn held rs
still_on r held [] e h = tt
still_on r held (q ∷ rs) e h = (
  λ x there feed dropped es is. h.0 x (change_other q.text r r.content held (bytes_eq_sym q.text r.text ∙ neither_left (bytes_eq r.text q.text) (is_among bytes_eq (texts_of rs) r.text) e) ∙ there) feed dropped es is,
  still_on r held rs (neither_right (bytes_eq r.text q.text) (is_among bytes_eq (texts_of rs) r.text) e) h.1,
)

pub all_go_on : (rs held : List Held) → each_once (texts_of rs) ≡ true → AllFew (changed_by bytes_eq rs held) → AllGoOn held rs
all_go_on [] held once few = tt
all_go_on (r ∷ rs) held once few = (
  first,
  still_on r held rs other (all_go_on rs (change bytes_eq r r.content held) (right_once (is_among bytes_eq (texts_of rs) r.text) (each_once (texts_of rs)) once) few),
)
  where
    other : is_among bytes_eq (texts_of rs) r.text ≡ false
    other = left_new (is_among bytes_eq (texts_of rs) r.text) (each_once (texts_of rs)) once

    first : GoesOn held r
    first h there feed dropped es is =
        found_few r.text (changed_by bytes_eq rs (change bytes_eq r r.content held)) (held_of h.text (continued h.content (Lists feed dropped es))) few
        (found_past r.text rs (change bytes_eq r r.content held) other
        ∙ ap (λ (c : Content). found r.text (change bytes_eq r c held)) is
        ∙ put_same r (λ old. continued old.content (Lists feed dropped es)) held h there)

-- ---- the entries of a pollChanges

-- no feed; or one whose child `dropped`, if there is one, is an int from 1 on
abbrev pub Tells : Object → Type 0
Tells o = (is_feed o ≡ false) ⊎ ((named (codes "dropped") (children o) ≡ None) ⊎ ((k : ℕ) × (named (codes "dropped") (children o) ≡ Some (valued kind.Int (codes "dropped") (number_slot (suc k))))))

first_of_three : (a b c : Bool) → (a && (b && c)) ≡ true → b ≡ true
first_of_three true true c h = refl
first_of_three true false c h = absurd (let e : false ≡ true = h in cc)
first_of_three false b c h = absurd (let e : false ≡ true = h in cc)

none_dropped : (es : List Object) → AllByRecursion (λ (e : Object). e.head.name ≡ None) es → named (codes "dropped") es ≡ None
none_dropped [] h = refl
none_dropped (e ∷ es) h = ap (λ (name : Option Text). cond (has_name (codes "dropped") name) (Some e) (named (codes "dropped") es)) h.0 ∙ none_dropped es h.1

module _ (plan : Plan) where
  abbrev pub AllTell : List (Reading (of_plan plan)) → Type 0
  AllTell rs = AllByRecursion (λ r. Tells (entry r)) rs

  object_tells : (s : State) (t : Text) (p : Path) → let r : Reading (of_plan plan) = record { text = t; content = Shows ((of_plan plan).shown s p) } in Tells (entry r)
  object_tells s t p =
      let o = watched_object plan s p in
      inl (not_true (is_of_kind kind.Feed o) (first_of_three (is_none o.head.href) (not (is_of_kind kind.Feed o)) (not (is_of_kind kind.Err o)) (watched_plain plan s p)))

  feed_tells : (t : Text) (p : Path) (dropped : ℕ) (es : List Object) → AllByRecursion (λ (e : Object). e.head.name ≡ None) es
      → let r : Reading (of_plan plan) = record { text = t; content = Lists ((of_plan plan).feed p) dropped es } in Tells (entry r)
  feed_tells t p zero es h = inr (inl (ap (named (codes "dropped")) (listed-in_row (dropped_child 0 ++ es)) ∙ none_dropped es h))
  feed_tells t p (suc k) es h =
      inr (inr (
        k,
        ap (named (codes "dropped")) (listed-in_row (dropped_child (suc k) ++ es))
            ∙ ap (λ none. named (codes "dropped") (cond none [] (valued kind.Int (codes "dropped") (number_slot (suc k)) ∷ []) ++ es)) (not_none k),
      ))

  all_filtered : (P : Object → Type 0) (keep : Object → Bool) (es : List Object) → AllByRecursion P es → AllByRecursion P (filter keep es)
  all_filtered P keep [] h = tt
  all_filtered P keep (e ∷ es) h = elim (keep e) as (λ b. AllByRecursion P (cond b (e ∷ filter keep es) (filter keep es))) [ true ↦ (h.0, all_filtered P keep es h.1) | false ↦ all_filtered P keep es h.1 ]

  all_dropped : (P : Object → Type 0) (n : ℕ) (es : List Object) → AllByRecursion P es → AllByRecursion P (drop n es)
  all_dropped P zero es h = h
  all_dropped P (suc n) [] h = h
  all_dropped P (suc n) (e ∷ es) h = all_dropped P n es h.1

  one_tells : (s : State) (t : Text) (p : Path) (tracked : Tracked (of_plan plan)) → AllTell (changes_of (of_plan plan) s t p tracked)
  one_tells s t p (ObjectItem false) = tt
  one_tells s t p (ObjectItem true) = (object_tells s t p, tt)
  one_tells s t p (FeedItem bounds given) =
      go ((of_plan plan).gone s p - given) (filter ((of_plan plan).passes bounds) (since (of_plan plan) s p given))
      (all_filtered (λ e. e.head.name ≡ None) ((of_plan plan).passes bounds) (since (of_plan plan) s p given)
      (all_dropped (λ e. e.head.name ≡ None) (given - (of_plan plan).gone s p) ((of_plan plan).events s p) (all_nameless plan s (at p (event_places plan)))))
    where
      go : (dropped : ℕ) (es : List Object) → AllByRecursion (λ (e : Object). e.head.name ≡ None) es → AllTell (lists_some (of_plan plan) t p dropped es)
      go zero [] h = tt
      go zero (e ∷ es) h = (feed_tells t p 0 (e ∷ es) h, tt)
      go (suc k) es h = (feed_tells t p (suc k) es h, tt)

  pub changes_tell : (s : State) (items : List (Item (of_plan plan))) → AllTell (changes (of_plan plan) s items)
  changes_tell s [] = tt
  changes_tell s (item ∷ items) =
      all_both (λ (r : Reading (of_plan plan)). Tells (entry r)) (changes_of (of_plan plan) s item.text item.path item.tracked) (changes (of_plan plan) s items)
      (one_tells s item.text item.path item.tracked) (changes_tell s items)

  -- ---- so they can be counted

  counted_so : (missed k : ℕ) → missed + suc k ≤ most_missed → (nat_le 1 (suc k) && nat_le (missed + suc k) most_missed) ≡ true
  counted_so missed k h = both (one_of k) (few_of (missed + suc k) h)
    where
      both : {a b : Bool} → a ≡ true → b ≡ true → (a && b) ≡ true
      both {a} {b} e f = ap (λ x. x && b) e ∙ f

      one_of : (k : ℕ) → nat_le 1 (suc k) ≡ true
      one_of k = grind (arith, nat_tests)

      few_of : (n : ℕ) → n ≤ 9_223_372_036_854_775_807 → nat_le n 9_223_372_036_854_775_807 ≡ true
      few_of n h = grind (arith, nat_tests)

  tells_count : (o : Object) (missed : ℕ) → (named (codes "dropped") (children o) ≡ None) ⊎ ((k : ℕ) × (named (codes "dropped") (children o) ≡ Some (valued kind.Int (codes "dropped") (number_slot (suc k)))))
      → missed + dropped_in (children o) ≤ most_missed → has_count missed (named (codes "dropped") (children o)) ≡ true
  tells_count o missed (inl gone) few = ap (has_count missed) gone
  tells_count o missed (inr some) few =
      ap (has_count missed) some.1
      ∙ counted_so missed some.0 (subst (λ n. missed + n ≤ most_missed) (ap (λ (c : Option Object). unwrap_or (option_map (λ (c : Object). number_in c.head.slot) c) 0) some.1) few)

  feed_read : (o : Object) → is_feed o ≡ true → (entry_read true o).content ≡ Lists (record { head = (without_href o).head; inner = none }) (dropped_in (children o)) (map without_name (filter (λ (e : Object). not (is_dropped e)) (children o)))
  feed_read o e = ap (λ b. content_if true b (is_err o) (without_href o)) e

  content_follows : (o : Object) (c : Content) → Tells o → (is_feed o ≡ true → IsFew (continued c (entry_read true o).content)) → follows c o ≡ true
  content_follows o (Shows x) tells few = refl
  content_follows o (Refuses x) tells few = refl
  content_follows o (Lists f missed es) (inl other) few = ap (λ b. cond b (has_count missed (named (codes "dropped") (children o))) true) other
  content_follows o (Lists f missed es) (inr tells) few = go (is_feed o) refl
    where
      go : (b : Bool) → is_feed o ≡ b → cond b (has_count missed (named (codes "dropped") (children o))) true ≡ true
      go false e = refl
      go true e = tells_count o missed tells (subst (λ (c : Content). IsFew (continued (Lists f missed es) c)) (feed_read o e) (few e))

  one_follows : (held : List Held) (o : Object) → Tells o → GoesOn held (entry_read true o) → can_follow (found (text_of o) held) o ≡ true
  one_follows held o tells on = go (found (text_of o) held) refl
    where
      go : (h : Option Held) → found (text_of o) held ≡ h → can_follow h o ≡ true
      go None e = refl
      go (Some h) e = content_follows o h.content tells (λ feed. subst (λ (c : Content). IsFew (continued h.content c)) (sym (feed_read o feed)) (on h e _ _ _ (feed_read o feed)))

  pub entries_follow : (held : List Held) (rs : List (Reading (of_plan plan))) → AllTell rs → AllGoOn held (map (entry_read true) (map entry rs)) → all_follow held (map entry rs) ≡ true
  entries_follow held [] tells on = refl
  entries_follow held (r ∷ rs) tells on =
      ap (λ b. b && all_follow held (map entry rs)) (one_follows held (entry r) tells.0 on.0) ∙ entries_follow held rs tells.1 on.1
