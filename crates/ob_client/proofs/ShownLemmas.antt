-- What is shown is read again as what is held.
use Rattle.std.proofs.Common.{◌≡◌, ℕ, zero, suc, ◌+◌, Bool, true, false, cond, List, [], ◌∷◌, ◌++◌, map, length, drop, refl, sym, ap, ◌∙◌}
use Rattle.std.specs.Prelude.{Option, Some, None, codes, unwrap_or, option_map, is_some}
use Rattle.std.specs.List.{filter}
use Rattle.std.specs.Option.{option_map_or}
use Rattle.std.proofs.lemmas.List.{map-append}
use Rattle.ob_object.specs.declared.head.Head.{Head}
use Rattle.ob_object.specs.declared.kind.Kind.TheVariants as kind
use Rattle.ob_object.specs.Kinds.{same_kind}
use Rattle.ob_object.specs.Object.{Object, none, in_row, children, listed-in_row}
use Rattle.ob_object.specs.WellFormed.{named}
use Rattle.ob_watching.specs.Operations.{Shows, Lists, Refuses}
use Rattle.ob_watching.specs.Replay.{continued}
use Rattle.ob_watching.specs.WatchOuts.{Text, Held, without_name, without_href, dropped_in, number_in, feed_read, content_if, entry_read}
use Rattle.ob_client.specs.Entries.{is_feed, is_err, text_of}
use Rattle.ob_client.specs.Shown.{Content, with_href, dropped_child, shown_content, shown}
use Rattle.ob_client.specs.Feeds.{news_in, feed_of}
use Rattle.ob_client.specs.Mirrors.{found, follows, has_count, events_in, missed_in}
use Rattle.ob_client.specs.Tables.{next}
use Rattle.ob_client.proofs.FeedLemmas.{is_event}

abbrev pub bare : Head → Object
bare h = record { head = record h { href = None }; inner = none }

abbrev pub reading : Text → Content → Held
reading t c = record { text = t; content = c }

pub some_text : (h : Option Text) → is_some h ≡ true → h ≡ Some (unwrap_or h [])
some_text None e = absurd (let f : false ≡ true = e in cc)
some_text (Some t) e = refl

-- ---- events without names

no_name_kept : (es : List Object) → filter is_event (map without_name es) ≡ map without_name es
no_name_kept [] = refl
no_name_kept (e ∷ es) = ap (λ (xs : List Object). without_name e ∷ xs) (no_name_kept es)

no_name_found : (es : List Object) → named (codes "dropped") (map without_name es) ≡ None
no_name_found [] = refl
no_name_found (e ∷ es) = no_name_found es

no_name_twice : (es : List Object) → map without_name (map without_name es) ≡ map without_name es
no_name_twice [] = refl
no_name_twice (e ∷ es) = ap (λ (xs : List Object). without_name e ∷ xs) (no_name_twice es)

abbrev number_of : Option Object → ℕ
number_of o = unwrap_or (option_map (λ (c : Object). number_in c.head.slot) o) 0

dropped_of : (n : ℕ) (es : List Object) → dropped_in (dropped_child n ++ map without_name es) ≡ n
dropped_of zero es = ap number_of (no_name_found es)
dropped_of (suc n) es = refl

events_of : (n : ℕ) (es : List Object) → map without_name (filter is_event (dropped_child n ++ map without_name es)) ≡ map without_name es
events_of zero es = ap (map without_name) (no_name_kept es) ∙ no_name_twice es
events_of (suc n) es = ap (map without_name) (no_name_kept es) ∙ no_name_twice es

read_children : (h : Head) (n : ℕ) (es : List Object) → feed_read true (bare h) (children (feed_of h n es)) ≡ Lists (bare h) n (map without_name es)
read_children h n es =
    ap (feed_read true (bare h)) (listed-in_row (dropped_child n ++ map without_name es))
    ∙ ap (λ k. let c : Content = Lists (bare h) k (map without_name (filter is_event (dropped_child n ++ map without_name es))) in c) (dropped_of n es)
    ∙ ap (λ (xs : List Object). let c : Content = Lists (bare h) n xs in c) (events_of n es)

-- ---- what an entry is read as

pub read_feed : (b : Bool) (o : Object) → is_feed o ≡ true → entry_read b o ≡ reading (text_of o) (feed_read b (bare o.head) (children o))
read_feed b o e = ap (λ c. reading (text_of o) (content_if b c (is_err o) (without_href o))) e

pub read_plain : (b : Bool) (o : Object) → is_feed o ≡ false → entry_read b o ≡ reading (text_of o) (cond (is_err o) (Refuses (without_href o)) (Shows (without_href o)))
read_plain b o e = ap (λ c. reading (text_of o) (content_if b c (is_err o) (without_href o))) e

-- an object that is no feed is read as the same whatever was asked
pub read_same : (b c : Bool) (o : Object) → is_feed o ≡ false → entry_read b o ≡ entry_read c o
read_same b c o e = read_plain b o e ∙ sym (read_plain c o e)

-- a feed that the mirror made
pub read_of : (h : Head) (n : ℕ) (es : List Object) → same_kind h.kind kind.Feed ≡ true → entry_read true (feed_of h n es) ≡ reading (unwrap_or h.href []) (Lists (bare h) n (map without_name es))
read_of h n es e = read_feed true (feed_of h n es) e ∙ ap (reading (unwrap_or h.href [])) (read_children h n es)

-- ---- how it is shown

put_back : (o : Object) → o.head.href ≡ Some (text_of o) → with_href (text_of o) (without_href o) ≡ o
put_back o e = ap (λ (x : Option Text). let p : Object = record { head = record o.head { href = x }; inner = o.inner } in p) (sym e)

pub shown_plain : (o : Object) → is_some o.head.href ≡ true → is_feed o ≡ false → shown (entry_read true o) ≡ o
shown_plain o href plain = ap shown (read_plain true o plain) ∙ go (is_err o)
  where
    go : (c : Bool) → shown_content (text_of o) (cond c (Refuses (without_href o)) (Shows (without_href o))) ≡ o
    go true = put_back o (some_text o.head.href href)
    go false = put_back o (some_text o.head.href href)

pub shown_of : (h : Head) (n : ℕ) (es : List Object) → is_some h.href ≡ true → same_kind h.kind kind.Feed ≡ true → shown (entry_read true (feed_of h n es)) ≡ feed_of h n es
shown_of h n es href e =
    ap shown (read_of h n es e)
    ∙ ap (λ (x : Option Text). let p : Object = record { head = record h { href = x }; inner = in_row (dropped_child n ++ map without_name es) } in p) (sym (some_text h.href href))

-- ---- what is made of an entry

pub whole_is : (o f : Object) → f ≡ feed_of o.head 0 (children o) → is_feed o ≡ true → entry_read true f ≡ entry_read false o
whole_is o f is e = ap (entry_read true) is ∙ read_of o.head 0 (children o) e ∙ sym (read_feed false o e)

pub changed_is : (o f : Object) → f ≡ feed_of o.head (dropped_in (children o)) (news_in (children o)) → is_feed o ≡ true → entry_read true f ≡ entry_read true o
changed_is o f is e = ap (entry_read true) is ∙ read_of o.head (dropped_in (children o)) (news_in (children o)) e ∙ sym (read_feed true o e)

pub shown_made : (h : Head) (n : ℕ) (es : List Object) (f : Object) → f ≡ feed_of h n es → is_some h.href ≡ true → same_kind h.kind kind.Feed ≡ true → shown (entry_read true f) ≡ f
shown_made h n es f is href e = ap (λ (x : Object). shown (entry_read true x)) is ∙ shown_of h n es href e ∙ sym is

-- what goes on with what was held
abbrev pub goes_on : Held → Object → Held
goes_on old o = reading old.text (continued old.content (entry_read true o).content)

pub goes_on_longer : (s o f : Object) → f ≡ feed_of s.head (dropped_in (children s) + dropped_in (children o)) (news_in (children s) ++ news_in (children o))
    → is_feed s ≡ true → is_feed o ≡ true → entry_read true f ≡ goes_on (entry_read true s) o
goes_on_longer s o f is e g =
    let n = dropped_in (children s) + dropped_in (children o) in
    ap (entry_read true) is
    ∙ read_of s.head n (news_in (children s) ++ news_in (children o)) e
    ∙ ap (λ (xs : List Object). reading (text_of s) (Lists (bare s.head) n xs)) (map-append without_name (news_in (children s)) (news_in (children o)))
    ∙ sym (ap (λ (h : Held). reading h.text (continued h.content (entry_read true o).content)) (read_feed true s e)
    ∙ ap (λ (h : Held). reading (text_of s) (continued (feed_read true (bare s.head) (children s)) h.content)) (read_feed true o g))

after_plain : (c : Bool) (o : Object) (new : Content) → continued (cond c (Refuses o) (Shows o)) new ≡ new
after_plain true o new = refl
after_plain false o new = refl

before_plain : (c : Bool) (o : Object) (old : Content) → continued old (cond c (Refuses o) (Shows o)) ≡ cond c (Refuses o) (Shows o)
before_plain true o (Shows p) = refl
before_plain true o (Lists f n es) = refl
before_plain true o (Refuses p) = refl
before_plain false o (Shows p) = refl
before_plain false o (Lists f n es) = refl
before_plain false o (Refuses p) = refl

-- no feed was held
pub goes_on_old : (s o : Object) → is_feed s ≡ false → o.head.href ≡ Some (entry_read true s).text → entry_read true o ≡ goes_on (entry_read true s) o
goes_on_old s o e href =
    ap (λ (x : Option Text). reading (unwrap_or x []) (entry_read true o).content) href
    ∙ ap (reading (text_of s)) (sym (ap (λ (h : Held). continued h.content (entry_read true o).content) (read_plain true s e) ∙ after_plain (is_err s) (without_href s) (entry_read true o).content))

-- no feed has come
pub goes_on_new : (s o : Object) → is_feed o ≡ false → o.head.href ≡ Some (entry_read true s).text → entry_read true o ≡ goes_on (entry_read true s) o
goes_on_new s o e href =
    ap (λ (x : Option Text). reading (unwrap_or x []) (entry_read true o).content) href
    ∙ ap (reading (text_of s)) (ap (λ (h : Held). h.content) (read_plain true o e)
    ∙ sym (ap (λ (h : Held). continued (entry_read true s).content h.content) (read_plain true o e) ∙ before_plain (is_err o) (without_href o) (entry_read true s).content))

-- ---- what can be counted

pub follows_feed : (s o : Object) → is_feed s ≡ true → is_feed o ≡ true → follows (entry_read true s).content o ≡ has_count (dropped_in (children s)) (named (codes "dropped") (children o))
follows_feed s o e g =
    ap (λ (h : Held). follows h.content o) (read_feed true s e)
    ∙ ap (λ b. cond b (has_count (dropped_in (children s)) (named (codes "dropped") (children o))) true) g

follows_plain : (c : Bool) (p o : Object) → follows (cond c (Refuses p) (Shows p)) o ≡ true
follows_plain true p o = refl
follows_plain false p o = refl

pub follows_old : (s o : Object) → is_feed s ≡ false → follows (entry_read true s).content o ≡ true
follows_old s o e = ap (λ (h : Held). follows h.content o) (read_plain true s e) ∙ follows_plain (is_err s) (without_href s) o

pub follows_new : (c : Content) (o : Object) → is_feed o ≡ false → follows c o ≡ true
follows_new (Shows p) o e = refl
follows_new (Lists f n es) o e = ap (λ b. cond b (has_count n (named (codes "dropped") (children o))) true) e
follows_new (Refuses p) o e = refl

-- ---- what is found in it

pub missed_feed : (s : Object) → is_feed s ≡ true → missed_in (entry_read true s).content ≡ dropped_in (children s)
missed_feed s e = ap (λ (h : Held). missed_in h.content) (read_feed true s e)

missed_no : (c : Bool) (p : Object) → missed_in (cond c (Refuses p) (Shows p)) ≡ 0
missed_no true p = refl
missed_no false p = refl

pub missed_plain : (s : Object) → is_feed s ≡ false → missed_in (entry_read true s).content ≡ 0
missed_plain s e = ap (λ (h : Held). missed_in h.content) (read_plain true s e) ∙ missed_no (is_err s) (without_href s)

events_no : (c : Bool) (p : Object) → events_in (cond c (Refuses p) (Shows p)) ≡ []
events_no true p = refl
events_no false p = refl

pub events_plain : (s : Object) → is_feed s ≡ false → events_in (entry_read true s).content ≡ []
events_plain s e = ap (λ (h : Held). events_in h.content) (read_plain true s e) ∙ events_no (is_err s) (without_href s)

behind_dropped : (n : ℕ) (es : List Object) → drop (length (dropped_child n)) (dropped_child n ++ es) ≡ es
behind_dropped zero es = refl
behind_dropped (suc n) es = refl

pub events_feed : (s : Object) → is_feed s ≡ true → shown (entry_read true s) ≡ s → events_in (entry_read true s).content ≡ drop (length (dropped_child (dropped_in (children s)))) (children s)
events_feed s e stands =
    let n = dropped_in (children s) in
    let es = map without_name (news_in (children s)) in
    let made : children s ≡ dropped_child n ++ es = sym (ap children stands) ∙ ap (λ (h : Held). children (shown h)) (read_feed true s e) ∙ listed-in_row (dropped_child n ++ es) in
    ap (λ (h : Held). events_in h.content) (read_feed true s e)
    ∙ sym (ap (drop (length (dropped_child n))) made ∙ behind_dropped n es)

-- ---- what a mirror holds has an href

shown_some : (t : Text) (c : Content) → is_some (shown_content t c).head.href ≡ true
shown_some t (Shows o) = refl
shown_some t (Lists f n es) = refl
shown_some t (Refuses o) = refl

pub has_href : (s : Object) → shown (entry_read true s) ≡ s → is_some s.head.href ≡ true
has_href s stands = sym (ap (λ (x : Object). is_some x.head.href) stands) ∙ shown_some (text_of s) (entry_read true s).content

-- what is held under the text of an entry, once it has come
pub next_some : (held : List Held) (o : Object) (old : Held) → found (text_of o) held ≡ Some old → old.text ≡ text_of o → goes_on old o ≡ next held (entry_read true o)
next_some held o old there same =
    let c = (entry_read true o).content in
    ap (λ (t : Text). reading t (continued old.content c)) same
    ∙ sym (ap (λ (x : Option Held). reading (text_of o) (option_map_or (λ (h : Held). continued h.content c) x c)) there)

pub next_none : (held : List Held) (o : Object) → found (text_of o) held ≡ None → entry_read true o ≡ next held (entry_read true o)
next_none held o there =
    let c = (entry_read true o).content in
    sym (ap (λ (x : Option Held). reading (text_of o) (option_map_or (λ (h : Held). continued h.content c) x c)) there)
