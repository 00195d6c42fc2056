-- What a client holds agrees with the items of its watch, through each operation and each step of the site.
use Rattle.std.proofs.Common.{ℕ, zero, suc, ◌≡◌, ◌≤◌, ◌+◌, ◌-◌, Bool, true, false, cond, not, ◌&&◌, ◌||◌, List, [], ◌∷◌, ◌++◌, map, length, take, drop, Option, Some, None, refl, sym, ap, ◌∙◌, ap₂, subst, arith, append-nil, append_assoc, length-append, length-drop, take-append-drop, add-zero}
use Rattle.std.specs.List.{filter, AllByRecursion}
use Rattle.std.specs.Bool.{Decides}
use Rattle.std.proofs.lemmas.List.Elements.{filter-append}
use Rattle.std.proofs.lemmas.List.{take-append-le}
use Rattle.std.proofs.Math.Seq.{take-length}
use Rattle.ob_values.proofs.Lists.{all_both}
use Rattle.ob_watching.specs.Operations.{Shows, Lists, Refuses, Found, ObjectAt, FeedAt, NotFound}
use Rattle.ob_watching.specs.Sites.{Site, IsLawful, HasRolled}
use Rattle.ob_watching.specs.Tables.{put, IsSuffix}
use Rattle.ob_watching.specs.Watches.{Room, Tracked, Object, Feed, Item, Content, Reading, count, since, content_now, reading, reported_now, reported, lists_some, changes_of, changes, settled_at, settled, put_item, refusal, added_unless, add_found, items_added, readings_added, among, Distinct}
use Rattle.ob_watching.specs.Replay.{continued, change, take_added, changed_by, added_by, is_content, has_content}
use Rattle.ob_watching.proofs.Texts.{distinct_found}

-- the events from a place on that are kept still are the last of those that were kept
suffix_rolled : {A : Type 0} (lost kept : List A) (n k : ℕ) → k ≡ n - length lost → IsSuffix (take k kept) (take n (lost ++ kept))
suffix_rolled [] kept n k e = ([], ap (λ i. take i kept) (let same : k ≡ n = omega arith in same))
suffix_rolled (x ∷ lost) kept zero k e = ([], ap (λ i. take i kept) (let none : k ≡ 0 = omega arith in none))
suffix_rolled (x ∷ lost) kept (suc n) k e =
    let rest = suffix_rolled lost kept n k (omega arith) in
    (x ∷ rest.0, ap (λ es. x ∷ es) rest.1)

-- a feed goes on: it gets more events, and the oldest roll off
pub record GoesOn (Event : Type 0) (gone left : ℕ) (before after : List Event) : Type 0 where
  pub more : List Event
  pub rolled : HasRolled Event gone left (before ++ more) after

pub all_dropped : {A : Type 0} (P : A → Type 0) (n : ℕ) (xs : List A) → AllByRecursion P xs → AllByRecursion P (drop n xs)
all_dropped P zero xs h = h
all_dropped P (suc n) [] h = h
all_dropped P (suc n) (x ∷ xs) h = all_dropped P n xs h.1

-- what is held of a feed was an event of it
module _ (m : Site) (had : m.Path → m.Event → Type 0) where
  -- the events of a state are such
  abbrev pub HasSuch : m.State → Type 0
  HasSuch s = (path : m.Path) → AllByRecursion (λ e. had path e) (m.events s path)

  -- What is held of a feed of which so many events were gone through: the kept ones among them stand last in
  -- what was seen.
  pub record HoldsGiven (s then : m.State) (path : m.Path) (bounds : m.Filter) (given : ℕ) (c : Content m) : Type 0 where
    pub missed : ℕ
    pub seen : List m.Event
    pub content : c ≡ Lists (m.feed path) missed (filter (m.passes bounds) seen)
    pub kept : IsSuffix (take (given - m.gone s path) (m.events s path)) seen
    pub there : given ≤ count m s path
    pub number : length seen + missed + m.gone then path ≡ given
    pub genuine : AllByRecursion (λ e. had path e) seen

  -- What is held agrees with an item: an object that hasn't changed is held as it is.
  abbrev pub HoldsSo : m.State → m.State → m.Path → Tracked m → Content m → Type 0
  HoldsSo s then path (Object true) c = Unit {0}
  HoldsSo s then path (Object false) c = c ≡ Shows (m.shown s path)
  HoldsSo s then path (Feed bounds given) c = HoldsGiven s then path bounds given c

  pub record Agrees (s : m.State) (when : m.Text → m.State) (item : Item m) (r : Reading m) : Type 0 where
    pub text : item.text ≡ r.text
    pub content : HoldsSo s (when item.text) item.path item.tracked r.content

  abbrev pub AllAgree : m.State → (m.Text → m.State) → List (Item m) → List (Reading m) → Type 0
  AllAgree s when [] [] = Unit {0}
  AllAgree s when [] (r ∷ rs) = ⊥
  AllAgree s when (item ∷ items) [] = ⊥
  AllAgree s when (item ∷ items) (r ∷ rs) = Agrees s when item r × AllAgree s when items rs

  same_itself : IsLawful m → (t : m.Text) → m.same_text t t ≡ true
  same_itself law t = (law.same_text t t).1 refl

  differs_back : IsLawful m → (a b : m.Text) → m.same_text a b ≡ false → m.same_text b a ≡ false
  differs_back law a b h = go (m.same_text b a) refl
    where
      go : (x : Bool) → m.same_text b a ≡ x → x ≡ false
      go false e = refl
      go true e = absurd (cc ((law.same_text a b).1 (sym ((law.same_text b a).0 e))))

  -- all events of a feed were gone through
  all_of : (s : m.State) (path : m.Path) → take (count m s path - m.gone s path) (m.events s path) ≡ m.events s path
  all_of s path = ap (λ n. take n (m.events s path)) there ∙ take-length (m.events s path)
    where
      there : count m s path - m.gone s path ≡ length (m.events s path)
      there = omega arith

  -- all is held as it is once everything was reported
  holds_now : (s : m.State) → HasSuch s → (path : m.Path) (t : Tracked m) → HoldsSo s s path (reported_now m s path t) (content_now m s path t)
  holds_now s such path (Object changed) = refl
  holds_now s such path (Feed bounds given) = record {
    missed = 0;
    seen = m.events s path;
    content = refl;
    kept = ([], all_of s path);
    there = omega arith;
    number = omega arith;
    genuine = such path;
  }

  pub agree_now : (s : m.State) → HasSuch s → (when : m.Text → m.State) (items : List (Item m)) → AllByRecursion (λ item. when item.text ≡ s) items → AllAgree s when (map (reported m s) items) (map (reading m s) items)
  agree_now s such when [] h = tt
  agree_now s such when (item ∷ items) h = (
    record { text = refl; content = subst (λ then. HoldsSo s then item.path (reported_now m s item.path item.tracked) (content_now m s item.path item.tracked)) (sym h.0) (holds_now s such item.path item.tracked) },
    agree_now s such when items h.1,
  )

  -- the site goes on
  grown : (s u then : m.State) (path : m.Path) (bounds : m.Filter) (given : ℕ) (c : Content m) → GoesOn m.Event (m.gone s path) (m.gone u path) (m.events s path) (m.events u path) → HoldsGiven s then path bounds given c → HoldsGiven u then path bounds given c
  grown s u then path bounds given c g h = record {
    missed = h.missed;
    seen = h.seen;
    content = h.content;
    kept = (h.kept.0 ++ later.0, append_assoc h.kept.0 later.0 _ ∙ ap (λ es. h.kept.0 ++ es) later.1 ∙ h.kept.1);
    there = omega (arith, h.there, g.rolled.counted, number_left, number_all, g.rolled.were_there);
    number = h.number;
    genuine = h.genuine;
  }
    where
      all : List m.Event
      all = m.events s path ++ g.more

      number_all : length all ≡ length (m.events s path) + length g.more
      number_all = length-append (m.events s path) g.more

      number_left : length (m.events u path) ≡ length all - g.rolled.lost
      number_left = ap length g.rolled.kept ∙ length-drop g.rolled.lost all

      number_lost : length (take g.rolled.lost all) ≡ g.rolled.lost
      number_lost =
          let both = sym (length-append (take g.rolled.lost all) (drop g.rolled.lost all)) ∙ ap length (take-append-drop g.rolled.lost all) in
          let rest = length-drop g.rolled.lost all in
          omega (arith, both, rest, g.rolled.were_there)

      rolled_off : IsSuffix (take (given - m.gone u path) (drop g.rolled.lost all)) (take (given - m.gone s path) (take g.rolled.lost all ++ drop g.rolled.lost all))
      rolled_off = suffix_rolled (take g.rolled.lost all) (drop g.rolled.lost all) (given - m.gone s path) (given - m.gone u path) (omega (arith, number_lost, g.rolled.counted))

      later : IsSuffix (take (given - m.gone u path) (m.events u path)) (take (given - m.gone s path) (m.events s path))
      later = (
        rolled_off.0,
        ap (λ es. rolled_off.0 ++ take (given - m.gone u path) es) g.rolled.kept
            ∙ rolled_off.1
            ∙ ap (take (given - m.gone s path)) (take-append-drop g.rolled.lost all)
            ∙ take-append-le (given - m.gone s path) (m.events s path) g.more (omega (arith, h.there)),
      )

  holds_on : IsLawful m → (s u then : m.State) (path : m.Path) (t : Tracked m) (c : Content m) → GoesOn m.Event (m.gone s path) (m.gone u path) (m.events s path) (m.events u path) → HoldsSo s then path t c → HoldsSo u then path (settled_at m (m.same (m.shown s path) (m.shown u path)) t) c
  holds_on law s u then path (Object true) c g h = tt
  holds_on law s u then path (Object false) c g h = go (m.same (m.shown s path) (m.shown u path)) (law.same _ _)
    where
      go : (b : Bool) → Decides b (m.shown s path ≡ m.shown u path) → HoldsSo u then path (Object (not b)) c
      go true d = h ∙ ap Shows (d.0 refl)
      go false d = tt
  holds_on law s u then path (Feed bounds given) c g h = grown s u then path bounds given c g h

  pub agree_on : IsLawful m → (s u : m.State) (when : m.Text → m.State) → ((path : m.Path) → GoesOn m.Event (m.gone s path) (m.gone u path) (m.events s path) (m.events u path)) → (items : List (Item m)) (held : List (Reading m)) → AllAgree s when items held → AllAgree u when (map (settled m s u) items) held
  agree_on law s u when goes [] [] h = tt
  agree_on law s u when goes [] (r ∷ rs) h = absurd h
  agree_on law s u when goes (item ∷ items) [] h = absurd h
  agree_on law s u when goes (item ∷ items) (r ∷ rs) h = (record { text = h.0.text; content = holds_on law s u (when item.text) item.path item.tracked r.content (goes item.path) h.0.content }, agree_on law s u when goes items rs h.1)

  -- hrefs are taken away
  pub agree_without : (s : m.State) (when : m.Text → m.State) (texts : List m.Text) (items : List (Item m)) (held : List (Reading m)) → AllAgree s when items held → AllAgree s when (filter (λ item. not (among m texts item.text)) items) (filter (λ r. not (among m texts r.text)) held)
  agree_without s when texts [] [] h = tt
  agree_without s when texts [] (r ∷ rs) h = absurd h
  agree_without s when texts (item ∷ items) [] h = absurd h
  agree_without s when texts (item ∷ items) (r ∷ rs) h = go _ _ (ap (λ t. not (among m texts t)) h.0.text) (agree_without s when texts items rs h.1)
    where
      go : (a b : Bool) → a ≡ b → AllAgree s when (filter (λ item. not (among m texts item.text)) items) (filter (λ r. not (among m texts r.text)) rs) → AllAgree s when (cond a (item ∷ filter (λ item. not (among m texts item.text)) items) (filter (λ item. not (among m texts item.text)) items)) (cond b (r ∷ filter (λ r. not (among m texts r.text)) rs) (filter (λ r. not (among m texts r.text)) rs))
      go true true e rest = (h.0, rest)
      go false false e rest = rest
      go true false e rest = absurd (cc)
      go false true e rest = absurd (cc)

  -- where each was given whole, told otherwise for other hrefs alone
  agree_when : (s : m.State) (when then : m.Text → m.State) (items : List (Item m)) (held : List (Reading m)) → AllByRecursion (λ item. then item.text ≡ when item.text) items → AllAgree s when items held → AllAgree s then items held
  agree_when s when then [] [] e h = tt
  agree_when s when then [] (r ∷ rs) e h = absurd h
  agree_when s when then (item ∷ items) [] e h = absurd h
  agree_when s when then (item ∷ items) (r ∷ rs) e h = (record { text = h.0.text; content = subst (λ u. HoldsSo s u item.path item.tracked r.content) (sym e.0) h.0.content }, agree_when s when then items rs e.1 h.1)

  -- for one href it is this state
  abbrev given_at : m.State → m.Text → (m.Text → m.State) → m.Text → m.State
  given_at s given when t = cond (m.same_text t given) s (when t)

  others_when : IsLawful m → (s : m.State) (when : m.Text → m.State) (given t : m.Text) (items : List (Item m)) → t ≡ given → AllByRecursion (λ other. m.same_text t other.text ≡ false) items → AllByRecursion (λ item. given_at s given when item.text ≡ when item.text) items
  others_when law s when given t [] e h = tt
  others_when law s when given t (item ∷ items) e h = (
    ap (λ b. cond b s (when item.text)) (ap (m.same_text item.text) (sym e) ∙ differs_back law t item.text h.0),
    others_when law s when given t items e h.1,
  )

  -- an href is added
  agree_put : IsLawful m → (s : m.State) (when : m.Text → m.State) (new : Item m) (r : Reading m) (items : List (Item m)) (held : List (Reading m)) → Distinct m items → new.text ≡ r.text → HoldsSo s s new.path new.tracked r.content → AllAgree s when items held → AllAgree s (given_at s r.text when) (put_item m new items) (put (λ old. m.same_text old.text r.text) (λ _. r) r held)
  agree_put law s when new r [] [] d text h all = (record { text = text; content = subst (λ b. HoldsSo s (cond b s (when new.text)) new.path new.tracked r.content) (sym ((law.same_text new.text r.text).1 text)) h }, tt)
  agree_put law s when new r [] (x ∷ xs) d text h all = absurd all
  agree_put law s when new r (item ∷ items) [] d text h all = absurd all
  agree_put law s when new r (item ∷ items) (x ∷ xs) d text h all = go _ _ (ap₂ m.same_text all.0.text text) refl (agree_put law s when new r items xs d.1 text h all.1)
    where
      go : (a b : Bool) → a ≡ b → m.same_text item.text new.text ≡ a → AllAgree s (given_at s r.text when) (put_item m new items) (put (λ old. m.same_text old.text r.text) (λ _. r) r xs) → AllAgree s (given_at s r.text when) (cond a (new ∷ items) (item ∷ put_item m new items)) (cond b (r ∷ xs) (x ∷ put (λ old. m.same_text old.text r.text) (λ _. r) r xs))
      go true true e is rest = (
        record { text = text; content = subst (λ b. HoldsSo s (cond b s (when new.text)) new.path new.tracked r.content) (sym ((law.same_text new.text r.text).1 text)) h },
        agree_when s when (given_at s r.text when) items xs (others_when law s when r.text item.text items ((law.same_text item.text new.text).0 is ∙ text) d.0) all.1,
      )
      go false false e is rest = (
        record { text = all.0.text; content = subst (λ u. HoldsSo s u item.path item.tracked x.content) (sym (ap (λ b. cond b s (when item.text)) (ap (m.same_text item.text) (sym text) ∙ is))) all.0.content },
        rest,
      )
      go true false e is rest = absurd (cc)
      go false true e is rest = absurd (cc)

  -- where an entry gave an href whole
  abbrev pub entry_at : m.State → Reading m → (m.Text → m.State) → m.Text → m.State
  entry_at s r when t = cond (is_content r.content && m.same_text t r.text) s (when t)

  agree_unless : IsLawful m → (s : m.State) (when : m.Text → m.State) (items : List (Item m)) (held : List (Reading m)) (text : m.Text) (path : m.Path) (t : Tracked m) → HoldsSo s s path t (content_now m s path t) → Distinct m items → AllAgree s when items held → (refused : Option m.Fault) → let one = added_unless m refused s items (record { text = text; path = path; tracked = t }) in AllAgree s (entry_at s one.1 when) one.0 (take_added m.same_text one.1 one.1.content held)
  agree_unless law s when items held text path t holds d h (Some fault) = h
  agree_unless law s when items held text path (Object changed) holds d h None = agree_put law s when _ _ items held d refl holds h
  agree_unless law s when items held text path (Feed bounds given) holds d h None = agree_put law s when _ _ items held d refl holds h

  agree_add : IsLawful m → (s : m.State) → HasSuch s → (room : Room) (when : m.Text → m.State) (text : m.Text) (found : Found m.Path m.Filter m.Fault) (items : List (Item m)) (held : List (Reading m)) → Distinct m items → AllAgree s when items held → let one = add_found m s room items text found in AllAgree s (entry_at s one.1 when) one.0 (take_added m.same_text one.1 one.1.content held)
  agree_add law s such room when text (NotFound fault) items held d h = h
  agree_add law s such room when text (ObjectAt path) items held d h =
      agree_unless law s when items held text path (Object false) refl d h (refusal m room items text)
  agree_add law s such room when text (FeedAt path bounds) items held d h =
      agree_unless law s when items held text path (Feed bounds (count m s path)) (holds_now s such path (Feed bounds 0)) d h (refusal m room items text)

  either : (s w : m.State) (a b : Bool) → cond b s (cond a s w) ≡ cond (a || b) s w
  either s w true true = refl
  either s w true false = refl
  either s w false b = refl

  -- where entries gave hrefs whole
  abbrev pub entries_at : m.State → List (Reading m) → (m.Text → m.State) → m.Text → m.State
  entries_at s rs when t = cond (has_content m.same_text rs t) s (when t)

  pub agree_added : IsLawful m → (s : m.State) → HasSuch s → (ns : List ℕ) (room : Room) (when : m.Text → m.State) (asked : List (m.Text × m.Input)) (items : List (Item m)) (held : List (Reading m)) → Distinct m items → AllAgree s when items held → AllAgree s (entries_at s (readings_added m s ns room items asked) when) (items_added m s ns room items asked) (added_by m.same_text (readings_added m s ns room items asked) held)
  agree_added law s such ns room when [] items held d h = h
  agree_added law s such ns room when (a ∷ asked) items held d h =
      let found = m.find s ns a.0 a.1 in
      let one = add_found m s room items a.0 found in
      subst (λ at. AllAgree s at (items_added m s ns room one.0 asked) (added_by m.same_text (readings_added m s ns room one.0 asked) (take_added m.same_text one.1 one.1.content held)))
      (λ i t. either s (when t) (is_content one.1.content && m.same_text t one.1.text) (has_content m.same_text (readings_added m s ns room one.0 asked) t) i)
      (agree_added law s such ns room (entry_at s one.1 when) asked one.0 _ (distinct_found m law s room a.0 found items d) (agree_add law s such room when a.0 found items held d h))

  -- a pollRefresh gives each item whole
  more_given : (r : Reading m) (rs : List (Reading m)) (items : List (Item m)) → AllByRecursion (λ item. has_content m.same_text rs item.text ≡ true) items → AllByRecursion (λ item. has_content m.same_text (r ∷ rs) item.text ≡ true) items
  more_given r rs [] h = tt
  more_given r rs (item ∷ items) h = (elim (is_content r.content && m.same_text item.text r.text) as (λ b. (b || has_content m.same_text rs item.text) ≡ true) [ true ↦ refl | false ↦ h.0 ], more_given r rs items h.1)

  is_given : (s : m.State) (path : m.Path) (t : Tracked m) → is_content (content_now m s path t) ≡ true
  is_given s path (Object changed) = refl
  is_given s path (Feed bounds given) = refl

  all_given : IsLawful m → (s : m.State) (items : List (Item m)) → AllByRecursion (λ item. has_content m.same_text (map (reading m s) items) item.text ≡ true) items
  all_given law s [] = tt
  all_given law s (item ∷ items) = (
    ap₂ (λ a b. (a && b) || has_content m.same_text (map (reading m s) items) item.text) (is_given s item.path item.tracked) (same_itself law item.text),
    more_given (reading m s item) (map (reading m s) items) items (all_given law s items),
  )

  given_now : (s : m.State) (when : m.Text → m.State) (rs : List (Reading m)) (items : List (Item m)) → AllByRecursion (λ item. has_content m.same_text rs item.text ≡ true) items → AllByRecursion (λ item. entries_at s rs when item.text ≡ s) items
  given_now s when rs [] h = tt
  given_now s when rs (item ∷ items) h = (ap (λ b. cond b s (when item.text)) h.0, given_now s when rs items h.1)

  pub agree_refreshed : IsLawful m → (s : m.State) → HasSuch s → (when : m.Text → m.State) (items : List (Item m)) → AllAgree s (entries_at s (map (reading m s) items) when) (map (reported m s) items) (map (reading m s) items)
  agree_refreshed law s such when items = agree_now s such _ items (given_now s when (map (reading m s) items) items (all_given law s items))

  -- changes are replayed
  change_past : (r : Reading m) (c : Content m) (x : Reading m) (xs : List (Reading m)) → m.same_text x.text r.text ≡ false → change m.same_text r c (x ∷ xs) ≡ x ∷ change m.same_text r c xs
  change_past r (Shows o) x xs e = rw e refl
  change_past r (Lists f k es) x xs e = rw e refl
  change_past r (Refuses f) x xs e = refl

  changed_past : (rs : List (Reading m)) (x : Reading m) (xs : List (Reading m)) → AllByRecursion (λ r. m.same_text x.text r.text ≡ false) rs → changed_by m.same_text rs (x ∷ xs) ≡ x ∷ changed_by m.same_text rs xs
  changed_past [] x xs h = refl
  changed_past (r ∷ rs) x xs h = ap (changed_by m.same_text rs) (change_past r r.content x xs h.0) ∙ changed_past rs x (change m.same_text r r.content xs) h.1

  changed_by-append : (rs qs xs : List (Reading m)) → changed_by m.same_text (rs ++ qs) xs ≡ changed_by m.same_text qs (changed_by m.same_text rs xs)
  changed_by-append [] qs xs = refl
  changed_by-append (r ∷ rs) qs xs = changed_by-append rs qs (change m.same_text r r.content xs)

  absent_of : (s : m.State) (t : m.Text) (text : m.Text) (path : m.Path) (tracked : Tracked m) → m.same_text t text ≡ false → AllByRecursion (λ r. m.same_text t r.text ≡ false) (changes_of m s text path tracked)
  absent_of s t text path (Object true) h = (h, tt)
  absent_of s t text path (Object false) h = tt
  absent_of s t text path (Feed bounds given) h = go (m.gone s path - given) (filter (m.passes bounds) (since m s path given))
    where
      go : (dropped : ℕ) (es : List m.Event) → AllByRecursion (λ r. m.same_text t r.text ≡ false) (lists_some m text path dropped es)
      go zero [] = tt
      go zero (e ∷ es) = (h, tt)
      go (suc k) es = (h, tt)

  absent : (s : m.State) (t : m.Text) (items : List (Item m)) → AllByRecursion (λ item. m.same_text t item.text ≡ false) items → AllByRecursion (λ r. m.same_text t r.text ≡ false) (changes m s items)
  absent s t [] h = tt
  absent s t (item ∷ items) h = all_both (λ r. m.same_text t r.text ≡ false) _ _ (absent_of s t item.text item.path item.tracked h.0) (absent s t items h.1)

  shows_next : (c : Content m) (o : m.Object) → continued c (Shows o) ≡ Shows o
  shows_next (Shows a) o = refl
  shows_next (Lists f k a) o = refl
  shows_next (Refuses a) o = refl

  -- what dropped out is counted, and the passing events since are appended
  polled : (s then : m.State) → HasSuch s → (path : m.Path) (bounds : m.Filter) (given : ℕ) (c : Content m) → (h : HoldsGiven s then path bounds given c) → HoldsGiven s then path bounds (count m s path) (Lists (m.feed path) (h.missed + (m.gone s path - given)) (filter (m.passes bounds) h.seen ++ filter (m.passes bounds) (since m s path given)))
  polled s then such path bounds given c h = record {
    missed = h.missed + (m.gone s path - given);
    seen = h.seen ++ back;
    content = ap (Lists (m.feed path) (h.missed + (m.gone s path - given))) (sym (filter-append (m.passes bounds) h.seen back));
    kept = (h.kept.0, ap (λ es. h.kept.0 ++ es) (all_of s path ∙ sym (take-append-drop (given - m.gone s path) (m.events s path))) ∙ sym (append_assoc h.kept.0 front back) ∙ ap (λ es. es ++ back) h.kept.1);
    there = omega arith;
    number =
        (let both = length-append h.seen back in
        let rest = length-drop (given - m.gone s path) (m.events s path) in
        omega (arith, h.number, both, rest, h.there));
    genuine = all_both (λ e. had path e) h.seen back h.genuine (all_dropped (λ e. had path e) (given - m.gone s path) (m.events s path) (such path));
  }
    where
      front : List m.Event
      front = take (given - m.gone s path) (m.events s path)

      back : List m.Event
      back = drop (given - m.gone s path) (m.events s path)

  -- what a poll makes of the first reading that is held
  record Polled (s then : m.State) (path : m.Path) (t : Tracked m) (x : Reading m) (xs : List (Reading m)) : Type 0 where
    content : Content m
    is : changed_by m.same_text (changes_of m s x.text path t) (x ∷ xs) ≡ record { text = x.text; content = content } ∷ xs
    holds : HoldsSo s then path (reported_now m s path t) content

  poll_first : IsLawful m → (s then : m.State) → HasSuch s → (path : m.Path) (t : Tracked m) (x : Reading m) (xs : List (Reading m)) → HoldsSo s then path t x.content → Polled s then path t x xs
  poll_first law s then such path (Object false) x xs h = record { content = x.content; is = refl; holds = h }
  poll_first law s then such path (Object true) x xs h = record {
    content = Shows (m.shown s path);
    is = rw (same_itself law x.text) (ap (λ c. record { text = x.text; content = c } ∷ xs) (shows_next x.content (m.shown s path)));
    holds = refl;
  }
  poll_first law s then such path (Feed bounds given) x xs h = record {
    content = Lists (m.feed path) (h.missed + (m.gone s path - given)) (filter (m.passes bounds) h.seen ++ filter (m.passes bounds) (since m s path given));
    is = go (m.gone s path - given) (filter (m.passes bounds) (since m s path given));
    holds = polled s then such path bounds given x.content h;
  }
    where
      next : (dropped : ℕ) (es : List m.Event) → change m.same_text (record { text = x.text; content = Lists (m.feed path) dropped es }) (Lists (m.feed path) dropped es) (x ∷ xs) ≡ record { text = x.text; content = Lists (m.feed path) (h.missed + dropped) (filter (m.passes bounds) h.seen ++ es) } ∷ xs
      next dropped es = rw (same_itself law x.text) (ap (λ c. record { text = x.text; content = c } ∷ xs) (ap (λ c. continued c (Lists (m.feed path) dropped es)) h.content))

      go : (dropped : ℕ) (es : List m.Event) → changed_by m.same_text (lists_some m x.text path dropped es) (x ∷ xs) ≡ record { text = x.text; content = Lists (m.feed path) (h.missed + dropped) (filter (m.passes bounds) h.seen ++ es) } ∷ xs
      go zero [] = ap (λ c. record { text = x.text; content = c } ∷ xs) (h.content ∙ ap₂ (λ k es. Lists (m.feed path) k es) (sym (add-zero h.missed)) (sym (append-nil (filter (m.passes bounds) h.seen))))
      go zero (e ∷ es) = next 0 (e ∷ es)
      go (suc k) es = next (suc k) es

  pub agree_polled : IsLawful m → (s : m.State) → HasSuch s → (when : m.Text → m.State) (items : List (Item m)) (held : List (Reading m)) → Distinct m items → AllAgree s when items held → AllAgree s when (map (reported m s) items) (changed_by m.same_text (changes m s items) held)
  agree_polled law s such when [] [] d h = tt
  agree_polled law s such when [] (x ∷ xs) d h = absurd h
  agree_polled law s such when (item ∷ items) [] d h = absurd h
  agree_polled law s such when (item ∷ items) (x ∷ xs) d h =
      subst (AllAgree s when (map (reported m s) (item ∷ items))) (sym replayed)
      (record { text = h.0.text; content = one.holds }, agree_polled law s such when items xs d.1 h.1)
    where
      one : Polled s (when item.text) item.path item.tracked x xs
      one = poll_first law s (when item.text) such item.path item.tracked x xs h.0.content

      now_held : Reading m
      now_held = record { text = x.text; content = one.content }

      replayed : changed_by m.same_text (changes m s (item ∷ items)) (x ∷ xs) ≡ now_held ∷ changed_by m.same_text (changes m s items) xs
      replayed =
          changed_by-append (changes_of m s item.text item.path item.tracked) (changes m s items) (x ∷ xs)
          ∙ ap (changed_by m.same_text (changes m s items)) (ap (λ t. changed_by m.same_text (changes_of m s t item.path item.tracked) (x ∷ xs)) h.0.text ∙ one.is)
          ∙ changed_past (changes m s items) now_held xs (subst (λ t. AllByRecursion (λ r. m.same_text t r.text ≡ false) (changes m s items)) h.0.text (absent s item.text items d.0))
