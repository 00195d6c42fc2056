-- What is known of all items of a watch after a call, and what it says of them.
use Rattle.std.proofs.Common.{◌≡◌, ℕ, zero, suc, ◌+◌, ◌-◌, ◌^◌, ◌<◌, ◌≤◌, min, Bool, true, false, cond, ◌||◌, List, [], ◌∷◌, map, length, take, get_or, refl, sym, ap, ap₂, subst, ◌∙◌, arith, add-one}
use Rattle.std.specs.Prelude.{Option, Some, None, IfSome, is_none, nat_lt}
use Rattle.std.specs.List.{AllByRecursion, filter, list_any}
use Rattle.std.specs.Str.{bytes_eq}
use Rattle.std.proofs.lemmas.Bool.Decides.{nat_tests}
use Rattle.std.proofs.lemmas.Slice.Eq.{bytes_eq-Decides}
use Rattle.ob_history.specs.declared.records.Filter.{Filter}
use Rattle.ob_tree.specs.Trees.{Stamped}
use Rattle.ob_tree.specs.declared.node.NodeId.{NodeId}
use Rattle.ob_watch.specs.declared.item.Tracked.{Tracked}
use Rattle.ob_watch.specs.declared.item.Tracked.TheVariants.{Object, Feed}
use Rattle.ob_watch.specs.declared.item.Item.{Item}
use Rattle.ob_watch.specs.Feeds.{FeedLog}
use Rattle.ob_watch.specs.Items.{anew_by, bytes_of, changed_by, found_item, is_due, is_due_by, put_item, put_over, reported_by, stamp_of}
use Rattle.ob_watch.specs.Marked.{AllMarked, AreMarked, AreOnObjects, GivesMark, IsMarkedBy, IsReached, KeepsKinds, is_feed}
use Rattle.ob_watch.specs.Marks.{AreStampsPast}

pub report_gives : (steps : ℕ) (feeds : List FeedLog) → GivesMark steps (reported_by steps feeds)
report_gives steps feeds node mark = refl

pub report_keeps : (steps : ℕ) (feeds : List FeedLog) → KeepsKinds (reported_by steps feeds)
report_keeps steps feeds (Object node mark) = refl
report_keeps steps feeds (Feed feed filter given) = refl

pub anew_keeps : (t : Stamped) → KeepsKinds (anew_by t)
anew_keeps t (Object node mark) = refl
anew_keeps t (Feed feed filter given) = refl

-- ---- what holds of each item, of those put, dropped and kept

module _ (P : Item → Type 0) where
  abbrev Each : List Item → Type 0
  Each items = AllByRecursion P items

  pub all_put : (x : Item) (items : List Item) → P x → Each items → Each (put_item x items)
  all_put x [] is all = (is, tt)
  all_put x (y ∷ ys) is all = go (bytes_eq y.text x.text) (all_put x ys is all.1)
    where
      go : (b : Bool) → Each (put_item x ys) → Each (cond b (x ∷ ys) (y ∷ put_item x ys))
      go true rest = (is, all.1)
      go false rest = (all.0, rest)

  pub all_over : (x : Item) (items : List Item) → P x → Each items → Each (put_over x items)
  all_over x [] is all = tt
  all_over x (y ∷ ys) is all = go (bytes_eq y.text x.text) (all_over x ys is all.1)
    where
      go : (b : Bool) → Each (put_over x ys) → Each (cond b (x ∷ ys) (y ∷ put_over x ys))
      go true rest = (is, all.1)
      go false rest = (all.0, rest)

  pub all_first : (count : ℕ) (items : List Item) → Each items → Each (take count items)
  all_first zero items all = tt
  all_first (suc n) [] all = tt
  all_first (suc n) (i ∷ items) all = (all.0, all_first n items all.1)

  pub all_passing : (p : Item → Bool) (items : List Item) → Each items → Each (filter p items)
  all_passing p [] all = tt
  all_passing p (i ∷ items) all = go (p i) (all_passing p items all.1)
    where
      go : (b : Bool) → Each (filter p items) → Each (cond b (i ∷ filter p items) (filter p items))
      go true rest = (all.0, rest)
      go false rest = rest

-- ---- the mark of items on objects

feed_marked : (m : ℕ) (k : Tracked) → is_feed k ≡ true → IsMarkedBy m k
feed_marked m (Object node mark) feed = absurd (let e : false ≡ true = feed in cc)
feed_marked m (Feed feed filter given) is = tt

pub object_has : (m : ℕ) (kept : Tracked) (node : NodeId) (mark : ℕ) → kept ≡ Object node mark → mark ≡ m → IsMarkedBy m kept
object_has m kept node mark is has = subst (λ (k : Tracked). IsMarkedBy m k) (sym is) has

pub feed_has : (m : ℕ) (kept : Tracked) (feed : ℕ) (filter : Filter) (given : ℕ) → kept ≡ Feed feed filter given → IsMarkedBy m kept
feed_has m kept feed filter given is = feed_marked m kept (ap is_feed is)

-- an item that has the mark, or is on a feed, put
pub put_marked : (known : Option ℕ) (m : ℕ) (x : Item) (before : List Item) → known ≡ Some m → IsMarkedBy m x.tracked → AreMarked known before → AllMarked m (put_item x before)
put_marked known m x before is has are = all_put (λ i. IsMarkedBy m i.tracked) x before has (subst (λ (o : Option ℕ). AreMarked o before) is are)

pub over_marked : (known : Option ℕ) (m : ℕ) (x : Item) (before : List Item) → known ≡ Some m → IsMarkedBy m x.tracked → AreMarked known before → AllMarked m (put_over x before)
over_marked known m x before is has are = all_over (λ i. IsMarkedBy m i.tracked) x before has (subst (λ (o : Option ℕ). AreMarked o before) is are)

pub first_marked : (known : Option ℕ) (count : ℕ) (before after : List Item) → after ≡ take count before → AreMarked known before → AreMarked known after
first_marked None count before after is are = tt
first_marked (Some m) count before after is are = subst (λ (items : List Item). AllMarked m items) (sym is) (all_first (λ i. IsMarkedBy m i.tracked) count before are)

pub passing_marked : (known : Option ℕ) (p : Item → Bool) (before after : List Item) → after ≡ filter p before → AreMarked known before → AreMarked known after
passing_marked None p before after is are = tt
passing_marked (Some m) p before after is are = subst (λ (items : List Item). AllMarked m items) (sym is) (all_passing (λ i. IsMarkedBy m i.tracked) p before are)

pub marked_same : (known : Option ℕ) (items others : List Item) → others ≡ items → AreMarked known items → AreMarked known others
marked_same known items others is are = subst (λ (os : List Item). AreMarked known os) (sym is) are

-- ---- whether some are on feeds

abbrev OnObject : Item → Type 0
OnObject i = is_feed i.tracked ≡ false

no_feed : (a b : Bool) → (a || b) ≡ false → (a ≡ false) × (b ≡ false)
no_feed true b none = absurd (let e : true ≡ false = none in cc)
no_feed false b none = (refl, none)

pub put_objects : (known feed may : Bool) (x : Item) (before after : List Item) → after ≡ put_item x before → feed ≡ is_feed x.tracked → may ≡ (known || feed) → AreOnObjects known before → AreOnObjects may after
put_objects known feed may x before after is kind either are = λ none.
    let both = no_feed known feed (sym either ∙ none) in
    subst (λ (items : List Item). AllByRecursion OnObject items) (sym is) (all_put OnObject x before (sym kind ∙ both.1) (are both.0))

pub over_objects : (known feed may : Bool) (x : Item) (before after : List Item) → after ≡ put_over x before → feed ≡ is_feed x.tracked → may ≡ (known || feed) → AreOnObjects known before → AreOnObjects may after
over_objects known feed may x before after is kind either are = λ none.
    let both = no_feed known feed (sym either ∙ none) in
    subst (λ (items : List Item). AllByRecursion OnObject items) (sym is) (all_over OnObject x before (sym kind ∙ both.1) (are both.0))

pub first_objects : (known : Bool) (count : ℕ) (before after : List Item) → after ≡ take count before → AreOnObjects known before → AreOnObjects known after
first_objects known count before after is are = λ none. subst (λ (items : List Item). AllByRecursion OnObject items) (sym is) (all_first OnObject count before (are none))

pub passing_objects : (known : Bool) (p : Item → Bool) (before after : List Item) → after ≡ filter p before → AreOnObjects known before → AreOnObjects known after
passing_objects known p before after is are = λ none. subst (λ (items : List Item). AllByRecursion OnObject items) (sym is) (all_passing OnObject p before (are none))

-- ---- items changed

module _ (f : Tracked → Tracked) (keeps : KeepsKinds f) where
  pub changed_objects : (known : Bool) (before after : List Item) → after ≡ map (changed_by f) before → AreOnObjects known before → AreOnObjects known after
  changed_objects known before after is are = λ none. subst (λ (items : List Item). AllByRecursion OnObject items) (sym is) (go before (are none))
    where
      go : (items : List Item) → AllByRecursion OnObject items → AllByRecursion OnObject (map (changed_by f) items)
      go [] all = tt
      go (i ∷ items) all = (keeps i.tracked ∙ all.0, go items all.1)

  -- what gives each object a mark
  pub given_marks : (known : Option ℕ) → IfSome known (λ m. GivesMark m f) → (before after : List Item) → after ≡ map (changed_by f) before → AreMarked known after
  given_marks None gives before after is = tt
  given_marks (Some m) gives before after is = subst (λ (items : List Item). AllMarked m items) (sym is) (all before)
    where
      one : (k : Tracked) → IsMarkedBy m (f k)
      one (Object node mark) = subst (λ (k : Tracked). IsMarkedBy m k) (sym (gives node mark)) refl
      one (Feed feed filter given) = feed_marked m (f (Feed feed filter given)) (keeps (Feed feed filter given))

      all : (os : List Item) → AllMarked m (map (changed_by f) os)
      all [] = tt
      all (i ∷ os) = (one i.tracked, all os)

-- what gives an object the mark that it has leaves it as it is
pub given_again : (f : Tracked → Tracked) (known again : Option ℕ) (m n : ℕ) → known ≡ Some m → again ≡ Some n → m ≡ n → IfSome again (λ j. GivesMark j f)
    → (kept : Tracked) → is_feed kept ≡ false → IfSome known (λ j. IsMarkedBy j kept) → f kept ≡ kept
given_again f known again m n has is same gives kept object marked = one kept object (subst (λ (o : Option ℕ). IfSome o (λ j. IsMarkedBy j kept)) has marked)
  where
    gives_it : GivesMark m f
    gives_it = subst (λ j. GivesMark j f) (sym same) (subst (λ (o : Option ℕ). IfSome o (λ j. GivesMark j f)) is gives)

    one : (k : Tracked) → is_feed k ≡ false → IsMarkedBy m k → f k ≡ k
    one (Object node mark) object is = gives_it node mark ∙ ap (λ j. Object node j) (sym is)
    one (Feed feed filter given) object is = absurd (let e : true ≡ false = object in cc)

-- where it leaves each item on an object, and no item is on a feed, all stay as they are
pub all_stay : (f : Tracked → Tracked) (known : Option ℕ) → ((kept : Tracked) → is_feed kept ≡ false → IfSome known (λ m. IsMarkedBy m kept) → f kept ≡ kept)
    → (items : List Item) → AllByRecursion OnObject items → AreMarked known items → map (changed_by f) items ≡ items
all_stay f known stays [] objects are = refl
all_stay f known stays (i ∷ items) objects are =
    ap₂ (λ (k : Tracked) (is : List Item). (let j : Item = record { text = i.text; path = i.path; tracked = k } in j) ∷ is)
    (stays i.tracked objects.0 (first known are)) (all_stay f known stays items objects.1 (rest known are))
  where
    first : (o : Option ℕ) → AreMarked o (i ∷ items) → IfSome o (λ m. IsMarkedBy m i.tracked)
    first None all = tt
    first (Some m) all = all.0

    rest : (o : Option ℕ) → AreMarked o (i ∷ items) → AreMarked o items
    rest None all = tt
    rest (Some m) all = all.1

-- ---- what is to be reported

-- where no item is on a feed, and those on objects are reported after the last step, nothing is to be reported
pub none_due : (t : Stamped) (feeds : List FeedLog) (known : Option ℕ) (may : Bool) (items : List Item) → AreStampsPast t → IsReached t.steps known → may ≡ false → AreMarked known items → AreOnObjects may items
    → list_any (is_due t feeds) items ≡ false
none_due t feeds None may items past reached none are objects = absurd reached
none_due t feeds (Some m) may items past reached none are objects = go items are (objects none)
  where
    one : (k : Tracked) → IsMarkedBy m k → is_feed k ≡ false → is_due_by t feeds k ≡ false
    one (Object node mark) has object =
        let below : stamp_of t node.number ≤ t.steps = past node.number in
        let same : mark ≡ m = has in
        grind (arith, nat_tests)
    one (Feed feed filter given) has object = absurd (let e : true ≡ false = object in cc)

    go : (os : List Item) → AllMarked m os → AllByRecursion OnObject os → list_any (is_due t feeds) os ≡ false
    go [] all each = refl
    go (i ∷ os) all each = ap (λ b. b || list_any (is_due t feeds) os) (one i.tracked all.0 each.0) ∙ go os all.1 each.1

-- ---- the bytes of the hrefs

same_text : (a b : List ℕ) → bytes_eq a b ≡ true → a ≡ b
same_text a b is = (bytes_eq-Decides a b).0 is

-- an item in the place of the one of its href
bytes_put : (x : Item) (items : List Item) → bytes_of (put_item x items) ≡ cond (is_none (found_item x.text items)) (bytes_of items + length x.text) (bytes_of items)
bytes_put x [] = omega arith
bytes_put x (y ∷ ys) = go (bytes_eq y.text x.text) refl (bytes_put x ys)
  where
    go : (b : Bool) → bytes_eq y.text x.text ≡ b → bytes_of (put_item x ys) ≡ cond (is_none (found_item x.text ys)) (bytes_of ys + length x.text) (bytes_of ys)
        → bytes_of (cond b (x ∷ ys) (y ∷ put_item x ys)) ≡ cond (is_none (cond b (Some y) (found_item x.text ys))) (length y.text + bytes_of ys + length x.text) (length y.text + bytes_of ys)
    go true is rest = ap (λ (t : List ℕ). length t + bytes_of ys) (sym (same_text y.text x.text is))
    go false is rest = ap (λ n. length y.text + n) rest ∙ either (is_none (found_item x.text ys))
      where
        either : (b : Bool) → length y.text + cond b (bytes_of ys + length x.text) (bytes_of ys) ≡ cond b (length y.text + bytes_of ys + length x.text) (length y.text + bytes_of ys)
        either true = omega arith
        either false = refl

pub bytes_over : (x : Item) (items : List Item) → bytes_of (put_over x items) ≡ bytes_of items
bytes_over x [] = refl
bytes_over x (y ∷ ys) = go (bytes_eq y.text x.text) refl (bytes_over x ys)
  where
    go : (b : Bool) → bytes_eq y.text x.text ≡ b → bytes_of (put_over x ys) ≡ bytes_of ys → bytes_of (cond b (x ∷ ys) (y ∷ put_over x ys)) ≡ length y.text + bytes_of ys
    go true is rest = ap (λ (t : List ℕ). length t + bytes_of ys) (sym (same_text y.text x.text is))
    go false is rest = ap (λ n. length y.text + n) rest

pub bytes_changed : (f : Tracked → Tracked) (items : List Item) → bytes_of (map (changed_by f) items) ≡ bytes_of items
bytes_changed f [] = refl
bytes_changed f (i ∷ items) = ap (λ n. length i.text + n) (bytes_changed f items)

-- the first so many and the next
pub bytes_next : (items : List Item) (k : ℕ) (x : Item) → k < length items → x ≡ get_or items k x → bytes_of (take (k + 1) items) ≡ bytes_of (take k items) + length x.text
bytes_next [] k x lt at = absurd (omega arith)
bytes_next (y ∷ ys) zero x lt at = ap (λ (i : Item). length i.text + 0) (sym at) ∙ (let e : length x.text + 0 ≡ 0 + length x.text = omega arith in e)
bytes_next (y ∷ ys) (suc k) x lt at =
    let next : suc k + 1 ≡ suc (k + 1) = omega arith in
    ap (λ n. bytes_of (take n (y ∷ ys))) next
    ∙ ap (λ n. length y.text + n) (bytes_next ys k x (omega arith) at)
    ∙ (let e : length y.text + (bytes_of (take k ys) + length x.text) ≡ length y.text + bytes_of (take k ys) + length x.text = omega arith in e)

pub count_next : (items : List Item) (k : ℕ) (x : Item) (text : List ℕ) (known more : ℕ) → k < length items → x ≡ get_or items k x → text ≡ x.text → known ≡ min (bytes_of (take k items)) (2 ^ 64 - 1)
    → more ≡ min (known + length text) (2 ^ 64 - 1) → more ≡ min (bytes_of (take (k + 1) items)) (2 ^ 64 - 1)
count_next items k x text known more lt at is counted next =
    let size : length text ≡ length x.text = ap length is in
    let grown : bytes_of (take (k + 1) items) ≡ bytes_of (take k items) + length x.text = bytes_next items k x lt at in
    omega (arith, size, grown, counted, next)

-- the bytes after an item is put, counted to the most
module _ (items after : List Item) (x : Item) (old : Option Item) (known : ℕ) where
  pub bytes_added : (more : ℕ) (text : List ℕ) → after ≡ put_item x items → old ≡ found_item x.text items → is_none old ≡ true → text ≡ x.text → known ≡ min (bytes_of items) (2 ^ 64 - 1)
      → more ≡ min (known + length text) (2 ^ 64 - 1) → more ≡ min (bytes_of after) (2 ^ 64 - 1)
  bytes_added more text is found new same counted next =
      let size : length text ≡ length x.text = ap length same in
      let grown : bytes_of after ≡ bytes_of items + length x.text =
      ap bytes_of is ∙ bytes_put x items ∙ ap (λ b. cond b (bytes_of items + length x.text) (bytes_of items)) (ap is_none (sym found) ∙ new) in
      omega (arith, size, grown, counted, next)

  pub bytes_put_anew : after ≡ put_item x items → old ≡ found_item x.text items → is_none old ≡ false → known ≡ min (bytes_of items) (2 ^ 64 - 1) → known ≡ min (bytes_of after) (2 ^ 64 - 1)
  bytes_put_anew is found there counted =
      counted
      ∙ sym (ap (λ n. min n (2 ^ 64 - 1)) (ap bytes_of is ∙ bytes_put x items ∙ ap (λ b. cond b (bytes_of items + length x.text) (bytes_of items)) (ap is_none (sym found) ∙ there)))
