-- The events of feeds, told in parts.
use Rattle.std.proofs.Common.{◌≡◌, ◌≤◌, ◌<◌, ℕ, zero, suc, ◌+◌, ◌-◌, Bool, true, false, not, ◌&&◌, cond, List, [], ◌∷◌, ◌++◌, map, length, drop, take, get_or, Option, Some, None, refl, sym, ap, ap₂, ◌∙◌, arith}
use Rattle.std.specs.Prelude.{option_to_list}
use Rattle.std.specs.List.{filter}
use Rattle.std.proofs.lemmas.List.{map-append, take_more, take_all}
use Rattle.ob_object.specs.declared.kind.Kind.TheVariants as kind
use Rattle.ob_object.specs.declared.head.Slot.TheVariants.{Null}
use Rattle.ob_object.specs.Object.{Object}
use Rattle.ob_alarms.specs.Changes.{State as Board}
use Rattle.ob_history.specs.declared.records.Record.{Record}
use Rattle.ob_history.specs.declared.records.Filter.{Filter}
use Rattle.ob_history.specs.Records.{is_before, is_after, passes as passes_record}
use Rattle.ob_watching.specs.Operations.{Lists}
use Rattle.ob_watching.specs.Watches.{Feed, changes_of, lists_some}
use Rattle.ob_site_rules.specs.Build.{Text, Path}
use Rattle.ob_site_rules.specs.declared.plan.Plan.{Plan}
use Rattle.ob_site_rules.specs.State.{State, at}
use Rattle.ob_site_rules.specs.Locating.{locate}
use Rattle.ob_site_rules.specs.Entries.{record_object, event_object, first_events, is_within}
use Rattle.ob_site_rules.specs.declared.resource.Resource.{Resource}
use Rattle.ob_site_rules.specs.Places.{event_places}
use Rattle.ob_site_rules.specs.Replies.{content_object}
use Rattle.ob_site_rules.specs.Sites.{site}
use Rattle.ob_site_rules.specs.Watched.{passes, events_at, gone_at, feed_there}
use Rattle.ob_site_reads.specs.Events.{feed_of_some}

-- a record passes by its time
pub record_passes : (f : Filter) (r : Record) → passes f (record_object r) ≡ is_within f r.time
record_passes f r = refl

abbrev pub some_records : Filter → List Record → List Object
some_records f rs = filter (passes f) (map record_object rs)

filter-append : (p : Object → Bool) (xs ys : List Object) → filter p (xs ++ ys) ≡ filter p xs ++ filter p ys
filter-append p [] ys = refl
filter-append p (x ∷ xs) ys = go (p x) (filter-append p xs ys)
  where
    go : (b : Bool) → filter p (xs ++ ys) ≡ filter p xs ++ filter p ys
        → cond b (x ∷ filter p (xs ++ ys)) (filter p (xs ++ ys)) ≡ cond b (x ∷ filter p xs) (filter p xs) ++ filter p ys
    go true later = ap (λ (l : List Object). x ∷ l) later
    go false later = later

pub both_some : (f : Filter) (front back : List Record) → some_records f (front ++ back) ≡ some_records f front ++ some_records f back
both_some f front back = ap (filter (passes f)) (map-append record_object front back) ∙ filter-append (passes f) (map record_object front) (map record_object back)

-- one more record
more : (f : Filter) (rs : List Record) (i : ℕ) (r : Record) → i < length rs → r ≡ get_or rs i r → some_records f (take (i + 1) rs) ≡ some_records f (take i rs) ++ some_records f (r ∷ [])
more f rs i r lt is = ap (some_records f) (take_more rs i r lt ∙ ap (λ y. take i rs ++ y ∷ []) (sym is)) ∙ both_some f (take i rs) (r ∷ [])

one : (f : Filter) (r : Record) (b : Bool) → is_within f r.time ≡ b → some_records f (r ∷ []) ≡ cond b (record_object r ∷ []) []
one f r b e = ap (λ (c : Bool). cond c (record_object r ∷ []) []) (record_passes f r ∙ e)

drop_map : (n : ℕ) (rs : List Record) → drop n (map record_object rs) ≡ map record_object (drop n rs)
drop_map zero rs = refl
drop_map (suc n) [] = refl
drop_map (suc n) (r ∷ rs) = drop_map n rs

-- the object of a record passes where the record does
object_passes : (f : Filter) (r : Record) → passes f (record_object r) ≡ passes_record f r
object_passes f r =
    let s : Record = record { time = r.time; kind = kind.Abstime; slot = Null } in
    let early : is_before f.start s ≡ is_before f.start r = elim f.start as (λ o. is_before o s ≡ is_before o r) [ None ↦ refl | Some t ↦ refl ] in
    let late : is_after f.end s ≡ is_after f.end r = elim f.end as (λ o. is_after o s ≡ is_after o r) [ None ↦ refl | Some t ↦ refl ] in
    ap (λ b. not b && not (is_after f.end s)) early ∙ ap (λ b. not (is_before f.start r) && not b) late

mapped : (f : Filter) (rs : List Record) → some_records f rs ≡ map record_object (filter (passes_record f) rs)
mapped f [] = refl
mapped f (r ∷ rs) =
    ap₂ (λ (b : Bool) (os : List Object). cond b (record_object r ∷ os) os) (object_passes f r) (mapped f rs) ∙ go (passes_record f r)
  where
    go : (b : Bool) → cond b (record_object r ∷ map record_object (filter (passes_record f) rs)) (map record_object (filter (passes_record f) rs)) ≡ map record_object (cond b (r ∷ filter (passes_record f) rs) (filter (passes_record f) rs))
    go true = refl
    go false = refl

pub in_two : (f : Filter) (n : ℕ) (kept front back : List Record) → filter (passes_record f) (front ++ back) ≡ filter (passes_record f) (drop n kept)
    → some_records f front ++ some_records f back ≡ filter (passes f) (drop n (map record_object kept))
in_two f n kept front back e =
    sym (both_some f front back) ∙ mapped f (front ++ back) ∙ ap (map record_object) e ∙ sym (mapped f (drop n kept)) ∙ ap (filter (passes f)) (sym (drop_map n kept))

-- what a filter asks for without a limit passes, and all that passes is among it
again : (p : Record → Bool) (rs : List Record) → filter p (filter p rs) ≡ filter p rs
again p [] = refl
again p (r ∷ rs) = go (p r) refl (again p rs)
  where
    go : (b : Bool) → p r ≡ b → filter p (filter p rs) ≡ filter p rs → filter p (cond b (r ∷ filter p rs) (filter p rs)) ≡ cond b (r ∷ filter p rs) (filter p rs)
    go true e rest = ap (λ c. cond c (r ∷ filter p (filter p rs)) (filter p (filter p rs))) e ∙ ap (λ (l : List Record). r ∷ l) rest
    go false e rest = rest

fewer : (p : Record → Bool) (rs : List Record) → length (filter p rs) ≤ length rs
fewer p [] = omega arith
fewer p (r ∷ rs) = go (p r) (fewer p rs)
  where
    go : (b : Bool) → length (filter p rs) ≤ length rs → length (cond b (r ∷ filter p rs) (filter p rs)) ≤ suc (length rs)
    go true rest = omega (arith, rest)
    go false rest = omega (arith, rest)

pub all_asked : (f : Filter) (limit given gone : ℕ) (kept given_out : List Record) → length kept ≤ limit → given ≤ gone → given_out ≡ take limit (filter (passes_record f) kept)
    → filter (passes_record f) given_out ≡ filter (passes_record f) (drop (given - gone) kept)
all_asked f limit given gone kept given_out le none is =
    let zero_is : given - gone ≡ 0 = omega arith in
    ap (filter (passes_record f)) (is ∙ take_all limit (filter (passes_record f) kept) (omega (arith, fewer (passes_record f) kept)))
    ∙ again (passes_record f) kept
    ∙ ap (λ (n : ℕ). filter (passes_record f) (drop n kept)) (sym zero_is)

-- the alarm events
pub length-first_events : (b : Board) (n : ℕ) → length (first_events b n) ≡ n
length-first_events b zero = refl
length-first_events b (suc n) = length_push (first_events b n) (event_object b n) ∙ ap suc (length-first_events b n)
  where
    length_push : (xs : List Object) (x : Object) → length (xs ++ x ∷ []) ≡ suc (length xs)
    length_push [] x = refl
    length_push (y ∷ xs) x = ap suc (length_push xs x)

drop_push : (n : ℕ) (xs : List Object) (x : Object) → n ≤ length xs → drop n (xs ++ x ∷ []) ≡ drop n xs ++ x ∷ []
drop_push zero xs x le = refl
drop_push (suc n) [] x le = absurd (omega arith)
drop_push (suc n) (y ∷ xs) x le = drop_push n xs x (omega arith)

drop_past : (n : ℕ) (xs : List Object) → length xs ≤ n → drop n xs ≡ []
drop_past zero [] le = refl
drop_past zero (x ∷ xs) le = absurd (omega arith)
drop_past (suc n) [] le = refl
drop_past (suc n) (x ∷ xs) le = drop_past n xs (omega arith)

abbrev pub some_events : Filter → Board → ℕ → ℕ → List Object
some_events f b given n = filter (passes f) (drop given (first_events b n))

pub none_yet : (f : Filter) (b : Board) (given n : ℕ) → n ≤ given → some_events f b given n ≡ []
none_yet f b given n le = ap (filter (passes f)) (drop_past given (first_events b n) (omega (arith, length-first_events b n)))

pub one_event : (f : Filter) (b : Board) (given n : ℕ) → given ≤ n → some_events f b given (n + 1) ≡ some_events f b given n ++ filter (passes f) (event_object b n ∷ [])
one_event f b given n le =
    let next : n + 1 ≡ suc n = omega arith in
    ap (λ (k : ℕ). some_events f b given k) next
    ∙ ap (filter (passes f)) (drop_push given (first_events b n) (event_object b n) (omega (arith, length-first_events b n)))
    ∙ filter-append (passes f) (drop given (first_events b n)) (event_object b n ∷ [])

-- what has changed of a feed
lists_are : (plan : Plan) (text : Text) (path : Path) (dropped : ℕ) (es : List Object) → option_to_list (feed_of_some plan path dropped es) ≡ map (λ r. content_object r.content) (lists_some (site locate plan) text path dropped es)
lists_are plan text path zero [] = refl
lists_are plan text path zero (e ∷ es) = refl
lists_are plan text path (suc n) es = refl

pub changes_are : (plan : Plan) (s : State) (text : Text) (path : Path) (f : Filter) (given dropped : ℕ) (es : List Object) (o : Option Object) (place : Option Resource) → o ≡ feed_of_some plan path dropped es
    → place ≡ at path (event_places plan) → dropped ≡ gone_at s place - given → es ≡ filter (passes f) (drop (given - gone_at s place) (events_at plan s place))
    → option_to_list o ≡ map (λ r. content_object r.content) (changes_of (site locate plan) s text path (Feed f given))
changes_are plan s text path f given dropped es o place is here gone some =
    ap option_to_list is
    ∙ lists_are plan text path dropped es
    ∙ ap₂ (λ (n : ℕ) (l : List Object). map (λ r. content_object r.content) (lists_some (site locate plan) text path n l)) gone some
    ∙ ap (λ (p : Option Resource). map (λ r. content_object r.content) (lists_some (site locate plan) text path (gone_at s p - given) (filter (passes f) (drop (given - gone_at s p) (events_at plan s p))))) here

pub some_nothing : (plan : Plan) (path : Path) (es : List Object) → length es ≡ 0 → feed_of_some plan path 0 es ≡ None
some_nothing plan path [] h = refl
some_nothing plan path (e ∷ es) h = absurd (omega arith)

pub some_something : (plan : Plan) (path : Path) (dropped : ℕ) (es : List Object) → (dropped ≡ 0 → length es ≡ 0 → ⊥) → feed_of_some plan path dropped es ≡ Some (content_object (Lists (feed_there plan path) dropped es))
some_something plan path zero [] h = absurd (h refl refl)
some_something plan path zero (e ∷ es) h = refl
some_something plan path (suc n) es h = refl
