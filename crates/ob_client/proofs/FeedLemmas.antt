-- Events put behind one another.
use Rattle.std.proofs.Common.{◌≡◌, ℕ, ◌+◌, ◌<◌, Bool, true, false, cond, not, List, [], ◌∷◌, ◌++◌, map, length, take, get_or, sym, ap, ◌∙◌, append_assoc, append-nil}
use Rattle.std.specs.List.{filter}
use Rattle.std.proofs.lemmas.List.{take_more, map-append}
use Rattle.std.proofs.lemmas.List.Elements.{filter-append}
use Rattle.ob_object.specs.declared.head.Head.{Head}
use Rattle.ob_object.specs.Object.{Object, in_row, children, listed-in_row, in_row-listed}
use Rattle.ob_object.specs.WellFormed.{with_child}
use Rattle.ob_watching.specs.WatchOuts.{without_name, is_dropped}
use Rattle.ob_client.specs.Feeds.{news_in, feed_of}
use Rattle.ob_client.specs.Shown.{dropped_child}

abbrev pub grown : Object → List Object → Object
grown o more = record { head = o.head; inner = in_row (children o ++ more) }

-- nothing more
pub grown_none : (o : Object) → o ≡ grown o []
grown_none o = sym (ap (λ (r : List Object). record { head = o.head; inner = in_row r }) (append-nil (children o)) ∙ ap (λ r. let x : Object = record { head = o.head; inner = r } in x) (in_row-listed o.inner))

-- one more child of what has grown
pub grown_child : (o : Object) (more : List Object) (e : Object) → with_child (grown o more) e ≡ grown o (more ++ e ∷ [])
grown_child o more e =
    ap (λ (r : List Object). let x : Object = record { head = o.head; inner = in_row (r ++ e ∷ []) } in x) (listed-in_row (children o ++ more))
    ∙ ap (λ (r : List Object). let x : Object = record { head = o.head; inner = in_row r } in x) (append_assoc (children o) more (e ∷ []))

-- one more of the events
pub more_events : (es : List Object) (i : ℕ) (e : Object) → i < length es → e ≡ get_or es i e → map without_name (take i es) ++ without_name e ∷ [] ≡ map without_name (take (i + 1) es)
more_events es i e lt at =
    ap (λ (x : Object). map without_name (take i es) ++ without_name x ∷ []) at
    ∙ sym (map-append without_name (take i es) (get_or es i e ∷ []))
    ∙ sym (ap (map without_name) (take_more es i e lt))

abbrev pub is_event : Object → Bool
is_event o = not (is_dropped o)

-- one more of the events, or a child that is passed over
pub more_news : (es : List Object) (i : ℕ) (e : Object) → i < length es → e ≡ get_or es i e → is_dropped e ≡ false → map without_name (news_in (take i es)) ++ without_name e ∷ [] ≡ map without_name (news_in (take (i + 1) es))
more_news es i e lt at event =
    let kept : filter is_event (e ∷ []) ≡ e ∷ [] = ap (λ b. cond (not b) (e ∷ []) []) event in
    sym (ap (λ (xs : List Object). map without_name (filter is_event (take i es)) ++ map without_name xs) kept)
    ∙ sym (map-append without_name (filter is_event (take i es)) (filter is_event (e ∷ [])))
    ∙ ap (map without_name) (sym (filter-append is_event (take i es) (e ∷ [])))
    ∙ ap (λ (x : Object). map without_name (filter is_event (take i es ++ x ∷ []))) at
    ∙ sym (ap (λ (xs : List Object). map without_name (filter is_event xs)) (take_more es i e lt))

pub passed_over : (es : List Object) (i : ℕ) (e : Object) → i < length es → e ≡ get_or es i e → is_dropped e ≡ true → map without_name (news_in (take i es)) ≡ map without_name (news_in (take (i + 1) es))
passed_over es i e lt at dropped =
    let none_kept : filter is_event (e ∷ []) ≡ [] = ap (λ b. cond (not b) (e ∷ []) []) dropped in
    sym (ap (map without_name) (append-nil (filter is_event (take i es))))
    ∙ sym (ap (λ (xs : List Object). map without_name (filter is_event (take i es) ++ xs)) none_kept)
    ∙ ap (map without_name) (sym (filter-append is_event (take i es) (e ∷ [])))
    ∙ ap (λ (x : Object). map without_name (filter is_event (take i es ++ x ∷ []))) at
    ∙ sym (ap (λ (xs : List Object). map without_name (filter is_event xs)) (take_more es i e lt))

-- events behind events, behind the number missed
pub two_behind : (h : Head) (n : ℕ) (xs ys : List Object) (d p q : Object) → d ≡ record { head = h; inner = in_row (dropped_child n) } → p ≡ grown d (map without_name xs) → q ≡ grown p (map without_name ys) → q ≡ feed_of h n (xs ++ ys)
two_behind h n xs ys d p q e f g =
    let first : p ≡ feed_of h n xs = f ∙ ap (λ (x : Object). grown x (map without_name xs)) e ∙ ap (λ (zs : List Object). let o : Object = record { head = h; inner = in_row (zs ++ map without_name xs) } in o) (listed-in_row (dropped_child n)) in
    g ∙ ap (λ (x : Object). grown x (map without_name ys)) first
    ∙ ap (λ (zs : List Object). let o : Object = record { head = h; inner = in_row (zs ++ map without_name ys) } in o) (listed-in_row (dropped_child n ++ map without_name xs))
    ∙ ap (λ (zs : List Object). let o : Object = record { head = h; inner = in_row zs } in o) (append_assoc (dropped_child n) (map without_name xs) (map without_name ys) ∙ ap (λ (zs : List Object). dropped_child n ++ zs) (sym (map-append without_name xs ys)))
