-- The framing of a stream is one, and it does not depend on how the stream is cut.
use Rattle.std.proofs.Common.{◌≡◌, ◌≢◌, ℕ, ◌+◌, ◌≤◌, ◌<◌, Bool, true, false, List, [], ◌∷◌, ◌++◌, length, drop, refl, sym, ap, ◌∙◌, subst, arith, append_assoc, append-nil, MatchBool, length-append, length-drop, zero, suc, slice_range, take_all}
use Rattle.std.proofs.lemmas.List.{drop-append-le}
use Rattle.std.proofs.Math.Seq.{drop-length}
use Rattle.ob_http.specs.declared.fault.FrameFault.{FrameFault}
use Rattle.ob_http.specs.Message.{Front, whole, refused, unfinished}
use Rattle.ob_http.specs.Stream.{End, resting, closing, faulted, FramedBy, HasFramingBy, AreFirstBy, IsTakenBy, Received, behind}
use Rattle.ob_http.proofs.MessageLemmas.{IsFinal}

-- what stands at the front is one thing, which stays, and a whole message has some of the bytes
pub record IsFraming {M : Type 0} (Stands : List ℕ → Front M → Type 0) : Type 0 where
  pub unique : (bytes : List ℕ) (a b : Front M) → Stands bytes a → Stands bytes b → a ≡ b
  pub stays : (bytes more : List ℕ) (f : Front M) → IsFinal f → Stands bytes f → Stands (bytes ++ more) f
  pub fits : (bytes : List ℕ) (m : M) (len : ℕ) → Stands bytes (whole m len) → (0 < len) × (len ≤ length bytes)

-- the bytes behind the first ones, as a slice
pub slice_to_end : (bytes : List ℕ) (len : ℕ) → slice_range bytes len (length bytes) ≡ drop len bytes
slice_to_end bytes len = take_all _ (drop len bytes) (omega (arith, length-drop len bytes))

pub by_close : (t : Bool) (A B : Type 0) → (t ≡ true → A) → (t ≡ false → B) → MatchBool t A B
by_close true A B closes goes_on = closes refl
by_close false A B closes goes_on = goes_on refl

module _ {M : Type 0} (Stands : List ℕ → Front M → Type 0) (closes : M → Bool) (law : IsFraming Stands) where
  abbrev FramedFrom : ℕ → List ℕ → List M → End → Type 0
  FramedFrom place bytes ms end = FramedBy Stands closes place bytes ms end

  abbrev Framed : List ℕ → List M → End → Type 0
  Framed bytes ms end = FramedBy Stands closes 0 bytes ms end

  abbrev IsTaken : List ℕ → List M → Received → Type 0
  IsTaken stream ms held = IsTakenBy Stands closes stream ms held

  -- behind the message at the front
  abbrev Behind : ℕ → List ℕ → M → ℕ → List M → End → Type 0
  Behind place bytes m len later end = MatchBool (closes m) ((later ≡ []) × (end ≡ closing)) (FramedFrom (place + len) (drop len bytes) later end)

  -- ---- one framing

  pub framed_unique : (place : ℕ) (bytes : List ℕ) (rs ss : List M) (a b : End)
      → FramedFrom place bytes rs a → FramedFrom place bytes ss b → (rs ≡ ss) × (a ≡ b)
  framed_unique place bytes [] [] (resting q) (resting p) x y = (refl, λ i. resting ((x.1 ∙ sym y.1) i))
  framed_unique place bytes [] [] (resting q) closing x y = absurd y
  framed_unique place bytes [] [] (resting q) (faulted g bt) x y = absurd (let e = law.unique bytes _ _ x.0 y.0 in cc)
  framed_unique place bytes [] [] closing b x y = absurd x
  framed_unique place bytes [] [] (faulted f at) (resting q) x y = absurd (let e = law.unique bytes _ _ x.0 y.0 in cc)
  framed_unique place bytes [] [] (faulted f at) closing x y = absurd y
  framed_unique place bytes [] [] (faulted f at) (faulted g bt) x y =
      let e = law.unique bytes _ _ x.0 y.0 in
      let same : f ≡ g = cc in
      (refl, λ i. faulted (same i) ((x.1 ∙ sym y.1) i))
  framed_unique place bytes [] (s ∷ ss) (resting q) b x y = absurd (let e = law.unique bytes _ _ x.0 y.1 in cc)
  framed_unique place bytes [] (s ∷ ss) closing b x y = absurd x
  framed_unique place bytes [] (s ∷ ss) (faulted f at) b x y = absurd (let e = law.unique bytes _ _ x.0 y.1 in cc)
  framed_unique place bytes (r ∷ rs) [] a (resting q) x y = absurd (let e = law.unique bytes _ _ x.1 y.0 in cc)
  framed_unique place bytes (r ∷ rs) [] a closing x y = absurd y
  framed_unique place bytes (r ∷ rs) [] a (faulted g bt) x y = absurd (let e = law.unique bytes _ _ x.1 y.0 in cc)
  framed_unique place bytes (r ∷ rs) (s ∷ ss) a b (n, x, x_later) (m, y, y_later) =
      let e = law.unique bytes (whole r n) (whole s m) x y in
      let same : r ≡ s = cc in
      let count : n ≡ m = cc in
      let later : Behind place bytes r n ss b =
      subst (λ k. Behind place bytes r k ss b) (sym count) (subst (λ (q : M). Behind place bytes q m ss b) (sym same) y_later) in
      let rest = by_last (closes r) (framed_unique (place + n) (drop n bytes) rs ss a b) x_later later in
      ((λ i. same i ∷ rest.0 i), rest.1)
    where
      by_last : (t : Bool) → (FramedFrom (place + n) (drop n bytes) rs a → FramedFrom (place + n) (drop n bytes) ss b → (rs ≡ ss) × (a ≡ b))
          → MatchBool t ((rs ≡ []) × (a ≡ closing)) (FramedFrom (place + n) (drop n bytes) rs a)
          → MatchBool t ((ss ≡ []) × (b ≡ closing)) (FramedFrom (place + n) (drop n bytes) ss b)
          → (rs ≡ ss) × (a ≡ b)
      by_last true rec (p, q) (u, v) = (p ∙ sym u, q ∙ sym v)
      by_last false rec p q = rec p q

  -- an end stays
  pub end_stays : (place : ℕ) (bytes more : List ℕ) (ms : List M) (end : End) → ((rest : List ℕ) → end ≢ resting rest)
      → FramedFrom place bytes ms end → FramedFrom place (bytes ++ more) ms end
  end_stays place bytes more [] (resting q) final framed = absurd (final q refl)
  end_stays place bytes more [] closing final framed = framed
  end_stays place bytes more [] (faulted f at) final (x, here) = (law.stays bytes more (refused f) tt x, here)
  end_stays place bytes more (r ∷ rs) end final (n, x, later) =
      (n, law.stays bytes more (whole r n) tt x, by_last (closes r) (end_stays (place + n) (drop n bytes) more rs end final) later)
    where
      by_last : (t : Bool) → (FramedFrom (place + n) (drop n bytes) rs end → FramedFrom (place + n) (drop n bytes ++ more) rs end)
          → MatchBool t ((rs ≡ []) × (end ≡ closing)) (FramedFrom (place + n) (drop n bytes) rs end)
          → MatchBool t ((rs ≡ []) × (end ≡ closing)) (FramedFrom (place + n) (drop n (bytes ++ more)) rs end)
      by_last true rec done = done
      by_last false rec framed =
          subst (λ l. FramedFrom (place + n) l rs end) (sym (drop-append-le n bytes more (law.fits bytes r n x).1)) (rec framed)

  -- ---- a stream in pieces

  pub taken_start : IsTaken [] [] (record { place = 0; kept = [] })
  taken_start = record {
    size = refl;
    onward = λ more later end framed. framed;
    back = λ more all end framed. (all, refl, framed);
  }

  pub taken_feed : (stream piece : List ℕ) (ms : List M) (held : Received) → IsTaken stream ms held
      → IsTaken (stream ++ piece) ms (record held { kept = held.kept ++ piece })
  taken_feed stream piece ms held taken = record {
    size = omega (arith, taken.size, length-append stream piece, length-append held.kept piece);
    onward = λ more later end framed.
        subst (λ l. Framed l (ms ++ later) end) (sym (append_assoc stream piece more))
        (taken.onward (piece ++ more) later end (subst (λ l. FramedFrom held.place l later end) (append_assoc held.kept piece more) framed));
    back = λ more all end framed.
        let t = taken.back (piece ++ more) all end (subst (λ l. Framed l all end) (append_assoc stream piece more) framed) in
        (t.0, t.1, subst (λ l. FramedFrom held.place l t.0 end) (sym (append_assoc held.kept piece more)) t.2);
  }

  -- what is framed begins with the message that stands at the front
  framed_front : (place : ℕ) (bytes : List ℕ) (r : M) (len : ℕ) (all : List M) (end : End) → Stands bytes (whole r len)
      → FramedFrom place bytes all end → (later : List M) × (all ≡ r ∷ later) × Behind place bytes r len later end
  framed_front place bytes r len [] (resting q) stands framed = absurd (let e = law.unique bytes _ _ stands framed.0 in cc)
  framed_front place bytes r len [] closing stands framed = absurd framed
  framed_front place bytes r len [] (faulted f at) stands framed = absurd (let e = law.unique bytes _ _ stands framed.0 in cc)
  framed_front place bytes r len (s ∷ later) end stands (n, here, behind) =
      let e = law.unique bytes (whole r len) (whole s n) stands here in
      let same : r ≡ s = cc in
      let count : len ≡ n = cc in (
        later,
        (λ i. sym same i ∷ later),
        subst (λ k. Behind place bytes r k later end) (sym count)
            (subst (λ (q : M). Behind place bytes q n later end) (sym same) behind),
      )

  -- the first messages, with the next one
  pub first_more : (stream : List ℕ) (ms : List M) (held : Received) (r : M) (len : ℕ) → IsTaken stream ms held
      → Stands held.kept (whole r len) → AreFirstBy Stands closes stream (ms ++ r ∷ [])
  first_more stream ms held r len taken stands = λ more all end framed.
      let t = taken.back more all end framed in
      let u = framed_front held.place (held.kept ++ more) r len t.0 end (law.stays held.kept more (whole r len) tt stands) t.2 in
      (u.0, t.1 ∙ ap (λ (l : List M). ms ++ l) u.1 ∙ sym (append_assoc ms (r ∷ []) u.0))

  pub taken_take : (stream : List ℕ) (ms : List M) (held : Received) (r : M) (len : ℕ) → IsTaken stream ms held
      → Stands held.kept (whole r len) → closes r ≡ false → IsTaken stream (ms ++ r ∷ []) (behind len held)
  taken_take stream ms held r len taken stands goes_on =
      let fits = (law.fits held.kept r len stands).1 in
      record {
        size = omega (arith, taken.size, length-drop len held.kept, fits);
        onward = λ more later end framed.
            let here = law.stays held.kept more (whole r len) tt stands in
            let next = subst (λ l. FramedFrom (held.place + len) l later end) (sym (drop-append-le len held.kept more fits)) framed in
            let all : FramedFrom held.place (held.kept ++ more) (r ∷ later) end = (
              len,
              here,
              subst (λ t. MatchBool t ((later ≡ []) × (end ≡ closing)) (FramedFrom (held.place + len) (drop len (held.kept ++ more)) later end))
                  (sym goes_on) next,
            ) in
            subst (λ rs. Framed (stream ++ more) rs end) (sym (append_assoc ms (r ∷ []) later)) (taken.onward more (r ∷ later) end all);
        back = λ more all end framed.
            let t = taken.back more all end framed in
            let u = framed_front held.place (held.kept ++ more) r len t.0 end (law.stays held.kept more (whole r len) tt stands) t.2 in
            let on : FramedFrom (held.place + len) (drop len (held.kept ++ more)) u.0 end =
            subst (λ b. MatchBool b ((u.0 ≡ []) × (end ≡ closing)) (FramedFrom (held.place + len) (drop len (held.kept ++ more)) u.0 end)) goes_on u.2 in (
              u.0,
              t.1 ∙ ap (λ (l : List M). ms ++ l) u.1 ∙ sym (append_assoc ms (r ∷ []) u.0),
              subst (λ l. FramedFrom (held.place + len) l u.0 end) (drop-append-le len held.kept more fits) on,
            );
      }

  -- where nothing more is framed, all is
  taken_ends : (stream : List ℕ) (ms later : List M) (held : Received) (end : End) → IsTaken stream ms held
      → FramedFrom held.place held.kept later end → Framed stream (ms ++ later) end
  taken_ends stream ms later held end taken framed =
      subst (λ l. Framed l (ms ++ later) end) (append-nil stream)
      (taken.onward [] later end (subst (λ l. FramedFrom held.place l later end) (sym (append-nil held.kept)) framed))

  pub taken_rests : (stream : List ℕ) (ms : List M) (held : Received) → IsTaken stream ms held
      → Stands held.kept unfinished → Framed stream ms (resting held.kept)
  taken_rests stream ms held taken stands =
      subst (λ rs. Framed stream rs (resting held.kept)) (append-nil ms) (taken_ends stream ms [] held (resting held.kept) taken (stands, refl))

  pub taken_closes : (stream : List ℕ) (ms : List M) (held : Received) (r : M) (len : ℕ) → IsTaken stream ms held
      → Stands held.kept (whole r len) → closes r ≡ true → Framed stream (ms ++ r ∷ []) closing
  taken_closes stream ms held r len taken stands last =
      taken_ends stream ms (r ∷ []) held closing taken
      (len, stands, let none : List M = [] in subst (λ t. MatchBool t ((none ≡ []) × (closing ≡ closing)) (FramedFrom (held.place + len) (drop len held.kept) none closing)) (sym last) (refl, refl))

  pub taken_faults : (stream : List ℕ) (ms : List M) (held : Received) (fault : FrameFault) → IsTaken stream ms held
      → Stands held.kept (refused fault) → Framed stream ms (faulted fault held.place)
  taken_faults stream ms held fault taken stands =
      subst (λ rs. Framed stream rs (faulted fault held.place)) (append-nil ms) (taken_ends stream ms [] held (faulted fault held.place) taken (stands, refl))

  -- bytes that are one message
  pub framed_one : (bytes : List ℕ) (m : M) → closes m ≡ false → Stands bytes (whole m (length bytes)) → Stands [] unfinished → Framed bytes (m ∷ []) (resting [])
  framed_one bytes m goes_on stands rests = (
    length bytes,
    stands,
    let none : List M = [] in
        subst (λ t. MatchBool t ((none ≡ []) × (resting [] ≡ closing)) (FramedFrom (0 + length bytes) (drop (length bytes) bytes) none (resting []))) (sym goes_on)
        (subst (λ (l : List ℕ). Stands l unfinished × ([] ≡ l)) (sym (drop-length bytes)) (rests, refl)),
  )

  -- ---- there is a framing

  abbrev HasFraming : ℕ → List ℕ → Type 0
  HasFraming place bytes = HasFramingBy Stands closes place bytes

  pub rests_there : (place : ℕ) (bytes : List ℕ) → Stands bytes unfinished → HasFraming place bytes
  rests_there place bytes stands = ([], (resting bytes, (stands, refl)))

  pub faulted_there : (place : ℕ) (bytes : List ℕ) (fault : FrameFault) → Stands bytes (refused fault) → HasFraming place bytes
  faulted_there place bytes fault stands = ([], (faulted fault place, (stands, refl)))

  pub closing_there : (place : ℕ) (bytes : List ℕ) (m : M) (len : ℕ) → Stands bytes (whole m len) → closes m ≡ true → HasFraming place bytes
  closing_there place bytes m len stands last =
      let none : List M = [] in
      (m ∷ [], (closing, (len, stands, subst (λ t. MatchBool t ((none ≡ []) × (closing ≡ closing)) (FramedFrom (place + len) (drop len bytes) none closing)) (sym last) (refl, refl))))

  pub onward_there : (place : ℕ) (bytes : List ℕ) (m : M) (len : ℕ) → Stands bytes (whole m len) → closes m ≡ false
      → HasFraming (place + len) (drop len bytes) → HasFraming place bytes
  onward_there place bytes m len stands goes_on (later, (end, framed)) =
      (m ∷ later, (end, (len, stands, subst (λ t. MatchBool t ((later ≡ []) × (end ≡ closing)) (FramedFrom (place + len) (drop len bytes) later end)) (sym goes_on) framed)))

  -- where the bytes behind a message have one, all have
  pub there_before : (bytes : List ℕ) (m : M) (len : ℕ) → Stands bytes (whole m len) → ((place : ℕ) → HasFraming place (drop len bytes))
      → (place : ℕ) → HasFraming place bytes
  there_before bytes m len stands there place = by_last (closes m) refl
    where
      by_last : (t : Bool) → closes m ≡ t → HasFraming place bytes
      by_last true last = closing_there place bytes m len stands last
      by_last false goes_on = onward_there place bytes m len stands goes_on (there (place + len))

  -- where bytes have no framing, nothing stands at their front, if those behind a message have one
  nothing_stands : (place : ℕ) (bytes : List ℕ) → ¬ (HasFraming place bytes)
      → ((m : M) (len : ℕ) → Stands bytes (whole m len) → ¬ (¬ (HasFraming (place + len) (drop len bytes)))) → (f : Front M) → ¬ (Stands bytes f)
  nothing_stands place bytes none later unfinished stands = none (rests_there place bytes stands)
  nothing_stands place bytes none later (refused fault) stands = none (faulted_there place bytes fault stands)
  nothing_stands place bytes none later (whole m len) stands = by_last (closes m) refl
    where
      by_last : (t : Bool) → closes m ≡ t → ⊥
      by_last true last = none (closing_there place bytes m len stands last)
      by_last false goes_on = later m len stands (λ there. none (onward_there place bytes m len stands goes_on there))

  -- where something stands at each front, none is unframed
  pub none_unframed : ((bytes : List ℕ) → ¬ ((f : Front M) → ¬ (Stands bytes f))) → (most place : ℕ) (bytes : List ℕ) → length bytes ≤ most
      → ¬ (¬ (HasFraming place bytes))
  none_unframed fronts zero place bytes small none =
      fronts bytes (nothing_stands place bytes none (λ m len stands.
      let inside = law.fits bytes m len stands in
      absurd (omega (arith, inside.0, inside.1, small))))
  none_unframed fronts (suc n) place bytes small none =
      fronts bytes (nothing_stands place bytes none (λ m len stands.
      let inside = law.fits bytes m len stands in
      none_unframed fronts n (place + len) (drop len bytes) (omega (arith, inside.0, inside.1, small, length-drop len bytes))))
