-- A step done again after a restart.
use Rattle.std.proofs.Common.{◌≡◌, ℕ, ◌+◌, ◌≤◌, ◌<◌, max, Bool, true, false, cond, not, ◌||◌, List, [], length, nat_le, nat_lt, Option, Some, None, refl, sym, ◌∙◌, ap, arith}
use Rattle.std.specs.List.{filter}
use Rattle.std.proofs.lemmas.Bool.Decides.{nat_tests}
use Rattle.ob_values.proofs.Bools.{neither_right}
use Rattle.ob_watching.specs.Operations.{Target, Itself, Nowhere, NewWatch, OneWatch}
use Rattle.ob_watching.specs.Sites.{Site}
use Rattle.ob_watching.specs.Tables.{lookup, numbers_of}
use Rattle.ob_watching.specs.Watches.{World, Watch, Reply, Asks, act, acted, ended, begun, is_full, on_watch, made, has_lapsed, max_watches, last_number, yielded, yielding}
use Rattle.ob_lasting.specs.Lasting.{restarted, Lasts, IsRestartOf, IsApart, DoneAgain, DoneAgainFurther}

not_past : (n : ℕ) → nat_lt last_number n ≡ false → n ≤ last_number
not_past n e = grind (arith, nat_tests, e)

past : (n : ℕ) → nat_lt last_number n ≡ true → last_number < n
past n e = grind (arith, nat_tests, e)

module _ (m : Site) where
  -- what lasts is the same, and the time
  abbrev Same : World m → World m → Type 0
  Same v w = Lasts m v w × (v.time ≡ w.time)

  same_ended : (s t : m.State) (v w : World m) → Same v w → Same (ended m s v) (ended m t w)
  same_ended s t v w same = (record { site = ap m.roll same.0.site; next = same.0.next }, same.1)

  same_asked : (v w : World m) → Same v w → (n : ℕ) (op : Asks m) (a b : Option (Watch m)) → Same (on_watch m v n op a).0 (on_watch m w n op b).0
  same_asked v w same n op None None = same
  same_asked v w same n op None (Some b) = (record { site = same.0.site; next = same.0.next }, same.1)
  same_asked v w same n op (Some a) None = (record { site = same.0.site; next = same.0.next }, same.1)
  same_asked v w same n op (Some a) (Some b) = (record { site = same.0.site; next = same.0.next }, same.1)

  same_made : (u v w : World m) → Same v w → (t : World m) → (f g : Bool) → f ≡ false → g ≡ false → (x y x' y' : Reply m)
      → Same (cond {A = World m × Reply m} f (u, x) (made m v, y)).0 (cond {A = World m × Reply m} g (t, x') (made m w, y')).0
  same_made u v w same t true g e e' x y x' y' = absurd (cc e)
  same_made u v w same t false true e e' x y x' y' = absurd (cc e')
  same_made u v w same t false false e e' x y x' y' = (record { site = same.0.site; next = ap (λ (n : ℕ). n + 1) same.0.next }, same.1)

  module _ (apart : IsApart m) where
    same_acted : (w : World m) (r : m.Request) (moment time : ℕ) → time ≤ max w.time moment
        → (target : Target m.Text m.Input m.Part m.Fault) → (target ≡ NewWatch → is_full m (yielded m (begun m w moment)) ≡ false)
        → Same (acted m (begun m w moment) r target).0 (acted m (begun m (restarted m w time) (max w.time moment)) r target).0
    same_acted w r moment time le Itself room = (
      record {
        site = apart w.site (numbers_of (begun m w moment).watches) (numbers_of (begun m (restarted m w time) (max w.time moment)).watches) r (max w.time moment)
            ∙ ap (λ (t : ℕ). (m.act w.site [] r t).0) later;
        next = refl;
      },
      later,
    )
      where
        later : max w.time moment ≡ max time (max w.time moment)
        later = omega (arith, le)
    same_acted w r moment time le Nowhere room = (record { site = refl; next = refl }, omega (arith, le))
    same_acted w r moment time le NewWatch room =
        let again : World m = begun m (restarted m w time) (max w.time moment) in
        same_made (begun m w moment) (yielded m (begun m w moment)) (yielded m again) (record { site = refl; next = refl }, omega (arith, le)) again
        (is_full m (yielded m (begun m w moment))) (is_full m (yielded m again)) (room refl)
        (neither_right (nat_le max_watches (length (yielded m (begun m w moment)).watches)) (nat_lt last_number w.next) (room refl)) _ _ _ _
    same_acted w r moment time le (OneWatch n op) room =
        same_asked (begun m w moment) (begun m (restarted m w time) (max w.time moment)) (record { site = refl; next = refl }, omega (arith, le))
        n op (lookup n (begun m w moment).watches) (lookup n (begun m (restarted m w time) (max w.time moment)).watches)

    pub done_again : DoneAgain m
    done_again w r moment time le room =
        same_ended w.site w.site (acted m (begun m w moment) r (m.target r)).0 (acted m (begun m (restarted m w time) (max w.time moment)) r (m.target r)).0
        (same_acted w r moment time le (m.target r) room)

  -- without its watches the one state is a restart of the other
  abbrev Bare : World m → World m → Type 0
  Bare u v = IsRestartOf m u (restarted m v v.time)

  bare_ended : (s t : m.State) (u v : World m) → Bare u v → Bare (ended m s u) (ended m t v)
  bare_ended s t u v h = record { site = ap m.roll h.site; watches = refl; next = h.next; room = h.room; time = h.time }

  bare_asked : (u v : World m) → Bare u v → (n : ℕ) (op : Asks m) (a b : Option (Watch m)) → Bare (on_watch m u n op a).0 (on_watch m v n op b).0
  bare_asked u v h n op None None = h
  bare_asked u v h n op None (Some b) = record { site = h.site; watches = refl; next = h.next; room = h.room; time = h.time }
  bare_asked u v h n op (Some a) None = record { site = h.site; watches = refl; next = h.next; room = h.room; time = h.time }
  bare_asked u v h n op (Some a) (Some b) = record { site = h.site; watches = refl; next = h.next; room = h.room; time = h.time }

  -- idle watches have given way, or stand
  bare_made : (u v : World m) → Bare u v → (f g : Bool) → (f ≡ false → u.next ≤ last_number) → (g ≡ false → v.next ≤ last_number) → (g ≡ true → last_number < v.next) → (x y x' y' : Reply m)
      → Bare (cond {A = World m × Reply m} f (u, x) (made m (yielded m u), y)).0 (cond {A = World m × Reply m} g (v, x') (made m (yielded m v), y')).0
  bare_made u v h true true low roomy full x y x' y' = h
  bare_made u v h true false low roomy full x y x' y' = record { site = h.site; watches = refl; next = omega (arith, h.next); room = omega (arith, roomy refl); time = h.time }
  bare_made u v h false true low roomy full x y x' y' = record { site = h.site; watches = refl; next = omega (arith, low refl, full refl); room = h.room; time = h.time }
  bare_made u v h false false low roomy full x y x' y' = record { site = h.site; watches = refl; next = omega (arith, h.next); room = omega (arith, roomy refl); time = h.time }

  module _ (apart : IsApart m) (old new : World m) (h : IsRestartOf m old new) (r : m.Request) (moment : ℕ) where
    abbrev u : World m
    u = begun m old moment

    abbrev v : World m
    v = begun m new (max old.time moment)

    bare : Bare u v
    bare = record { site = h.site; watches = refl; next = h.next; room = h.room; time = omega (arith, h.time) }

    -- no watch stands, so only the numbers may be at their end
    full : is_full m (yielded m v) ≡ nat_lt last_number new.next
    full = ap (λ ws. (let live : List (ℕ × Watch m) = filter (λ e. not (has_lapsed m v.time e.1)) ws in nat_le max_watches (length (yielding m (length live) v.time live))) || nat_lt last_number new.next) h.watches

    bare_acted : (target : Target m.Text m.Input m.Part m.Fault) → Bare (acted m u r target).0 (acted m v r target).0
    bare_acted Itself = record {
      site = apart v.site (numbers_of v.watches) (numbers_of u.watches) r v.time
          ∙ ap (λ (s : m.State). (m.act s (numbers_of u.watches) r v.time).0) h.site
          ∙ ap (λ (t : ℕ). (m.act old.site (numbers_of u.watches) r t).0) at_once;
      watches = refl;
      next = h.next;
      room = h.room;
      time = omega (arith, h.time);
    }
      where
        at_once : v.time ≡ u.time
        at_once = omega (arith, h.time)
    bare_acted Nowhere = bare
    bare_acted NewWatch =
        bare_made u v bare (is_full m (yielded m u)) (is_full m (yielded m v))
        (λ e. not_past old.next (neither_right (nat_le max_watches (length (yielded m u).watches)) (nat_lt last_number old.next) e))
        (λ e. not_past new.next (sym full ∙ e)) (λ e. past new.next (sym full ∙ e)) _ _ _ _
    bare_acted (OneWatch n op) = bare_asked u v bare n op (lookup n u.watches) (lookup n v.watches)

    done_further : let again : World m = (act m new r (max old.time moment)).0 in IsRestartOf m (act m old r moment).0 (restarted m again again.time)
    done_further = bare_ended old.site new.site (acted m u r (m.target r)).0 (acted m v r (m.target r)).0 (bare_acted (m.target r))

  pub done_again_further : IsApart m → DoneAgainFurther m
  done_again_further apart old new h r moment = done_further apart old new h r moment
