-- Passes that were split off, asked and joined again.
use Rattle.std.proofs.Common.{arith, ◌≡◌, ◌⊎◌, ◌<◌, ◌≤◌, ◌+◌, ◌^◌, ℕ, suc, List, [], ◌∷◌, ◌++◌, refl, sym, ap, subst, ◌∙◌, ⊎_elim, map, take, drop, length, append-nil, append_assoc, get_or}
use Rattle.ob_machine.specs.declared.call.Entry.{Entry}
use Rattle.ob_machine.specs.History.{IsLegal, left_by}
use Rattle.ob_turn.specs.Callers.{numbers_below, weigh, times, own, Among, Strangers, calls_of, HasSeen}
use Rattle.ob_turn.specs.Standing.{Standing, mine}
use Rattle.ob_turn.proofs.Numbers.{bit, weigh_append, weigh_length, weigh_cut, below_once, below_there, below_length}
use Rattle.ob_turn.proofs.Histories.{strangers_among, mine_same}
use Rattle.ob_server.specs.Passes.{Continues}
use Rattle.ob_server.specs.Together.{weigh_all, callers, IsSplitOff, AreSplitOff, AreSplit, HaveSeen, HasCallsOf, AreAmong, AreLegal, AllContinue, AreJoined, IsFirst, IsWhole}

module _ {Q P : Type 0} where
  -- ---- split

  weigh_all_snoc : (h : ℕ → ℕ) (rs : List (Standing Q P)) (r : Standing Q P) → weigh_all h (rs ++ r ∷ []) ≡ weigh_all h rs + weigh h r.numbers
  weigh_all_snoc h [] r = omega arith
  weigh_all_snoc h (x ∷ xs) r = let e = weigh_all_snoc h xs r in omega (arith, e)

  split_off_snoc : (p : Standing Q P) (rs : List (Standing Q P)) (r : Standing Q P) → AreSplitOff p rs → IsSplitOff p r → AreSplitOff p (rs ++ r ∷ [])
  split_off_snoc p [] r a b = (b, tt)
  split_off_snoc p (x ∷ xs) r a b = (a.0, split_off_snoc p xs r a.1 b)

  pub split_none : (p : Standing Q P) → AreSplit p p []
  split_none p = record { same = refl; calls = refl; each = tt; numbers = λ h. omega arith }

  -- one more was split off
  pub split_more : (p q q' r : Standing Q P) (rs : List (Standing Q P)) (k : ℕ) → AreSplit p q rs → q' ≡ record q { numbers = take k q.numbers } → r ≡ record q { numbers = drop k q.numbers; since = length q.seen }
      → mine q' ≡ mine q → length r.numbers ≡ 1 → AreSplit p q' (rs ++ r ∷ [])
  split_more p q q' r rs k s kept given calls one = record {
    same = kept ∙ (ap (λ (z : Standing Q P). record z { numbers = take k q.numbers }) s.same ∙ ap (λ (ns : List ℕ). record p { numbers = ns }) (sym numbers_kept));
    calls = calls ∙ s.calls;
    each = split_off_snoc p rs r s.each (record {
      one = one;
      same = given ∙ (ap (λ (z : Standing Q P). record z { numbers = drop k q.numbers; since = length z.seen }) s.same ∙ ap (λ (ns : List ℕ). record p { numbers = ns; since = length p.seen }) (sym numbers_given));
    });
    numbers = λ h.
        let a = weigh_cut h k q.numbers in
        let b = weigh_all_snoc h rs r in
        let c = s.numbers h in
        let d : weigh h q'.numbers ≡ weigh h (take k q.numbers) = ap (weigh h) numbers_kept in
        let e : weigh h r.numbers ≡ weigh h (drop k q.numbers) = ap (weigh h) numbers_given in
        omega (arith, a, b, c, d, e);
  }
    where
      numbers_kept : q'.numbers ≡ take k q.numbers
      numbers_kept = ap (λ (z : Standing Q P). z.numbers) kept

      numbers_given : r.numbers ≡ drop k q.numbers
      numbers_given = ap (λ (z : Standing Q P). z.numbers) given

  -- ---- what was seen

  strangers_then : (ns : List ℕ) (xs ys : List (Entry Q P)) → Strangers ns xs → Strangers ns ys → Strangers ns (xs ++ ys)
  strangers_then ns [] ys a b = b
  strangers_then ns (x ∷ xs) ys a b = (a.0, strangers_then ns xs ys a.1 b)

  pub seen_none : (ns : List ℕ) (seen : List (Entry Q P)) → HasSeen ns seen seen
  seen_none ns seen = record { rest = []; is = append-nil seen; others = tt }

  seen_then : (ns ms : List ℕ) (a b c : List (Entry Q P)) → Among ns ms → HasSeen ns a b → HasSeen ms b c → HasSeen ns a c
  seen_then ns ms a b c among s t = record {
    rest = s.rest ++ t.rest;
    is = sym (append_assoc a s.rest t.rest) ∙ (ap (λ (l : List (Entry Q P)). l ++ t.rest) s.is ∙ t.is);
    others = strangers_then ns s.rest t.rest s.others (strangers_among ms ns t.rest among t.others);
  }

  have_seen_then : (ms : List ℕ) (rs : List (Standing Q P)) (b c : List (Entry Q P)) → ((x : ℕ) → weigh_all (bit x) rs ≤ times x ms) → HaveSeen rs b → HasSeen ms b c → HaveSeen rs c
  have_seen_then ms [] b c among s t = tt
  have_seen_then ms (r ∷ rs) b c among s t = (
    seen_then r.numbers ms r.seen b c (λ x. let m = among x in omega (arith, m)) s.0 t,
    have_seen_then ms rs b c (λ x. let m = among x in omega (arith, m)) s.1 t,
  )

module _ {S Q P : Type 0} (act : S → Q → ℕ → S × P) (opening : S) where
  -- ---- joined

  pub joined_none : (p : Standing Q P) → AreJoined act opening p [] p
  joined_none p = record {
    table = refl;
    since = refl;
    calls = refl;
    numbers = λ h. omega arith;
    seen = seen_none p.numbers p.seen;
    each = tt;
    legal = λ l none. l;
  }

  -- one more was joined
  pub joined_more : (p q q' r : Standing Q P) (rs : List (Standing Q P)) → AreJoined act opening p rs q
      → (q'.table ≡ q.table) × (q'.since ≡ q.since) × (q'.numbers ≡ q.numbers ++ r.numbers) → (q'.seen ≡ q.seen) ⊎ (q'.seen ≡ r.seen)
      → HasSeen q.numbers q.seen q'.seen → HasSeen r.numbers r.seen q'.seen → mine q' ≡ mine q → AreJoined act opening p (r ∷ rs) q'
  joined_more p q q' r rs j same longer own_seen other_seen calls = record {
    table = same.0 ∙ j.table;
    since = same.1 ∙ j.since;
    calls = calls ∙ j.calls;
    numbers = λ h.
        let a = weigh_append h q.numbers r.numbers in
        let b = j.numbers h in
        let c : weigh h q'.numbers ≡ weigh h (q.numbers ++ r.numbers) = ap (weigh h) same.2 in
        omega (arith, a, b, c);
    seen = seen_then p.numbers q.numbers p.seen q.seen q'.seen (λ x. let m = j.numbers (bit x) in omega (arith, m)) j.seen own_seen;
    each = (other_seen, have_seen_then q.numbers rs q.seen q'.seen (λ x. let m = j.numbers (bit x) in omega (arith, m)) j.each own_seen);
    legal = λ l all.
        ⊎_elim (λ (is : q'.seen ≡ q.seen). subst (λ (es : List (Entry Q P)). IsLegal act opening es) (sym is) (j.legal l all.1))
        (λ (is : q'.seen ≡ r.seen). subst (λ (es : List (Entry Q P)). IsLegal act opening es) (sym is) all.0) longer;
  }

  -- ---- the whole

  one_number : (x : ℕ) (ns : List ℕ) → length ns ≡ 1 → times x ns ≡ bit x (own ns)
  one_number x [] one = absurd (omega (arith, one))
  one_number x (n ∷ []) one = omega arith
  one_number x (n ∷ (m ∷ ns)) one = absurd (omega (arith, one))

  -- the passes have one number each and have made no other calls than they have seen
  AreOnes : List (Standing Q P) → Type 0
  AreOnes [] = Unit {0}
  AreOnes (r ∷ rs) = (length r.numbers ≡ 1) × (r.since ≡ 0) × AreOnes rs

  times_callers : (x : ℕ) (rs : List (Standing Q P)) → AreOnes rs → times x (callers rs) ≡ weigh_all (bit x) rs
  unfolding AreOnes
  times_callers x [] ones = refl
  times_callers x (r ∷ rs) ones = let a = times_callers x rs ones.2 in let b = one_number x r.numbers ones.0 in omega (arith, a, b)

  calls_made : (rs : List (Standing Q P)) (history : List (Entry Q P)) → AreOnes rs → HaveSeen rs history → HasCallsOf rs history
  unfolding AreOnes
  calls_made [] history ones seen = tt
  calls_made (r ∷ rs) history ones seen =
      let same : calls_of (own r.numbers) (drop r.since history) ≡ calls_of (own r.numbers) (drop r.since r.seen) =
      mine_same r.numbers r.since r.seen history (omega (arith, ones.0)) (omega (arith, ones.1)) seen.0 in
      let from_start : drop r.since history ≡ history = ap (λ (n : ℕ). drop n history) ones.1 in
      (ap (calls_of (own r.numbers)) (sym from_start) ∙ same, calls_made rs history ones.2 seen.1)

  -- each entry is of a caller whose number is below 2^32, and so of one of the callers where no stranger has the others
  all_among : (s : S) (numbers left : List ℕ) (es : List (Entry Q P)) → ((x : ℕ) → x < 2 ^ 32 → 0 < times x left + times x numbers) → Strangers left es → IsLegal act s es → AreAmong numbers es
  all_among s numbers left [] all others legal = tt
  all_among s numbers left (e ∷ es) all others legal =
      let here = all e.caller legal.0.caller in
      (omega (arith, here, others.0), all_among (left_by act s e.request e.moment e.answer) numbers left es all others.1 legal.1)

  split_ones : (p : Standing Q P) (rs qs : List (Standing Q P)) → length p.seen ≡ 0 → AreSplitOff p rs → AllContinue act opening rs qs → AreOnes qs
  unfolding AreOnes
  split_ones p [] [] none off goes = tt
  split_ones p [] (q ∷ qs) none off goes = absurd goes
  split_ones p (r ∷ rs) [] none off goes = absurd goes
  split_ones p (r ∷ rs) (q ∷ qs) none off goes = (
    ap (λ (ns : List ℕ). length ns) goes.0.numbers ∙ off.0.one,
    goes.0.since ∙ (ap (λ (z : Standing Q P). z.since) off.0.same ∙ none),
    split_ones p rs qs none off.1 goes.1,
  )

  split_weighs : (h : ℕ → ℕ) (rs qs : List (Standing Q P)) → AllContinue act opening rs qs → weigh_all h qs ≡ weigh_all h rs
  split_weighs h [] [] goes = refl
  split_weighs h [] (q ∷ qs) goes = absurd goes
  split_weighs h (r ∷ rs) [] goes = absurd goes
  split_weighs h (r ∷ rs) (q ∷ qs) goes =
      let a : weigh h q.numbers ≡ weigh h r.numbers = ap (weigh h) goes.0.numbers in
      let b = split_weighs h rs qs goes.1 in
      omega (arith, a, b)

  split_legal : (p : Standing Q P) (rs qs : List (Standing Q P)) → p.seen ≡ [] → AreSplitOff p rs → AllContinue act opening rs qs → AreLegal act opening qs
  split_legal p [] [] none off goes = tt
  split_legal p [] (q ∷ qs) none off goes = absurd goes
  split_legal p (r ∷ rs) [] none off goes = absurd goes
  split_legal p (r ∷ rs) (q ∷ qs) none off goes =
      let nothing : r.seen ≡ [] = ap (λ (z : Standing Q P). z.seen) off.0.same ∙ none in
      (goes.0.legal (subst (λ (es : List (Entry Q P)). IsLegal act opening es) (sym nothing) tt), split_legal p rs qs none off.1 goes.1)

  -- The passes that were split off from the one that a desk was opened with have been asked and are joined again.
  pub whole_again : (first p q : Standing Q P) (rs qs : List (Standing Q P)) → IsFirst first → AreSplit first p rs → AllContinue act opening rs qs → AreJoined act opening p qs q → IsWhole act opening qs q
  whole_again first p q rs qs is split goes joined = record {
    shares = sym (weigh_length q.numbers) ∙ (weighs (λ _. 1) ∙ (weigh_length (numbers_below 4294967296) ∙ below_length 4294967296));
    legal = legal;
    made = record {
      calls = calls_made qs q.seen ones joined.each;
      apart = λ x.
          let a = times_callers x qs ones in
          let b = below_once x 4294967296 in
          let c = weighs (bit x) in
          let d = joined.numbers (bit x) in
          omega (arith, a, b, c, d);
      no_others = all_among opening (callers qs) p.numbers q.seen
          (λ x below.
          let a = times_callers x qs ones in
          let b = below_there x 4294967296 below in
          let c = weighs (bit x) in
          let d = joined.numbers (bit x) in
          omega (arith, a, b, c, d)) others legal;
    };
  }
    where
      none : p.seen ≡ []
      none = ap (λ (z : Standing Q P). z.seen) split.same ∙ is.seen

      ones : AreOnes qs
      ones = split_ones first rs qs (ap (λ (es : List (Entry Q P)). length es) is.seen) split.each goes

      weighs : (h : ℕ → ℕ) → weigh h q.numbers ≡ weigh h (numbers_below 4294967296)
      weighs h =
          let a = joined.numbers h in
          let b = split.numbers h in
          let c = split_weighs h rs qs goes in
          let d : weigh h first.numbers ≡ weigh h (numbers_below 4294967296) = ap (weigh h) is.numbers in
          omega (arith, a, b, c, d)

      legal : IsLegal act opening q.seen
      legal = joined.legal (subst (λ (es : List (Entry Q P)). IsLegal act opening es) (sym none) tt) (split_legal first rs qs is.seen split.each goes)

      others : Strangers p.numbers q.seen
      others =
          let all : q.seen ≡ joined.seen.rest = sym joined.seen.is ∙ ap (λ (es : List (Entry Q P)). es ++ joined.seen.rest) none in
          subst (λ (es : List (Entry Q P)). Strangers p.numbers es) (sym all) joined.seen.others

  -- each pass at its place is later
  pub all_continue : {W : Type 0} (pass : W → Standing Q P) (old new : List W) → length new ≡ length old → ((k : ℕ) (d : W) → k < length old → Continues act opening (pass (get_or old k d)) (pass (get_or new k d)))
      → AllContinue act opening (map pass old) (map pass new)
  all_continue pass [] [] same each = tt
  all_continue pass [] (n ∷ new) same each = absurd (omega (arith, same))
  all_continue pass (o ∷ old) [] same each = absurd (omega (arith, same))
  all_continue pass (o ∷ old) (n ∷ new) same each = (
    each 0 o (omega arith),
    all_continue pass old new (omega (arith, same)) (λ k d less. each (suc k) d (omega (arith, less))),
  )
