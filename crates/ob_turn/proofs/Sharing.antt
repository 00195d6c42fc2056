-- A seat that is cut in two, two seats that are joined, and the look after it keep the rule of the turn.
use Rattle.std.proofs.Common.{◌≡◌, ℕ, zero, suc, ◌<◌, ◌≤◌, ◌≢◌, true, false, List, [], ◌∷◌, ◌++◌, length, take, drop, set, refl, ap, sym, ◌∙◌, subst, arith, inl, inr, ⊎_elim, Option}
use mathlib.Core.Option.{some, none, some-injective}
use lib.ListN.{get_elem?}
use Rattle.atomic_table.specs.Table.{State, Me, keeps, step, Allows, Splits, Joins}
use Rattle.atomic_table.proofs.Lists.{at_snoc, at_longer, set_else}
use Rattle.ob_machine.specs.declared.call.Entry.{Entry}
use Rattle.ob_turn.specs.declared.known.Known.{Known}
use Rattle.ob_turn.specs.Callers.{numbers_below, weigh, own, Among, calls_of, HasSeen}
use Rattle.ob_turn.specs.Turn.{weigh_all, known, AllSeen, Agrees, kept_view, cut_view, longer, both_views, spent_view, AtHome, Away, Saw, Looks}
use Rattle.ob_turn.proofs.Numbers.{bit, weigh_append, weigh_cut, weigh_set, weigh_same, weigh_one, weigh_length, below_length, weigh_snoc}
use Rattle.ob_turn.proofs.Histories.{strangers_none, strangers_among, seen_both, seen_within, longer_first, longer_second, mine_same}
use Rattle.ob_turn.proofs.Steps.{Rule, Goes, state, views_after}

among_take : (k : ℕ) (ns : List ℕ) → Among (take k ns) ns
among_take k ns x = let a = weigh_cut (bit x) k ns in omega arith

among_drop : (k : ℕ) (ns : List ℕ) → Among (drop k ns) ns
among_drop k ns x = let a = weigh_cut (bit x) k ns in omega arith

module _ {M Q P : Type 0} (act : M → Q → ℕ → M × P) (opening : M) where
  abbrev V : Type 0
  V = Known Q P

  abbrev St : Type 0
  St = State (Option M) V

  few : (ns ms : List ℕ) (seen log : List (Entry Q P)) → Among ms ns → HasSeen ns seen log → HasSeen ms seen log
  few ns ms seen log a h = record { rest = h.rest; is = h.is; others = strangers_among ns ms h.rest a h.others }

  -- a property of each view, where one more comes
  views_more : (F : V → Type 0) (vs : List V) (w : V) → F w → ((k : ℕ) (v : V) → get_elem? vs k ≡ some v → F v) → (k : ℕ) (v : V) → get_elem? (vs ++ w ∷ []) k ≡ some v → F v
  views_more F vs w here others k v e = ⊎_elim (others k v) (λ (t : w ≡ v). subst F t here) (at_snoc vs w v k e)

  pub splits : (k id : ℕ) (v : V) → v.has_turn ≡ false → v.pasts ≡ [] → Splits (Rule act opening) id v (kept_view k v) (cut_view k v)
  splits k id v quiet alone s r at =
      let w : V = kept_view k v in let x : V = cut_view k v in
      let a : Agrees r.log v = r.views id v at in
      let vs : List V = set s.views id w in
      let here : Agrees r.log w = record {
        seen = few v.numbers w.numbers v.seen r.log (among_take k v.numbers) a.seen;
        pasts = subst (λ p. AllSeen w.numbers p r.log) (sym alone) tt;
        at_turn = λ yes. absurd (cc (quiet, yes));
      } in
      let new : Agrees r.log x = record { seen = few v.numbers x.numbers v.seen r.log (among_drop k v.numbers) a.seen; pasts = tt; at_turn = λ yes. absurd (cc yes) } in record {
        log = r.log;
        legal = r.legal;
        views = views_more (Agrees r.log) vs x new (views_after act opening (λ j y. Agrees r.log y) s.views id w here (λ j y _. r.views j y));
        numbers = λ h. let b = weigh_snoc h vs x in let c = weigh_set h s.views id v w at in let d = weigh_cut h k v.numbers in let e = r.numbers h in omega arith;
        turn = ⊎_elim
            (λ (home : AtHome act opening r.log s). inl record {
              word = home.word;
              machine = home.machine;
              nobody = views_more (λ y. y.has_turn ≡ false) vs x refl (views_after act opening (λ j y. y.has_turn ≡ false) s.views id w quiet (λ j y _. home.nobody j y));
            })
            (λ (away : Away act r.log s).
            let other : away.holder ≢ id = λ is. absurd (cc (ap (λ (z : V). z.has_turn) (some-injective away.view v (sym away.there ∙ (ap (get_elem? s.views) is ∙ at))), away.turn, quiet)) in inr record {
              mark = away.mark;
              taken = away.taken;
              word = away.word;
              machine = away.machine;
              holder = away.holder;
              view = away.view;
              there = at_longer vs (x ∷ []) away.holder away.view (set_else s.views id away.holder w other ∙ away.there);
              turn = away.turn;
              seen = away.seen;
              only = λ j y e yes. ⊎_elim (λ (old : get_elem? vs j ≡ some y). views_after act opening (λ i z. z.has_turn ≡ true → i ≡ away.holder) s.views id w (λ z. absurd (cc (quiet, z))) (λ i z _. away.only i z) j y old yes)
                  (λ (t : x ≡ y). absurd (cc (ap (λ (z : V). z.has_turn) t, yes))) (at_snoc vs x y j e);
            })
            r.turn;
      }

  pub joins : (id : ℕ) (v : V) (other : ℕ) (w : V) → v.has_turn ≡ false → w.has_turn ≡ false → Joins (Rule act opening) id v other w (both_views v w) spent_view
  joins id v other w quiet calm s r at apart there' =
      let b : V = both_views v w in
      let vs : List V = set s.views id b in
      let there : get_elem? s.views other ≡ some w = sym (set_else s.views id other b apart) ∙ there' in
      let av : Agrees r.log v = r.views id v at in
      let aw : Agrees r.log w = r.views other w there in
      let here : Agrees r.log b = record {
        seen = seen_both v.numbers w.numbers v.seen w.seen r.log av.seen aw.seen;
        pasts = ((λ x. let e = weigh_append (bit x) v.numbers w.numbers in omega arith), av.seen, ((λ x. let e = weigh_append (bit x) v.numbers w.numbers in omega arith), aw.seen, tt));
        at_turn = λ yes. absurd (cc (quiet, yes));
      } in
      let gone : Agrees r.log spent_view = record { seen = record { rest = r.log; is = refl; others = strangers_none r.log }; pasts = tt; at_turn = λ yes. absurd (cc yes) } in record {
        log = r.log;
        legal = r.legal;
        views = views_after act opening (λ j y. Agrees r.log y) vs other spent_view gone (λ i z _. views_after act opening (λ j y. Agrees r.log y) s.views id b here (λ j y _. r.views j y) i z);
        numbers = λ h. let p = weigh_set h s.views id v b at in let q = weigh_set h vs other w spent_view there' in let d = weigh_append h v.numbers w.numbers in let e = r.numbers h in omega arith;
        turn = ⊎_elim
            (λ (home : AtHome act opening r.log s). inl record {
              word = home.word;
              machine = home.machine;
              nobody = views_after act opening (λ j y. y.has_turn ≡ false) vs other spent_view refl (λ i z _. views_after act opening (λ j y. y.has_turn ≡ false) s.views id b quiet (λ j y _. home.nobody j y) i z);
            })
            (λ (away : Away act r.log s).
            let one : away.holder ≢ id = λ is. absurd (cc (ap (λ (z : V). z.has_turn) (some-injective away.view v (sym away.there ∙ (ap (get_elem? s.views) is ∙ at))), away.turn, quiet)) in
            let two : away.holder ≢ other = λ is. absurd (cc (ap (λ (z : V). z.has_turn) (some-injective away.view w (sym away.there ∙ (ap (get_elem? s.views) is ∙ there))), away.turn, calm)) in inr record {
              mark = away.mark;
              taken = away.taken;
              word = away.word;
              machine = away.machine;
              holder = away.holder;
              view = away.view;
              there = set_else vs other away.holder spent_view two ∙ (set_else s.views id away.holder b one ∙ away.there);
              turn = away.turn;
              seen = away.seen;
              only = views_after act opening (λ i z. z.has_turn ≡ true → i ≡ away.holder) vs other spent_view (λ z. absurd (cc z))
                  (λ j y _. views_after act opening (λ i z. z.has_turn ≡ true → i ≡ away.holder) s.views id b (λ z. absurd (cc (quiet, z))) (λ i z _. away.only i z) j y);
            })
            r.turn;
      }

  at_most : (s : St) (r : Rule act opening s) (id : ℕ) (v : V) → get_elem? s.views id ≡ some v → length v.numbers ≤ 4294967296
  at_most s r id v at =
      let a : weigh (λ _. 1) v.numbers ≤ weigh_all (λ _. 1) s.views = weigh_one (λ _. 1) s.views id v at in
      let b : weigh_all (λ _. 1) s.views ≡ 4294967296 = r.numbers (λ _. 1) ∙ (weigh_length (numbers_below 4294967296) ∙ below_length 4294967296) in
      let c = weigh_length v.numbers in
      omega arith

  look_at : (slots id : ℕ) (me : Me (Option M) V) (s : St) (r : Rule act opening s) → get_elem? s.views id ≡ some me.0 → me.0.has_turn ≡ false → (word : ℕ) → (s.words ≡ word ∷ [])
      → Goes act opening id me (λ n. n) (Looks (step slots 0 0 0 none) me) (state act opening (word ∷ []) s.homes s.views)
  look_at slots id me s r at quiet word is =
      let a : Agrees r.log me.0 = r.views id me.0 at in
      let w : V = known me.0.numbers me.0.since me.0.seen me.0.has_turn [] in
      let here : Agrees r.log w = record { seen = a.seen; pasts = tt; at_turn = λ yes. absurd (cc (quiet, yes)) } in (
        w,
        keeps,
        tt,
        record {
          log = r.log;
          legal = r.legal;
          views = views_after act opening (λ j y. Agrees r.log y) s.views id w here (λ j y _. r.views j y);
          numbers = λ h. weigh_same h s.views id me.0 w at refl ∙ r.numbers h;
          turn = ⊎_elim
              (λ (home : AtHome act opening r.log s). inl record {
                word = sym is ∙ home.word;
                machine = home.machine;
                nobody = views_after act opening (λ j y. y.has_turn ≡ false) s.views id w quiet (λ j y _. home.nobody j y);
              })
              (λ (away : Away act r.log s).
              let other : away.holder ≢ id = λ same. absurd (cc (ap (λ (z : V). z.has_turn) (some-injective away.view me.0 (sym away.there ∙ (ap (get_elem? s.views) same ∙ at))), away.turn, quiet)) in inr record {
                mark = away.mark;
                taken = away.taken;
                word = sym is ∙ away.word;
                machine = away.machine;
                holder = away.holder;
                view = away.view;
                there = set_else s.views id away.holder w other ∙ away.there;
                turn = away.turn;
                seen = away.seen;
                only = views_after act opening (λ i z. z.has_turn ≡ true → i ≡ away.holder) s.views id w (λ z. absurd (cc (quiet, z))) (λ i z _. away.only i z);
              })
              r.turn;
        },
        (refl, record { log = r.log; seen = a.seen; pasts = a.pasts; count = at_most s r id me.0 at }),
      )

  pub looks : (slots id : ℕ) (me : Me (Option M) V) → me.0.has_turn ≡ false → Allows (Rule act opening) slots id me 0 (λ n. n) (Looks (step slots 0 0 0 none) me)
  looks slots id me quiet s r _ at _ = ⊎_elim
      (λ (home : AtHome act opening r.log s). subst (Goes act opening id me (λ n. n) (Looks (step slots 0 0 0 none) me)) (λ i. state act opening (sym home.word i) s.homes s.views) (look_at slots id me s r at quiet 0 home.word))
      (λ (away : Away act r.log s). subst (Goes act opening id me (λ n. n) (Looks (step slots 0 0 0 none) me)) (λ i. state act opening (sym away.word i) s.homes s.views) (look_at slots id me s r at quiet away.mark away.word))
      r.turn

-- what the look tells of the two histories
pub joined_first : {Q P : Type 0} (v w : Known Q P) → Saw (both_views v w) → HasSeen v.numbers v.seen (longer v.seen w.seen)
joined_first v w s = seen_within v.numbers v.seen (longer v.seen w.seen) s.seen.rest s.log s.pasts.1 s.seen.is (longer_first v.seen w.seen)

pub joined_second : {Q P : Type 0} (v w : Known Q P) → Saw (both_views v w) → HasSeen w.numbers w.seen (longer v.seen w.seen)
joined_second v w s = seen_within w.numbers w.seen (longer v.seen w.seen) s.seen.rest s.log s.pasts.2.1 s.seen.is (longer_second v.seen w.seen)

own_append : (ns ms : List ℕ) → 0 < length ns → own (ns ++ ms) ≡ own ns
own_append [] ms h = absurd (omega arith)
own_append (n ∷ ns) ms h = refl

pub joined_mine : {Q P : Type 0} (v w : Known Q P) → 0 < length v.numbers → v.since ≤ length v.seen → Saw (both_views v w)
    → calls_of (own (v.numbers ++ w.numbers)) (drop v.since (longer v.seen w.seen)) ≡ calls_of (own v.numbers) (drop v.since v.seen)
joined_mine v w some_numbers le s = ap (λ n. calls_of n (drop v.since (longer v.seen w.seen))) (own_append v.numbers w.numbers some_numbers) ∙ mine_same v.numbers v.since v.seen (longer v.seen w.seen) some_numbers le (joined_first v w s)

pub own_take : (k : ℕ) (ns : List ℕ) → 0 < k → own (take k ns) ≡ own ns
own_take zero ns h = absurd (omega arith)
own_take (suc k) [] h = refl
own_take (suc k) (n ∷ ns) h = refl
