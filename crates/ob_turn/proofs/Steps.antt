-- Each step of the turn keeps its rule.
use Rattle.std.proofs.Common.{◌≡◌, ℕ, ◌+◌, ◌<◌, ◌≤◌, ◌≢◌, ◌^◌, ◌==◌, true, false, List, [], ◌∷◌, ◌++◌, length, set, get_or, refl, ap, sym, ◌∙◌, subst, arith, inl, inr, ⊎_elim, Some, Option, MatchBool, IfSome}
use Rattle.std.proofs.lemmas.Bool.Decides.{nat_tests}
use Rattle.std.proofs.lemmas.List.{append-nil}
use mathlib.Core.Logic.{dite}
use native.Mathlib.Decide.{dec_le, ℕ_discrete}
use mathlib.Core.Option.{some, none, some-injective}
use mathlib.Core.Option as slot
use lib.ListN.{get_elem?}
use prog.Atomic.{either}
use Rattle.atomic_table.specs.Table.{State, Me, Act, Step, keeps, takes, gives, step, Valid, carried_after, stepped, Allows, Final, Seen, rest}
use Rattle.atomic_table.specs.Table as table
use Rattle.atomic_table.proofs.Lists.{at_set, set_again}
use Rattle.ob_machine.specs.declared.call.Entry.{Entry}
use Rattle.ob_machine.specs.declared.call.Answer.{Answer}
use Rattle.ob_turn.specs.declared.known.Known.{Known}
use Rattle.ob_turn.specs.declared.known.Past.{Past}
use Rattle.ob_turn.specs.Callers.{numbers_below, weigh, times, own, Strangers}
use Rattle.ob_machine.specs.History.{entry, left_by, IsAnswer, IsCall, after, IsLegal}
use Rattle.ob_turn.specs.Turn.{weigh_all, known, AllSeen, Agrees, AtHome, Away, Kept, Took, Takes, Ends}
use Rattle.ob_turn.proofs.Numbers.{weigh_same, weigh_two, weigh_one, weigh_alone, weigh_length, below_once, below_none, below_there, own_there, set_there, bit, not_true, below_length, only_view}
use Rattle.ob_machine.proofs.HistoryLemmas.{after-snoc, legal_snoc, legal_back}
use Rattle.ob_times.specs.Times.{IsMoment}
use Rattle.ob_turn.proofs.Histories.{seen_snoc, all_seen_snoc}

module _ {M Q P : Type 0} (act : M → Q → ℕ → M × P) (opening : M) where
  abbrev pub V : Type 0
  V = Known Q P

  abbrev pub S : Type 0
  S = Option M

  abbrev pub St : Type 0
  St = State S V

  abbrev pub Rule : St → Type 0
  Rule = Kept act opening

  -- a property of each view, where one view changes
  pub views_after : (F : ℕ → V → Type 0) (vs : List V) (id : ℕ) (w : V) → F id w → ((k : ℕ) (v : V) → k ≢ id → get_elem? vs k ≡ some v → F k v) → (k : ℕ) (v : V) → get_elem? (set vs id w) k ≡ some v → F k v
  views_after F vs id w here others k v e = ⊎_elim (λ (t : (k ≡ id) × (w ≡ v)). subst (λ (z : ℕ × V). F z.0 z.1) (λ i. (sym t.0 i, t.1 i)) here)
      (λ (t : (k ≢ id) × (get_elem? vs k ≡ some v)). others k v t.0 t.1) (at_set vs id k w v e)

  abbrev pub state : List ℕ → List (slot.Option S) → List V → St
  state ws hs vs = record { words = ws; homes = hs; views = vs }

  abbrev pub Goes : ℕ → Me S V → (ℕ → ℕ) → (ℕ → Me S V → Type 0) → St → Type 0
  Goes id me f then s = (w : V) × (a : Act S) × Valid s.homes me.1 a × Rule (stepped s 0 (f (get_or s.words 0 0)) id me.1 w a) × then (get_or s.words 0 0) (w, carried_after me.1 a)

  -- a step on the word that takes the turn where it was 0: f gives what the word becomes, and keeps a taken turn taken
  module _ (f : ℕ → ℕ) (new : 0 < f 0) (stays : (k : ℕ) → 0 < k → 0 < f k) where
    takes_home : (st : Step S) (id : ℕ) (me : Me S V) (s : St) (r : Rule s) → get_elem? s.views id ≡ some me.0 → me.0.pasts ≡ [] → 0 < length me.0.numbers
        → AtHome act opening r.log s → Goes id me f (Takes act (Some opening) st me) (state (0 ∷ []) (some (Some (after act opening r.log)) ∷ []) s.views)
    takes_home st id me s r at alone some_numbers home =
        let a : Agrees r.log me.0 = r.views id me.0 at in
        let all : List (Entry Q P) = me.0.seen ++ a.seen.rest in
        let w : V = known me.0.numbers me.0.since all true me.0.pasts in (
          w,
          takes 0 (Some (after act opening r.log)),
          refl,
          record {
            log = r.log;
            legal = r.legal;
            views = views_after (λ k v. Agrees r.log v) s.views id w
                record { seen = record { rest = []; is = append-nil all ∙ a.seen.is; others = tt }; pasts = a.pasts; at_turn = λ _. (alone, some_numbers) }
                (λ k v _. r.views k v);
            numbers = λ h. weigh_same h s.views id me.0 w at refl ∙ r.numbers h;
            turn = inr record {
              mark = f 0;
              taken = new;
              word = refl;
              machine = refl;
              holder = id;
              view = w;
              there = set_there s.views id me.0 w at;
              turn = refl;
              seen = a.seen.is;
              only = views_after (λ k v. v.has_turn ≡ true → k ≡ id) s.views id w (λ _. refl) (λ k v _ e yes. absurd (cc (home.nobody k v e, yes)));
            };
          },
          record {
            between = a.seen.rest;
            others = a.seen.others;
            legal = subst (IsLegal act opening) (sym a.seen.is) r.legal;
            now = λ i. (w, (0, Some (after act opening (sym a.seen.is i))) ∷ me.1);
          },
        )

    takes_away : (st : Step S) (id : ℕ) (me : Me S V) (s : St) (r : Rule s) → get_elem? s.views id ≡ some me.0
        → (away : Away act r.log s) → Goes id me f (Takes act (Some opening) st me) (state (away.mark ∷ []) (none ∷ []) s.views)
    takes_away st id me s r at away =
        let there : Rule (state (f away.mark ∷ []) (none ∷ []) s.views) = record {
          log = r.log;
          legal = r.legal;
          views = r.views;
          numbers = r.numbers;
          turn = inr record {
            mark = f away.mark;
            taken = stays away.mark away.taken;
            word = refl;
            machine = refl;
            holder = away.holder;
            view = away.view;
            there = away.there;
            turn = away.turn;
            seen = away.seen;
            only = away.only;
          };
        } in
        let up : 0 < away.mark = away.taken in
        let not_free : (away.mark == 0) ≡ false = grind (arith, nat_tests) in (
          me.0,
          keeps,
          tt,
          subst Rule (λ i. state (f away.mark ∷ []) (none ∷ []) (sym (set_again s.views id me.0 at) i)) there,
          subst (λ b. MatchBool b (IfSome (Some opening) (λ o. Took act o me me)) (me ≡ me)) (sym not_free) refl,
        )

    pub takes_turn : (st : Step S) (id : ℕ) (me : Me S V) → me.0.pasts ≡ [] → 0 < length me.0.numbers → (slots : ℕ) → Allows Rule slots id me 0 f (Takes act (Some opening) st me)
    takes_turn st id me alone some_numbers slots s r _ at _ = ⊎_elim
        (λ (home : AtHome act opening r.log s). subst (Goes id me f (Takes act (Some opening) st me)) (λ i. state (sym home.word i) (sym home.machine i) s.views)
        (takes_home st id me s r at alone some_numbers home))
        (λ (away : Away act r.log s). subst (Goes id me f (Takes act (Some opening) st me)) (λ i. state (sym away.word i) (sym away.machine i) s.views)
        (takes_away st id me s r at away))
        r.turn

    takes_turn_of : (o : Option M) → o ≡ Some opening → (st : Step S) (id : ℕ) (me : Me S V) → me.0.pasts ≡ [] → 0 < length me.0.numbers → (slots : ℕ) → Allows Rule slots id me 0 f (Takes act o st me)
    takes_turn_of o is st id me alone some_numbers slots = subst (λ (z : Option M). Allows Rule slots id me 0 f (Takes act z st me)) (sym is) (takes_turn st id me alone some_numbers slots)

  stays_taken : (k : ℕ) → 0 < k → 0 < either (k == 0) 1 k
  stays_taken k up = let not_free : (k == 0) ≡ false = grind (arith, nat_tests) in rw not_free up

  pub tries_turn : (o : Option M) → o ≡ Some opening → (slots id : ℕ) (me : Me S V) → me.0.pasts ≡ [] → 0 < length me.0.numbers → Allows Rule slots id me 0 (λ n. either (n == 0) 1 n) (Takes act o (step slots 0 0 1 none) me)
  tries_turn o is slots id me alone some_numbers = takes_turn_of (λ n. either (n == 0) 1 n) (omega arith) stays_taken o is (step slots 0 0 1 none) id me alone some_numbers slots

  pub awaits_turn : (o : Option M) → o ≡ Some opening → (slots id : ℕ) (me : Me S V) → me.0.pasts ≡ [] → 0 < length me.0.numbers → Allows Rule slots id me 0 (λ _. 2) (Takes act o (step slots 0 2 0 none) me)
  awaits_turn o is slots id me alone some_numbers = takes_turn_of (λ _. 2) (omega arith) (λ _ _. omega arith) o is (step slots 0 2 0 none) id me alone some_numbers slots

  own_low : (s : St) (r : Rule s) (id : ℕ) (v : V) → get_elem? s.views id ≡ some v → 0 < length v.numbers → own v.numbers < 2 ^ 32
  own_low s r id v at some_numbers =
      let x : ℕ = own v.numbers in
      let a : 0 < times x v.numbers = own_there v.numbers some_numbers in
      let b : times x v.numbers ≤ weigh_all (bit x) s.views = weigh_one (bit x) s.views id v at in
      let c : weigh_all (bit x) s.views ≡ times x (numbers_below 4294967296) = r.numbers (bit x) in
      dite (dec_le 4294967296 x)
      (λ high. let d : times x (numbers_below 4294967296) ≡ 0 = below_none x 4294967296 high in absurd (omega arith))
      (λ low. omega arith)

  -- the own number of one view is no number of another
  own_alone : (s : St) (r : Rule s) (id k : ℕ) (v w : V) → k ≢ id → get_elem? s.views id ≡ some v → get_elem? s.views k ≡ some w → 0 < length v.numbers → times (own v.numbers) w.numbers ≡ 0
  own_alone s r id k v w other at there some_numbers =
      let x : ℕ = own v.numbers in
      let a : 0 < times x v.numbers = own_there v.numbers some_numbers in
      let b : times x w.numbers + times x v.numbers ≤ weigh_all (bit x) s.views = weigh_two (bit x) s.views k id w v other there at in
      let c : weigh_all (bit x) s.views ≡ times x (numbers_below 4294967296) = r.numbers (bit x) in
      let d : times x (numbers_below 4294967296) ≤ 1 = below_once x 4294967296 in
      omega arith

  module _ (id : ℕ) (v : V) (q : Q) (t : ℕ) (answer : Answer P) where
    abbrev new_entry : Entry Q P
    new_entry = entry (own v.numbers) q t answer

    abbrev ended : V
    ended = known v.numbers v.since (v.seen ++ new_entry ∷ []) false v.pasts

    ends_away : (slots : ℕ) (s : St) (r : Rule s) (m : M) → get_elem? s.views id ≡ some v → v.has_turn ≡ true → v.pasts ≡ [] → 0 < length v.numbers
        → v.seen ≡ r.log → ((k : ℕ) (w : V) → get_elem? s.views k ≡ some w → w.has_turn ≡ true → k ≡ id)
        → IsMoment t → IsAnswer act (after act opening v.seen) q t answer → m ≡ left_by act (after act opening v.seen) q t answer
        → (mark : ℕ) → Goes id (v, (0, Some m) ∷ []) (λ _. 0) (Ends act (Some opening) (new_entry ∷ []) (step slots 0 0 0 none) (v, (0, Some m) ∷ [])) (state (mark ∷ []) (none ∷ []) s.views)
    ends_away slots s r m at turn alone some_numbers all only time right is mark =
        let log : List (Entry Q P) = v.seen ++ new_entry ∷ [] in
        let longer : r.log ++ new_entry ∷ [] ≡ log = ap (λ l. l ++ new_entry ∷ []) (sym all) in
        let legal : IsLegal act opening v.seen = subst (IsLegal act opening) (sym all) r.legal in
        let call : IsCall act (after act opening v.seen) new_entry = record { caller = own_low s r id v at some_numbers; moment = time; answer = right } in
        let left : after act opening log ≡ m = after-snoc act opening v.seen new_entry ∙ sym is in (
          ended,
          gives,
          tt,
          record {
            log = log;
            legal = legal_snoc act opening v.seen new_entry legal call;
            views = views_after (λ k w. Agrees log w) s.views id ended
                record { seen = record { rest = []; is = append-nil log; others = tt }; pasts = subst (λ (p : List (Past Q P)). AllSeen v.numbers p log) (sym alone) tt; at_turn = λ no. absurd (cc no) }
                (λ k w other there. let a : Agrees r.log w = r.views k w there in let n = own_alone s r id k v w other at there some_numbers in
                subst (λ (l : List (Entry Q P)). Agrees l w) longer
                record { seen = seen_snoc w.numbers w.seen r.log new_entry a.seen n; pasts = all_seen_snoc w.numbers w.pasts r.log new_entry a.pasts n; at_turn = a.at_turn });
            numbers = λ h. weigh_same h s.views id v ended at refl ∙ r.numbers h;
            turn = inl record {
              word = refl;
              machine = ap (λ z. some (Some z) ∷ []) (sym left);
              nobody = views_after (λ k w. w.has_turn ≡ false) s.views id ended refl (λ k w other there. not_true w.has_turn (λ yes. other (only k w there yes)));
            };
          },
          (refl, legal_snoc act opening v.seen new_entry legal call),
        )

  pub ends_turn : (slots id : ℕ) (me : Me S V) (q : Q) (t : ℕ) (answer : Answer P) (es : List (Entry Q P)) → me.0.has_turn ≡ true → me.0.pasts ≡ [] → 0 < length me.0.numbers
      → es ≡ entry (own me.0.numbers) q t answer ∷ [] → IsMoment t → IsAnswer act (after act opening me.0.seen) q t answer
      → me.1 ≡ (0, Some (left_by act (after act opening me.0.seen) q t answer)) ∷ []
      → Allows Rule slots id me 0 (λ _. 0) (Ends act (Some opening) es (step slots 0 0 0 none) me)
  ends_turn slots id me q t answer es turn alone some_numbers adds time right holds s r _ at _ = ⊎_elim
      (λ (home : AtHome act opening r.log s). absurd (cc (home.nobody id me.0 at, turn)))
      (λ (away : Away act r.log s). let mine : id ≡ away.holder = away.only id me.0 at turn in
      let same : away.view ≡ me.0 = some-injective away.view me.0 (sym away.there ∙ (ap (get_elem? s.views) (sym mine) ∙ at)) in
      let all : me.0.seen ≡ r.log = ap (λ (z : V). z.seen) (sym same) ∙ away.seen in
      let only : (k : ℕ) (w : V) → get_elem? s.views k ≡ some w → w.has_turn ≡ true → k ≡ id = λ k w there yes. away.only k w there yes ∙ sym mine in
      let m : M = left_by act (after act opening me.0.seen) q t answer in
      let went = ends_away id me.0 q t answer slots s r m at turn alone some_numbers all only time right refl away.mark in
      subst (λ (z : List (ℕ × S) × List (Entry Q P)). Goes id (me.0, z.0) (λ _. 0) (Ends act (Some opening) z.1 (step slots 0 0 0 none) (me.0, z.0)) s) (λ i. (sym holds i, sym adds i))
      (subst (Goes id (me.0, (0, Some m) ∷ []) (λ _. 0) (Ends act (Some opening) (entry (own me.0.numbers) q t answer ∷ []) (step slots 0 0 0 none) (me.0, (0, Some m) ∷ []))) (λ i. state (sym away.word i) (sym away.machine i) s.views) went))
      r.turn

  pub ends_turn_of : (o : Option M) → o ≡ Some opening → (slots id : ℕ) (me : Me S V) (q : Q) (t : ℕ) (answer : Answer P) (es : List (Entry Q P)) → me.0.has_turn ≡ true → me.0.pasts ≡ [] → 0 < length me.0.numbers
      → es ≡ entry (own me.0.numbers) q t answer ∷ [] → IsMoment t → IsAnswer act (after act opening me.0.seen) q t answer
      → me.1 ≡ (0, Some (left_by act (after act opening me.0.seen) q t answer)) ∷ []
      → Allows Rule slots id me 0 (λ _. 0) (Ends act o es (step slots 0 0 0 none) me)
  ends_turn_of o is slots id me q t answer es turn alone some_numbers adds time right holds =
      subst (λ (z : Option M). Allows Rule slots id me 0 (λ _. 0) (Ends act z es (step slots 0 0 0 none) me)) (sym is) (ends_turn slots id me q t answer es turn alone some_numbers adds time right holds)

  pub starts : (m : M) → m ≡ opening → Rule (table.opening (0 ∷ []) (Some m ∷ []) (known (numbers_below 4294967296) 0 [] false []))
  starts m is = record {
    log = [];
    legal = tt;
    views = λ k v at. only_view (known (numbers_below 4294967296) 0 [] false []) k v at (Agrees []) record { seen = record { rest = []; is = refl; others = tt }; pasts = tt; at_turn = λ no. absurd (cc no) };
    numbers = λ h. omega arith;
    turn = inl record {
      word = refl;
      machine = ap (λ z. some (Some z) ∷ []) is;
      nobody = λ k v at. only_view (known (numbers_below 4294967296) 0 [] false []) k v at (λ w. w.has_turn ≡ false) refl;
    };
  }

  -- the view that has all numbers has seen all
  saw_all : (s : St) (r : Rule s) (id : ℕ) (v : V) → get_elem? s.views id ≡ some v → length v.numbers ≡ 4294967296 → (es : List (Entry Q P)) → v.seen ++ es ≡ r.log → Strangers v.numbers es → v.seen ≡ r.log
  saw_all s r id v at all [] is others = sym (append-nil v.seen) ∙ is
  saw_all s r id v at all (e ∷ es) is others =
      let low : e.caller < 4294967296 = (legal_back act opening v.seen (e ∷ es) (subst (IsLegal act opening) (sym is) r.legal)).0.caller in
      let one : weigh_all (λ _. 1) s.views ≡ weigh (λ _. 1) v.numbers = r.numbers (λ _. 1) ∙ (weigh_length (numbers_below 4294967296) ∙ (below_length 4294967296 ∙ (sym all ∙ sym (weigh_length v.numbers)))) in
      let a : weigh_all (bit e.caller) s.views ≡ times e.caller v.numbers = weigh_alone (bit e.caller) s.views id v at one in
      let b : weigh_all (bit e.caller) s.views ≡ times e.caller (numbers_below 4294967296) = r.numbers (bit e.caller) in
      let c : 0 < times e.caller (numbers_below 4294967296) = below_there e.caller 4294967296 low in
      let d : times e.caller v.numbers ≡ 0 = others.0 in
      absurd (omega arith)

  nobody_else : (s : St) (r : Rule s) (id : ℕ) (v : V) → get_elem? s.views id ≡ some v → length v.numbers ≡ 4294967296 → v.has_turn ≡ false → Away act r.log s → ⊥
  nobody_else s r id v at all quiet away = dite (ℕ_discrete id away.holder)
      (λ is. let same : away.view ≡ v = some-injective away.view v (sym away.there ∙ (ap (get_elem? s.views) (sym is) ∙ at)) in
      absurd (cc (ap (λ (z : V). z.has_turn) same, away.turn, quiet)))
      (λ other. let a : weigh (λ _. 1) v.numbers + weigh (λ _. 1) away.view.numbers ≤ weigh_all (λ _. 1) s.views = weigh_two (λ _. 1) s.views id away.holder v away.view other at away.there in
      let b : weigh_all (λ _. 1) s.views ≡ 4294967296 = r.numbers (λ _. 1) ∙ (weigh_length (numbers_below 4294967296) ∙ below_length 4294967296) in
      let c = weigh_length v.numbers in let d = weigh_length away.view.numbers in
      let e : 0 < length away.view.numbers = ((r.views away.holder away.view away.there).at_turn away.turn).1 in
      omega arith)

  pub closes : (id : ℕ) (v : V) (ws : List ℕ) (xs : List S) → v.has_turn ≡ false → length v.numbers ≡ 4294967296 → Final (Seen Rule id v) ws xs → get_elem? xs 0 ≡ some (Some (after act opening v.seen))
  closes id v ws xs quiet all f = let s = f.0 in let r = f.1.0 in let at = f.1.1 in ⊎_elim
      (λ (home : AtHome act opening r.log s). let a : Agrees r.log v = r.views id v at in
      let same : v.seen ≡ r.log = saw_all s r id v at all a.seen.rest a.seen.is a.seen.others in
      f.4 0 (Some (after act opening v.seen)) (ap (λ hs. get_elem? hs 0) home.machine ∙ (λ i. some (some (Some (after act opening (sym same i)))))))
      (λ (away : Away act r.log s). absurd (nobody_else s r id v at all quiet away))
      r.turn
