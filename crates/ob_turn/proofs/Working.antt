-- One more job, and none.
use Rattle.std.proofs.Common.{◌≡◌, ℕ, ◌+◌, ◌<◌, List, [], ◌∷◌, ◌++◌, map, set, take, length, get_or, All, IsSome, Some, refl, ap, sym, ◌∙◌, subst, append_assoc}
use Rattle.std.proofs.lemmas.List.{append-nil, take_more_set}
use Rattle.std.proofs.lemmas.List.Elements.{All-nil, All-cons, All-append}
use Rattle.std.proofs.lemmas.Grind.{flat_map-append}
use Rattle.std.proofs.Math.Seq.{map-set_same}
use Rattle.std.specs.List.{flat_map}
use Rattle.ob_machine.specs.declared.call.Answer.{Answer}
use Rattle.ob_machine.specs.declared.call.Entry.{Entry}
use Rattle.ob_machine.specs.History.{entry, IsLegal}
use Rattle.ob_turn.specs.declared.caller.Job.{Job}
use Rattle.ob_turn.specs.Callers.{own}
use Rattle.ob_turn.specs.Standing.{Standing, mine}
use Rattle.ob_turn.specs.Work.{asked, call_for, Continues}

module _ {S Q P : Type 0} (act : S → Q → ℕ → S × P) (opening : S) where
  pub continues_none : (p : Standing Q P) → Continues act opening p p
  continues_none p = record { table = refl; numbers = refl; since = refl; later = ([], append-nil p.seen); legal = λ l. l }

  -- one more call
  pub continues_more : (p q q' : Standing Q P) (between : List (Entry Q P)) (e : Entry Q P) → Continues act opening p q → q' ≡ record q { seen = q'.seen } → q'.seen ≡ (q.seen ++ between) ++ e ∷ []
      → IsLegal act opening q'.seen → Continues act opening p q'
  continues_more p q q' between e w same seen legal = record {
    table = ap (λ z. z.table) same ∙ w.table;
    numbers = ap (λ z. z.numbers) same ∙ w.numbers;
    since = ap (λ z. z.since) same ∙ w.since;
    later = (w.later.0 ++ (between ++ e ∷ []), sym (append_assoc p.seen w.later.0 (between ++ e ∷ [])) ∙ (ap (λ l. l ++ (between ++ e ∷ [])) w.later.1 ∙ (sym (append_assoc q.seen between (e ∷ [])) ∙ sym seen)));
    legal = λ _. legal;
  }

  -- the first i jobs were done
  pub record Working (i : ℕ) (before after : List (Job Q P)) (p q : Standing Q P) : Type 0 where
    pub pass : Continues act opening p q
    pub jobs : map asked after ≡ map asked before
    pub done : All (λ j. IsSome j.answer) (take i after)
    pub calls : mine q ≡ mine p ++ flat_map (call_for (own p.numbers)) (take i after)

  -- the job at i was done, with the answer a
  pub working_more : (i : ℕ) (before after : List (Job Q P)) (d : Job Q P) (a : Answer P) (p q q' : Standing Q P) (between : List (Entry Q P)) → Working i before after p q → i < length after
      → q' ≡ record q { seen = q'.seen } → q'.seen ≡ (q.seen ++ between) ++ entry (own q.numbers) (get_or after i d).request (get_or after i d).moment a ∷ [] → IsLegal act opening q'.seen
      → mine q' ≡ mine q ++ entry (own q.numbers) (get_or after i d).request (get_or after i d).moment a ∷ []
      → Working (i + 1) before (set after i record { request = (get_or after i d).request; moment = (get_or after i d).moment; answer = Some a }) p q'
  working_more i before after d a p q q' between w le same seen legal calls =
      let j : Job Q P = get_or after i d in
      let k : Job Q P = record { request = j.request; moment = j.moment; answer = Some a } in
      let longer : take (i + 1) (set after i k) ≡ take i after ++ k ∷ [] = take_more_set after i k le in
      let one : All (λ (x : Job Q P). IsSome x.answer) (k ∷ []) = All-cons (λ (x : Job Q P). IsSome x.answer) k [] refl (All-nil (λ (x : Job Q P). IsSome x.answer)) in
      let number : own q.numbers ≡ own p.numbers = ap own w.pass.numbers in
      let more : flat_map (call_for (own p.numbers)) (take i after ++ k ∷ []) ≡ flat_map (call_for (own p.numbers)) (take i after) ++ entry (own p.numbers) j.request j.moment a ∷ [] =
      flat_map-append (call_for (own p.numbers)) (take i after) (k ∷ []) in record {
        pass = continues_more p q q' between (entry (own q.numbers) j.request j.moment a) w.pass same seen legal;
        jobs = map-set_same asked after i k d refl ∙ w.jobs;
        done = subst (All (λ (x : Job Q P). IsSome x.answer)) (sym longer) (All-append (λ (x : Job Q P). IsSome x.answer) (take i after) (k ∷ []) w.done one);
        calls = calls ∙ (ap (λ n. mine q ++ entry n j.request j.moment a ∷ []) number
            ∙ (ap (λ l. l ++ entry (own p.numbers) j.request j.moment a ∷ []) w.calls
            ∙ (append_assoc (mine p) (flat_map (call_for (own p.numbers)) (take i after)) (entry (own p.numbers) j.request j.moment a ∷ [])
            ∙ ap (λ l. mine p ++ l) (sym more ∙ ap (flat_map (call_for (own p.numbers))) (sym longer)))));
      }
