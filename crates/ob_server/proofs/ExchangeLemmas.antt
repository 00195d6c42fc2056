-- One request more, and the requests of several exchanges.
use Rattle.std.proofs.Common.{◌≡◌, ℕ, List, [], ◌∷◌, ◌++◌, Option, Result, Ok, Err, refl, sym, ap, subst, ◌∙◌, append_assoc, append-nil, inl, inr, true, false, Some, None, length, length-append, arith, ◌+◌}
use Rattle.std.proofs.lemmas.List.{map-append}
use Rattle.std.proofs.lemmas.List.Concat.{flat_map-append}
use Rattle.ob_io.specs.Told.{Gains, IsFront, Lasts, Sends, Gains-none, Gains-then}
use Rattle.ob_http.specs.Request.{Request}
use Rattle.ob_server.specs.Exchange.{Exchange, Call, Had, Went, had, IsExchange, HasAnswer, AreAnswered, request_of, moment_of, calls_in, answer_to, requests_of, moments_of, calls_of, answers_to}
use Rattle.ob_machine.specs.declared.call.Entry.{Entry}
use Rattle.ob_turn.specs.Standing.{Standing}
use Rattle.ob_machine.specs.History.{IsLegal}
use Rattle.ob_turn.specs.Callers.{own, Strangers}
use Rattle.ob_server.specs.Passes.{AreOwnOrOthers, Continues}
use Rattle.ob_server.specs.Answered.{AnswersOne}
use Rattle.ob_server.specs.declared.end.Break.{Break}

-- ---- several exchanges

pub answers_then : (ns : Option (List ℕ)) (xs ys : List Exchange) → answers_to ns (xs ++ ys) ≡ answers_to ns xs ++ answers_to ns ys
answers_then ns xs ys = flat_map-append (answer_to ns) xs ys

pub calls_then : (xs ys : List Exchange) → calls_of (xs ++ ys) ≡ calls_of xs ++ calls_of ys
calls_then xs ys = flat_map-append calls_in xs ys

pub moments_then : (xs ys : List Exchange) → moments_of (xs ++ ys) ≡ moments_of xs ++ moments_of ys
moments_then xs ys = map-append moment_of xs ys

pub requests_then : (xs ys : List Exchange) → requests_of (xs ++ ys) ≡ requests_of xs ++ requests_of ys
requests_then xs ys = map-append request_of xs ys

pub answered_then : (xs ys : List Exchange) → AreAnswered xs → AreAnswered ys → AreAnswered (xs ++ ys)
answered_then [] ys a b = b
answered_then (x ∷ xs) ys a b = (a.0, a.1, answered_then xs ys a.2 b)

-- ---- what the outside has had

lasts_none : (u : Option (List ℕ)) (n : ℕ) → Lasts u n u
lasts_none None n = tt
lasts_none (Some xs) n = λ few. refl

-- a longer list is asked for
pub lasts_more : (u v : Option (List ℕ)) → Lasts u 1 v → Lasts u 2 v
lasts_more None v l = tt
lasts_more (Some xs) v l = λ few. l (omega (arith, few))

lasts_then : (u v w : Option (List ℕ)) (s t : List ℕ) → Gains u s v → Lasts u (length s + 1) v → Lasts v (length t + 1) w → Lasts u (length (s ++ t) + 1) w
lasts_then None v w s t gains x y = tt
lasts_then (Some xs) None w s t gains x y = λ few. absurd (let no : false ≡ true = x (omega (arith, few, length-append s t)) in cc)
lasts_then (Some xs) (Some ys) w s t gains x y = λ few. y (omega (arith, few, length-append s t, ap (λ (l : List ℕ). length l) gains, length-append xs s))

pub went_none : (h : Had) → Went h [] [] [] h
went_none h = record { wrote = Gains-none h.held; gave = Gains-none h.given; lasts = lasts_none h.given 1; made = sym (append-nil h.calls) }

-- only bytes were written
pub went_sent : (held held' given : Option (List ℕ)) (calls : List Call) (text : List ℕ) → Gains held text held' → Went (had held given calls) text [] [] (had held' given calls)
went_sent held held' given calls text gained = record { wrote = gained; gave = Gains-none given; lasts = lasts_none given 1; made = sym (append-nil calls) }

pub sent_whole : {E : Type 0} (u v : Option (List ℕ)) (done : Unit {0}) (bytes : List ℕ) → Sends {E = E} u v (Ok done) bytes → Gains u bytes v
sent_whole u v done bytes sends = subst (λ (t : List ℕ). Gains u t v) sends.whole sends.gained

pub went_then : (h i j : Had) (a b : List ℕ) (s t : List ℕ) (xs ys : List Call) → Went h a s xs i → Went i b t ys j → Went h (a ++ b) (s ++ t) (xs ++ ys) j
went_then h i j a b s t xs ys x y = record {
  wrote = Gains-then h.held i.held j.held a b x.wrote y.wrote;
  gave = Gains-then h.given i.given j.given s t x.gave y.gave;
  lasts = lasts_then h.given i.given j.given s t x.gave x.lasts y.lasts;
  made = y.made ∙ ap (λ (l : List Call). l ++ ys) x.made ∙ append_assoc h.calls xs ys;
}

-- ---- one request

-- the service broke off before anything was done with the request
pub breaks_early : (ns : Option (List ℕ)) (request : Request) (old new : Had) (broken : Break) → Went old [] [] [] new → AnswersOne ns request old new (Err broken)
breaks_early ns request old new broken went = ([], [], tt, inl refl, ([], refl), went)

-- the service broke off while it was answered
pub breaks_inside : (ns : Option (List ℕ)) (request : Request) (old new : Had) (broken : Break) (x : Exchange) (sent : List ℕ) → IsExchange x → request_of x ≡ request → IsFront sent (answer_to ns x)
    → Went old sent (moment_of x ∷ []) (calls_in x) new → AnswersOne ns request old new (Err broken)
breaks_inside ns request old new broken x sent right is front went =
    (x ∷ [], sent, (right, refl), inr (ap (λ (r : Request). r ∷ []) is), (front.0, append-nil (answer_to ns x) ∙ front.1), subst (λ (l : List Call). Went old sent (moment_of x ∷ []) l new) (sym (append-nil (calls_in x))) went)

-- its answer was sent, or a part of it
pub sends_one : (ns : Option (List ℕ)) (request : Request) (old new : Had) (x : Exchange) (text : List ℕ) (result : Result (Unit {0}) Break) → IsExchange x → HasAnswer x → request_of x ≡ request
    → text ≡ answer_to ns x → Sends old.held new.held result text → Gains old.given (moment_of x ∷ []) new.given → Lasts old.given 1 new.given → new.calls ≡ old.calls ++ calls_in x → AnswersOne ns request old new result
sends_one ns request old new x text (Ok done) right has is same sends gave lasts made =
    (x, right, has, is, record { wrote = subst (λ (t : List ℕ). Gains old.held t new.held) (sends.whole ∙ same) sends.gained; gave = gave; lasts = lasts_more old.given new.given lasts; made = made })
sends_one ns request old new x text (Err broken) right has is same sends gave lasts made =
    breaks_inside ns request old new broken x sends.sent right is (sends.front.0, sym same ∙ sends.front.1) (record { wrote = sends.gained; gave = gave; lasts = lasts_more old.given new.given lasts; made = made })

-- ---- passes

others_then : {Q P : Type 0} (ns : List ℕ) (xs ys : List (Entry Q P)) → AreOwnOrOthers ns xs → AreOwnOrOthers ns ys → AreOwnOrOthers ns (xs ++ ys)
others_then ns [] ys a b = b
others_then ns (x ∷ xs) ys a b = (a.0, others_then ns xs ys a.1 b)

strangers_are : {Q P : Type 0} (ns : List ℕ) (es : List (Entry Q P)) → Strangers ns es → AreOwnOrOthers ns es
strangers_are ns [] none = tt
strangers_are ns (e ∷ es) others = (inr others.0, strangers_are ns es others.1)

pub continues_none : {S Q P : Type 0} (act : S → Q → ℕ → S × P) (opening : S) (p : Standing Q P) → Continues act opening p p
continues_none act opening p = record { table = refl; numbers = refl; since = refl; more = []; later = sym (append-nil p.seen); others = tt; legal = λ l. l }

pub continues_then : {S Q P : Type 0} (act : S → Q → ℕ → S × P) (opening : S) (p q r : Standing Q P) → Continues act opening p q → Continues act opening q r → Continues act opening p r
continues_then {S} {Q} {P} act opening p q r x y = record {
  table = y.table ∙ x.table;
  numbers = y.numbers ∙ x.numbers;
  since = y.since ∙ x.since;
  more = x.more ++ y.more;
  later = y.later ∙ ap (λ (l : List (Entry Q P)). l ++ y.more) x.later ∙ append_assoc p.seen x.more y.more;
  others = others_then p.numbers x.more y.more x.others (subst (λ (ns : List ℕ). AreOwnOrOthers ns y.more) x.numbers y.others);
  legal = λ l. y.legal (x.legal l);
}

-- a call was made
pub continues_asked : {S Q P : Type 0} (act : S → Q → ℕ → S × P) (opening : S) (p q : Standing Q P) (e : Entry Q P) → q ≡ record p { seen = q.seen }
    → (between : List (Entry Q P)) × Strangers p.numbers between × (q.seen ≡ (p.seen ++ between) ++ e ∷ []) → e.caller ≡ own p.numbers → IsLegal act opening q.seen → Continues act opening p q
continues_asked {S} {Q} {P} act opening p q e same seen is legal = record {
  table = ap (λ (s : Standing Q P). s.table) same;
  numbers = ap (λ (s : Standing Q P). s.numbers) same;
  since = ap (λ (s : Standing Q P). s.since) same;
  more = seen.0 ++ e ∷ [];
  later = seen.2 ∙ append_assoc p.seen seen.0 (e ∷ []);
  others = others_then p.numbers seen.0 (e ∷ []) (strangers_are p.numbers seen.0 seen.1) (inl is, tt);
  legal = λ _. legal;
}
