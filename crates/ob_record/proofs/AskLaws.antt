-- Calls that are asked one after the other, and what is written of them.
use Rattle.std.proofs.Common.{◌≡◌, ◌≢◌, ℕ, ◌+◌, ◌<◌, ◌≤◌, ◌^◌, List, [], ◌∷◌, ◌++◌, length, Option, Some, None, Result, Ok, Err, refl, sym, ap, subst, ◌∙◌, append_assoc, append-nil, arith, inl, inr, length-append, lit<}
use Rattle.std.specs.Prelude.{IfOk, OnErr}
use Rattle.std.specs.Global.{Vec}
use Rattle.std.specs.declared.alloc.AllocError.{AllocError}
use Rattle.std.specs.List.{flat_map, AllByRecursion}
use Rattle.std.proofs.lemmas.List.{map-append}
use Rattle.std.proofs.lemmas.List.Concat.{flat_map-cons, flat_map-append}
use Rattle.ob_encoding.specs.Canonical.{canonical_text}
use Rattle.ob_http.specs.Request.{Request as Framed}
use Rattle.ob_io.specs.Told.{Gains, IsFront, Lasts, Sends, Gains-none, Gains-then, Gains-kept}
use Rattle.ob_machine.specs.declared.call.Answer.{Answer}
use Rattle.ob_machine.specs.declared.call.Answer.TheVariants as answers
use Rattle.ob_machine.specs.History.{IsCall, IsLegal, left_by, after}
use Rattle.ob_machine.proofs.HistoryLemmas.{after-append, legal_append}
use Rattle.ob_object.specs.Object.{Object}
use Rattle.ob_record.specs.Legal.{Call}
use Rattle.ob_record.specs.Runs.{IsBody, IsEntry, entry_text}
use Rattle.ob_record.specs.declared.run.Entry.{Entry}
use Rattle.ob_record.specs.declared.run.Told.TheVariants.{Reply}
use Rattle.ob_times.specs.Times.{IsMoment}
use Rattle.ob_values.specs.XmlText.{IsXmlText}
use Rattle.ob_server.specs.Answered.{AnswersOne}
use Rattle.ob_server.specs.Exchange.{Exchange, Went, Had, had, fixed, stepped, SortsTo, moment_of, calls_in, answer_to}
use Rattle.ob_server.specs.declared.end.Break.{Break}
use Rattle.ob_server.specs.declared.sort.Sorted.{Sorted}
use Rattle.ob_server.specs.declared.sort.Sorted.TheVariants.{Step, Fixed}
use Rattle.ob_server.proofs.ExchangeLemmas.{breaks_early, breaks_inside, lasts_more}
use Rattle.ob_site_rules.specs.declared.request.Request.{Request}
use Rattle.ob_record.specs.Entries.{entry_of, entries_of, calls_text, Replies, IsOwn, own_call, Tells, Asked}
use Rattle.ob_record.specs.Recording.{IsDone, Asks, RecordsOne}

pub calls_text_then : (xs ys : List Call) → calls_text (xs ++ ys) ≡ calls_text xs ++ calls_text ys
calls_text_then xs ys = ap (λ (es : List Entry). flat_map entry_text es) (map-append entry_of xs ys) ∙ flat_map-append entry_text (entries_of xs) (entries_of ys)

one_text : (call : Call) → calls_text (call ∷ []) ≡ entry_text (entry_of call)
one_text call = flat_map-cons entry_text (entry_of call) [] ∙ append-nil (entry_text (entry_of call))

all_then : (xs ys : List Call) → AllByRecursion IsOwn xs → AllByRecursion IsOwn ys → AllByRecursion IsOwn (xs ++ ys)
all_then [] ys a b = b
all_then (x ∷ xs) ys a b = (a.0, all_then xs ys a.1 b)

pub on_err : {T E : Type 0} (r : Result T E) (A : Type 0) → A → OnErr r A
on_err (Ok x) A a = tt
on_err (Err e) A a = a

-- ---- several

-- said behind calls that were made before
pub behind_calls : (given given' : Option (List ℕ)) (before calls cs : List Call) (text moments : List ℕ)
    → Went (had None given []) text moments cs (had None given' calls) → Went (had None given before) text moments cs (had None given' (before ++ calls))
behind_calls given given' before calls cs text moments w = record { wrote = tt; gave = w.gave; lasts = w.lasts; made = ap (λ (l : List Call). before ++ l) w.made }

pub one_behind : (given given' : Option (List ℕ)) (before calls : List Call) (request : Framed) (result : Result (Unit {0}) Break)
    → AnswersOne None request (had None given []) (had None given' calls) result → AnswersOne None request (had None given before) (had None given' (before ++ calls)) result
one_behind given given' before calls request (Ok done) (x, right, has, is, went) =
    (x, right, has, is, behind_calls given given' before calls (calls_in x) (answer_to None x) (moment_of x ∷ []) went)
one_behind given given' before calls request (Err broken) (last, tail, one, which, front, went) =
    (last, tail, one, which, front, behind_calls given given' before calls _ tail _ went)

module _ {S : Type 0} (act : S → Request → ℕ → S × Object) where
  -- nothing was asked or written
  pub asks_none : (s : S) (held : Option (List ℕ)) (Whole : Type 0) → Asks act s s held held [] Whole
  asks_none s held Whole = record {
    legal = tt;
    left = refl;
    told = [];
    untold = [];
    split = refl;
    few = omega arith;
    own = tt;
    text = [];
    wrote = Gains-none held;
    front = ([], refl);
    whole = λ w. (refl, refl);
  }

  -- what was asked is said of less
  pub asks_less : (s s' : S) (held held' : Option (List ℕ)) (calls : List Call) (Whole Less : Type 0) → (Less → Whole) → Asks act s s' held held' calls Whole → Asks act s s' held held' calls Less
  asks_less s s' held held' calls Whole Less to a = record {
    legal = a.legal;
    left = a.left;
    told = a.told;
    untold = a.untold;
    split = a.split;
    few = a.few;
    own = a.own;
    text = a.text;
    wrote = a.wrote;
    front = a.front;
    whole = λ less. a.whole (to less);
  }

  -- the sink is the same
  pub asks_held : (s s' : S) (held held' held'' : Option (List ℕ)) (calls : List Call) (Whole : Type 0) → held'' ≡ held' → Asks act s s' held held' calls Whole → Asks act s s' held held'' calls Whole
  asks_held s s' held held' held'' calls Whole is a = subst (λ (h : Option (List ℕ)). Asks act s s' held h calls Whole) (sym is) a

  -- some, all of which were told, and then more
  pub asks_then : (s s' s'' : S) (held held' held'' : Option (List ℕ)) (calls more : List Call) (First Whole : Type 0) → First → Asks act s s' held held' calls First
      → Asks act s' s'' held' held'' more Whole → Asks act s s'' held held'' (calls ++ more) Whole
  asks_then s s' s'' held held' held'' calls more First Whole first a b =
      let w = a.whole first in
      let all : calls ≡ a.told = a.split ∙ ap (λ (l : List Call). a.told ++ l) w.0 ∙ append-nil a.told in
      let text : a.text ≡ calls_text a.told = w.1 in
      record {
        legal = legal_append act s calls more a.legal (subst (λ (x : S). IsLegal act x more) a.left b.legal);
        left = b.left ∙ ap (λ (x : S). after act x more) a.left ∙ sym (after-append act s calls more);
        told = a.told ++ b.told;
        untold = b.untold;
        split = ap (λ (l : List Call). l ++ more) all ∙ ap (λ (l : List Call). a.told ++ l) b.split ∙ sym (append_assoc a.told b.told b.untold);
        few = b.few;
        own = all_then a.told b.told a.own b.own;
        text = a.text ++ b.text;
        wrote = Gains-then held held' held'' a.text b.text a.wrote b.wrote;
        front = (
          b.front.0,
          calls_text_then a.told b.told ∙ ap (λ (l : List ℕ). calls_text a.told ++ l) b.front.1 ∙ sym (append_assoc (calls_text a.told) b.text b.front.0)
              ∙ ap (λ (l : List ℕ). (l ++ b.text) ++ b.front.0) (sym text),
        );
        whole = λ h. let v = b.whole h in
            (v.0, ap (λ (l : List ℕ). l ++ b.text) text ∙ ap (λ (l : List ℕ). calls_text a.told ++ l) v.1 ∙ sym (calls_text_then a.told b.told));
      }

  -- ---- one request

  -- what was given and asked, of a link that tells nothing of what is written to it
  told_nothing : (given given' : Option (List ℕ)) (moment : ℕ) (calls : List Call) (text : List ℕ) → Gains given (moment ∷ []) given' → Lasts given 1 given'
      → Went (had None given []) text (moment ∷ []) calls (had None given' calls)
  told_nothing given given' moment calls text gave lasts = record { wrote = tt; gave = gave; lasts = lasts_more given given' lasts; made = refl }

  -- there was no moment
  pub one_early : (s : S) (held given given' : Option (List ℕ)) (request : Framed) (broken : Break) → Gains given [] given' → Lasts given 1 given'
      → RecordsOne act s s held held given given' request (Err broken)
  one_early s held given given' request broken gave lasts = record {
    calls = [];
    answers = breaks_early None request (had None given []) (had None given' []) broken (record { wrote = tt; gave = gave; lasts = lasts; made = refl });
    asks = asks_none s held ⊥;
  }

  -- the site isn't asked
  pub one_fixed : (s : S) (held given given' : Option (List ℕ)) (request : Framed) (sorted : Sorted) (moment : ℕ) (line : _) (body : List ℕ) (done : Unit {0})
      → SortsTo request sorted → sorted ≡ Fixed line body → Gains given (moment ∷ []) given' → Lasts given 1 given'
      → RecordsOne act s s held held given given' request (Ok done)
  one_fixed s held given given' request sorted moment line body done sorts is gave lasts = record {
    calls = [];
    answers = (fixed request moment line body, subst (SortsTo request) is sorts, tt, refl, told_nothing given given' moment [] (answer_to None (fixed request moment line body)) gave lasts);
    asks = asks_less s s held held [] _ _ (λ w. w) (asks_none s held _);
  }

  -- memory was wanting
  pub one_wanting : (s s' : S) (held given given' : Option (List ℕ)) (request : Framed) (sorted : Sorted) (asked : Request) (moment : ℕ) (broken : Break)
      → SortsTo request sorted → sorted ≡ Step asked → Gains given (moment ∷ []) given' → Lasts given 1 given' → Asked act s s' asked moment
      → RecordsOne act s s' held held given given' request (Err broken)
  one_wanting s s' held given given' request sorted asked moment broken sorts is gave lasts a =
      let call = own_call asked moment a.answer in
      record {
        calls = call ∷ [];
        answers = breaks_inside None request (had None given []) (had None given' (call ∷ [])) broken (stepped request call) [] (subst (SortsTo request) is sorts) refl
            (_, refl) (told_nothing given given' moment (call ∷ []) [] gave lasts);
        asks = record {
          legal = (a.call, tt);
          left = a.left;
          told = [];
          untold = call ∷ [];
          split = refl;
          few = omega arith;
          own = tt;
          text = [];
          wrote = Gains-none held;
          front = ([], refl);
          whole = λ no. absurd no;
        };
      }

  -- the machine was asked, and its entry written, or a front of it
  pub one_told : (s s' : S) (held held' given given' : Option (List ℕ)) (request : Framed) (sorted : Sorted) (asked : Request) (moment : ℕ) (bytes : List ℕ) (done : Unit {0})
      → SortsTo request sorted → sorted ≡ Step asked → Gains given (moment ∷ []) given' → Lasts given 1 given' → Tells act s s' asked moment bytes
      → Gains held bytes held' → RecordsOne act s s' held held' given given' request (Ok done)
  one_told s s' held held' given given' request sorted asked moment bytes done sorts is gave lasts t wrote =
      let call = own_call asked moment (answers.Done t.reply) in
      record {
        calls = call ∷ [];
        answers = (stepped request call, subst (SortsTo request) is sorts, tt, refl, told_nothing given given' moment (call ∷ []) (answer_to None (stepped request call)) gave lasts);
        asks = record {
          legal = (t.call, tt);
          left = t.left;
          told = call ∷ [];
          untold = [];
          split = refl;
          few = omega arith;
          own = (t.own, tt);
          text = bytes;
          wrote = wrote;
          front = ([], one_text call ∙ sym t.text ∙ sym (append-nil bytes));
          whole = λ w. (refl, t.text ∙ sym (one_text call));
        };
      }

  pub one_cut : (s s' : S) (held held' given given' : Option (List ℕ)) (request : Framed) (sorted : Sorted) (asked : Request) (moment : ℕ) (bytes sent : List ℕ) (broken : Break)
      → SortsTo request sorted → sorted ≡ Step asked → Gains given (moment ∷ []) given' → Lasts given 1 given' → Tells act s s' asked moment bytes
      → Gains held sent held' → IsFront sent bytes → RecordsOne act s s' held held' given given' request (Err broken)
  one_cut s s' held held' given given' request sorted asked moment bytes sent broken sorts is gave lasts t wrote front =
      let call = own_call asked moment (answers.Done t.reply) in
      record {
        calls = call ∷ [];
        answers = breaks_inside None request (had None given []) (had None given' (call ∷ [])) broken (stepped request call) [] (subst (SortsTo request) is sorts) refl
            (_, refl) (told_nothing given given' moment (call ∷ []) [] gave lasts);
        asks = record {
          legal = (t.call, tt);
          left = t.left;
          told = call ∷ [];
          untold = [];
          split = refl;
          few = omega arith;
          own = (t.own, tt);
          text = sent;
          wrote = wrote;
          front = (front.0, one_text call ∙ sym t.text ∙ front.1);
          whole = λ no. absurd no;
        };
      }

-- ---- one entry

module _ {S : Type 0} (act : S → Request → ℕ → S × Object) where
  -- the machine was asked, and its entry made
  pub made_entry : (s s' : S) (request : Request) (moment : ℕ) (reply : Object) (bytes text : List ℕ) → IsMoment moment → IsXmlText request.target → length request.target < 2 ^ 63 → IsBody request.body
      → act s request moment ≡ (s', reply) → bytes ≡ canonical_text None reply → length bytes < 2 ^ 63
      → text ≡ entry_text (record { moment = moment; request = request; reply = Reply bytes }) → Tells act s s' request moment text
  made_entry s s' request moment reply bytes text is target short body acts same small told = record {
    reply = reply;
    call = record { caller = lit< tt; moment = is; answer = ap (λ (x : S × Object). x.1) (sym acts) };
    left = ap (λ (x : S × Object). x.0) (sym acts);
    own = record {
      caller = refl;
      entry = record { moment = is; target = (target, short); body = body; reply = subst (λ (l : List ℕ). length l < 2 ^ 63) same small };
    };
    text = told ∙ ap (λ (l : List ℕ). entry_text (record { moment = moment; request = request; reply = Reply l })) same;
  }

  pub entries_made : (s s' : S) (request : Request) (moment : ℕ) (reply : Object) (bytes : List ℕ) (r : Result (Vec ℕ) AllocError) → IsMoment moment → IsXmlText request.target
      → length request.target < 2 ^ 63 → IsBody request.body → act s request moment ≡ (s', reply) → bytes ≡ canonical_text None reply → length bytes < 2 ^ 63
      → IfOk r (λ text. text.items ≡ entry_text (record { moment = moment; request = request; reply = Reply bytes })) → IfOk r (λ text. Tells act s s' request moment text.items)
  entries_made s s' request moment reply bytes (Ok text) is target short body acts same small told = made_entry s s' request moment reply bytes text.items is target short body acts same small told
  entries_made s s' request moment reply bytes (Err e) is target short body acts same small told = tt

  -- memory was wanting, before the machine was asked or behind it
  pub asked_nothing : (s : S) (request : Request) (moment : ℕ) → IsMoment moment → Asked act s s request moment
  asked_nothing s request moment is = record { answer = answers.NoMemory; call = record { caller = lit< tt; moment = is; answer = tt }; left = refl }

  pub asked_once : (s s' : S) (request : Request) (moment : ℕ) (reply : Object) → IsMoment moment → act s request moment ≡ (s', reply) → Asked act s s' request moment
  asked_once s s' request moment reply is acts = record {
    answer = answers.Done reply;
    call = record { caller = lit< tt; moment = is; answer = ap (λ (x : S × Object). x.1) (sym acts) };
    left = ap (λ (x : S × Object). x.0) (sym acts);
  }
