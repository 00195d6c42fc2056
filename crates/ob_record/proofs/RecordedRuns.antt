-- The record of a run, from its first lines on.
use Rattle.std.proofs.Common.{◌≡◌, ℕ, List, [], ◌∷◌, ◌++◌, length, Option, None, refl, sym, ap, subst, ◌∙◌, append_assoc, append-nil, arith}
use Rattle.std.specs.List.{AllByRecursion}
use Rattle.ob_io.specs.Links.{Inlet, inlet}
use Rattle.ob_io.specs.Told.{Gains, IsFront, Gains-then}
use Rattle.ob_machine.specs.declared.call.Answer.{Answer}
use Rattle.ob_machine.specs.declared.call.Answer.TheVariants as answers
use Rattle.ob_machine.specs.History.{IsLegal}
use Rattle.ob_machine.proofs.HistoryLemmas.{legal_front}
use Rattle.ob_object.specs.Object.{Object}
use Rattle.ob_record.specs.Legal.{Call, Tells, AreCallsOf, IsLegalRun}
use Rattle.ob_record.specs.Runs.{IsEntry, head_text, run_text}
use Rattle.ob_server.specs.Answered.{Serves}
use Rattle.ob_server.specs.Exchange.{Had, had}
use Rattle.ob_server.specs.declared.end.LinkEnd.TheVariants as ends
use Rattle.ob_server.specs.declared.end.LinkEnd.{LinkEnd}
use Rattle.ob_server.proofs.ServeLemmas.{ends_unstarted}
use Rattle.ob_site_rules.specs.declared.request.Request.{Request}
use Rattle.ob_times.specs.Times.{IsMoment}
use Rattle.ob_record.specs.Entries.{told_of, entries_of, run_of, calls_text, IsOwn}
use Rattle.ob_record.specs.Recording.{IsWhole, Asks, RecordsLink, WritesRun, RecordsRun}

-- calls that a record can tell have entries that it can have
own_entries : (calls : List Call) → AllByRecursion IsOwn calls → AllByRecursion IsEntry (entries_of calls)
own_entries [] own = tt
own_entries (call ∷ calls) own = (own.0.entry, own_entries calls own.1)

told_tells : (answer : Answer Object) → Tells (told_of answer) answer
told_tells (answers.Done reply) = refl
told_tells answers.NoMemory = tt

-- entries tell the calls that they are of
entries_tell : (calls : List Call) → AllByRecursion IsOwn calls → AreCallsOf (entries_of calls) calls
entries_tell [] own = tt
entries_tell (call ∷ calls) own = (record { caller = own.0.caller; moment = refl; request = refl; told = told_tells call.answer }, entries_tell calls own.1)

-- a link broke before anything was read from it
broke_unstarted : (u : Inlet) (h : Had) → Serves None u u h h ends.WriteFault
broke_unstarted u h =
    let s = ends_unstarted None u h in
    let a = s.answered in
    record {
      taken = s.taken;
      written = s.written;
      moments = s.moments;
      calls = s.calls;
      consumed = s.consumed;
      went = s.went;
      answered = record {
        done = a.done;
        last = a.last;
        tail = a.tail;
        answered = a.answered;
        written_is = a.written_is;
        calls_are = a.calls_are;
        moments_are = a.moments_are;
        ends = a.ends;
      };
      few = s.few;
    }

module _ {S : Type 0} (act : S → Request → ℕ → S × Object) where
  -- a front of the first lines was written, and no call made
  writes_front : (s : S) (boot : ℕ) (text : List ℕ) → IsMoment boot → IsFront text (head_text boot) → WritesRun act s boot [] text ⊥
  writes_front s boot text moment front = record {
    told = [];
    untold = [];
    split = refl;
    few = omega arith;
    valid = record { boot = moment; entries = tt };
    legal = record { history = []; legal = tt; told = tt };
    front = (front.0, append-nil (head_text boot) ∙ front.1);
    whole = λ no. absurd no;
  }

  pub run_wanting : (s : S) (boot : ℕ) (u : Inlet) (held given : Option (List ℕ)) → IsMoment boot → Gains held [] held → RecordsRun act s s boot u u held held given given ends.Memory
  run_wanting s boot u held given moment wrote = record {
    calls = [];
    serves = ends_unstarted None u (had None given []);
    legal = tt;
    left = refl;
    text = [];
    wrote = wrote;
    writes = writes_front s boot [] moment (head_text boot, refl);
  }

  -- the first lines weren't written whole
  pub run_cut : (s : S) (boot : ℕ) (left left' taken taken' held held' given : Option (List ℕ)) (text : List ℕ) → left' ≡ left → taken' ≡ taken → IsMoment boot → Gains held text held' → IsFront text (head_text boot)
      → RecordsRun act s s boot (inlet left taken) (inlet left' taken') held held' given given ends.WriteFault
  run_cut s boot left left' taken taken' held held' given text same kept moment wrote front = record {
    calls = [];
    serves = subst (λ (l : Option (List ℕ)). Serves None (inlet left taken) (inlet l taken') (had None given []) (had None given []) ends.WriteFault) (sym same)
        (subst (λ (t : Option (List ℕ)). Serves None (inlet left taken) (inlet left t) (had None given []) (had None given []) ends.WriteFault) (sym kept)
        (broke_unstarted (inlet left taken) (had None given [])));
    legal = tt;
    left = refl;
    text = text;
    wrote = wrote;
    writes = writes_front s boot text moment front;
  }

  writes_calls : (s s' : S) (boot : ℕ) (held held' : Option (List ℕ)) (calls : List Call) (Whole : Type 0) → IsMoment boot → (a : Asks act s s' held held' calls Whole)
      → WritesRun act s boot calls (head_text boot ++ a.text) Whole
  writes_calls s s' boot held held' calls Whole moment a = record {
    told = a.told;
    untold = a.untold;
    split = a.split;
    few = a.few;
    valid = record { boot = moment; entries = own_entries a.told a.own };
    legal = record {
      history = a.told;
      legal = legal_front act s a.told a.untold (subst (λ (l : List Call). IsLegal act s l) a.split a.legal);
      told = entries_tell a.told a.own;
    };
    front = (a.front.0, ap (λ (l : List ℕ). head_text boot ++ l) a.front.1 ∙ sym (append_assoc (head_text boot) a.text a.front.0));
    whole = λ w. let all = a.whole w in (all.0, ap (λ (l : List ℕ). head_text boot ++ l) all.1);
  }

  -- behind the first lines the requests of the link were recorded
  pub run_recorded : (s s' : S) (boot : ℕ) (left left' taken taken' : Option (List ℕ)) (v : Inlet) (held held' held'' given given' : Option (List ℕ)) (end : LinkEnd)
      → left' ≡ left → taken' ≡ taken → IsMoment boot → Gains held (head_text boot) held' → RecordsLink act s s' (inlet left' taken') v held' held'' given given' end
      → RecordsRun act s s' boot (inlet left taken) v held held'' given given' end
  run_recorded s s' boot left left' taken taken' v held held' held'' given given' end same kept moment wrote r = record {
    calls = r.calls;
    serves = subst (λ (l : Option (List ℕ)). Serves None (inlet l taken) v (had None given []) (had None given' r.calls) end) same
        (subst (λ (t : Option (List ℕ)). Serves None (inlet left' t) v (had None given []) (had None given' r.calls) end) kept r.serves);
    legal = r.asks.legal;
    left = r.asks.left;
    text = head_text boot ++ r.asks.text;
    wrote = Gains-then held held' held'' (head_text boot) r.asks.text wrote r.asks.wrote;
    writes = writes_calls s s' boot held' held'' r.calls (IsWhole end) moment r.asks;
  }
