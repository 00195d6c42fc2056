-- What an audit finds, entry by entry.
use Rattle.std.proofs.Common.{◌≡◌, ◌≢◌, ◌⊎◌, inl, inr, ℕ, ◌+◌, ◌<◌, List, [], ◌∷◌, ◌++◌, length, take, drop, get_or, Option, Some, None, Ok, refl, sym, ap, subst, ◌∙◌, append_assoc, lit<}
use Rattle.std.specs.Prelude.{IfSome, IfNone}
use Rattle.std.proofs.lemmas.List.{take_more, take-append-drop}
use Rattle.ob_encoding.specs.Canonical.{canonical_text}
use Rattle.ob_machine.specs.declared.call.Answer.{Answer}
use Rattle.ob_machine.specs.declared.call.Answer.TheVariants as answers
use Rattle.ob_machine.specs.History.{entry, IsCall, IsLegal, IsAnswer, left_by, after}
use Rattle.ob_machine.proofs.HistoryLemmas.{legal_snoc}
use Rattle.ob_object.specs.Object.{Object}
use Rattle.ob_site_rules.specs.declared.request.Request.{Request}
use Rattle.ob_times.specs.Times.{IsMoment}
use Rattle.ob_record.specs.declared.run.Entry.{Entry}
use Rattle.ob_record.specs.declared.run.Told.{Told}
use Rattle.ob_record.specs.declared.run.Told.TheVariants.{Reply, NoMemory}
use Rattle.ob_record.specs.Legal.{Call, Tells, IsCallOf, AreCallsOf, IsLegalRun, left_by_told, left_by_entry, after_entries, Differs, IsIllegalAt, StepsEntry}

module _ {S : Type 0} (act : S → Request → ℕ → S × Object) where
  left_told : (s : S) (e : Entry) (call : Call) → IsCallOf e call → left_by act s call.request call.moment call.answer ≡ left_by_entry act s e
  left_told s e call of = told e.reply call.answer of.told
    where
      told : (t : Told) (a : Answer Object) → Tells t a → left_by act s call.request call.moment a ≡ left_by_entry act s (record e { reply = t })
      told (Reply bytes) (answers.Done reply) h = λ i. (act s (of.request i) (of.moment i)).0
      told (Reply bytes) answers.NoMemory h = absurd h
      told NoMemory (answers.Done reply) h = absurd h
      told NoMemory answers.NoMemory h = refl

  -- the calls that entries tell leave the state that the entries leave
  after_told : (s : S) (es : List Entry) (calls : List Call) → AreCallsOf es calls → after act s calls ≡ after_entries act s es
  after_told s [] [] h = refl
  after_told s [] (call ∷ calls) h = absurd h
  after_told s (e ∷ es) [] h = absurd h
  after_told s (e ∷ es) (call ∷ calls) h =
      ap (λ (x : S). after act x calls) (left_told s e call h.0) ∙ after_told (left_by_entry act s e) es calls h.1

  calls_snoc : (es : List Entry) (calls : List Call) (e : Entry) (call : Call) → AreCallsOf es calls → IsCallOf e call → AreCallsOf (es ++ e ∷ []) (calls ++ call ∷ [])
  calls_snoc [] [] e call h of = (of, tt)
  calls_snoc [] (c ∷ calls) e call h of = absurd h
  calls_snoc (f ∷ es) [] e call h of = absurd h
  calls_snoc (f ∷ es) (c ∷ calls) e call h of = (h.0, calls_snoc es calls e call h.1 of)

  pub after_entries_snoc : (s : S) (es : List Entry) (e : Entry) → after_entries act s (es ++ e ∷ []) ≡ left_by_entry act (after_entries act s es) e
  after_entries_snoc s [] e = refl
  after_entries_snoc s (f ∷ es) e = after_entries_snoc (left_by_entry act s f) es e

  pub legal_none : (s : S) → IsLegalRun act s []
  legal_none s = record { history = []; legal = tt; told = tt }

  -- one legal entry more
  pub legal_more : (s : S) (es : List Entry) (e : Entry) (call : Call) → IsLegalRun act s es → IsCall act (after_entries act s es) call → IsCallOf e call → IsLegalRun act s (es ++ e ∷ [])
  legal_more s es e call run is of = record {
    history = run.history ++ call ∷ [];
    legal = legal_snoc act s run.history call run.legal (subst (λ (x : S). IsCall act x call) (sym (after_told s es run.history run.told)) is);
    told = calls_snoc es run.history e call run.told of;
  }

  -- ---- an entry that differs

  -- the machine's reply is the only one that a legal run tells
  not_told : (s : S) (e : Entry) (expected : List ℕ) (call : Call) → Differs act s e expected → IsCall act s call → IsCallOf e call → ⊥
  not_told s e expected call d is of = told e.reply call.answer d.told of.told is.answer
    where
      told : (t : Told) (a : Answer Object) → t ≡ Reply d.bytes → Tells t a → IsAnswer act s call.request call.moment a → ⊥
      told (Reply bytes) (answers.Done reply) same h answer =
          let bytes_are : bytes ≡ d.bytes = (let same_reply : Reply bytes ≡ Reply d.bytes = same in cc) in
          let reply_is : reply ≡ (act s e.request e.moment).1 = answer ∙ (λ i. (act s (of.request i) (of.moment i)).1) in
          d.other (sym bytes_are ∙ h ∙ ap (λ (o : Object). canonical_text None o) reply_is ∙ sym d.expected_is)
      told (Reply bytes) answers.NoMemory same h answer = h
      told NoMemory (answers.Done reply) same h answer = h
      told NoMemory answers.NoMemory same h answer = absurd (let other : NoMemory ≡ Reply d.bytes = same in cc)

  illegal_from : (s : S) (front : List Entry) (e : Entry) (rest : List Entry) (expected : List ℕ) (calls : List Call) → Differs act (after_entries act s front) e expected
      → IsLegal act s calls → AreCallsOf (front ++ e ∷ rest) calls → ⊥
  illegal_from s [] e rest expected [] d legal told = told
  illegal_from s [] e rest expected (call ∷ calls) d legal told = not_told s e expected call d legal.0 told.0
  illegal_from s (f ∷ front) e rest expected [] d legal told = told
  illegal_from s (f ∷ front) e rest expected (call ∷ calls) d legal told =
      illegal_from (left_by_entry act s f) front e rest expected calls d (subst (λ (x : S). IsLegal act x calls) (left_told s f call told.0) legal.1) told.1

  pub illegal_at : (s s' : S) (front : List Entry) (e : Entry) (rest entries : List Entry) (place : ℕ) (expected : List ℕ) → entries ≡ front ++ e ∷ rest → place ≡ length front
      → IsLegalRun act s front → Differs act (after_entries act s front) e expected → s' ≡ left_by_entry act (after_entries act s front) e
      → IsIllegalAt act s s' entries place expected
  illegal_at s s' front e rest entries place expected are is legal d left = record {
    front = front;
    entry = e;
    rest = rest;
    entries_are = are;
    place_is = is;
    legal = legal;
    differs = d;
    after = left ∙ sym (after_entries_snoc s front e);
    illegal = λ run. illegal_from s front e rest expected run.history d run.legal (subst (λ (es : List Entry). AreCallsOf es run.history) are run.told);
  }

  -- an entry without a reply is legal, and leaves the state as it was
  pub none_stepped : (s : S) (e : Entry) → e.reply ≡ NoMemory → IsMoment e.moment → StepsEntry act s s e (Ok None)
  none_stepped s e none moment =
      let call : Call = entry 0 e.request e.moment answers.NoMemory in (
        ap (λ (t : Told). left_by_told act s e.request e.moment t) (sym none),
        (
          call,
          record { caller = lit< tt; moment = moment; answer = tt },
          record { caller = refl; moment = refl; request = refl; told = subst (λ (t : Told). Tells t answers.NoMemory) (sym none) tt },
        ),
      )

  -- the machine was asked, and its reply compared
  pub reply_stepped : (s s' : S) (e : Entry) (told : List ℕ) (reply : Object) (text : List ℕ) (r : Option (List ℕ)) → e.reply ≡ Reply told → IsMoment e.moment
      → act s e.request e.moment ≡ (s', reply) → text ≡ canonical_text None reply
      → IfNone r (told ≡ text) → IfSome r (λ expected. (expected ≡ text) × (told ≢ text)) → StepsEntry act s s' e (Ok r)
  reply_stepped s s' e told reply text r is moment acts encoded same other =
      by_result r same other
    where
      left : s' ≡ left_by_entry act s e
      left = ap (λ (x : S × Object). x.0) (sym acts) ∙ ap (λ (t : Told). left_by_told act s e.request e.moment t) (sym is)

      reply_is : reply ≡ (act s e.request e.moment).1
      reply_is = ap (λ (x : S × Object). x.1) (sym acts)

      by_result : (o : Option (List ℕ)) → IfNone o (told ≡ text) → IfSome o (λ expected. (expected ≡ text) × (told ≢ text)) → StepsEntry act s s' e (Ok o)
      by_result None same other =
          let call : Call = entry 0 e.request e.moment (answers.Done reply) in (
            left,
            (
              call,
              record { caller = lit< tt; moment = moment; answer = reply_is },
              record { caller = refl; moment = refl; request = refl; told = subst (λ (t : Told). Tells t (answers.Done reply)) (sym is) (same ∙ encoded) },
            ),
          )
      by_result (Some expected) same other = (
        left,
        record {
          bytes = told;
          told = is;
          expected_is = other.0 ∙ encoded ∙ ap (λ (o : Object). canonical_text None o) reply_is;
          other = λ equal. other.1 (equal ∙ other.0);
        },
      )

  -- ---- the loop

  -- the entries so far are legal, and this is the state that they leave
  pub record Audited (s s' : S) (entries : List Entry) : Type 0 where
    pub legal : IsLegalRun act s entries
    pub after : s' ≡ after_entries act s entries

  pub audited_none : (s : S) → Audited s s []
  audited_none s = record { legal = legal_none s; after = refl }

  pub audited_more : (s now next : S) (front : List Entry) (e : Entry) → Audited s now front → StepsEntry act now next e (Ok None) → Audited s next (front ++ e ∷ [])
  audited_more s now next front e so_far step = record {
    legal = legal_more s front e step.1.0 so_far.legal (subst (λ (x : S). IsCall act x step.1.0) so_far.after step.1.1) step.1.2;
    after = step.0 ∙ ap (λ (x : S). left_by_entry act x e) so_far.after ∙ sym (after_entries_snoc s front e);
  }

  pub audited_differs : (s now next : S) (front : List Entry) (e : Entry) (rest entries : List Entry) (place : ℕ) (expected : List ℕ) → entries ≡ front ++ e ∷ rest → place ≡ length front
      → Audited s now front → StepsEntry act now next e (Ok (Some expected)) → IsIllegalAt act s next entries place expected
  audited_differs s now next front e rest entries place expected are is so_far step =
      illegal_at s next front e rest entries place expected are is so_far.legal
      (subst (λ (x : S). Differs act x e expected) so_far.after step.1)
      (step.0 ∙ ap (λ (x : S). left_by_entry act x e) so_far.after)

-- the list around one of its places
pub around : {X : Type 0} (xs : List X) (i : ℕ) (x : X) → i < length xs → x ≡ get_or xs i x → xs ≡ take i xs ++ x ∷ drop (i + 1) xs
around xs i x below is =
    sym (take-append-drop (i + 1) xs) ∙ ap (λ (l : List _). l ++ drop (i + 1) xs) (take_more xs i x below ∙ ap (λ (y : _). take i xs ++ y ∷ []) (sym is))
    ∙ append_assoc (take i xs) (x ∷ []) (drop (i + 1) xs)

-- one element more
pub one_more : {X : Type 0} (xs : List X) (i : ℕ) (x : X) → i < length xs → x ≡ get_or xs i x → take (i + 1) xs ≡ take i xs ++ x ∷ []
one_more xs i x below is = take_more xs i x below ∙ ap (λ (y : _). take i xs ++ y ∷ []) (sym is)

module _ {S : Type 0} (act : S → Request → ℕ → S × Object) where
  -- for want of memory, some first entries were done
  pub audited_wanting : (s now next : S) (entries : List Entry) (place : ℕ) (e : Entry) → place < length entries → e ≡ get_or entries place e → Audited act s now (take place entries)
      → (next ≡ now) ⊎ (next ≡ left_by_entry act now e) → (done : ℕ) × (next ≡ after_entries act s (take done entries))
  audited_wanting s now next entries place e below is so_far (inl same) = (place, same ∙ so_far.after)
  audited_wanting s now next entries place e below is so_far (inr left) = (
    place + 1,
    left ∙ ap (λ (x : S). left_by_entry act x e) so_far.after ∙ sym (after_entries_snoc act s (take place entries) e)
        ∙ ap (λ (l : List Entry). after_entries act s l) (sym (one_more entries place e below is)),
  )
