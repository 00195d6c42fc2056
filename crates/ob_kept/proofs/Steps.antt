-- What an entry more makes of a site that is kept.
use Rattle.std.proofs.Common.{◌≡◌, ◌⊎◌, inl, inr, ⊎_elim, ℕ, Bool, true, false, List, [], ◌∷◌, ◌++◌, Some, None, refl, sym, ◌∙◌, ap, subst, lit<}
use Rattle.std.specs.List.{AllByRecursion}
use Rattle.std.proofs.lemmas.List.{map-append}
use Rattle.ob_encoding.specs.Canonical.{canonical_text}
use Rattle.ob_journal.specs.Journal.{front, Stands, closed_gate, IsBeforeOrAfter, IsSettled, IsAtRest}
use Rattle.ob_machine.specs.History.{entry}
use Rattle.ob_machine.specs.declared.call.Answer.TheVariants.{Done}
use Rattle.ob_object.specs.Object.{Object}
use Rattle.ob_record.specs.Blocks.{IsBlock, block_text}
use Rattle.ob_record.specs.Legal.{Tells, IsLegalRun, after_entries, left_by_entry}
use Rattle.ob_record.specs.Runs.{IsEntry, IsRun, parts_of}
use Rattle.ob_record.specs.declared.run.Entry.{Entry}
use Rattle.ob_record.specs.declared.run.Told.{Told}
use Rattle.ob_record.specs.declared.run.Told.TheVariants.{Reply}
use Rattle.ob_record.proofs.AuditLaws.{after_entries_snoc, legal_more}
use Rattle.ob_record_journal.specs.Runs.{later_block, run_blocks}
use Rattle.ob_site_rules.specs.Sites.{SiteState}
use Rattle.ob_site_lasting.specs.SiteLasting.{IsSiteRestartOf}
use Rattle.ob_kept.specs.Keeping.{LeavesOf, LeavesOneOf, IsAtRestAt}
use Rattle.ob_kept.specs.Recording.{opening_moment}
use Rattle.ob_kept.specs.Redone.{redone}

-- ---- blocks and entries

push_block : (boot : ℕ) (begun : Bool) (es : List Entry) (e : Entry) → (begun ≡ false → es ≡ []) → (begun ≡ true → (x : Entry) × (xs : List Entry) × (es ≡ x ∷ xs))
    → run_blocks boot (es ++ e ∷ []) ≡ run_blocks boot es ++ block_text (opening_moment boot begun) (parts_of e) ∷ []
push_block boot false es e none some =
    ap (λ (l : List Entry). run_blocks boot (l ++ e ∷ [])) (none refl) ∙ sym (ap (λ (l : List Entry). run_blocks boot l ++ block_text (Some boot) (parts_of e) ∷ []) (none refl))
push_block boot true es e none some =
    let x = (some refl).0 in
    let xs = (some refl).1 in
    let is : es ≡ x ∷ xs = (some refl).2 in
    ap (λ (l : List Entry). run_blocks boot (l ++ e ∷ [])) is
    ∙ ap (λ (l : List (List ℕ)). block_text (Some boot) (parts_of x) ∷ l) (map-append later_block xs (e ∷ []))
    ∙ sym (ap (λ (l : List Entry). run_blocks boot l ++ block_text None (parts_of e) ∷ []) is)

all_more : (es : List Entry) (e : Entry) → AllByRecursion IsEntry es → IsEntry e → AllByRecursion IsEntry (es ++ e ∷ [])
all_more [] e all is = (is, tt)
all_more (x ∷ xs) e all is = (all.0, all_more xs e all.1 is)

some_more : (es : List Entry) (e : Entry) → (x : Entry) × (xs : List Entry) × (es ++ e ∷ [] ≡ x ∷ xs)
some_more [] e = (e, [], refl)
some_more (x ∷ xs) e = (x, xs ++ e ∷ [], refl)

-- a closed gate is none
shut : (es : List (List ℕ)) → AllByRecursion IsBlock es → (file : List ℕ) → file ≡ front es ++ 0 ∷ [] → Stands IsBlock file es
shut es valid file is = record { end = 0 ∷ []; valid = valid; split = is; tail = closed_gate [] refl }

-- ---- states

module _ (boot : ℕ) (opening : SiteState) (c : List ℕ) where
  pub one_more : (xs ys : List SiteState) → LeavesOneOf boot opening c xs → LeavesOneOf boot opening c (xs ++ ys)
  one_more [] ys one = absurd one
  one_more (x ∷ xs) ys (inl here) = inl here
  one_more (x ∷ xs) ys (inr there) = inr (one_more xs ys there)

  pub last_one : (xs : List SiteState) (st : SiteState) → LeavesOf boot opening c st → LeavesOneOf boot opening c (xs ++ st ∷ [])
  last_one [] st is = inl is
  last_one (x ∷ xs) st is = inr (last_one xs st is)

-- ---- an entry more

module _ {D : Type 0} (seen : D → List ℕ) (may_leave : D → List ℕ → Type 0) (moment : D → ℕ) (left_since : D → ℕ → List ℕ → Type 0)
    (boot : ℕ) (opening now : SiteState) (device : D) (end next : ℕ) (begun : Bool) (rest : IsAtRestAt seen may_leave moment left_since boot opening now device end next begun) where
  abbrev blocks : List (List ℕ)
  blocks = run_blocks boot rest.entries

  abbrev pub led : SiteState
  led = after_entries redone opening rest.entries

  -- where its entries stand, the site goes on from now
  pub leaves_now : (c : List ℕ) → Stands IsBlock c blocks → LeavesOf boot opening c now
  leaves_now c stands = (led, record { entries = rest.entries; says = record { valid = rest.valid; blocks = inl stands }; legal = rest.legal; left_is = refl }, rest.restart)

  pub file_now : (c : List ℕ) → may_leave device c → LeavesOf boot opening c now
  file_now c may = leaves_now c (shut blocks rest.settled.valid c (rest.settled.durable c may ∙ rest.settled.file))

  pub is_at_rest : IsAtRest IsBlock seen may_leave device end
  is_at_rest = record { entries = blocks; settled = rest.settled }

  -- the same of a state from which the site may go on as well
  pub rest_of : (later : SiteState) → IsSiteRestartOf later led → IsAtRestAt seen may_leave moment left_since boot opening later device end next begun
  rest_of later restart = record {
    entries = rest.entries;
    valid = rest.valid;
    settled = rest.settled;
    legal = rest.legal;
    restart = restart;
    next_is = rest.next_is;
    begun_is = rest.begun_is;
    some = rest.some;
  }

  -- the entry keeps the reply that it has, done again
  module _ (e : Entry) (valid : IsEntry e) (reply : Object) (told : e.reply ≡ Reply (canonical_text None reply)) (is : reply ≡ (redone led e.request e.moment).1)
      (later : SiteState) (restart : IsSiteRestartOf later (redone led e.request e.moment).0) where
    abbrev entries : List Entry
    entries = rest.entries ++ e ∷ []

    abbrev block : List ℕ
    block = block_text (opening_moment boot begun) (parts_of e)

    left_is : after_entries redone opening entries ≡ (redone led e.request e.moment).0
    left_is = after_entries_snoc redone opening rest.entries e ∙ ap (λ (t : Told). left_by_entry redone led (record e { reply = t })) told

    legal : IsLegalRun redone opening entries
    legal = legal_more redone opening rest.entries e (entry 0 e.request e.moment (Done reply)) rest.legal
        (record { caller = lit< tt; moment = valid.moment; answer = is })
        (record { caller = refl; moment = refl; request = refl; told = subst (λ (t : Told). Tells t (Done reply)) (sym told) refl })

    run : IsRun (record { boot = boot; entries = entries })
    run = record { boot = rest.valid.boot; entries = all_more rest.entries e rest.valid.entries valid }

    blocks_are : run_blocks boot entries ≡ blocks ++ block ∷ []
    blocks_are = push_block boot begun rest.entries e rest.begun_is rest.some

    restart_so : IsSiteRestartOf later (after_entries redone opening entries)
    restart_so = subst (λ (st : SiteState). IsSiteRestartOf later st) (sym left_is) restart

    pub leaves_later : (c : List ℕ) → Stands IsBlock c (blocks ++ block ∷ []) → LeavesOf boot opening c later
    leaves_later c stands = (
      after_entries redone opening entries,
      record { entries = entries; says = record { valid = run; blocks = inl (subst (λ (es : List (List ℕ)). Stands IsBlock c es) (sym blocks_are) stands) }; legal = legal; left_is = refl },
      restart_so,
    )

    -- a crash leaves the one or the other
    pub leaves_either : (c : List ℕ) → IsBeforeOrAfter IsBlock blocks block c → LeavesOf boot opening c now ⊎ LeavesOf boot opening c later
    leaves_either c either = ⊎_elim (λ stands. inl (leaves_now c stands)) (λ stands. inr (leaves_later c stands)) either

    -- and once it was appended, the file is at rest with it
    pub rest_later : (device' : D) (end' next' : ℕ) → IsSettled IsBlock seen may_leave (blocks ++ block ∷ []) device' end' → (redone led e.request e.moment).0.world.next ≡ next'
        → IsAtRestAt seen may_leave moment left_since boot opening later device' end' next' true
    rest_later device' end' next' settled next_is = record {
      entries = entries;
      valid = run;
      settled = subst (λ (es : List (List ℕ)). IsSettled IsBlock seen may_leave es device' end') (sym blocks_are) settled;
      legal = legal;
      restart = restart_so;
      next_is = ap (λ (st : SiteState). st.world.next) left_is ∙ next_is;
      begun_is = λ no. absurd (cc no);
      some = λ _. some_more rest.entries e;
    }
