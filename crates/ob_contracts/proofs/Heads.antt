-- Sources that told a part, and names that are known.
use Rattle.std.proofs.Common.{◌≡◌, ℕ, suc, ◌+◌, ◌<◌, ◌≤◌, Bool, true, false, not, ◌||◌, ◌&&◌, cond, List, [], ◌∷◌, ◌++◌, drop, take, length, get_or, Option, Some, None, refl, sym, ap, ◌∙◌, true≢false, add-one, subst}
use Rattle.std.specs.Prelude.{is_some}
use Rattle.std.specs.List.{list_any}
use Rattle.std.specs.BTreeSet.{BTreeSet}
use Rattle.std.specs.Str.{bytes_eq}
use Rattle.std.proofs.Math.Seq.{drop-cons, take-suc}
use Rattle.std.proofs.lemmas.Slice.Eq.{bytes_eq-Decides}
use Rattle.std.specs.Ordering.{nat_cmp}
use Rattle.std.specs.Cmp.Lexicographic.{slice_cmp}
use Rattle.std.specs.BTreeSet.{Updates}
use Rattle.std.specs.BTreeMap.{is_at}
use Rattle.std.proofs.lemmas.Map.Text.{is_eq-slice_cmp}
use Rattle.std.proofs.lemmas.List.Folds.{list_any-append}
use denote.Ref.{Bor}
use Rattle.ob_values.proofs.Bools.{or_false, or_assoc, neither, or_first, or_second, and_first, and_second}
use Rattle.ob_object.specs.Kinds.{has_of, has_input, has_output}
use Rattle.ob_contracts.specs.Inherit.{Contracts, Words, contract_of, present, only_if, given, first_given, overridden, or_else}
use Rattle.ob_contracts.specs.Telling.{Knows, IsPut, IsHeadTold, IsTold, IsTelling, StandFor, Same, named_by, tells_part, Gave}
use Rattle.ob_contracts.specs.declared.fewer.Known.{Known}
use Rattle.ob_contracts.specs.declared.reading.Part.TheVariants as part
use Rattle.ob_contracts.proofs.Dropped.{some_more, told_itself, told_still, told_by_itself, same_refl, stand_none, stand_told, stand_kept, named_by-append}
use Rattle.ob_contracts.proofs.Fitting.{one_kind}
use Rattle.ob_object.specs.declared.kind.Kind.{Kind}
use Rattle.ob_object.specs.Kinds.{same_kind}
use Rattle.ob_object.specs.Object.{Object, children}
use Rattle.ob_object.specs.WellFormed.{named, is_taken, has_name}
use Rattle.ob_contracts.specs.Found.{lent}
use Rattle.ob_contracts.specs.Parts.{has_part}
use Rattle.ob_contracts.specs.Telling.{has_one, has_text, ArePut}
use Rattle.ob_contracts.specs.declared.reading.Part.{Part}
use Rattle.ob_values.proofs.Lists.{drop_all}
use Rattle.ob_contracts.proofs.Missing.{taken-append}

abbrev is_one : Kind → Part → Object → Bool
is_one k p x = same_kind x.head.kind k && has_part p x

module _ (rs : List (Bor Object)) (i : ℕ) (r : Bor Object) (k : Kind) (p : Part) (h : i < length rs) (is : r ≡ get_or rs i r) where
  here : has_one (lent (drop i rs)) k p ≡ (is_one k p r.now || has_one (lent (drop (suc i) rs)) k p)
  here = ap (λ l. has_one (lent l) k p) (drop-cons rs i r h ∙ ap (λ x. x ∷ drop (suc i) rs) (sym is))

  pub one_here : is_one k p r.now ≡ true → true ≡ has_one (lent (drop i rs)) k p
  one_here e = sym (here ∙ ap (λ b. b || has_one (lent (drop (suc i) rs)) k p) e)

  pub one_past : is_one k p r.now ≡ false → has_one (lent (drop (i + 1) rs)) k p ≡ has_one (lent (drop i rs)) k p
  one_past e = rw add-one (sym (here ∙ ap (λ b. b || has_one (lent (drop (suc i) rs)) k p) e))

pub one_end : (rs : List (Bor Object)) (i : ℕ) (k : Kind) (p : Part) → length rs ≤ i → false ≡ has_one (lent (drop i rs)) k p
one_end rs i k p h = sym (ap (λ l. has_one (lent l) k p) (drop_all rs i h))

-- the names of the children up to a place
pub taken_next : (n : List ℕ) (cs : List Object) (i : ℕ) (x : Object) → i < length cs → x ≡ get_or cs i x → is_taken (Some n) (take (i + 1) cs) ≡ (is_taken (Some n) (take i cs) || has_name n x.head.name)
taken_next n cs i x h is =
    rw add-one (ap (is_taken (Some n)) (take-suc cs i x h ∙ ap (λ y. take i cs ++ y ∷ []) (sym is))
    ∙ taken-append n (take i cs) (x ∷ [])
    ∙ ap (λ b. is_some (named n (take i cs)) || b) (last (has_name n x.head.name)))
  where
    last : (b : Bool) → is_some (cond b (Some x) None) ≡ b
    last true = refl
    last false = refl

abbrev Texts : Type 0
Texts = BTreeSet (Bor (List ℕ))

pub put_begun : (known : Texts) (cs : List Object) → ArePut known known (take 0 cs) false
put_begun known cs = record { names = λ n. sym (or_false (has_text known n)); none = λ e n taken. absurd (true≢false (sym taken)) }

either : (a b c : Bool) → (a ≡ true → c ≡ true) → (b ≡ true → c ≡ true) → (a || b) ≡ true → c ≡ true
either true b c f g h = f refl
either false b c f g h = g h

-- one child more
pub put_more : (old cur new : Texts) (cs : List Object) (i : ℕ) (x : Object) (a b : Bool) → i < length cs → x ≡ get_or cs i x
    → ((n : List ℕ) → has_text new n ≡ (has_text cur n || has_name n x.head.name)) → (b ≡ false → (n : List ℕ) → has_name n x.head.name ≡ true → has_text cur n ≡ true)
    → ArePut old cur (take i cs) a → ArePut old new (take (i + 1) cs) (a || b)
put_more old cur new cs i x a b h is names fresh put = record {
  names = λ n.
      names n ∙ ap (λ c. c || has_name n x.head.name) (put.names n) ∙ or_assoc (has_text old n) (is_taken (Some n) (take i cs)) (has_name n x.head.name)
      ∙ ap (λ c. has_text old n || c) (sym (taken_next n cs i x h is));
  none = λ e n taken.
      let off = neither a b e in
      either (is_taken (Some n) (take i cs)) (has_name n x.head.name) (has_text old n) (put.none off.0 n)
      (λ has. either (has_text old n) (is_taken (Some n) (take i cs)) (has_text old n) (λ t. t) (put.none off.0 n) (sym (put.names n) ∙ fresh off.1 n has))
      (sym (taken_next n cs i x h is) ∙ taken);
}

or_cond : (b m : Bool) → cond b true m ≡ (m || b)
or_cond true true = refl
or_cond true false = refl
or_cond false m = sym (or_false m)

-- a text more in a set
pub text_more : (set new : Texts) (key : Bor (List ℕ)) → Updates (λ x y. slice_cmp nat_cmp x.now y.now) set new key true → (t : List ℕ) → has_text new t ≡ (has_text set t || bytes_eq key.now t)
text_more set new key up t =
    up.0 (record { ref_ptr = (0, 0); now = t })
    ∙ ap (λ b. cond b true (has_text set t)) (is_eq-slice_cmp key.now t)
    ∙ or_cond (bytes_eq key.now t) (has_text set t)

all_there : (a b : Bool) → (a && not b) ≡ false → a ≡ true → b ≡ true
all_there true true h e = refl
all_there true false h e = absurd (true≢false h)
all_there false b h e = absurd (true≢false (sym e))

module _ {A : Type 0} where
  -- an object that passes a test gives a part
  gave : (f : Object → Option A) (test : Object → Bool) (P : List Object) → ((x : Object) → test x ≡ true → is_some (f x) ≡ true) → list_any test P ≡ true → is_some (first_given f P) ≡ true
  gave f test [] each h = absurd (true≢false (sym h))
  gave f test (x ∷ xs) each h = go (test x) refl (λ e. gave f test xs each e) h
    where
      some_first : (a b : Option A) → is_some a ≡ true → is_some (or_else a b) ≡ true
      some_first None b e = absurd (true≢false (sym e))
      some_first (Some y) b e = refl

      some_second : (a b : Option A) → is_some b ≡ true → is_some (or_else a b) ≡ true
      some_second None b e = e
      some_second (Some y) b e = refl

      go : (b : Bool) → test x ≡ b → (list_any test xs ≡ true → is_some (first_given f xs) ≡ true) → (b || list_any test xs) ≡ true → is_some (or_else (f x) (first_given f xs)) ≡ true
      go true is later e = some_first (f x) (first_given f xs) (each x is)
      go false is later e = some_second (f x) (first_given f xs) (later e)

  if_some : (b : Bool) (o : Option A) → is_some (only_if b o) ≡ true → (b ≡ true) × (is_some o ≡ true)
  if_some true o h = (refl, h)
  if_some false o h = absurd (true≢false (sym h))

  some_if : (b : Bool) (o : Option A) → b ≡ true → is_some o ≡ true → is_some (only_if b o) ≡ true
  some_if true o e h = h
  some_if false o e h = absurd (true≢false (sym e))

module _ (P H : List Object) (s : Object) (knows : (k : Kind) (p : Part) → has_one H k p ≡ true → has_one P k p ≡ true) where
  one_of : (p : Part) → (has_part p s && not (has_one H s.head.kind p)) ≡ false → has_part p s ≡ true → has_one P s.head.kind p ≡ true
  one_of p e has = knows s.head.kind p (all_there (has_part p s) (has_one H s.head.kind p) e has)

  -- a part that comes from a source of any kind
  plain : {A : Type 0} (f : Object → Option A) (p : Part) → ((x : Object) → has_part p x ≡ is_some (f x)) → (has_part p s && not (has_one H s.head.kind p)) ≡ false → Gave f P s
  plain f p same e has =
      gave f (is_one s.head.kind p) P (λ x t. sym (same x) ∙ and_second (same_kind x.head.kind s.head.kind) (has_part p x) t) (one_of p e (same s ∙ has))

  -- one that a kind has or not
  asked : {A : Type 0} (f : Object → Option A) (p : Part) (b : Bool) → ((x : Object) → has_part p x ≡ is_some (f x)) → (has_part p s && not (has_one H s.head.kind p)) ≡ false → Gave (λ x. only_if b (f x)) P s
  asked f p b same e has =
      let q = if_some b (f s) has in
      gave (λ x. only_if b (f x)) (is_one s.head.kind p) P
      (λ x t. some_if b (f x) q.0 (sym (same x) ∙ and_second (same_kind x.head.kind s.head.kind) (has_part p x) t)) (one_of p e (same s ∙ q.1))

  -- and one that comes from a source of the same kind
  alike : {A : Type 0} (f : Object → Option A) (p : Part) (k : Kind) → ((x : Object) → has_part p x ≡ is_some (f x)) → (has_part p s && not (has_one H s.head.kind p)) ≡ false → Gave (λ x. only_if (same_kind x.head.kind k) (f x)) P s
  alike f p k same e has =
      let q = if_some (same_kind s.head.kind k) (f s) has in
      gave (λ x. only_if (same_kind x.head.kind k) (f x)) (is_one s.head.kind p) P
      (λ x t. some_if (same_kind x.head.kind k) (f x)
      (ap (λ (j : Kind). same_kind j k) (one_kind x.head.kind s.head.kind (and_first (same_kind x.head.kind s.head.kind) (has_part p x) t)) ∙ q.0)
      (sym (same x) ∙ and_second (same_kind x.head.kind s.head.kind) (has_part p x) t)) (one_of p e (same s ∙ q.1))

  pub head_told : tells_part H s ≡ false → IsHeadTold P s
  head_told e =
      let t : Part → Bool = λ p. has_part p s && not (has_one H s.head.kind p) in
      let a0 = neither (t part.Of) _ e in
      let a1 = neither (t part.Input) _ a0.1 in
      let a2 = neither (t part.Output) _ a1.1 in
      let a3 = neither (t part.Slot) _ a2.1 in
      let a4 = neither (t part.Display) _ a3.1 in
      let a5 = neither (t part.DisplayName) _ a4.1 in
      let a6 = neither (t part.Icon) _ a5.1 in
      let a7 = neither (t part.Min) _ a6.1 in
      let a8 = neither (t part.Max) _ a7.1 in
      let a9 = neither (t part.Precision) _ a8.1 in
      let b0 = neither (t part.Range) _ a9.1 in
      let b1 = neither (t part.Status) _ b0.1 in
      let b2 = neither (t part.Tz) _ b1.1 in
      let b3 = neither (t part.Unit) _ b2.1 in
      let b4 = neither (t part.Writable) _ b3.1 in
      record {
        of = λ k. asked (λ o. o.head.of) part.Of (has_of k) (λ x. refl) a0.0;
        input = λ k. asked (λ o. o.head.input) part.Input (has_input k) (λ x. refl) a1.0;
        output = λ k. asked (λ o. o.head.output) part.Output (has_output k) (λ x. refl) a2.0;
        slot = λ k. alike (λ o. given o.head.slot) part.Slot k (λ x. refl) a3.0;
        display = plain (λ o. o.head.facets.display) part.Display (λ x. refl) a4.0;
        display_name = plain (λ o. o.head.facets.display_name) part.DisplayName (λ x. refl) a5.0;
        icon = plain (λ o. o.head.facets.icon) part.Icon (λ x. refl) a6.0;
        min = λ k. alike (λ o. o.head.facets.min) part.Min k (λ x. refl) a7.0;
        max = λ k. alike (λ o. o.head.facets.max) part.Max k (λ x. refl) a8.0;
        precision = plain (λ o. o.head.facets.precision) part.Precision (λ x. refl) a9.0;
        range = plain (λ o. o.head.facets.range) part.Range (λ x. refl) b0.0;
        status = plain (λ o. o.head.facets.status) part.Status (λ x. refl) b1.0;
        tz = plain (λ o. o.head.facets.tz) part.Tz (λ x. refl) b2.0;
        unit = plain (λ o. o.head.facets.unit) part.Unit (λ x. refl) b3.0;
        writable = plain (λ o. o.head.facets.writable) part.Writable (λ x. refl) b4.0;
      }

  told_from : tells_part H s ≡ false → ((n : List ℕ) → is_taken (Some n) (children s) ≡ true → is_some (overridden (Some n) P) ≡ true) → IsTold P s
  told_from e names = record { head = head_told e; names = λ n has. names n has }

module _ (old new : Known) (s : Object) (P : List Object) (k : Knows old P) where
  -- where it tells something, it stands with the others
  with_it : (X : List Object) (b : Bool) → lent new.heads.items ≡ lent old.heads.items ++ X → ((j : Kind) (p : Part) → has_one X j p ≡ true → has_one (s ∷ []) j p ≡ true) → ArePut old.names new.names (children s) b → Knows new (P ++ s ∷ [])
  with_it X b is within put = record {
    heads = λ j p e.
        either (has_one (lent old.heads.items) j p) (has_one X j p) (has_one (P ++ s ∷ []) j p)
        (λ h. list_any-append (is_one j p) P (s ∷ []) ∙ or_first (has_one P j p) (has_one (s ∷ []) j p) (k.heads j p h))
        (λ h. list_any-append (is_one j p) P (s ∷ []) ∙ or_second (has_one P j p) (has_one (s ∷ []) j p) (within j p h))
        (sym (list_any-append (is_one j p) (lent old.heads.items) X) ∙ ap (λ l. has_one l j p) (sym is) ∙ e);
    names = λ n e.
        either (has_text old.names n) (is_taken (Some n) (children s)) (is_some (overridden (Some n) (P ++ s ∷ [])))
        (λ h. some_more (λ o. named n (children o)) P (s ∷ []) (k.names n h)) (told_itself (λ o. named n (children o)) P s) (sym (put.names n) ∙ e);
  }

  pub put_is : (a b : Bool) → a ≡ tells_part (lent old.heads.items) s → lent new.heads.items ≡ lent old.heads.items ++ cond a (s ∷ []) [] → ArePut old.names new.names (children s) b → IsPut new P s (a || b)
  put_is true b tells is put = with_it (s ∷ []) b is (λ j p h. h) put
  put_is false true tells is put = with_it [] true is (λ j p h. absurd (true≢false (sym h))) put
  put_is false false tells is put = (
    record {
      heads = λ j p e.
          k.heads j p (sym (or_false (has_one (lent old.heads.items) j p)) ∙ sym (list_any-append (is_one j p) (lent old.heads.items) []) ∙ ap (λ l. has_one l j p) (sym is) ∙ e);
      names = λ n e. k.names n (either (has_text old.names n) (is_taken (Some n) (children s)) (has_text old.names n) (λ h. h) (put.none refl n) (sym (put.names n) ∙ e));
    },
    told_from P (lent old.heads.items) s k.heads (sym tells) (λ n has. k.names n (put.none refl n has)),
  )

-- before the first word nothing is known
pub none_known : (known : Known) (P : List Object) → known.heads.items ≡ [] → known.names.keys ≡ [] → Knows known P
none_known known P heads names = record {
  heads = λ k p e. absurd (true≢false (sym (ap (λ l. has_one (lent l) k p) (sym heads) ∙ e)));
  names = λ n e. absurd (true≢false (sym (ap (λ (ks : List (Bor (List ℕ))). list_any (is_at (λ k. slice_cmp nat_cmp n k.now)) ks) (sym names) ∙ e)));
}

pub none_seen : {A : Type 0} (seen : Texts) (w : List ℕ) → seen.keys ≡ [] → has_text seen w ≡ true → A
none_seen seen w empty e = absurd (true≢false (sym (ap (λ (ks : List (Bor (List ℕ))). list_any (is_at (λ k. slice_cmp nat_cmp w k.now)) ks) (sym empty) ∙ e)))

some_same : (c d : Object) → ◌≡◌ {A = Option Object} (Some c) (Some d) → c ≡ d
some_same c d e = cc

module _ (lib : Contracts) (ts looked : Words) (seen new : Texts) (known : Known) (w : List ℕ) (t : IsTelling lib ts looked seen known)
    (put : (n : List ℕ) → has_text new n ≡ (has_text seen n || bytes_eq w n)) where
  -- what is told of the words seen, with one word more
  seen_more : (P : List Object) → ((n : List ℕ) → has_text seen n ≡ true → (c : Object) → contract_of lib n ≡ Some c → IsTold P c) → ((c : Object) → contract_of lib w ≡ Some c → IsTold P c)
      → (n : List ℕ) → has_text new n ≡ true → (c : Object) → contract_of lib n ≡ Some c → IsTold P c
  seen_more P old this n e c is = go (has_text seen n) refl
    where
      go : (b : Bool) → has_text seen n ≡ b → IsTold P c
      go true h = old n h c is
      go false h =
          let same : w ≡ n = (bytes_eq-Decides w n).0 (sym (ap (λ b. b || bytes_eq w n) h) ∙ sym (put n) ∙ e) in
          this c (ap (contract_of lib) same ∙ is)

  pub seen_again : has_text seen w ≡ true → IsTelling lib ts (looked ++ w ∷ []) new known
  seen_again there = record {
    stand = go (contract_of lib w) refl;
    knows = t.knows;
    are_told = seen_more (named_by lib ts) t.are_told (λ c is. t.are_told w there c is);
  }
    where
      go : (o : Option Object) → contract_of lib w ≡ o → StandFor lib ts (looked ++ w ∷ [])
      go None is = stand_none lib ts looked w is t.stand
      go (Some c) is = stand_told lib ts looked w c is (t.are_told w there c is) t.stand

  pub nothing_new : (c : Object) (after : Known) → Some c ≡ contract_of lib w → IsPut after (named_by lib ts) c false → IsTelling lib ts (looked ++ w ∷ []) new after
  nothing_new c after is p = record {
    stand = stand_told lib ts looked w c (sym is) p.1 t.stand;
    knows = p.0;
    are_told = seen_more (named_by lib ts) t.are_told (λ d e. subst (IsTold (named_by lib ts)) (some_same c d (is ∙ e)) p.1);
  }

  pub something_new : (c : Object) (after : Known) → Some c ≡ contract_of lib w → IsPut after (named_by lib ts) c true → IsTelling lib (ts ++ w ∷ []) (looked ++ w ∷ []) new after
  something_new c after is p =
      let P = named_by lib ts in
      let more : named_by lib (ts ++ w ∷ []) ≡ P ++ c ∷ [] = named_by-append lib ts (w ∷ []) ∙ ap (λ o. P ++ present (o ∷ [])) (sym is) in
      record {
        stand = stand_kept lib ts looked w t.stand;
        knows = subst (Knows after) (sym more) p;
        are_told = λ n e d at. subst (λ Q. IsTold Q d) (sym more)
            (seen_more (P ++ c ∷ []) (λ m h x y. told_still P (c ∷ []) x (t.are_told m h x y)) (λ x y. subst (IsTold (P ++ c ∷ [])) (some_same c x (is ∙ y)) (told_by_itself P c)) n e d at);
      }

-- a word that names no contract
pub no_contract : (lib : Contracts) (ts looked : Words) (seen : Texts) (known : Known) (w : List ℕ) → IsTelling lib ts looked seen known → None ≡ contract_of lib w → IsTelling lib ts (looked ++ w ∷ []) seen known
no_contract lib ts looked seen known w t gone = record {
  stand = stand_none lib ts looked w (sym gone) t.stand;
  knows = t.knows;
  are_told = t.are_told;
}

-- before the first word
pub telling_none : (lib : Contracts) (ts looked : Words) (seen : Texts) (known : Known) → ts ≡ [] → looked ≡ [] → seen.keys ≡ [] → known.heads.items ≡ [] → known.names.keys ≡ [] → IsTelling lib ts looked seen known
telling_none lib ts looked seen known t l s heads names = record {
  stand = λ R. subst (λ (ws : Words). Same (named_by lib ts ++ R) (named_by lib ws ++ R)) (t ∙ sym l) (same_refl (named_by lib ts ++ R));
  knows = none_known known (named_by lib ts) heads names;
  are_told = λ w e c is. none_seen seen w s e;
}

pub not_false : (b : Bool) → not b ≡ false → b ≡ true
not_false true h = refl
not_false false h = absurd (true≢false h)
