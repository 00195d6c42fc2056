-- A declaration that has begun can be ended.
use Rattle.std.proofs.Common.{◌≡◌, ℕ, Bool, true, false, ◌||◌, cond, eqb, List, [], ◌∷◌, ◌++◌, Result, Ok, Err, refl, sym, ap, ◌∙◌}
use Rattle.std.specs.Prelude.{codes}
use Rattle.std.proofs.lemmas.Bool.{eq-eqb}
use Rattle.ob_scan.specs.declared.stop.Stop.{Stop}
use Rattle.ob_scan.specs.declared.stop.Stop.TheVariants.{Want, Malformed}
use Rattle.ob_scan.specs.Reading.{◌>>=◌, is_space, literal, spaces}
use Rattle.ob_scan.specs.Constructs.{Construct, skipped, or_word, is_caseless, caseless, quote_at, opened, version_at, encoding_at, standalone_at, part_or, optional, declaration_at, one_space, declares}
use Rattle.ob_scan.proofs.Longer.{rest_on, pair_on}
use Rattle.ob_markup.specs.Characters.{IsBlank}
use Rattle.ob_markup.proofs.Literals.{bind_ok, bind_both, Wanting, at_first, behind, bind_want, literal_again, spaces_again, spaces_dark, spaces_want, IsDark}
use Rattle.ob_markup.proofs.Runs.{same_ok}
use Rattle.ob_markup.proofs.Forms.{quote_is}
use Rattle.ob_markup.proofs.Declarations.{read_part, quote_ok, one_space_ok, front_again, version_at_is, encoding_at_is, standalone_at_is}
use Rattle.ob_markup.proofs.Leads.{Led, Leads, Reads, then_leads, Left, Any, pair_leads, skipped_leads, any_read, left_reads, literal_leads, spaces_leads}

-- ---- words

caseless_want : (text bytes : List ℕ) → caseless text bytes ≡ Err Want → (tail : List ℕ) × ((after : List ℕ) → caseless text (bytes ++ (tail ++ after)) ≡ Ok after)
caseless_want [] bytes e = absurd cc
caseless_want (c ∷ cs) [] e = (c ∷ cs, λ after. itself (c ∷ cs) after)
  where
    same : (c : ℕ) → is_caseless c c ≡ true
    same c = rw (eq-eqb c c refl) refl

    itself : (cs after : List ℕ) → caseless cs (cs ++ after) ≡ Ok after
    itself [] after = refl
    itself (c ∷ cs) after = rw (same c) (itself cs after)
caseless_want (c ∷ cs) (b ∷ bytes) e = on (is_caseless c b) refl e (caseless_want cs bytes)
  where
    on : (v : Bool) → is_caseless c b ≡ v → cond v (caseless cs bytes) (Err Malformed) ≡ Err Want → (caseless cs bytes ≡ Err Want → (tail : List ℕ) × ((after : List ℕ) → caseless cs (bytes ++ (tail ++ after)) ≡ Ok after))
        → (tail : List ℕ) × ((after : List ℕ) → caseless (c ∷ cs) (b ∷ (bytes ++ (tail ++ after))) ≡ Ok after)
    on true t h later = let l = later h in (l.0, λ after. rw t (l.1 after))
    on false t h later = absurd cc

caseless_stays : (text bytes rest tail : List ℕ) → caseless text bytes ≡ Ok rest → caseless text (bytes ++ tail) ≡ Ok (rest ++ tail)
caseless_stays [] bytes rest tail e = ap (λ (xs : List ℕ). Ok (xs ++ tail)) (same_ok bytes rest e)
caseless_stays (c ∷ cs) [] rest tail e = absurd cc
caseless_stays (c ∷ cs) (b ∷ bytes) rest tail e = on (is_caseless c b) e (caseless_stays cs bytes rest tail)
  where
    on : (v : Bool) → cond v (caseless cs bytes) (Err Malformed) ≡ Ok rest → (caseless cs bytes ≡ Ok rest → caseless cs (bytes ++ tail) ≡ Ok (rest ++ tail)) → cond v (caseless cs (bytes ++ tail)) (Err Malformed) ≡ Ok (rest ++ tail)
    on true h later = later h
    on false h later = absurd cc

caseless_never : (text bytes tail : List ℕ) → caseless text bytes ≡ Err Malformed → caseless text (bytes ++ tail) ≡ Err Malformed
caseless_never [] bytes tail e = absurd cc
caseless_never (c ∷ cs) [] tail e = absurd cc
caseless_never (c ∷ cs) (b ∷ bytes) tail e = on (is_caseless c b) e (caseless_never cs bytes tail)
  where
    on : (v : Bool) → cond v (caseless cs bytes) (Err Malformed) ≡ Err Malformed → (caseless cs bytes ≡ Err Malformed → caseless cs (bytes ++ tail) ≡ Err Malformed) → cond v (caseless cs (bytes ++ tail)) (Err Malformed) ≡ Err Malformed
    on true h later = later h
    on false h later = refl

literal_never : (text bytes tail : List ℕ) → literal text bytes ≡ Err Malformed → literal text (bytes ++ tail) ≡ Err Malformed
literal_never [] bytes tail e = absurd cc
literal_never (c ∷ cs) [] tail e = absurd cc
literal_never (c ∷ cs) (b ∷ bytes) tail e = on (eqb b c) e (literal_never cs bytes tail)
  where
    on : (v : Bool) → cond v (literal cs bytes) (Err Malformed) ≡ Err Malformed → (literal cs bytes ≡ Err Malformed → literal cs (bytes ++ tail) ≡ Err Malformed) → cond v (literal cs (bytes ++ tail)) (Err Malformed) ≡ Err Malformed
    on true h later = later h
    on false h later = refl

caseless_leads : (text after : List ℕ) → Leads rest_on rest_on (Left after) (caseless text)
caseless_leads text after = record {
  stays = λ bytes rest tail e. caseless_stays text bytes rest tail e;
  leads = λ bytes e. let w = caseless_want text bytes e in record { tail = w.0 ++ after; value = after; is = w.1 after; holds = refl };
}

-- the first word, or else the second
or_leads : (after : List ℕ) (r s : List ℕ → Result (List ℕ) Stop) → ((bytes tail : List ℕ) → r bytes ≡ Err Malformed → r (bytes ++ tail) ≡ Err Malformed)
    → Leads rest_on rest_on (Left after) r → Leads rest_on rest_on (Left after) s → Leads rest_on rest_on (Left after) (λ bytes. or_word (r bytes) (s bytes))
or_leads after r s never a b = record {
  stays = λ bytes rest tail e. stay bytes rest tail (r bytes) refl e;
  leads = λ bytes e. lead bytes (r bytes) refl e;
}
  where
    stay : (bytes rest tail : List ℕ) (u : Result (List ℕ) Stop) → r bytes ≡ u → or_word u (s bytes) ≡ Ok rest → or_word (r (bytes ++ tail)) (s (bytes ++ tail)) ≡ Ok (rest ++ tail)
    stay bytes rest tail (Ok x) p e = ap (λ u. or_word u (s (bytes ++ tail))) (a.stays bytes x tail p) ∙ ap (λ (xs : List ℕ). Ok (xs ++ tail)) (same_ok x rest e)
    stay bytes rest tail (Err Want) p e = absurd cc
    stay bytes rest tail (Err Malformed) p e = ap (λ u. or_word u (s (bytes ++ tail))) (never bytes tail p) ∙ b.stays bytes rest tail e

    lead : (bytes : List ℕ) (u : Result (List ℕ) Stop) → r bytes ≡ u → or_word u (s bytes) ≡ Err Want → Led rest_on (Left after) (λ bytes. or_word (r bytes) (s bytes)) bytes
    lead bytes (Ok x) p e = absurd cc
    lead bytes (Err Want) p e = let l = a.leads bytes p in record { tail = l.tail; value = l.value; is = ap (λ u. or_word u (s (bytes ++ l.tail))) l.is; holds = l.holds }
    lead bytes (Err Malformed) p e = let l = b.leads bytes e in record { tail = l.tail; value = l.value; is = ap (λ u. or_word u (s (bytes ++ l.tail))) (never bytes l.tail p) ∙ l.is; holds = l.holds }

-- ---- a part

quote_leads : (text : List ℕ) → Leads rest_on pair_on (λ (x : ℕ × List ℕ). x ≡ (34, text)) quote_at
quote_leads text = record {
  stays = λ bytes x tail e.
      let q = quote_ok bytes x e in
      ap (λ (xs : List ℕ). quote_at (xs ++ tail)) q.1 ∙ rw (quote_is x.0 q.0) refl;
  leads = λ bytes e. on bytes e;
}
  where
    no_want : (b : ℕ) (bytes : List ℕ) (v : Bool) → cond {A = Result (ℕ × List ℕ) Stop} v (Ok (b, bytes)) (Err Malformed) ≡ Err Want → ⊥
    no_want b bytes true e = cc
    no_want b bytes false e = cc

    on : (bytes : List ℕ) → quote_at bytes ≡ Err Want → Led rest_on (λ (x : ℕ × List ℕ). x ≡ (34, text)) quote_at bytes
    on [] e = record { tail = 34 ∷ text; value = (34, text); is = refl; holds = refl }
    on (b ∷ bytes) e = absurd (no_want b bytes (eqb b 34 || eqb b 39) e)

opened_leads : (name text : List ℕ) → Leads rest_on pair_on (λ (x : ℕ × List ℕ). x ≡ (34, text)) (opened name)
unfolding opened
opened_leads name text =
    then_leads rest_on rest_on pair_on (Left (61 ∷ 34 ∷ text)) (λ (x : ℕ × List ℕ). x ≡ (34, text)) (literal name) (λ behind. spaces behind >>= λ before. literal (codes "=") before >>= λ equals. spaces equals >>= λ quoted. quote_at quoted) (literal_leads name (61 ∷ 34 ∷ text))
    (then_leads rest_on rest_on pair_on (Left (61 ∷ 34 ∷ text)) (λ (x : ℕ × List ℕ). x ≡ (34, text)) spaces (λ before. literal (codes "=") before >>= λ equals. spaces equals >>= λ quoted. quote_at quoted) (spaces_leads 61 (34 ∷ text) refl)
    (then_leads rest_on rest_on pair_on (Left (34 ∷ text)) (λ (x : ℕ × List ℕ). x ≡ (34, text)) (literal (codes "=")) (λ equals. spaces equals >>= λ quoted. quote_at quoted) (literal_leads (codes "=") (34 ∷ text))
    (then_leads rest_on rest_on pair_on (Left (34 ∷ text)) (λ (x : ℕ × List ℕ). x ≡ (34, text)) spaces (λ quoted. quote_at quoted) (spaces_leads 34 text refl) (quote_leads text)
    (left_reads (λ (x : ℕ × List ℕ). x ≡ (34, text)) (λ quoted. quote_at quoted) (34 ∷ text) (34, text) refl refl))
    (left_reads (λ (x : ℕ × List ℕ). x ≡ (34, text)) (λ equals. spaces equals >>= λ quoted. quote_at quoted) (34 ∷ text) (34, text) refl refl))
    (left_reads (λ (x : ℕ × List ℕ). x ≡ (34, text)) (λ before. literal (codes "=") before >>= λ equals. spaces equals >>= λ quoted. quote_at quoted) (61 ∷ 34 ∷ text) (34, text) refl refl))
    (left_reads (λ (x : ℕ × List ℕ). x ≡ (34, text)) (λ behind. spaces behind >>= λ before. literal (codes "=") before >>= λ equals. spaces equals >>= λ quoted. quote_at quoted) (61 ∷ 34 ∷ text) (34, text) refl refl)

abbrev close_value : (List ℕ → Result (List ℕ) Stop) → ℕ → List ℕ → Result (List ℕ) Stop
close_value read quote bytes = read bytes >>= λ behind. literal (quote ∷ []) behind

-- a part whose value may be this one
part_leads : (name : List ℕ) (read : List ℕ → Result (List ℕ) Stop) (value after : List ℕ) → ((after : List ℕ) → Leads rest_on rest_on (Left after) read) → ((rest : List ℕ) → read (value ++ rest) ≡ Ok rest)
    → Leads rest_on rest_on (Left after) (read_part name read)
part_leads name read value after leads reads =
    then_leads rest_on pair_on rest_on (λ (x : ℕ × List ℕ). x ≡ (34, value ++ (34 ∷ after))) (Left after) (opened name) (λ x. close_value read x.0 x.1) (opened_leads name (value ++ (34 ∷ after)))
    (pair_leads rest_on (Left after) (close_value read) (λ quote.
    then_leads rest_on rest_on rest_on (Left (quote ∷ after)) (Left after) read (λ behind. literal (quote ∷ []) behind) (leads (quote ∷ after)) (literal_leads (quote ∷ []) after)
    (left_reads (Left after) (λ behind. literal (quote ∷ []) behind) (quote ∷ after) after (literal_again (quote ∷ []) after) refl)))
    (λ x h. record {
      value = after;
      is = ap (λ (y : ℕ × List ℕ). close_value read y.0 y.1) h ∙ bind_both (read (value ++ (34 ∷ after))) (λ behind. literal (34 ∷ []) behind) (34 ∷ after) after (reads (34 ∷ after)) refl;
      holds = refl;
    })

same_leads : (Q : List ℕ → Type 0) (r s : List ℕ → Result (List ℕ) Stop) → ((bytes : List ℕ) → r bytes ≡ s bytes) → Leads rest_on rest_on Q s → Leads rest_on rest_on Q r
same_leads Q r s e l = record {
  stays = λ bytes rest tail h. e (bytes ++ tail) ∙ l.stays bytes rest tail (sym (e bytes) ∙ h);
  leads = λ bytes h. let m = l.leads bytes (sym (e bytes) ∙ h) in record { tail = m.tail; value = m.value; is = e (bytes ++ m.tail) ∙ m.is; holds = m.holds };
}

version_leads : (after : List ℕ) → Leads rest_on rest_on (Left after) version_at
version_leads after = same_leads (Left after) version_at (read_part (codes "version") (literal (codes "1.0"))) version_at_is (part_leads (codes "version") (literal (codes "1.0")) (codes "1.0") after (λ after. literal_leads (codes "1.0") after) (λ rest. literal_again (codes "1.0") rest))

encoding_leads : (after : List ℕ) → Leads rest_on rest_on (Left after) encoding_at
encoding_leads after = same_leads (Left after) encoding_at (read_part (codes "encoding") (λ bytes. or_word (caseless (codes "utf-8") bytes) (caseless (codes "us-ascii") bytes))) encoding_at_is
    (part_leads (codes "encoding") (λ bytes. or_word (caseless (codes "utf-8") bytes) (caseless (codes "us-ascii") bytes)) (codes "utf-8") after
    (λ after. or_leads after (caseless (codes "utf-8")) (caseless (codes "us-ascii")) (caseless_never (codes "utf-8")) (caseless_leads (codes "utf-8") after) (caseless_leads (codes "us-ascii") after)) (λ rest. refl))

standalone_leads : (after : List ℕ) → Leads rest_on rest_on (Left after) standalone_at
standalone_leads after = same_leads (Left after) standalone_at (read_part (codes "standalone") (λ bytes. or_word (literal (codes "yes") bytes) (literal (codes "no") bytes))) standalone_at_is
    (part_leads (codes "standalone") (λ bytes. or_word (literal (codes "yes") bytes) (literal (codes "no") bytes)) (codes "yes") after
    (λ after. or_leads after (literal (codes "yes")) (literal (codes "no")) (literal_never (codes "yes")) (literal_leads (codes "yes") after) (literal_leads (codes "no") after)) (λ rest. refl))

-- ---- optional parts

-- white space and the end of the declaration
record LastLeft (rest : List ℕ) : Type 0 where
  white : List ℕ
  is_white : IsBlank white
  is : rest ≡ white ++ codes "?>"

at_last : (rest : List ℕ) → Left (codes "?>") rest → LastLeft rest
at_last rest e = record { white = []; is_white = tt; is = e }

optional_leads : (letter : ℕ) (part : List ℕ → Result (List ℕ) Stop) → eqb 63 letter ≡ false → Leads rest_on rest_on (Left (codes "?>")) part → Leads rest_on rest_on LastLeft (optional letter part)
optional_leads letter part other l = record {
  stays = λ bytes rest tail e. stay bytes rest tail e;
  leads = λ bytes e. lead bytes e;
}
  where
    there : (b : ℕ) (bytes here rest tail : List ℕ) → part_or letter part (b ∷ bytes) here ≡ Ok rest → part_or letter part (b ∷ (bytes ++ tail)) (here ++ tail) ≡ Ok (rest ++ tail)
    there b bytes [] rest tail e = absurd cc
    there b bytes (x ∷ here) rest tail e = on (eqb x letter) e
      where
        on : (v : Bool) → cond v (part (x ∷ here)) (Ok (b ∷ bytes)) ≡ Ok rest → cond v (part (x ∷ (here ++ tail))) (Ok (b ∷ (bytes ++ tail))) ≡ Ok (rest ++ tail)
        on true h = l.stays (x ∷ here) rest tail h
        on false h = ap (λ (xs : List ℕ). Ok (xs ++ tail)) (same_ok (b ∷ bytes) rest h)

    stay : (bytes rest tail : List ℕ) → optional letter part bytes ≡ Ok rest → optional letter part (bytes ++ tail) ≡ Ok (rest ++ tail)
    stay [] rest tail e = absurd cc
    stay (b ∷ bytes) rest tail e = on (is_space b) e
      where
        on : (v : Bool) → cond v (spaces bytes >>= part_or letter part (b ∷ bytes)) (Ok (b ∷ bytes)) ≡ Ok rest → cond v (spaces (bytes ++ tail) >>= part_or letter part (b ∷ (bytes ++ tail))) (Ok (b ∷ (bytes ++ tail))) ≡ Ok (rest ++ tail)
        on true h =
            let s = bind_ok (spaces bytes) (part_or letter part (b ∷ bytes)) rest h in
            bind_both (spaces (bytes ++ tail)) (part_or letter part (b ∷ (bytes ++ tail))) (s.mid ++ tail) (rest ++ tail) ((spaces_leads 63 [] refl).stays bytes s.mid tail s.first) (there b bytes s.mid rest tail s.second)
        on false h = ap (λ (xs : List ℕ). Ok (xs ++ tail)) (same_ok (b ∷ bytes) rest h)

    -- bytes that are white space alone
    all_white : (b : ℕ) (bytes : List ℕ) → is_space b ≡ true → spaces bytes ≡ Err Want → Led rest_on LastLeft (optional letter part) (b ∷ bytes)
    all_white b bytes w e =
        let white : IsBlank (b ∷ bytes) = (w, spaces_want bytes e) in
        record { tail = codes "?>"; value = (b ∷ bytes) ++ codes "?>"; is = front_again letter part (b ∷ bytes) 63 (62 ∷ []) white refl other; holds = record { white = b ∷ bytes; is_white = white; is = refl } }

    some_part : (b : ℕ) (bytes here : List ℕ) → is_space b ≡ true → spaces bytes ≡ Ok here → IsDark here → part_or letter part (b ∷ bytes) here ≡ Err Want → Led rest_on LastLeft (optional letter part) (b ∷ bytes)
    some_part b bytes [] w e d h = absurd d
    some_part b bytes (x ∷ here) w e d h = on (eqb x letter) refl h
      where
        on : (v : Bool) → eqb x letter ≡ v → cond v (part (x ∷ here)) (Ok (b ∷ bytes)) ≡ Err Want → Led rest_on LastLeft (optional letter part) (b ∷ bytes)
        on true t h =
            let m = l.leads (x ∷ here) h in
            let spaces_are : spaces (bytes ++ m.tail) ≡ Ok (x ∷ (here ++ m.tail)) = (spaces_leads 63 [] refl).stays bytes (x ∷ here) m.tail e in
            record { tail = m.tail; value = m.value; is = rw (w, spaces_are, t) m.is; holds = at_last m.value m.holds }
        on false t h = absurd cc

    lead : (bytes : List ℕ) → optional letter part bytes ≡ Err Want → Led rest_on LastLeft (optional letter part) bytes
    lead [] e = record { tail = codes "?>"; value = codes "?>"; is = refl; holds = at_last (codes "?>") refl }
    lead (b ∷ bytes) e = on (is_space b) refl e
      where
        by : is_space b ≡ true → Wanting (spaces bytes) (part_or letter part (b ∷ bytes)) → Led rest_on LastLeft (optional letter part) (b ∷ bytes)
        by w (at_first h) = all_white b bytes w h
        by w (behind here h k) = some_part b bytes here w h (spaces_dark bytes here h) k

        on : (v : Bool) → is_space b ≡ v → cond v (spaces bytes >>= part_or letter part (b ∷ bytes)) (Ok (b ∷ bytes)) ≡ Err Want → Led rest_on LastLeft (optional letter part) (b ∷ bytes)
        on true w h = by w (bind_want (spaces bytes) (part_or letter part (b ∷ bytes)) h)
        on false w h = absurd cc

-- ---- the declaration

abbrev last_part : List ℕ → Result (Construct × List ℕ) Stop
last_part bytes = literal (codes "?>") bytes >>= λ rest. Ok (skipped, rest)

abbrev behind_standalone : List ℕ → Result (Construct × List ℕ) Stop
behind_standalone bytes = spaces bytes >>= last_part

abbrev behind_encoding : List ℕ → Result (Construct × List ℕ) Stop
behind_encoding bytes = optional 115 standalone_at bytes >>= behind_standalone

abbrev behind_version : List ℕ → Result (Construct × List ℕ) Stop
behind_version bytes = optional 101 encoding_at bytes >>= behind_encoding

abbrev Q : Construct × List ℕ → Type 0
Q = Any {Y = Construct × List ℕ}

last_leads : Leads rest_on pair_on Q last_part
last_leads = then_leads rest_on rest_on pair_on (Left []) Any (literal (codes "?>")) (λ rest. Ok (skipped, rest)) (literal_leads (codes "?>") []) (skipped_leads skipped) (λ rest l. any_read skipped rest)

standalone_last_leads : Leads rest_on pair_on Q behind_standalone
standalone_last_leads = then_leads rest_on rest_on pair_on (Left (codes "?>")) Any spaces last_part (spaces_leads 63 (codes ">") refl) last_leads (left_reads Any last_part (codes "?>") (skipped, []) refl tt)

white_last : (white : List ℕ) → IsBlank white → behind_standalone (white ++ codes "?>") ≡ Ok (skipped, [])
white_last white w = bind_both (spaces (white ++ codes "?>")) last_part (codes "?>") (skipped, []) (spaces_again white (codes "?>") w refl) refl

standalone_reads : (rest : List ℕ) → LastLeft rest → Reads Q (behind_standalone rest)
standalone_reads rest l = record { value = (skipped, []); is = ap behind_standalone l.is ∙ white_last l.white l.is_white; holds = tt }

encoding_last_leads : Leads rest_on pair_on Q behind_encoding
encoding_last_leads = then_leads rest_on rest_on pair_on LastLeft Any (optional 115 standalone_at) behind_standalone (optional_leads 115 standalone_at refl (standalone_leads (codes "?>"))) standalone_last_leads standalone_reads

white_encoding : (white : List ℕ) → IsBlank white → behind_encoding (white ++ codes "?>") ≡ Ok (skipped, [])
white_encoding white w = bind_both (optional 115 standalone_at (white ++ codes "?>")) behind_standalone (white ++ codes "?>") (skipped, []) (front_again 115 standalone_at white 63 (62 ∷ []) w refl refl) (white_last white w)

encoding_reads : (rest : List ℕ) → LastLeft rest → Reads Q (behind_encoding rest)
encoding_reads rest l = record { value = (skipped, []); is = ap behind_encoding l.is ∙ white_encoding l.white l.is_white; holds = tt }

version_last_leads : Leads rest_on pair_on Q behind_version
version_last_leads = then_leads rest_on rest_on pair_on LastLeft Any (optional 101 encoding_at) behind_encoding (optional_leads 101 encoding_at refl (encoding_leads (codes "?>"))) encoding_last_leads encoding_reads

behind_version_last : behind_version (codes "?>") ≡ Ok (skipped, [])
behind_version_last = bind_both (optional 101 encoding_at (codes "?>")) behind_encoding (codes "?>") (skipped, []) refl (white_encoding [] tt)

abbrev pub plainest : List ℕ
plainest = codes "version=\"1.0\"?>"

plainest_version : version_at plainest ≡ Ok (codes "?>")
unfolding version_at opened
plainest_version = refl

abbrev versioned : List ℕ → Result (Construct × List ℕ) Stop
versioned bytes = version_at bytes >>= behind_version

versioned_leads : Leads rest_on pair_on Q versioned
versioned_leads = then_leads rest_on rest_on pair_on (Left (codes "?>")) Any version_at behind_version (version_leads (codes "?>")) version_last_leads (left_reads Any behind_version (codes "?>") (skipped, []) behind_version_last tt)

plainest_versioned : versioned plainest ≡ Ok (skipped, [])
plainest_versioned = bind_both (version_at plainest) behind_version (codes "?>") (skipped, []) plainest_version behind_version_last

pub declaration_leads : Leads rest_on pair_on Q declaration_at
unfolding declaration_at
declaration_leads = then_leads rest_on rest_on pair_on (Left plainest) Any spaces versioned (spaces_leads 118 (codes "ersion=\"1.0\"?>") refl) versioned_leads (left_reads Any versioned plainest (skipped, []) plainest_versioned tt)

pub plainest_declaration : declaration_at plainest ≡ Ok (skipped, [])
unfolding declaration_at
plainest_declaration = plainest_versioned

one_space_leads : Leads rest_on rest_on (Left plainest) one_space
one_space_leads = record {
  stays = λ bytes rest tail e. let s = one_space_ok bytes rest e in ap (λ (xs : List ℕ). one_space (xs ++ tail)) s.parts ∙ rw s.white refl;
  leads = λ bytes e. on bytes e;
}
  where
    no_want : (bytes : List ℕ) (v : Bool) → cond v (Ok bytes) (Err Malformed) ≡ Err Want → ⊥
    no_want bytes true e = cc
    no_want bytes false e = cc

    on : (bytes : List ℕ) → one_space bytes ≡ Err Want → Led rest_on (Left plainest) one_space bytes
    on [] e = record { tail = 32 ∷ plainest; value = plainest; is = refl; holds = refl }
    on (b ∷ bytes) e = absurd (no_want bytes (is_space b) e)

pub declares_leads : Leads rest_on rest_on (Left plainest) declares
unfolding declares
declares_leads = then_leads rest_on rest_on rest_on (Left (32 ∷ plainest)) (Left plainest) (literal (codes "<?xml")) one_space (literal_leads (codes "<?xml") (32 ∷ plainest)) one_space_leads (left_reads (Left plainest) one_space (32 ∷ plainest) plainest refl refl)
