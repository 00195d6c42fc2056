-- That what is made of all entries before any is put is what the definition of replay makes of one after the other.
use Rattle.std.proofs.Common.{◌≡◌, Bool, true, false, cond, not, List, [], ◌∷◌, ◌++◌, map, refl, sym, ap, ◌∙◌, append-nil}
use Rattle.std.specs.Prelude.{Option, Some, None}
use Rattle.std.specs.Option.{option_map_or}
use Rattle.std.specs.Str.{bytes_eq}
use Rattle.std.proofs.lemmas.List.{map-append}
use Rattle.std.proofs.lemmas.Slice.Eq.{bytes_eq-Decides}
use Rattle.ob_values.proofs.Bools.{neither_left, neither_right}
use Rattle.ob_object.specs.declared.kind.Kind.{Kind}
use Rattle.ob_object.specs.declared.kind.Kind.TheVariants as kind
use Rattle.ob_object.specs.Kinds.{same_kind}
use Rattle.ob_object.specs.Object.{Object}
use Rattle.ob_watching.specs.Operations.{Shows, Refuses}
use Rattle.ob_watching.specs.Replay.{continued, change, take_added, changed_by, added_by}
use Rattle.ob_watching.specs.Tables.{put, is_among}
use Rattle.ob_watching.specs.WatchOuts.{Text, Held, without_href, content_if, entry_read}
use Rattle.ob_client.specs.Entries.{is_feed, is_err, text_of, each_once}
use Rattle.ob_client.specs.Shown.{Content}
use Rattle.ob_client.specs.Mirrors.{found}
use Rattle.ob_client.specs.Tables.{put_new, put_all, without_errs, next}
use Rattle.ob_client.proofs.ShownLemmas.{reading, read_plain}
use Rattle.ob_client.proofs.TableLemmas.{bytes_eq_sym}
use Rattle.ob_client.proofs.OnceLemmas.{stand_once, once_none, left_new, right_once}

-- ---- errs

not_both : (k : Kind) → same_kind k kind.Err ≡ true → same_kind k kind.Feed ≡ false
not_both kind.Obj e = refl
not_both kind.Bool e = refl
not_both kind.Int e = refl
not_both kind.Real e = refl
not_both kind.Str e = refl
not_both kind.Enum e = refl
not_both kind.Uri e = refl
not_both kind.Abstime e = refl
not_both kind.Reltime e = refl
not_both kind.Date e = refl
not_both kind.Time e = refl
not_both kind.List e = refl
not_both kind.Op e = refl
not_both kind.Feed e = sym e
not_both kind.Ref e = refl
not_both kind.Err e = refl

err_read : (b : Bool) (o : Object) → is_err o ≡ true → (entry_read b o).content ≡ Refuses (without_href o)
err_read b o e =
    ap (λ (h : Held). h.content) (read_plain b o (not_both o.head.kind e))
    ∙ ap (λ c. let x : Content = cond c (Refuses (without_href o)) (Shows (without_href o)) in x) e

abbrev by_kind : Bool → Bool → Object → Content
by_kind b feed o = content_if b feed false (without_href o)

other_read : (b : Bool) (o : Object) → is_err o ≡ false → (entry_read b o).content ≡ by_kind b (is_feed o) o
other_read b o e = ap (λ c. let x : Content = content_if b (is_feed o) c (without_href o) in x) e

-- ---- an add

takes_content : (b feed : Bool) (o : Object) (r : Held) (held : List Held) → take_added bytes_eq r (by_kind b feed o) held ≡ put_new r held
takes_content true true o r held = refl
takes_content false true o r held = refl
takes_content b false o r held = refl

pub added_all : (os : List Object) (held : List Held) → put_all (map (entry_read false) (without_errs os)) held ≡ added_by bytes_eq (map (entry_read false) os) held
added_all [] held = refl
added_all (o ∷ os) held = go (is_err o) refl (added_all os)
  where
    go : (b : Bool) → is_err o ≡ b → ((hs : List Held) → put_all (map (entry_read false) (without_errs os)) hs ≡ added_by bytes_eq (map (entry_read false) os) hs) → put_all (map (entry_read false) (cond (not b) (o ∷ without_errs os) (without_errs os))) held ≡ added_by bytes_eq (map (entry_read false) os) (take_added bytes_eq (entry_read false o) (entry_read false o).content held)
    go true e rest = rest held ∙ sym (ap (λ (c : Content). added_by bytes_eq (map (entry_read false) os) (take_added bytes_eq (entry_read false o) c held)) (err_read false o e))
    go false e rest =
        rest (put_new (entry_read false o) held)
        ∙ sym (ap (λ (c : Content). added_by bytes_eq (map (entry_read false) os) (take_added bytes_eq (entry_read false o) c held)) (other_read false o e)
        ∙ ap (added_by bytes_eq (map (entry_read false) os)) (takes_content false (is_feed o) o (entry_read false o) held))

-- ---- a pollChanges

put_goes_on : (t : Text) (c : Content) (held : List Held) → put (λ (old : Held). bytes_eq old.text t) (λ (old : Held). reading old.text (continued old.content c)) (reading t c) held ≡ put_new (next held (reading t c)) held
put_goes_on t c [] = refl
put_goes_on t c (h ∷ hs) = go (bytes_eq h.text t) refl (put_goes_on t c hs)
  where
    looked : (b : Bool) → bytes_eq h.text t ≡ b → next (h ∷ hs) (reading t c) ≡ reading t (option_map_or (λ (old : Held). continued old.content c) (cond b (Some h) (found t hs)) c)
    looked b e = ap (λ b. reading t (option_map_or (λ (old : Held). continued old.content c) (cond b (Some h) (found t hs)) c)) (bytes_eq_sym t h.text ∙ e)

    go : (b : Bool) → bytes_eq h.text t ≡ b → put (λ (old : Held). bytes_eq old.text t) (λ (old : Held). reading old.text (continued old.content c)) (reading t c) hs ≡ put_new (next hs (reading t c)) hs
        → cond b (reading h.text (continued h.content c) ∷ hs) (h ∷ put (λ (old : Held). bytes_eq old.text t) (λ (old : Held). reading old.text (continued old.content c)) (reading t c) hs)
        ≡ put_new (next (h ∷ hs) (reading t c)) (h ∷ hs)
    go true e rest =
        ap (λ (u : Text). reading u (continued h.content c) ∷ hs) ((bytes_eq-Decides h.text t).0 e)
        ∙ sym (ap (λ b. cond b (next (h ∷ hs) (reading t c) ∷ hs) (h ∷ put_new (next (h ∷ hs) (reading t c)) hs)) e
        ∙ ap (λ (n : Held). n ∷ hs) (looked true e))
    go false e rest =
        ap (λ (xs : List Held). h ∷ xs) rest
        ∙ sym (ap (λ b. cond b (next (h ∷ hs) (reading t c) ∷ hs) (h ∷ put_new (next (h ∷ hs) (reading t c)) hs)) e
        ∙ ap (λ (n : Held). h ∷ put_new n hs) (looked false e))

changes_content : (b feed : Bool) (o : Object) (r : Held) (held : List Held) → change bytes_eq r (by_kind b feed o) held ≡ put (λ (old : Held). bytes_eq old.text r.text) (λ (old : Held). reading old.text (continued old.content (by_kind b feed o))) r held
changes_content true true o r held = refl
changes_content false true o r held = refl
changes_content b false o r held = refl

one_change : (o : Object) (held : List Held) → is_err o ≡ false → change bytes_eq (entry_read true o) (entry_read true o).content held ≡ put_new (next held (entry_read true o)) held
one_change o held e =
    let c = by_kind true (is_feed o) o in
    let r : entry_read true o ≡ reading (text_of o) c = ap (reading (text_of o)) (other_read true o e) in
    ap (λ (x : Held). change bytes_eq x x.content held) r
    ∙ changes_content true (is_feed o) o (reading (text_of o) c) held
    ∙ put_goes_on (text_of o) c held
    ∙ sym (ap (λ (x : Held). put_new (next held x) held) r)

-- what is put under another text is not found
found_put : (u : Text) (n : Held) (held : List Held) → bytes_eq u n.text ≡ false → found u (put_new n held) ≡ found u held
found_put u n [] e = ap (λ b. let o : Option Held = cond b (Some n) None in o) e
found_put u n (h ∷ hs) e = go (bytes_eq h.text n.text) refl (found_put u n hs e)
  where
    go : (b : Bool) → bytes_eq h.text n.text ≡ b → found u (put_new n hs) ≡ found u hs → found u (cond b (n ∷ hs) (h ∷ put_new n hs)) ≡ found u (h ∷ hs)
    go true is rest =
        ap (λ b. cond b (Some n) (found u hs)) e
        ∙ sym (ap (λ b. cond b (Some h) (found u hs)) (ap (bytes_eq u) ((bytes_eq-Decides h.text n.text).0 is) ∙ e))
    go false is rest = ap (λ (o : Option Held). cond (bytes_eq u h.text) (Some h) o) rest

abbrev nexts : List Held → List Object → List Held
nexts held os = map (λ o. next held (entry_read true o)) (without_errs os)

nexts_same : (os : List Object) (n : Held) (held : List Held) → is_among bytes_eq (map text_of os) n.text ≡ false → nexts (put_new n held) os ≡ nexts held os
nexts_same [] n held e = refl
nexts_same (o ∷ os) n held e = go (is_err o) (nexts_same os n held (neither_right (bytes_eq n.text (text_of o)) (is_among bytes_eq (map text_of os) n.text) e))
  where
    other : bytes_eq (text_of o) n.text ≡ false
    other = bytes_eq_sym (text_of o) n.text ∙ neither_left (bytes_eq n.text (text_of o)) (is_among bytes_eq (map text_of os) n.text) e

    go : (b : Bool) → nexts (put_new n held) os ≡ nexts held os → map (λ x. next (put_new n held) (entry_read true x)) (cond (not b) (o ∷ without_errs os) (without_errs os)) ≡ map (λ x. next held (entry_read true x)) (cond (not b) (o ∷ without_errs os) (without_errs os))
    go true later = later
    go false later =
        ap (λ (x : Option Held). reading (text_of o) (option_map_or (λ (old : Held). continued old.content (entry_read true o).content) x (entry_read true o).content) ∷ nexts (put_new n held) os) (found_put (text_of o) n held other)
        ∙ ap (λ (xs : List Held). next held (entry_read true o) ∷ xs) later

pub changed_all : (os : List Object) (held : List Held) → each_once (map text_of os) ≡ true → put_all (nexts held os) held ≡ changed_by bytes_eq (map (entry_read true) os) held
changed_all [] held once = refl
changed_all (o ∷ os) held once =
    let later = right_once (is_among bytes_eq (map text_of os) (text_of o)) (each_once (map text_of os)) once in
    go (is_err o) refl (λ hs. changed_all os hs later)
  where
    other : is_among bytes_eq (map text_of os) (text_of o) ≡ false
    other = left_new (is_among bytes_eq (map text_of os) (text_of o)) (each_once (map text_of os)) once

    go : (b : Bool) → is_err o ≡ b → ((hs : List Held) → put_all (nexts hs os) hs ≡ changed_by bytes_eq (map (entry_read true) os) hs) → put_all (map (λ x. next held (entry_read true x)) (cond (not b) (o ∷ without_errs os) (without_errs os))) held ≡ changed_by bytes_eq (map (entry_read true) os) (change bytes_eq (entry_read true o) (entry_read true o).content held)
    go true e rest = rest held ∙ sym (ap (λ (c : Content). changed_by bytes_eq (map (entry_read true) os) (change bytes_eq (entry_read true o) c held)) (err_read true o e))
    go false e rest =
        let n = next held (entry_read true o) in
        ap (λ (xs : List Held). put_all xs (put_new n held)) (sym (nexts_same os n held other))
        ∙ rest (put_new n held)
        ∙ sym (ap (changed_by bytes_eq (map (entry_read true) os)) (one_change o held e))

-- ---- a pollRefresh

abbrev texts_of : List Held → List Text
texts_of us = map (λ (u : Held). u.text) us

put_last : (new : Held) (us : List Held) → is_among bytes_eq (texts_of us) new.text ≡ false → put_new new us ≡ us ++ new ∷ []
put_last new [] h = refl
put_last new (u ∷ us) h =
    let other : bytes_eq u.text new.text ≡ false = bytes_eq_sym u.text new.text ∙ neither_left (bytes_eq new.text u.text) (is_among bytes_eq (texts_of us) new.text) h in
    ap (λ b. cond b (new ∷ us) (u ∷ put_new new us)) other
    ∙ ap (λ (xs : List Held). u ∷ xs) (put_last new us (neither_right (bytes_eq new.text u.text) (is_among bytes_eq (texts_of us) new.text) h))

append_more : (us : List Held) (h : Held) (hs : List Held) → (us ++ h ∷ []) ++ hs ≡ us ++ h ∷ hs
append_more [] h hs = refl
append_more (u ∷ us) h hs = ap (λ (xs : List Held). u ∷ xs) (append_more us h hs)

put_behind : (os : List Object) (us : List Held) → stand_once (texts_of us) (map text_of os) ≡ true → put_all (map (entry_read false) os) us ≡ us ++ map (entry_read false) os
put_behind [] us once = sym (append-nil us)
put_behind (o ∷ os) us once =
    let r = entry_read false o in
    let texts : texts_of (us ++ r ∷ []) ≡ texts_of us ++ text_of o ∷ [] = map-append (λ (u : Held). u.text) us (r ∷ []) in
    let fits = left_new (is_among bytes_eq (texts_of us) (text_of o)) (stand_once (texts_of us ++ text_of o ∷ []) (map text_of os)) once in
    let later = right_once (is_among bytes_eq (texts_of us) (text_of o)) (stand_once (texts_of us ++ text_of o ∷ []) (map text_of os)) once in
    ap (put_all (map (entry_read false) os)) (put_last r us fits)
    ∙ put_behind os (us ++ r ∷ []) (ap (λ (ts : List Text). stand_once ts (map text_of os)) texts ∙ later)
    ∙ append_more us r (map (entry_read false) os)

pub refreshed_all : (os : List Object) → each_once (map text_of os) ≡ true → put_all (map (entry_read false) os) [] ≡ map (entry_read false) os
refreshed_all os once = put_behind os [] (once_none (map text_of os) ∙ once)
