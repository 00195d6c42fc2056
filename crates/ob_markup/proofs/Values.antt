-- What the value of an attribute stands for, part by part.
use Rattle.std.proofs.Common.{◌≡◌, ◌≢◌, ℕ, ◌≤◌, ◌⊎◌, inl, inr, Bool, true, false, ◌||◌, not, cond, eqb, List, [], ◌∷◌, ◌++◌, Option, Some, None, Result, Ok, Err, refl, sym, ap, ◌∙◌, subst, arith}
use Rattle.std.specs.List.{flat_map}
use Rattle.std.specs.Char.{encode_utf8}
use Rattle.std.proofs.lemmas.Bool.{eqb-true, eq-eqb}
use Rattle.std.proofs.lemmas.Bool.Decides.{nat_tests}
use Rattle.ob_values.proofs.Bools.{neither, or_parts}
use Rattle.ob_scan.specs.declared.stop.Stop.{Stop}
use Rattle.ob_scan.specs.declared.character.Progress.{Progress}
use Rattle.ob_scan.specs.declared.character.Progress.TheVariants.{Whole}
use Rattle.ob_scan.specs.Characters.{after_byte}
use Rattle.ob_scan.specs.Reading.{is_whole}
use Rattle.ob_scan.specs.Constructs.{then_read, reference_at}
use Rattle.ob_scan.specs.Expansion.{stop_or, character_from, behind_line_feed, item_at, Expands}
use Rattle.ob_scan.specs.Expansion as expansion
use Rattle.ob_scan.proofs.Expanding.{Holds, IsCharacter, one_character}
use Rattle.ob_scan.proofs.XmlTexts.{xml_char}
use Rattle.ob_documents.proofs.Characters.{Walk, walk_item, Sort, tab as is_tab, line_feed as is_line_feed, return, quote, ampersand as is_ampersand, less_than as is_less_than, plain, wide, sort_of}
use Rattle.ob_markup.specs.References.{Reference, print_reference, Item, character, tab, line_feed, carriage_return, line_end, reference, print_item, item_text, is_replaced, IsItem, MayPrecede, AreItems, print_items, StandsFor}
use Rattle.ob_markup.specs.Scanning.{ValuesStand}
use Rattle.ob_markup.proofs.References.{reference_ok, print_is, reference_again}

-- behind a CR that stands alone no LF stands
abbrev Fits : Item → List ℕ → Type 0
Fits carriage_return (b ∷ bytes) = eqb b 10 ≡ false
Fits item bytes = Unit {0}

record ItemFound (bytes text rest : List ℕ) : Type 0 where
  item : Item
  form : IsItem item
  text_is : text ≡ item_text item
  parts : bytes ≡ print_item item ++ rest
  fits : Fits item rest

-- ---- characters

abbrev Splits : List ℕ → Option (List ℕ × List ℕ) → Type 0
Splits bytes None = Unit {0}
Splits bytes (Some x) = x.0 ++ x.1 ≡ bytes

one_more : (b : ℕ) (bytes : List ℕ) (o : Option (List ℕ × List ℕ)) → Splits bytes o → Splits (b ∷ bytes) (then_read o (λ x. Some (b ∷ x.0, x.1)))
one_more b bytes None h = tt
one_more b bytes (Some x) h = ap (λ (xs : List ℕ). b ∷ xs) h

character_splits : (p : Progress) (bytes : List ℕ) → Splits bytes (character_from p bytes)
character_splits p [] = tt
character_splits p (b ∷ bytes) = on (after_byte p b) (λ next. character_splits next bytes)
  where
    by_end : (v : Bool) (o : Option (List ℕ × List ℕ)) → Splits bytes o → Splits (b ∷ bytes) (cond v (Some (b ∷ [], bytes)) (then_read o (λ x. Some (b ∷ x.0, x.1))))
    by_end true o h = refl
    by_end false o h = one_more b bytes o h

    on : (r : Result Progress Stop) → ((next : Progress) → Splits bytes (character_from next bytes)) → Splits (b ∷ bytes) (stop_or b bytes r (λ next. character_from next bytes))
    on (Ok next) h = by_end (is_whole next) (character_from next bytes) (h next)
    on (Err e) h = tt

-- bytes of one byte
one_byte : (c : ℕ) → (c ≡ 38) ⊎ ((c ≡ 9) ⊎ ((c ≡ 10) ⊎ (c ≡ 13))) → encode_utf8 c ≡ c ∷ []
unfolding encode_utf8
one_byte c (inl e) = rw e refl
one_byte c (inr (inl e)) = rw e refl
one_byte c (inr (inr (inl e))) = rw e refl
one_byte c (inr (inr (inr e))) = rw e refl

replaced_is : (c : ℕ) → is_replaced c ≡ true → (c ≡ 38) ⊎ ((c ≡ 9) ⊎ ((c ≡ 10) ⊎ (c ≡ 13)))
replaced_is c e = grind (arith, nat_tests)

-- a byte that begins none of the replaced
record IsOther (b : ℕ) : Type 0 where
  ampersand : eqb b 38 ≡ false
  return : eqb b 13 ≡ false
  feed : eqb b 10 ≡ false
  tab : eqb b 9 ≡ false

other_apart : (b c : ℕ) → IsOther b → b ≡ c → (c ≡ 38) ⊎ ((c ≡ 9) ⊎ ((c ≡ 10) ⊎ (c ≡ 13))) → ⊥
other_apart b c o e (inl h) = let t : true ≡ false = sym (eq-eqb b 38 (e ∙ h)) ∙ o.ampersand in cc
other_apart b c o e (inr (inl h)) = let t : true ≡ false = sym (eq-eqb b 9 (e ∙ h)) ∙ o.tab in cc
other_apart b c o e (inr (inr (inl h))) = let t : true ≡ false = sym (eq-eqb b 10 (e ∙ h)) ∙ o.feed in cc
other_apart b c o e (inr (inr (inr h))) = let t : true ≡ false = sym (eq-eqb b 13 (e ∙ h)) ∙ o.return in cc

not_replaced : (b c : ℕ) (bytes rest : List ℕ) → IsOther b → encode_utf8 c ++ rest ≡ b ∷ bytes → not (is_replaced c) ≡ true
not_replaced b c bytes rest o e = on (is_replaced c) refl
  where
    on : (v : Bool) → is_replaced c ≡ v → not v ≡ true
    on false t = refl
    on true t =
        let is = replaced_is c t in
        let one : c ∷ rest ≡ b ∷ bytes = ap (λ (xs : List ℕ). xs ++ rest) (sym (one_byte c is)) ∙ e in
        let same : b ≡ c = cc in
        absurd (other_apart b c o same is)

character_ok : (b : ℕ) (bytes text rest : List ℕ) → IsOther b → character_from Whole (b ∷ bytes) ≡ Some (text, rest) → ItemFound (b ∷ bytes) text rest
character_ok b bytes text rest o e =
    let c : IsCharacter text = subst (Holds IsCharacter) e (one_character (b ∷ bytes)) in
    let all : text ++ rest ≡ b ∷ bytes = subst (Splits (b ∷ bytes)) e (character_splits Whole (b ∷ bytes)) in
    let parts : encode_utf8 c.0 ++ rest ≡ b ∷ bytes = ap (λ (xs : List ℕ). xs ++ rest) c.2 ∙ all in
    record {
      item = character c.0;
      form = (xml_char c.0 c.1, not_replaced b c.0 bytes rest o parts);
      text_is = sym c.2;
      parts = sym parts;
      fits = tt;
    }

-- ---- items

abbrev read_as : List ℕ → List ℕ → Option (List ℕ × List ℕ)
read_as text rest = Some (text, rest)

some_is : (x y : List ℕ × List ℕ) → Some x ≡ Some y → x ≡ y
some_is x y e = cc

some_pair : (a b c d : List ℕ) → read_as a b ≡ read_as c d → (a ≡ c) × (b ≡ d)
some_pair a b c d e = let same = some_is (a, b) (c, d) e in (ap (λ (x : List ℕ × List ℕ). x.0) same, ap (λ (x : List ℕ × List ℕ). x.1) same)

abbrev referred_item : ℕ × List ℕ → Option (List ℕ × List ℕ)
referred_item x = Some (encode_utf8 x.0, x.1)

white_item : (item : Item) (bytes text rest : List ℕ) → IsItem item → item_text item ≡ 32 ∷ [] → (32 ∷ [] ≡ text) → bytes ≡ print_item item ++ rest → Fits item rest → ItemFound bytes text rest
white_item item bytes text rest form t e parts fits = record { item = item; form = form; text_is = sym e ∙ sym t; parts = parts; fits = fits }

return_ok : (bytes text rest : List ℕ) → read_as (32 ∷ []) (behind_line_feed bytes) ≡ read_as text rest → ItemFound (13 ∷ bytes) text rest
return_ok [] text rest e =
    let p = some_pair (32 ∷ []) [] text rest e in
    white_item carriage_return (13 ∷ []) text rest tt refl p.0 (ap (λ (xs : List ℕ). 13 ∷ xs) p.1) (subst (Fits carriage_return) p.1 tt)
return_ok (b ∷ bytes) text rest e = on (eqb b 10) refl e
  where
    on : (v : Bool) → eqb b 10 ≡ v → read_as (32 ∷ []) (cond v bytes (b ∷ bytes)) ≡ read_as text rest → ItemFound (13 ∷ b ∷ bytes) text rest
    on true t h =
        let p = some_pair (32 ∷ []) bytes text rest h in
        let is : b ≡ 10 = eqb-true b 10 t in
        white_item line_end (13 ∷ b ∷ bytes) text rest tt refl p.0 (ap (λ (x : ℕ). 13 ∷ x ∷ bytes) is ∙ ap (λ (xs : List ℕ). 13 ∷ 10 ∷ xs) p.1) tt
    on false t h =
        let p = some_pair (32 ∷ []) (b ∷ bytes) text rest h in
        let fits : Fits carriage_return rest = subst (Fits carriage_return) p.1 t in
        white_item carriage_return (13 ∷ b ∷ bytes) text rest tt refl p.0 (ap (λ (xs : List ℕ). 13 ∷ xs) p.1) fits

reference_item : (bytes text rest : List ℕ) (o : Option (ℕ × List ℕ)) → reference_at bytes ≡ o → then_read o referred_item ≡ read_as text rest → ItemFound (38 ∷ bytes) text rest
reference_item bytes text rest None e h = absurd cc
reference_item bytes text rest (Some x) e h =
    let f = reference_ok bytes x e in
    let p = some_pair (encode_utf8 x.0) x.1 text rest h in
    record {
      item = reference f.reference;
      form = f.form;
      text_is = sym p.0 ∙ ap encode_utf8 f.is;
      parts = f.parts ∙ ap (λ (xs : List ℕ). print_reference f.reference ++ xs) p.1;
      fits = tt;
    }

at_byte : (b c : ℕ) (bytes text rest : List ℕ) → b ≡ c → ItemFound (c ∷ bytes) text rest → ItemFound (b ∷ bytes) text rest
at_byte b c bytes text rest e h = subst (λ (x : ℕ). ItemFound (x ∷ bytes) text rest) (sym e) h

item_ok : (bytes text rest : List ℕ) → item_at bytes ≡ Some (text, rest) → ItemFound bytes text rest
item_ok [] text rest e = absurd cc
item_ok (b ∷ bytes) text rest e = on (eqb b 38) (eqb b 13) (eqb b 10 || eqb b 9) refl refl refl e
  where
    blank : (eqb b 10 ≡ true) ⊎ (eqb b 9 ≡ true) → (32 ∷ [] ≡ text) × (bytes ≡ rest) → ItemFound (b ∷ bytes) text rest
    blank (inl t) p = at_byte b 10 bytes text rest (eqb-true b 10 t) (white_item line_feed (10 ∷ bytes) text rest tt refl p.0 (ap (λ (xs : List ℕ). 10 ∷ xs) p.1) tt)
    blank (inr t) p = at_byte b 9 bytes text rest (eqb-true b 9 t) (white_item tab (9 ∷ bytes) text rest tt refl p.0 (ap (λ (xs : List ℕ). 9 ∷ xs) p.1) tt)

    on : (s t u : Bool) → eqb b 38 ≡ s → eqb b 13 ≡ t → (eqb b 10 || eqb b 9) ≡ u
        → cond s (then_read (reference_at bytes) (λ x. Some (encode_utf8 x.0, x.1))) (cond t (Some (32 ∷ [], behind_line_feed bytes)) (cond u (Some (32 ∷ [], bytes)) (character_from Whole (b ∷ bytes)))) ≡ Some (text, rest) → ItemFound (b ∷ bytes) text rest
    on true t u p q r h = at_byte b 38 bytes text rest (eqb-true b 38 p) (reference_item bytes text rest (reference_at bytes) refl h)
    on false true u p q r h = at_byte b 13 bytes text rest (eqb-true b 13 q) (return_ok bytes text rest h)
    on false false true p q r h = blank (or_parts (eqb b 10) (eqb b 9) r) (some_pair (32 ∷ []) bytes text rest h)
    on false false false p q r h = let o = neither (eqb b 10) (eqb b 9) r in character_ok b bytes text rest (record { ampersand = p; return = q; feed = o.0; tab = o.1 }) h

-- ---- and back

choose_last : (p q r s : Bool) (x y z w : Option (List ℕ × List ℕ)) → p ≡ false → q ≡ false → r ≡ false → s ≡ false → cond p x (cond q y (cond (r || s) z w)) ≡ w
choose_last p q r s x y z w a b c d = rw (a, b, c, d) refl

item_other : (b : ℕ) (bytes : List ℕ) → IsOther b → item_at (b ∷ bytes) ≡ character_from Whole (b ∷ bytes)
item_other b bytes o = choose_last (eqb b 38) (eqb b 13) (eqb b 10) (eqb b 9) (then_read (reference_at bytes) (λ x. Some (encode_utf8 x.0, x.1))) (Some (32 ∷ [], behind_line_feed bytes)) (Some (32 ∷ [], bytes)) (character_from Whole (b ∷ bytes)) o.ampersand o.return o.feed o.tab

from_space : (b : ℕ) → 0x20 ≤ b → b ≢ 38 → IsOther b
from_space b h n = record { ampersand = grind (arith, nat_tests); return = grind (arith, nat_tests); feed = grind (arith, nat_tests); tab = grind (arith, nat_tests) }

plain_walk : (c : ℕ) → 0x20 ≤ c → c ≤ 0x7F → after_byte Whole c ≡ Ok Whole
plain_walk c h k = grind (arith, nat_tests)

bytes_item : (b : ℕ) (bytes rest : List ℕ) → IsOther b → Walk Whole (b ∷ bytes) → item_at ((b ∷ bytes) ++ rest) ≡ Some (b ∷ bytes, rest)
bytes_item b bytes rest o w = item_other b (bytes ++ rest) o ∙ walk_item Whole (b ∷ bytes) rest w

-- the item at the front of a character's bytes, and that no LF begins them
record CharItem (c : ℕ) (rest : List ℕ) : Type 0 where
  item_is : item_at (encode_utf8 c ++ rest) ≡ Some (encode_utf8 c, rest)
  fits : Fits carriage_return (encode_utf8 c ++ rest)

of_bytes : (c b : ℕ) (bytes rest : List ℕ) → encode_utf8 c ≡ b ∷ bytes → IsOther b → Walk Whole (b ∷ bytes) → CharItem c rest
of_bytes c b bytes rest e o w = record {
  item_is = ap (λ (xs : List ℕ). item_at (xs ++ rest)) e ∙ bytes_item b bytes rest o w ∙ ap (λ (xs : List ℕ). Some (xs, rest)) (sym e);
  fits = subst (λ (xs : List ℕ). Fits carriage_return (xs ++ rest)) (sym e) o.feed;
}

not_38 : (c : ℕ) → eqb c 38 ≡ false → c ≢ 38
not_38 c e h = let t : true ≡ false = sym (eq-eqb c 38 h) ∙ e in cc

high_not_38 : (b : ℕ) → 128 ≤ b → b ≢ 38
high_not_38 b h e = omega (arith, h, e)

sort_item : (c : ℕ) (rest : List ℕ) → Sort c → not (is_replaced c) ≡ true → CharItem c rest
unfolding encode_utf8
sort_item c rest is_tab n = absurd cc
sort_item c rest is_line_feed n = absurd cc
sort_item c rest return n = absurd cc
sort_item c rest is_ampersand n = absurd cc
sort_item c rest quote n = record { item_is = refl; fits = refl }
sort_item c rest is_less_than n = record { item_is = refl; fits = refl }
sort_item c rest (plain d p) n = of_bytes d d [] rest p.one (from_space d p.least (not_38 d p.no_and)) (plain_walk d p.least p.most)
sort_item c rest (wide d w) n = of_bytes d w.first w.more rest w.bytes (from_space w.first (omega (arith, w.high.0)) (high_not_38 w.first w.high.0)) w.walk

item_again : (item : Item) (rest : List ℕ) → IsItem item → Fits item rest → item_at (print_item item ++ rest) ≡ Some (item_text item, rest)
item_again (character c) rest form fits = (sort_item c rest (sort_of c form.0) form.1).item_is
item_again tab rest form fits = refl
item_again line_feed rest form fits = refl
item_again carriage_return [] form fits = refl
item_again carriage_return (b ∷ rest) form fits = rw fits refl
item_again line_end rest form fits = refl
item_again (reference r) rest form fits =
    ap (λ (xs : List ℕ). item_at (xs ++ rest)) (print_is r) ∙ ap (λ (o : Option (ℕ × List ℕ)). then_read o referred_item) (reference_again r rest form)

-- ---- values

precedes : (item : Item) (items : List Item) → Fits item (print_items items) → MayPrecede item items
precedes carriage_return [] f = tt
precedes carriage_return (character c ∷ items) f = tt
precedes carriage_return (tab ∷ items) f = tt
precedes carriage_return (line_feed ∷ items) f = cc
precedes carriage_return (carriage_return ∷ items) f = tt
precedes carriage_return (line_end ∷ items) f = tt
precedes carriage_return (reference r ∷ items) f = tt
precedes (character c) items f = tt
precedes tab items f = tt
precedes line_feed items f = tt
precedes line_end items f = tt
precedes (reference r) items f = tt

reference_fits : (r : Reference) (rest : List ℕ) → Fits carriage_return (print_reference r ++ rest)
reference_fits r rest = subst (λ (xs : List ℕ). Fits carriage_return (xs ++ rest)) (sym (print_is r)) refl

fits_of : (item : Item) (items : List Item) → AreItems items → MayPrecede item items → Fits item (print_items items)
fits_of carriage_return [] a m = tt
fits_of carriage_return (character c ∷ items) a m = (sort_item c (print_items items) (sort_of c a.0.0) a.0.1).fits
fits_of carriage_return (tab ∷ items) a m = refl
fits_of carriage_return (line_feed ∷ items) a m = absurd m
fits_of carriage_return (carriage_return ∷ items) a m = refl
fits_of carriage_return (line_end ∷ items) a m = refl
fits_of carriage_return (reference r ∷ items) a m = reference_fits r (print_items items)
fits_of (character c) items a m = tt
fits_of tab items a m = tt
fits_of line_feed items a m = tt
fits_of line_end items a m = tt
fits_of (reference r) items a m = tt

pub value_stands : (value text : List ℕ) → Expands value text → StandsFor value text
value_stands value text expansion.nothing = record { items = []; are_items = tt; printed = refl; text_is = refl }
value_stands value text (expansion.item bytes front rest behind e h) =
    let found = item_ok bytes front rest e in
    let later = value_stands rest behind h in
    record {
      items = found.item ∷ later.items;
      are_items = (found.form, precedes found.item later.items (subst (Fits found.item) later.printed found.fits), later.are_items);
      printed = found.parts ∙ ap (λ (xs : List ℕ). print_item found.item ++ xs) later.printed;
      text_is = ap (λ (xs : List ℕ). xs ++ behind) found.text_is ∙ ap (λ (xs : List ℕ). item_text found.item ++ xs) later.text_is;
    }

items_expand : (items : List Item) → AreItems items → Expands (print_items items) (flat_map item_text items)
items_expand [] a = expansion.nothing
items_expand (item ∷ items) a =
    expansion.item (print_item item ++ print_items items) (item_text item) (print_items items) (flat_map item_text items) (item_again item (print_items items) a.0 (fits_of item items a.2 a.1)) (items_expand items a.2)

pub value_expands : (value text : List ℕ) → StandsFor value text → Expands value text
value_expands value text s =
    subst (λ (xs : List ℕ). Expands xs text) (sym s.printed) (subst (λ (xs : List ℕ). Expands (print_items s.items) xs) (sym s.text_is) (items_expand s.items s.are_items))

pub values_stand : ValuesStand
values_stand value text = (value_stands value text, value_expands value text)
