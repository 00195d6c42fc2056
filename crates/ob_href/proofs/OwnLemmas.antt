-- A text that is a path already is the path of the URL that it gives, against any base of the web.
use Rattle.std.proofs.Common.{◌≡◌, ◌≢◌, Result, ℕ, ◌+◌, ◌-◌, ◌<◌, ◌≤◌, Bool, true, false, not, ◌&&◌, ◌||◌, ◌==◌, List, [], ◌∷◌, ◌++◌, length, get_or, drop, reverse, All, IsTrue, Option, Some, None, Ok, codes, bytes_eq, refl, sym, ap, ◌∙◌, subst, ⊎_elim, inl, inr, arith, take_all, drop-cons, add-one}
use Rattle.std.specs.Prelude.{nat_eq}
use Rattle.std.specs.List.{prefix_len}
use Rattle.std.specs.Option.{option_eq}
use Rattle.std.proofs.lemmas.Bool.{cond-true, cond-false, lt-leb, and_parts, true≢false, ne_eqb, eq-eqb}
use Rattle.std.proofs.lemmas.Bool.Decides.{nat_tests}
use Rattle.std.proofs.lemmas.Slice.Eq.{bytes_eq-Decides}
use Rattle.std.proofs.lemmas.List.{get_or-reverse, length-reverse, drop_all}
use Rattle.std.proofs.lemmas.List.Elements.{All-nil, All-cons, All-head, All-weaker}
use Rattle.std.proofs.lemmas.List.Sums.{list_all-from_AllPass}
use Rattle.std.proofs.Math.Nat.{sub-zero}
use Rattle.percent_encoding.specs.Percent.{IsKept}
use Rattle.url.specs.declared.sets.TheConstants.{PATH}
use Rattle.url.specs.declared.scheme.SchemeType.TheVariants.{SpecialNotFile}
use Rattle.url.specs.Input.{is_c0_control_or_space, is_tab_or_new_line, trim_c0_control_and_space, strip_tabs_and_new_lines, split_once}
use Rattle.url.specs.Scheme.{scheme_type, default_port, is_slash, is_special, is_file, scheme_len}
use Rattle.url.specs.Path.{dot_count, IsSegment, join_segments, parse_path}
use Rattle.url.specs.Host.{host_text}
use Rattle.url.specs.Parts.{Parts, kind_of, has_authority, host_or_empty, IsValid}
use Rattle.url.specs.Head.{head_only}
use Rattle.url.specs.Parser.{Parsed, and_then, before_tail, with_tail, is_fragment_only, leading_slashes, with_path, parse_relative, parse_body, parse_all, parse_parts, split_scheme, parse_by_scheme, parse_without_scheme, parse_url}
use Rattle.url.proofs.InputLemmas.{IsNot, Passes, split_once_none, filter_all, is_empty_nonempty}
use Rattle.url.proofs.SetLemmas.{kept_from_passes}
use Rattle.url.proofs.TextLemmas.{All_kept}
use Rattle.url.proofs.PathLemmas.{rooted}
use Rattle.url.proofs.RoundTrip.{parse_after_slash, stays_unless_file}
use Rattle.url.proofs.ValidLemmas.{segment_list_kept, base_from_authority, special_has_authority}
use Rattle.ob_values.specs.XmlText.{is_printable}
use Rattle.ob_href.specs.declared.fault.HrefFault.{HrefFault}
use Rattle.ob_href.specs.Href.{is_web, IsBase, IsOwnPath, is_unreserved, may_follow, is_path_text, port_of, has_same_origin, without_fragment, target_of, only_if, path_of, resolved_path, located_path}
use Rattle.ob_values.proofs.Bools.{or_parts}
use Rattle.ob_href.proofs.XmlLemmas.{is_plain, is_visible, with_query_there}

-- ---- unreserved bytes

unreserved_ascii : (b : ℕ) → is_unreserved b ≡ true → b < 128
unreserved_ascii b plain = grind (arith, nat_tests)

unreserved_kept : (b : ℕ) → is_unreserved b ≡ true → IsKept PATH b
unreserved_kept b plain = kept_from_passes is_unreserved PATH refl b (unreserved_ascii b plain) plain

unreserved_within : (b : ℕ) → is_unreserved b ≡ true → is_slash SpecialNotFile b ≡ false
unreserved_within b plain = grind (arith, nat_tests)

unreserved_no_escape : (b : ℕ) → is_unreserved b ≡ true → (b == 37) ≡ false
unreserved_no_escape b plain = grind (arith, nat_tests)

-- ---- segments of them

no_dots : (s : List ℕ) → All (Passes is_unreserved) s → get_or s 0 0 ≢ 46 → dot_count s ≡ 0
unfolding dot_count
no_dots [] plain first = refl
no_dots (b ∷ s) plain first = rw (ne_eqb b 46 first, unreserved_no_escape b (All-head (Passes is_unreserved) b s plain)) refl

segment : (s : List ℕ) → All (Passes is_unreserved) s → get_or s 0 0 ≢ 46 → IsSegment SpecialNotFile s
segment s plain first = record {
  escaped = All-weaker (Passes is_unreserved) (IsKept PATH) unreserved_kept s plain;
  whole = All-weaker (Passes is_unreserved) (λ b. is_slash SpecialNotFile b ≡ false) unreserved_within s plain;
  resolved = no_dots s plain first;
}

-- each byte may follow, the first one where a slash stands before it or where none does
abbrev pub is_tail : Bool → List ℕ → Bool
is_tail behind_slash [] = true
is_tail behind_slash (b ∷ bytes) = may_follow behind_slash b && is_tail (b == 47) bytes

-- a part of a segment, and the segments behind it
record Parted (behind_slash : Bool) (bytes : List ℕ) : Type 0 where
  pub first : List ℕ
  pub later : List (List ℕ)
  pub joined : bytes ≡ first ++ join_segments later
  pub plain : All (Passes is_unreserved) first
  pub no_dot : behind_slash ≡ true → get_or first 0 0 ≢ 46
  pub each : All (IsSegment SpecialNotFile) later

left_of : (u x s : Bool) → ((u && x) || (false && s)) ≡ true → u ≡ true
left_of true x s told = refl
left_of false x s told = told

follows_plain : (behind_slash : Bool) (b : ℕ) → (b == 47) ≡ false → may_follow behind_slash b ≡ true → is_unreserved b ≡ true
follows_plain behind_slash b other may = left_of (is_unreserved b) (not (behind_slash && b == 46)) (not behind_slash) (rw other at may)

no_dot_follows : (behind_slash : Bool) (b : ℕ) → behind_slash ≡ true → may_follow behind_slash b ≡ true → b ≢ 46
no_dot_follows behind_slash b behind may same =
    let never : false ≡ true = subst (λ x. may_follow true x ≡ true) same (subst (λ t. may_follow t b ≡ true) behind may) in
    true≢false (sym never)

no_slash_follows : (b : ℕ) → may_follow true b ≡ true → is_slash SpecialNotFile b ≡ false
no_slash_follows b may = grind (arith, nat_tests)

-- one byte more
longer : (behind_slash : Bool) (b : ℕ) (bytes : List ℕ) → may_follow behind_slash b ≡ true → Parted (b == 47) bytes → Parted behind_slash (b ∷ bytes)
longer behind_slash b bytes may rest = by_slash (b == 47) refl
  where
    by_slash : (t : Bool) → (b == 47) ≡ t → Parted behind_slash (b ∷ bytes)
    by_slash true slash =
        let same : b ≡ 47 = grind (arith, nat_tests) in
        record {
          first = [];
          later = rest.first ∷ rest.later;
          joined = λ i. same i ∷ rest.joined i;
          plain = All-nil (Passes is_unreserved);
          no_dot = λ behind same. let never : 0 ≡ 46 = same in omega (arith, never);
          each = All-cons (IsSegment SpecialNotFile) rest.first rest.later (segment rest.first rest.plain (rest.no_dot slash)) rest.each;
        }
    by_slash false other = record {
      first = b ∷ rest.first;
      later = rest.later;
      joined = ap (λ (l : List ℕ). b ∷ l) rest.joined;
      plain = All-cons (Passes is_unreserved) b rest.first (follows_plain behind_slash b other may) rest.plain;
      no_dot = λ behind. no_dot_follows behind_slash b behind may;
      each = rest.each;
    }

parted : (behind_slash : Bool) (bytes : List ℕ) → is_tail behind_slash bytes ≡ true → Parted behind_slash bytes
parted behind_slash [] tail = record {
  first = [];
  later = [];
  joined = refl;
  plain = All-nil (Passes is_unreserved);
  no_dot = λ behind same. let never : 0 ≡ 46 = same in omega (arith, never);
  each = All-nil (IsSegment SpecialNotFile);
}
parted behind_slash (b ∷ bytes) tail =
    longer behind_slash b bytes (and_parts _ _ tail).0 (parted (b == 47) bytes (and_parts _ _ tail).1)

hostless : (bytes : List ℕ) → is_tail true bytes ≡ true → is_slash SpecialNotFile (get_or bytes 0 0) ≡ false
hostless [] tail = refl
hostless (b ∷ bytes) tail = no_slash_follows b (and_parts _ _ tail).0

pub slash_and_rest : (text : List ℕ) → 0 < length text → get_or text 0 0 ≡ 47 → text ≡ 47 ∷ drop 1 text
slash_and_rest [] some first = absurd (omega (arith, some))
slash_and_rest (b ∷ text) some first = ap (λ (x : ℕ). x ∷ text) first

-- a slash, and bytes each of which may follow
pub own_path : (text bytes : List ℕ) → text ≡ 47 ∷ bytes → is_tail true bytes ≡ true → IsOwnPath text
own_path text bytes is tail =
    let parts = parted true bytes tail in
    subst IsOwnPath (sym is) (record {
      segments = record {
        segments = parts.first ∷ parts.later;
        joined = ap (λ (l : List ℕ). 47 ∷ l) parts.joined;
        each = All-cons (IsSegment SpecialNotFile) parts.first parts.later (segment parts.first parts.plain (parts.no_dot refl)) parts.each;
      };
      some = omega arith;
      hostless = hostless bytes tail;
    })

both : (a b : Bool) → a ≡ true → b ≡ true → (a && b) ≡ true
both true b first second = second
both false b first second = first

-- the loop's step
pub tail_before : (behind_slash : Bool) (bytes : List ℕ) (i : ℕ) → i < length bytes → may_follow behind_slash (get_or bytes i 0) ≡ true
    → is_tail (get_or bytes i 0 == 47) (drop (i + 1) bytes) ≡ true → is_tail behind_slash (drop i bytes) ≡ true
tail_before behind_slash bytes i inside may tail =
    let cut : drop i bytes ≡ get_or bytes i 0 ∷ drop (i + 1) bytes =
    drop-cons bytes i 0 inside ∙ ap (λ (n : ℕ). get_or bytes i 0 ∷ drop n bytes) (sym (add-one i)) in
    subst (λ l. is_tail behind_slash l ≡ true) (sym cut) (both _ _ may tail)

pub tail_ends : (behind_slash : Bool) (bytes : List ℕ) (i : ℕ) → length bytes ≤ i → is_tail behind_slash (drop i bytes) ≡ true
tail_ends behind_slash bytes i past = subst (λ l. is_tail behind_slash l ≡ true) (sym (drop_all i bytes past)) refl

-- ---- what the parser makes of it

abbrev IsVisible : ℕ → Type 0
IsVisible b = 32 < b

own_kept : (text : List ℕ) → IsOwnPath text → All (IsKept PATH) text
own_kept text own = segment_list_kept SpecialNotFile text own.segments

visible : (text : List ℕ) → IsOwnPath text → All (Passes is_visible) text
visible text own = All_kept is_visible PATH refl text (own_kept text own)

above_space : (text : List ℕ) → IsOwnPath text → All IsVisible text
above_space text own = All-weaker (Passes is_visible) IsVisible (λ b passes. grind (arith, nat_tests)) text (visible text own)

none_at_front : (xs : List ℕ) → (0 < length xs → 32 < get_or xs 0 0) → prefix_len is_c0_control_or_space xs ≡ 0
none_at_front [] first = refl
none_at_front (x ∷ xs) first = cond-false _ _ _ (lt-leb x 32 (first (omega arith)))

untrimmed : (xs : List ℕ) → All IsVisible xs → trim_c0_control_and_space xs ≡ xs
unfolding trim_c0_control_and_space
untrimmed xs above =
    let start = none_at_front xs (λ inside. above 0 0 inside) in
    let len = length-reverse xs in
    let end = none_at_front (reverse xs) (λ inside. rw (get_or-reverse xs 0 0 (omega arith), sub-zero) (above (length xs - 1) 0 (omega arith))) in
    rw (start, end) (take_all _ xs (omega arith))

unstripped : (xs : List ℕ) → All IsVisible xs → strip_tabs_and_new_lines xs ≡ xs
unfolding strip_tabs_and_new_lines
unstripped xs above =
    filter_all _ xs (All-weaker IsVisible (Passes (λ b. not (is_tab_or_new_line b))) (λ b over. grind (arith, nat_tests)) xs above)

-- no `#` and no `?`
abbrev is_body_byte : ℕ → Bool
is_body_byte b = not (b == 35) && not (b == 63)

unmarked : (mark : ℕ) → ((b : ℕ) → Passes is_body_byte b → b ≢ mark) → (text : List ℕ) → IsOwnPath text → split_once mark text ≡ (text, None)
unmarked mark differs text own =
    split_once_none mark text (All-weaker (Passes is_body_byte) (IsNot mark) differs text (All_kept is_body_byte PATH refl text (own_kept text own)))

no_scheme : (text : List ℕ) → get_or text 0 0 ≡ 47 → split_scheme text ≡ None
unfolding split_scheme scheme_len
no_scheme text first = rw first refl

begins : (text : List ℕ) → IsOwnPath text → get_or text 0 0 ≡ 47
begins text own = ⊎_elim (λ none. absurd (let size = ap (λ (l : List ℕ). length l) none in omega (arith, own.some, size))) (λ first. first) (rooted SpecialNotFile text own.segments)

parts_of : (base : Parts) (text : List ℕ) → IsOwnPath text → parse_url (Some base) text ≡ parse_without_scheme (Some base) text None None
unfolding parse_url
parts_of base text own =
    let above = above_space text own in
    let clean = ap strip_tabs_and_new_lines (untrimmed text above) ∙ unstripped text above in
    let hash = ap (split_once 35) clean ∙ unmarked 35 (λ b passes same. grind (arith, nat_tests)) text own in
    let question = ap (λ (r : List ℕ × Option (List ℕ)). split_once 63 r.0) hash ∙ unmarked 63 (λ b passes same. grind (arith, nat_tests)) text own in
    let scheme = ap (λ (r : List ℕ × Option (List ℕ)). split_scheme r.0) question ∙ no_scheme text (begins text own) in
    λ i. parse_by_scheme (scheme i) (Some base) (question i).0 (question i).1 (hash i).1

-- the head of the base, and the text as the path
abbrev own_url : Parts → List ℕ → Parts
own_url base text = with_path (head_only base) text

slash_first : (a b : ℕ) (text : List ℕ) → a ≡ 47 → is_slash SpecialNotFile b ≡ false → leading_slashes SpecialNotFile (a ∷ b ∷ text) ≡ 1
unfolding leading_slashes
slash_first a b text first second =
    cond-true _ _ _ (ap (is_slash SpecialNotFile) first) ∙ ap (λ (n : ℕ). 1 + n) (cond-false _ _ _ second)

slash_alone : (a : ℕ) → a ≡ 47 → leading_slashes SpecialNotFile (a ∷ []) ≡ 1
unfolding leading_slashes
slash_alone a first = cond-true _ _ _ (ap (is_slash SpecialNotFile) first)

one_slash : (text : List ℕ) → IsOwnPath text → leading_slashes SpecialNotFile text ≡ 1
one_slash [] own = absurd (let some = own.some in omega (arith, some))
one_slash (a ∷ []) own = slash_alone a (begins (a ∷ []) own)
one_slash (a ∷ b ∷ text) own = slash_first a b text (begins (a ∷ b ∷ text) own) own.hostless

own_path_is : (text : List ℕ) → IsOwnPath text → parse_path SpecialNotFile [] (drop 1 text) ≡ text
own_path_is text own = parse_after_slash SpecialNotFile text (stays_unless_file SpecialNotFile [] _ refl) own.segments own.some

relative : (base : Parts) (text : List ℕ) → kind_of base ≡ SpecialNotFile → IsOwnPath text → parse_relative base text ≡ Ok (own_url base text)
unfolding parse_relative
relative base text kind own =
    let slashes : leading_slashes (kind_of base) text ≡ 1 = subst (λ k. leading_slashes k text ≡ 1) (sym kind) (one_slash text own) in
    let path : parse_path (kind_of base) [] (drop 1 text) ≡ text = subst (λ k. parse_path k [] (drop 1 text) ≡ text) (sym kind) (own_path_is text own) in
    rw slashes (ap (λ (p : List ℕ). Ok (with_path (head_only base) p)) path)

own_body : (base : Parts) (text : List ℕ) → kind_of base ≡ SpecialNotFile → IsOwnPath text → parse_body base.scheme (Some base) text ≡ Ok (own_url base text)
unfolding parse_body
own_body base text kind own = cond-false _ _ _ (ap is_file kind) ∙ relative base text kind own

whole_url : (base : Parts) (text : List ℕ) → kind_of base ≡ SpecialNotFile → IsOwnPath text → parse_all base.scheme (Some base) text None None ≡ Ok (own_url base text)
whole_url base text kind own =
    ap (λ (r : Parsed Parts). and_then r (λ url. Ok (with_tail (before_tail url None None) None None))) (own_body base text kind own)
    ∙ ap (λ (u : Parts). Ok (with_tail u None None)) (cond-false _ _ _ (ap (λ k. not (is_special k) && false) kind))

by_parts : (base : Parts) (text : List ℕ) → kind_of base ≡ SpecialNotFile → IsOwnPath text → parse_parts base.scheme (Some base) text None None ≡ Ok (own_url base text)
unfolding parse_parts
by_parts base text kind own = cond-false _ _ _ (is_empty_nonempty text own.some) ∙ whole_url base text kind own

kind_of_web : (scheme : List ℕ) → (bytes_eq scheme (codes "http") || bytes_eq scheme (codes "https")) ≡ true → scheme_type scheme ≡ SpecialNotFile
unfolding scheme_type default_port
kind_of_web scheme web =
    let P : List ℕ → Type 0 = λ s. scheme_type s ≡ SpecialNotFile in
    elim (or_parts _ _ web) [
      | inl http ↦ subst P (sym ((bytes_eq-Decides scheme (codes "http")).0 http)) refl
      | inr https ↦ subst P (sym ((bytes_eq-Decides scheme (codes "https")).0 https)) refl
    ]

-- the URL that it gives
gives : (base : Parts) (text : List ℕ) → IsBase base → IsOwnPath text → target_of base text ≡ Ok (own_url base text)
gives base text is own =
    ap without_fragment
    (parts_of base text own
    ∙ cond-false _ _ _ (ap (λ t. t && not (is_fragment_only text None None)) (base_from_authority base is.host))
    ∙ by_parts base text (kind_of_web base.scheme is.web) own)

-- ---- what the calls give

pub located : (base : Parts) (text : List ℕ) → IsBase base → IsOwnPath text → located_path base text ≡ Ok text
located base text is own =
    ap (λ (r : Result Parts HrefFault). path_of (only_if is_web r)) (gives base text is own) ∙ ap path_of (cond-true _ _ _ is.web)

same_port : (port : Option ℕ) → option_eq nat_eq port port ≡ true
same_port None = refl
same_port (Some n) = eq-eqb n n refl

own_origin : (base : Parts) (path : List ℕ) → has_same_origin base (own_url base path) ≡ true
own_origin base path =
    both _ _
    (both _ _ ((bytes_eq-Decides base.scheme base.scheme).1 refl) ((bytes_eq-Decides (host_text (host_or_empty base)) (host_text (host_or_empty base))).1 refl))
    (same_port (port_of base))

pub resolved : (base : Parts) (text : List ℕ) → IsBase base → IsOwnPath text → resolved_path base text ≡ Ok text
resolved base text is own =
    ap (λ (r : Result Parts HrefFault). path_of (only_if (has_same_origin base) r)) (gives base text is own)
    ∙ ap path_of (cond-true _ _ _ (own_origin base text))

-- it is a text, and a word
pub own_printable : (text : List ℕ) → IsOwnPath text → IsTrue (is_printable text)
own_printable text own = list_all-from_AllPass is_plain text (All_kept is_plain PATH refl text (own_kept text own))

pub own_word : (text : List ℕ) → IsOwnPath text → is_path_text text ≡ true
own_word text own =
    both _ _ (with_query_there text None own.some) (list_all-from_AllPass is_visible text (visible text own))

-- a URL of the web has a host
pub web_has_host : (url : Parts) → IsValid url → is_web url ≡ true → IsTrue (has_authority url)
web_has_host url valid web = special_has_authority url valid.head (ap is_special (kind_of_web url.scheme web))
