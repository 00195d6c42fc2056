-- Each command: where no argument offends, its arguments are some.
use Rattle.std.proofs.Common.{arith, ◌<◌, if◌then◌else◌, ◌≡◌, ℕ, Bool, true, false, List, [], ◌∷◌, Option, Some, None, refl, ap, ◌∙◌, subst}
use Rattle.std.specs.Prelude.{codes, is_some, ⊤}
use Rattle.std.specs.List.{list_all, AllByRecursion}
use Rattle.std.specs.Option.{option_and_then, option_map, unwrap_or}
use Rattle.std.proofs.lemmas.List.Elements.{All-from_recursion}
use Rattle.std.proofs.lemmas.Str.{chars-IsAscii}
use Rattle.std.proofs.lemmas.Str.Ascii.{IsAscii-from_all}
use Rattle.url.specs.Parts.{Parts}
use Rattle.ob_scan.specs.Constructs.{is_char}
use Rattle.ob_values.proofs.Bools.{both_true}
use Rattle.ob_command.specs.Arguments.{Argument, operands, values, has_only}
use Rattle.ob_command.specs.Command.{Command, named, number_given, number_or, word_given, stdio_of, stdio_with, schedule_of, schedule_with, serve_of, serve_with, port_in, keep_of, keep_with, kept_port_in, auditing_of, auditing_with, compact_of, compact_with, check_of, check_with, supervise_of, supervise_with, watch_of, watch_with, console_of, console_with, console_at, server_url, leads_from, storm, last_moment, largest_number}
use Rattle.ob_command.specs.Forms.{Asked, text, texts, number, form}
use Rattle.ob_command.specs.Number.{number_between}
use Rattle.ob_command.specs.Slips.{form_slip, fits, first_of, wanted_after, is_done}
use Rattle.ob_command.specs.Storm.{storm_of, storm_with}
use Rattle.ob_command.specs.Texts.{is_text, text_if, optional_text}
use Rattle.ob_command.specs.declared.form.Verb.{Verb}
use Rattle.ob_command.specs.declared.form.Verb.TheVariants as verbs
use Rattle.ob_command.specs.declared.server.Output.{Output}
use Rattle.ob_command.specs.declared.server.Output.TheVariants.{Answers, Record}
use Rattle.ob_command.proofs.SlipLemmas.{true_false, fit_operands, AtMostOne, operands_fit, only_options, once}

some_of : {A : Type 0} (o : Option A) → is_some o ≡ true → (x : A) × (o ≡ Some x)
some_of (Some x) e = (x, refl)
some_of None e = absurd (true_false e refl)

-- ---- the values of an option

given_some : (least most : ℕ) (vs : List (List ℕ)) → AtMostOne (λ v. is_some (number_between least most v)) vs → (o : Option ℕ) × (number_given least most vs ≡ Some o)
given_some least most [] fit = (None, refl)
given_some least most (v ∷ []) fit =
    let n = some_of (number_between least most v) fit in
    (Some n.0, ap (λ (o : Option ℕ). option_map (λ (k : ℕ). Some k) o) n.1)
given_some least most (v ∷ (w ∷ vs)) fit = absurd fit

number_some : (least most default : ℕ) (vs : List (List ℕ)) → AtMostOne (λ v. is_some (number_between least most v)) vs → (n : ℕ) × (number_or least most default vs ≡ Some n)
number_some least most default vs fit = let o = given_some least most vs fit in
    (unwrap_or o.0 default, ap (λ (given : Option (Option ℕ)). option_map (λ (k : Option ℕ). unwrap_or k default) given) o.1)

-- a word that is given is text
abbrev IsTextIf : Option (List ℕ) → Type 0
IsTextIf None = ⊤
IsTextIf (Some word) = is_text word ≡ true

record Given (vs : List (List ℕ)) : Type 0 where
  word : Option (List ℕ)
  given : word_given vs ≡ Some word
  good : IsTextIf word

word_some : (vs : List (List ℕ)) → AtMostOne is_text vs → Given vs
word_some [] fit = record { word = None; given = refl; good = tt }
word_some (v ∷ []) fit = record { word = Some v; given = refl; good = fit }
word_some (v ∷ (w ∷ vs)) fit = absurd fit

-- the texts of a console
optional_some : (word : Option (List ℕ)) → IsTextIf word → optional_text word ≡ Some word
optional_some None good = refl
optional_some (Some word) good = rw good refl

console_is_text : is_text (codes "console") ≡ true
console_is_text =
    let small : AllByRecursion (λ (b : ℕ). b < 128) (codes "console") = (omega arith, (omega arith, (omega arith, (omega arith, (omega arith, (omega arith, (omega arith, tt))))))) in
    ap (λ (cs : List ℕ). list_all is_char cs) (chars-IsAscii (codes "console") (IsAscii-from_all (codes "console") (All-from_recursion (λ (b : ℕ). b < 128) (codes "console") small)))

user_text : (word : Option (List ℕ)) → IsTextIf word → text_if (unwrap_or word (codes "console")) ≡ Some (unwrap_or word (codes "console"))
user_text None good = ap (λ (t : Bool). if t then Some (codes "console") else None) console_is_text
user_text (Some word) good = rw good refl

console_texts : (u subject : List ℕ) (polls : ℕ) (ack user : Option (List ℕ)) {url : Parts} → is_text subject ≡ true → option_and_then (leads_from subject) (server_url u) ≡ Some url
    → IsTextIf ack → IsTextIf user → is_some (console_at u subject polls ack (unwrap_or user (codes "console"))) ≡ true
console_texts u subject polls ack user good leads ack_is user_is = rw (good, user_text user user_is, optional_some ack ack_is, leads) refl

-- ---- operands

-- one operand that is asked for, and the further ones
record One (server : List ℕ) (asked : Asked) (wanted : List Asked) (words : List (List ℕ)) : Type 0 where
  word : List ℕ
  rest : List (List ℕ)
  are : words ≡ word ∷ rest
  fit : fits server asked word ≡ true
  more : fit_operands server (wanted_after (asked ∷ wanted)) rest ≡ true

one : (server : List ℕ) (asked : Asked) (wanted : List Asked) (words : List (List ℕ)) → fit_operands server (asked ∷ wanted) words ≡ true → is_done (asked ∷ wanted) ≡ false
    → One server asked wanted words
one server asked wanted [] fit missing = absurd (true_false fit missing)
one server asked wanted (word ∷ rest) fit missing =
    let parts = both_true (fits server asked word) _ fit in
    record { word = word; rest = rest; are = refl; fit = parts.0; more = parts.1 }

no_more : (server : List ℕ) (words : List (List ℕ)) → fit_operands server [] words ≡ true → words ≡ []
no_more server [] fit = refl
no_more server (word ∷ rest) fit = absurd (true_false fit refl)

all_texts : (server name : List ℕ) (words : List (List ℕ)) → fit_operands server (texts name ∷ []) words ≡ true → list_all is_text words ≡ true
all_texts server name [] fit = refl
all_texts server name (word ∷ rest) fit =
    let parts = both_true (is_text word) _ fit in
    rw parts.0 (all_texts server name rest parts.1)

-- ---- the commands

only_then : {A : Type 0} (t : Bool) (o : Option A) → t ≡ true → is_some o ≡ true → is_some (if t then o else None) ≡ true
only_then true o holds some = some
only_then false o holds some = absurd (true_false holds refl)

stdio_parts : (output : Output) (ops : List (List ℕ)) (at : Option (Option ℕ)) (tick : Option ℕ) (site : List ℕ) (a : Option ℕ) (t : ℕ)
    → ops ≡ site ∷ [] → at ≡ Some a → tick ≡ Some t → is_some (stdio_with output ops at tick) ≡ true
stdio_parts output ops at tick site a t e1 e2 e3 = rw (e1, e2, e3) refl

schedule_parts : (ops : List (List ℕ)) (at : Option (Option ℕ)) (tick : Option ℕ) (site file : List ℕ) (a : Option ℕ) (t : ℕ)
    → ops ≡ site ∷ file ∷ [] → at ≡ Some a → tick ≡ Some t → is_some (schedule_with ops at tick) ≡ true
schedule_parts ops at tick site file a t e1 e2 e3 = rw (e1, e2, e3) refl

serve_parts : (ops : List (List ℕ)) (workers quota : Option ℕ) (site host port : List ℕ) (p w q : ℕ)
    → ops ≡ site ∷ host ∷ port ∷ [] → number_between 0 65_535 port ≡ Some p → workers ≡ Some w → quota ≡ Some q → is_some (serve_with ops (port_in ops) workers quota) ≡ true
serve_parts ops workers quota site host port p w q e1 e2 e3 e4 = rw (e1, e2, e3, e4) refl

keep_parts : (ops : List (List ℕ)) (workers quota : Option ℕ) (site file host port : List ℕ) (p w q : ℕ)
    → ops ≡ site ∷ file ∷ host ∷ port ∷ [] → number_between 0 65_535 port ≡ Some p → workers ≡ Some w → quota ≡ Some q → is_some (keep_with ops (kept_port_in ops) workers quota) ≡ true
keep_parts ops workers quota site file host port p w q e1 e2 e3 e4 = rw (e1, e2, e3, e4) refl

compact_parts : (ops : List (List ℕ)) (site file new : List ℕ) → ops ≡ site ∷ file ∷ new ∷ [] → is_some (compact_with ops) ≡ true
compact_parts ops site file new e = rw e refl

audit_parts : (ops : List (List ℕ)) (site file : List ℕ) → ops ≡ site ∷ file ∷ [] → is_some (auditing_with ops) ≡ true
audit_parts ops site file e = rw e refl

check_parts : (ops : List (List ℕ)) (file : List ℕ) → ops ≡ file ∷ [] → is_some (check_with ops) ≡ true
check_parts ops file e = rw e refl

super_parts : (ops : List (List ℕ)) (rounds wait : Option ℕ) (config : List ℕ) (r w : ℕ) → ops ≡ config ∷ [] → rounds ≡ Some r → wait ≡ Some w → is_some (supervise_with ops rounds wait) ≡ true
super_parts ops rounds wait config r w e1 e2 e3 = rw (e1, e2, e3) refl

storm_parts : (ops : List (List ℕ)) (seed clients requests : List ℕ) (s c r : ℕ) → ops ≡ seed ∷ clients ∷ requests ∷ []
    → number_between 0 999_999_999_999_999_999 seed ≡ Some s → number_between 1 100 clients ≡ Some c → number_between 1 1_000_000 requests ≡ Some r → is_some (storm_with ops) ≡ true
storm_parts ops seed clients requests s c r e1 e2 e3 e4 = rw (e1, e2, e3, e4) refl

watch_parts : (ops : List (List ℕ)) (polls retries : Option ℕ) (u h : List ℕ) (hs : List (List ℕ)) (p r : ℕ) (found : Parts)
    → ops ≡ u ∷ (h ∷ hs) → polls ≡ Some p → retries ≡ Some r → server_url u ≡ Some found → list_all is_text (h ∷ hs) ≡ true → is_some (watch_with ops polls retries) ≡ true
watch_parts ops polls retries u h hs p r found e1 e2 e3 e4 e5 = rw (e1, e2, e3) (rw (e5, e4) refl)

console_parts : (ops : List (List ℕ)) (polls : Option ℕ) (ack user : Option (Option (List ℕ))) (u subject : List ℕ) (p : ℕ) (a n : Option (List ℕ)) (found : Parts)
    → ops ≡ u ∷ subject ∷ [] → polls ≡ Some p → ack ≡ Some a → user ≡ Some n → is_text subject ≡ true → option_and_then (leads_from subject) (server_url u) ≡ Some found
    → IsTextIf a → IsTextIf n → is_some (console_with ops polls ack user) ≡ true
console_parts ops polls ack user u subject p a n found e1 e2 e3 e4 good leads a_good n_good = rw (e1, e2, e3, e4) (console_texts u subject p a n good leads a_good n_good)

stdio_some : (given : List Argument) → form_slip (form verbs.Stdio) given ≡ None → is_some (stdio_of Answers given) ≡ true
stdio_some given e =
    let only : has_only (codes "--at" ∷ codes "--tick" ∷ []) given ≡ true = only_options (form verbs.Stdio) (first_of (operands given)) [] (form verbs.Stdio).operands given e in
    let at = given_some 0 last_moment (values (codes "--at") given) (once (form verbs.Stdio) (first_of (operands given)) (codes "--at") (number (codes "--at") 0 last_moment) refl [] (form verbs.Stdio).operands given e refl) in
    let tick = number_some 0 largest_number 0 (values (codes "--tick") given) (once (form verbs.Stdio) (first_of (operands given)) (codes "--tick") (number (codes "--tick") 0 largest_number) refl [] (form verbs.Stdio).operands given e refl) in
    let a = one (first_of (operands given)) _ _ (operands given) (operands_fit (form verbs.Stdio) (first_of (operands given)) [] (form verbs.Stdio).operands given e) refl in
    let are : operands given ≡ a.word ∷ [] = a.are ∙ ap (λ (ws : List (List ℕ)). a.word ∷ ws) (no_more (first_of (operands given)) a.rest a.more) in
    only_then _ _ only (stdio_parts Answers _ _ _ a.word at.0 tick.0 are at.1 tick.1)

record_some : (given : List Argument) → form_slip (form verbs.Record) given ≡ None → is_some (stdio_of Record given) ≡ true
record_some given e =
    let only : has_only (codes "--at" ∷ codes "--tick" ∷ []) given ≡ true = only_options (form verbs.Record) (first_of (operands given)) [] (form verbs.Record).operands given e in
    let at = given_some 0 last_moment (values (codes "--at") given) (once (form verbs.Record) (first_of (operands given)) (codes "--at") (number (codes "--at") 0 last_moment) refl [] (form verbs.Record).operands given e refl) in
    let tick = number_some 0 largest_number 0 (values (codes "--tick") given) (once (form verbs.Record) (first_of (operands given)) (codes "--tick") (number (codes "--tick") 0 largest_number) refl [] (form verbs.Record).operands given e refl) in
    let a = one (first_of (operands given)) _ _ (operands given) (operands_fit (form verbs.Record) (first_of (operands given)) [] (form verbs.Record).operands given e) refl in
    let are : operands given ≡ a.word ∷ [] = a.are ∙ ap (λ (ws : List (List ℕ)). a.word ∷ ws) (no_more (first_of (operands given)) a.rest a.more) in
    only_then _ _ only (stdio_parts Record _ _ _ a.word at.0 tick.0 are at.1 tick.1)

schedule_some : (given : List Argument) → form_slip (form verbs.Schedule) given ≡ None → is_some (schedule_of given) ≡ true
schedule_some given e =
    let only : has_only (codes "--at" ∷ codes "--tick" ∷ []) given ≡ true = only_options (form verbs.Schedule) (first_of (operands given)) [] (form verbs.Schedule).operands given e in
    let at = given_some 0 last_moment (values (codes "--at") given) (once (form verbs.Schedule) (first_of (operands given)) (codes "--at") (number (codes "--at") 0 last_moment) refl [] (form verbs.Schedule).operands given e refl) in
    let tick = number_some 0 largest_number 0 (values (codes "--tick") given) (once (form verbs.Schedule) (first_of (operands given)) (codes "--tick") (number (codes "--tick") 0 largest_number) refl [] (form verbs.Schedule).operands given e refl) in
    let a = one (first_of (operands given)) _ _ (operands given) (operands_fit (form verbs.Schedule) (first_of (operands given)) [] (form verbs.Schedule).operands given e) refl in
    let b = one (first_of (operands given)) _ _ a.rest a.more refl in
    let are : operands given ≡ a.word ∷ b.word ∷ [] = a.are ∙ ap (λ (ws : List (List ℕ)). a.word ∷ ws) (b.are ∙ ap (λ (ws : List (List ℕ)). b.word ∷ ws) (no_more (first_of (operands given)) b.rest b.more)) in
    only_then _ _ only (schedule_parts _ _ _ a.word b.word at.0 tick.0 are at.1 tick.1)

serve_some : (given : List Argument) → form_slip (form verbs.Serve) given ≡ None → is_some (serve_of given) ≡ true
serve_some given e =
    let only : has_only (codes "--workers" ∷ codes "--quota" ∷ []) given ≡ true = only_options (form verbs.Serve) (first_of (operands given)) [] (form verbs.Serve).operands given e in
    let w = number_some 1 64 4 (values (codes "--workers") given) (once (form verbs.Serve) (first_of (operands given)) (codes "--workers") (number (codes "--workers") 1 64) refl [] (form verbs.Serve).operands given e refl) in
    let q = number_some 1 1_000_000 1 (values (codes "--quota") given) (once (form verbs.Serve) (first_of (operands given)) (codes "--quota") (number (codes "--quota") 1 1_000_000) refl [] (form verbs.Serve).operands given e refl) in
    let a = one (first_of (operands given)) _ _ (operands given) (operands_fit (form verbs.Serve) (first_of (operands given)) [] (form verbs.Serve).operands given e) refl in
    let b = one (first_of (operands given)) _ _ a.rest a.more refl in
    let c = one (first_of (operands given)) _ _ b.rest b.more refl in
    let are : operands given ≡ a.word ∷ b.word ∷ c.word ∷ [] = a.are ∙ ap (λ (ws : List (List ℕ)). a.word ∷ ws) (b.are ∙ ap (λ (ws : List (List ℕ)). b.word ∷ ws) (c.are ∙ ap (λ (ws : List (List ℕ)). c.word ∷ ws) (no_more (first_of (operands given)) c.rest c.more))) in
    let port = some_of (number_between 0 65_535 c.word) c.fit in
    only_then _ _ only (serve_parts _ _ _ a.word b.word c.word port.0 w.0 q.0 are port.1 w.1 q.1)

keep_some : (given : List Argument) → form_slip (form verbs.Keep) given ≡ None → is_some (keep_of given) ≡ true
keep_some given e =
    let only : has_only (codes "--workers" ∷ codes "--quota" ∷ []) given ≡ true = only_options (form verbs.Keep) (first_of (operands given)) [] (form verbs.Keep).operands given e in
    let w = number_some 1 64 4 (values (codes "--workers") given) (once (form verbs.Keep) (first_of (operands given)) (codes "--workers") (number (codes "--workers") 1 64) refl [] (form verbs.Keep).operands given e refl) in
    let q = number_some 1 1_000_000 1 (values (codes "--quota") given) (once (form verbs.Keep) (first_of (operands given)) (codes "--quota") (number (codes "--quota") 1 1_000_000) refl [] (form verbs.Keep).operands given e refl) in
    let a = one (first_of (operands given)) _ _ (operands given) (operands_fit (form verbs.Keep) (first_of (operands given)) [] (form verbs.Keep).operands given e) refl in
    let b = one (first_of (operands given)) _ _ a.rest a.more refl in
    let c = one (first_of (operands given)) _ _ b.rest b.more refl in
    let d = one (first_of (operands given)) _ _ c.rest c.more refl in
    let are : operands given ≡ a.word ∷ b.word ∷ c.word ∷ d.word ∷ [] = a.are ∙ ap (λ (ws : List (List ℕ)). a.word ∷ ws) (b.are ∙ ap (λ (ws : List (List ℕ)). b.word ∷ ws) (c.are ∙ ap (λ (ws : List (List ℕ)). c.word ∷ ws) (d.are ∙ ap (λ (ws : List (List ℕ)). d.word ∷ ws) (no_more (first_of (operands given)) d.rest d.more)))) in
    let port = some_of (number_between 0 65_535 d.word) d.fit in
    only_then _ _ only (keep_parts _ _ _ a.word b.word c.word d.word port.0 w.0 q.0 are port.1 w.1 q.1)

compact_some : (given : List Argument) → form_slip (form verbs.Compact) given ≡ None → is_some (compact_of given) ≡ true
compact_some given e =
    let only : has_only ([]) given ≡ true = only_options (form verbs.Compact) (first_of (operands given)) [] (form verbs.Compact).operands given e in
    let a = one (first_of (operands given)) _ _ (operands given) (operands_fit (form verbs.Compact) (first_of (operands given)) [] (form verbs.Compact).operands given e) refl in
    let b = one (first_of (operands given)) _ _ a.rest a.more refl in
    let c = one (first_of (operands given)) _ _ b.rest b.more refl in
    let are : operands given ≡ a.word ∷ b.word ∷ c.word ∷ [] = a.are ∙ ap (λ (ws : List (List ℕ)). a.word ∷ ws) (b.are ∙ ap (λ (ws : List (List ℕ)). b.word ∷ ws) (c.are ∙ ap (λ (ws : List (List ℕ)). c.word ∷ ws) (no_more (first_of (operands given)) c.rest c.more))) in
    only_then _ _ only (compact_parts _ a.word b.word c.word are)

check_some : (given : List Argument) → form_slip (form verbs.Check) given ≡ None → is_some (check_of given) ≡ true
check_some given e =
    let only : has_only ([]) given ≡ true = only_options (form verbs.Check) (first_of (operands given)) [] (form verbs.Check).operands given e in
    let a = one (first_of (operands given)) _ _ (operands given) (operands_fit (form verbs.Check) (first_of (operands given)) [] (form verbs.Check).operands given e) refl in
    let are : operands given ≡ a.word ∷ [] = a.are ∙ ap (λ (ws : List (List ℕ)). a.word ∷ ws) (no_more (first_of (operands given)) a.rest a.more) in
    only_then _ _ only (check_parts _ a.word are)

audit_some : (given : List Argument) → form_slip (form verbs.Audit) given ≡ None → is_some (auditing_of given) ≡ true
audit_some given e =
    let only : has_only ([]) given ≡ true = only_options (form verbs.Audit) (first_of (operands given)) [] (form verbs.Audit).operands given e in
    let a = one (first_of (operands given)) _ _ (operands given) (operands_fit (form verbs.Audit) (first_of (operands given)) [] (form verbs.Audit).operands given e) refl in
    let b = one (first_of (operands given)) _ _ a.rest a.more refl in
    let are : operands given ≡ a.word ∷ b.word ∷ [] = a.are ∙ ap (λ (ws : List (List ℕ)). a.word ∷ ws) (b.are ∙ ap (λ (ws : List (List ℕ)). b.word ∷ ws) (no_more (first_of (operands given)) b.rest b.more)) in
    only_then _ _ only (audit_parts _ a.word b.word are)

super_some : (given : List Argument) → form_slip (form verbs.Super) given ≡ None → is_some (supervise_of given) ≡ true
super_some given e =
    let only : has_only (codes "--rounds" ∷ codes "--wait" ∷ []) given ≡ true = only_options (form verbs.Super) (first_of (operands given)) [] (form verbs.Super).operands given e in
    let r = number_some 0 1_000_000 1 (values (codes "--rounds") given) (once (form verbs.Super) (first_of (operands given)) (codes "--rounds") (number (codes "--rounds") 0 1_000_000) refl [] (form verbs.Super).operands given e refl) in
    let w = number_some 1 300_000 10_000 (values (codes "--wait") given) (once (form verbs.Super) (first_of (operands given)) (codes "--wait") (number (codes "--wait") 1 300_000) refl [] (form verbs.Super).operands given e refl) in
    let a = one (first_of (operands given)) _ _ (operands given) (operands_fit (form verbs.Super) (first_of (operands given)) [] (form verbs.Super).operands given e) refl in
    let are : operands given ≡ a.word ∷ [] = a.are ∙ ap (λ (ws : List (List ℕ)). a.word ∷ ws) (no_more (first_of (operands given)) a.rest a.more) in
    only_then _ _ only (super_parts _ _ _ a.word r.0 w.0 are r.1 w.1)

storm_some : (given : List Argument) → form_slip (form verbs.Storm) given ≡ None → is_some (storm_of given) ≡ true
storm_some given e =
    let only : has_only ([]) given ≡ true = only_options (form verbs.Storm) (first_of (operands given)) [] (form verbs.Storm).operands given e in
    let a = one (first_of (operands given)) _ _ (operands given) (operands_fit (form verbs.Storm) (first_of (operands given)) [] (form verbs.Storm).operands given e) refl in
    let b = one (first_of (operands given)) _ _ a.rest a.more refl in
    let c = one (first_of (operands given)) _ _ b.rest b.more refl in
    let are : operands given ≡ a.word ∷ b.word ∷ c.word ∷ [] = a.are ∙ ap (λ (ws : List (List ℕ)). a.word ∷ ws) (b.are ∙ ap (λ (ws : List (List ℕ)). b.word ∷ ws) (c.are ∙ ap (λ (ws : List (List ℕ)). c.word ∷ ws) (no_more (first_of (operands given)) c.rest c.more))) in
    let seed = some_of (number_between 0 999_999_999_999_999_999 a.word) a.fit in
    let clients = some_of (number_between 1 100 b.word) b.fit in
    let requests = some_of (number_between 1 1_000_000 c.word) c.fit in
    only_then _ _ only (storm_parts _ a.word b.word c.word seed.0 clients.0 requests.0 are seed.1 clients.1 requests.1)

watch_some : (given : List Argument) → form_slip (form verbs.Watch) given ≡ None → is_some (watch_of given) ≡ true
watch_some given e =
    let only : has_only (codes "--polls" ∷ codes "--retry" ∷ []) given ≡ true = only_options (form verbs.Watch) (first_of (operands given)) [] (form verbs.Watch).operands given e in
    let p = number_some 0 1_000_000 1 (values (codes "--polls") given) (once (form verbs.Watch) (first_of (operands given)) (codes "--polls") (number (codes "--polls") 0 1_000_000) refl [] (form verbs.Watch).operands given e refl) in
    let r = number_some 0 100 0 (values (codes "--retry") given) (once (form verbs.Watch) (first_of (operands given)) (codes "--retry") (number (codes "--retry") 0 100) refl [] (form verbs.Watch).operands given e refl) in
    let a = one (first_of (operands given)) _ _ (operands given) (operands_fit (form verbs.Watch) (first_of (operands given)) [] (form verbs.Watch).operands given e) refl in
    let b = one (first_of (operands given)) _ _ a.rest a.more refl in
    let are : operands given ≡ a.word ∷ (b.word ∷ b.rest) = a.are ∙ ap (λ (ws : List (List ℕ)). a.word ∷ ws) b.are in
    let u = some_of (server_url a.word) a.fit in
    let all : list_all is_text (b.word ∷ b.rest) ≡ true = rw b.fit (all_texts (first_of (operands given)) (codes "HREF") b.rest b.more) in
    only_then _ _ only (watch_parts _ _ _ a.word b.word b.rest p.0 r.0 u.0 are p.1 r.1 u.1 all)

console_some : (given : List Argument) → form_slip (form verbs.Console) given ≡ None → is_some (console_of given) ≡ true
console_some given e =
    let only : has_only (codes "--polls" ∷ codes "--ack" ∷ codes "--user" ∷ []) given ≡ true = only_options (form verbs.Console) (first_of (operands given)) [] (form verbs.Console).operands given e in
    let p = number_some 0 1_000_000 1 (values (codes "--polls") given) (once (form verbs.Console) (first_of (operands given)) (codes "--polls") (number (codes "--polls") 0 1_000_000) refl [] (form verbs.Console).operands given e refl) in
    let ack = word_some (values (codes "--ack") given) (once (form verbs.Console) (first_of (operands given)) (codes "--ack") (text (codes "--ack")) refl [] (form verbs.Console).operands given e refl) in
    let user = word_some (values (codes "--user") given) (once (form verbs.Console) (first_of (operands given)) (codes "--user") (text (codes "--user")) refl [] (form verbs.Console).operands given e refl) in
    let a = one (first_of (operands given)) _ _ (operands given) (operands_fit (form verbs.Console) (first_of (operands given)) [] (form verbs.Console).operands given e) refl in
    let b = one (first_of (operands given)) _ _ a.rest a.more refl in
    let are : operands given ≡ a.word ∷ b.word ∷ [] = a.are ∙ ap (λ (ws : List (List ℕ)). a.word ∷ ws) (b.are ∙ ap (λ (ws : List (List ℕ)). b.word ∷ ws) (no_more (first_of (operands given)) b.rest b.more)) in
    let place = both_true (is_text b.word) _ b.fit in
    let u = some_of (option_and_then (leads_from b.word) (server_url a.word))
    (subst (λ (ws : List (List ℕ)). is_some (option_and_then (leads_from b.word) (server_url (first_of ws))) ≡ true) are place.1) in
    only_then _ _ only (console_parts _ _ _ _ a.word b.word p.0 ack.word user.word u.0 are p.1 ack.given user.given place.0 u.1 ack.good user.good)

mapped : {A B : Type 0} (f : A → B) (o : Option A) → is_some o ≡ true → is_some (option_map f o) ≡ true
mapped f (Some x) e = refl
mapped f None e = absurd (true_false e refl)

-- where no argument offends, they are the command's
always : (given : List Argument) (verb : Verb) → form_slip (form verb) given ≡ None → is_some (named verb given) ≡ true
always given verbs.Serve e = serve_some given e
always given verbs.Keep e = keep_some given e
always given verbs.Compact e = compact_some given e
always given verbs.Stdio e = stdio_some given e
always given verbs.Schedule e = schedule_some given e
always given verbs.Watch e = watch_some given e
always given verbs.Console e = console_some given e
always given verbs.Check e = check_some given e
always given verbs.Record e = record_some given e
always given verbs.Audit e = audit_some given e
always given verbs.Super e = super_some given e
always given verbs.Storm e = mapped storm (storm_of given) (storm_some given e)

pub never : (given : List Argument) (verb : Verb) → named verb given ≡ None → form_slip (form verb) given ≡ None → ⊥
never given verb none good = true_false (always given verb good) (ap (λ (o : Option Command). is_some o) none)
