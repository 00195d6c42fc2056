-- What contracts see of the table of what is held.
use Rattle.std.specs.Prelude.{◌≡◌, ℕ, suc, Bool, true, false, cond, not, List, [], ◌∷◌, map, Option, Some, None, option_map, is_some, slice_get, String}
use Rattle.std.specs.BTreeMap.{BTreeMap, get_by_text}
use Rattle.std.specs.List.{filter, list_all}
use Rattle.std.specs.Option.{option_map_or}
use Rattle.std.specs.Str.{bytes_eq}
use Rattle.ob_object.specs.Object.{Object}
use Rattle.ob_watching.specs.Replay.{continued}
use Rattle.ob_watching.specs.Tables.{put}
use Rattle.ob_watching.specs.WatchOuts.{Text, Held}
use Rattle.ob_client.specs.Entries.{is_err}
use Rattle.ob_client.specs.Mirrors.{found}

-- in the place of what stands under the same text, or last
abbrev pub put_new : Held → List Held → List Held
put_new new held = put (λ old. bytes_eq old.text new.text) (λ old. new) new held

abbrev pub put_all : List Held → List Held → List Held
put_all [] held = held
put_all (new ∷ news) held = put_all news (put_new new held)

abbrev pub without_errs : List Object → List Object
without_errs os = filter (λ o. not (is_err o)) os

-- what is held under the text of what was read in a pollChanges, once it has come
abbrev pub next : List Held → Held → Held
next held r = record { text = r.text; content = option_map_or (λ old. continued old.content r.content) (found r.text held) r.content }

-- ---- where a text stands

abbrev pub texts_of : List Held → List Text
texts_of held = map (λ h. h.text) held

-- the place of the first of these texts that is this one
abbrev pub place_of : Text → List Text → Option ℕ
place_of text [] = None
place_of text (t ∷ ts) = cond (bytes_eq text t) (Some 0) (option_map suc (place_of text ts))

-- whether a text stands at a place
abbrev pub stands_at : Text → List Text → ℕ → Bool
stands_at text ts place = option_map_or (bytes_eq text) (slice_get ts place) false

-- a place, if the text stands there
abbrev pub if_there : Text → List Text → Option ℕ → Option ℕ
if_there text ts None = None
if_there text ts (Some place) = cond (stands_at text ts place) (Some place) None

-- An index leads from each of these texts to its place; from every other text it may lead anywhere.
abbrev pub IsIndex : {Y : Type 0} → BTreeMap (String Y) ℕ → List Text → Type 0
IsIndex index ts = (text : Text) → if_there text ts (get_by_text index text) ≡ place_of text ts

-- an index leads from this text to some place, and from each of these
abbrev pub has_key : {Y : Type 0} → BTreeMap (String Y) ℕ → Text → Bool
has_key index text = is_some (get_by_text index text)

abbrev pub have_keys : {Y : Type 0} → BTreeMap (String Y) ℕ → List Text → Bool
have_keys index ts = list_all (λ t. has_key index t) ts

-- ---- what a write leaves

-- from a text it leads to this place, and from the others as before
abbrev pub Leads : {Y : Type 0} → BTreeMap (String Y) ℕ → BTreeMap (String Y) ℕ → Text → ℕ → Type 0
Leads old new text place = (t : Text) → get_by_text new t ≡ cond (bytes_eq text t) (Some place) (get_by_text old t)

abbrev pub KeepsIndex : {Y : Type 0} → BTreeMap (String Y) ℕ → BTreeMap (String Y) ℕ → Type 0
KeepsIndex old new = (ts : List Text) → IsIndex old ts → IsIndex new ts

abbrev pub KeepsKeys : {Y : Type 0} → BTreeMap (String Y) ℕ → BTreeMap (String Y) ℕ → Type 0
KeepsKeys old new = (text : Text) → has_key old text ≡ true → has_key new text ≡ true
