-- What a supervisor follows, as its config tells it, and the parts of a config that offend against its form. A part that is there
-- and is wrong offends itself; where one that is needed is missing, the object round it does. Children of other names, and
-- attributes that no rule names, are passed over.
use Rattle.std.specs.Prelude.{◌≡◌, ℕ, Bool, false, cond, ◌&&◌, ◌||◌, nat_le, bytes_eq, codes, List, [], ◌∷◌, ◌++◌, length, map, Option, Some, None, is_some, option_map, option_and_then}
use Rattle.std.specs.List.{list_all, list_any}
use Rattle.url.specs.Parts.{Parts}
use Rattle.url.specs.Parser.{parse_url}
use Rattle.ob_values.specs.declared.value.Value.TheVariants as value
use Rattle.ob_object.specs.declared.kind.Kind.TheVariants as kind
use Rattle.ob_object.specs.declared.head.Slot.{Slot}
use Rattle.ob_object.specs.declared.head.Slot.TheVariants.{Is}
use Rattle.ob_object.specs.Object.{Object, children}
use Rattle.ob_href.specs.Href.{as_base}
use Rattle.ob_watching.specs.WatchOuts.{Text, is_of_kind}
use Rattle.ob_asking.specs.declared.place.Place.{Place}
use Rattle.ob_asking.specs.Places.{some_of, place_at}
use Rattle.ob_parts.specs.Numbered.{Part, inside, inside_child, root}
use Rattle.ob_parts.specs.Offences.{unless, needs, said, each, IsFirst}
use Rattle.ob_parts.specs.declared.offence.Offence.{Offence}
use Rattle.ob_super.specs.declared.config_rule.ConfigRule.{ConfigRule}
use Rattle.ob_super.specs.declared.config_rule.ConfigRule.TheVariants as rule

-- a server that is followed: its name, its lobby, and the hrefs that are added to the watch there
pub record Upstream : Type 0 where
  pub name : Text
  pub lobby : Place
  pub hrefs : List Text

-- ---- what objects say

abbrev pub is_between : ℕ → ℕ → ℕ → Bool
is_between least most n = nat_le least n && nat_le n most

-- a to z or 0 to 9
abbrev pub is_letter : ℕ → Bool
is_letter b = is_between 97 122 b || is_between 48 57 b

-- 1 to 32 of these
abbrev pub is_name : Text → Bool
is_name t = is_between 1 32 (length t) && list_all is_letter t

-- the name of an obj
abbrev pub name_in : Object → Option Text
name_in o = cond (is_of_kind kind.Obj o) (option_and_then (λ (t : Text). cond (is_name t) (Some t) None) o.head.name) None

abbrev pub uri_text : Slot → Option Text
uri_text (Is (value.Uri t)) = Some t
uri_text _ = None

-- the value of a uri
abbrev pub uri_in : Object → Option Text
uri_in o = cond (is_of_kind kind.Uri o) (uri_text o.head.slot) None

-- where an http URL without fragment leads
abbrev pub lobby_at : Text → Option Place
lobby_at t =
    option_and_then (λ (url : Parts). cond (bytes_eq url.scheme (codes "https")) None (place_at url [])) (some_of (as_base (parse_url None t)))

-- the lobby that a uri says
abbrev pub lobby_in : Object → Option Place
lobby_in o = option_and_then lobby_at (uri_in o)

-- an href of 1 to 1,024 bytes, which a uri says
abbrev pub href_in : Object → Option Text
href_in o = option_and_then (λ (t : Text). cond (is_between 1 1024 (length t)) (Some t) None) (uri_in o)

-- a list of so many objects
abbrev pub is_list : ℕ → ℕ → Object → Bool
is_list least most o = is_of_kind kind.List o && is_between least most (length (children o))

-- ---- the parts that offend, each with the rule that it breaks

-- the first rule that an upstream breaks which has no name
abbrev pub name_rule : Object → ConfigRule
name_rule o = cond (is_of_kind kind.Obj o) rule.Name rule.Kind

-- the first rule that an href breaks which isn't one, or stands twice
abbrev pub href_rule : Object → ConfigRule
href_rule o = cond (is_some (href_in o)) rule.HrefTwice rule.Href

abbrev pub is_text : Text → Option Text → Bool
is_text t None = false
is_text t (Some other) = bytes_eq t other

-- an href that none of the objects before it says
abbrev pub new_href : List Object → Object → Option Text
new_href before o =
    option_and_then (λ (t : Text). cond (list_any (λ other. is_text t (href_in other)) before) None (Some t)) (href_in o)

abbrev pub href_offences : List Object → Part → List (Offence ConfigRule)
href_offences before p = unless (is_some (new_href before p.object)) (href_rule p.object) p

-- an obj with a name, a uri `url` and a list `hrefs` of 1 to 2,048 hrefs, of which no text stands twice
abbrev pub upstream_offences : List Object → Part → List (Offence ConfigRule)
upstream_offences before p =
    unless (is_some (name_in p.object)) (name_rule p.object) p
    ++ (needs (codes "url") (λ _. rule.Url) (λ o. is_some (lobby_in o)) p
    ++ (needs (codes "hrefs") (λ _. rule.Hrefs) (is_list 1 2_048) p
    ++ each href_offences [] (inside_child (codes "hrefs") p)))

-- all parts of a config that offend: it is a list of 1 to 64 upstreams
abbrev pub offences : Object → List (Offence ConfigRule)
offences config = unless (is_list 1 64 config) rule.Upstreams (root config) ++ each upstream_offences [] (inside (root config))

-- a config of the form
abbrev pub IsConfig : Object → Type 0
IsConfig config = offences config ≡ []

-- this part is the first that offends, and this the first rule that it breaks
abbrev pub IsFirstOffence : Object → Offence ConfigRule → Type 0
IsFirstOffence config offence = IsFirst (offences config) offence

-- ---- what a config of the form tells

-- all of them, where each is there
abbrev pub all_of : {A : Type 0} → List (Option A) → Option (List A)
all_of [] = Some []
all_of (None ∷ xs) = None
all_of (Some x ∷ xs) = option_map (λ ys. x ∷ ys) (all_of xs)

abbrev pub hrefs_in : Object → Option (List Text)
hrefs_in o = all_of (map href_in (children o))

abbrev pub with_hrefs : Option Text → Option Place → Option (List Text) → Option Upstream
with_hrefs (Some name) (Some lobby) (Some hrefs) = Some (record { name = name; lobby = lobby; hrefs = hrefs })
with_hrefs _ _ _ = None

abbrev pub upstream_in : Object → Option Upstream
upstream_in o = with_hrefs (name_in o) (said (codes "url") lobby_in o) (said (codes "hrefs") hrefs_in o)

-- the upstreams, in the order in which they stand
abbrev pub configured : Object → Option (List Upstream)
configured config = all_of (map upstream_in (children config))
