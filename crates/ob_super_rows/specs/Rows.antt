-- Rows worked by computing: what is on the right was typed from the rules.
use Rattle.std.specs.Prelude.{◌≡◌, ℕ, true, codes, List, [], ◌∷◌, Option, Some, None}
use Rattle.ob_io.specs.Dials.{Dial}
use Rattle.ob_object.specs.declared.kind.Kind.TheVariants as kind
use Rattle.ob_object.specs.declared.status.Status.TheVariants as status
use Rattle.ob_object.specs.Facets.{no_facets}
use Rattle.ob_object.specs.Object.{Object, empty_head, in_row}
use Rattle.ob_watching.specs.WatchOuts.{Text}
use Rattle.ob_asking.specs.declared.place.Place.{Place}
use Rattle.ob_parts.specs.declared.offence.Offence.{Offence}
use Rattle.ob_super.specs.declared.config_rule.ConfigRule.{ConfigRule}
use Rattle.ob_super.specs.declared.config_rule.ConfigRule.TheVariants as rule
use Rattle.ob_super.specs.Upstreams.{lobby_at, offences, configured}
use Rattle.ob_super.specs.Calls.{Lobby, Adding, Polling, next}
use Rattle.ob_super.specs.Turns.{Reply, Down, Up, after}
use Rattle.ob_super.specs.Dialling.{no_rounds, states_of, next_dial, dialled}
use Rattle.ob_super.specs.Trees.{View, shown_in}
use Rattle.ob_super.specs.Rounds.{Rounds, plain_err}
use Rattle.ob_super_rows.specs.Worked.{holding, uri, str, hrefs, url, config, named_obj, two, upstream, int, held, watch_out, one, seven, other, both, past, waiting, left}

-- ---- configs: the root has the number 0

-- the part of a number breaks a rule
abbrev pub breaks : ℕ → ConfigRule → Offence ConfigRule
breaks part broken = record { part = part; rule = broken }

-- a list without upstreams
abbrev pub Empty : Type 0
Empty = offences (config []) ≡ breaks 0 rule.Upstreams ∷ []

-- an obj with nothing in it lacks its name, its url and its hrefs
abbrev pub Bare : Type 0
Bare = offences (config (holding kind.Obj None [] ∷ [])) ≡ breaks 1 rule.Name ∷ breaks 1 rule.Url ∷ breaks 1 rule.Hrefs ∷ []

-- hrefs 2, `/x` 3, `/x` again 4, a str in place of the url 5: rule by rule the url is told first, and 4 is the least
abbrev pub Twice : Type 0
Twice = offences (config (named_obj (codes "a") (hrefs (codes "/x" ∷ codes "/x" ∷ []) ∷ str (codes "url") (codes "http://h/") ∷ []) ∷ [])) ≡ breaks 5 rule.Url ∷ breaks 4 rule.HrefTwice ∷ []

-- a capital letter in the name, a str in place of the url, a list without hrefs; and an href of no byte
abbrev pub Bounds : Type 0
Bounds =
    (offences (config (named_obj (codes "aB") (str (codes "url") [] ∷ hrefs [] ∷ []) ∷ [])) ≡ breaks 1 rule.Name ∷ breaks 2 rule.Url ∷ breaks 3 rule.Hrefs ∷ [])
    × (offences (config (named_obj (codes "a") (str (codes "url") [] ∷ hrefs ([] ∷ []) ∷ []) ∷ [])) ≡ breaks 2 rule.Url ∷ breaks 4 rule.Href ∷ [])

-- two upstreams in either order of their children, with a child that no rule names
abbrev pub TwoConfigured : Type 0
TwoConfigured = (lobby : Place) → lobby_at (codes "http://h/obix/") ≡ Some lobby
    → (offences two ≡ [])
    × (configured two ≡ Some (record { name = codes "a"; lobby = lobby; hrefs = codes "/obix/n" ∷ [] } ∷ record { name = codes "b2"; lobby = lobby; hrefs = codes "k" ∷ codes "/x" ∷ [] } ∷ []))

-- ---- what is shown: `a` is up and holds 7 under the first of its hrefs, `b` is down

abbrev pub views : List View
views = (one, Some (seven ∷ [])) ∷ (other, None) ∷ []

-- under its path, without a name, and with no href inside
abbrev pub shown_seven : Object
shown_seven = int None (Some (codes "/obix/a/0")) 7 (int (Some (codes "in")) None 1 [] ∷ [])

abbrev pub up_list : Option Text → Object
up_list name = record {
  head = record (empty_head kind.List) { name = name; href = Some (codes "/obix/a/"); facets = record no_facets { status = Some status.Ok } };
  inner = in_row (shown_seven ∷ []);
}

abbrev pub down_list : Option Text → Object
down_list name = record {
  head = record (empty_head kind.List) { name = name; href = Some (codes "/obix/b/"); facets = record no_facets { status = Some status.Down } };
  inner = in_row [];
}

abbrev pub ShownRoot : Type 0
ShownRoot = shown_in views (codes "/obix/") ≡ Some (record { head = record (empty_head kind.Obj) { href = Some (codes "/obix/") }; inner = in_row (up_list (Some (codes "a")) ∷ down_list (Some (codes "b")) ∷ []) })

abbrev pub ShownList : Type 0
ShownList = (shown_in views (codes "/obix/a/") ≡ Some (up_list None)) × (shown_in views (codes "/obix/b/") ≡ Some (down_list None))

abbrev pub ShownObject : Type 0
ShownObject = shown_in views (codes "/obix/a/0") ≡ Some shown_seven

-- what isn't held, what is down, and what is no place's very text
abbrev pub ShownNowhere : Type 0
ShownNowhere =
    (shown_in views (codes "/obix/a/1") ≡ None) × (shown_in views (codes "/obix/b/0") ≡ None) × (shown_in views (codes "/obix/a") ≡ None)
    × (shown_in views (codes "/obix/a/00") ≡ None) × (shown_in views (codes "/obix") ≡ None)

-- ---- rounds

-- the dial of an upstream that is down fails: it is down, it was dialled once, and no link comes back
abbrev pub failed_dial : Dial
failed_dial = record { host = codes "h"; port = 8081; failed = true }

abbrev pub DialFails : Type 0
DialFails = Rounds (Unit {0}) (one ∷ []) (past 0 (0 ∷ [])) (past 1 (1 ∷ [])) (Down ∷ []) (Down ∷ []) (failed_dial ∷ []) []

-- two upstreams whose dials fail: `a` and `b` are dialled in the first round, `a` in the second, `b` in the third, `a` in the fourth
abbrev pub InTurn : Type 0
InTurn =
    (next_dial 1 (states_of (Down ∷ Down ∷ []) (no_rounds both).fails) ≡ Some 0)
    × (next_dial 1 (dialled 1 Down ∷ waiting 0 ∷ []) ≡ Some 1)
    × (next_dial 1 (dialled 1 Down ∷ dialled 1 Down ∷ []) ≡ None)
    × (next_dial 2 (states_of (Down ∷ Down ∷ []) (1 ∷ 1 ∷ [])) ≡ Some 0)
    × (next_dial 2 (dialled 2 Down ∷ waiting 1 ∷ []) ≡ None)
    × (next_dial 3 (states_of (Down ∷ Down ∷ []) (2 ∷ 1 ∷ [])) ≡ Some 1)
    × (next_dial 3 (waiting 2 ∷ dialled 3 Down ∷ []) ≡ None)
    × (next_dial 4 (states_of (Down ∷ Down ∷ []) (2 ∷ 3 ∷ [])) ≡ Some 0)
    × (next_dial 4 (dialled 4 Down ∷ waiting 3 ∷ []) ≡ None)

-- four upstreams of which the second is up, and the last dials of the others failed in the rounds 7, 8 and 4: in round 10 the last one is
-- dialled; where it comes up the first one is, and where that comes up too, the third one
abbrev pub BesideOneUp : Type 0
BesideOneUp =
    (next_dial 10 (states_of (Down ∷ Up [] ∷ Down ∷ Down ∷ []) (7 ∷ 0 ∷ 8 ∷ 4 ∷ [])) ≡ Some 3)
    × (next_dial 10 (waiting 7 ∷ left 0 ∷ waiting 8 ∷ dialled 10 (Up []) ∷ []) ≡ Some 0)
    × (next_dial 10 (dialled 10 (Up []) ∷ left 0 ∷ waiting 8 ∷ dialled 10 (Up []) ∷ []) ≡ Some 2)
    × (next_dial 10 (dialled 10 (Up []) ∷ left 0 ∷ dialled 10 Down ∷ dialled 10 (Up []) ∷ []) ≡ None)

-- the watches of the second and the fourth lapsed in the round before, and the dials of the others failed long ago: those two come first,
-- and are up though one of the others stays down
abbrev pub LapsedFirst : Type 0
LapsedFirst =
    (next_dial 10 (states_of (Down ∷ Down ∷ Down ∷ Down ∷ []) (2 ∷ 0 ∷ 1 ∷ 0 ∷ [])) ≡ Some 1)
    × (next_dial 10 (waiting 2 ∷ dialled 10 (Up []) ∷ waiting 1 ∷ waiting 0 ∷ []) ≡ Some 3)
    × (next_dial 10 (waiting 2 ∷ dialled 10 (Up []) ∷ waiting 1 ∷ dialled 10 (Up []) ∷ []) ≡ Some 2)
    × (next_dial 10 (waiting 2 ∷ dialled 10 (Up []) ∷ dialled 10 Down ∷ dialled 10 (Up []) ∷ []) ≡ None)

-- an err in a round brings an upstream down
abbrev pub ErrBringsDown : Type 0
ErrBringsDown = after one (Up []) (Reply (plain_err (codes "no")) ∷ []) ≡ Down

-- the add is answered by 7, a poll by 8; a reply that is no WatchOut leads nowhere
abbrev pub AddedAndPolled : Type 0
AddedAndPolled =
    (next one (Adding (codes "/w/add") (codes "/w/poll")) (watch_out (int None (Some (codes "/obix/n")) 7 [] ∷ [])) ≡ Some (Polling (codes "/w/poll") (held (codes "/obix/n") (int None None 7 []) ∷ [])))
    × (next one (Polling (codes "/w/poll") (held (codes "/obix/n") (int None None 7 []) ∷ [])) (watch_out (int None (Some (codes "/obix/n")) 8 [] ∷ []))
    ≡ Some (Polling (codes "/w/poll") (held (codes "/obix/n") (int None None 8 []) ∷ [])))
    × (next one (Polling (codes "/w/poll") []) (config []) ≡ None)
