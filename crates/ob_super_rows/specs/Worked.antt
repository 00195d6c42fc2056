-- Configs, upstreams and replies on which rows are worked.
use Rattle.std.specs.Prelude.{ℕ, true, false, pos, codes, List, [], ◌∷◌, ◌++◌, map, Option, Some, None}
use Rattle.url.specs.Parts.{Parts}
use Rattle.url.specs.declared.host.Host.TheVariants.{Domain}
use Rattle.ob_values.specs.declared.value.Value.TheVariants as value
use Rattle.ob_object.specs.declared.kind.Kind.{Kind}
use Rattle.ob_object.specs.declared.kind.Kind.TheVariants as kind
use Rattle.ob_object.specs.declared.head.Slot.TheVariants.{Is}
use Rattle.ob_object.specs.Object.{Object, empty_head, in_row, none}
use Rattle.ob_watching.specs.Operations.{Shows}
use Rattle.ob_watching.specs.WatchOuts.{Text, Held}
use Rattle.ob_super.specs.Upstreams.{Upstream}
use Rattle.ob_super.specs.Dialling.{Past, State}

-- an object of a kind, with a name or none, and with these in it
abbrev pub holding : Kind → Option Text → List Object → Object
holding k name os = record { head = record (empty_head k) { name = name }; inner = in_row os }

abbrev pub uri : Option Text → Text → Object
uri name t = record { head = record (empty_head kind.Uri) { name = name; slot = Is (value.Uri t) }; inner = none }

abbrev pub str : Text → Text → Object
str name t = record { head = record (empty_head kind.Str) { name = Some name; slot = Is (value.Str t) }; inner = none }

-- a list `hrefs` of these
abbrev pub hrefs : List Text → Object
hrefs ts = holding kind.List (Some (codes "hrefs")) (map (uri None) ts)

-- `http://h/obix/` as a child `url`
abbrev pub url : Object
url = uri (Some (codes "url")) (codes "http://h/obix/")

abbrev pub config : List Object → Object
config us = holding kind.List None us

abbrev pub named_obj : Text → List Object → Object
named_obj name os = holding kind.Obj (Some name) os

abbrev pub two : Object
two = config (named_obj (codes "a") (url ∷ hrefs (codes "/obix/n" ∷ []) ∷ []) ∷ named_obj (codes "b2") (hrefs (codes "k" ∷ codes "/x" ∷ []) ∷ str (codes "note") (codes "old") ∷ url ∷ []) ∷ [])

-- ---- upstreams in hand

-- `http://h:8081/obix/`
abbrev pub base : Parts
base = record {
  scheme = codes "http";
  username = [];
  password = [];
  host = Some (Domain (codes "h"));
  port = Some 8081;
  path = codes "/obix/";
  query = None;
  fragment = None;
}

abbrev pub upstream : Text → List Text → Upstream
upstream name ts = record { name = name; lobby = record { url = base; target = codes "/obix/" }; hrefs = ts }

-- an int of this value, with a name, an href and what is in it
abbrev pub int : Option Text → Option Text → ℕ → List Object → Object
int name href n os = record { head = record (empty_head kind.Int) { name = name; href = href; slot = Is (value.Int (pos n)) }; inner = in_row os }

abbrev pub held : Text → Object → Held
held t o = record { text = t; content = Shows o }

-- a WatchOut with these values
abbrev pub watch_out : List Object → Object
watch_out os = holding kind.Obj None (holding kind.List (Some (codes "values")) os ∷ [])

abbrev pub one : Upstream
one = upstream (codes "a") (codes "/obix/n" ∷ codes "/obix/gone" ∷ [])

-- 7 at `/obix/n`, with a child that has an href of its own; nothing at `/obix/gone`
abbrev pub seven : Held
seven = held (codes "/obix/n") (int (Some (codes "n")) None 7 (int (Some (codes "in")) (Some (codes "/obix/in")) 1 [] ∷ []))

abbrev pub other : Upstream
other = upstream (codes "b") (codes "/obix/n" ∷ [])

abbrev pub both : List Upstream
both = one ∷ other ∷ []

-- so many rounds, and the rounds in which the last dials failed
abbrev pub past : ℕ → List ℕ → Past
past rounds fails = record { rounds = rounds; fails = fails }

-- one that waits for a dial, and one that doesn't, whose last dials failed in this round
abbrev pub waiting : ℕ → State
waiting n = record { waits = true; failed = n }

abbrev pub left : ℕ → State
left n = record { waits = false; failed = n }
