-- The root that the text of the storm's site spells.
use Rattle.std.specs.Prelude.{ℕ, zero, suc, pos, ◌+◌, true, codes, decimal, List, [], ◌∷◌, ◌++◌, Some, None}
use Rattle.ob_values.specs.declared.value.Value.TheVariants as value
use Rattle.ob_object.specs.declared.kind.Kind.TheVariants as kind
use Rattle.ob_object.specs.declared.head.Slot.TheVariants.{Is}
use Rattle.ob_object.specs.declared.head.Head.{Head}
use Rattle.ob_object.specs.Facets.{no_facets}
use Rattle.ob_object.specs.Object.{Objects, none, node, Object, empty_head, in_row}
use Rattle.ob_site_rules.specs.Build.{whole, valued, word, number_slot, ref_to}

abbrev pub point_href : ℕ → List ℕ
point_href k = codes "p" ++ decimal k

-- a writable point from 0 to 999
abbrev pub point : ℕ → Head
point k = record (empty_head kind.Int) {
  href = Some (point_href k);
  is = word (codes "obix:WritablePoint");
  slot = number_slot 0;
  facets = record no_facets { min = Some (value.Int (pos 0)); max = Some (value.Int (pos 999)); writable = Some true };
}

-- so many points from this one on, before these objects
abbrev pub points : ℕ → ℕ → Objects → Objects
points k zero rest = rest
points k (suc n) rest = node (point k) none (points (k + 1) n rest)

-- the history of the first point
abbrev pub history : Object
history = whole (record (empty_head kind.Obj) { name = Some (codes "h"); href = Some (codes "h"); is = word (codes "obix:History") }) (ref_to (codes "source") (codes "p0") None ∷ [])

-- the alarms of the second
abbrev pub alarms : Object
alarms =
    whole (record (empty_head kind.Obj) { name = Some (codes "alarms"); href = Some (codes "alarms"); is = word (codes "obix:AlarmSubject") })
    (whole (record (empty_head kind.List) { name = Some (codes "rules") })
    (whole (empty_head kind.Obj)
    (ref_to (codes "source") (codes "p1") None
    ∷ valued kind.Int (codes "low") (number_slot 100)
    ∷ valued kind.Int (codes "high") (number_slot 899)
    ∷ valued kind.Bool (codes "needsAck") (Is (value.Bool true))
    ∷ [])
    ∷ [])
    ∷ [])

abbrev pub root : ℕ → Object
root n = record {
  head = record (empty_head kind.Obj) { href = Some (codes "http://h/obix/"); is = word (codes "obix:Lobby") };
  inner = points 0 n (in_row (history ∷ alarms ∷ []));
}
