-- Polls worked by these definitions: how many steps they count at most on a site, whose own objects stand on at most 32 levels.
use Rattle.std.specs.Prelude.{◌≡◌, ℕ, codes, List, [], ◌∷◌, Some}
use Rattle.ob_object.specs.declared.kind.Kind.TheVariants as kind
use Rattle.ob_object.specs.Object.{Object, empty_head}
use Rattle.ob_site_rules.specs.Build.{Text, whole, leaf, op_at}
use Rattle.ob_site_rules.specs.Computed.{watch_out}
use Rattle.ob_site_watches.specs.Polls.{object_entries, steps_for}

abbrev pub int : Text → Object
int name = leaf (record (empty_head kind.Int) { name = Some name })

-- a writable point that has nine ints by its contract, as a poll reports it: eleven parts
abbrev pub point : Object
point = whole (record (empty_head kind.Int) { href = Some (codes "/obix/p7") })
    (int (codes "a") ∷ int (codes "b") ∷ int (codes "c") ∷ int (codes "d") ∷ int (codes "e") ∷ int (codes "f") ∷ int (codes "g") ∷ int (codes "h") ∷ int (codes "i")
    ∷ op_at (codes "writePoint") (codes "/obix/p7/writePoint") (codes "obix:WritePointIn") (codes "obix:Point") ∷ [])

-- the steps that a poll with this reply counts at most
abbrev pub at_most : Object → ℕ
at_most reply = steps_for 32 (object_entries reply)

-- of a large site one point was written: eleven steps for its parts, and 32 for the objects round it
abbrev pub OneIsReported : Type 0
OneIsReported = at_most (watch_out (point ∷ [])) ≡ 43

-- and none has changed since
abbrev pub NothingIsReported : Type 0
NothingIsReported = at_most (watch_out []) ≡ 0
