-- One object with its words, and an object with more children.
use Rattle.std.specs.Prelude.{◌++◌, List, Option}
use Rattle.ob_object.specs.Object.{Object, listed, in_row, children}
use Rattle.ob_contracts.specs.Inherit.{Contracts, Words, sources, inherited_head, implied_by, missing}
use Rattle.ob_contracts.specs.Ancestry.{own_words}
use Rattle.ob_site_rules.specs.Roles.{thin, worded_row}

-- an object with these children behind its own
abbrev pub with_more : Object → List Object → Object
with_more o cs = record { head = o.head; inner = in_row (children o ++ cs) }

-- The result of an object with its words as `is`, where a list or a feed round it gives words, and where it overrides a
-- child of a source. In a row each object becomes this.
abbrev pub worded_at : Contracts → Option Words → Option Object → Object → Object
worded_at lib implied over o =
    let from = sources lib o.head implied over in
    record {
      head = thin o.head (own_words o.head implied over) (implied_by (inherited_head o.head from));
      inner = in_row (listed (worded_row lib (implied_by (inherited_head o.head from)) from o.inner) ++ missing (children o) from);
    }
