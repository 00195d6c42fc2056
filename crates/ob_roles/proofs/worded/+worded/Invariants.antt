use Rattle.std.proofs.Common.{◌≡◌, ◌++◌, Option, option_map}
use Rattle.std.specs.Option.{option_copied}
use Rattle.ob_object.specs.Object.{Object, children, parts}
use Rattle.ob_contracts.specs.Found.{lent}
use Rattle.ob_contracts.specs.Inherit.{Contracts, Words, sources, missing}
use Rattle.ob_site_rules.specs.Roles.{thin}
use Rattle.ob_roles.specs.Few.{brief, brief_contracts}
use Rattle.ob_roles.specs.Kinds.{Tells}
use Rattle.ob_roles.specs.Summed.{HasNames, IsGivenBy}
use Rattle.ob_roles.specs.Tables.{Holds}
use Rattle.ob_roles.proofs.Named.{Missing}
use Rattle.ob_roles.proofs.WordRows.{Rows, gives_of, few_row}
use Rattle.ob_roles.proofs.worded.+worded.Given as goal

abbrev pub decreases-worded : goal.decreases-worded
decreases-worded l = parts l.placed.now.object.now

abbrev pub invariant-loop-child : goal.invariant-loop-child
invariant-loop-child l = (whole lib : Contracts) (implied : Option Words) (o : Option Object) → Tells l.learned.known.now whole → Holds l.learned.table.now (brief_contracts whole lib)
    → IsGivenBy (option_copied l.placed.list) (brief_contracts whole lib) l.placed.object.now.head implied → option_copied l.placed.over ≡ option_map (brief whole) o
    → Rows whole lib (gives_of lib l.placed.object.now.head implied o) (sources lib l.placed.object.now.head implied o) l.child-items l.child-index (children l.made)
    × (l.made.head ≡ thin l.placed.object.now.head (option_copied l.placed.words) (gives_of lib l.placed.object.now.head implied o))

abbrev pub invariant-loop-source : goal.invariant-loop-source
invariant-loop-source l = (whole lib : Contracts) (implied : Option Words) (o : Option Object) → Tells l.learned.known.now whole → Holds l.learned.table.now (brief_contracts whole lib)
    → IsGivenBy (option_copied l.placed.list) (brief_contracts whole lib) l.placed.object.now.head implied → option_copied l.placed.over ≡ option_map (brief whole) o
    → Missing l.source-items l.source-index
    (few_row whole lib (gives_of lib l.placed.object.now.head implied o) (sources lib l.placed.object.now.head implied o) l.placed.object.now.inner ++ missing (children l.placed.object.now) (lent l.source-items))
    (children l.made)
    × (l.made.head ≡ thin l.placed.object.now.head (option_copied l.placed.words) (gives_of lib l.placed.object.now.head implied o)) × HasNames l.there l.made
