-- Refusals (`Fault` of src/fault.rt), as err objects. Source: oBIX 1.1, chapter 10 (Networking: errors). Which err answers
-- which refusal, and its words, are this profile's own.
use Rattle.std.specs.Prelude.{Bool, cond, codes, List, [], ◌∷◌, Option, Some, None}
use Rattle.ob_object.specs.declared.kind.Kind.TheVariants as kind
use Rattle.ob_object.specs.Facets.{no_facets}
use Rattle.ob_object.specs.Object.{Object, empty_head}
use Rattle.ob_site_rules.specs.Build.{Text, word, leaf}
use Rattle.ob_site_rules.specs.declared.fault.Fault.{Fault}
use Rattle.ob_site_rules.specs.declared.fault.Fault.TheVariants.{NoSuchObject, NotSupported, OtherShape, NotWatchable, NotInBatch, NotWritable, OtherKind, BelowMin, AboveMax, NotInRange, TextTooLong, LeaseOutOfRange, TooManyWatches, TooManyItems, HrefTooLong, TooManyBatchItems, TooManyEntries, TooManyItemsInAll, TooManyHrefBytes}

-- the contract of a refusal
abbrev pub fault_is : Fault → Option (List Text)
fault_is NoSuchObject = word (codes "obix:BadUriErr")
fault_is NotSupported = word (codes "obix:UnsupportedErr")
fault_is OtherShape = word (codes "obix:UnsupportedErr")
fault_is NotWatchable = word (codes "obix:UnsupportedErr")
fault_is NotInBatch = word (codes "obix:UnsupportedErr")
fault_is NotWritable = word (codes "obix:PermissionErr")
fault_is _ = None

-- what a refusal says
abbrev pub fault_display : Fault → Text
fault_display NoSuchObject = codes "no such object"
fault_display NotSupported = codes "verb not supported here"
fault_display OtherShape = codes "input has another shape"
fault_display NotWatchable = codes "cannot be watched"
fault_display NotInBatch = codes "not inside a batch"
fault_display NotWritable = codes "not writable"
fault_display OtherKind = codes "kind differs"
fault_display BelowMin = codes "below min"
fault_display AboveMax = codes "above max"
fault_display NotInRange = codes "not in range"
fault_display TextTooLong = codes "text longer than 4096 bytes"
fault_display LeaseOutOfRange = codes "lease not from PT1S to PT86400S"
fault_display TooManyWatches = codes "limit of 1000 watches"
fault_display TooManyItems = codes "limit of 2048 items"
fault_display HrefTooLong = codes "href longer than 1024 bytes"
fault_display TooManyBatchItems = codes "limit of 1000 batch items"
fault_display TooManyEntries = codes "limit of 1000000 stored entries"
fault_display TooManyItemsInAll = codes "limit of 200000 items in all"
fault_display TooManyHrefBytes = codes "limit of 16777216 bytes of hrefs in all"

-- a refusal as an object
abbrev pub err : Fault → Object
err f = leaf (record (empty_head kind.Err) { is = fault_is f; facets = record no_facets { display = Some (fault_display f) } })

-- the first fault of a table whose condition holds
abbrev pub first_fault : List (Bool × Fault) → Option Fault
first_fault [] = None
first_fault (row ∷ rows) = cond row.0 (Some row.1) (first_fault rows)
