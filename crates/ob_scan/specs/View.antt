use Rattle.std.specs.Prelude.{◌≡◌, ℕ, ◌+◌, ◌<◌, ◌≤◌, List, length, drop, Result, Ok, Err}
use Rattle.ob_scan.specs.declared.piece.Place.{Place}
use Rattle.ob_scan.specs.declared.piece.Piece.{Piece}
use Rattle.ob_scan.specs.declared.piece.Piece.TheVariants.{Open, Attr, TagEnd, EmptyEnd, Close, Skipped, End, Mark}
use Rattle.ob_scan.specs.declared.piece.Found.{Found}
use Rattle.ob_scan.specs.declared.piece.Found.TheVariants as finds
use Rattle.ob_scan.specs.declared.piece.ScanFault.{ScanFault}
use Rattle.ob_scan.specs.declared.scan.Scan.{Scan}
use Rattle.ob_scan.specs.declared.scan.Scan.TheVariants as scans
use Rattle.ob_scan.specs.Expansion.{Expands}
use Rattle.ob_scan.specs.Constructs.{Scanned, found, more, refused, Construct, opening, attribute, tag_end, empty_end, closing, skipped, ending, mark, lead}

-- a piece without where it lies in memory
abbrev pub construct_of : Piece → Construct
construct_of (Open name) = opening name.now
construct_of (Attr name raw) = attribute name.now raw.now
construct_of TagEnd = tag_end
construct_of EmptyEnd = empty_end
construct_of (Close name) = closing name.now
construct_of Skipped = skipped
construct_of End = ending
construct_of Mark = mark

-- what stands at the front, without where it lies in memory
abbrev pub scanned_of : Scan → Scanned
scanned_of (scans.Found piece rest) = found (construct_of piece) rest.now
scanned_of scans.More = more
scanned_of (scans.Fault place why) = refused place why

-- what stands from `at` on is told with its places in all the bytes
abbrev pub Answers : Place → List ℕ → ℕ → Result Found ScanFault → Scanned → Type 0
Answers place bytes at (Ok (finds.Piece piece first next)) s = (s ≡ found (construct_of piece) (drop next bytes)) × (first ≡ at + lead place (drop at bytes)) × (at ≤ next) × (next ≤ length bytes)
Answers place bytes at (Ok (finds.More wait)) s = s ≡ more
Answers place bytes at (Err fault) s = (k : ℕ) × (s ≡ refused k fault.why) × (fault.at ≡ at + k)

-- what was found takes a byte or more, unless it is the end
abbrev pub Advances : ℕ → Result Found ScanFault → Type 0
Advances at (Ok (finds.Piece End first next)) = Unit {0}
Advances at (Ok (finds.Piece (Open name) first next)) = at < next
Advances at (Ok (finds.Piece (Attr name raw) first next)) = at < next
Advances at (Ok (finds.Piece TagEnd first next)) = at < next
Advances at (Ok (finds.Piece EmptyEnd first next)) = at < next
Advances at (Ok (finds.Piece (Close name) first next)) = at < next
Advances at (Ok (finds.Piece Skipped first next)) = at < next
Advances at (Ok (finds.Piece Mark first next)) = at < next
Advances at (Ok (finds.More wait)) = Unit {0}
Advances at (Err fault) = Unit {0}

-- the value of an attribute stands for a text
abbrev pub HasValue : Result Found ScanFault → Type 0
HasValue (Ok (finds.Piece End first next)) = Unit {0}
HasValue (Ok (finds.Piece (Open name) first next)) = Unit {0}
HasValue (Ok (finds.Piece (Attr name raw) first next)) = (text : List ℕ) × Expands raw.now text
HasValue (Ok (finds.Piece TagEnd first next)) = Unit {0}
HasValue (Ok (finds.Piece EmptyEnd first next)) = Unit {0}
HasValue (Ok (finds.Piece (Close name) first next)) = Unit {0}
HasValue (Ok (finds.Piece Skipped first next)) = Unit {0}
HasValue (Ok (finds.Piece Mark first next)) = Unit {0}
HasValue (Ok (finds.More wait)) = Unit {0}
HasValue (Err fault) = Unit {0}
