-- What a decoder has read, what it answers, and what it keeps.
use Rattle.std.specs.Prelude.{◌≡◌, ℕ, ◌+◌, ◌≤◌, Bool, true, false, List, ◌++◌, length, drop, Some, None, Result, Ok, Err, ◌⊎◌}
use Rattle.ob_scan.specs.Constructs.{more, scan}
use Rattle.ob_scan.specs.Waiting.{IsWaiting}
use Rattle.ob_xml.specs.declared.decoder.Decoder.{Decoder}
use Rattle.ob_xml.specs.declared.reading.Reading.{Reading}
use Rattle.ob_xml.specs.declared.refused.Refused.{Refused}
use Rattle.ob_xml.specs.declared.refused.Why.TheVariants.{Memory}
use Rattle.ob_xml.specs.declared.doc.Doc.{Doc}
use Rattle.ob_xml.specs.Judged.{pending, document, fault, Judged, Judges, max_len}
use Rattle.ob_xml.specs.Leading.{Leads}
use Rattle.ob_xml.specs.Structure.{State, beginning, place_of}
use Rattle.ob_xml.specs.Views.{state_of}

-- it has read these bytes, and the last of them are those that it keeps
pub record HasTaken (r : Reading) (bytes : List ℕ) : Type 0 where
  pub gone : List ℕ
  pub parts : bytes ≡ gone ++ r.kept.items
  pub count : r.base ≡ length gone
  pub short : length bytes ≤ max_len
  pub leads : Leads false bytes (state_of r.state) (r.base + r.at) r.base
  pub waits : IsWaiting (place_of (state_of r.state)) (drop r.at r.kept.items) r.wait

-- it was fed these bytes, and nothing in them is refused
abbrev pub HasRead : Decoder → List ℕ → Type 0
HasRead d bytes = (d.refused ≡ None) × HasTaken d.reading bytes

-- it has refused what it was fed
abbrev pub HasRefused : Decoder → Refused → Type 0
HasRefused d r = d.refused ≡ Some r

-- want of memory, told at the number of bytes fed, or the first refused construct of the bytes
abbrev pub IsCause : List ℕ → Bool → Refused → Type 0
IsCause bytes ended r = ((r.why ≡ Memory) × (r.at ≡ length bytes)) ⊎ Judged bytes ended (fault r.at r.why)

-- with these bytes, the piece just fed included: nothing is refused, or the refusal is that of the bytes
abbrev pub Feeds : List ℕ → Result (Unit {0}) Refused → Decoder → Type 0
Feeds bytes (Ok _) new = HasRead new bytes × Judged bytes false pending
Feeds bytes (Err r) new = HasRefused new r × IsCause bytes false r

-- the document that all bytes spell, or their refusal
abbrev pub Finishes : List ℕ → Result Doc Refused → Type 0
Finishes bytes (Ok doc) = Judged bytes true (document doc)
Finishes bytes (Err r) = IsCause bytes true r

-- so many bytes stand behind the last whole construct, where a tag is one construct
abbrev pub Keeps : List ℕ → ℕ → Type 0
Keeps bytes kept =
    (s : State) × (at : ℕ) × (from : ℕ) × Leads false bytes s at from × (scan (place_of s) false (drop at bytes) ≡ more) × (from + kept ≡ length bytes)

-- the same of the bytes that are at most as many as a document has
abbrev pub Takes : List ℕ → Result Reading Refused → Type 0
Takes bytes (Ok r) = HasTaken r bytes
Takes bytes (Err r) = ((r.why ≡ Memory) × (r.at ≡ length bytes)) ⊎ Judges false beginning 0 bytes (fault r.at r.why)

abbrev pub Ends : List ℕ → Result Doc Refused → Type 0
Ends bytes (Ok doc) = Judges true beginning 0 bytes (document doc)
Ends bytes (Err r) = ((r.why ≡ Memory) × (r.at ≡ length bytes)) ⊎ Judges true beginning 0 bytes (fault r.at r.why)
