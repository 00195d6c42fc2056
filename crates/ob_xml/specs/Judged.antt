-- The first refused construct of a text, or the document that the text is.
use Rattle.std.specs.Prelude.{◌≡◌, ℕ, ◌+◌, ◌-◌, Bool, true, false, List, length, take, nat_le, Ok, Err}
use Rattle.ob_scan.specs.declared.piece.Why.TheVariants as scanned
use Rattle.ob_scan.specs.declared.piece.Why.{Why as ScanWhy}
use Rattle.ob_scan.specs.Constructs.{Construct, found, more, refused, scan, lead}
use Rattle.ob_xml.specs.declared.doc.Doc.{Doc}
use Rattle.ob_xml.specs.declared.refused.Why.{Why}
use Rattle.ob_xml.specs.declared.refused.Why.TheVariants as causes
use Rattle.ob_xml.specs.Meanings.{Meaning, Means}
use Rattle.ob_xml.specs.Structure.{State, start, marked, between, in_tag, behind, whole, beginning, place_of, kind_in, step}

pub data Verdict : Type 0 where
  -- nothing is refused so far, and the input goes on
  pending : Verdict
  document : Doc → Verdict
  -- the place and the cause of the first refused construct
  fault : ℕ → Why → Verdict

abbrev pub cause_of : ScanWhy → Why
cause_of scanned.Markup = causes.Markup
cause_of scanned.Text = causes.Text
cause_of scanned.Ended = causes.Ended

abbrev pub is_open : State → Bool
is_open start = true
is_open marked = true
is_open (between ns outer) = true
is_open (in_tag ns names h outer) = true
is_open (behind d) = true
is_open (whole d) = false

-- the text from this place on, where the constructs before it have led to this state
pub data Judges (ended : Bool) : State → ℕ → List ℕ → Verdict → Type 0 where
  complete : (d : Doc) (at : ℕ) (bytes : List ℕ) → Judges ended (whole d) at bytes (document d)
  goes_on : (s t : State) (at : ℕ) (bytes rest : List ℕ) (c : Construct) (m : Meaning) (v : Verdict) → is_open s ≡ true
      → scan (place_of s) ended bytes ≡ found c rest → Means (kind_in s) c m → step s m ≡ Ok t
      → Judges ended t (at + (length bytes - length rest)) rest v → Judges ended s at bytes v
  -- a construct that is refused for what stands before it
  misplaced : (s : State) (at : ℕ) (bytes rest : List ℕ) (c : Construct) (m : Meaning) (why : Why) → is_open s ≡ true
      → scan (place_of s) ended bytes ≡ found c rest → Means (kind_in s) c m → step s m ≡ Err why
      → Judges ended s at bytes (fault (at + lead (place_of s) bytes) why)
  malformed : (s : State) (at : ℕ) (bytes : List ℕ) (k : ℕ) (why : ScanWhy) → is_open s ≡ true
      → scan (place_of s) ended bytes ≡ refused k why → Judges ended s at bytes (fault (at + k) (cause_of why))
  unfinished : (s : State) (at : ℕ) (bytes : List ℕ) → is_open s ≡ true
      → scan (place_of s) ended bytes ≡ more → Judges ended s at bytes pending

-- the most bytes that a document has
abbrev pub max_len : ℕ
max_len = 16777216

abbrev pub overlong : Verdict → Verdict
overlong pending = fault max_len causes.Big
overlong (document d) = document d
overlong (fault at why) = fault at why

-- of more bytes than a document has, the first are judged as if more came
abbrev pub JudgedFront : List ℕ → Verdict → Type 0
JudgedFront front v = (w : Verdict) × Judges false beginning 0 front w × (v ≡ overlong w)

abbrev pub JudgedBy : Bool → List ℕ → Bool → Verdict → Type 0
JudgedBy true bytes ended v = Judges ended beginning 0 bytes v
JudgedBy false bytes ended v = JudgedFront (take max_len bytes) v

abbrev pub Judged : List ℕ → Bool → Verdict → Type 0
Judged bytes ended v = JudgedBy (nat_le (length bytes) max_len) bytes ended v
