-- What stands at the front of bytes that a peer has sent: a message, which is a head of a grammar and
-- its body, or what is refused (RFC 9112, sections 2.1 and 6). Requests and replies are two cases.
use Rattle.std.specs.Prelude.{◌≡◌, ℕ, ◌+◌, ◌<◌, ◌≤◌, nat_le, List, length, take, map, slice_range, Result, Ok, Err, if◌then◌else◌}
use Rattle.httparse.specs.Grammar.{Field}
use Rattle.httparse.specs.Spans.{name_and_value}
use Rattle.ob_http.specs.declared.fault.FrameFault.{FrameFault}
use Rattle.ob_http.specs.declared.fault.FrameFault.TheVariants.{Head, HeadBig}
use Rattle.ob_http.specs.Fields.{Fields, body_length}

-- the most bytes of a head, and the most fields
abbrev pub head_limit : ℕ
head_limit = 8192

abbrev pub field_limit : ℕ
field_limit = 64

-- the bytes in which a head is looked for
abbrev pub looked_at : List ℕ → List ℕ
looked_at bytes = take head_limit bytes

-- ---- the head

-- how the bytes begin
pub data Opening (H : Type 0) : Type 0 where
  -- with a head
  head : H → Opening H
  -- with what no head begins with
  hopeless : Opening H
  -- with more of a head than may stand there
  long : Opening H
  -- with a part of a head, or with nothing
  short : Opening H

-- no prefix of the bytes is a head
abbrev pub HasNone : {H : Type 0} → (List ℕ → H → List ℕ → Type 0) → List ℕ → Type 0
HasNone {H} Reads bytes = (h : H) (rest : List ℕ) → ¬ (Reads bytes h rest)

-- there is no head yet, and one may come
abbrev pub MayHave : {H : Type 0} → (List ℕ → H → List ℕ → Type 0) → (List ℕ → Type 0) → List ℕ → Type 0
MayHave {H} Reads IsHopeless bytes = HasNone Reads bytes × ¬ (IsHopeless bytes)

-- `Reads` is the grammar of heads, and `IsHopeless` says which bytes are refused before a head is whole
abbrev pub OpensBy : {H : Type 0} → (List ℕ → H → List ℕ → Type 0) → (List ℕ → Type 0) → List ℕ → Opening H → Type 0
OpensBy {H} Reads IsHopeless bytes (head h) = (rest : List ℕ) × Reads (looked_at bytes) h rest
OpensBy {H} Reads IsHopeless bytes hopeless = IsHopeless (looked_at bytes)
OpensBy {H} Reads IsHopeless bytes long = MayHave Reads IsHopeless (looked_at bytes) × (head_limit ≤ length bytes)
OpensBy {H} Reads IsHopeless bytes short = MayHave Reads IsHopeless (looked_at bytes) × (length bytes < head_limit)

-- ---- the message

-- what stands at the front
pub data Front (M : Type 0) : Type 0 where
  -- a whole message, of so many bytes
  whole : M → ℕ → Front M
  -- a message that is refused
  refused : FrameFault → Front M
  -- a part of a message, or nothing
  unfinished : Front M

-- what a head says of its message: its bytes, its fields, the message that it makes with a body, the
-- body's length where no Content-Length tells it, and the longest body
pub record Shape (H M : Type 0) : Type 0 where
  pub print : H → List ℕ
  pub lines : H → List Field
  pub message : H → List ℕ → M
  pub absent : Result ℕ FrameFault
  pub limit : ℕ

-- the names and values of a head's fields
abbrev pub fields_by : {H M : Type 0} → Shape H M → H → Fields
fields_by shape h = map name_and_value (shape.lines h)

-- how many bytes of body follow a head
abbrev pub length_by : {H M : Type 0} → Shape H M → H → Result ℕ FrameFault
length_by shape h = body_length shape.absent shape.limit (fields_by shape h)

-- the message, where its body is there as far as n bytes
abbrev pub with_body : {H M : Type 0} → Shape H M → List ℕ → H → Result ℕ FrameFault → Front M
with_body shape bytes h (Err fault) = refused fault
with_body shape bytes h (Ok n) =
    let start = length (shape.print h) in
    if nat_le (start + n) (length bytes)
    then whole (shape.message h (slice_range bytes start (start + n))) (start + n) else unfinished

abbrev pub front_behind : {H M : Type 0} → Shape H M → List ℕ → Opening H → Front M
front_behind shape bytes (head h) =
    if nat_le (length (shape.lines h)) field_limit then with_body shape bytes h (length_by shape h)
    else refused Head
front_behind shape bytes hopeless = refused Head
front_behind shape bytes long = refused HeadBig
front_behind shape bytes short = unfinished

-- this stands at the front of the bytes
abbrev pub StandsBy : {H M : Type 0} → (List ℕ → H → List ℕ → Type 0) → (List ℕ → Type 0) → Shape H M → List ℕ → Front M → Type 0
StandsBy {H} Reads IsHopeless shape bytes front =
    (opening : Opening H) × OpensBy Reads IsHopeless bytes opening × (front_behind shape bytes opening ≡ front)
