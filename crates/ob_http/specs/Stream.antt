-- The messages that a stream of bytes spells, one behind the other (RFC 9112, sections 9.3 and 9.6),
-- and what of it was taken.
use Rattle.std.specs.Prelude.{◌≡◌, ℕ, ◌+◌, Bool, List, [], ◌∷◌, ◌++◌, length, drop, MatchBool}
use Rattle.ob_http.specs.declared.fault.FrameFault.{FrameFault}
use Rattle.ob_http.specs.Message.{Front, whole, refused, unfinished}

-- what comes behind the last whole message
pub data End : Type 0 where
  -- these bytes, which are nothing or a part of a message
  resting : List ℕ → End
  -- nothing that counts, since the last message asked for close
  closing : End
  -- a message that is refused, behind so many bytes
  faulted : FrameFault → ℕ → End

-- the bytes, of which the first have this place in the stream, are these messages and this end;
-- `Stands` says what stands at the front, and `closes` which messages are the last
abbrev pub FramedBy : {M : Type 0} → (List ℕ → Front M → Type 0) → (M → Bool) → ℕ → List ℕ → List M → End → Type 0
FramedBy Stands closes place bytes [] (resting rest) = Stands bytes unfinished × (rest ≡ bytes)
FramedBy Stands closes place bytes [] closing = ⊥
FramedBy Stands closes place bytes [] (faulted fault at) = Stands bytes (refused fault) × (at ≡ place)
FramedBy Stands closes place bytes (m ∷ ms) end =
    (len : ℕ) × Stands bytes (whole m len)
    × MatchBool (closes m) ((ms ≡ []) × (end ≡ closing))
    (FramedBy Stands closes (place + len) (drop len bytes) ms end)

-- the bytes, of which the first have this place in the stream, have a framing
abbrev pub HasFramingBy : {M : Type 0} → (List ℕ → Front M → Type 0) → (M → Bool) → ℕ → List ℕ → Type 0
HasFramingBy {M} Stands closes place bytes = (ms : List M) × ((end : End) × FramedBy Stands closes place bytes ms end)

-- whatever bytes follow, the stream's first messages are these
abbrev pub AreFirstBy : {M : Type 0} → (List ℕ → Front M → Type 0) → (M → Bool) → List ℕ → List M → Type 0
AreFirstBy {M} Stands closes stream ms =
    (more : List ℕ) (all : List M) (end : End) → FramedBy Stands closes 0 (stream ++ more) all end
    → (later : List M) × (all ≡ ms ++ later)

-- the bytes that are kept, and how many stood before them
pub record Received : Type 0 where
  pub place : ℕ
  pub kept : List ℕ

-- the bytes behind the first n of those that are kept
abbrev pub behind : ℕ → Received → Received
behind n r = record { place = r.place + n; kept = drop n r.kept }

-- of the stream's bytes these messages were taken, none of which closes, and the rest is held
pub record IsTakenBy {M : Type 0} (Stands : List ℕ → Front M → Type 0) (closes : M → Bool) (stream : List ℕ) (ms : List M) (held : Received) : Type 0 where
  pub size : length stream ≡ held.place + length held.kept
  -- what the rest and more bytes are framed as comes behind these messages
  pub onward : (more : List ℕ) (later : List M) (end : End)
      → FramedBy Stands closes held.place (held.kept ++ more) later end
      → FramedBy Stands closes 0 (stream ++ more) (ms ++ later) end
  -- and nothing else does
  pub back : (more : List ℕ) (all : List M) (end : End) → FramedBy Stands closes 0 (stream ++ more) all end
      → (later : List M) × (all ≡ ms ++ later) × FramedBy Stands closes held.place (held.kept ++ more) later end
