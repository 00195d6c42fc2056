-- What a client holds of a watch that replays what it reads in the replies to the calls on it: under each href, in the
-- order in which they first came, an object, an err, or a feed with its events and how many were missed. No site is spoken of:
-- the laws of watches and a client's own program cite this one definition.
use Rattle.std.specs.Prelude.{◌+◌, Bool, true, false, not, ◌&&◌, List, [], ◌∷◌, ◌++◌}
use Rattle.std.specs.List.{filter, list_any}
use Rattle.ob_watching.specs.Operations.{Operation, Add, Remove, PollChanges, PollRefresh, ContentOf, Lists, Refuses, ReadingOf, HeardOf, Values, Nothing, Other}
use Rattle.ob_watching.specs.Tables.{put, is_among}

-- of a held feed what dropped out is counted, and the events are appended; all else is replaced
abbrev pub continued : {Object Event Err : Type 0} → ContentOf Object Event Err → ContentOf Object Event Err → ContentOf Object Event Err
continued (Lists feed missed old) (Lists _ dropped new) = Lists feed (missed + dropped) (old ++ new)
continued old new = new

-- an entry of a pollChanges: an err is passed over, a new href goes last
abbrev pub change : {Text Object Event Err : Type 0} → (Text → Text → Bool) → ReadingOf Text Object Event Err → ContentOf Object Event Err → List (ReadingOf Text Object Event Err) → List (ReadingOf Text Object Event Err)
change same r (Refuses err) held = held
change same r content held = put (λ old. same old.text r.text) (λ old. record { text = old.text; content = continued old.content content }) r held

-- an entry of an add: an err is passed over, an href that is held keeps its place
abbrev pub take_added : {Text Object Event Err : Type 0} → (Text → Text → Bool) → ReadingOf Text Object Event Err → ContentOf Object Event Err → List (ReadingOf Text Object Event Err) → List (ReadingOf Text Object Event Err)
take_added same r (Refuses err) held = held
take_added same r content held = put (λ old. same old.text r.text) (λ old. r) r held

-- after a pollChanges
abbrev pub changed_by : {Text Object Event Err : Type 0} → (Text → Text → Bool) → List (ReadingOf Text Object Event Err) → List (ReadingOf Text Object Event Err) → List (ReadingOf Text Object Event Err)
changed_by same [] held = held
changed_by same (r ∷ rs) held = changed_by same rs (change same r r.content held)

-- after an add
abbrev pub added_by : {Text Object Event Err : Type 0} → (Text → Text → Bool) → List (ReadingOf Text Object Event Err) → List (ReadingOf Text Object Event Err) → List (ReadingOf Text Object Event Err)
added_by same [] held = held
added_by same (r ∷ rs) held = added_by same rs (take_added same r r.content held)

-- after a remove of these hrefs
abbrev pub without : {Text Object Event Err : Type 0} → (Text → Text → Bool) → List Text → List (ReadingOf Text Object Event Err) → List (ReadingOf Text Object Event Err)
without same texts held = filter (λ r. not (is_among same texts r.text)) held

-- a WatchOut: pollRefresh replaces all that is held
abbrev pub replay_out : {Text Input Part Fault Object Event Err : Type 0} → (Text → Text → Bool) → Operation Text Input Part Fault → List (ReadingOf Text Object Event Err) → List (ReadingOf Text Object Event Err) → List (ReadingOf Text Object Event Err)
replay_out same (Add asked) rs held = added_by same rs held
replay_out same PollChanges rs held = changed_by same rs held
replay_out same PollRefresh rs held = rs
replay_out same _ rs held = held

-- Nil as the reply to a remove
abbrev pub replay_nil : {Text Input Part Fault Object Event Err : Type 0} → (Text → Text → Bool) → Operation Text Input Part Fault → List (ReadingOf Text Object Event Err) → List (ReadingOf Text Object Event Err)
replay_nil same (Remove texts) held = without same texts held
replay_nil same _ held = held

-- what is held after a reply in which this was read
abbrev pub replay_heard : {Text Input Part Fault Object Event Err : Type 0} → (Text → Text → Bool) → Operation Text Input Part Fault → HeardOf Text Object Event Err → List (ReadingOf Text Object Event Err) → List (ReadingOf Text Object Event Err)
replay_heard same op (Values rs) held = replay_out same op rs held
replay_heard same op Nothing held = replay_nil same op held
replay_heard same op Other held = held

-- whether an entry gives an object or a feed, and not an err
abbrev pub is_content : {Object Event Err : Type 0} → ContentOf Object Event Err → Bool
is_content (Refuses err) = false
is_content _ = true

-- among entries is one for this href that is no err
abbrev pub has_content : {Text Object Event Err : Type 0} → (Text → Text → Bool) → List (ReadingOf Text Object Event Err) → Text → Bool
has_content same rs text = list_any (λ r. is_content r.content && same text r.text) rs

-- an add or a pollRefresh gives what an href names whole
abbrev pub gives_out : {Text Input Part Fault Object Event Err : Type 0} → (Text → Text → Bool) → Text → Operation Text Input Part Fault → List (ReadingOf Text Object Event Err) → Bool
gives_out same text (Add asked) rs = has_content same rs text
gives_out same text PollRefresh rs = has_content same rs text
gives_out same text _ rs = false

-- whether the reply to an operation gives what an href names whole
abbrev pub gives_whole : {Text Input Part Fault Object Event Err : Type 0} → (Text → Text → Bool) → Text → Operation Text Input Part Fault → HeardOf Text Object Event Err → Bool
gives_whole same text op (Values rs) = gives_out same text op rs
gives_whole same text op _ = false
