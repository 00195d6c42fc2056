-- How what is held is shown, as an entry again: under its href, a feed with its events as children, and before them the
-- number missed, if it isn't 0.
use Rattle.std.specs.Prelude.{refl, ◌≡◌, ℕ, zero, suc, pos, codes, List, [], ◌∷◌, ◌++◌, Some}
use Rattle.std.specs.Coded.{Coded, code_by, coded×, coded_list, coded_ℕ}
use Rattle.ob_values.specs.declared.value.Value.TheVariants as value
use Rattle.ob_object.specs.declared.kind.Kind.TheVariants as kind
use Rattle.ob_object.specs.declared.head.Slot.TheVariants.{Is}
use Rattle.ob_object.specs.Object.{Object, none, empty_head, in_row}
use Rattle.ob_watching.specs.Operations.{ContentOf, Shows, Lists, Refuses}
use Rattle.ob_watching.specs.WatchOuts.{Text, Held}

abbrev pub Content : Type 0
Content = ContentOf Object Object Object

abbrev pub with_href : Text → Object → Object
with_href text o = record { head = record o.head { href = Some text }; inner = o.inner }

-- the child that tells how many events were missed
abbrev pub dropped_object : ℕ → Object
dropped_object n = record { head = record (empty_head kind.Int) { name = Some (codes "dropped"); slot = Is (value.Int (pos n)) }; inner = none }

-- nothing where none was missed
abbrev pub dropped_child : ℕ → List Object
dropped_child zero = []
dropped_child (suc n) = dropped_object (suc n) ∷ []

abbrev pub shown_content : Text → Content → Object
shown_content text (Shows o) = with_href text o
shown_content text (Lists feed missed events) = record { head = record feed.head { href = Some text }; inner = in_row (dropped_child missed ++ events) }
shown_content text (Refuses o) = with_href text o

abbrev pub shown : Held → Object
shown h = shown_content h.text h.content

-- ---- how a proof tells what is held apart, given the same for objects

-- which of the three, the number missed, the object, the events
abbrev pub Parts : Type 0
Parts = ℕ × (ℕ × (Object × List Object))

abbrev pub parts : Content → Parts
parts (Shows o) = (0, (0, (o, [])))
parts (Lists feed missed events) = (1, (missed, (feed, events)))
parts (Refuses o) = (2, (0, (o, [])))

abbrev pub of_parts : ℕ → ℕ → Object → List Object → Content
of_parts zero n o events = Shows o
of_parts (suc zero) n o events = Lists o n events
of_parts (suc (suc k)) n o events = Refuses o

pub of_parts-parts : (c : Content) → of_parts (parts c).0 (parts c).1.0 (parts c).1.1.0 (parts c).1.1.1 ≡ c
of_parts-parts (Shows o) = refl
of_parts-parts (Lists feed missed events) = refl
of_parts-parts (Refuses o) = refl

abbrev pub content_code : Coded Object → Coded Content
content_code object = code_by Parts (coded× coded_ℕ (coded× coded_ℕ (coded× object (coded_list object)))) parts (λ p. of_parts p.0 p.1.0 p.1.1.0 p.1.1.1) of_parts-parts

abbrev pub held_code : Coded Object → Coded Held
held_code object = code_by (Text × Content) (coded× (coded_list coded_ℕ) (content_code object)) (λ h. (h.text, h.content)) (λ p. record { text = p.0; content = p.1 }) (λ _. refl)
