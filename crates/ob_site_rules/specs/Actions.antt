-- What a request does to the site itself: one action, or a batch of them. Source: oBIX 1.1, chapters 5 (Lobby: Batch) and 10
-- (Networking). What a batch leaves out is this profile's own.
use Rattle.std.specs.Prelude.{ℕ, Bool, true, false, cond, not, ◌==◌, nat_lt, codes, List, [], ◌∷◌, length, Option, Some, None, is_some, option_map}
use Rattle.std.specs.List.{list_any}
use Rattle.url.specs.Parts.{Parts}
use Rattle.ob_values.specs.declared.value.Value.TheVariants as value
use Rattle.ob_values.specs.declared.verb.Verb.{Verb}
use Rattle.ob_values.specs.declared.verb.Verb.TheVariants.{Get, Put, Post}
use Rattle.ob_object.specs.declared.kind.Kind.TheVariants as kind
use Rattle.ob_object.specs.declared.head.Slot.{Slot}
use Rattle.ob_object.specs.declared.head.Slot.TheVariants.{Is}
use Rattle.ob_object.specs.Kinds.{same_kind}
use Rattle.ob_object.specs.Object.{Object, children}
use Rattle.ob_contracts.specs.Inherit.{words_in}
use Rattle.ob_site_rules.specs.declared.request.Request.{Request}
use Rattle.ob_site_rules.specs.Build.{Text, Path, nameless, child}
use Rattle.ob_site_rules.specs.declared.fault.Fault.{Fault}
use Rattle.ob_site_rules.specs.declared.fault.Fault.TheVariants.{NoSuchObject, NotSupported, OtherShape, NotInBatch, TooManyBatchItems}
use Rattle.ob_site_rules.specs.Faults.{err, first_fault}
use Rattle.ob_site_rules.specs.declared.plan.Plan.{Plan}
use Rattle.ob_site_rules.specs.State.{State, at}
use Rattle.ob_site_rules.specs.Paths.{watch_part}
use Rattle.ob_site_rules.specs.Computed.{batch_out}
use Rattle.ob_site_rules.specs.declared.resource.Resource.{Resource}
use Rattle.ob_site_rules.specs.declared.resource.Resource.TheVariants.{Batch, Make, Node}
use Rattle.ob_site_rules.specs.Places.{place_at, object_at}
use Rattle.ob_site_rules.specs.Writes.{put}
use Rattle.ob_site_rules.specs.Posts.{call}

-- whether a verb is Invoke, which is a POST
abbrev pub is_post : Verb → Bool
is_post Post = true
is_post _ = false

-- only a node is put to
abbrev pub put_at : Plan → State → ℕ → Path → Resource → Option Object → State × Object
put_at plan s now p (Node o) body = put plan s now p o body
put_at plan s now p _ body = (s, err NotSupported)

-- one action at a place
abbrev pub act_at : Plan → State → ℕ → Path → Verb → Resource → Option Object → State × Object
act_at plan s now p Get place body = (s, object_at plan s now p place)
act_at plan s now p Put place body = put_at plan s now p place body
act_at plan s now p Post place body = call plan s now place body

-- the verb of a word
abbrev pub verb_of : Text → Option Verb
verb_of w = at w ((codes "obix:Read", Get) ∷ (codes "obix:Write", Put) ∷ (codes "obix:Invoke", Post) ∷ [])

-- the first verb among words
abbrev pub first_verb : List Text → Option Verb
first_verb [] = None
first_verb (w ∷ ws) = cond (is_some (verb_of w)) (verb_of w) (first_verb ws)

-- the text of a slot that is a uri
abbrev pub uri_in : Slot → Option Text
uri_in (Is (value.Uri t)) = Some t
uri_in _ = None

-- the text of a uri that has one
abbrev pub uri_of : Object → Option Text
uri_of o = cond (same_kind o.head.kind kind.Uri) (uri_in o.head.slot) None

-- an item of a batch as a request, if it is one
abbrev pub request_from : Option Verb → Option Text → Option Object → Option Request
request_from None text body = None
request_from (Some verb) None body = None
request_from (Some verb) (Some text) body = Some (record { verb = verb; target = text; body = body })

-- an item of a batch is a request where its `is` names a verb and it is a uri with a value; its child `in` is the body
abbrev pub item_request : Object → Option Request
item_request o = request_from (first_verb (words_in o.head.is)) (uri_of o) (option_map nameless (child (codes "in") o))

-- whether a number, if there is one, is among these
abbrev pub is_number_in : List ℕ → Option ℕ → Bool
is_number_in ns None = false
is_number_in ns (Some n) = list_any (λ k. k == n) ns

-- a path of a watch that stands
abbrev pub is_of_watch : Plan → List ℕ → Path → Bool
is_of_watch plan numbers p = is_number_in numbers (option_map (λ w. w.0) (watch_part plan p))

-- what a batch doesn't do
abbrev pub is_left_out : Resource → Bool
is_left_out Batch = true
is_left_out Make = true
is_left_out _ = false

-- an item of a batch at its place
abbrev pub item_at : Plan → State → List ℕ → ℕ → Request → Path → Option Resource → State × Object
item_at plan s numbers now r p None = (s, err (cond (is_of_watch plan numbers p) NotInBatch NoSuchObject))
item_at plan s numbers now r p (Some place) = cond (is_left_out place) (s, err NotInBatch) (act_at plan s now p r.verb place r.body)

-- an item of a batch at the path that its text leads to, if it leads to one
abbrev pub item_on : Plan → State → List ℕ → ℕ → Request → Option Path → State × Object
item_on plan s numbers now r None = (s, err NoSuchObject)
item_on plan s numbers now r (Some p) = item_at plan s numbers now r p (place_at plan s p)

-- `locate` is the path that a text leads to from the root's URL, if it leads to one
module _ (locate : Parts → Text → Option Path) where
  -- an item of a batch that is a request is done, and another is refused for its shape
  abbrev pub act_item : Plan → State → List ℕ → ℕ → Option Request → State × Object
  act_item plan s numbers now None = (s, err OtherShape)
  act_item plan s numbers now (Some r) = item_on plan s numbers now r (locate plan.base r.target)

  -- the items in order, each seeing the ones before
  abbrev pub act_all : Plan → State → List ℕ → ℕ → List Object → State × List Object
  act_all plan s numbers now [] = (s, [])
  act_all plan s numbers now (o ∷ os) =
      let one : State × Object = act_item plan s numbers now (item_request o) in
      let rest : State × List Object = act_all plan one.0 numbers now os in
      (rest.0, one.1 ∷ rest.1)

  -- what is wrong with the body of a batch, in order: it is no list, or has more than 1,000 items
  abbrev pub batch_rows : Object → List (Bool × Fault)
  batch_rows body =
      (not (same_kind body.head.kind kind.List), OtherShape)
      ∷ (nat_lt 1000 (length (children body)), TooManyBatchItems)
      ∷ []

  -- a batch that is refused does nothing, and another is done item by item
  abbrev pub batch_or : Option Fault → Plan → State → List ℕ → ℕ → Object → State × Object
  batch_or (Some fault) plan s numbers now body = (s, err fault)
  batch_or None plan s numbers now body =
      let all : State × List Object = act_all plan s numbers now (children body) in
      (all.0, batch_out all.1)

  -- Invoke of the op `batch` with a body, if there is one
  abbrev pub batch : Plan → State → List ℕ → ℕ → Option Object → State × Object
  batch plan s numbers now None = (s, err OtherShape)
  batch plan s numbers now (Some body) = batch_or (first_fault (batch_rows body)) plan s numbers now body

  -- a batch is done as a whole, and every other request is one action
  abbrev pub act_on : Plan → State → List ℕ → ℕ → Request → Path → Option Resource → State × Object
  act_on plan s numbers now r p None = (s, err NoSuchObject)
  act_on plan s numbers now r p (Some Batch) =
      cond (is_post r.verb) (batch plan s numbers now r.body) (act_at plan s now p r.verb Batch r.body)
  act_on plan s numbers now r p (Some place) = act_at plan s now p r.verb place r.body

  -- what a request leaves of the site, and the reply
  abbrev pub act_located : Plan → State → List ℕ → ℕ → Request → Option Path → State × Object
  act_located plan s numbers now r None = (s, err NoSuchObject)
  act_located plan s numbers now r (Some p) = act_on plan s numbers now r p (place_at plan s p)

  -- what a request to the site leaves, and its reply, by the path that the request's text leads to
  abbrev pub act_itself : Plan → State → List ℕ → Request → ℕ → State × Object
  act_itself plan s numbers r now = act_located plan s numbers now r (locate plan.base r.target)
