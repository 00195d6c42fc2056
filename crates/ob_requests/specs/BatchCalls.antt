-- Calls: what an acknowledgement asks with, which calls are batches, and which requests may be.
use Rattle.std.specs.Prelude.{Bool, false, ◌&&◌, codes, Option, Some, None}
use Rattle.ob_values.specs.declared.verb.Verb.{Verb}
use Rattle.ob_object.specs.declared.kind.Kind.TheVariants as kind
use Rattle.ob_object.specs.Kinds.{same_kind}
use Rattle.ob_object.specs.Object.{Object}
use Rattle.ob_site_rules.specs.Build.{child}
use Rattle.ob_site_rules.specs.declared.request.Request.{Request}
use Rattle.ob_site_rules.specs.declared.resource.Resource.{Resource}
use Rattle.ob_site_rules.specs.declared.resource.Resource.TheVariants.{Batch}
use Rattle.ob_site_rules.specs.Posts.{is_obj, is_of_kind}
use Rattle.ob_site_rules.specs.Actions.{is_post}

-- an obj whose user, if it has one, is a str
abbrev pub is_ack_in : Object → Bool
is_ack_in input = is_obj input && is_of_kind kind.Str (child (codes "ackUser") input)

-- the call of the op that does batches
abbrev pub is_batch_call : Resource → Verb → Bool
is_batch_call Batch verb = is_post verb
is_batch_call _ verb = false

-- whether there is a list
abbrev pub is_list : Option Object → Bool
is_list None = false
is_list (Some o) = same_kind o.head.kind kind.List

-- a list is posted, as a batch is
abbrev pub posts_list : Request → Bool
posts_list r = is_post r.verb && is_list r.body
