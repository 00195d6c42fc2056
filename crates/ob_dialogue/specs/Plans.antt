-- What a client is to do. Source: oBIX 1.1, chapters 11 (REST) and 12 (Watches).
-- what is watched; the URL of a lobby, how often it is polled, and how many broken polls are mended
pub use Rattle.ob_dialogue.specs.declared.plan.Topic.{Topic}
pub use Rattle.ob_dialogue.specs.declared.plan.DialoguePlan.{DialoguePlan}
-- where its requests go
pub use Rattle.ob_asking.specs.declared.place.Place.{Place}
pub use Rattle.ob_asking.specs.declared.request.Request.{Request}
pub use Rattle.ob_asking.specs.Places.{place_at, child_place, host_of, port_in, host_field}
