-- The whole site is lawful, so that the laws of watches hold of it.
use Rattle.std.proofs.Common.{Option, refl}
use Rattle.std.proofs.lemmas.Slice.Eq.{bytes_eq-Decides}
use Rattle.url.specs.Parts.{Parts}
use Rattle.ob_watching.specs.Sites.{IsLawful}
use Rattle.ob_site_rules.specs.Build.{Text, Path}
use Rattle.ob_site_rules.specs.declared.plan.Plan.{Plan}
use Rattle.ob_site_rules.specs.State.{at}
use Rattle.ob_site_rules.specs.Places.{event_places}
use Rattle.ob_site_rules.specs.Sites.{site}
use Rattle.ob_site_laws.proofs.Same.{object_decides}
use Rattle.ob_site_laws.proofs.Growth.{grows, counts}
use Rattle.ob_site_laws.proofs.Rolling.{rolls, rolls_once}
use Rattle.ob_site_laws.proofs.Nameless.{all_nameless}
use Rattle.ob_site_laws.proofs.Heard.{IsEvent, IsReadable, is_changes, heard_out, heard_nil, heard_refused}
use Rattle.ob_site_laws.proofs.Told.{told, told_refused}
use Rattle.ob_site_laws.proofs.Plain.{watched_plain}

module _ (locate : Parts → Text → Option Path) (plan : Plan) where
  pub lawful : IsLawful (site locate plan)
  lawful = record {
    same_text = bytes_eq-Decides;
    same = object_decides;
    Readable = λ op r. IsReadable (is_changes op) r.content;
    heard_out = heard_out plan;
    readable_object = λ op s text p. watched_plain plan s p;
    IsEvent = λ o. IsEvent o;
    events_are = λ s p. all_nameless plan s (at p (event_places plan));
    readable_events = λ op text path events h. ((_, refl), h, λ _. refl);
    readable_changes = λ text path dropped events h. ((_, refl), h, λ other. absurd (cc other));
    readable_fault = λ op fault text. (fault, refl);
    heard_nil = heard_nil plan;
    heard_refused = heard_refused plan;
    told = told plan;
    told_refused = told_refused plan;
    grows = grows locate plan;
    counts = counts locate plan;
    rolls = rolls locate plan;
    rolls_once = rolls_once;
  }
