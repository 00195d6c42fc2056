-- What a step of a site that is kept adds to the file of its record.
use Rattle.std.specs.Prelude.{ℕ, Bool, true, false, cond, ◌&&◌, nat_eq, nat_lt, Option, Some, None}
use base.Stored.{Gv, gnil, gnum, gcons}
use Rattle.ob_record.specs.declared.run.Entry.{Entry}
use Rattle.ob_site_laws.specs.SiteLaws.{acts}
use Rattle.ob_site_rules.specs.declared.request.Request.{Request}
use Rattle.ob_site_rules.specs.Sites.{SiteState}
use Rattle.ob_site_rules.specs.State.{State}
use Rattle.ob_site_state.specs.Codes.{state_code}
use Rattle.ob_kept.specs.Recording.{entry_of, numbers_entry}
use Rattle.ob_kept.specs.Redone.{more_numbers}

-- whether two forms in which a proof stores values are one
abbrev pub is_same_form : Gv → Gv → Bool
is_same_form gnil gnil = true
is_same_form gnil (gnum n) = false
is_same_form gnil (gcons a b) = false
is_same_form (gnum m) gnil = false
is_same_form (gnum m) (gnum n) = nat_eq m n
is_same_form (gnum m) (gcons a b) = false
is_same_form (gcons a b) gnil = false
is_same_form (gcons a b) (gnum n) = false
is_same_form (gcons a b) (gcons c d) = is_same_form a c && is_same_form b d

-- whether two sites are one: tree, library, logs, alarms and events
abbrev pub is_same_site : State → State → Bool
is_same_site a b = is_same_form (state_code.code a) (state_code.code b)

-- an entry more, and the first number of a watch that can't have been given, by what the record says behind it
pub record Addition : Type 0 where
  pub entry : Entry
  pub next : ℕ

-- What is added before a request at a moment counts, where this is the first number that can't have been given: the request, where
-- it leaves another site; or else numbers of watches, where it gives one from there on. Most requests add nothing.
abbrev pub addition : SiteState → (next : ℕ) → Request → ℕ → Option Addition
addition st next r moment =
    let left = (acts st r moment).0.world in
    cond (is_same_site left.site st.world.site)
    (cond (nat_lt next left.next) (Some (record { entry = numbers_entry left.time; next = more_numbers next })) None)
    (Some (record { entry = entry_of r left.time (acts st r moment).1; next = next }))
