-- A site whose watches are dropped.
use Rattle.std.proofs.Common.{◌≡◌, ℕ, ◌+◌, ◌≤◌, max, [], sym, subst, arith}
use Rattle.ob_watching.specs.Watches.{last_number}
use Rattle.ob_site_state.specs.Kept.{Kept}
use Rattle.ob_watch.specs.Tables.{Table}
use Rattle.ob_site.specs.Between.{IsSite}

-- it is a site: no watch owes anything, and the next number is one that a watch may have
bare_site : (k : Kept) (t : Table) (below : ℕ) → below ≤ last_number + 1 → IsSite k t → IsSite k (record { watches = []; next = max t.next below })
bare_site k t below le is = record {
  since = is.since;
  before = is.before;
  kept = record {
    made = is.kept.made;
    points = is.kept.points;
    shallow = is.kept.shallow;
    long = is.kept.long;
    past = is.kept.past;
    own = tt;
    marks = tt;
    numbered = tt;
  };
  sound = record {
    of_watches = record { numbers = omega arith; next = omega (arith, le, is.sound.of_watches.next); texts = tt; rolled = is.sound.of_watches.rolled };
    of_alarms = is.sound.of_alarms;
  };
}

pub restarted_site : (k : Kept) (t u : Table) (below : ℕ) → below ≤ last_number + 1 → u ≡ record { watches = []; next = max t.next below } → IsSite k t → IsSite k u
restarted_site k t u below le e is = subst (λ (x : Table). IsSite k x) (sym e) (bare_site k t below le is)
