-- Steps that are counted from 1 again.
use Rattle.std.proofs.Common.{◌≡◌, ℕ, List, replicate, refl, sym, ap, ap₂, ◌∙◌, subst}
use Rattle.ob_object.specs.Object.{parts}
use Rattle.ob_history.specs.declared.records.Filter.{Filter}
use Rattle.ob_tree.specs.Trees.{Stamped}
use Rattle.ob_watching.specs.Watches.{WatchOf}
use Rattle.ob_site_watches.specs.Anew.{IsRenumbered}
use Rattle.ob_site_watches.specs.Items.{IsOwnNode}
use Rattle.ob_site_watches.specs.Known.{IsNumbered}
use Rattle.ob_site_watches.proofs.Keeping.{nodes_stay, numbers_stay, table_keeps}
use Rattle.ob_site_watches.proofs.Renumbering.{flags_stay_anew}
use Rattle.ob_site_laws.specs.SiteLaws.{IsSoundSite}
use Rattle.ob_site_rules.specs.Build.{Path, Text}
use Rattle.ob_site_rules.specs.Sites.{SiteState}
use Rattle.ob_site_settling.specs.Ending.{IsOwn}
use Rattle.ob_site_state.specs.Kept.{Kept}
use Rattle.ob_site_state.specs.Stamping.{tree_of}
use Rattle.ob_watch.specs.Items.{marked_anew}
use Rattle.ob_watch.specs.Tables.{Table, holding, with_all_items}
use Rattle.ob_site.specs.Between.{IsSite}
use Rattle.ob_site.specs.Views.{site_of}
use Rattle.ob_site.proofs.Marks.{long_same}

abbrev Watched : Type 0
Watched = WatchOf Text Path Filter

-- the state as its steps are counted from 1 again
abbrev pub recounted : Kept → Kept
recounted k = record k { stamps = replicate (parts k.now.tree) 1; steps = 1 }

abbrev pub remarked : Kept → Table → Table
remarked k t = holding (with_all_items (marked_anew (tree_of k)) t.watches) t

module _ (k : Kept) (t : Table) where
  anew_is : IsRenumbered (tree_of k) t.watches
  anew_is = flags_stay_anew k.plan (tree_of k) t.watches

  same_site : site_of (recounted k) (remarked k t) ≡ site_of k t
  same_site = ap (λ (ws : List (ℕ × Watched)). let st : SiteState = record { plan = k.plan; world = record { time = k.time; site = k.now; watches = ws; next = t.next } } in st) anew_is.flags

  still_site : IsSite k t → IsSite (recounted k) (remarked k t)
  still_site is = record {
    since = is.since;
    before = is.before;
    kept = record {
      made = is.kept.made;
      points = is.kept.points;
      shallow = is.kept.shallow;
      long = long_same (parts k.now.tree) 1;
      past = anew_is.stamps;
      own = (table_keeps (IsOwn k.now.tree)).changes (marked_anew (tree_of k)) (λ i own. (nodes_stay (IsOwnNode k.now.tree)).renumbers (tree_of k) i own) t.watches is.kept.own;
      marks = anew_is.marks;
      numbered = (table_keeps (IsNumbered k.plan)).changes (marked_anew (tree_of k)) (λ i numbered. numbers_stay.renumbers k.plan (tree_of k) i numbered) t.watches is.kept.numbered;
    };
    sound = subst IsSoundSite (sym same_site) is.sound;
  }

module _ (k n : Kept) (t u : Table) (tree : Stamped) (is : tree ≡ tree_of k) (all : u ≡ holding (with_all_items (marked_anew tree) t.watches) t) (next : n ≡ recounted k) where
  remarked_by : u ≡ remarked k t
  remarked_by = all ∙ ap (λ (x : Stamped). holding (with_all_items (marked_anew x) t.watches) t) is

  -- it is the same site
  pub same_in : site_of n u ≡ site_of k t
  same_in = ap₂ (λ (x : Kept) (y : Table). site_of x y) next remarked_by ∙ same_site k t

  pub site_in : IsSite k t → IsSite n u
  site_in site = subst (λ (x : Kept). IsSite x u) (sym next) (subst (λ (y : Table). IsSite (recounted k) y) (sym remarked_by) (still_site k t site))
