-- What a RECORD says of a site.
use Rattle.std.specs.Prelude.{◌≡◌, ℕ, List}
use Rattle.ob_record.specs.Legal.{IsLegalRun, after_entries}
use Rattle.ob_record.specs.declared.run.Entry.{Entry}
use Rattle.ob_record_journal.specs.Saying.{SaysRun}
use Rattle.ob_site_rules.specs.Sites.{SiteState}
use Rattle.ob_kept.specs.Redone.{redone}

-- From the state that was opened at this moment the file leads to this one: each entry that it says has what is kept of the
-- reply, and this is what they leave, done again one after the other.
pub record LeadsTo (boot : ℕ) (opening : SiteState) (file : List ℕ) (left : SiteState) : Type 0 where
  pub entries : List Entry
  pub says : SaysRun file boot entries
  pub legal : IsLegalRun redone opening entries
  pub left_is : left ≡ after_entries redone opening entries
