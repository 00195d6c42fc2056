use Rattle.std.proofs.Common.{◌≡◌, take, false}
use Rattle.std.specs.BTreeMap.{get_by_text}
use Rattle.std.specs.Str.{bytes_eq}
use Rattle.ob_watching.specs.Tables.{is_among}
use Rattle.ob_watching.specs.WatchOuts.{Text}
use Rattle.ob_client.proofs.table.forget.Given as goal

abbrev pub invariant-loop-text : goal.invariant-loop-text
invariant-loop-text l = (text : Text) → is_among bytes_eq (take l.text-index l.texts) text ≡ false → get_by_text l.places text ≡ get_by_text l.fn.places text
