-- What is made of names and contracts fits its kind.
use Rattle.std.proofs.Common.{◌≡◌, ℕ, true, List, refl}
use Rattle.std.specs.Prelude.{Option, Some, None}
use Rattle.ob_times.specs.Times.{Instant}
use Rattle.ob_values.specs.XmlText.{is_printable}
use Rattle.ob_values.proofs.Bools.{and_first, and_second}
use Rattle.ob_object.specs.declared.kind.Kind.{Kind}
use Rattle.ob_object.specs.declared.kind.Kind.TheVariants as kind
use Rattle.ob_object.specs.declared.head.Slot.{Slot}
use Rattle.ob_object.specs.Fits.{fits_head, fits_slot, fits_name}
use Rattle.ob_object.specs.Words.{is_word}
use Rattle.ob_site_rules.specs.Build.{valued, word, time_slot, ref_to, op_at, feed_at}
use Rattle.ob_replies.specs.declared.contract.Contract.{Contract}
use Rattle.ob_replies.specs.declared.contract.Contract.TheVariants as named
use Rattle.ob_replies.specs.ContractWords.{contract}
use Rattle.ob_replies.specs.Names.{is_name}

pub contract_printable : (c : Contract) → is_printable (contract c) ≡ true
contract_printable named.Nil = refl
contract_printable named.About = refl
contract_printable named.BatchIn = refl
contract_printable named.BatchOut = refl
contract_printable named.BadUriErr = refl
contract_printable named.UnsupportedErr = refl
contract_printable named.PermissionErr = refl
contract_printable named.WatchService = refl
contract_printable named.Watch = refl
contract_printable named.WatchIn = refl
contract_printable named.WatchOut = refl
contract_printable named.Point = refl
contract_printable named.WritePointIn = refl
contract_printable named.HistoryRecord = refl
contract_printable named.HistoryFilter = refl
contract_printable named.HistoryQueryOut = refl
contract_printable named.Alarm = refl
contract_printable named.AlarmFilter = refl
contract_printable named.AlarmQueryOut = refl
contract_printable named.AckAlarmIn = refl
contract_printable named.AckAlarmOut = refl

pub contract_word : (c : Contract) → is_word (contract c) ≡ true
contract_word named.Nil = refl
contract_word named.About = refl
contract_word named.BatchIn = refl
contract_word named.BatchOut = refl
contract_word named.BadUriErr = refl
contract_word named.UnsupportedErr = refl
contract_word named.PermissionErr = refl
contract_word named.WatchService = refl
contract_word named.Watch = refl
contract_word named.WatchIn = refl
contract_word named.WatchOut = refl
contract_word named.Point = refl
contract_word named.WritePointIn = refl
contract_word named.HistoryRecord = refl
contract_word named.HistoryFilter = refl
contract_word named.HistoryQueryOut = refl
contract_word named.Alarm = refl
contract_word named.AlarmFilter = refl
contract_word named.AlarmQueryOut = refl
contract_word named.AckAlarmIn = refl
contract_word named.AckAlarmOut = refl

pub name_printable : (n : List ℕ) → is_name n ≡ true → is_printable n ≡ true
name_printable n h = and_first _ _ h

pub name_fits : (n : List ℕ) → is_name n ≡ true → fits_name (Some n) ≡ true
name_fits n h = and_second (is_printable n) _ h

pub valued_fits : (k : Kind) (n : List ℕ) (s : Slot) → is_name n ≡ true → fits_slot k s ≡ true → fits_head (valued k n s).head ≡ true
valued_fits k n s h i = rw (name_fits n h, i) refl

pub time_fits : (t : Option Instant) → fits_slot kind.Abstime (time_slot t) ≡ true
time_fits None = refl
time_fits (Some t) = refl

pub ref_fits : (n p : List ℕ) (c : Contract) → is_name n ≡ true → fits_head (ref_to n p (word (contract c))).head ≡ true
ref_fits n p c h = rw (name_fits n h, contract_word c) refl

pub op_fits : (n p : List ℕ) (a b : Contract) → is_name n ≡ true → fits_head (op_at n p (contract a) (contract b)).head ≡ true
op_fits n p a b h = rw (name_fits n h, contract_word a, contract_word b) refl

pub feed_fits : (n p : List ℕ) (a b : Contract) → is_name n ≡ true → fits_head (feed_at n p (contract a) (contract b)).head ≡ true
feed_fits n p a b h = rw (name_fits n h, contract_word a, contract_word b) refl
