-- Values and statuses are read as they were written.
use Rattle.std.proofs.Common.{◌≡◌, true, Ok, refl}
use Rattle.ob_values.specs.declared.value.Value.{Value}
use Rattle.ob_values.specs.declared.value.Value.TheVariants as value
use Rattle.ob_values.specs.Spelled.{printed, SpellsValue}
use Rattle.ob_object.specs.declared.kind.Kind.{Kind}
use Rattle.ob_object.specs.declared.kind.Kind.TheVariants as kind
use Rattle.ob_object.specs.declared.status.Status.{Status}
use Rattle.ob_object.specs.declared.status.Status.TheVariants as status
use Rattle.ob_object.specs.Fits.{fits_value, fits_limit}
use Rattle.ob_object.specs.Kinds.{has_values}
use Rattle.ob_encoding.specs.Names.{status_word}
use Rattle.ob_encoding.specs.Fields.{has_limit}
use Rattle.ob_encoding.specs.Parts.{ReadsValue, ReadsLimit}
use Rattle.ob_encoding.specs.Statuses.{status_read}

pub value_read : (k : Kind) (v : Value) → fits_value k v ≡ true → SpellsValue (printed v) v → ReadsValue k (printed v) (Ok v)
value_read kind.Bool (value.Bool b) e s = (Ok b, s, refl)
value_read kind.Int (value.Int z) e s = (Ok z, s, refl)
value_read kind.Real (value.Real z) e s = (Ok z, s, refl)
value_read kind.Str (value.Str t) e s = refl
value_read kind.Enum (value.Enum t) e s = refl
value_read kind.Uri (value.Uri t) e s = refl
value_read kind.Abstime (value.Abstime a) e s = (Ok a, s, refl)
value_read kind.Reltime (value.Reltime r) e s = (Ok r, s, refl)
value_read kind.Date (value.Date d) e s = (Ok d, s, refl)
value_read kind.Time (value.Time n) e s = (Ok n, s, refl)
value_read k (value.Bool b) e s = absurd cc
value_read k (value.Int z) e s = absurd cc
value_read k (value.Real z) e s = absurd cc
value_read k (value.Str t) e s = absurd cc
value_read k (value.Enum t) e s = absurd cc
value_read k (value.Uri t) e s = absurd cc
value_read k (value.Abstime a) e s = absurd cc
value_read k (value.Reltime r) e s = absurd cc
value_read k (value.Date d) e s = absurd cc
value_read k (value.Time n) e s = absurd cc

pub has_value_of : (k : Kind) (v : Value) → fits_value k v ≡ true → has_values k ≡ true
has_value_of kind.Bool v e = refl
has_value_of kind.Int v e = refl
has_value_of kind.Real v e = refl
has_value_of kind.Str v e = refl
has_value_of kind.Enum v e = refl
has_value_of kind.Uri v e = refl
has_value_of kind.Abstime v e = refl
has_value_of kind.Reltime v e = refl
has_value_of kind.Date v e = refl
has_value_of kind.Time v e = refl
has_value_of k (value.Bool b) e = absurd cc
has_value_of k (value.Int b) e = absurd cc
has_value_of k (value.Real b) e = absurd cc
has_value_of k (value.Str b) e = absurd cc
has_value_of k (value.Enum b) e = absurd cc
has_value_of k (value.Uri b) e = absurd cc
has_value_of k (value.Abstime b) e = absurd cc
has_value_of k (value.Reltime b) e = absurd cc
has_value_of k (value.Date b) e = absurd cc
has_value_of k (value.Time b) e = absurd cc

pub limit_read : (k : Kind) (v : Value) → fits_limit k v ≡ true → SpellsValue (printed v) v → ReadsLimit k (printed v) (Ok v)
limit_read kind.Int (value.Int z) e s = (Ok z, s, refl)
limit_read kind.Real (value.Real z) e s = (Ok z, s, refl)
limit_read kind.Abstime (value.Abstime a) e s = (Ok a, s, refl)
limit_read kind.Reltime (value.Reltime r) e s = (Ok r, s, refl)
limit_read kind.Date (value.Date d) e s = (Ok d, s, refl)
limit_read kind.Time (value.Time n) e s = (Ok n, s, refl)
limit_read kind.Str (value.Int z) e s = (Ok z, s, refl)
limit_read kind.List (value.Int z) e s = (Ok z, s, refl)
limit_read k v e s = absurd cc

pub has_limit_of : (k : Kind) (v : Value) → fits_limit k v ≡ true → has_limit k ≡ true
has_limit_of kind.Int v e = refl
has_limit_of kind.Real v e = refl
has_limit_of kind.Abstime v e = refl
has_limit_of kind.Reltime v e = refl
has_limit_of kind.Date v e = refl
has_limit_of kind.Time v e = refl
has_limit_of kind.Str v e = refl
has_limit_of kind.List v e = refl
has_limit_of k v e = absurd cc

pub status_back : (s : Status) → status_read (status_word s) ≡ Ok s
status_back status.Disabled = refl
status_back status.Fault = refl
status_back status.Down = refl
status_back status.UnackedAlarm = refl
status_back status.Alarm = refl
status_back status.Unacked = refl
status_back status.Overridden = refl
status_back status.Ok = refl
