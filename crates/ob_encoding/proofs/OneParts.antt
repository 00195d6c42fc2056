-- An attribute says one thing, where bytes are read in one way.
use Rattle.std.proofs.Common.{◌≡◌, ℕ, ℤ, Bool, List, Result, Ok, Err, refl, sym, ap, ◌∙◌}
use Rattle.ob_values.specs.Faults.{ValueFault}
use Rattle.ob_values.specs.Times.{Date, Instant, Span, ReadsDate, ReadsTime, ReadsAbstime, ReadsReltime}
use Rattle.ob_values.specs.Readers.{ReadsBool, ReadsInt, ReadsDec}
use Rattle.ob_values.specs.declared.value.Value.{Value}
use Rattle.ob_object.specs.declared.kind.Kind.{Kind}
use Rattle.ob_object.specs.declared.kind.Kind.TheVariants as kind
use Rattle.ob_encoding.specs.declared.field.Field.{Field}
use Rattle.ob_encoding.specs.declared.field.Field.TheVariants as field
use Rattle.ob_encoding.specs.declared.field.ValueField.TheVariants as reads
use Rattle.ob_encoding.specs.declared.part.Part.{Part}
use Rattle.ob_encoding.specs.Parts.{read_as, ReadAs, ReadsValue, ReadsLimit, ReadsPart}

pub record Laws : Type 0 where
  pub bools : (bytes : List ℕ) (a b : Result Bool ValueFault) → ReadsBool bytes a → ReadsBool bytes b → a ≡ b
  pub ints : (bytes : List ℕ) (a b : Result ℤ ValueFault) → ReadsInt bytes a → ReadsInt bytes b → a ≡ b
  pub decs : (bytes : List ℕ) (a b : Result ℤ ValueFault) → ReadsDec bytes a → ReadsDec bytes b → a ≡ b
  pub dates : (bytes : List ℕ) (a b : Result Date ValueFault) → ReadsDate bytes a → ReadsDate bytes b → a ≡ b
  pub times : (bytes : List ℕ) (a b : Result ℕ ValueFault) → ReadsTime bytes a → ReadsTime bytes b → a ≡ b
  pub abstimes : (bytes : List ℕ) (a b : Result Instant ValueFault) → ReadsAbstime bytes a → ReadsAbstime bytes b → a ≡ b
  pub reltimes : (bytes : List ℕ) (a b : Result Span ValueFault) → ReadsReltime bytes a → ReadsReltime bytes b → a ≡ b

through : {A B : Type 0} (view : A → B) (Reads : Result A ValueFault → Type 0) → ((x y : Result A ValueFault) → Reads x → Reads y → x ≡ y)
    → (a b : Result B ValueFault) → ReadAs view Reads a → ReadAs view Reads b → a ≡ b
through {A} {B} view Reads one a b p q = p.2 ∙ ap (λ (r : Result A ValueFault). read_as view r) (one p.0 q.0 p.1 q.1) ∙ sym q.2

one_value : Laws → (k : Kind) (t : List ℕ) (a b : Result Value ValueFault) → ReadsValue k t a → ReadsValue k t b → a ≡ b
one_value l kind.Bool t a b p q = through _ (ReadsBool t) (l.bools t) a b p q
one_value l kind.Int t a b p q = through _ (ReadsInt t) (l.ints t) a b p q
one_value l kind.Real t a b p q = through _ (ReadsDec t) (l.decs t) a b p q
one_value l kind.Str t a b p q = p ∙ sym q
one_value l kind.Enum t a b p q = p ∙ sym q
one_value l kind.Uri t a b p q = p ∙ sym q
one_value l kind.Abstime t a b p q = through _ (ReadsAbstime t) (l.abstimes t) a b p q
one_value l kind.Reltime t a b p q = through _ (ReadsReltime t) (l.reltimes t) a b p q
one_value l kind.Date t a b p q = through _ (ReadsDate t) (l.dates t) a b p q
one_value l kind.Time t a b p q = through _ (ReadsTime t) (l.times t) a b p q
one_value l kind.Obj t a b p q = absurd p
one_value l kind.List t a b p q = absurd p
one_value l kind.Op t a b p q = absurd p
one_value l kind.Feed t a b p q = absurd p
one_value l kind.Ref t a b p q = absurd p
one_value l kind.Err t a b p q = absurd p

one_limit : Laws → (k : Kind) (t : List ℕ) (a b : Result Value ValueFault) → ReadsLimit k t a → ReadsLimit k t b → a ≡ b
one_limit l kind.Str t a b p q = through _ (ReadsInt t) (l.ints t) a b p q
one_limit l kind.List t a b p q = through _ (ReadsInt t) (l.ints t) a b p q
one_limit l kind.Bool t a b p q = one_value l kind.Bool t a b p q
one_limit l kind.Int t a b p q = one_value l kind.Int t a b p q
one_limit l kind.Real t a b p q = one_value l kind.Real t a b p q
one_limit l kind.Enum t a b p q = one_value l kind.Enum t a b p q
one_limit l kind.Uri t a b p q = one_value l kind.Uri t a b p q
one_limit l kind.Abstime t a b p q = one_value l kind.Abstime t a b p q
one_limit l kind.Reltime t a b p q = one_value l kind.Reltime t a b p q
one_limit l kind.Date t a b p q = one_value l kind.Date t a b p q
one_limit l kind.Time t a b p q = one_value l kind.Time t a b p q
one_limit l kind.Obj t a b p q = absurd p
one_limit l kind.Op t a b p q = absurd p
one_limit l kind.Feed t a b p q = absurd p
one_limit l kind.Ref t a b p q = absurd p
one_limit l kind.Err t a b p q = absurd p

pub one_part : Laws → (k : Kind) (f : Field) (t : List ℕ) (a b : Result Part ValueFault) → ReadsPart k f t a → ReadsPart k f t b → a ≡ b
one_part l k (field.Text f) t a b p q = p ∙ sym q
one_part l k (field.Words f) t a b p q = p ∙ sym q
one_part l k (field.Value reads.Null) t a b p q = through _ (ReadsBool t) (l.bools t) a b p q
one_part l k (field.Value reads.Val) t a b p q = through _ (ReadsValue k t) (one_value l k t) a b p q
one_part l k (field.Value reads.Max) t a b p q = through _ (ReadsLimit k t) (one_limit l k t) a b p q
one_part l k (field.Value reads.Min) t a b p q = through _ (ReadsLimit k t) (one_limit l k t) a b p q
one_part l k (field.Value reads.Precision) t a b p q = through _ (ReadsInt t) (l.ints t) a b p q
one_part l k (field.Value reads.Status) t a b p q = p ∙ sym q
one_part l k (field.Value reads.Writable) t a b p q = through _ (ReadsBool t) (l.bools t) a b p q
