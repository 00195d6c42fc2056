-- A reader has one answer.
use Rattle.std.proofs.Common.{◌≡◌, List, ℕ, Result, Ok, Err, ap, sym, ◌∙◌, subst, inl, inr}
use Rattle.ob_spelling.specs.declared.fault.ValueFault.{ValueFault}
use Rattle.ob_spelling.specs.Reads.{Reads, ReadsAs, ReadsWord}

pub reads_as_one : {F V : Type 0} (Writes Fits : F → Type 0) (Names : F → V → Type 0) (malformed outside : ValueFault)
    → ((f g : F) → Writes f → Writes g → f ≡ g) → ((f : F) (v w : V) → Names f v → Names f w → v ≡ w)
    → (r s : Result V ValueFault) → ReadsAs Writes Fits Names malformed outside r → ReadsAs Writes Fits Names malformed outside s → r ≡ s
reads_as_one {F} {V} Writes Fits Names malformed outside one named (Ok v) (Ok w) x y =
    ap (λ (i : V). Ok i) (named y.0 v w (subst (λ (g : F). Names g v) (one x.0 y.0 x.1 y.1) x.3) y.3)
reads_as_one Writes Fits Names malformed outside one named (Ok v) (Err fault) x (inl none) = absurd (none.1 x.0 x.1)
reads_as_one Writes Fits Names malformed outside one named (Ok v) (Err fault) x (inr far) = absurd (far.1.2 (subst Fits (one x.0 far.1.0 x.1 far.1.1) x.2))
reads_as_one Writes Fits Names malformed outside one named (Err fault) (Ok w) (inl none) y = absurd (none.1 y.0 y.1)
reads_as_one Writes Fits Names malformed outside one named (Err fault) (Ok w) (inr far) y = absurd (far.1.2 (subst Fits (one y.0 far.1.0 y.1 far.1.1) y.2))
reads_as_one Writes Fits Names malformed outside one named (Err e) (Err f) (inl a) (inl b) = ap (λ (i : ValueFault). Err i) (a.0 ∙ sym b.0)
reads_as_one Writes Fits Names malformed outside one named (Err e) (Err f) (inl a) (inr b) = absurd (a.1 b.1.0 b.1.1)
reads_as_one Writes Fits Names malformed outside one named (Err e) (Err f) (inr a) (inl b) = absurd (b.1 a.1.0 a.1.1)
reads_as_one Writes Fits Names malformed outside one named (Err e) (Err f) (inr a) (inr b) = ap (λ (i : ValueFault). Err i) (a.0 ∙ sym b.0)

pub reads_one : {V : Type 0} (Spells : List ℕ → V → Type 0) (Fits : V → Type 0) (malformed outside : ValueFault) (text : List ℕ)
    → ((v w : V) → Spells text v → Spells text w → v ≡ w)
    → (r s : Result V ValueFault) → Reads Spells Fits malformed outside text r → Reads Spells Fits malformed outside text s → r ≡ s
reads_one {V} Spells Fits malformed outside text one (Ok v) (Ok w) x y = ap (λ (i : V). Ok i) (one v w x.0 y.0)
reads_one Spells Fits malformed outside text one (Ok v) (Err fault) x (inl none) = absurd (none.1 v x.0)
reads_one Spells Fits malformed outside text one (Ok v) (Err fault) x (inr far) = absurd (far.1.2 (subst Fits (one v far.1.0 x.0 far.1.1) x.1))
reads_one Spells Fits malformed outside text one (Err fault) (Ok w) (inl none) y = absurd (none.1 w y.0)
reads_one Spells Fits malformed outside text one (Err fault) (Ok w) (inr far) y = absurd (far.1.2 (subst Fits (one w far.1.0 y.0 far.1.1) y.1))
reads_one Spells Fits malformed outside text one (Err e) (Err f) (inl a) (inl b) = ap (λ (i : ValueFault). Err i) (a.0 ∙ sym b.0)
reads_one Spells Fits malformed outside text one (Err e) (Err f) (inl a) (inr b) = absurd (a.1 b.1.0 b.1.1)
reads_one Spells Fits malformed outside text one (Err e) (Err f) (inr a) (inl b) = absurd (b.1 a.1.0 a.1.1)
reads_one Spells Fits malformed outside text one (Err e) (Err f) (inr a) (inr b) = ap (λ (i : ValueFault). Err i) (a.0 ∙ sym b.0)

pub reads_word_one : {V : Type 0} (Spells : V → Type 0) (malformed : ValueFault) → ((v w : V) → Spells v → Spells w → v ≡ w)
    → (r s : Result V ValueFault) → ReadsWord Spells malformed r → ReadsWord Spells malformed s → r ≡ s
reads_word_one {V} Spells malformed one (Ok v) (Ok w) x y = ap (λ (i : V). Ok i) (one v w x y)
reads_word_one Spells malformed one (Ok v) (Err fault) x y = absurd (y.1 v x)
reads_word_one Spells malformed one (Err fault) (Ok w) x y = absurd (x.1 w y)
reads_word_one Spells malformed one (Err e) (Err f) x y = ap (λ (i : ValueFault). Err i) (x.0 ∙ sym y.0)
