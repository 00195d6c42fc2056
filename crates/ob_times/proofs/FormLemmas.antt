-- A text has the form of one date and of one time of day at most.
use Rattle.std.proofs.Common.{◌≡◌, ℕ, ◌-◌, ◌*◌, ◌/◌, ◌%◌, ◌^◌, List, [], ◌∷◌, length, ap, sym, ◌∙◌, subst, arith, inl, inr}
use Rattle.ob_spelling.specs.Numeral.{number}
use Rattle.ob_spelling.proofs.PairLemmas.{one_pair}
use Rattle.ob_times.specs.declared.civil.Day.{Day}
use Rattle.ob_times.specs.declared.clock.Clock.{Clock}
use Rattle.ob_times.specs.CivilText.{IsDateText, IsFraction, IsTimeText, date_text, clock_text}
use Rattle.ob_times.specs.Civil.{IsDateOf}
use Rattle.jiff.specs.Types.{Date}
use Rattle.jiff.specs.Words.{epoch_day}
use Rattle.jiff.proofs.Family.{same_date}
use Rattle.std.specs.Ordering.{int_eq}
use Rattle.std.specs.Bool.{Decides}
use Rattle.std.proofs.lemmas.Bool.Decides.{Decides-int_eq}
use Rattle.jiff_core.proofs.DateLemmas.{epoch_day_same}
use Rattle.std.proofs.lemmas.Int.{ints}

abbrev pub day_of : ℕ → ℕ → ℕ → Day
day_of year month day = record { year = year; month = month; day = day }

same_day : (y m d y' m' d' : ℕ) → y ≡ y' → m ≡ m' → d ≡ d' → day_of y m d ≡ day_of y' m' d'
same_day y m d y' m' d' e g h = ap (λ (i : ℕ). day_of i m d) e ∙ ap (λ (i : ℕ). day_of y' i d) g ∙ ap (λ (i : ℕ). day_of y' m' i) h

pub one_day : (text : List ℕ) (a b : Day) → IsDateText text a → IsDateText text b → a ≡ b
one_day text a b h k =
    let e : date_text a.year a.month a.day ≡ date_text b.year b.month b.day = sym h.text_is ∙ k.text_is in
    let c : a.year / 100 ≡ b.year / 100 = one_pair (a.year / 100) (b.year / 100) (omega (arith, h.year_below)) (omega (arith, k.year_below)) (cc) (cc) in
    let y : a.year % 100 ≡ b.year % 100 = one_pair (a.year % 100) (b.year % 100) (omega arith) (omega arith) (cc) (cc) in
    let m : a.month ≡ b.month = one_pair a.month b.month h.month_below k.month_below (cc) (cc) in
    let d : a.day ≡ b.day = one_pair a.day b.day h.day_below k.day_below (cc) (cc) in
    same_day a.year a.month a.day b.year b.month b.day (omega arith) m d

pub one_date : (d : Day) (v w : Date) → IsDateOf d v → IsDateOf d w → v ≡ w
one_date d v w h k =
    same_date v w (epoch_day_same v w (h.0 ∙ sym k.0) (omega (arith, ints, h.1, k.1)) (omega (arith, ints, h.2, k.2)))

abbrev pub clock_of : ℕ → ℕ → ℕ → ℕ → Clock
clock_of hour minute second nanos = record { hour = hour; minute = minute; second = second; nanos = nanos }

same_clock : (h m s n h' m' s' n' : ℕ) → h ≡ h' → m ≡ m' → s ≡ s' → n ≡ n' → clock_of h m s n ≡ clock_of h' m' s' n'
same_clock h m s n h' m' s' n' e f g i =
    ap (λ (k : ℕ). clock_of k m s n) e ∙ ap (λ (k : ℕ). clock_of h' k s n) f ∙ ap (λ (k : ℕ). clock_of h' m' k n) g ∙ ap (λ (k : ℕ). clock_of h' m' s' k) i

pub one_fraction : (text : List ℕ) (m n : ℕ) → IsFraction text m → IsFraction text n → m ≡ n
one_fraction text m n (inl a) (inl b) = a.1 ∙ sym b.1
one_fraction text m n (inl a) (inr b) = let e : [] ≡ 46 ∷ b.digits = sym a.0 ∙ b.text_is in absurd cc
one_fraction text m n (inr a) (inl b) = let e : [] ≡ 46 ∷ a.digits = sym b.0 ∙ a.text_is in absurd cc
one_fraction text m n (inr a) (inr b) =
    let e : 46 ∷ a.digits ≡ 46 ∷ b.digits = sym a.text_is ∙ b.text_is in
    let same : a.digits ≡ b.digits = cc in
    a.value ∙ ap (λ (ds : List ℕ). number ds * 10 ^ (9 - length ds)) same ∙ sym b.value

pub one_clock : (text : List ℕ) (a b : Clock) → IsTimeText text a → IsTimeText text b → a ≡ b
one_clock text a b x y =
    let e : clock_text a.hour a.minute a.second x.fraction ≡ clock_text b.hour b.minute b.second y.fraction = sym x.text_is ∙ y.text_is in
    let h : a.hour ≡ b.hour = one_pair a.hour b.hour x.hour_below y.hour_below (cc) (cc) in
    let m : a.minute ≡ b.minute = one_pair a.minute b.minute x.minute_below y.minute_below (cc) (cc) in
    let s : a.second ≡ b.second = one_pair a.second b.second x.second_below y.second_below (cc) (cc) in
    let f : x.fraction ≡ y.fraction = cc in
    let n : a.nanos ≡ b.nanos = one_fraction y.fraction a.nanos b.nanos (subst (λ (t : List ℕ). IsFraction t a.nanos) f x.is_fraction) y.is_fraction in
    same_clock a.hour a.minute a.second a.nanos b.hour b.minute b.second b.nanos h m s n

-- dates are told apart by their days
pub dates_decide : (a b : Date) → Decides (int_eq (epoch_day a) (epoch_day b)) (a ≡ b)
dates_decide a b =
    let d = Decides-int_eq (epoch_day a) (epoch_day b) in
    (λ same. same_date a b (d.0 same), λ e. d.1 (ap epoch_day e))
