-- What is answered of records that stand one behind the other is what is answered of them with their numbers.
use Rattle.std.proofs.Common.{◌≡◌, ℕ, ◌+◌, List, [], ◌∷◌, ◌++◌, map, length, refl, sym, ap, ◌∙◌}
use Rattle.std.specs.Prelude.{codes, Option, option_map, slice_get}
use Rattle.std.specs.List.{enumerate_from}
use Rattle.std.proofs.lemmas.List.{map-append}
use Rattle.ob_times.specs.Times.{Instant}
use Rattle.ob_object.specs.Object.{Object}
use Rattle.ob_history.specs.declared.records.Record.{Record}
use Rattle.ob_history.specs.declared.records.Query.{Query}
use Rattle.ob_history.specs.Queries.{numbered}
use Rattle.ob_site_rules.specs.Entries.{record_object, records_out, query_out, numbers_told}
use Rattle.ob_replies.specs.Numbers.{first_number}
use Rattle.ob_replies.proofs.Asked.{same_answer}

unnumbered : {A : Type 0} (f : Record → A) (n : ℕ) (rs : List Record) → map f rs ≡ map (λ e. f e.1) (enumerate_from n rs)
unnumbered f n [] = refl
unnumbered f n (r ∷ rs) = ap (λ ys. f r ∷ ys) (unnumbered f (n + 1) rs)

first_is : (n : ℕ) (rs : List Record) → first_number n (length rs) ≡ option_map (λ e. e.0) (slice_get (enumerate_from n rs) 0)
first_is n [] = refl
first_is n (r ∷ rs) = refl

-- an answer of records, each with its number
abbrev answer : Option ℕ → ℕ → List (ℕ × Record) → Object
answer from gone given =
    query_out (codes "obix:HistoryQueryOut") (codes "obix:HistoryRecord") (numbers_told from gone (option_map (λ e. e.0) (slice_get given 0))) (map (λ e. e.1.time) given) (map (λ e. record_object e.1) given)

pub records_told : (q : Query) (gone first count : ℕ) (kept given : List Record) (numbers : List Object) (times : List Instant) (objects : List Object)
    → enumerate_from first given ≡ numbered q gone kept → count ≡ length given → numbers ≡ numbers_told q.from gone (first_number first count)
    → times ≡ map (λ r. r.time) given → objects ≡ map record_object given
    → query_out (codes "obix:HistoryQueryOut") (codes "obix:HistoryRecord") numbers times objects ≡ records_out q gone kept
records_told q gone first count kept given numbers times objects e long told ts os =
    ap (λ (ns : List Object). query_out (codes "obix:HistoryQueryOut") (codes "obix:HistoryRecord") ns times objects)
    (told ∙ ap (λ (k : ℕ). numbers_told q.from gone (first_number first k)) long ∙ ap (numbers_told q.from gone) (first_is first given))
    ∙ same_answer (codes "obix:HistoryQueryOut") (codes "obix:HistoryRecord") _ times _ objects _ (ts ∙ unnumbered (λ r. r.time) first given) (os ∙ unnumbered record_object first given)
    ∙ ap (answer q.from gone) e

-- what is put for the records of two slices is what is put for them together
pub joined : {A : Type 0} (f : Record → A) (front back : List Record) (first next last : List A) → first ≡ [] → next ≡ first ++ map f front → last ≡ next ++ map f back → last ≡ map f (front ++ back)
joined f front back first next last e m l =
    l ∙ ap (λ ys. ys ++ map f back) (m ∙ ap (λ ys. ys ++ map f front) e) ∙ sym (map-append f front back)
