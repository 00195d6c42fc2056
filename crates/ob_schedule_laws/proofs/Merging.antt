-- How `Merged` is put together, request by request.
use Rattle.std.proofs.Common.{◌≡◌, ℕ, ◌+◌, ◌≤◌, max, List, [], ◌∷◌, ◌++◌, refl, sym, ap, ap₂, subst, ◌∙◌, append_assoc, arith}
use Rattle.ob_site_laws.specs.SiteLaws.{Call}
use Rattle.ob_weekly.specs.declared.schedule.Schedules.{Schedules}
use Rattle.ob_schedule_rules.specs.Merged.{ArePosts, IsMerged}
use Rattle.ob_schedule_laws.specs.InForce.{timed, RiseFrom, RequestsStand}

-- the greatest moment so far
abbrev pub greatest : ℕ → List Call → ℕ
greatest m [] = m
greatest m (e ∷ es) = greatest (max m e.moment) es

module _ (s : Schedules) where
  -- one request more, with the writes before it
  pub one_more : (m : ℕ) (past : List Call) (merged : List Call) (e : Call) (posts : List Call) → IsMerged timed s m past merged
      → ArePosts timed s (greatest m past) e.moment posts → IsMerged timed s m (past ++ e ∷ []) (merged ++ (posts ++ e ∷ []))
  one_more m [] merged e posts is next = (posts, [], next, ap (λ (l : List Call). l ++ (posts ++ e ∷ [])) is, refl)
  one_more m (p ∷ past) merged e posts is next = (
    is.0,
    is.1 ++ (posts ++ e ∷ []),
    is.2,
    ap (λ (l : List Call). l ++ (posts ++ e ∷ [])) is.3 ∙ append_assoc is.0 (p ∷ is.1) (posts ++ e ∷ []),
    one_more (max m p.moment) past is.1 e posts is.4 next,
  )

  -- a beginning of the requests
  pub record Front (m : ℕ) (earlier later : List Call) (e : Call) (merged : List Call) : Type 0 where
    pub front : List Call
    pub rest : List Call
    pub merged_is : merged ≡ front ++ e ∷ rest
    pub is : IsMerged timed s m (earlier ++ e ∷ []) (front ++ e ∷ [])

  pub front_of : (m : ℕ) (earlier later : List Call) (e : Call) (merged : List Call) → IsMerged timed s m (earlier ++ e ∷ later) merged → Front m earlier later e merged
  front_of m [] later e merged is = record { front = is.0; rest = is.1; merged_is = is.3; is = (is.0, [], is.2, refl, refl) }
  front_of m (p ∷ earlier) later e merged is =
      let rest = front_of (max m p.moment) earlier later e is.1 is.4 in
      record {
        front = is.0 ++ p ∷ rest.front;
        rest = rest.rest;
        merged_is = is.3 ∙ (ap (λ (l : List Call). is.0 ++ p ∷ l) rest.merged_is ∙ sym (append_assoc is.0 (p ∷ rest.front) (e ∷ rest.rest)));
        is = (is.0, rest.front ++ e ∷ [], is.2, append_assoc is.0 (p ∷ rest.front) (e ∷ []), rest.is);
      }

pub requests_stand : RequestsStand
requests_stand s boot own earlier later calls e merges own_is =
    let f = front_of s boot earlier later e merges.rest (subst (λ (l : List Call). IsMerged timed s boot l merges.rest) own_is merges.between) in (
      merges.opening ++ f.front,
      f.rest,
      merges.merged_is ∙ (ap (λ (l : List Call). merges.opening ++ l) f.merged_is ∙ sym (append_assoc merges.opening f.front (e ∷ f.rest))),
      record {
        earlier = earlier;
        later = later;
        own_are = own_is;
        merges = record { opening = merges.opening; rest = f.front ++ e ∷ []; boot_is = merges.boot_is; between = f.is; merged_is = append_assoc merges.opening f.front (e ∷ []) };
      },
    )

-- where moments rise, none so far is greater than the next
at_most : (a b : ℕ) → a ≤ b → max a b ≡ b
at_most a b h = omega (arith, h)

pub rises_to : (m : ℕ) (past later : List Call) (e : Call) → RiseFrom m (past ++ e ∷ later) → greatest m past ≤ e.moment
rises_to m [] later e rises = rises.0
rises_to m (p ∷ past) later e rises =
    rises_to (max m p.moment) past later e (subst (λ (n : ℕ). RiseFrom n (past ++ e ∷ later)) (sym (at_most m p.moment rises.0)) rises.1)

-- one element behind two lists that are one
pub last_parts : {A : Type 0} (xs ys : List A) (x y : A) → xs ++ x ∷ [] ≡ ys ++ y ∷ [] → (xs ≡ ys) × (x ≡ y)
last_parts [] [] x y e = (refl, cc)
last_parts [] (b ∷ []) x y e = absurd cc
last_parts [] (b ∷ c ∷ ys) x y e = absurd cc
last_parts (a ∷ []) [] x y e = absurd cc
last_parts (a ∷ b ∷ xs) [] x y e = absurd cc
last_parts (a ∷ xs) (b ∷ ys) x y e =
    let heads : a ≡ b = cc in
    let tails : xs ++ x ∷ [] ≡ ys ++ y ∷ [] = cc in
    let rest = last_parts xs ys x y tails in
    (ap₂ (λ h t. h ∷ t) heads rest.0, rest.1)
