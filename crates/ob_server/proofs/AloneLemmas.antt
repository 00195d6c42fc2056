-- A pass that has all numbers has seen what it asked, and nothing else.
use Rattle.std.proofs.Common.{arith, ◌≡◌, ◌<◌, ◌^◌, ◌==◌, ℕ, true, List, [], ◌∷◌, Option, refl, sym, ap, subst, ◌∙◌, inl, inr, drop, eq-eqb}
use Rattle.ob_io.specs.Links.{Inlet}
use Rattle.ob_machine.specs.declared.call.Entry.{Entry}
use Rattle.ob_machine.specs.History.{IsLegal, left_by}
use Rattle.atomic_table.specs.Seated.{TableId}
use Rattle.ob_object.specs.Object.{Object}
use Rattle.ob_site_rules.specs.declared.request.Request.{Request as Asked}
use Rattle.ob_turn.specs.Callers.{numbers_below, own, times, calls_of}
use Rattle.ob_turn.specs.Standing.{Standing, mine}
use Rattle.ob_turn.proofs.Numbers.{below_there}
use Rattle.ob_server.specs.Alone.{ServesAlone}
use Rattle.ob_server.specs.Answered.{Serves}
use Rattle.ob_server.specs.Exchange.{Call, had}
use Rattle.ob_server.specs.Passes.{AreOwnOrOthers, Continues}
use Rattle.ob_server.specs.declared.end.LinkEnd.{LinkEnd}
use Rattle.ob_server.specs.declared.end.LinkEnd.TheVariants as ends
use Rattle.ob_server.proofs.ServeLemmas.{ends_unstarted}

module _ {S Q P : Type 0} (act : S → Q → ℕ → S × P) where
  -- callers' numbers are below 2^32, so to whom has them all each entry is its own
  all_own : (s : S) (ns : List ℕ) (es : List (Entry Q P)) → ((x : ℕ) → x < 2 ^ 32 → 0 < times x ns) → AreOwnOrOthers ns es → IsLegal act s es → calls_of (own ns) es ≡ es
  all_own s ns [] there others legal = refl
  all_own s ns (e ∷ es) there others legal =
      let rest = all_own (left_by act s e.request e.moment e.answer) ns es there others.1 legal.1 in
      let own_is : (e.caller == own ns) ≡ true =
      elim others.0 as (λ _. (e.caller == own ns) ≡ true) [
        | inl is ↦ eq-eqb e.caller (own ns) is
        | inr other ↦ let some = there e.caller legal.0.caller in absurd (omega arith)
      ] in
      rw own_is (ap (λ (l : List (Entry Q P)). e ∷ l) rest)

  -- the pass that a desk is opened with
  abbrev pub fresh : TableId → Standing Q P
  fresh table = record { table = table; numbers = numbers_below 4294967296; since = 0; seen = [] }

  pub seen_is_mine : (opening : S) (table : TableId) (q : Standing Q P) → Continues act opening (fresh table) q → (mine q ≡ q.seen) × IsLegal act opening q.seen
  seen_is_mine opening table q goes =
      let legal : IsLegal act opening q.seen = goes.legal tt in
      let seen : q.seen ≡ goes.more = goes.later in
      let all : calls_of (own (numbers_below 4294967296)) goes.more ≡ goes.more =
      all_own opening (numbers_below 4294967296) goes.more (λ x below. below_there x 4294967296 below) goes.others (subst (λ (es : List (Entry Q P)). IsLegal act opening es) seen legal) in
      let here : mine q ≡ calls_of (own (numbers_below 4294967296)) (drop 0 goes.more) =
      ap (λ (ns : List ℕ). calls_of (own ns) (drop q.since q.seen)) goes.numbers
      ∙ ap (λ n. calls_of (own (numbers_below 4294967296)) (drop n q.seen)) goes.since
      ∙ ap (λ (es : List (Entry Q P)). calls_of (own (numbers_below 4294967296)) (drop 0 es)) seen in
      (here ∙ all ∙ sym seen, legal)

pub serves_alone : {S : Type 0} (act : S → Asked → ℕ → S × Object) (machine opening : S) (ns : Option (List ℕ)) (before after : Inlet) (held held' given given' : Option (List ℕ)) (end : LinkEnd)
    (table : TableId) (p q : Standing Asked Object) → opening ≡ machine → p ≡ fresh act table → Continues act opening p q
    → Serves ns before after (had held given (mine p)) (had held' given' (mine q)) end → ServesAlone act machine ns before after held held' given given' end
serves_alone {S} act machine opening ns before after held held' given given' end table p q same is goes serves =
    let alone = seen_is_mine act opening table q (subst (λ (r : Standing Asked Object). Continues act opening r q) is goes) in
    record {
      calls = mine q;
      legal = subst (λ (m : S). IsLegal act m (mine q)) same (subst (λ (es : List Call). IsLegal act opening es) (sym alone.0) alone.1);
      serves = subst (λ (r : Standing Asked Object). Serves ns before after (had held given (mine r)) (had held' given' (mine q)) end) is serves;
    }

-- there was no memory for a desk
pub unopened : {S : Type 0} (act : S → Asked → ℕ → S × Object) (opening : S) (ns : Option (List ℕ)) (u : Inlet) (held given : Option (List ℕ)) → ServesAlone act opening ns u u held held given given ends.Memory
unopened act opening ns u held given = record { calls = []; legal = tt; serves = ends_unstarted ns u (had held given []) }
