use Rattle.std.proofs.Common.{◌≡◌, ℕ, true, false, List, [], ◌∷◌, ◌++◌, Option, Some, ap, ap₂, ◌∙◌}
use Rattle.std.specs.Map.{lookup}
use Rattle.std.specs.Option.{option_copied}
use Rattle.std.specs.Ordering.{nat_cmp}
use Rattle.std.specs.Cmp.Lexicographic.{slice_cmp}
use Rattle.std.specs.BTreeMap.{is_at}
use denote.Ref.{Bor}
use Rattle.ob_object.specs.Object.{Object, in_row}
use Rattle.ob_contracts.specs.Found.{found}
use Rattle.ob_contracts.specs.Inherit.{Words, overridden}
use Rattle.ob_site_rules.specs.declared.roles.Roles.{Roles}
use Rattle.ob_site_rules.specs.Roles.{row_roles}
use Rattle.ob_roles.specs.Few.{brief_contracts}
use Rattle.ob_roles.proofs.Brief.{tells_brief}
use Rattle.ob_roles.proofs.BriefRoles.{all_brief}
use Rattle.ob_roles.proofs.Handed.{by_name}
use Rattle.ob_roles.proofs.walk.all_roles.Goals as goal

pub returns : goal.returns
returns c = λ lib holds tells.
    let finds : (n : List ℕ) → found c.new-names.result n ≡ overridden (Some n) [] = λ n.
    ap (λ (es : List (Bor (List ℕ) × Bor Object)). option_copied (lookup (is_at (λ (k : Bor (List ℕ)). slice_cmp nat_cmp n k.now)) es)) c.new-names.ensures.empty in
    let few = brief_contracts lib lib in
    c.in_ok-put_row.ensures few [] holds (tells_brief lib c.args.known.now lib tells) (c.nothing-list.ensures.given few) (record { finds = by_name c.new-names.result [] finds })
    ∙ ap₂ (λ (a : List Roles) (r : List Object). a ++ row_roles few true false false (option_copied c.nothing-list.result.words) [] (in_row r)) c.new-all.ensures.items c.from_ref-row.ensures.value
    ∙ ap (λ (w : Option Words). row_roles few true false false w [] (in_row (c.args.root.now ∷ []))) c.nothing-list.ensures.words
    ∙ all_brief lib c.args.root.now
