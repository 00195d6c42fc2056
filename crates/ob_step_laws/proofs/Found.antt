-- The part of a path, where the paths of parts are apart.
use Rattle.std.proofs.Common.{◌≡◌, Bool, true, false, cond, ◌||◌, bytes_eq, List, [], ◌∷◌, map, filter, find, Option, Some, None, refl, sym, ap, ◌∙◌, true≢false}
use Rattle.std.specs.Prelude.{is_some, unwrap_or}
use Rattle.std.specs.List.{AllByRecursion}
use Rattle.ob_site_rules.specs.Build.{Path}
use Rattle.ob_object.specs.Paths.{is_path, node_path}
use Rattle.ob_site_rules.specs.State.{is_among}
use Rattle.ob_site_rules.specs.Loading.{Part, listed_path, path_of}
use Rattle.ob_step_laws.specs.Laws.{Apart}
use Rattle.ob_values.proofs.Bools.{or_true}
use Rattle.ob_step_laws.proofs.OneKind.{among_append, apart_second, apart_not, listed_is}
use Rattle.ob_values.proofs.Lists.{bytes_itself}
use Rattle.ob_step_laws.proofs.Kept.{part_paths}

abbrev pub part_at : Path → List Part → Option Part
part_at p ps = find (λ q. is_path p (node_path q.own.head)) ps

some_if : (b : Bool) (q : Part) (o : Option Part) → is_some (cond b (Some q) o) ≡ (b || is_some o)
some_if true q o = refl
some_if false q o = refl

pub some_at : (p : Path) (ps : List Part) → is_some (part_at p ps) ≡ is_among p (part_paths ps)
some_at p [] = refl
some_at p (q ∷ ps) =
    some_if (is_path p (node_path q.own.head)) q (part_at p ps)
    ∙ ap (λ b. b || is_some (part_at p ps)) (sym (listed_is p (node_path q.own.head)))
    ∙ ap (λ b. is_among p (listed_path (node_path q.own.head)) || b) (some_at p ps)
    ∙ sym (among_append p (listed_path (node_path q.own.head)) (part_paths ps))

nothing : (o : Option Part) → is_some o ≡ false → o ≡ None
nothing None h = refl
nothing (Some x) h = absurd (true≢false h)

-- the part is found at its path
abbrev FoundBy : (Path → Option Part) → Part → Type 0
FoundBy look q = (p : Path) → node_path q.own.head ≡ Some p → look p ≡ Some q

found_by : (look : Path → Option Part) (ps : List Part) → Apart (part_paths ps) → ((p : Path) → is_among p (part_paths ps) ≡ true → look p ≡ part_at p ps) → AllByRecursion (FoundBy look) ps
found_by look [] a t = tt
found_by look (q ∷ ps) a t =
    let own : List Path = listed_path (node_path q.own.head) in
    let first : FoundBy look q = λ p e.
    let here : is_path p (node_path q.own.head) ≡ true = ap (is_path p) e ∙ bytes_itself p in
    t p (among_append p own (part_paths ps) ∙ ap (λ b. b || is_among p (part_paths ps)) (listed_is p (node_path q.own.head) ∙ here))
    ∙ ap (λ b. cond b (Some q) (part_at p ps)) here in
    let others : (p : Path) → is_among p (part_paths ps) ≡ true → look p ≡ part_at p ps = λ p h.
    t p (among_append p own (part_paths ps) ∙ ap (λ b. is_among p own || b) h ∙ or_true (is_among p own))
    ∙ ap (λ b. cond b (Some q) (part_at p ps)) (sym (listed_is p (node_path q.own.head)) ∙ apart_not own (part_paths ps) p a h) in
    (first, found_by look ps (apart_second own (part_paths ps) a) others)

pub all_found : (ps : List Part) → Apart (part_paths ps) → AllByRecursion (FoundBy (λ p. part_at p ps)) ps
all_found ps a = found_by (λ p. part_at p ps) ps a (λ p h. refl)

-- whether a part is so; none isn't
abbrev pub holds : (Part → Bool) → Option Part → Bool
holds F None = false
holds F (Some q) = F q

-- parts that are so are nodes
abbrev pub IsNodeIf : (Part → Bool) → Part → Type 0
IsNodeIf F q = F q ≡ true → is_some (node_path q.own.head) ≡ true

path_here : (p : Path) (o : Option Path) → is_path p o ≡ true → bytes_eq (unwrap_or o []) p ≡ true
path_here p None h = absurd (true≢false (sym h))
path_here p (Some q) h = h

path_not : (p : Path) (o : Option Path) → is_some o ≡ true → is_path p o ≡ false → bytes_eq (unwrap_or o []) p ≡ false
path_not p None s h = absurd (true≢false (sym s))
path_not p (Some q) s h = h

-- a path is one of those of the parts that are so exactly where the part that is found there is so
pub flag : (F : Part → Bool) (p : Path) (ps : List Part) → AllByRecursion (IsNodeIf F) ps → Apart (part_paths ps) → is_among p (map path_of (filter F ps)) ≡ holds F (part_at p ps)
flag F p [] e a = refl
flag F p (q ∷ ps) e a = by_path (is_path p (node_path q.own.head)) refl (flag F p ps e.1 (apart_second (listed_path (node_path q.own.head)) (part_paths ps) a))
  where
    Rest : Type 0
    Rest = is_among p (map path_of (filter F ps)) ≡ holds F (part_at p ps)

    out : is_path p (node_path q.own.head) ≡ true → (b : Bool) → is_among p (part_paths ps) ≡ b → b ≡ false
    out here false h = refl
    out here true h = absurd (true≢false (sym here ∙ sym (listed_is p (node_path q.own.head)) ∙ apart_not (listed_path (node_path q.own.head)) (part_paths ps) p a h))

    gone : is_path p (node_path q.own.head) ≡ true → part_at p ps ≡ None
    gone here = nothing (part_at p ps) (some_at p ps ∙ out here (is_among p (part_paths ps)) refl)

    there : is_path p (node_path q.own.head) ≡ true → Rest → (b : Bool) → F q ≡ b → is_among p (map path_of (cond b (q ∷ filter F ps) (filter F ps))) ≡ b
    there here rest true so = ap (λ b. b || is_among p (map path_of (filter F ps))) (path_here p (node_path q.own.head) here)
    there here rest false so = rest ∙ ap (holds F) (gone here)

    past : is_path p (node_path q.own.head) ≡ false → Rest → (b : Bool) → F q ≡ b → is_among p (map path_of (cond b (q ∷ filter F ps) (filter F ps))) ≡ holds F (part_at p ps)
    past other rest true so = ap (λ b. b || is_among p (map path_of (filter F ps))) (path_not p (node_path q.own.head) (e.0 so) other) ∙ rest
    past other rest false so = rest

    by_path : (b : Bool) → is_path p (node_path q.own.head) ≡ b → Rest → is_among p (map path_of (filter F (q ∷ ps))) ≡ holds F (part_at p (q ∷ ps))
    by_path true here rest = there here rest (F q) refl ∙ sym (ap (λ b. holds F (cond b (Some q) (part_at p ps))) here)
    by_path false other rest = past other rest (F q) refl ∙ sym (ap (λ b. holds F (cond b (Some q) (part_at p ps))) other)

-- each part's path is one of those of the parts that are so exactly where the part is so
abbrev pub IsTold : (Part → Bool) → List Part → Part → Type 0
IsTold F ps q = (p : Path) → node_path q.own.head ≡ Some p → is_among p (map path_of (filter F ps)) ≡ F q

told_by : (F : Part → Bool) (all ps : List Part) → AllByRecursion (IsNodeIf F) all → Apart (part_paths all) → AllByRecursion (FoundBy (λ p. part_at p all)) ps → AllByRecursion (IsTold F all) ps
told_by F all [] e a f = tt
told_by F all (q ∷ ps) e a f = (λ p is. flag F p all e a ∙ ap (holds F) (f.0 p is), told_by F all ps e a f.1)

pub all_told : (F : Part → Bool) (ps : List Part) → AllByRecursion (IsNodeIf F) ps → Apart (part_paths ps) → AllByRecursion (IsTold F ps) ps
all_told F ps e a = told_by F ps ps e a (all_found ps a)
