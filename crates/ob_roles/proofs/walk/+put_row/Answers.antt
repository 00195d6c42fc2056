use Rattle.std.proofs.Common.{◌≡◌, ◌+◌, ◌<◌, ◌≤◌, ◌||◌, ℕ, Bool, false, [], Option, sym, ap, ap₂, ◌∙◌, subst, arith}
use Rattle.std.specs.Option.{option_copied}
use Rattle.std.proofs.lemmas.List.{append-nil}
use Rattle.ob_object.specs.declared.head.Head.{Head}
use Rattle.ob_object.specs.Object.{Object, in_row, children, count}
use Rattle.ob_contracts.specs.Ancestry.{own_words}
use Rattle.ob_contracts.specs.Inherit.{sources, overridden}
use Rattle.ob_site_rules.specs.Roles.{roles_there, holds_contracts, row_roles}
use Rattle.ob_roles.specs.Given.{IsBase}
use Rattle.ob_hrefs.proofs.Rows.{inside_fewer, inner_row}
use Rattle.ob_roles.proofs.Walks.{goes_more, inner_put, inner_none}
use Rattle.ob_roles.proofs.walk.+put_row.Goals as goal
use Rattle.ob_roles.proofs.walk.+put_row.Goals.{then-children-gt0+in_ok-own+in_ok-handed+in_ok-names+in_ok-put_row, else-children-gt0}

pub put_row-requires : goal.put_row-requires
put_row-requires t c =
    let os = c.args.objects.now in
    let i = c.loop-object.object-index in
    let x = c.object-item.result in
    let row : in_row c.children-children.result.now ≡ x.inner = inner_row x c.children-children.result.now c.children-children.ensures.value in
    let same : count (in_row c.children-children.result.now) ≡ count x.inner = ap count row in
    let fewer : count x.inner + 1 ≤ count (in_row os) = inside_fewer os i x c.loop-object-test.true c.object-item.is in
    (subst (λ (n : ℕ). count (in_row c.children-children.result.now) < n) c.decreases (omega (arith, same, fewer)), tt)

pub loop-object-preserved : goal.loop-object-preserved
loop-object-preserved t c = λ lib ss holds tells given finds.
    let os = c.args.objects.now in
    let i = c.loop-object.object-index in
    let x = c.object-item.result in
    let cs = c.children-children.result.now in
    let root = c.args.round.now.root in
    let under = c.args.round.now.under in
    let inside = c.args.round.now.inside in
    let implied = option_copied c.args.round.now.list.now.words in
    let h = c.head-head.result.now in
    let o = option_copied c.over-over.result in
    let b = c.is_below-below.result in
    let mid = c.push.new.self.items in
    let head : h ≡ x.head = c.head-head.ensures.value in
    let over : o ≡ overridden x.head.name ss = c.over-over.ensures ss finds ∙ ap (λ (k : Head). overridden k.name ss) head in
    let below : b ≡ (inside || holds_contracts under x.head) = c.is_below-below.ensures ∙ ap (λ (k : Head). inside || holds_contracts under k) head in
    let which : c.roles_by-roles.result ≡ roles_there lib root (inside || holds_contracts under x.head) x.head (own_words x.head implied (overridden x.head.name ss)) =
    c.roles_by-roles.ensures lib tells given ∙ ap₂ (λ (k : Head) (p : Option Object). roles_there lib root b k (own_words k implied p)) head over
    ∙ ap (λ (v : Bool). roles_there lib root v x.head (own_words x.head implied (overridden x.head.name ss))) below in
    let kept = c.loop-object.invariant lib ss holds tells given finds in
    elim c.if-children-gt0.branch [
      | then-children-gt0+in_ok-own+in_ok-handed+in_ok-names+in_ok-put_row w ↦
          let base : IsBase w.base_of-base.result.now lib h implied = w.base_of-base.ensures lib h (w.in_ok-own.ensures.words ∙ w.is.ensures) (w.in_ok-own.ensures.given lib holds tells) given in
          let put = row_roles lib false root b (option_copied w.in_ok-handed.handed.words) (sources lib h implied o) (in_row cs) in
          goes_more lib root under inside implied ss os i x c.args.all.now.items c.loop-object.all.items mid c.if-children-gt0.all.items put c.roles_by-roles.result c.loop-object-test.true c.object-item.is which c.in_ok-push.ensures.items
          (ap (λ v. v.items) w.all-is
          ∙ w.in_ok-put_row.ensures lib (sources lib h implied o) holds tells (w.in_ok-handed.ensures.given lib holds tells) (w.above_of-above.ensures lib implied o base (λ n. w.in_ok-names.ensures n)))
          (inner_put lib root under inside implied ss x h o b (option_copied w.in_ok-handed.handed.words) (option_copied w.gives_of-gives.result) cs head over below w.in_ok-handed.ensures.words (w.gives_of-gives.ensures lib implied base) c.children-children.ensures.value)
          kept
      | else-children-gt0 w ↦
          goes_more lib root under inside implied ss os i x c.args.all.now.items c.loop-object.all.items mid c.if-children-gt0.all.items [] c.roles_by-roles.result c.loop-object-test.true c.object-item.is which c.in_ok-push.ensures.items
          (ap (λ v. v.items) w.all-is ∙ sym (append-nil mid)) (inner_none lib root under inside implied ss x cs c.children-children.ensures.value w.if-children-gt0.false) kept
    ]
