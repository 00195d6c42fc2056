use Rattle.std.proofs.Common.{◌≡◌, ◌<◌, length, ℕ, List, Some, None, ◌∙◌, sym, ap, subst}
use Rattle.std.specs.Prelude.{slice_set, option_map}
use Rattle.ob_object.specs.Object.{Object, parts}
use Rattle.ob_contracts.specs.Adding.{names_word}
use Rattle.ob_contracts.specs.Index.{at_place, place_of}
use Rattle.ob_contracts.specs.Inherit.{Contracts, result_of}
use Rattle.ob_contracts.specs.Named.{HasAll, HasNamed}
use Rattle.ob_contracts.specs.Renewing.{with_contract}
use Rattle.ob_contracts.specs.Sound.{AllSound}
use Rattle.ob_contracts.proofs.Naming.{result_known}
use Rattle.ob_contracts.proofs.Replaced.{found_at, known_there, place_there, set_there, sound_there}
use Rattle.ob_contracts.proofs.library.Library.put_at.Goals as goal

pub invariant_of-self-2 : goal.invariant_of-self-2
invariant_of-self-2 c =
    let old = c.self.invariant in
    let items = c.self.inside.contracts.items in
    let made = c.args.made in
    let put =
    ap (λ (o : Object). slice_set items c.args.place (c.index_mut-entry.result.now.0, o)) c.replace.ensures.after
    ∙ set_there items c.args.place c.index_mut-entry.result.now made (found_at c.self.inside.contracts.items c.args.place c.index_mut-entry.result.now (subst (λ (l : Contracts). c.args.place < length l) (sym c.self.view_is) c.requires.within) c.index_mut-entry.ensures.value) in
    let inherits : made ≡ result_of items c.args.own.now None None =
    c.requires.made ∙ ap (λ (l : Contracts). result_of l c.args.own.now None None) (sym c.self.view_is) in
    let all =
    subst (λ (o : Object). HasAll c.put_named.new.known (λ word. names_word word o)) (sym inherits)
    (result_known c.self.inside.named c.put_named.new.known items c.args.own.now c.put_named.ensures.kept old.10 c.in_ok-put_named.ensures.ok) in (
      subst (λ (l : Contracts). AllSound l) (sym put) (sound_there items c.args.place made old.0 (record { well_formed = c.head-head.ensures.well_formed; small = c.requires.small })),
      old.1,
      old.2,
      old.3,
      old.4,
      old.5,
      old.6,
      old.7,
      old.8,
      λ word. old.9 word ∙ sym (place_there word items c.args.place made) ∙ ap (place_of word) (sym put),
      subst (λ (l : Contracts). HasNamed c.put_named.new.known l) (sym put)
          (known_there c.self.inside.named c.put_named.new.known items c.args.place made c.put_named.ensures.kept all old.10),
    )

pub returns-clause-ok : goal.returns-clause-ok
returns-clause-ok c =
    ap (λ (o : Object). slice_set c.self.inside.contracts.items c.args.place (c.index_mut-entry.result.now.0, o)) c.replace.ensures.after
    ∙ set_there c.self.inside.contracts.items c.args.place c.index_mut-entry.result.now c.args.made (found_at c.self.inside.contracts.items c.args.place c.index_mut-entry.result.now (subst (λ (l : Contracts). c.args.place < length l) (sym c.self.view_is) c.requires.within) c.index_mut-entry.ensures.value)
    ∙ ap (with_contract c.args.place c.args.made) c.self.view_is

pub returns-clause-old : goal.returns-clause-old
returns-clause-old c =
    ap (λ (l : Contracts). at_place l c.args.place) (sym c.self.view_is)
    ∙ ap (option_map (λ (x : List ℕ × Object). x.1)) (found_at c.self.inside.contracts.items c.args.place c.index_mut-entry.result.now (subst (λ (l : Contracts). c.args.place < length l) (sym c.self.view_is) c.requires.within) c.index_mut-entry.ensures.value)
    ∙ ap Some (sym c.replace.ensures.value)
