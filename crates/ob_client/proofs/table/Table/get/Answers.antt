use Rattle.std.proofs.Common.{List, ap, ◌∙◌}
use Rattle.std.specs.Prelude.{slice_get, option_and_then}
use Rattle.ob_watching.specs.WatchOuts.{Held}
use Rattle.ob_client.specs.Tables.{texts_of, place_of}
use Rattle.ob_client.proofs.TableLemmas.{found_at}
use Rattle.ob_client.proofs.table.Table.get.Goals as goal

pub returns-in-Some : goal.returns-in-Some
returns-in-Some c =
    c.at.ensures
    ∙ ap (option_and_then (λ n. slice_get c.args.self.now n)) c.in-Some.ensures
    ∙ ap (λ (hs : List Held). option_and_then (λ n. slice_get c.args.self.now n) (place_of c.args.text.now (texts_of hs))) (c.as_slice.ensures.value ∙ c.self.view_is)
    ∙ found_at c.args.text.now c.args.self.now

pub returns-in-None : goal.returns-in-None
returns-in-None c =
    ap (option_and_then (λ n. slice_get c.args.self.now n)) c.in-None.ensures
    ∙ ap (λ (hs : List Held). option_and_then (λ n. slice_get c.args.self.now n) (place_of c.args.text.now (texts_of hs))) (c.as_slice.ensures.value ∙ c.self.view_is)
    ∙ found_at c.args.text.now c.args.self.now
