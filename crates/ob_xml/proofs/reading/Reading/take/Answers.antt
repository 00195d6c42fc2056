use Rattle.std.proofs.Common.{◌≤◌, List, ℕ, ◌++◌, length, refl, subst, arith}
use Rattle.ob_xml.specs.Judged.{max_len}
use Rattle.ob_xml.specs.Decoding.{Takes}
use Rattle.ob_xml.proofs.Takings.{taken_more, with_piece, whole_is, length_is}
use Rattle.ob_xml.proofs.reading.Reading.take.Goals as goal

pub returns-in-Some : goal.returns-in-Some
returns-in-Some c = λ bytes h.
    let within : c.args.self.at ≤ length c.args.self.kept.items = omega (arith, c.args.self.inside, c.args.self.kept.ok.0) in
    let short : length (bytes ++ c.args.piece.now) ≤ max_len = omega (arith, c.requires, c.args.self.kept.ok.0, length_is c.args.self bytes c.args.piece.now h) in
    taken_more c.judged_once.ensures c.args.self _ bytes c.args.piece.now h refl c.in-Ok.ensures.items refl refl within c.in-Some.ensures short

pub returns-in-None : goal.returns-in-None
returns-in-None c = λ bytes h.
    subst (λ (xs : List ℕ). Takes xs c.go_on.result) (whole_is c.args.self bytes c.args.piece.now c.in-Ok.kept.items h c.in-Ok.ensures.items)
    (c.go_on.ensures h.gone h.count (with_piece c.judged_once.ensures c.args.self bytes c.args.piece.now c.in-Ok.kept.items h c.in-Ok.ensures.items))
