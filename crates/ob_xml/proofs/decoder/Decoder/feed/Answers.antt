use Rattle.std.proofs.Common.{◌≡◌, ◌+◌, ◌-◌, false, ◌++◌, length, Result, sym, subst, inr, arith, length-append}
use Rattle.ob_xml.specs.declared.reading.Reading.{Reading}
use Rattle.ob_xml.specs.declared.refused.Refused.{Refused}
use Rattle.ob_xml.specs.Judged.{max_len}
use Rattle.ob_xml.specs.Decoding.{HasTaken, Feeds, IsCause}
use Rattle.ob_xml.proofs.Takings.{taken_len}
use Rattle.ob_xml.proofs.Feeding.{read_on, too_long, feeds_whole, feeds_front, feeds_refused}
use Rattle.ob_xml.proofs.decoder.Decoder.feed.Goals as goal

pub returns-then-piece-room-clause-exact : goal.returns-then-piece-room-clause-exact
returns-then-piece-room-clause-exact c = λ bytes h.
    let old : HasTaken c.replace-reading.result bytes = subst (λ (r : Reading). HasTaken r bytes) (sym c.replace-reading.ensures.value) h.1 in
    let room : length bytes + (16777216 - c.len-2.result) ≡ max_len = omega (arith, c.len-2.ensures, c.args.self.now.reading.kept.ok.0, taken_len c.args.self.now.reading bytes h.1, h.1.short) in
    let front : HasTaken c.in-Ok.reading (bytes ++ c.front_of-front.result.now) = c.in-Ok.ensures bytes old in
    subst (λ (r : Result (Unit {0}) Refused). Feeds (bytes ++ c.args.piece.now) r c.refuse.new.self) (sym c.refuse.ensures.told) (
      c.refuse.ensures.kept,
      inr (too_long c.in-Ok.reading bytes c.args.piece.now (16777216 - c.len-2.result)
          (feeds_front c.in-Ok.reading bytes c.args.piece.now c.front_of-front.result.now (16777216 - c.len-2.result) front c.front_of-front.ensures.value) c.in-Ok.reading.unfinished room c.if-piece-room.true),
    )

pub returns-else-piece-room-clause-exact : goal.returns-else-piece-room-clause-exact
returns-else-piece-room-clause-exact c = λ bytes h.
    let old : HasTaken c.replace-reading.result bytes = subst (λ (r : Reading). HasTaken r bytes) (sym c.replace-reading.ensures.value) h.1 in
    let whole : HasTaken c.in-Ok.reading (bytes ++ c.args.piece.now) =
    feeds_whole c.in-Ok.reading bytes c.args.piece.now c.front_of-front.result.now (16777216 - c.len-2.result) (c.in-Ok.ensures bytes old) c.front_of-front.ensures.value c.if-piece-room.false in
    ((h.0, subst (λ (r : Reading). HasTaken r (bytes ++ c.args.piece.now)) (sym c.replace.ensures.after) whole), read_on c.in-Ok.reading (bytes ++ c.args.piece.now) whole c.in-Ok.reading.unfinished)

pub returns-in-Err-clause-exact : goal.returns-in-Err-clause-exact
returns-in-Err-clause-exact c = λ bytes h.
    let old : HasTaken c.replace-reading.result bytes = subst (λ (r : Reading). HasTaken r bytes) (sym c.replace-reading.ensures.value) h.1 in
    let room : length bytes + (16777216 - c.len-2.result) ≡ max_len = omega (arith, c.len-2.ensures, c.args.self.now.reading.kept.ok.0, taken_len c.args.self.now.reading bytes h.1, h.1.short) in
    let all : c.len.result + length c.args.piece.now ≡ length (bytes ++ c.args.piece.now) = omega (arith, c.len.ensures, c.args.self.now.reading.kept.ok.0, taken_len c.args.self.now.reading bytes h.1, length-append bytes c.args.piece.now) in
    subst (λ (r : Result (Unit {0}) Refused). Feeds (bytes ++ c.args.piece.now) r c.refuse-in-Err.new.self) (sym c.refuse-in-Err.ensures.told) (
      c.refuse-in-Err.ensures.kept,
      subst (λ (r : Refused). IsCause (bytes ++ c.args.piece.now) false r) (sym c.of_all.ensures)
          (feeds_refused bytes c.args.piece.now c.front_of-front.result.now (16777216 - c.len-2.result) (c.len.result + length c.args.piece.now) c.in-Err.refused c.front_of-front.ensures.value room all (c.in-Err.ensures bytes old)),
    )
