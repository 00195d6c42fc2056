use Rattle.std.proofs.Common.{◌∷◌, [], Some}
use Rattle.ob_turn.specs.Callers.{own}
use Rattle.ob_machine.specs.History.{entry}
use Rattle.ob_turn.proofs.desk.Desk.ask.Given as goal

abbrev pub ghosts-take_turn : goal.ghosts-take_turn
ghosts-take_turn g a = record { opening = Some a.self.now.opening; entries = [] }

-- the one entry of this call
abbrev pub ghosts-end_turn : goal.ghosts-end_turn
ghosts-end_turn g a = record { opening = Some a.self.now.opening; entries = entry (own a.seat.now.me.0.numbers) a.request.now a.moment a.answer.now ∷ [] }
