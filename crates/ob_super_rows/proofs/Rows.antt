-- The rows, by computing.
use Rattle.std.specs.Prelude.{refl, true, [], ◌∷◌}
use Rattle.std.specs.Fmt.{digits}
use Rattle.ob_super.specs.Turns.{Broken, Down}
use Rattle.ob_super.specs.Dialling.{dialled}
use Rattle.ob_super.specs.Rounds.{dial}
use Rattle.ob_super_rows.specs.Worked.{one}
use Rattle.ob_super_rows.specs.Rows.{Empty, Bare, Twice, Bounds, TwoConfigured, ShownRoot, ShownList, ShownObject, ShownNowhere, DialFails, InTurn, BesideOneUp, LapsedFirst, ErrBringsDown, AddedAndPolled}

pub empty : Empty
unfolding digits
empty = refl

pub bare : Bare
unfolding digits
bare = refl

pub twice : Twice
unfolding digits
twice = refl

pub bounds : Bounds
unfolding digits
bounds = (refl, refl)

pub two_configured : TwoConfigured
unfolding digits
two_configured = λ lobby e. (rw e refl, rw e refl)

pub shown_root : ShownRoot
unfolding digits
shown_root = refl

pub shown_list : ShownList
unfolding digits
shown_list = (refl, refl)

pub shown_object : ShownObject
unfolding digits
shown_object = refl

pub shown_nowhere : ShownNowhere
unfolding digits
shown_nowhere = (refl, refl, refl, refl, refl)

pub dial_fails : DialFails
unfolding digits
dial_fails =
    record {
      number_is = refl;
      round = record {
        asked = Down ∷ [];
        places = 0 ∷ [];
        left = dialled 1 Down ∷ [];
        back_asked = [];
        back_dialled = [];
        visits_are = refl;
        asks = ([], [], refl, (refl, refl), refl);
        dialling = (dialled 1 Down ∷ [], Down ∷ [], dial one true ∷ [], [], [], [], refl, refl, refl, (record { turns = Broken ∷ []; are = (tt, refl); new_is = refl; dials_are = refl; back = ([], [], refl, refl, refl) }, refl, refl, refl), (refl, refl, refl, refl, refl));
        fails_are = refl;
      };
    }

pub in_turn : InTurn
unfolding digits
in_turn = (refl, refl, refl, refl, refl, refl, refl, refl, refl)

pub beside_one_up : BesideOneUp
unfolding digits
beside_one_up = (refl, refl, refl, refl)

pub lapsed_first : LapsedFirst
unfolding digits
lapsed_first = (refl, refl, refl, refl)

pub err_brings_down : ErrBringsDown
unfolding digits
err_brings_down = refl

pub added_and_polled : AddedAndPolled
unfolding digits
added_and_polled = (refl, refl, refl)
