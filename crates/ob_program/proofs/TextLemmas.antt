-- A text of the program's own.
use Rattle.std.proofs.Common.{◌≡◌, ◌≢◌, ◌⊎◌, inl, inr, refl, sym, subst, ◌∙◌, List, [], ℕ, Option, Result, Ok, Err}
use Rattle.ob_io.specs.Faults.{Rose, HasCause}
use Rattle.ob_io.specs.Told.{Sends}
use Rattle.ob_program.specs.declared.exit.Exit.{Exit}
use Rattle.ob_program.specs.declared.exit.Exit.TheVariants as exits
use Rattle.ob_program.specs.Telling.{ErrorsTold, Tells}
use Rattle.ob_program.specs.Text.{exit_of_write, TextRan}

fault_not_ok : exits.WriteFault ≡ exits.Ok → ⊥
fault_not_ok e = cc

ok_not_usage : exits.Ok ≡ exits.Usage → ⊥
ok_not_usage e = cc

fault_not_usage : exits.WriteFault ≡ exits.Usage → ⊥
fault_not_usage e = cc

write_whole : {T E : Type 0} (held held' : Option (List ℕ)) (r : Result T E) (text : List ℕ) (s : Sends held held' r text) → exit_of_write r ≡ exits.Ok → s.sent ≡ text
write_whole held held' (Ok x) text s is_ok = s.whole
write_whole held held' (Err e) text s is_ok = absurd (fault_not_ok is_ok)

write_ends : {T E : Type 0} (writes writes' : ℕ) (r : Result T E) → HasCause writes writes' r
    → (exit_of_write r ≡ exits.Ok) ⊎ ((exit_of_write r ≡ exits.WriteFault) × Rose writes writes')
write_ends writes writes' (Ok x) cause = inl refl
write_ends writes writes' (Err e) cause = inr (refl, cause.failed)

-- the bytes of a text were written
pub text_ran : {T E : Type 0} (text bytes : List ℕ) (held held' : Option (List ℕ)) (writes writes' : ℕ) (e e' : ErrorsTold) (r : Result T E) (exit : Exit) → bytes ≡ text → exit ≡ exit_of_write r
    → Sends held held' r bytes → HasCause writes writes' r → Tells e e' exit [] → TextRan text held held' writes writes' e e' exit
text_ran text bytes held held' writes writes' e e' r exit same is sends cause says =
    subst (λ (t : List ℕ). TextRan t held held' writes writes' e e' exit) same (record {
      written = sends.sent;
      gained = sends.gained;
      front = sends.front;
      whole = λ all. write_whole held held' r bytes sends (sym is ∙ all);
      ends = subst (λ (x : Exit). (x ≡ exits.Ok) ⊎ ((x ≡ exits.WriteFault) × Rose writes writes')) (sym is) (write_ends writes writes' r cause);
      says = says;
    })

pub write_not_usage : {T E : Type 0} (r : Result T E) → exit_of_write r ≢ exits.Usage
write_not_usage (Ok x) is_usage = ok_not_usage is_usage
write_not_usage (Err e) is_usage = fault_not_usage is_usage
