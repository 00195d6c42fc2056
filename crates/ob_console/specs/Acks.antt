-- Acknowledging an alarm of a board. Source: oBIX 1.1, chapter 15 (Alarming).
use Rattle.std.specs.Prelude.{◌≡◌, ◌⊎◌, ◌≤◌, ℕ, Bool, true, false, codes, List, [], ◌∷◌, Option, Some, None, Result, option_and_then}
use Rattle.std.specs.declared.result.Result.TheVariants.{Ok, Err}
use Rattle.url.specs.Parts.{Parts}
use Rattle.ob_io.specs.Faults.{Rose}
use Rattle.ob_io.specs.Links.{Inlet}
use Rattle.ob_http.specs.Asking.{request_text}
use Rattle.ob_client.specs.Sessions.{body_text, Asks, Reads, Answers, Fails, is_last}
use Rattle.ob_client.specs.declared.call_fault.CallFault.{CallFault}
use Rattle.ob_client.specs.declared.call_fault.CallFault.TheVariants as session
use Rattle.ob_values.specs.declared.verb.Verb.TheVariants.{Post}
use Rattle.ob_href.specs.Href.{resolved_path}
use Rattle.ob_href.specs.declared.fault.HrefFault.{HrefFault}
use Rattle.ob_href.specs.declared.fault.HrefFault.TheVariants as href
use Rattle.ob_values.specs.declared.value.Value.TheVariants as value
use Rattle.ob_object.specs.declared.kind.Kind.TheVariants as kind
use Rattle.ob_object.specs.declared.head.Slot.TheVariants.{Is}
use Rattle.ob_object.specs.Object.{Object, none, empty_head, in_row}
use Rattle.ob_watching.specs.WatchOuts.{Text}
use Rattle.ob_console.specs.Boards.{Line, line_at}
use Rattle.ob_console.specs.declared.ack_call.AckFault.{AckFault}
use Rattle.ob_console.specs.declared.ack_call.AckFault.TheVariants.{NoSuch, Origin, Call, Memory}

-- the href of the op `ack` of an alarm of the board, if there is such an alarm and it has one
abbrev pub op_of : List Line → Text → Option Text
op_of board href = option_and_then (λ l. l.value.ack) (line_at href board)

abbrev pub path_or_origin : Result Text HrefFault → Result Text AckFault
path_or_origin (Ok target) = Ok target
path_or_origin (Err e) = Err Origin

-- where that op is called: the path that its href resolves to
abbrev pub leads_to : Parts → Option Text → Result Text AckFault
leads_to base None = Err NoSuch
leads_to base (Some op) = path_or_origin (resolved_path base op)

-- It was found to lead there, or why it leads nowhere; or there was no memory.
abbrev pub FindsTarget : Result Text AckFault → Result Text AckFault → Type 0
FindsTarget leads (Ok target) = leads ≡ Ok target
FindsTarget leads (Err NoSuch) = leads ≡ Err NoSuch
FindsTarget leads (Err Origin) = leads ≡ Err Origin
FindsTarget leads (Err (Call f)) = ⊥
FindsTarget leads (Err Memory) = Unit {0}

abbrev pub fault_of : HrefFault → AckFault
fault_of href.Memory = Memory
fault_of _ = Origin

abbrev pub user_child : Text → Object
user_child user = record { head = record (empty_head kind.Str) { name = Some (codes "ackUser"); slot = Is (value.Str user) }; inner = none }

-- AckAlarmIn of this user
abbrev pub ack_in : Text → Object
ack_in user = record { head = record (empty_head kind.Obj) { is = Some (codes "obix:AckAlarmIn" ∷ []) }; inner = in_row (user_child user ∷ []) }

-- ---- the answers

-- What a session tells before or after a call: what was written to its link and read from it, how often each failed, its
-- host, the bytes that are kept, and whether it is dead.
pub record Standing : Type 0 where
  pub written : Option (List ℕ)
  pub read : Inlet
  pub read_faults : ℕ
  pub write_faults : ℕ
  pub host : Text
  pub kept : List ℕ
  pub dead : Bool

abbrev pub standing : Option (List ℕ) → Inlet → ℕ → ℕ → Text → List ℕ → Bool → Standing
standing written read read_faults write_faults host kept dead = record { written = written; read = read; read_faults = read_faults; write_faults = write_faults; host = host; kept = kept; dead = dead }

-- All that a session says of a call, whose request has this text for a host.
pub record Calls (request : Text → List ℕ) (old new : Standing) (answer : Result Object CallFault) : Type 0 where
  pub died : old.dead ≡ true → (answer ≡ Err session.Dead) × (new ≡ old)
  pub alive : Fails answer session.Dead → old.dead ≡ true
  pub asks : old.dead ≡ false → Asks old.written new.written (request old.host) answer
  pub reads : old.dead ≡ false → Reads Answers old.read new.read old.kept new.kept answer
  pub stands : old.dead ≡ false → (new.host ≡ old.host) × (new.dead ≡ is_last answer)
  pub later : (old.read_faults ≤ new.read_faults) × (old.write_faults ≤ new.write_faults)
  pub cause : Fails answer session.Link → Rose old.read_faults new.read_faults ⊎ Rose old.write_faults new.write_faults

-- a Post of AckAlarmIn with this user
abbrev pub ack_request : Text → Text → Text → List ℕ
ack_request target user host = request_text Post target host (body_text (Some (ack_in user)))

-- It was asked, and this is the session's answer; or there was no memory for what it is called with, and nothing was asked.
abbrev pub CallsAck : Text → Text → Standing → Standing → Result Object CallFault → Type 0
CallsAck target user old new answer = Calls (ack_request target user) old new answer ⊎ ((answer ≡ Err session.Memory) × (new ≡ old))

-- the session's answer was its want of memory
abbrev pub FindsNoMemory : Result Text AckFault → Text → Standing → Standing → Type 0
FindsNoMemory leads user old new =
    (target : Text) × (leads ≡ Ok target) × Calls (ack_request target user) old new (Err session.Memory)

-- The op of the alarm was called with this user, and this is the session's answer; or NoSuch exactly where the board has no
-- such alarm with an op, Origin exactly where its href leads to no place on the server, and the session is as it was. Want of
-- memory is Memory, whoever found none: the session is as it was, or it is the session's answer.
abbrev pub Acknowledges : Result Text AckFault → Text → Standing → Standing → Result Object AckFault → Type 0
Acknowledges leads user old new (Ok o) = (target : Text) × (leads ≡ Ok target) × Calls (ack_request target user) old new (Ok o)
Acknowledges leads user old new (Err (Call session.Memory)) = ⊥
Acknowledges leads user old new (Err (Call f)) = (target : Text) × (leads ≡ Ok target) × Calls (ack_request target user) old new (Err f)
Acknowledges leads user old new (Err NoSuch) = (leads ≡ Err NoSuch) × (new ≡ old)
Acknowledges leads user old new (Err Origin) = (leads ≡ Err Origin) × (new ≡ old)
Acknowledges leads user old new (Err Memory) = (new ≡ old) ⊎ FindsNoMemory leads user old new

-- what the session's answer is to who acknowledges
abbrev pub answer_as : Result Object CallFault → Result Object AckFault
answer_as (Ok o) = Ok o
answer_as (Err session.Memory) = Err Memory
answer_as (Err f) = Err (Call f)
