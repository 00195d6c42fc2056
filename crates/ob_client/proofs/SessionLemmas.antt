-- What a call reads, step by step.
use Rattle.std.proofs.Common.{◌≡◌, ◌⊎◌, ℕ, true, false, List, [], ◌++◌, refl, sym, ap, subst, ◌∙◌, append_assoc, append-nil, inl, inr, take}
use Rattle.std.specs.Prelude.{Option, Some, None, Result, Ok, Err}
use Rattle.std.specs.Io.KnownBytes.{IsAtEnd}
use Rattle.ob_io.specs.Links.{Inlet, inlet, Takes, Takes-none, Takes-then}
use Rattle.ob_io.specs.Told.{Gains, Gains-none}
use Rattle.ob_object.specs.Object.{Object}
use Rattle.ob_http.specs.Reply.{Response}
use Rattle.ob_http.specs.Replies.{Replied, AreTaken, TakesReply, TakesNextReply, reply_response}
use Rattle.ob_http.specs.Stream.{resting, faulted}
use Rattle.ob_http.specs.declared.reply.Reply.{Reply}
use Rattle.ob_http.specs.declared.fault.FrameFault.{FrameFault}
use Rattle.ob_http.specs.declared.fault.FrameFault.TheVariants as frame
use Rattle.ob_xml.specs.Decoding.{IsCause}
use Rattle.ob_xml.specs.declared.refused.Refused.{Refused}
use Rattle.ob_xml.specs.declared.refused.Why.{Why}
use Rattle.ob_xml.specs.declared.refused.Why.TheVariants as why
use Rattle.ob_client.specs.declared.call_fault.CallFault.{CallFault}
use Rattle.ob_client.specs.declared.call_fault.CallFault.TheVariants.{Link, PeerStatus, PeerDocument, PeerFrame, Ended, Dead, Memory}
use Rattle.ob_client.specs.Sessions.{Comes, Gives, Answers, HasTaken, Reads, Asks, ReadsPiece, Fails, is_of_asking, is_of_reading, fault_of, refused_by, refusal_of}

pub never : {A : Type 0} → false ≡ true → A
never e = absurd (let f : false ≡ true = e in cc)

-- ---- the next reply

-- a fault of framing
pub comes_fault : (stream : List ℕ) (replies : List Response) (kept : List ℕ) (f : FrameFault) → (((at : ℕ) × Replied stream replies (faulted f at)) ⊎ (f ≡ frame.Memory)) → Comes stream replies kept (Err (fault_of f))
comes_fault stream replies kept frame.Head h = elim h [ inl x ↦ x | inr e ↦ absurd (let f : frame.Head ≡ frame.Memory = e in cc) ]
comes_fault stream replies kept frame.HeadBig h = elim h [ inl x ↦ x | inr e ↦ absurd (let f : frame.HeadBig ≡ frame.Memory = e in cc) ]
comes_fault stream replies kept frame.NoLength h = elim h [ inl x ↦ x | inr e ↦ absurd (let f : frame.NoLength ≡ frame.Memory = e in cc) ]
comes_fault stream replies kept frame.Length h = elim h [ inl x ↦ x | inr e ↦ absurd (let f : frame.Length ≡ frame.Memory = e in cc) ]
comes_fault stream replies kept frame.BodyBig h = elim h [ inl x ↦ x | inr e ↦ absurd (let f : frame.BodyBig ≡ frame.Memory = e in cc) ]
comes_fault stream replies kept frame.Memory h = tt

-- no fault of framing is the link's end
pub not_ended : (f : FrameFault) → fault_of f ≡ Ended → ⊥
not_ended frame.Head e = let g : PeerFrame frame.Head ≡ Ended = e in cc
not_ended frame.HeadBig e = let g : PeerFrame frame.HeadBig ≡ Ended = e in cc
not_ended frame.NoLength e = let g : PeerFrame frame.NoLength ≡ Ended = e in cc
not_ended frame.Length e = let g : PeerFrame frame.Length ≡ Ended = e in cc
not_ended frame.BodyBig e = let g : PeerFrame frame.BodyBig ≡ Ended = e in cc
not_ended frame.Memory e = let g : Memory ≡ Ended = e in cc

pub not_link : (f : FrameFault) → fault_of f ≡ Link → ⊥
not_link frame.Head e = let g : PeerFrame frame.Head ≡ Link = e in cc
not_link frame.HeadBig e = let g : PeerFrame frame.HeadBig ≡ Link = e in cc
not_link frame.NoLength e = let g : PeerFrame frame.NoLength ≡ Link = e in cc
not_link frame.Length e = let g : PeerFrame frame.Length ≡ Link = e in cc
not_link frame.BodyBig e = let g : PeerFrame frame.BodyBig ≡ Link = e in cc
not_link frame.Memory e = let g : Memory ≡ Link = e in cc

-- nor that of a session which is dead
pub not_dead : (f : FrameFault) → fault_of f ≡ Dead → ⊥
not_dead frame.Head e = let g : PeerFrame frame.Head ≡ Dead = e in cc
not_dead frame.HeadBig e = let g : PeerFrame frame.HeadBig ≡ Dead = e in cc
not_dead frame.NoLength e = let g : PeerFrame frame.NoLength ≡ Dead = e in cc
not_dead frame.Length e = let g : PeerFrame frame.Length ≡ Dead = e in cc
not_dead frame.BodyBig e = let g : PeerFrame frame.BodyBig ≡ Dead = e in cc
not_dead frame.Memory e = let g : Memory ≡ Dead = e in cc

-- nor is a fault of reading or of asking
pub reading_lives : (e : CallFault) → is_of_reading e ≡ true → e ≡ Dead → ⊥
reading_lives e h is = never (sym (ap is_of_reading is) ∙ h)

pub asking_lives : (e : CallFault) → is_of_asking e ≡ true → e ≡ Dead → ⊥
asking_lives e h is = never (sym (ap is_of_asking is) ∙ h)

-- a piece that wasn't read behind bytes that hold no whole reply
comes_stop : (stream : List ℕ) (replies : List Response) (old new piece : List ℕ) (e : CallFault) → is_of_reading e ≡ true → (e ≡ Ended → (piece ≡ []) × (new ≡ old))
    → Replied stream replies (resting old) → Comes (stream ++ piece) replies new (Err e)
comes_stop stream replies old new piece Link r none rest = tt
comes_stop stream replies old new piece Memory r none rest = tt
comes_stop stream replies old new piece Ended r none rest =
    let n = none refl in
    subst (λ (k : List ℕ). Replied (stream ++ piece) replies (resting k)) (sym n.1)
    (subst (λ (p : List ℕ). Replied (stream ++ p) replies (resting old)) (sym n.0) (subst (λ (s : List ℕ). Replied s replies (resting old)) (sym (append-nil stream)) rest))
comes_stop stream replies old new piece (PeerStatus n) r none rest = never r
comes_stop stream replies old new piece (PeerDocument f) r none rest = never r
comes_stop stream replies old new piece (PeerFrame f) r none rest = never r
comes_stop stream replies old new piece Dead r none rest = never r

abbrev Held : List ℕ → List ℕ → List ℕ → Type 0
Held first mid taken = (stream : List ℕ) (replies : List Response) → AreTaken stream replies first → AreTaken (stream ++ taken) replies mid

abbrev Next : List ℕ → List ℕ → Result (Option Reply) FrameFault → Type 0
Next old new answer = (stream : List ℕ) (replies : List Response) → AreTaken stream replies old → TakesNextReply stream replies old new answer

-- what was read before, and a piece behind it that wasn't read
pub reads_stop : (u v w : Inlet) (first mid old new taken : List ℕ) (e : CallFault) (o : Option Reply) → o ≡ None → Takes u v taken → Held first mid taken → Next mid old (Ok o)
    → ReadsPiece v w old new (Err e) → Reads Comes u w first new (Err e)
reads_stop u v w first mid old new taken e o is takes held next piece = record {
  taken = taken ++ piece.taken;
  takes = Takes-then u v w taken piece.taken takes piece.takes;
  tells = λ stream replies h.
      let rest = subst (λ (x : Option Reply). TakesNextReply (stream ++ taken) replies mid old (Ok x)) is (next (stream ++ taken) replies (held stream replies h)) in
      subst (λ (s : List ℕ). Comes s replies new (Err e)) (append_assoc stream taken piece.taken)
      (comes_stop (stream ++ taken) replies mid new piece.taken e piece.causes (λ f. ((piece.none f).0, (piece.none f).1 ∙ rest.1)) rest.0);
  ended = piece.ended;
}

-- a reply
pub reads_reply : (u v : Inlet) (first mid new taken : List ℕ) (reply : Reply) (o : Option Reply) → o ≡ Some reply → Takes u v taken → Held first mid taken → Next mid new (Ok o) → Reads Comes u v first new (Ok reply)
reads_reply u v first mid new taken reply o is takes held next = record {
  taken = taken;
  takes = takes;
  tells = λ stream replies h. subst (λ (x : Option Reply). TakesNextReply (stream ++ taken) replies mid new (Ok x)) is (next (stream ++ taken) replies (held stream replies h));
  ended = λ f. absurd f;
}

-- a fault of framing
pub reads_fault : (u v : Inlet) (first mid new taken : List ℕ) (f : FrameFault) (e : CallFault) → e ≡ fault_of f → Takes u v taken → Held first mid taken → Next mid new (Err f) → Reads Comes u v first new (Err e)
reads_fault u v first mid new taken f e is takes held next = record {
  taken = taken;
  takes = takes;
  tells = λ stream replies h. subst (λ (x : CallFault). Comes (stream ++ taken) replies new (Err x)) (sym is) (comes_fault (stream ++ taken) replies new f (next (stream ++ taken) replies (held stream replies h)).0);
  ended = λ g. absurd (not_ended f (sym is ∙ g));
}

-- a piece that was read
pub piece_read : (u w : Inlet) (old new buf piece : List ℕ) (count : ℕ) → Takes u w (take count buf) × (count ≡ 0 → IsAtEnd w.left) → piece ≡ take count buf
    → ((stream : List ℕ) (replies : List Response) → AreTaken stream replies old → AreTaken (stream ++ piece) replies new) → ReadsPiece u w old new (Ok tt)
piece_read u w old new buf piece count bytes is taken = record {
  taken = take count buf;
  takes = bytes.0;
  held = λ stream replies h. inr (subst (λ (p : List ℕ). AreTaken (stream ++ p) replies new) is (taken stream replies h));
  ended = λ f. absurd f;
  none = λ f. absurd f;
  causes = tt;
}

-- and stands behind what was read before
pub held_behind : (v w : Inlet) (first mid old new taken : List ℕ) → old ≡ mid → Held first mid taken → (piece : ReadsPiece v w old new (Ok tt)) → Held first new (taken ++ piece.taken)
held_behind v w first mid old new taken same held piece = λ stream replies h.
    elim (piece.held (stream ++ taken) replies (subst (λ (k : List ℕ). AreTaken (stream ++ taken) replies k) (sym same) (held stream replies h))) [
      | inl m ↦ absurd m
      | inr t ↦ subst (λ (s : List ℕ). AreTaken s replies new) (append_assoc stream taken piece.taken) t
    ]

-- the framer is as it was where it has no whole reply
pub same_kept : (old new : List ℕ) (o : Option Reply) → o ≡ None → TakesReply old new (Ok o) → new ≡ old
same_kept old new o is t = (subst (λ (x : Option Reply). TakesReply old new (Ok x)) is t).1

-- ---- an answer

gives_why : (b : Response) (f : Refused) (w : Why) → f.why ≡ w → b.status ≡ 200 → IsCause b.body true f → Gives b (Err (refused_by f w))
gives_why b f why.Memory is ok cause = tt
gives_why b f why.Markup is ok cause = (ok, elim cause [ inl m ↦ absurd (let g : why.Markup ≡ why.Memory = sym is ∙ m.0 in cc) | inr j ↦ j ])
gives_why b f why.Element is ok cause = (ok, elim cause [ inl m ↦ absurd (let g : why.Element ≡ why.Memory = sym is ∙ m.0 in cc) | inr j ↦ j ])
gives_why b f why.Mismatch is ok cause = (ok, elim cause [ inl m ↦ absurd (let g : why.Mismatch ≡ why.Memory = sym is ∙ m.0 in cc) | inr j ↦ j ])
gives_why b f why.Twice is ok cause = (ok, elim cause [ inl m ↦ absurd (let g : why.Twice ≡ why.Memory = sym is ∙ m.0 in cc) | inr j ↦ j ])
gives_why b f why.SameName is ok cause = (ok, elim cause [ inl m ↦ absurd (let g : why.SameName ≡ why.Memory = sym is ∙ m.0 in cc) | inr j ↦ j ])
gives_why b f (why.Value v) is ok cause = (ok, elim cause [ inl m ↦ absurd (let g : why.Value v ≡ why.Memory = sym is ∙ m.0 in cc) | inr j ↦ j ])
gives_why b f why.Text is ok cause = (ok, elim cause [ inl m ↦ absurd (let g : why.Text ≡ why.Memory = sym is ∙ m.0 in cc) | inr j ↦ j ])
gives_why b f why.Deep is ok cause = (ok, elim cause [ inl m ↦ absurd (let g : why.Deep ≡ why.Memory = sym is ∙ m.0 in cc) | inr j ↦ j ])
gives_why b f why.Big is ok cause = (ok, elim cause [ inl m ↦ absurd (let g : why.Big ≡ why.Memory = sym is ∙ m.0 in cc) | inr j ↦ j ])
gives_why b f why.Ended is ok cause = (ok, elim cause [ inl m ↦ absurd (let g : why.Ended ≡ why.Memory = sym is ∙ m.0 in cc) | inr j ↦ j ])

pub gives_refusal : (b : Response) (f : Refused) → b.status ≡ 200 → IsCause b.body true f → Gives b (Err (refusal_of f))
gives_refusal b f ok cause = gives_why b f f.why refl ok cause

-- a reply that was taken, and what it tells
pub answers_taken : (stream : List ℕ) (replies : List Response) (kept : List ℕ) (r : Response) (answer : Result Object CallFault) → HasTaken stream replies r kept → Gives r answer → Answers stream replies kept answer
answers_taken stream replies kept r (Ok o) h g = (r, h, g)
answers_taken stream replies kept r (Err (PeerStatus n)) h g = (r, h, g)
answers_taken stream replies kept r (Err (PeerDocument f)) h g = (r, h, g)
answers_taken stream replies kept r (Err Memory) h g = tt
answers_taken stream replies kept r (Err Link) h g = absurd g
answers_taken stream replies kept r (Err (PeerFrame f)) h g = absurd g
answers_taken stream replies kept r (Err Ended) h g = absurd g
answers_taken stream replies kept r (Err Dead) h g = absurd g

-- no reply came
pub answers_stop : (stream : List ℕ) (replies : List Response) (kept : List ℕ) (e : CallFault) → Comes stream replies kept (Err e) → Answers stream replies kept (Err e)
answers_stop stream replies kept (PeerFrame f) h = h
answers_stop stream replies kept Ended h = h
answers_stop stream replies kept Link h = tt
answers_stop stream replies kept Memory h = tt
answers_stop stream replies kept (PeerStatus n) h = absurd h
answers_stop stream replies kept (PeerDocument f) h = absurd h
answers_stop stream replies kept Dead h = absurd h

-- nothing was read
answers_none : (stream : List ℕ) (replies : List Response) (kept : List ℕ) (e : CallFault) → is_of_asking e ≡ true → Answers stream replies kept (Err e)
answers_none stream replies kept Link h = tt
answers_none stream replies kept Memory h = tt
answers_none stream replies kept (PeerStatus n) h = never h
answers_none stream replies kept (PeerDocument f) h = never h
answers_none stream replies kept (PeerFrame f) h = never h
answers_none stream replies kept Ended h = never h
answers_none stream replies kept Dead h = never h

asking_ended : (e : CallFault) → is_of_asking e ≡ true → e ≡ Ended → ⊥
asking_ended Link h e = let g : Link ≡ Ended = e in cc
asking_ended Memory h e = let g : Memory ≡ Ended = e in cc
asking_ended (PeerStatus n) h e = never h
asking_ended (PeerDocument f) h e = never h
asking_ended (PeerFrame f) h e = never h
asking_ended Ended h e = never h
asking_ended Dead h e = never h

pub reads_none : (u v : Inlet) (kept : List ℕ) (e : CallFault) → v ≡ u → is_of_asking e ≡ true → Reads Answers u v kept kept (Err e)
reads_none u v kept e same asking = record {
  taken = [];
  takes = subst (λ (w : Inlet). Takes u w []) (sym same) (Takes-none u);
  tells = λ stream replies h. answers_none (stream ++ []) replies kept e asking;
  ended = λ is. absurd (asking_ended e asking is);
}

gives_ended : (r : Response) (answer : Result Object CallFault) → Gives r answer → Fails answer Ended → ⊥
gives_ended r (Ok o) g e = e
gives_ended r (Err (PeerStatus n)) g e = let f : PeerStatus n ≡ Ended = e in cc
gives_ended r (Err (PeerDocument d)) g e = let f : PeerDocument d ≡ Ended = e in cc
gives_ended r (Err Memory) g e = let f : Memory ≡ Ended = e in cc
gives_ended r (Err Link) g e = g
gives_ended r (Err (PeerFrame d)) g e = g
gives_ended r (Err Ended) g e = g
gives_ended r (Err Dead) g e = g

pub gives_link : (r : Response) (answer : Result Object CallFault) → Gives r answer → Fails answer Link → ⊥
gives_link r (Ok o) g e = e
gives_link r (Err (PeerStatus n)) g e = let f : PeerStatus n ≡ Link = e in cc
gives_link r (Err (PeerDocument d)) g e = let f : PeerDocument d ≡ Link = e in cc
gives_link r (Err Memory) g e = let f : Memory ≡ Link = e in cc
gives_link r (Err Link) g e = g
gives_link r (Err (PeerFrame d)) g e = g
gives_link r (Err Ended) g e = g
gives_link r (Err Dead) g e = g

pub gives_dead : (r : Response) (answer : Result Object CallFault) → Gives r answer → Fails answer Dead → ⊥
gives_dead r (Ok o) g e = e
gives_dead r (Err (PeerStatus n)) g e = let f : PeerStatus n ≡ Dead = e in cc
gives_dead r (Err (PeerDocument d)) g e = let f : PeerDocument d ≡ Dead = e in cc
gives_dead r (Err Memory) g e = let f : Memory ≡ Dead = e in cc
gives_dead r (Err Link) g e = g
gives_dead r (Err (PeerFrame d)) g e = g
gives_dead r (Err Ended) g e = g
gives_dead r (Err Dead) g e = g

-- the reply's bytes were read, and it tells this answer
pub reads_answer : (u v : Inlet) (old new : List ℕ) (reply : Reply) (answer : Result Object CallFault) → Reads Comes u v old new (Ok reply) → Gives (reply_response reply) answer → Reads Answers u v old new answer
reads_answer u v old new reply answer r g = record {
  taken = r.taken;
  takes = r.takes;
  tells = λ stream replies h. answers_taken (stream ++ r.taken) replies new (reply_response reply) answer (r.tells stream replies h) g;
  ended = λ is. absurd (gives_ended (reply_response reply) answer g is);
}

-- no reply came
pub reads_failed : (u v : Inlet) (old new : List ℕ) (e : CallFault) → Reads Comes u v old new (Err e) → Reads Answers u v old new (Err e)
reads_failed u v old new e r = record {
  taken = r.taken;
  takes = r.takes;
  tells = λ stream replies h. answers_stop (stream ++ r.taken) replies new e (r.tells stream replies h);
  ended = r.ended;
}

-- the reading starts where the asking left the link
pub reads_from : {T : Type 0} (Tells : List ℕ → List Response → List ℕ → Result T CallFault → Type 0) (u v w : Inlet) (old new : List ℕ) (result : Result T CallFault) → v ≡ u → Reads Tells v w old new result → Reads Tells u w old new result
reads_from Tells u v w old new result same r = subst (λ (x : Inlet). Reads Tells x w old new result) same r

-- ---- a request

pub asks_again : {T S : Type 0} (before after : Option (List ℕ)) (request : List ℕ) (e : CallFault) → Asks {T = T} before after request (Err e) → Asks {T = S} before after request (Err e)
asks_again before after request e a = record { sent = a.sent; gained = a.gained; front = a.front; whole = a.whole }

whole_sent : {T : Type 0} (sent request : List ℕ) (x : T) → ((sent ≡ request) ⊎ (Fails {T = T} (Ok x) Link ⊎ Fails {T = T} (Ok x) Memory)) → sent ≡ request
whole_sent sent request x h = elim h [ inl e ↦ e | inr n ↦ elim n [ inl f ↦ absurd f | inr f ↦ absurd f ] ]

-- the whole request was written, whatever comes behind it
pub asks_whole : {T S : Type 0} (before mid after : Option (List ℕ)) (request : List ℕ) (x : T) (result : Result S CallFault) → after ≡ mid → Asks before mid request (Ok x) → Asks before after request result
asks_whole before mid after request x result same a = record {
  sent = a.sent;
  gained = subst (λ (o : Option (List ℕ)). Gains before a.sent o) (sym same) a.gained;
  front = a.front;
  whole = inl (whole_sent a.sent request x a.whole);
}

pub asks_nothing : {T : Type 0} (before : Option (List ℕ)) (request : List ℕ) → Asks {T = T} before before request (Err Memory)
asks_nothing before request = record { sent = []; gained = Gains-none before; front = (request, refl); whole = inr (inr refl) }

pub same_inlet : (l t m s : Option (List ℕ)) → m ≡ l → s ≡ t → inlet m s ≡ inlet l t
same_inlet l t m s e f = ap (λ (x : Option (List ℕ)). inlet x s) e ∙ ap (λ (x : Option (List ℕ)). inlet l x) f
