-- The end of a link's service is the one that the bytes taken ask for.
use Rattle.std.proofs.Common.{◌≡◌, ◌≢◌, ◌⊎◌, ℕ, List, [], Option, refl, sym, ◌∙◌, inl, inr}
use Rattle.ob_http.specs.Laws.{FramingIsOne}
use Rattle.ob_http.specs.Request.{Request}
use Rattle.ob_http.specs.Requests.{Framed}
use Rattle.ob_http.specs.Stream.{End, resting, closing, faulted}
use Rattle.ob_http.specs.declared.fault.FrameFault.{FrameFault}
use Rattle.ob_server.specs.Exchange.{Exchange, requests_of}
use Rattle.ob_server.specs.Answered.{EndsAs}
use Rattle.ob_server.specs.Complete.{EndsSo, EndIsOne}
use Rattle.ob_server.specs.declared.end.LinkEnd.{LinkEnd}
use Rattle.ob_server.specs.declared.end.LinkEnd.TheVariants as ends

module _ (one : FramingIsOne) where
  same_end : (bytes : List ℕ) (rs ss : List Request) (e f : End) → Framed bytes rs e → Framed bytes ss f → e ≡ f
  same_end bytes rs ss e f x y = (one 0 bytes rs ss e f x y).1

  -- the bytes are framed with a rest, and so end in no other way
  rests_so : (taken : List ℕ) (done : List Request) (rest : List ℕ) (end : LinkEnd) → Framed taken done (resting rest)
      → ((end ≡ ends.Closed) × (rest ≡ [])) ⊎ (((end ≡ ends.Truncated) × (rest ≢ [])) ⊎ ((end ≡ ends.ReadFault) ⊎ (end ≡ ends.Budget))) → EndsSo taken end
  rests_so taken done rest end framed so = record {
    closed = λ requests f. absurd (let no : resting rest ≡ closing = same_end taken done requests (resting rest) closing framed f in cc);
    refused = λ requests fault at f. absurd (let no : resting rest ≡ faulted fault at = same_end taken done requests (resting rest) (faulted fault at) framed f in cc);
    rests = λ requests more f.
        let same : resting rest ≡ resting more = same_end taken done requests (resting rest) (resting more) framed f in
        let is : rest ≡ more = cc in
        elim so [
          | inl (end_is, none) ↦ inl (end_is, sym is ∙ none)
          | inr other ↦ elim other [
            | inl (end_is, some) ↦ inr (inl (end_is, λ none. some (is ∙ none)))
            | inr late ↦ inr (inr (inl late))
          ]
        ];
  }

  broken_so : (taken : List ℕ) (end : LinkEnd) → (end ≡ ends.WriteFault) ⊎ ((end ≡ ends.ClockFault) ⊎ (end ≡ ends.Memory)) → EndsSo taken end
  broken_so taken end broken = record {
    closed = λ requests f. inr broken;
    refused = λ requests fault at f. inr broken;
    rests = λ requests more f. inr (inr (inr broken));
  }

  pub ends_so : EndIsOne
  ends_so = λ ns end taken left done last tail ends_as. by_end ns end taken left done last tail ends_as
    where
      by_end : (ns : Option (List ℕ)) (end : LinkEnd) (taken : List ℕ) (left : Option (List ℕ)) (done last : List Exchange) (tail : List ℕ) → EndsAs ns end taken left done last tail → EndsSo taken end
      by_end ns ends.Closed taken left done last tail e = rests_so taken (requests_of done) [] ends.Closed e.0 (inl (refl, refl))
      by_end ns ends.Asked taken left done last tail e = record {
        closed = λ requests f. inl refl;
        refused = λ requests fault at f. absurd (let no : closing ≡ faulted fault at = same_end taken (requests_of done) requests closing (faulted fault at) e.0 f in cc);
        rests = λ requests more f. absurd (let no : closing ≡ resting more = same_end taken (requests_of done) requests closing (resting more) e.0 f in cc);
      }
      by_end ns ends.Truncated taken left done last tail e = rests_so taken (requests_of done) e.0 ends.Truncated e.2 (inr (inl (refl, e.1)))
      by_end ns (ends.BadFrame fault at) taken left done last tail e = record {
        closed = λ requests f. absurd (let no : faulted fault at ≡ closing = same_end taken (requests_of done) requests (faulted fault at) closing e.0 f in cc);
        refused = λ requests why place f.
            let same : faulted fault at ≡ faulted why place = same_end taken (requests_of done) requests (faulted fault at) (faulted why place) e.0 f in
            inl (cc);
        rests = λ requests more f. absurd (let no : faulted fault at ≡ resting more = same_end taken (requests_of done) requests (faulted fault at) (resting more) e.0 f in cc);
      }
      by_end ns ends.ReadFault taken left done last tail e = rests_so taken (requests_of done) e.0 ends.ReadFault e.1 (inr (inr (inl refl)))
      by_end ns ends.Budget taken left done last tail e = rests_so taken (requests_of done) e.0 ends.Budget e.1 (inr (inr (inr refl)))
      by_end ns ends.WriteFault taken left done last tail e = broken_so taken ends.WriteFault (inl refl)
      by_end ns ends.ClockFault taken left done last tail e = broken_so taken ends.ClockFault (inr (inl refl))
      by_end ns ends.Memory taken left done last tail e = broken_so taken ends.Memory (inr (inr refl))
