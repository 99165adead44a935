-- What a reader gives of legal frames that come in pieces.
use Rattle.std.proofs.Common.{◌≡◌, ℕ, ◌≤◌, ◌<◌, ◌^◌, Bool, true, List, [], ◌∷◌, ◌++◌, drop, refl, sym, ap, ap₂, ◌∙◌, subst, append_assoc}
use Rattle.std.specs.Prelude.{⊤, Option, Some, None, Result, Ok, Err}
use Rattle.model_h1.specs.Frame as model
use Rattle.model_h1.specs.FrameText.{Reader, Front, partial, whole, breaks, front_frame, is_under_way}
use Rattle.model_ends.specs.MaskedText.{MaskedFrame, HaveMasks, masked_texts}
use Rattle.model_ends.specs.LegalMessages.{AreLegal}
use Rattle.ws_frames.specs.declared.codec.Codec.{Codec}
use Rattle.ws_frames.specs.declared.error.ProtocolError.{ProtocolError}
use Rattle.ws_frames.specs.declared.error.ProtocolError.TheVariants.{NoMemory}
use Rattle.ws_frames.specs.declared.message.Frame.{Frame}
use Rattle.ws_frames.specs.Codec.{frame_says}
use Rattle.ws_frames.specs.CodecState.{codec_server, codec_limit, codec_reading, cost, Failed, Decoded}
use Rattle.ws_frames.specs.Fronts.{IsFrontError}
use Rattle.ws_frames.specs.Parsed.{late_reader, parsed}
use Rattle.ws_session.specs.Session.{SessionParts, with_unread, reader_of, NextSays}
use Rattle.model_codecs.specs.Received.{Act, comes, asked, bytes_came, frames_given, HaveNoFault, EndsWaiting, IsDecoding, IsReading, AreReceived}
use Rattle.model_codecs.proofs.Fronts.{unmasked, none_broken, next_one, none_left}

-- What is answered where this stands at the front. Whether a message is under way and the unread bytes are u and bytes before,
-- and v and rest after it. Of a broken rule nothing is said.
abbrev pub Answered : Front → Result (Option Frame) ProtocolError → Bool → List ℕ → Bool → List ℕ → Type 0
Answered partial (Ok None) u bytes v rest = (v ≡ u) × (rest ≡ bytes)
Answered partial answer u bytes v rest = ⊥
Answered (whole f len) (Ok None) u bytes v rest = ⊥
Answered (whole f len) (Ok (Some frame)) u bytes v rest = (frame_says frame ≡ f) × (v ≡ is_under_way u f) × (rest ≡ drop len bytes)
Answered (whole f len) (Err e) u bytes v rest = (e ≡ NoMemory) × (v ≡ u) × (rest ≡ bytes)
Answered (breaks rule) answer u bytes v rest = ⊤

-- each answer is one to what stands at the front
abbrev pub Runs : Reader → Bool → List ℕ → List Act → Type 0
Runs reader u bytes [] = ⊤
Runs reader u bytes (comes more ∷ acts) = Runs reader u (bytes ++ more) acts
Runs reader u bytes (asked answer ∷ acts) =
    (v : Bool) × (rest : List ℕ) × Answered (front_frame reader u bytes) answer u bytes v rest × Runs reader v rest acts

-- ---- a codec's calls, and a session's

-- a front with what it is known to be
abbrev At : Front → Front → Result (Option Frame) ProtocolError → Bool → List ℕ → Bool → List ℕ → Type 0
At front f answer u bytes v rest = front ≡ f → Answered front answer u bytes v rest

failed_answered : (front : Front) (e : ProtocolError) (n : ℕ) (u v : Bool) (bytes rest : List ℕ) → v ≡ u → Failed front e n bytes rest
    → Answered front (Err e) u bytes v rest
failed_answered partial e n u v bytes rest same failed = failed
failed_answered (whole f len) e n u v bytes rest same failed = (failed.0, same, failed.1)
failed_answered (breaks rule) e n u v bytes rest same failed = tt

decoded_answered : (server : Bool) (limit : ℕ) (u : Bool) (bytes : List ℕ) (answer : Result (Option Frame) ProtocolError) (v : Bool) (rest : List ℕ)
    → Decoded server limit u bytes answer v rest → Answered (front_frame (late_reader server limit) u bytes) answer u bytes v rest
decoded_answered server limit u bytes (Ok None) v rest x =
    subst (λ (front : Front). Answered front (Ok None) u bytes v rest) (sym x.0) (x.2, x.1)
decoded_answered server limit u bytes (Ok (Some frame)) v rest x =
    subst (λ (front : Front). Answered front (Ok (Some frame)) u bytes v rest) (sym x.1) (refl, x.3, x.2)
decoded_answered server limit u bytes (Err e) v rest x =
    failed_answered (front_frame (late_reader server limit) u bytes) e (cost (parsed server limit bytes)) u v bytes rest x.0 x.1

pub decoding_runs : {R : Type 0} (codec : Codec R) (left : List ℕ) (acts : List Act) → IsDecoding codec left acts
    → Runs (late_reader (codec_server codec) (codec_limit codec)) (codec_reading codec) left acts
decoding_runs codec left [] x = tt
decoding_runs codec left (comes bytes ∷ acts) x = decoding_runs codec (left ++ bytes) acts x
decoding_runs {R} codec left (asked answer ∷ acts) (next, rest, decoded, same, others) =
    let server = codec_server codec in
    let limit = codec_limit codec in
    let behind = decoding_runs next rest acts others in (
      codec_reading next,
      rest,
      decoded_answered server limit (codec_reading codec) left answer (codec_reading next) rest decoded,
      subst (λ (c : Codec R). Runs (late_reader (codec_server c) (codec_limit c)) (codec_reading next) rest acts) same behind,
    )

front_error_answered : (front : Front) (e : ProtocolError) (u v : Bool) (bytes rest : List ℕ) → v ≡ u → rest ≡ bytes → IsFrontError front e
    → Answered front (Err e) u bytes v rest
front_error_answered partial e u v bytes rest same stays failed = failed
front_error_answered (whole f len) e u v bytes rest same stays failed = (failed, same, stays)
front_error_answered (breaks rule) e u v bytes rest same stays failed = tt

-- what is read next by a session is a session of the same kind
record IsOneOf (s : SessionParts) (answer : Result (Option Frame) ProtocolError) (next : SessionParts) : Type 0 where
  answered : Answered (front_frame (reader_of s) s.under_way s.unread) answer s.under_way s.unread next.under_way next.unread
  same : reader_of next ≡ reader_of s

next_is : (s : SessionParts) (answer : Result (Option Frame) ProtocolError) (next : SessionParts) → NextSays s answer next → IsOneOf s answer next
next_is s (Ok None) next x = record {
  answered = subst (λ (front : Front). Answered front (Ok None) s.under_way s.unread next.under_way next.unread) (sym x.0)
      (ap (λ (n : SessionParts). n.under_way) x.1, ap (λ (n : SessionParts). n.unread) x.1);
  same = ap reader_of x.1;
}
next_is s (Ok (Some frame)) next x = record {
  answered = subst (λ (front : Front). Answered front (Ok (Some frame)) s.under_way s.unread next.under_way next.unread) (sym x.1)
      (refl, ap (λ (n : SessionParts). n.under_way) x.2, ap (λ (n : SessionParts). n.unread) x.2);
  same = ap reader_of x.2;
}
next_is s (Err e) next x = record {
  answered = front_error_answered (front_frame (reader_of s) s.under_way s.unread) e s.under_way next.under_way s.unread next.unread
      (ap (λ (n : SessionParts). n.under_way) x.1) (ap (λ (n : SessionParts). n.unread) x.1) x.0;
  same = ap reader_of x.1;
}

pub reading_runs : (s : SessionParts) (acts : List Act) → IsReading s acts → Runs (reader_of s) s.under_way s.unread acts
reading_runs s [] x = tt
reading_runs s (comes bytes ∷ acts) x = reading_runs (with_unread (s.unread ++ bytes) s) acts x
reading_runs s (asked answer ∷ acts) (next, says, others) =
    let one = next_is s answer next says in
    (next.under_way, next.unread, one.answered, subst (λ (r : Reader). Runs r next.under_way next.unread acts) one.same (reading_runs next acts others))

-- ---- all answers

module _ (reader : Reader) (max_payload : ℕ) (masks : reader.wants_mask ≡ true) (takes : max_payload ≤ reader.max_payload) (small : max_payload < 2 ^ 63) where
  -- one more frame in front
  with_first : (f : model.Frame) (frame : Frame) (sent : List model.Frame) (acts : List Act) (more : List ℕ) → frame_says frame ≡ f
      → AreReceived sent acts more → AreReceived (f ∷ sent) (asked (Ok (Some frame)) ∷ acts) more
  with_first f frame sent acts more same x = record {
    first = (x.first.0, ap₂ (λ (g : model.Frame) (gs : List model.Frame). g ∷ gs) (sym same) x.first.1);
    no_fault = (tt, x.no_fault);
    all = λ none waits. ap₂ (λ (g : model.Frame) (gs : List model.Frame). g ∷ gs) same (x.all none (behind acts waits));
  }
    where
      behind : (acts : List Act) → EndsWaiting (asked (Ok (Some frame)) ∷ acts) → EndsWaiting acts
      behind [] waits = absurd waits
      behind (a ∷ acts) waits = waits

  -- what gives nothing in front
  with_none : (answer : Result (Option Frame) ProtocolError) (sent : List model.Frame) (act : Act) (acts : List Act) (more : List ℕ)
      → AreReceived sent (act ∷ acts) more → frames_given (asked answer ∷ act ∷ acts) ≡ frames_given (act ∷ acts)
      → HaveNoFault (asked answer ∷ []) → AreReceived sent (asked answer ∷ act ∷ acts) more
  with_none answer sent act acts more x gives fine = record {
    first = (x.first.0, x.first.1 ∙ ap (λ (l : List model.Frame). l ++ x.first.0) (sym gives));
    no_fault = (fine.0, x.no_fault);
    all = λ none waits. gives ∙ x.all none (further answer waits);
  }
    where
      further : (answer : Result (Option Frame) ProtocolError) → EndsWaiting (asked answer ∷ act ∷ acts) → EndsWaiting (act ∷ acts)
      further (Ok None) waits = waits
      further (Ok (Some frame)) waits = waits
      further (Err e) waits = waits

  -- bytes that came in front
  came_first : (new : List ℕ) (acts : List Act) (sent : List model.Frame) (more : List ℕ) → AreReceived sent acts more → AreReceived sent (comes new ∷ acts) more
  came_first new acts sent more x = record { first = x.first; no_fault = x.no_fault; all = λ none waits. x.all none (behind acts waits) }
    where
      behind : (acts : List Act) → EndsWaiting (comes new ∷ acts) → EndsWaiting acts
      behind [] waits = absurd waits
      behind (a ∷ acts) waits = waits

  -- the answers behind one are received, whatever it was
  abbrev Others : List Act → List ℕ → Type 0
  Others acts more = (w : Bool) (l : List ℕ) (ns : List MaskedFrame) → HaveMasks ns → AreLegal max_payload w (unmasked ns)
      → l ++ (bytes_came acts ++ more) ≡ masked_texts ns → Runs reader w l acts → AreReceived (unmasked ns) acts more

  module _ (u : Bool) (bytes more : List ℕ) (ms : List MaskedFrame) (four : HaveMasks ms) (legal : AreLegal max_payload u (unmasked ms)) where
    -- there was none
    waiting : (acts : List Act) → Others acts more → bytes ++ (bytes_came acts ++ more) ≡ masked_texts ms → front_frame reader u bytes ≡ partial
        → Runs reader u bytes acts → AreReceived (unmasked ms) (asked (Ok None) ∷ acts) more
    waiting [] go text is runs = record {
      first = (unmasked ms, refl);
      no_fault = (tt, tt);
      all = λ none waits. ap unmasked (sym (none_left reader max_payload masks takes small u bytes more ms four legal text none is));
    }
    waiting (act ∷ acts) go text is runs = with_none (Ok None) (unmasked ms) act acts more (go u bytes ms four legal text runs) refl (tt, tt)

    -- memory ran out
    lacking : (acts : List Act) (e : ProtocolError) → Others acts more → bytes ++ (bytes_came acts ++ more) ≡ masked_texts ms → e ≡ NoMemory
        → Runs reader u bytes acts → AreReceived (unmasked ms) (asked (Err e) ∷ acts) more
    lacking [] e go text is runs = record { first = (unmasked ms, refl); no_fault = (is, tt); all = λ none waits. absurd waits }
    lacking (act ∷ acts) e go text is runs = with_none (Err e) (unmasked ms) act acts more (go u bytes ms four legal text runs) refl (is, tt)

    module _ (acts : List Act) (go : Others acts more) (text : bytes ++ (bytes_came acts ++ more) ≡ masked_texts ms) (v : Bool) (rest : List ℕ)
        (others : Runs reader v rest acts) where
      still : v ≡ u → rest ≡ bytes → Runs reader u bytes acts
      still same kept = subst (λ (l : List ℕ). Runs reader u l acts) kept (subst (λ (w : Bool). Runs reader w rest acts) same others)

      at_front : (front : Front) → front_frame reader u bytes ≡ front → (answer : Result (Option Frame) ProtocolError)
          → Answered front answer u bytes v rest → AreReceived (unmasked ms) (asked answer ∷ acts) more
      at_front partial is (Ok None) x = waiting acts go text is (still x.0 x.1)
      at_front partial is (Ok (Some frame)) x = absurd x
      at_front partial is (Err e) x = absurd x
      at_front (whole f len) is (Ok None) x = absurd x
      at_front (whole f len) is (Ok (Some frame)) x =
          let one = next_one reader max_payload masks takes small u bytes (bytes_came acts ++ more) ms f len four legal text is in
          let on : Runs reader (is_under_way u f) (drop len bytes) acts =
          subst (λ (l : List ℕ). Runs reader (is_under_way u f) l acts) x.2 (subst (λ (w : Bool). Runs reader w rest acts) x.1 others) in
          let behind = go (is_under_way u f) (drop len bytes) one.others one.masks one.legal one.text on in
          subst (λ (l : List MaskedFrame). AreReceived (unmasked l) (asked (Ok (Some frame)) ∷ acts) more) (sym one.are)
          (with_first one.first.frame frame (unmasked one.others) acts more (x.0 ∙ one.same) behind)
      at_front (whole f len) is (Err e) x = lacking acts e go text x.0 (still x.1 x.2)
      at_front (breaks rule) is answer x = absurd (none_broken reader max_payload masks takes small u bytes (bytes_came acts ++ more) ms rule four legal text is)

  pub all_received : (u : Bool) (bytes : List ℕ) (acts : List Act) (more : List ℕ) (ms : List MaskedFrame) → HaveMasks ms → AreLegal max_payload u (unmasked ms)
      → bytes ++ (bytes_came acts ++ more) ≡ masked_texts ms → Runs reader u bytes acts → AreReceived (unmasked ms) acts more
  all_received u bytes [] more ms four legal text runs =
      record { first = (unmasked ms, refl); no_fault = tt; all = λ none waits. absurd waits }
  all_received u bytes (comes new ∷ acts) more ms four legal text runs =
      let joined : (bytes ++ new) ++ (bytes_came acts ++ more) ≡ masked_texts ms =
      append_assoc bytes new (bytes_came acts ++ more) ∙ ap (λ (l : List ℕ). bytes ++ l) (sym (append_assoc new (bytes_came acts) more)) ∙ text in
      came_first new acts (unmasked ms) more (all_received u (bytes ++ new) acts more ms four legal joined runs)
  all_received u bytes (asked answer ∷ acts) more ms four legal text (v, rest, answered, others) =
      at_front u bytes more ms four legal acts (λ w l ns f g t r. all_received w l acts more ns f g t r) text v rest others (front_frame reader u bytes) refl answer answered
