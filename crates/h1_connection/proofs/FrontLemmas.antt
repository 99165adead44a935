-- What is taken of the frames in front of the bytes that are held.
use Rattle.std.proofs.Common.{◌≡◌, ℕ, Bool, true, List, [], ◌++◌, drop, Some, None, Ok, Err, refl, sym, ap, ◌∙◌, subst}
use Rattle.model_h1.specs.Frame as frames
use Rattle.model_h1.specs.Frame.{ProtocolError as Rule}
use Rattle.model_h1.specs.FrameText.{Front, partial, whole, breaks, front_frame}
use Rattle.model_h1.specs.Parse.{connection_reader}
use Rattle.model_state.specs.Kept.{frames_rest}
use Rattle.model_state.specs.Local as local
use Rattle.model_state.specs.Pull as pulls
use Rattle.model_state.specs.Pull.{pull_front}
use Rattle.h1_payload.specs.Rests.{IsLight}
use Rattle.ws_frames.specs.Codec.{frame_says, IsNamed}
use Rattle.ws_frames.specs.Fronts as fronts
use Rattle.ws_frames.specs.Fronts.{IsFrontError, FrontTaken}
use Rattle.ws_frames.specs.Refusal.{refusal}
use Rattle.ws_frames.specs.declared.error.ProtocolError.{ProtocolError}
use Rattle.ws_frames.specs.declared.error.ProtocolError.TheVariants as errors
use Rattle.ws_frames.specs.declared.message.Frame.{Frame}
use Rattle.h1_connection.specs.Frames.{IsFramePulled, IsLightFrame}
use Rattle.h1_connection.specs.Incoming.{piece_of, IsSearched}
use Rattle.h1_connection.specs.Stock.{Stock}
use Rattle.h1_connection.specs.declared.connection.frames.PulledFrame.TheVariants as pulled
use Rattle.h1_connection.specs.declared.connection.head_search.Search.{Search}
use Rattle.h1_connection.specs.declared.connection.head_search.Search.TheVariants.{Off, Due, Done}

-- ---- the bytes

-- where no head is searched for, nothing is cut off
pub none_cut : (front bytes : List ℕ) (search : Search) → IsSearched front bytes search → piece_of (front ++ bytes) search ≡ None → front ≡ []
none_cut front bytes Off searched none = searched
none_cut front bytes Due searched none = searched
none_cut front bytes (Done scan) searched none = absurd (cc none)

-- neither a whole frame nor a broken rule
pub partial_same : (front : Front) → fronts.is_partial front ≡ local.is_partial front
partial_same partial = refl
partial_same (whole frame len) = refl
partial_same (breaks rule) = refl

-- what is held then
held : (after : Stock) (bytes : List ℕ) → after.unread ≡ bytes → after.piece ≡ None → after.ahead ≡ 0 → after ≡ record { unread = bytes; piece = None; ahead = 0 }
held after bytes unread piece ahead = λ i. record { unread = unread i; piece = piece i; ahead = ahead i }

-- nothing changes
pub held_same : (was after : Stock) → after.unread ≡ was.unread → after.piece ≡ None → after.ahead ≡ 0 → was.piece ≡ None → was.ahead ≡ 0 → after ≡ was
held_same was after unread piece ahead none no_head = held after was.unread unread piece ahead ∙ sym (held was was.unread refl none no_head)

-- ---- a frame

pub taken_frame : (under_way later : Bool) (limit : ℕ) (bytes : List ℕ) (frame : Frame) (after : Stock) → after.piece ≡ None → after.ahead ≡ 0
    → FrontTaken true limit under_way bytes (Ok (Some (frame, later))) after.unread → IsNamed frame
    → IsFramePulled (frames_rest under_way limit) bytes (pulled.Frame frame) (frames_rest later limit) after
taken_frame under_way later limit bytes frame after none no_head (len, front, rest, goes_on) named =
    record {
      of = pull_front under_way limit bytes (whole (frame_says frame) len);
      is_pull = λ ended. sym (ap (λ (f : Front). pull_front under_way limit bytes f) front);
      says = (refl, named);
      rest_is = ap (λ (b : Bool). frames_rest b limit) goes_on;
      after_is = held after (drop len bytes) rest none no_head;
      not_done = refl;
      failed = refl;
    }

pub taken_none : (under_way : Bool) (limit : ℕ) (bytes : List ℕ) (after : Stock) → after.piece ≡ None → after.ahead ≡ 0
    → FrontTaken true limit under_way bytes (Ok None) after.unread
    → IsFramePulled (frames_rest under_way limit) bytes pulled.Pending (frames_rest under_way limit) after
taken_none under_way limit bytes after none no_head (front, rest) =
    record {
      of = pull_front under_way limit bytes partial;
      is_pull = λ ended. sym (ap (λ (f : Front). pull_front under_way limit bytes f) front);
      says = refl;
      rest_is = refl;
      after_is = held after bytes rest none no_head;
      not_done = refl;
      failed = refl;
    }

-- the rule of an error for which memory didn't run out
rule_by : (front : Front) (e : ProtocolError) → ¬ (e ≡ errors.NoMemory) → IsFrontError front e → (rule : Rule) × (front ≡ breaks rule) × (e ≡ refusal rule)
rule_by partial e some is = absurd is
rule_by (whole frame len) e some is = absurd (some is)
rule_by (breaks rule) e some is = (rule, refl, is)

pub taken_rule : (under_way : Bool) (limit : ℕ) (bytes : List ℕ) (e : ProtocolError) (after : Stock) → after.piece ≡ None → after.ahead ≡ 0 → ¬ (e ≡ errors.NoMemory)
    → FrontTaken true limit under_way bytes (Err e) after.unread
    → IsFramePulled (frames_rest under_way limit) bytes (pulled.Protocol e) (frames_rest under_way limit) after
taken_rule under_way limit bytes e after none no_head some (error, rest) =
    let rule = rule_by (front_frame (connection_reader limit) under_way bytes) e some error in
    record {
      of = pull_front under_way limit bytes (breaks rule.0);
      is_pull = λ ended. sym (ap (λ (f : Front). pull_front under_way limit bytes f) rule.1);
      says = record { rule = rule.0; outcome_is = refl; says = rule.2 };
      rest_is = refl;
      after_is = held after bytes rest none no_head;
      not_done = refl;
      failed = refl;
    }

-- ---- what needs no memory

-- no rule is named so
not_memory : (rule : Rule) → errors.NoMemory ≡ refusal rule → ⊥
not_memory frames.unmasked_frame is = absurd (cc is)
not_memory frames.masked_frame is = absurd (cc is)
not_memory frames.invalid_reserved_bits is = absurd (cc is)
not_memory frames.bad_op_code is = absurd (cc is)
not_memory frames.overflow is = absurd (cc is)
not_memory frames.continuation_not_started is = absurd (cc is)
not_memory frames.continuation_started is = absurd (cc is)
not_memory (frames.invalid_opcode number) is = absurd (cc is)
not_memory (frames.invalid_length n) is = absurd (cc is)
not_memory (frames.continuation_fragment number) is = absurd (cc is)

heavy : (under_way : Bool) (limit : ℕ) (bytes : List ℕ) (front : Front) (p : pulls.Pulled) → IsFrontError front errors.NoMemory
    → p ≡ pull_front under_way limit bytes front → IsLight (frames_rest under_way limit) p.outcome p.rest → ⊥
heavy under_way limit bytes partial p error is light = error
heavy under_way limit bytes (whole frame len) p error is light = subst (λ (q : pulls.Pulled). IsLight (frames_rest under_way limit) q.outcome q.rest) is light
heavy under_way limit bytes (breaks rule) p error is light = not_memory rule error

-- where no whole frame stands in front, memory isn't asked for
pub light_taken : (under_way : Bool) (limit : ℕ) (bytes after : List ℕ) → FrontTaken true limit under_way bytes (Err errors.NoMemory) after
    → IsLightFrame (frames_rest under_way limit) bytes → ⊥
light_taken under_way limit bytes after (error, rest) (ended, p, is, light) =
    heavy under_way limit bytes (front_frame (connection_reader limit) under_way bytes) p error is light
