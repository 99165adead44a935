-- Requests, and their bodies.
use Rattle.std.proofs.Common.{◌≡◌, ℕ, ◌-◌, ◌+◌, Bool, true, false, not, ◌&&◌, ◌||◌, List, [], ◌∷◌, ◌++◌, length, take, Option, Some, None, refl, sym, ap, ◌∙◌, subst}
use Rattle.std.specs.Prelude.{is_some, option_map, nat_lt, if◌then◌else◌}
use Rattle.std.specs.List.{list_any}
use Rattle.std.specs.Option.{option_or}
use Rattle.model_h1.specs.Answer as answers
use Rattle.model_h1.specs.AnswerText.{piece_text, end_text}
use Rattle.model_h1.specs.Setting.{Setting}
use Rattle.h1_encoder.specs.Meaning.{model_shape, size_of}
use Rattle.http_framing.specs.declared.body.size.BodySize.{BodySize}
use Rattle.http_types.specs.declared.requests.head.RequestHead.{RequestHead}
use Rattle.model_client.specs.RequestText.{request_text, asked_shape}
use Rattle.model_client.specs.ClientEvent as on
use Rattle.model_client.specs.ClientKept.{Waiting, SendingBody, ClientKept, waiting_of, is_last}
use Rattle.model_client.specs.ClientStep.{begun_body, asking, piece_of, sending_piece, ending_body, doing}
use Rattle.h1_client.specs.ClientMeaning.{request_of, end_of}
use Rattle.h1_client.specs.Bodies.{failing}
use Rattle.h1_client.specs.Requests.{SendsNoPiece, SendsNoEnd}
use Rattle.h1_client.specs.Parts.{kept_of, sending_of, IsSound, Steps}
use Rattle.h1_client.specs.declared.connection.parts.Parts.{Parts}
use Rattle.h1_client.specs.declared.connection.requests.Sending.{Sending}
use Rattle.h1_client.specs.declared.event.ClientEnd.{ClientEnd}
use Rattle.h1_client.specs.declared.event.ClientEnd.TheVariants.{FailedRequest}
use Rattle.h1_client.proofs.StepLemmas.{quiet_step, failed_where}

-- ---- a piece of a body

pub no_chunk : (set : Setting) (p : Parts) (bytes : List ℕ) → p.sending ≡ None → IsSound p → Steps set p (on.chunk bytes) on.done p
no_chunk set p bytes none sound =
    quiet_step set p p (on.chunk bytes) on.done (ap (λ (s : Option Sending). doing (sending_piece bytes (option_map sending_of s) (kept_of p))) (sym none)) sound

abbrev pub chunked_parts : Parts → List ℕ → Sending → Parts
chunked_parts p out sending = record p { output = out; sending = Some sending }

pub chunked_sound : (p : Parts) (out : List ℕ) (sending : Option Sending) → IsSound p → IsSound (record p { output = out; sending = sending })
chunked_sound p out sending sound =
    record { moment = sound.moment; searched = sound.searched; scanned = sound.scanned; last = sound.last; fits = sound.fits }

pub chunked_step : (set : Setting) (p : Parts) (bytes out : List ℕ) (s t : Sending) → p.sending ≡ Some s → IsSound p
    → out ≡ p.output ++ piece_of (model_shape s.shape) s.missing bytes → t ≡ record s { missing = s.missing - length bytes }
    → Steps set p (on.chunk bytes) on.done (chunked_parts p out t)
chunked_step set p bytes out s t there sound text left =
    let same : kept_of (chunked_parts p out t) ≡ sending_piece bytes (kept_of p).sending (kept_of p) =
    (λ i. record (kept_of p) { buffered = text i; sending = Some (sending_of (left i)) })
    ∙ ap (λ (s : Option Sending). sending_piece bytes (option_map sending_of s) (kept_of p)) (sym there) in
    quiet_step set p (chunked_parts p out t) (on.chunk bytes) on.done (ap (λ (k : ClientKept). doing k) same) (chunked_sound p out (Some t) sound)

pub no_piece : (p : Parts) (s : Sending) (bytes : List ℕ) → p.sending ≡ Some s → SendsNoPiece (kept_of p).sending bytes → piece_of (model_shape s.shape) s.missing bytes ≡ []
no_piece p s bytes there none = subst (λ (o : Option Sending). SendsNoPiece (option_map sending_of o) bytes) there none

-- ---- the end of a body

pub no_end : (set : Setting) (p : Parts) → p.sending ≡ None → IsSound p → Steps set p on.body_end on.done p
no_end set p none sound =
    quiet_step set p p on.body_end on.done (ap (λ (s : Option Sending). doing (ending_body (option_map sending_of s) (kept_of p))) (sym none)) sound

abbrev pub ended_parts : Parts → List ℕ → Option ClientEnd → Parts
ended_parts p out failed = record p { output = out; sending = None; failed = failed }

pub ended_sound : (p : Parts) (out : List ℕ) (failed : Option ClientEnd) → IsSound p → IsSound (ended_parts p out failed)
ended_sound p out failed sound =
    record { moment = sound.moment; searched = sound.searched; scanned = sound.scanned; last = sound.last; fits = sound.fits }

pub ended_step : (set : Setting) (p : Parts) (s : Sending) (out : List ℕ) (fails : Bool) (failed : Option ClientEnd) → p.sending ≡ Some s → IsSound p
    → out ≡ p.output ++ end_text (model_shape s.shape) → fails ≡ nat_lt 0 s.missing → failed ≡ failing fails FailedRequest p.failed
    → Steps set p on.body_end on.done (ended_parts p out failed)
ended_step set p s out fails failed there sound text short failed_is =
    let fail : option_map end_of failed ≡ option_or (kept_of p).failed (if nat_lt 0 s.missing then Some on.failed_request else None) =
    ap (λ (o : Option ClientEnd). option_map end_of o) failed_is ∙ failed_where p.failed fails FailedRequest
    ∙ ap (λ (b : Bool). option_or (kept_of p).failed (if b then Some on.failed_request else None)) short in
    let same : kept_of (ended_parts p out failed) ≡ ending_body (kept_of p).sending (kept_of p) =
    (λ i. record (kept_of p) { buffered = text i; sending = None; failed = fail i })
    ∙ ap (λ (s : Option Sending). ending_body (option_map sending_of s) (kept_of p)) (sym there) in
    quiet_step set p (ended_parts p out failed) on.body_end on.done (ap (λ (k : ClientKept). doing k) same) (ended_sound p out failed sound)

pub no_end_text : (p : Parts) (s : Sending) → p.sending ≡ Some s → SendsNoEnd (kept_of p).sending → end_text (model_shape s.shape) ≡ []
no_end_text p s there none = subst (λ (o : Option Sending). SendsNoEnd (option_map sending_of o)) there none

-- ---- a body that fails

pub failed_step : (set : Setting) (p : Parts) (failed : Option ClientEnd) → IsSound p → failed ≡ failing true FailedRequest p.failed
    → Steps set p on.body_error on.done (record p { sending = None; failed = failed })
failed_step set p failed sound failed_is =
    let q : Parts = record p { sending = None; failed = failed } in
    let fail : option_map end_of failed ≡ option_or (kept_of p).failed (Some on.failed_request) =
    ap (λ (o : Option ClientEnd). option_map end_of o) failed_is ∙ failed_where p.failed true FailedRequest in
    quiet_step set p q on.body_error on.done (λ i. doing (record (kept_of p) { sending = None; failed = fail i })) (ended_sound p p.output failed sound)
