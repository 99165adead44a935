-- The head of an answer, as a `MessageEncoder` is told what it needs of the request.
use Rattle.std.specs.Prelude.{ℕ, Bool, false, List}
use Rattle.http.specs.declared.version.Version.{Version}
use Rattle.http_framing.specs.declared.body.size.BodySize.{BodySize}
use Rattle.http_types.specs.ResponseHead.{ResponseParts}
use Rattle.http_types.specs.declared.message.ConnectionType.{ConnectionType}
use Rattle.model_h1.specs.Request as model
use Rattle.model_h1.specs.Answer as answers
use Rattle.model_h1.specs.AnswerText.{head_text}
use Rattle.h1_encoder.specs.Meaning.{answer_of, size_of, model_type, minor_of}

-- a request of this version, whose body is raw or not; whether it is HEAD doesn't change its answer's head
abbrev pub asked_by : Bool → Version → answers.Asked
asked_by stream version = record { minor = minor_of version; is_head = false; is_raw = stream; connection = model.keep_alive }

abbrev pub answer_shape : ResponseParts → Bool → Version → BodySize → answers.Shape
answer_shape head stream version size = answers.shape_of (asked_by stream version) (answer_of head) (size_of size)

abbrev pub answer_text : ResponseParts → Bool → Version → BodySize → ConnectionType → ℕ → List ℕ
answer_text head stream version size kind now =
    head_text (minor_of version) (answer_of head) (answer_shape head stream version size) (size_of size) (model_type kind) now
