-- What a codec keeps of a request is what its head asks.
use Rattle.std.proofs.Common.{◌≡◌, ℕ, ◌≤◌, zero, suc, Bool, List, refl, sym, ap, ◌∙◌, arith}
use Rattle.http_types.specs.declared.message.ConnectionType.{ConnectionType}
use Rattle.http_types.specs.declared.message.ConnectionType.TheVariants.{Close, KeepAlive, Upgrade}
use Rattle.h1_encoder.specs.Meaning.{minor_of, model_type}
use Rattle.h1_decoder.specs.HeadItem.{SaysHead, version_of, connection_type_of}
use Rattle.h1_decoder.specs.declared.decoder.HeadItem.{HeadItem}
use Rattle.model_h1.specs.Answer.{Asked, asked_of}
use Rattle.model_h1.specs.Request as model
use Rattle.model_h1.specs.Request.{Head, head_is}
use Rattle.model_h1.specs.RequestHead.{IsReading}

-- a version has its number back
minor_same : (m : ℕ) → m ≤ 1 → minor_of (version_of m) ≡ m
minor_same zero small = refl
minor_same (suc zero) small = refl
minor_same (suc (suc m)) small = absurd (omega (arith, small))

-- and a connection type, both ways
type_same : (t : model.ConnectionType) → model_type (connection_type_of t) ≡ t
type_same model.close = refl
type_same model.keep_alive = refl
type_same model.upgrade = refl

type_back : (t : ConnectionType) → connection_type_of (model_type t) ≡ t
type_back Close = refl
type_back KeepAlive = refl
type_back Upgrade = refl

pub asked_by : (piece : List ℕ) (item : HeadItem) (h : Head) (a : Asked) (is_head is_raw : Bool) (kind : ConnectionType) → IsReading piece (head_is h) → SaysHead item h
    → a ≡ record { minor = minor_of item.head.version; is_head = is_head; is_raw = is_raw; connection = model_type kind }
    → is_head ≡ (asked_of h).is_head → is_raw ≡ (asked_of h).is_raw → kind ≡ connection_type_of (asked_of h).connection → a ≡ asked_of h
asked_by piece item h a is_head is_raw kind reading says is head raw connection =
    let small : h.minor ≤ 1 = omega (arith, reading.1.minor_is, reading.1.reads.0.minor) in
    is ∙ (λ i. record {
      minor = (ap minor_of says.version ∙ minor_same h.minor small) i;
      is_head = head i;
      is_raw = raw i;
      connection = (ap model_type connection ∙ type_same (asked_of h).connection) i;
    })

-- what was asked of the connection is known from it
pub type_asked : (a : Asked) (minor : ℕ) (is_head is_raw : Bool) (kind : ConnectionType)
    → a ≡ record { minor = minor; is_head = is_head; is_raw = is_raw; connection = model_type kind } → kind ≡ connection_type_of a.connection
type_asked a minor is_head is_raw kind is = sym (ap (λ (b : Asked). connection_type_of b.connection) is ∙ type_back kind)
