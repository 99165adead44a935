-- What is written of a head that is shared, by what is written of its own and of the headers beside it.
use Rattle.std.proofs.Common.{◌≡◌, ℕ, List, ◌++◌, subst}
use Rattle.std.specs.Prelude.{Option, Result, Ok, Err, OnOk}
use Rattle.http_framing.specs.declared.body.size.BodySize.{BodySize}
use Rattle.http_map.specs.HeaderMap.{Entries}
use Rattle.http_types.specs.RequestHeadType.{shown_head, extra_headers_of}
use Rattle.http_types.specs.declared.requests.head.RequestHead.{RequestHead}
use Rattle.http_types.specs.declared.requests.head_type.RequestHeadType.{RequestHeadType}
use Rattle.model_client.specs.RequestText.{AskedHead}
use Rattle.h1_encoder.specs.declared.error.EncodeError.{EncodeError}
use Rattle.h1_codec.specs.Writing.{IsRequestWritten, sent_head, sent_headers, with_headers}
use Rattle.h1_codec.specs.declared.client_state.Client.{Client}

module _ (old new : Client) (size : BodySize) (dst after : List ℕ) where
  -- the text of a head, of which this goes out, is put after the others
  abbrev pub IsPut : RequestHead → AskedHead → Type 0
  IsPut head goes_out = (text : List ℕ) × (after ≡ dst ++ text) × IsRequestWritten old head goes_out size text new

  -- where the head and the headers beside it are these
  pub put_by : (result : Result Unit EncodeError) (given : RequestHeadType) (shown : RequestHead) (extra : Option Entries)
      → shown ≡ shown_head given → extra ≡ extra_headers_of given
      → OnOk result (IsPut shown (with_headers shown (sent_headers shown.headers extra))) → OnOk result (IsPut (shown_head given) (sent_head given))
  put_by (Ok x) given shown extra is beside put =
      subst (λ (e : Option Entries). IsPut (shown_head given) (with_headers (shown_head given) (sent_headers (shown_head given).headers e))) beside
      (subst (λ (h : RequestHead). IsPut h (with_headers h (sent_headers h.headers extra))) is put)
  put_by (Err e) given shown extra is beside put = tt

  -- where another head goes out that has the same text
  pub goes_out_by : (result : Result Unit EncodeError) (head : RequestHead) (a b : AskedHead) → a ≡ b → OnOk result (IsPut head a) → OnOk result (IsPut head b)
  goes_out_by (Ok x) head a b same put = subst (λ (g : AskedHead). IsPut head g) same put
  goes_out_by (Err e) head a b same put = tt
