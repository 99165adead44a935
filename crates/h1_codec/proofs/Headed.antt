-- What is promised of a head, by the head that its decoder gives.
use Rattle.std.proofs.Common.{◌≡◌, ℕ, Bool, true, false, List, refl, sym, ap, subst}
use Rattle.std.specs.Prelude.{Option, Some, None, is_some, IsSome, Result, Ok, Err}
use Rattle.http_map.specs.HeaderMap.{Entries}
use Rattle.http_types.specs.declared.error.ParseError.{ParseError}
use Rattle.http_types.specs.declared.message.ConnectionType.{ConnectionType}
use Rattle.h1_decoder.specs.declared.response.ResponseItem.{ResponseItem}
use Rattle.h1_codec.specs.Heads.{Search}
use Rattle.h1_codec.specs.Kinds.{answers}
use Rattle.h1_codec.specs.OneReading.{one_answer}
use Rattle.h1_payload.specs.Decoding.{Decoding}
use Rattle.h1_codec.specs.ServerAnswers.{IsNexted, IsHeadGiven, IsHeadBeside, as_message}
use Rattle.h1_codec.proofs.NextHeads.{head_given}
use Rattle.h1_codec.specs.ClientAnswers.{HasNoted, IsHeaded}
use Rattle.h1_codec.specs.ClientState.{client_standing}
use Rattle.h1_codec.specs.declared.client_state.Client.{Client}
use Rattle.h1_codec.specs.declared.client_error.ClientError.TheVariants.{Parse, Misplaced}

-- no body is open where one is
pub none_is_some : (body : Option Decoding) → body ≡ None → IsSome body → ⊥
none_is_some None is some = let never : false ≡ true = some in cc never
none_is_some (Some d) is some = cc is

pub is_none : (body : Option Decoding) → is_some body ≡ false → body ≡ None
is_none None is = refl
is_none (Some d) is = let never : true ≡ false = is in absurd (cc never)

pub has_some : (body : Option Decoding) → is_some body ≡ true → IsSome body
has_some None is = let never : false ≡ true = is in absurd (cc never)
has_some (Some d) is = refl

-- the codec with these in place of what a head changes
abbrev pub made : Client → Search → Option Decoding → Option Entries → ConnectionType → Bool → Client
made c heads body trailers connection passes = record c { heads = heads; body = body; trailers = trailers; connection = connection; passes_on = passes }

-- the other codec reads what comes next
pub head_misplaced : (c : Client) (bytes : List ℕ) → IsSome c.body → IsHeaded c bytes (Err Misplaced) c bytes
head_misplaced c bytes some = record {
  goes_on = tt;
  waiting = λ e. absurd (cc e);
  refused = λ known seen said reads. tt;
  misplaced = (λ e. some, λ x. refl);
  cause = tt;
  item = tt;
  left = (refl, refl);
  seen = tt;
  trailers = tt;
  noted = tt;
  asking = refl;
  limit = refl;
}

module _ (old : Client) (heads : Search) (body : Option Decoding) (trailers : Option Entries) (bytes rest : List ℕ) (none : old.body ≡ None) where
  abbrev Nexted : Result (Option ResponseItem) ParseError → Type 0
  Nexted head = IsNexted answers old.is_head (client_standing old) bytes old.trailers (as_message head) (record { search = heads; body = body }) rest trailers

  nexted : (head : Result (Option ResponseItem) ParseError) → IsHeadGiven answers old.is_head old.heads bytes head heads body rest
      → IsHeadBeside head old.body old.trailers body trailers → heads.limit ≡ old.heads.limit → Nexted head
  nexted head given beside limit =
      let alone : IsHeadBeside head None old.trailers body trailers = subst (λ (b : Option Decoding). IsHeadBeside head b old.trailers body trailers) none beside in
      subst (λ (b : Option Decoding). IsNexted answers old.is_head (record { search = old.heads; body = b }) bytes old.trailers (as_message head) (record { search = heads; body = body }) rest trailers)
      (sym none)
      (head_given answers one_answer old.is_head old.heads heads bytes rest old.trailers (λ piece x. x) head body trailers given alone limit)

  pub item_headed : (item : ResponseItem) (connection : ConnectionType) (passes : Bool) → IsHeadGiven answers old.is_head old.heads bytes (Ok (Some item)) heads body rest
      → IsHeadBeside (Ok (Some item)) old.body old.trailers body trailers → heads.limit ≡ old.heads.limit
      → HasNoted old (Some item) (made old heads body trailers connection passes)
      → IsHeaded old bytes (Ok (Some item)) (made old heads body trailers connection passes) rest
  item_headed item connection passes given beside limit noted =
      let x = nexted (Ok (Some item)) given beside limit in
      record {
        goes_on = x.goes_on;
        waiting = λ e. absurd (cc e);
        refused = tt;
        misplaced = (λ e. absurd (cc e), λ some. absurd (none_is_some old.body none some));
        cause = tt;
        item = x.item;
        left = tt;
        seen = x.looked;
        trailers = x.trailers;
        noted = noted;
        asking = refl;
        limit = x.limit;
      }

  pub none_headed : IsHeadGiven answers old.is_head old.heads bytes (Ok None) heads body rest
      → IsHeadBeside {I = ResponseItem} (Ok None) old.body old.trailers body trailers → heads.limit ≡ old.heads.limit
      → IsHeaded old bytes (Ok None) (record old { heads = heads; body = body; trailers = trailers }) rest
  none_headed given beside limit =
      let x = nexted (Ok None) given beside limit in
      record {
        goes_on = x.goes_on;
        waiting = λ e. x.waiting refl;
        refused = tt;
        misplaced = (λ e. absurd (cc e), λ some. absurd (none_is_some old.body none some));
        cause = tt;
        item = tt;
        left = tt;
        seen = x.looked;
        trailers = x.trailers;
        noted = (refl, refl);
        asking = refl;
        limit = x.limit;
      }

  pub error_headed : (e : ParseError) → IsHeadGiven answers old.is_head old.heads bytes (Err e) heads body rest
      → IsHeadBeside {I = ResponseItem} (Err e) old.body old.trailers body trailers → heads.limit ≡ old.heads.limit
      → IsHeaded old bytes (Err (Parse e)) (record old { heads = heads; body = body; trailers = trailers }) rest
  error_headed e given beside limit =
      let x = nexted (Err e) given beside limit in
      record {
        goes_on = tt;
        waiting = λ is. absurd (cc is);
        refused = λ known. x.refusing (λ is. known (ap Parse is));
        misplaced = (λ is. absurd (cc is), λ some. absurd (none_is_some old.body none some));
        cause = x.cause;
        item = tt;
        left = (λ i. record old { heads = given.2 i; body = beside.0 i; trailers = beside.1 i }, given.3);
        seen = tt;
        trailers = tt;
        noted = tt;
        asking = refl;
        limit = x.limit;
      }

  -- the same of an answer that is one of these
  pub item_answered : (head : Result (Option ResponseItem) ParseError) (item : ResponseItem) (connection : ConnectionType) (passes : Bool) → head ≡ Ok (Some item)
      → IsHeadGiven answers old.is_head old.heads bytes head heads body rest → IsHeadBeside head old.body old.trailers body trailers → heads.limit ≡ old.heads.limit
      → HasNoted old (Some item) (made old heads body trailers connection passes)
      → IsHeaded old bytes (Ok (Some item)) (made old heads body trailers connection passes) rest
  item_answered head item connection passes is given beside limit noted =
      item_headed item connection passes (subst (λ (r : Result (Option ResponseItem) ParseError). IsHeadGiven answers old.is_head old.heads bytes r heads body rest) is given)
      (subst (λ (r : Result (Option ResponseItem) ParseError). IsHeadBeside r old.body old.trailers body trailers) is beside) limit noted

  pub none_answered : (head : Result (Option ResponseItem) ParseError) → head ≡ Ok None
      → IsHeadGiven answers old.is_head old.heads bytes head heads body rest → IsHeadBeside head old.body old.trailers body trailers → heads.limit ≡ old.heads.limit
      → IsHeaded old bytes (Ok None) (record old { heads = heads; body = body; trailers = trailers }) rest
  none_answered head is given beside limit =
      none_headed (subst (λ (r : Result (Option ResponseItem) ParseError). IsHeadGiven answers old.is_head old.heads bytes r heads body rest) is given)
      (subst (λ (r : Result (Option ResponseItem) ParseError). IsHeadBeside r old.body old.trailers body trailers) is beside) limit

  pub error_answered : (head : Result (Option ResponseItem) ParseError) (e : ParseError) → head ≡ Err e
      → IsHeadGiven answers old.is_head old.heads bytes head heads body rest → IsHeadBeside head old.body old.trailers body trailers → heads.limit ≡ old.heads.limit
      → IsHeaded old bytes (Err (Parse e)) (record old { heads = heads; body = body; trailers = trailers }) rest
  error_answered head e is given beside limit =
      error_headed e (subst (λ (r : Result (Option ResponseItem) ParseError). IsHeadGiven answers old.is_head old.heads bytes r heads body rest) is given)
      (subst (λ (r : Result (Option ResponseItem) ParseError). IsHeadBeside r old.body old.trailers body trailers) is beside) limit
