-- What is asked for a URL whose redirects are followed.
use Rattle.std.specs.Prelude.{◌≡◌, ℕ, ◌≤◌, ◌⊎◌, Bool, true, false, ◌&&◌, List, [], ◌∷◌, length, Option, Some, None, Result, Ok, Err, IsErr, ⊤}
use Rattle.http_header.specs.FieldValue.{FieldValue, IsVisibleAscii}
use Rattle.url.specs.Parser.{parse_url}
use Rattle.url.specs.Parts.{Parts}
use Rattle.app_get.specs.Fetching.{Notes}
use Rattle.app_get.specs.Places.{IsTargetOf, IsNoTarget, HasNoTarget}
use Rattle.app_get.specs.Redirects.{is_redirect, is_same_place, hop_method, IsHop}
use Rattle.app_get.specs.declared.error.GetError.{GetError}
use Rattle.app_get.specs.declared.error.GetError.TheVariants as get_error
use Rattle.app_get.specs.declared.follow.Stage.{Stage}
use Rattle.app_get.specs.declared.follow.Reply.{Reply}
use Rattle.app_get.specs.declared.follow.Turn.{Turn}
use Rattle.app_get.specs.declared.follow.Turn.TheVariants as turning

-- what was asked for, and what came
pub data Asked : Type 0 where
  came : Stage → Result Reply GetError → Asked

-- it is a redirect, and those are followed
abbrev pub is_followed : Bool → Reply → Bool
is_followed follows reply = follows && is_redirect reply.status

-- ---- where it is asked

-- At first that is the URL itself, as it is asked without redirects.
pub record IsFirst (text : List ℕ) (stage : Stage) : Type 0 where
  pub read : parse_url None text ≡ Ok stage.url
  pub target : IsTargetOf stage.url stage.target
  pub by_get : stage.hop.by_get ≡ false
  pub is_foreign : stage.hop.is_foreign ≡ false

-- what a Location names beside this URL (RFC 3986, section 5.2)
abbrev pub Names : Parts → Option FieldValue → Parts → Type 0
Names base None url = ⊥
Names base (Some location) url = parse_url (Some base) location.bytes ≡ Ok url

-- it names nothing: there is none, or it is no text, or no URL beside this one
abbrev pub NamesNone : Parts → Option FieldValue → Type 0
NamesNone base None = ⊤
NamesNone base (Some location) = (IsVisibleAscii location.bytes → ⊥) ⊎ IsErr (parse_url (Some base) location.bytes)

-- This answer leads on to what its Location names. The first method is this one.
pub record Leads (method : List ℕ) (old : Stage) (reply : Reply) (new : Stage) : Type 0 where
  pub named : Names old.url reply.location new.url
  pub target : IsTargetOf new.url new.target
  pub hop : IsHop old.hop reply.status (hop_method old.hop method) (is_same_place old.target new.target) new.hop

-- Of what was asked, the last first, each answer was a redirect and led on, and the last led here.
abbrev pub IsWay : List ℕ → List ℕ → Bool → List Asked → Stage → Type 0
IsWay text method follows [] stage = IsFirst text stage
IsWay text method follows (came old (Ok reply) ∷ before) stage = (is_followed follows reply ≡ true) × (Leads method old reply stage × IsWay text method follows before old)
IsWay text method follows (came old (Err error) ∷ before) stage = ⊥

-- ---- how it ends

-- the text is no URL, or that of one that isn't taken, or memory runs out
abbrev pub IsRefused : List ℕ → GetError → Type 0
IsRefused text error =
    (error ≡ get_error.NoMemory)
    ⊎ (((error ≡ get_error.Url) × IsErr (parse_url None text))
    ⊎ ((url : Parts) × (parse_url None text ≡ Ok url) × IsNoTarget url error))

-- The redirect can't be followed: memory runs out, it names nothing, or it names a URL that isn't taken.
abbrev pub IsBarred : Stage → Reply → GetError → Type 0
IsBarred stage reply error =
    (error ≡ get_error.NoMemory)
    ⊎ (((error ≡ get_error.Location) × NamesNone stage.url reply.location)
    ⊎ ((error ≡ get_error.Elsewhere) × ((url : Parts) × Names stage.url reply.location url × HasNoTarget url)))

-- What comes of asking once, of which this is noted: an answer that isn't followed, or where a redirect leads. It isn't answered,
-- or its redirect can't be followed.
abbrev pub IsTurn : Option (List Asked) → Stage → List ℕ → Bool → Option (List Asked) → Result Turn GetError → Type 0
IsTurn old stage method follows new (Ok (turning.Last status)) =
    (reply : Reply) × Notes old (came stage (Ok reply) ∷ []) new × (is_followed follows reply ≡ false) × (status ≡ reply.status)
IsTurn old stage method follows new (Ok (turning.On next)) =
    (reply : Reply) × Notes old (came stage (Ok reply) ∷ []) new × (is_followed follows reply ≡ true) × Leads method stage reply next
IsTurn old stage method follows new (Err error) =
    Notes old (came stage (Err error) ∷ []) new
    ⊎ ((reply : Reply) × Notes old (came stage (Ok reply) ∷ []) new × (is_followed follows reply ≡ true) × IsBarred stage reply error)

-- After so many redirects this answer is the last: it isn't followed, or it can't be, or it is one redirect too many.
abbrev pub IsLast : Bool → ℕ → Stage → Reply → Result ℕ GetError → Type 0
IsLast follows count stage reply (Ok status) = (is_followed follows reply ≡ false) × (status ≡ reply.status)
IsLast follows count stage reply (Err error) =
    (is_followed follows reply ≡ true) × (((error ≡ get_error.Redirects) × (count ≡ 10)) ⊎ IsBarred stage reply error)

-- nothing was asked since the URL isn't taken, or the last was answered, or it wasn't
abbrev pub IsEnd : List ℕ → List ℕ → Bool → List Asked → Result ℕ GetError → Type 0
IsEnd text method follows [] (Ok status) = ⊥
IsEnd text method follows [] (Err error) = IsRefused text error
IsEnd text method follows (came stage (Ok reply) ∷ before) result = IsWay text method follows before stage × IsLast follows (length before) stage reply result
IsEnd text method follows (came stage (Err error) ∷ before) result = IsWay text method follows before stage × (result ≡ Err error)

-- This was asked: the URL by this method, and then what at most ten redirects name.
pub record Follows (old : Option (List Asked)) (text method : List ℕ) (follows : Bool) (new : Option (List Asked)) (result : Result ℕ GetError) : Type 0 where
  pub asked : List Asked
  pub few : length asked ≤ 11
  pub notes : Notes old asked new
  pub ends : IsEnd text method follows asked result
