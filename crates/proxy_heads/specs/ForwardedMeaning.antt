-- What the parts of a forwarder's heads say, against the definitions.
use Rattle.std.specs.Prelude.{ℕ, Bool, true, false, nat_lt, Option, Some, None, not, ◌&&◌, ◌||◌, ◌==◌, List, [], ◌∷◌, ◌++◌, codes, if◌then◌else◌}
use Rattle.std.specs.List.{list_any}
use Rattle.std.specs.Str.{is_utf8}
use Rattle.model_h1.specs.Request.{Header, BodyKind, fixed_body}
use Rattle.model_h1.specs.LengthTable.{values_of, stated_length}
use Rattle.model_h1.specs.Answer.{AnswerHead, BodySize, size_none, size_of}
use Rattle.model_h1.specs.AnswerText.{by_name}
use Rattle.model_client.specs.RequestText.{AskedHead}
use Rattle.model_proxy.specs.HopNames.{hop_names, without}
use Rattle.model_h1.specs.Parse.{Body}
use Rattle.model_client.specs.AnswerParse.{Received}
use Rattle.model_client.specs.AnswerReading.{Answer}
use Rattle.model_proxy.specs.Answers.{Found, found_bad, found_body, open_size, own_head, refusal_head}
use Rattle.http_types.specs.declared.message.ConnectionType.{ConnectionType}
use Rattle.http_types.specs.declared.message.ConnectionType.TheVariants.{Close, KeepAlive, Upgrade}
use Rattle.proxy_heads.specs.declared.replies.AnswerUse.{AnswerUse}
use Rattle.proxy_heads.specs.declared.replies.AnswerUse.TheVariants.{Refuse, PassOver, PassOn}
use Rattle.proxy_heads.specs.declared.refusal.Refusal.{Refusal}
use Rattle.proxy_heads.specs.declared.refusal.Refusal.TheVariants.{BadHead, BrokenBody, NotForwardable, NoAnswer}

-- the request's head with its lines name by name, as a map holds them and as they are written
abbrev pub by_names : AskedHead → AskedHead
by_names r = record r { headers = by_name r.headers }

-- the names for one connection alone, beside Connection itself
abbrev pub other_hops : List (List ℕ)
other_hops =
    codes "keep-alive" ∷ codes "proxy-connection" ∷ codes "te" ∷ codes "trailer" ∷ codes "transfer-encoding" ∷ codes "upgrade" ∷ []

-- the name of a length, which an answer's lines lose, but for those of a 304
abbrev pub length_name : ℕ → List (List ℕ)
length_name status = if status == 304 then [] else codes "content-length" ∷ []

-- an answer's lines without those that stay behind
abbrev pub answer_lines : ℕ → List Header → List Header
answer_lines status headers = without (hop_names headers ++ length_name status) headers

-- a byte that ends the status line
abbrev pub is_line_end : ℕ → Bool
is_line_end byte = (byte == 13) || (byte == 10)

-- the reason that is passed on: text on one line
abbrev pub kept_reason : List ℕ → List ℕ
kept_reason reason = if is_utf8 reason && not (list_any is_line_end reason) then reason else []

-- the status of a reply of the forwarder's own
abbrev pub status_of : Refusal → ℕ
status_of BadHead = 400
status_of BrokenBody = 400
status_of NotForwardable = 501
status_of NoAnswer = 502

-- the head of such a reply: that of a head that is refused closes the connection
abbrev pub refusal_of : Refusal → AnswerHead
refusal_of BadHead = refusal_head
refusal_of refusal = own_head (status_of refusal)

-- what is found by a head that a forwarder uses so: of a bad one nothing, of an interim one what is found behind it
abbrev pub found_as : AnswerUse → Received → Answer → Body → Found → Found
found_as Refuse r a body later = found_bad
found_as PassOver r a body later = later
found_as PassOn r a body later = found_body r a body

-- a head that only the laxer reading took, and a 101, are refused; any other below 200 is interim
abbrev pub use_by : Bool → Bool → Bool → AnswerUse
use_by is_lax switches is_interim = if is_lax then Refuse else (if switches then Refuse else (if is_interim then PassOver else PassOn))

-- how a head is used, by the reading that took it and its status
abbrev pub use_of : Bool → ℕ → AnswerUse
use_of is_lax status = use_by is_lax (status == 101) (nat_lt status 200)

-- the type says that the connection closes
abbrev pub is_close_type : ConnectionType → Bool
is_close_type Close = true
is_close_type KeepAlive = false
is_close_type Upgrade = false

-- ---- sizes

-- the length of a body that has one
abbrev pub stated_or : BodyKind → BodySize → BodySize
stated_or (fixed_body n) otherwise = size_of n
stated_or _ otherwise = otherwise

abbrev pub length_or : Option ℕ → BodySize → BodySize
length_or (Some n) otherwise = size_of n
length_or None otherwise = otherwise

-- a body without bytes: a 204 and a 304 have none
abbrev pub empty_size : ℕ → BodySize
empty_size status = if status == 204 then size_none else (if status == 304 then size_none else size_of 0)

-- a reply to HEAD may state a length
abbrev pub other_size : Bool → Answer → BodySize
other_size is_head a =
    if is_head then length_or (stated_length (values_of (codes "content-length") a.headers)) (open_size a.status a.body)
    else open_size a.status a.body
