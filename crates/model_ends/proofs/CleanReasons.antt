-- The reasons that statuses have are of the bytes of a value.
use Rattle.std.proofs.Common.{◌≡◌, ℕ, Bool, true, false, cond, List, Option, Some, None, codes, refl, eqb}
use Rattle.std.specs.Prelude.{unwrap_or}
use Rattle.std.specs.List.{list_all}
use Rattle.std.proofs.lemmas.List.Sums.{AllPass-from_list_all}
use Rattle.http.specs.StatusCode.{reason_phrase}
use Rattle.httparse.specs.Grammar.{AllPass, is_value_byte}
use Rattle.model_h1.specs.Answer.{AnswerHead}
use Rattle.model_client.specs.WrittenHead.{IsCleanReason, written_reason}

-- the reason, or else what stands where there is none
abbrev IsCleanOr : Option (List ℕ) → Type 0
IsCleanOr phrase = AllPass is_value_byte (unwrap_or phrase (codes "<unknown status code>"))

-- one of two
either : (t : Bool) (a b : Option (List ℕ)) → IsCleanOr a → IsCleanOr b → IsCleanOr (cond t a b)
either true a b x y = x
either false a b x y = y

-- one phrase, and others
phrase : (t : Bool) (text : List ℕ) (others : Option (List ℕ)) → list_all is_value_byte text ≡ true → IsCleanOr others → IsCleanOr (cond t (Some text) others)
phrase t text others e y = either t (Some text) others (AllPass-from_list_all is_value_byte text e) y

-- each phrase
phrases : (n : ℕ) → IsCleanOr (reason_phrase n)
phrases n =
    phrase (eqb n 100) (codes "Continue") _ refl (
    phrase (eqb n 101) (codes "Switching Protocols") _ refl (
    phrase (eqb n 102) (codes "Processing") _ refl (
    phrase (eqb n 103) (codes "Early Hints") _ refl (
    phrase (eqb n 200) (codes "OK") _ refl (
    phrase (eqb n 201) (codes "Created") _ refl (
    phrase (eqb n 202) (codes "Accepted") _ refl (
    phrase (eqb n 203) (codes "Non Authoritative Information") _ refl (
    phrase (eqb n 204) (codes "No Content") _ refl (
    phrase (eqb n 205) (codes "Reset Content") _ refl (
    phrase (eqb n 206) (codes "Partial Content") _ refl (
    phrase (eqb n 207) (codes "Multi-Status") _ refl (
    phrase (eqb n 208) (codes "Already Reported") _ refl (
    phrase (eqb n 226) (codes "IM Used") _ refl (
    phrase (eqb n 300) (codes "Multiple Choices") _ refl (
    phrase (eqb n 301) (codes "Moved Permanently") _ refl (
    phrase (eqb n 302) (codes "Found") _ refl (
    phrase (eqb n 303) (codes "See Other") _ refl (
    phrase (eqb n 304) (codes "Not Modified") _ refl (
    phrase (eqb n 305) (codes "Use Proxy") _ refl (
    phrase (eqb n 307) (codes "Temporary Redirect") _ refl (
    phrase (eqb n 308) (codes "Permanent Redirect") _ refl (
    phrase (eqb n 400) (codes "Bad Request") _ refl (
    phrase (eqb n 401) (codes "Unauthorized") _ refl (
    phrase (eqb n 402) (codes "Payment Required") _ refl (
    phrase (eqb n 403) (codes "Forbidden") _ refl (
    phrase (eqb n 404) (codes "Not Found") _ refl (
    phrase (eqb n 405) (codes "Method Not Allowed") _ refl (
    phrase (eqb n 406) (codes "Not Acceptable") _ refl (
    phrase (eqb n 407) (codes "Proxy Authentication Required") _ refl (
    phrase (eqb n 408) (codes "Request Timeout") _ refl (
    phrase (eqb n 409) (codes "Conflict") _ refl (
    phrase (eqb n 410) (codes "Gone") _ refl (
    phrase (eqb n 411) (codes "Length Required") _ refl (
    phrase (eqb n 412) (codes "Precondition Failed") _ refl (
    phrase (eqb n 413) (codes "Payload Too Large") _ refl (
    phrase (eqb n 414) (codes "URI Too Long") _ refl (
    phrase (eqb n 415) (codes "Unsupported Media Type") _ refl (
    phrase (eqb n 416) (codes "Range Not Satisfiable") _ refl (
    phrase (eqb n 417) (codes "Expectation Failed") _ refl (
    phrase (eqb n 418) (codes "I'm a teapot") _ refl (
    phrase (eqb n 421) (codes "Misdirected Request") _ refl (
    phrase (eqb n 422) (codes "Unprocessable Entity") _ refl (
    phrase (eqb n 423) (codes "Locked") _ refl (
    phrase (eqb n 424) (codes "Failed Dependency") _ refl (
    phrase (eqb n 425) (codes "Too Early") _ refl (
    phrase (eqb n 426) (codes "Upgrade Required") _ refl (
    phrase (eqb n 428) (codes "Precondition Required") _ refl (
    phrase (eqb n 429) (codes "Too Many Requests") _ refl (
    phrase (eqb n 431) (codes "Request Header Fields Too Large") _ refl (
    phrase (eqb n 451) (codes "Unavailable For Legal Reasons") _ refl (
    phrase (eqb n 500) (codes "Internal Server Error") _ refl (
    phrase (eqb n 501) (codes "Not Implemented") _ refl (
    phrase (eqb n 502) (codes "Bad Gateway") _ refl (
    phrase (eqb n 503) (codes "Service Unavailable") _ refl (
    phrase (eqb n 504) (codes "Gateway Timeout") _ refl (
    phrase (eqb n 505) (codes "HTTP Version Not Supported") _ refl (
    phrase (eqb n 506) (codes "Variant Also Negotiates") _ refl (
    phrase (eqb n 507) (codes "Insufficient Storage") _ refl (
    phrase (eqb n 508) (codes "Loop Detected") _ refl (
    phrase (eqb n 510) (codes "Not Extended") _ refl (
    phrase (eqb n 511) (codes "Network Authentication Required") _ refl (
    AllPass-from_list_all is_value_byte (codes "<unknown status code>") refl))))))))))))))))))))))))))))))))))))))))))))))))))))))))))))))

-- the reason that is written
pub reason_clean : (answer : AnswerHead) → IsCleanReason answer.reason → AllPass is_value_byte (written_reason answer)
reason_clean answer own = by_own answer.reason own
  where
    by_own : (r : Option (List ℕ)) → IsCleanReason r → AllPass is_value_byte (unwrap_or r (unwrap_or (reason_phrase answer.status) (codes "<unknown status code>")))
    by_own None own = phrases answer.status
    by_own (Some text) own = own
