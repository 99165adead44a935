-- What a request's head means in the model.
use Rattle.std.specs.Prelude.{ℕ, Bool, List, [], nat_le, unwrap_or}
use Rattle.http.specs.declared.version.Http.{Http}
use Rattle.http.specs.declared.version.Http.TheVariants.{Http09, Http10, Http11, H2, H3}
use Rattle.http.specs.declared.version.Version.{Version}
use Rattle.http_uri.specs.declared.uri.Uri.{Uri}
use Rattle.http_uri.specs.Uri.{uri_path_and_query}
use Rattle.http_uri.specs.Grammar.{path_and_query_text}
use Rattle.http_types.specs.declared.requests.head.RequestHead.{RequestHead}
use Rattle.http_types.specs.RequestHead.{request_flags}
use Rattle.h1_encoder.specs.Meaning.{headers_of}
use Rattle.model_client.specs.RequestText.{AskedHead}

-- the path and the query, and a slash where there is no path, also before a query (RFC 9112, section 3.2.1)
abbrev pub target_of : Uri → List ℕ
target_of uri = path_and_query_text (unwrap_or (uri_path_and_query uri) [])

abbrev minor_in : Http → ℕ
minor_in Http09 = 2
minor_in Http10 = 0
minor_in Http11 = 1
minor_in H2 = 2
minor_in H3 = 2

-- the minor number of HTTP/1.0 and 1.1; 2 stands for a version in which no request is written
abbrev pub asked_minor : Version → ℕ
asked_minor version = minor_in version.0

-- a request of this version has a text
abbrev pub has_text : Version → Bool
has_text version = nat_le (asked_minor version) 1

-- the head
abbrev pub asked_head : RequestHead → AskedHead
asked_head head = record {
  method = head.method;
  target = target_of head.uri;
  minor = asked_minor head.version;
  in_camel_case = (request_flags head).in_camel_case;
  headers = headers_of head.headers;
}
