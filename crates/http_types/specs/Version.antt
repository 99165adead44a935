-- The versions of HTTP as these crates tell them apart.
use Rattle.std.specs.Prelude.{Bool, true, false}
use Rattle.http.specs.declared.version.Http.{Http}
use Rattle.http.specs.declared.version.Http.TheVariants.{Http09, Http10, Http11, H2, H3}
use Rattle.http.specs.declared.version.Version.{Version}

-- the test on what a version holds
abbrev is_below : Http → Bool
is_below Http09 = true
is_below Http10 = true
is_below Http11 = false
is_below H2 = false
is_below H3 = false

-- HTTP/0.9 or HTTP/1.0, whose connections end with their message unless it asks otherwise
abbrev pub is_below_http11 : Version → Bool
is_below_http11 version = is_below version.0
