-- What stands in a line of the log.
use Rattle.std.specs.Prelude.{ℕ, List, ◌++◌, codes, decimal, Option, Some, None}
use Rattle.std.specs.declared.net.socket_addr.SocketAddr.{SocketAddr}
use Rattle.std.specs.Net.Text.{socket_text}
use Rattle.http_uri.specs.Uri.{uri_text}
use Rattle.http_files.specs.LogText.{line_text}
use Rattle.http_types.specs.declared.requests.head.RequestHead.{RequestHead}

-- the method and the target, each without a blank or a byte that ends the line
abbrev pub asked_of : RequestHead → List ℕ
asked_of head = line_text head.method ++ (codes " " ++ line_text (uri_text head.uri))

abbrev pub asked_text : Option RequestHead → List ℕ
asked_text (Some head) = asked_of head
asked_text None = codes "-"

-- who asked and when, what was asked, and the status of the reply
abbrev pub reply_line : SocketAddr → List ℕ → List ℕ → ℕ → List ℕ
reply_line peer date asked status =
    socket_text peer ++ (codes " [" ++ (date ++ (codes "] " ++ (asked ++ (codes " " ++ (decimal status ++ codes "\n"))))))
