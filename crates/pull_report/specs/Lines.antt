-- The lines of a report.
use Rattle.std.specs.Prelude.{ℕ, List, [], ◌∷◌, codes}
use Rattle.oci_transport.specs.declared.message.Method.{Method}
use Rattle.oci_transport.specs.declared.message.Method.TheVariants.{Get, Head, Post, Put, Patch}
use Rattle.oci_transport.specs.declared.message.Exchange.{Exchange}
use Rattle.pull_report.specs.Words.{line}

abbrev pub method_name : Method → List ℕ
method_name Get = codes "GET"
method_name Head = codes "HEAD"
method_name Post = codes "POST"
method_name Put = codes "PUT"
method_name Patch = codes "PATCH"

-- the request of the exchange
abbrev pub exchange_line : Exchange → List ℕ
exchange_line exchange = line (method_name exchange.request.method ∷ exchange.request.url ∷ [])
