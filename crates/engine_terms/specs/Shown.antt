-- What `Debug` prints of the body of a realm's response: how many bytes it has, and none of them.
use Rattle.std.specs.Prelude.{ℕ, List, ◌++◌, codes, decimal, length}

abbrev pub shown_body : List ℕ → List ℕ
shown_body body = decimal (length body) ++ codes " bytes"
