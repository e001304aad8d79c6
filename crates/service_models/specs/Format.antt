-- The format of a public key for a search in Rekor (its API, `SearchIndex`).
use Rattle.std.specs.Prelude.{ℕ, List, if◌then◌else◌, Option, Some, None, codes}
use Rattle.std.specs.Str.{bytes_eq}
use Rattle.serde_json.specs.Data.{Data, string}
use Rattle.json_tables.specs.Reading.{◌>>=◌, text_of}
use Rattle.service_models.specs.declared.format.Format.{Format}
use Rattle.service_models.specs.declared.format.Format.TheVariants.{Pgp, X509, Minisign, Ssh, Tuf}

-- the format with this text, if it is in the table
unfoldable pub known_format : List ℕ → Option Format
known_format text =
    if bytes_eq text (codes "pgp") then Some Pgp
    else (if bytes_eq text (codes "x509") then Some X509
    else (if bytes_eq text (codes "minisign") then Some Minisign
    else (if bytes_eq text (codes "ssh") then Some Ssh
    else (if bytes_eq text (codes "tuf") then Some Tuf else None))))

unfoldable pub format_of : Data → Option Format
format_of d = text_of d >>= known_format

-- the text of a format
unfoldable pub format_text : Format → List ℕ
format_text Pgp = codes "pgp"
format_text X509 = codes "x509"
format_text Minisign = codes "minisign"
format_text Ssh = codes "ssh"
format_text Tuf = codes "tuf"

unfoldable pub format_written : Format → Data
format_written format = string (format_text format)
