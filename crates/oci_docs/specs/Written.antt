-- The text of a pushed manifest.
use Rattle.std.specs.Prelude.{ℕ, List}
use Rattle.serde_json.specs.Written.{compact_text}
use Rattle.oci_docs.specs.Nfc.{composed}
use Rattle.oci_manifests.specs.declared.document.OciManifest.{OciManifest}
use Rattle.oci_manifests.specs.Document.{document_written}

-- no white space, names in the order of their bytes, names and strings in NFC
abbrev pub manifest_text_of : OciManifest → List ℕ
manifest_text_of document = compact_text (composed (document_written document))
