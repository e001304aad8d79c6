-- The row of a copy: what is requested of the target.
use Rattle.std.specs.Prelude.{ℕ, List, [], ◌∷◌, Result, Ok, Err}
use Rattle.oci_auth.specs.AuthState.{stored}
use Rattle.oci_auth.specs.declared.auth.RegistryAuth.{RegistryAuth}
use Rattle.oci_auth.specs.declared.auth_state.AuthState.{AuthState}
use Rattle.oci_names.specs.Reference.{resolved_registry}
use Rattle.oci_names.specs.declared.reference.Reference.{Reference}
use Rattle.oci_protocol.specs.Proto.{Done, ◌>>=◌, ◌>>◌}
use Rattle.engine_terms.specs.Contexts.{Context}
use Rattle.engine_rows.specs.Rows.{Row, store}
use Rattle.push_rows.specs.Calls.{push_blob}
use Rattle.push_rows.specs.Images.{push_manifest_raw}
use Rattle.cosign_chain.specs.declared.image.VerifiedImage.{VerifiedImage}
use Rattle.pull_mirror.specs.Pushes.{Push, Blob, Manifest, before_document, document_of, signature_of}

-- one push, which returns the URL at which the bytes are then
abbrev pub push_row : Context → Reference → Push → Row (List ℕ)
push_row s target (Blob digest bytes) = push_blob s target bytes digest
push_row s target (Manifest reference digest bytes content_type) = push_manifest_raw s reference bytes content_type

-- each of these, in order
unfoldable pub all_pushed : Context → Reference → List Push → Row Unit
all_pushed s target [] = Done (Ok tt)
all_pushed s target (push ∷ rest) = do
  _ ← push_row s target push
  all_pushed s target rest

-- the blobs and the manifest of an index's entry, the document that was signed, its signature; the result is the URL of
-- the document
unfoldable pub image_copied : Context → Reference → VerifiedImage → Row (List ℕ)
image_copied s target v = do
  all_pushed s target (before_document v target)
  url ← push_row s target (document_of v target)
  _ ← push_row s target (signature_of v target)
  Done (Ok url)

-- the same, after the credentials were stored
unfoldable pub mirrored_row : Context → Reference → RegistryAuth → VerifiedImage → Row (List ℕ)
mirrored_row s target a v = do
  store target a
  image_copied s target v

-- the client state after the credentials were stored
abbrev pub with_stored : Reference → RegistryAuth → AuthState → AuthState
with_stored target a k = stored k (resolved_registry target) a
