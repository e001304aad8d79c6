-- What is pushed for one image of an index: its blobs and its manifest, under no tag.
use Rattle.std.specs.Prelude.{ℕ, List, [], ◌∷◌, ◌++◌, Result, Ok, Err}
use Rattle.oci_auth.specs.declared.auth.RegistryAuth.{RegistryAuth}
use Rattle.oci_names.specs.declared.reference.Reference.{Reference}
use Rattle.oci_protocol.specs.Proto.{◌>>=◌, ◌>>◌}
use Rattle.engine_terms.specs.Contexts.{Context}
use Rattle.engine_terms.specs.declared.error.OciDistributionError.{OciDistributionError}
use Rattle.engine_rows.specs.Rows.{Row, store}
use Rattle.cosign_chain.specs.declared.image.VerifiedImage.{VerifiedImage}
use Rattle.pull_mirror.specs.Copies.{all_pushed}
use Rattle.pull_mirror.specs.Errors.{error_of}
use Rattle.pull_mirror.specs.Pushes.{Push, Blob, layer_blobs, manifest_push, without_repeats}
use Rattle.pull_mirror.specs.declared.refusals.PushRefusal.{PushRefusal}

-- the layers and the configuration
abbrev pub entry_blobs : VerifiedImage → List Push
entry_blobs v = layer_blobs v.manifest.layers v.layers ++ Blob v.manifest.config.digest v.config.content ∷ []

-- each digest once, and then the manifest by its digest
abbrev pub entry_pushes : VerifiedImage → Reference → List Push
entry_pushes v target =
    without_repeats (entry_blobs v) ++ manifest_push v.manifest_digest v.manifest_bytes target ∷ []

-- each of these, in order, after the credentials were stored
unfoldable pub stored_pushed : Context → Reference → RegistryAuth → List Push → Row Unit
stored_pushed s target a ps = do
  store target a
  all_pushed s target ps

abbrev pub entry_pushed : Context → Reference → RegistryAuth → VerifiedImage → Row Unit
entry_pushed s target a v = stored_pushed s target a (entry_pushes v target)

-- the result as the row has it
abbrev pub sent_of : Result (List (List ℕ)) PushRefusal → Result (Unit {0}) OciDistributionError
sent_of (Ok digests) = Ok tt
sent_of (Err e) = Err (error_of e)
