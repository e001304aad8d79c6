use Rattle.std.proofs.Common.{refl}
use Rattle.constant_texts.proofs.texts.media_types_are_these.Goals as goal

pub returns-clause-documents : goal.returns-clause-documents
returns-clause-documents c = record { wasm_config = refl; docker_manifest = refl; docker_manifest_list = refl; oci_manifest = refl; oci_index = refl; oci_config = refl; docker_config = refl }

pub returns-clause-layers : goal.returns-clause-layers
returns-clause-layers c = record { wasm_layer = refl; oci_layer = refl; oci_layer_gzip = refl; docker_layer = refl; docker_layer_gzip = refl; nondistributable_layer = refl; nondistributable_layer_gzip = refl; simple_signing = refl; bundle = refl }

pub returns-clause-accepted : goal.returns-clause-accepted
returns-clause-accepted c = record { accepted = refl }
