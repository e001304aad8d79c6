-- What the host is asked about entries of a lock file.
use Rattle.std.specs.Prelude.{ℕ, List, All, Option, filter_map}
use Rattle.std.specs.FinMap.{FinMap}
use Rattle.std.specs.Result.{result_ok}
use Rattle.json_values.specs.Places.{by_bytes}
use Rattle.cosign_parts.specs.declared.layer.SignatureLayer.{SignatureLayer}
use Rattle.cosign_layers.specs.Checks.{layer_read}
use Rattle.pull_lock.specs.Tests.{input_of}
use Rattle.pull_lock.specs.declared.lock.LockEntry.{LockEntry}
use Rattle.live_host.specs.Everyone.{everyone}
use Rattle.live_host.specs.Questions.{LayerAsked}
use Rattle.live_host.specs.declared.answers.HostAnswer.{HostAnswer}

-- the signature layer of an entry, if each signature were valid and each certificate vouched for; none if it is not
-- about the entry's digest even so
abbrev pub layer_of : FinMap by_bytes (List ℕ) → LockEntry → Option SignatureLayer
layer_of log_keys e = result_ok (layer_read (everyone log_keys) e.digest (input_of e.signature))

-- those of entries
abbrev pub layers_of : FinMap by_bytes (List ℕ) → List LockEntry → List SignatureLayer
layers_of log_keys entries = filter_map (layer_of log_keys) entries

-- the host was asked about the signature layer of each of these entries
abbrev pub EntriesAsked : List HostAnswer → List (List ℕ) → FinMap by_bytes (List ℕ) → List LockEntry → Type 0
EntriesAsked answers keys log_keys entries = All (LayerAsked answers keys log_keys) (layers_of log_keys entries)
