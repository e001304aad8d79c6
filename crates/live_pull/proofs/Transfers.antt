-- A complete run by frames, as a call over a transport that exposes its exchanges: the laws of calls are laws of it.
use Rattle.std.proofs.Common.{◌≡◌, ℕ, false, List, [], ◌++◌, Some, None, Result, Ok, Err, refl, sym, subst}
use Rattle.oci_transport.specs.Link.{Link, Extends}
use Rattle.oci_transport.specs.declared.message.Exchange.{Exchange}
use Rattle.oci_protocol.specs.Runs.{Meets, Performs, Told}
use Rattle.registry_calls.specs.Clients.{Kept, Row}
use Rattle.registry_calls.specs.Error.{is_memory as of_memory}
use Rattle.registry_calls.specs.declared.error.SigstoreError.{SigstoreError}
use Rattle.cosign_parts.specs.declared.layer.SignatureLayer.{SignatureLayer}
use Rattle.cosign_rows.specs.Refusal.{is_memory}
use Rattle.cosign_rows.specs.Verified.{Whole}
use Rattle.cosign_rows.specs.declared.found.TrustedLayers.{TrustedLayers}
use Rattle.cosign_rows.specs.declared.refusal.PullRefusal.{PullRefusal}
use Rattle.live_host.specs.Wire.{Wire}
use Rattle.live_pull.specs.Parts.{IsKept}
use Rattle.live_pull.specs.Pulls.{Collects, IsWhole, Transfer}

-- a transport that exposes these exchanges
abbrev pub link_with : List Exchange → ℕ → Link
link_with c n = record { told = Some c; rest = None; pieces = None; faults = n; exact = false; answers = None }

none_some : {A : Type 0} {P : Type 0} (a : A) → None ≡ Some a → P
none_some a is = absurd (cc is)

extends : (c : List Exchange) (m n : ℕ) → Extends (link_with [] m) (link_with c n) c
extends c m n = record {
  told = λ before is. let same : [] ≡ before = cc is in subst (λ (b : List Exchange). Some c ≡ Some (b ++ c)) same refl;
  table = λ a before is told. none_some a is;
  stays = record { exact = refl; steady = λ a is. none_some a is; quiet = λ a is never. none_some a is };
}

performs : {A : Type 0} (row : Whole A) (old new : Wire) (k l : Kept) (r : Result A PullRefusal) (t : Transfer row old new k l r) → Performs row (link_with [] 0) (link_with t.conversation t.faults) k l r
performs row old new k l r t = record { conversation = t.conversation; told = extends t.conversation 0 t.faults; runs = t.runs; runs_by = λ answering before is told. none_some answering is }

pub meets : {A : Type 0} (row : Whole A) (old new : Wire) (k l : Kept) (r : Result A PullRefusal) → IsKept r → (t : Transfer row old new k l r) → Meets is_memory row (link_with [] 0) (link_with t.conversation t.faults) k l r
meets row old new k l (Ok a) kept t = record { outcome = performs row old new k l (Ok a) t }
meets row old new k l (Err e) kept t = record { outcome = rw kept (performs row old new k l (Err e) t) }

same_exchanges : (c d : List Exchange) → Some c ≡ Some ([] ++ d) → d ≡ c
same_exchanges c d is = let same : c ≡ d = cc is in sym same

-- what a law says of the exposed exchanges holds for those of the run
pub holds_by : {A : Type 0} (row : Whole A) (P : List Exchange → Type 0) (old new : Wire) (k l : Kept) (r : Result A PullRefusal) (t : Transfer row old new k l r) → Told P (link_with [] 0) (link_with t.conversation t.faults) → P t.conversation
holds_by row P old new k l r t told = subst P (same_exchanges t.conversation told.conversation (told.told.told [] refl)) told.holds

-- the same of a search
searches : (row : Row TrustedLayers) (old new : Wire) (k l : Kept) (r : Result TrustedLayers SigstoreError) → IsWhole r → (t : Transfer row old new k l r) → Meets of_memory row (link_with [] 0) (link_with t.conversation t.faults) k l r
searches row old new k l (Ok found) whole t = record { outcome = record { conversation = t.conversation; told = extends t.conversation 0 t.faults; runs = t.runs; runs_by = λ answering before is told. none_some answering is } }
searches row old new k l (Err e) whole t = record { outcome = rw whole (record { conversation = t.conversation; told = extends t.conversation 0 t.faults; runs = t.runs; runs_by = λ answering before is told. none_some answering is }) }

pub search_holds : (row : Row TrustedLayers) (P : List Exchange → Type 0) (old new : Wire) (k l : Kept) (layers : List SignatureLayer) (collects : Collects row old new k l layers)
    → ((a b : Link) → Meets of_memory row a b k l collects.answer → Told P a b) → P collects.transfer.conversation
search_holds row P old new k l layers collects law =
    let told = law (link_with [] 0) (link_with collects.transfer.conversation collects.transfer.faults) (searches row old new k l collects.answer collects.whole collects.transfer) in
    subst P (same_exchanges collects.transfer.conversation told.conversation (told.told.told [] refl)) told.holds
