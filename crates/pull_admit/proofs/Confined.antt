-- The exchanges of a complete pull are confined for its image.
use Rattle.std.proofs.Common.{◌≡◌, ℕ, false, List, [], ◌++◌, Some, None, Result, Ok, Err, refl, sym, subst}
use Rattle.oci_names.specs.Reference.{mirror_of}
use Rattle.oci_names.specs.declared.reference.Reference.{Reference}
use Rattle.oci_transport.specs.Link.{Link, Extends}
use Rattle.oci_transport.specs.declared.message.Exchange.{Exchange}
use Rattle.oci_protocol.specs.Runs.{Runs, Performs, Meets}
use Rattle.registry_calls.specs.Clients.{Kept}
use Rattle.cosign_chain.specs.declared.image.VerifiedImage.{VerifiedImage}
use Rattle.cosign_laws.proofs.Confinement.{pull_confined}
use Rattle.cosign_rows.specs.Refusal.{is_memory}
use Rattle.cosign_rows.specs.Verified.{Whole}
use Rattle.cosign_rows.specs.declared.refusal.PullRefusal.{PullRefusal}
use Rattle.pull_admit.specs.Decided.{PullTerms, IsConfined, pull_of}
use Rattle.pull_admit.specs.OneImage.{is_wanting}

-- a transport that exposes these exchanges
abbrev link_with : List Exchange → ℕ → Link
link_with c n = record { told = Some c; rest = None; pieces = None; faults = n; exact = false; answers = None }

none_some : {A : Type 0} {P : Type 0} (a : A) → None ≡ Some a → P
none_some a is = absurd (cc is)

extends : (c : List Exchange) (m n : ℕ) → Extends (link_with [] m) (link_with c n) c
extends c m n = record {
  told = λ before is. let same : [] ≡ before = cc is in subst (λ (b : List Exchange). Some c ≡ Some (b ++ c)) same refl;
  table = λ a before is told. none_some a is;
  stays = record { exact = refl; steady = λ a is. none_some a is; quiet = λ a is never. none_some a is };
}

-- a complete run is a call over such a transport
performs : (p : Whole VerifiedImage) (k l : Kept) (m n : ℕ) (c : List Exchange) (r : Result VerifiedImage PullRefusal) → Runs p k m c n l r → Performs p (link_with [] m) (link_with c n) k l r
performs p k l m n c r run = record { conversation = c; told = extends c m n; runs = run; runs_by = λ a before is told. none_some a is }

meets : (p : Whole VerifiedImage) (k l : Kept) (m n : ℕ) (c : List Exchange) (r : Result VerifiedImage PullRefusal) → is_wanting r ≡ false → Runs p k m c n l r → Meets is_memory p (link_with [] m) (link_with c n) k l r
meets p k l m n c (Ok v) whole run = record { outcome = performs p k l m n c (Ok v) run }
meets p k l m n c (Err e) whole run = record { outcome = rw whole (performs p k l m n c (Err e) run) }

same_exchanges : (c d : List Exchange) → Some c ≡ Some ([] ++ d) → d ≡ c
same_exchanges c d is = let same : c ≡ d = cc is in sym same

-- so that the law of calls is one of runs
pub confined_run : {V : Type 0} {H : V → Type 0} (t : PullTerms V H) (image : Reference) (k l : Kept) (m n : ℕ) (c : List Exchange) (r : Result VerifiedImage PullRefusal) → mirror_of image ≡ None → is_wanting r ≡ false → Runs (pull_of t image) k m c n l r → IsConfined t image k c l
confined_run t image k l m n c r direct whole run =
    let told = pull_confined t.policy_context t.context image t.auth t.accepted r direct (meets (pull_of t image) k l m n c r whole run) in
    subst (λ (d : List Exchange). IsConfined t image k d l) (same_exchanges c told.conversation (told.told.told [] refl)) told.holds
