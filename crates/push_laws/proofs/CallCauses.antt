-- Why each call that pushes was refused, and that a fault of the transport is returned only if its count increased.
use Rattle.std.proofs.Common.{◌≡◌, inl, inr, ℕ, true, List, [], Option, None, Result, Err, IfErr, refl}
use Rattle.json_values.specs.Counts.{Increased}
use Rattle.oci_names.specs.declared.reference.Reference.{Reference}
use Rattle.oci_auth.specs.declared.auth.RegistryAuth.{RegistryAuth}
use Rattle.oci_auth.specs.declared.auth_state.AuthState.{AuthState}
use Rattle.oci_transport.specs.Link.{Link}
use Rattle.oci_transport.specs.declared.message.Exchange.{Exchange}
use Rattle.oci_transport.specs.declared.message.Method.{Method}
use Rattle.oci_protocol.specs.Runs.{Meets, Told}
use Rattle.engine_terms.specs.Contexts.{Context}
use Rattle.engine_terms.specs.Error.{is_memory}
use Rattle.engine_terms.specs.declared.error.GenericCause.TheVariants.{HeaderText}
use Rattle.engine_terms.specs.declared.error.OciDistributionError.{OciDistributionError}
use Rattle.engine_terms.specs.declared.error.OciDistributionError.TheVariants as refusal
use Rattle.engine_terms.specs.declared.settings.Settings.{Settings}
use Rattle.engine_rows.specs.Causes.{BadHeader}
use Rattle.engine_rows.specs.Held.{Entry}
use Rattle.engine_rows.specs.Rows.{Row}
use Rattle.engine_rows.specs.TokenCauses.{LastIs}
use Rattle.request_laws.proofs.FaultCounts.{fault_last, refusal_both}
use Rattle.request_laws.proofs.KeptTokens.{Keeps, keeps_first}
use Rattle.request_laws.proofs.ShownTokens.{Carries, HeaderCause}
use Rattle.push_rows.specs.Calls.{push_blob, push_blob_stream, push_blob_stream_chunked, mount_blob}
use Rattle.push_rows.specs.Contents.{octet_stream}
use Rattle.push_rows.specs.declared.responses.PushBlobStreamChunkedResponse.{PushBlobStreamChunkedResponse}
use Rattle.push_rows.specs.Causes.{of_upload, of_mount, PushText, PushCause, BadUpload, UploadCause, MountCause, OfBytes, OfStream, OfNamedStream, OfNothing}
use Rattle.push_laws.proofs.Confinement.{pushing, Kept, Bound, blob_bound, stream_bound, named_bound, mount_bound}
use Rattle.push_laws.proofs.RequestCauses.{Loose, Shown}
use Rattle.push_laws.proofs.UploadCauses.{blob_shown, stream_shown, named_shown, mount_shown}

module _ (expects : Method → Option ℕ) (T : List Exchange → List ℕ → Type 0) (Own : OciDistributionError → Type 0) (s : Settings) where
  free : (Bad : List Exchange → Type 0) (c : List Exchange) (n : ℕ) (e : OciDistributionError) → is_memory e ≡ true → PushCause expects T Own Bad s c n e
  free Bad c n refusal.WantOfMemory is = tt
  free Bad c n _ is = absurd (cc is)

  -- a cause, with the values that are not valid header values
  tight : (x : Entry) (kind : List ℕ) (Bad : List Exchange → Type 0) → ((c : List Exchange) → BadHeader x s kind c → Bad c) → (c : List Exchange) (n : ℕ) (e : OciDistributionError) → Loose expects T Own s c n e → HeaderCause x s kind c e → PushCause expects T Own Bad s c n e
  tight x kind Bad is_bad c n (refusal.GenericError HeaderText) h bad = is_bad c bad
  tight x kind Bad is_bad c n _ h bad = h

  last_failed : (m n : ℕ) (c : List Exchange) → Loose expects T Own s c n refusal.TransportFault → LastIs (λ e. Increased e.faults n) c
  last_failed m n c h = record { before = h.before; last = h.last; split = h.split; holds = h.holds.2 }

abbrev pub Counted : Link → Link → {A : Type 0} → Result A OciDistributionError → Type 0
Counted old new r = r ≡ Err refusal.TransportFault → Increased old.faults new.faults

module _ (expects : Method → Option ℕ) (T : List Exchange → List ℕ → Type 0) (Own : OciDistributionError → Type 0) (s : Context) (image : Reference) (handed : Option RegistryAuth) (kind : List ℕ) {A : Type 0} (p : Row A) where
  -- the exposed exchanges have the cause of the refusal
  pub pushed_reason : (Bad : List Exchange → Type 0) {old new : Link} {k l : AuthState} → Shown expects T Own s.settings (λ c a. Unit {0}) p → Bound (pushing k s image handed) s.settings kind p → ((c : List Exchange) → BadHeader (pushing k s image handed) s.settings kind c → Bad c) → (r : Result A OciDistributionError) → Meets is_memory p old new k l r
      → IfErr r (λ e. Told (λ c. PushCause expects T Own Bad s.settings c new.faults e) old new)
  pushed_reason Bad {k = k} shown bound is_bad r met =
      let x = pushing k s image handed in
      refusal_both (Carries x s.settings) (λ m c n a. Unit {0}) (λ m c n e. Loose expects T Own s.settings c n e) (Keeps x) (Kept x s.settings kind) (λ c n e. PushCause expects T Own Bad s.settings c n e) p
      (λ n c e is. free expects T Own s.settings Bad c n e is) (λ m n c e loose kept. tight expects T Own s.settings x kind Bad is_bad c n e loose kept.1) shown (bound.safe k [] (keeps_first x)) met

  pub pushed_fault : {old new : Link} {k l : AuthState} → Shown expects T Own s.settings (λ c a. Unit {0}) p → (r : Result A OciDistributionError) → Meets is_memory p old new k l r → Counted old new r
  pushed_fault shown r met is = fault_last (λ m c n a. Unit {0}) (λ m c n e. Loose expects T Own s.settings c n e) p refusal.TransportFault refl (last_failed expects T Own s.settings) shown (rw is at met)

-- ---- the calls that push blobs

-- the type of a blob's bytes is a valid header value
upload_bad : (x : Entry) (s : Settings) (c : List Exchange) → BadHeader x s octet_stream c → BadUpload x s c
upload_bad x s c (inl (inl bad)) = inl bad
upload_bad x s c (inl (inr bad)) = absurd (cc bad)
upload_bad x s c (inr bad) = inr bad

-- the entry of a call without credentials
abbrev pub entry : AuthState → Context → Reference → Entry
entry k s image = pushing k s image None

abbrev pub Why : Entry → Settings → Link → Link → (OciDistributionError → Type 0) → {A : Type 0} → Result A OciDistributionError → Type 0
Why x s old new Own r = IfErr r (λ e. Told (λ c. UploadCause Own x s c new.faults e) old new)

module _ (s : Context) (image : Reference) {old new : Link} {k l : AuthState} where
  pub blob_reason : (content digest : List ℕ) (r : Result (List ℕ) OciDistributionError) → Meets is_memory (push_blob s image content digest) old new k l r → Why (entry k s image) s.settings old new (OfBytes content) r
  blob_reason content digest r met = pushed_reason of_upload (PushText s.settings image) (OfBytes content) s image None octet_stream (push_blob s image content digest) (BadUpload (entry k s image) s.settings) (blob_shown s image content digest) (blob_bound k s image None octet_stream content digest) (upload_bad (entry k s image) s.settings) r met

  pub blob_fault : (content digest : List ℕ) (r : Result (List ℕ) OciDistributionError) → Meets is_memory (push_blob s image content digest) old new k l r → Counted old new r
  blob_fault content digest r met = pushed_fault of_upload (PushText s.settings image) (OfBytes content) s image None octet_stream (push_blob s image content digest) (blob_shown s image content digest) r met

  pub stream_reason : (digest : List ℕ) (size : Option ℕ) (r : Result (List ℕ) OciDistributionError) → Meets is_memory (push_blob_stream s image digest size) old new k l r → Why (entry k s image) s.settings old new (OfStream size) r
  stream_reason digest size r met = pushed_reason of_upload (PushText s.settings image) (OfStream size) s image None octet_stream (push_blob_stream s image digest size) (BadUpload (entry k s image) s.settings) (stream_shown s image digest size) (stream_bound k s image None octet_stream digest size) (upload_bad (entry k s image) s.settings) r met

  pub stream_fault : (digest : List ℕ) (size : Option ℕ) (r : Result (List ℕ) OciDistributionError) → Meets is_memory (push_blob_stream s image digest size) old new k l r → Counted old new r
  stream_fault digest size r met = pushed_fault of_upload (PushText s.settings image) (OfStream size) s image None octet_stream (push_blob_stream s image digest size) (stream_shown s image digest size) r met

  pub named_reason : (r : Result PushBlobStreamChunkedResponse OciDistributionError) → Meets is_memory (push_blob_stream_chunked s image) old new k l r → Why (entry k s image) s.settings old new OfNamedStream r
  named_reason r met = pushed_reason of_upload (PushText s.settings image) OfNamedStream s image None octet_stream (push_blob_stream_chunked s image) (BadUpload (entry k s image) s.settings) (named_shown s image) (named_bound k s image None octet_stream) (upload_bad (entry k s image) s.settings) r met

  pub named_fault : (r : Result PushBlobStreamChunkedResponse OciDistributionError) → Meets is_memory (push_blob_stream_chunked s image) old new k l r → Counted old new r
  named_fault r met = pushed_fault of_upload (PushText s.settings image) OfNamedStream s image None octet_stream (push_blob_stream_chunked s image) (named_shown s image) r met

  pub mount_reason : (source : Reference) (digest : List ℕ) (r : Result (Unit {0}) OciDistributionError) → Meets is_memory (mount_blob s image source digest) old new k l r → IfErr r (λ e. Told (λ c. MountCause (entry k s image) s.settings c new.faults e) old new)
  mount_reason source digest r met = pushed_reason of_mount (PushText s.settings image) OfNothing s image None octet_stream (mount_blob s image source digest) (BadUpload (entry k s image) s.settings) (mount_shown s image source digest) (mount_bound k s image None octet_stream source digest) (upload_bad (entry k s image) s.settings) r met

  pub mount_fault : (source : Reference) (digest : List ℕ) (r : Result (Unit {0}) OciDistributionError) → Meets is_memory (mount_blob s image source digest) old new k l r → Counted old new r
  mount_fault source digest r met = pushed_fault of_mount (PushText s.settings image) OfNothing s image None octet_stream (mount_blob s image source digest) (mount_shown s image source digest) r met
