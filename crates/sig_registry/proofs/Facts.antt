-- The clauses of a call whose response may be cached, exit by exit.
use Rattle.std.proofs.Common.{◌≡◌, inl, ℕ, Bool, true, false, List, [], Option, Some, None, Result, Ok, Err, refl, sym, ap, subst, ◌∙◌}
use Rattle.std.specs.Result.{IsErrAnd}
use Rattle.std.proofs.lemmas.Result.{err_from_is_err_and}
use Rattle.oci_transport.specs.declared.message.Exchange.{Exchange}
use Rattle.oci_transport.specs.Link.{Link}
use Rattle.oci_names.specs.Reference.{reads_back}
use Rattle.oci_auth.specs.declared.auth.RegistryAuth.{RegistryAuth}
use Rattle.oci_auth.specs.declared.auth_state.AuthState.{AuthState}
use Rattle.oci_manifests.specs.declared.document.OciManifest.{OciManifest}
use Rattle.oci_manifests.specs.declared.index.OciImageIndex.{OciImageIndex}
use Rattle.oci_protocol.specs.Lift.{lifted}
use Rattle.oci_protocol.specs.Runs.{Meets, Told}
use Rattle.oci_protocol.proofs.Conversations.{Extends-none}
use Rattle.oci_protocol.proofs.WiderMemory.{Meets-lifted}
use Rattle.engine_terms.specs.declared.settings.Settings.{Settings}
use Rattle.engine_terms.specs.Contexts.{Context, within}
use Rattle.engine_rows.specs.declared.image.ImageData.{ImageData}
use Rattle.engine_rows.specs.Confined.{Within}
use Rattle.engine_rows.specs.Held.{Entry, pulling}
use Rattle.engine_rows.specs.ReferrersCauses.{WithinReferrers}
use Rattle.oci_engine.specs.declared.client.Client.{Client as Engine}
use Rattle.registry_cache.specs.Answers.{keep, entry, as_digest, as_manifest, as_image, as_referrers}
use Rattle.registry_cache.specs.declared.answer.Answer.{Answer}
use Rattle.registry_cache.specs.declared.answer.Answer.TheVariants.{Digest, Manifest, Image, Referrers}
use Rattle.registry_cache.specs.declared.answers.Answers.{Answers}
use Rattle.registry_calls.specs.declared.error.SigstoreError.{SigstoreError}
use Rattle.registry_calls.specs.declared.error.SigstoreError.TheVariants as refusal
use Rattle.registry_calls.specs.Error.{is_memory, registry_refusal, FaultCounted, NoSinkFault}
use Rattle.registry_calls.specs.Clients.{Kept, Plain, Row, Client, ClientMeets, KeepsAnswers, RefusalKeeps}
use Rattle.registry_calls.specs.Calls.{digest_made, manifest_made, image_made, referrers_made, digest_call, manifest_call, image_call, referrers_call}
use Rattle.sig_registry.specs.States.{engine_state, PlainlyMade}
use Rattle.registry_calls.specs.Caching.{recalled, cached}
use Rattle.registry_cache.specs.Caching.{Cache, known, key_if}
use Rattle.registry_cache.specs.KeptCalls.{digests, manifests, images, referrers}
use Rattle.registry_calls.specs.Log.{Call, DigestCall, ManifestCall, ImageCall, ReferrersCall, image_called, kind_called, key_called, answering, call_made, Recalled, Logged}
use Rattle.sig_registry.proofs.CachedAnswers as kept
use Rattle.sig_registry.proofs.Logs.{IsCache, logged as logged_call}

-- ---- how the four kinds are cached

pub digests_kept : IsCache digests
digests_kept = record { kind_is = λ a. refl; reads = reads } where
  reads : (x : Answer) (a : List ℕ) → as_digest x ≡ Some a → x ≡ Digest a
  reads (Digest text) a is = let same : text ≡ a = cc is in ap Digest same
  reads _ a is = absurd (cc is)

pub manifests_kept : IsCache manifests
manifests_kept = record { kind_is = λ a. refl; reads = reads } where
  reads : (x : Answer) (a : OciManifest × List ℕ) → as_manifest x ≡ Some a → x ≡ Manifest a.0 a.1
  reads (Manifest document digest) a is = let same : (document, digest) ≡ a = cc is in ap (λ (pair : OciManifest × List ℕ). Manifest pair.0 pair.1) same
  reads _ a is = absurd (cc is)

pub images_kept : IsCache images
images_kept = record { kind_is = λ a. refl; reads = reads } where
  reads : (x : Answer) (a : ImageData) → as_image x ≡ Some a → x ≡ Image a
  reads (Image image) a is = let same : image ≡ a = cc is in ap Image same
  reads _ a is = absurd (cc is)

pub referrers_kept : IsCache referrers
referrers_kept = record { kind_is = λ a. refl; reads = reads } where
  reads : (x : Answer) (a : OciImageIndex) → as_referrers x ≡ Some a → x ≡ Referrers a
  reads (Referrers index) a is = let same : index ≡ a = cc is in ap Referrers same
  reads _ a is = absurd (cc is)

-- ---- the four calls, by their arguments

abbrev Answered : Call → Type 0
Answered (DigestCall image a) = List ℕ
Answered (ManifestCall image a) = OciManifest × List ℕ
Answered (ImageCall image a accepted) = ImageData
Answered (ReferrersCall image a artifact_type) = OciImageIndex

abbrev cache_of : (call : Call) → Cache (Answered call)
cache_of (DigestCall image a) = digests
cache_of (ManifestCall image a) = manifests
cache_of (ImageCall image a accepted) = images
cache_of (ReferrersCall image a artifact_type) = referrers

cache_law : (call : Call) → IsCache (cache_of call)
cache_law (DigestCall image a) = digests_kept
cache_law (ManifestCall image a) = manifests_kept
cache_law (ImageCall image a accepted) = images_kept
cache_law (ReferrersCall image a artifact_type) = referrers_kept

kind_is : (call : Call) → kind_called call ≡ (cache_of call).kind
kind_is (DigestCall image a) = refl
kind_is _ = refl

-- the uncached call
abbrev plain_of : (call : Call) → Context → Plain (Answered call)
plain_of (DigestCall image a) s = digest_made s image a
plain_of (ManifestCall image a) s = manifest_made s image a
plain_of (ImageCall image a accepted) s = image_made s image a accepted
plain_of (ReferrersCall image a artifact_type) s = referrers_made s image a artifact_type

made_is : (call : Call) (s : Context) → call_made s call ≡ answering (cache_of call) (plain_of call s)
made_is (DigestCall image a) s = refl
made_is _ s = refl

-- the call as clients return it
abbrev row_of : (call : Call) → Context → Row (Answered call)
row_of (DigestCall image a) s = digest_call s image a
row_of (ManifestCall image a) s = manifest_call s image a
row_of (ImageCall image a accepted) s = image_call s image a accepted
row_of (ReferrersCall image a artifact_type) s = referrers_call s image a artifact_type

row_is : (call : Call) (s : Context) → row_of call s ≡ cached (reads_back (image_called call)) (cache_of call) (key_called call) s.moment (plain_of call s)
unfolding digest_call manifest_call image_call referrers_call
row_is (DigestCall image a) s = refl
row_is _ s = refl

-- where its credentials and tokens are sent
abbrev auth_of : Call → RegistryAuth
auth_of (DigestCall image a) = a
auth_of (ManifestCall image a) = a
auth_of (ImageCall image a accepted) = a
auth_of (ReferrersCall image a artifact_type) = a

abbrev WithinCall : Call → Entry → Settings → AuthState → List Exchange → Type 0
WithinCall (ReferrersCall image a artifact_type) x s l c = WithinReferrers x s l c
WithinCall _ x s l c = Within x s l c

abbrev Stays : Call → ℕ → Client → Client → Link → Link → Type 0
Stays call now c d old new = Told (WithinCall call (pulling c.kept.0 (within c.settings now) (image_called call) (Some (auth_of call))) c.settings d.kept.0) old new

-- no request was sent
nothing : (x : Entry) (s : Settings) → Within x s x.kept []
nothing x s = record { confined = tt; kept = λ key moment token h. inl h; stored = λ registry a h. inl h }

nothing_within : (call : Call) (x : Entry) (s : Settings) → WithinCall call x s x.kept []
nothing_within (ReferrersCall image a artifact_type) x s = inl (nothing x s)
nothing_within _ x s = nothing x s

sends_nothing : (call : Call) (now : ℕ) (c : Client) (link : Link) → Stays call now c c link link
sends_nothing call now c link = record { conversation = []; told = Extends-none link; holds = nothing_within call (pulling c.kept.0 (within c.settings now) (image_called call) (Some (auth_of call))) c.settings }

-- ---- what is ensured

-- of the uncached call
abbrev Made : (call : Call) → ℕ → Engine → Engine → Link → Link → Result (Answered call) SigstoreError → Type 0
Made call now e f old new r = record {
  run : (s : Settings) → PlainlyMade s (plain_of call (within s now)) e f old new r;
  fault : FaultCounted registry_refusal old new r;
  no_sink_fault : NoSinkFault registry_refusal r;
  confined : Stays call now (engine_state e None) (engine_state f None) old new;
}

-- of the call
abbrev Ensured : (call : Call) → ℕ → Client → Client → Link → Link → Result (Answered call) SigstoreError → Type 0
Ensured call now c d old new r = record {
  run : (s : Settings) → ClientMeets is_memory s (row_of call (within s now)) c d old new r;
  fault : FaultCounted registry_refusal old new r;
  no_sink_fault : NoSinkFault registry_refusal r;
  confined : Stays call now c d old new;
  refused : RefusalKeeps c d r;
  recalled : Recalled (cache_of call) call now c d old new r;
  logged : (s : Settings) → Logged s (cache_of call) call now c d old new r;
}

-- ---- whether the reference round-trips

key_there : (b : Bool) (key kept : List ℕ) → key_if b key ≡ Some kept → (b ≡ true) × (kept ≡ key)
key_there true key kept is = (refl, cc is)
key_there false key kept is = absurd (cc is)

key_missing : (b : Bool) (key : List ℕ) → key_if b key ≡ None → b ≡ false
key_missing true key is = absurd (cc is)
key_missing false key is = refl

-- ---- exits

module _ (call : Call) (now : ℕ) where
  -- the call as it is cached
  abbrev cached_as : Settings → Row (Answered call)
  cached_as s = cached (reads_back (image_called call)) (cache_of call) (key_called call) now (plain_of call (within s now))

  ensured : {c d : Client} {old new : Link} {r : Result (Answered call) SigstoreError} → ((s : Settings) → ClientMeets is_memory s (cached_as s) c d old new r)
      → FaultCounted registry_refusal old new r → NoSinkFault registry_refusal r → Stays call now c d old new → RefusalKeeps c d r → Recalled (cache_of call) call now c d old new r → Ensured call now c d old new r
  ensured {c} {d} {old} {new} {r} run fault no_sink_fault confined refused recalled = record {
    run = λ s. subst (λ p. ClientMeets is_memory s p c d old new r) (sym (row_is call (within s now))) (run s);
    fault = fault;
    no_sink_fault = no_sink_fault;
    confined = confined;
    refused = refused;
    recalled = recalled;
    logged = λ s. logged_call (cache_of call) (cache_law call) call now (λ t. plain_of call (within t now)) (kind_is call) (λ t. made_is call (within t now)) s (run s) refused;
  }

  -- the uncached call was made
  after : {e f : Engine} {x y : Option Answers} {old new : Link} {q r : Result (Answered call) SigstoreError} → Made call now e f old new q
      → ((s : Settings) (k l : AuthState) → Meets is_memory (plain_of call (within s now)) old new k l q → Meets is_memory (cached_as s) old new (k, x) (l, y) r) → (s : Settings) → ClientMeets is_memory s (cached_as s) (engine_state e x) (engine_state f y) old new r
  after made then_met s = record { made = λ at. let m = (made.run s).made at in (m.0, then_met s _ _ m.1) }

  -- an error is passed on
  by_error : {c d : Client} {old new : Link} {e : SigstoreError} (r : Result (Answered call) SigstoreError) → IsErrAnd r (λ x. x ≡ e) → Ensured call now c d old new (Err e) → Ensured call now c d old new r
  by_error {c} {d} {old} {new} r err h = let at = err_from_is_err_and r err in subst (λ (x : Result (Answered call) SigstoreError). Ensured call now c d old new x) (sym (at.1 ∙ ap Err at.2)) h

  -- if no response is known, none is returned again
  unknown : {c d : Client} {old new : Link} {r : Result (Answered call) SigstoreError} → known (cache_of call) (key_called call) now c.kept.1 ≡ None → Recalled (cache_of call) call now c d old new r
  unknown none = record { recalled = λ answer reads is. absurd (cc (none, is)) }

  -- memory ran out before anything was done
  pub absent : {c : Client} {link : Link} {r : Result (Answered call) SigstoreError} → IsErrAnd r (λ e. e ≡ refusal.WantOfMemory) → Ensured call now c c link link r
  absent {c} {link} {r} err = by_error r err (ensured (λ s. record { made = λ at. (at, kept.absent) }) (λ h. absurd (cc h)) (λ h. absurd (cc h)) (sends_nothing call now c link) (λ _. refl) (record { recalled = λ answer reads is. (tt, refl, refl) }))

  module _ {key : List ℕ} {found : Option (List ℕ)} (looked : found ≡ key_if (reads_back (image_called call)) (key_called call)) (there : found ≡ Some key) where
    read_back : (reads_back (image_called call) ≡ true) × (key ≡ key_called call)
    read_back = key_there (reads_back (image_called call)) (key_called call) key (sym looked ∙ there)

    reads : (s : Settings) {old new : Link} {k l : Kept} {r : Result (Answered call) SigstoreError} → Meets is_memory (recalled (cache_of call) (key_called call) now (plain_of call (within s now))) old new k l r → Meets is_memory (cached_as s) old new k l r
    reads s met = kept.reads (cache_of call) (key_called call) now (plain_of call (within s now)) (reads_back (image_called call)) read_back.0 met

    -- what is known under the key that was found
    known_is : (x : Option Answers) {k a : Option (Answered call)} → k ≡ known (cache_of call) key now x → k ≡ a → known (cache_of call) (key_called call) now x ≡ a
    known_is x {k} {a} said is = subst (λ z. known (cache_of call) z now x ≡ a) read_back.1 (sym said ∙ is)

    -- a fresh response is returned again
    pub recalls : {c : Client} {link : Link} {k : Option (Answered call)} {a : Answered call} → k ≡ known (cache_of call) key now c.kept.1 → k ≡ Some a → Ensured call now c c link link (Ok a)
    recalls {c} {link} {k} {a} said is = let at = known_is c.kept.1 said is in ensured
        (λ s. record { made = λ same. (same, reads s (kept.recall (cache_of call) (key_called call) now (plain_of call (within s now)) a at)) })
        (λ h. absurd h) (λ h. absurd h) (sends_nothing call now c link) (λ h. absurd (cc h))
        (record { recalled = λ answer reads known_as. let same : Some a ≡ Some answer = sym at ∙ known_as in (cc same, refl, refl) })

    -- the uncached call was refused, or was cut short
    pub refuses : {x : Answers} {e f : Engine} {old new : Link} {k : Option (Answered call)} {y : SigstoreError} {r : Result (Answered call) SigstoreError} → k ≡ known (cache_of call) key now (Some x) → k ≡ None
        → Made call now e f old new (Err y) → IsErrAnd r (λ z. z ≡ y) → Ensured call now (engine_state e (Some x)) (engine_state f (Some x)) old new r
    refuses {x} {r = r} said is made err = let at = known_is (Some x) said is in by_error r err (ensured
        (after made (λ s k l met. reads s (kept.not_given (cache_of call) (key_called call) now (plain_of call (within s now)) at met)))
        made.fault made.no_sink_fault made.confined (λ _. refl) (unknown at))

    -- memory ran out while caching the uncached call's response
    pub cuts : {x y : Answers} {e f : Engine} {old new : Link} {k : Option (Answered call)} {a : Answered call} {r : Result (Answered call) SigstoreError} → k ≡ known (cache_of call) key now (Some x) → k ≡ None
        → Made call now e f old new (Ok a) → IsErrAnd r (λ z. z ≡ refusal.WantOfMemory) → y ≡ x → Ensured call now (engine_state e (Some x)) (engine_state f (Some y)) old new r
    cuts {x} {y} {e} {f} {old} {new} {a = a} {r = r} said is made err same = let at = known_is (Some x) said is in subst (λ z. Ensured call now (engine_state e (Some x)) (engine_state f (Some z)) old new r) (sym same) (by_error r err (ensured
        (after made (λ s k l met. reads s (kept.cut_after (cache_of call) (key_called call) now (plain_of call (within s now)) a at met)))
        (λ h. absurd (cc h)) (λ h. absurd (cc h)) made.confined (λ _. refl) (unknown at)))

    -- the uncached call returned a response, which is cached under the key
    pub keeps : {x y : Answers} {e f : Engine} {old new : Link} {k : Option (Answered call)} {a : Answered call} → k ≡ known (cache_of call) key now (Some x) → k ≡ None
        → Made call now e f old new (Ok a) → y ≡ keep (entry key now ((cache_of call).kept_as a)) x → Ensured call now (engine_state e (Some x)) (engine_state f (Some y)) old new (Ok a)
    keeps {x} {y} {e} {f} {old} {new} {a = a} said is made same = let at = known_is (Some x) said is in
        subst (λ z. Ensured call now (engine_state e (Some x)) (engine_state f (Some z)) old new (Ok a)) (ap (λ z. keep (entry z now ((cache_of call).kept_as a)) x) (sym read_back.1) ∙ sym same) (ensured
        (after made (λ s k l met. reads s (kept.given (cache_of call) (key_called call) now (plain_of call (within s now)) a at met)))
        (λ h. absurd h) (λ h. absurd h) made.confined (λ h. absurd (cc h)) (unknown at))

  -- the reference does not round-trip
  pub uncached : {x : Option Answers} {e f : Engine} {old new : Link} {found : Option (List ℕ)} {r : Result (Answered call) SigstoreError} → found ≡ key_if (reads_back (image_called call)) (key_called call) → found ≡ None
      → Made call now e f old new r → Ensured call now (engine_state e x) (engine_state f x) old new r
  uncached looked is made = let unread = key_missing (reads_back (image_called call)) (key_called call) (sym looked ∙ is) in ensured
      (after made (λ s k l met. kept.unread (cache_of call) (key_called call) now (plain_of call (within s now)) (reads_back (image_called call)) unread met))
      made.fault made.no_sink_fault made.confined (λ _. refl) (record { recalled = λ answer reads known_as. absurd (cc (unread, reads)) })

  -- the client does not cache
  pub plainly : {e f : Engine} {old new : Link} {r : Result (Answered call) SigstoreError} → Made call now e f old new r → Ensured call now (engine_state e None) (engine_state f None) old new r
  plainly {r = r} made = ensured
      (after made (λ s k l met. kept.plainly (cache_of call) (key_called call) now (plain_of call (within s now)) (reads_back (image_called call)) r met))
      made.fault made.no_sink_fault made.confined (λ _. refl) (unknown refl)

-- ---- a pulled image is named too

pub unnamed : {Run Fault Sink Where Name : Type 0} → record { run : Run; fault : Fault; no_sink_fault : Sink; confined : Where; named : Name }
    → record { run : Run; fault : Fault; no_sink_fault : Sink; confined : Where }
unnamed made = record { run = made.run; fault = made.fault; no_sink_fault = made.no_sink_fault; confined = made.confined }

pub with_name : {Run Fault Sink Where Refused Recall Log Name : Type 0} → record { run : Run; fault : Fault; no_sink_fault : Sink; confined : Where; refused : Refused; recalled : Recall; logged : Log } → Name
    → record { run : Run; fault : Fault; no_sink_fault : Sink; confined : Where; refused : Refused; recalled : Recall; logged : Log; named : Name }
with_name f name = record { run = f.run; fault = f.fault; no_sink_fault = f.no_sink_fault; confined = f.confined; refused = f.refused; recalled = f.recalled; logged = f.logged; named = name }

-- ---- a call whose response is never cached

pub never_kept : {A : Type 0} {p : Settings → Plain A} {Where : Type 0} {x : Option Answers} {e f : Engine} {old new : Link} {r : Result A SigstoreError}
    → record { run : (s : Settings) → PlainlyMade s (p s) e f old new r; fault : FaultCounted registry_refusal old new r; no_sink_fault : NoSinkFault registry_refusal r; confined : Where }
    → record { run : (s : Settings) → ClientMeets is_memory s (lifted (p s)) (engine_state e x) (engine_state f x) old new r; fault : FaultCounted registry_refusal old new r; no_sink_fault : NoSinkFault registry_refusal r; confined : Where; answers : KeepsAnswers (engine_state e x) (engine_state f x) }
never_kept {x = x} made = record {
  run = λ s. record { made = λ same. let m = (made.run s).made same in (m.0, Meets-lifted x m.1) };
  fault = made.fault;
  no_sink_fault = made.no_sink_fault;
  confined = made.confined;
  answers = refl;
}
