-- Why the calls for the manifest of an image were refused, to which an index may lead.
use Rattle.std.proofs.Common.{◌≡◌, inl, inr, ℕ, Bool, true, false, List, [], ◌∷◌, ◌++◌, Option, Some, None, Result, Ok, Err, refl, sym, ap, subst, ◌∙◌, append_assoc, append-nil}
use Rattle.std.specs.Prelude.{if◌then◌else◌}
use Rattle.oci_transport.specs.declared.message.Exchange.{Exchange}
use Rattle.oci_names.specs.declared.reference.Reference.{Reference}
use Rattle.oci_manifests.specs.declared.document.OciManifest.{OciManifest}
use Rattle.oci_manifests.specs.declared.document.OciManifest.TheVariants.{Image, ImageIndex}
use Rattle.oci_manifests.specs.declared.manifest.OciImageManifest.{OciImageManifest}
use Rattle.oci_manifests.specs.declared.index.OciImageIndex.{OciImageIndex}
use Rattle.oci_manifests.specs.declared.index_entry.ImageIndexEntry.{ImageIndexEntry}
use Rattle.oci_manifests.specs.Promise.{lists, resolved}
use Rattle.oci_manifests.specs.declared.promise.ResolverPromise.{ResolverPromise}
use Rattle.oci_auth.specs.declared.auth.RegistryAuth.{RegistryAuth}
use Rattle.oci_protocol.specs.Proto.{Done, ◌>>=◌}
use Rattle.oci_protocol.specs.EveryRun.{EveryRun, ByResult}
use Rattle.oci_protocol.proofs.RunFacts.{EveryRun-done, EveryRun-more, EveryRun-each, EveryRun-step, EveryRun-last}
use Rattle.engine_terms.specs.Contexts.{Context}
use Rattle.engine_terms.specs.declared.settings.Settings.{Settings}
use Rattle.engine_terms.specs.declared.error.OciDistributionError.{OciDistributionError}
use Rattle.engine_terms.specs.declared.error.OciDistributionError.TheVariants as refusal
use Rattle.engine_answers.specs.Documents.{document_read}
use Rattle.engine_answers.specs.Index.{entry_named, entry_found, entry_manifest, entry_reference}
use Rattle.engine_requests.specs.Requests.{manifest_types}
use Rattle.engine_rows.specs.Manifests.{pull_entry, manifest_by, pull_image_manifest_and_list_digest, pull_image_manifest}
use Rattle.engine_rows.specs.Pulls.{pull_manifest}
use Rattle.engine_rows.specs.Causes.{Act, ManifestUrl, DocumentCause, OwnDigest, IndexRead, LastIsIndex, IsMissing, NotFound, IndexCause, EntryDigest, FoundDigest, FoundUrl, FoundCause, ManifestRead}
use Rattle.request_laws.proofs.EarlyCauses.{AnyValue, Loose}
use Rattle.request_laws.proofs.DocumentAnswers.{body_before}
use Rattle.request_laws.proofs.DocumentCauses.{cause_later, last_later}
use Rattle.engine_laws.proofs.ManifestCauses.{document_more, ReadLast, ManifestCause, manifest_causes}

-- ---- what was parsed

-- the manifest that was parsed
pub read_manifest : (s : Settings) (image : Reference) (c : List Exchange) (manifest : OciImageManifest) → ReadLast s image c (Image manifest) → ManifestRead c manifest
read_manifest s image c manifest h = record {
  bytes = h.answer.body;
  body = record { before = h.last.asked.front ++ h.last.asked.redirects; exchange = h.last.last; after = []; split = h.last.asked.split ∙ sym (append_assoc h.last.asked.front h.last.asked.redirects (h.last.last ∷ [])); answer = h.answer; answered = h.last.answered; body = refl };
  reads = h.holds;
}

pub read_before : {c : List Exchange} {manifest : OciImageManifest} (d : List Exchange) → ManifestRead c manifest → ManifestRead (c ++ d) manifest
read_before d h = record { bytes = h.bytes; body = body_before d h.body; reads = h.reads }

read_index : (s : Settings) (image : Reference) (c : List Exchange) (index : OciImageIndex) → ReadLast s image c (ImageIndex index) → IndexRead c index
read_index s image c index h = record {
  bytes = h.answer.body;
  body = record { before = h.last.asked.front ++ h.last.asked.redirects; exchange = h.last.last; after = []; split = h.last.asked.split ∙ sym (append_assoc h.last.asked.front h.last.asked.redirects (h.last.last ∷ [])); answer = h.answer; answered = h.last.answered; body = refl };
  reads = h.holds;
}

index_before : {c : List Exchange} {index : OciImageIndex} (d : List Exchange) → IndexRead c index → IndexRead (c ++ d) index
index_before d h = record { bytes = h.bytes; body = body_before d h.body; reads = h.reads }

manifest_after : (s : Settings) (image : Reference) {c : List Exchange} {manifest : OciImageManifest} (b : List Exchange) → ReadLast s image c (Image manifest) → ManifestRead (b ++ c) manifest
manifest_after s image {c} {manifest} b h = read_manifest s image (b ++ c) manifest (last_later (ManifestUrl s image) (ManifestUrl s image) (λ address answer. document_read answer.body ≡ Ok (Image manifest)) b (λ act h. h) (λ address answer is. is) h)

-- the last response is an index, also after other exchanges
last_index : (s : Settings) (image : Reference) (Own : Act → Type 0) (b : List Exchange) {c : List Exchange} (index : OciImageIndex) → ((act : Act) → ManifestUrl s image act → Own act) → ReadLast s image c (ImageIndex index) → LastIsIndex Own (b ++ c)
last_index s image Own b index acts h = last_later (ManifestUrl s image) Own (λ address answer. (index : OciImageIndex) × (document_read answer.body ≡ Ok (ImageIndex index))) b acts (λ address answer is. (index, is)) h

-- what holds for a call's own requests holds for a larger set of them
index_more : (T U : Act → Type 0) (c : List Exchange) → ((act : Act) → T act → U act) → LastIsIndex T c → LastIsIndex U c
index_more T U c acts h = last_later T U (λ address answer. (index : OciImageIndex) × (document_read answer.body ≡ Ok (ImageIndex index))) [] acts (λ address answer is. is) h

missing_more : (T U : Act → Type 0) (promise : ResolverPromise) (index : OciImageIndex) (c : List Exchange) (text : List ℕ) → ((act : Act) → T act → U act) → IsMissing T promise index c text → IsMissing U promise index c text
missing_more T U promise index c text acts (inl h) = inl h
missing_more T U promise index c text acts (inr (is, inl h)) = inr (is, inl h)
missing_more T U promise index c text acts (inr (is, inr h)) = inr (is, inr (h.0, index_more T U c acts h.1))

not_found_more : (T U : Act → Type 0) (s : Settings) (c : List Exchange) (text : List ℕ) → ((act : Act) → T act → U act) → NotFound T s c text → NotFound U s c text
not_found_more T U s c text acts h = record { index = h.index; read = h.read; promise = h.promise; has = h.has; missing = missing_more T U h.promise h.index c text acts h.missing }

pub no_resolver_more : (T U : Act → Type 0) (Given Other : List ℕ → Type 0) (s : Settings) (c : List Exchange) (now : ℕ) → ((act : Act) → T act → U act) → IndexCause T Given AnyValue s c now refusal.ImageIndexParsingNoPlatformResolverError → IndexCause U Other AnyValue s c now refusal.ImageIndexParsingNoPlatformResolverError
no_resolver_more T U Given Other s c now acts h = (h.0, index_more T U c acts h.1)

pub no_entry_more : (T U : Act → Type 0) (Given Other : List ℕ → Type 0) (s : Settings) (c : List Exchange) (now : ℕ) (text : List ℕ) → ((act : Act) → T act → U act) → IndexCause T Given AnyValue s c now (refusal.ImageManifestNotFoundError text) → IndexCause U Other AnyValue s c now (refusal.ImageManifestNotFoundError text)
no_entry_more T U Given Other s c now text acts h = not_found_more T U s c text acts h

-- ---- the selected entry

-- one was found
record Chosen (s : Settings) (index : OciImageIndex) (digest : List ℕ) : Type 0 where
  promise : ResolverPromise
  has : s.platform_resolver ≡ Some promise
  answers : resolved promise index.manifests ≡ Some digest
  listed : lists digest index.manifests ≡ true

listed_ok : (entries : List ImageIndexEntry) (d digest : List ℕ) (b : Bool) → lists d entries ≡ b → (if b then Ok d else Err (refusal.ImageManifestNotFoundError d)) ≡ Ok digest → (d ≡ digest) × (lists digest entries ≡ true)
listed_ok entries d digest true test is = let same : d ≡ digest = cc is in (same, subst (λ x. lists x entries ≡ true) same test)
listed_ok entries d digest false test is = absurd (cc is)

named_ok : (entries : List ImageIndexEntry) (o : Option (List ℕ)) (digest : List ℕ) → entry_named entries o ≡ Ok digest → (o ≡ Some digest) × (lists digest entries ≡ true)
named_ok entries None digest is = absurd (cc is)
named_ok entries (Some d) digest is = let found = listed_ok entries d digest (lists d entries) refl is in (ap Some found.0, found.1)

chosen_by : (s : Settings) (index : OciImageIndex) (o : Option ResolverPromise) (digest : List ℕ) → s.platform_resolver ≡ o → entry_found o index.manifests ≡ Ok digest → Chosen s index digest
chosen_by s index None digest has is = absurd (cc is)
chosen_by s index (Some promise) digest has is = let found = named_ok index.manifests (resolved promise index.manifests) digest is in record { promise = promise; has = has; answers = found.0; listed = found.1 }

chosen : (s : Settings) (index : OciImageIndex) (digest : List ℕ) → entry_found s.platform_resolver index.manifests ≡ Ok digest → Chosen s index digest
chosen s index digest is = chosen_by s index s.platform_resolver digest refl is

-- none was found
abbrev pub FoundLoose : Settings → Reference → List Exchange → ℕ → OciDistributionError → Type 0
FoundLoose s image c now e = FoundCause AnyValue s image c now e

listed_err : (s : Settings) (image : Reference) (c : List Exchange) (now : ℕ) (index : OciImageIndex) (promise : ResolverPromise) (d : List ℕ) (e : OciDistributionError) (b : Bool) → s.platform_resolver ≡ Some promise → IndexRead c index → resolved promise index.manifests ≡ Some d → lists d index.manifests ≡ b
    → ◌≡◌ {A = Result (List ℕ) OciDistributionError} (if b then Ok d else Err (refusal.ImageManifestNotFoundError d)) (Err e) → FoundLoose s image c now e
listed_err s image c now index promise d e true has read answers test is = absurd (cc is)
listed_err s image c now index promise d e false has read answers test is =
    let same : refusal.ImageManifestNotFoundError d ≡ e = cc is in
    subst (FoundLoose s image c now) same (record { index = index; read = read; promise = promise; has = has; missing = inr (answers, inl test) })

named_err : (s : Settings) (image : Reference) (c : List Exchange) (now : ℕ) (index : OciImageIndex) (promise : ResolverPromise) (o : Option (List ℕ)) (e : OciDistributionError) → s.platform_resolver ≡ Some promise → IndexRead c index → resolved promise index.manifests ≡ o → entry_named index.manifests o ≡ Err e → FoundLoose s image c now e
named_err s image c now index promise None e has read answers is =
    let same : refusal.ImageManifestNotFoundError [] ≡ e = cc is in
    subst (FoundLoose s image c now) same (record { index = index; read = read; promise = promise; has = has; missing = inl (answers, refl) })
named_err s image c now index promise (Some d) e has read answers is = listed_err s image c now index promise d e (lists d index.manifests) has read answers refl is

found_err : (s : Settings) (image : Reference) (c : List Exchange) (now : ℕ) (index : OciImageIndex) (o : Option ResolverPromise) (e : OciDistributionError) → s.platform_resolver ≡ o → ReadLast s image c (ImageIndex index) → entry_found o index.manifests ≡ Err e → FoundLoose s image c now e
found_err s image c now index None e has last is =
    let same : refusal.ImageIndexParsingNoPlatformResolverError ≡ e = cc is in
    subst (FoundLoose s image c now) same (has, last_index s image (FoundUrl s image c) [] index (λ act h. inl h) last)
found_err s image c now index (Some promise) e has last is = named_err s image c now index promise (resolved promise index.manifests) e has (read_index s image c index last) refl is

-- ---- the two documents

-- the first one was refused
first_found : (s : Settings) (image : Reference) (c : List Exchange) (now : ℕ) (e : OciDistributionError) → Loose (ManifestUrl s image) (DocumentCause (OwnDigest image)) s manifest_types c now e → FoundLoose s image c now e
first_found s image c now refusal.ImageIndexParsingNoPlatformResolverError h = absurd h.holds
first_found s image c now (refusal.ImageManifestNotFoundError text) h = absurd h.holds
first_found s image c now e h = cause_later (ManifestUrl s image) (FoundUrl s image c) (DocumentCause (OwnDigest image)) (DocumentCause (FoundDigest image c)) s manifest_types now [] c e (λ text is. inl is) (λ address answer g. document_more (OwnDigest image) (FoundDigest image c) address answer e (λ text is. inl is) g) h

entry_digest : (image : Reference) (c : List Exchange) (digest text : List ℕ) → EntryDigest c digest → OwnDigest (entry_reference image digest) text → FoundDigest image c text
entry_digest image c digest text has is = let same : digest ≡ text = cc is in inr (subst (EntryDigest c) same has)

-- the second one was refused
second_found : (s : Settings) (image : Reference) (c d : List Exchange) (digest : List ℕ) (now : ℕ) (e : OciDistributionError) → EntryDigest (c ++ d) digest → Loose (ManifestUrl s (entry_reference image digest)) (DocumentCause (OwnDigest (entry_reference image digest))) s manifest_types d now e → FoundLoose s image (c ++ d) now e
second_found s image c d digest now refusal.ImageIndexParsingNoPlatformResolverError has h = absurd h.holds
second_found s image c d digest now (refusal.ImageManifestNotFoundError text) has h = absurd h.holds
second_found s image c d digest now e has h = cause_later (ManifestUrl s (entry_reference image digest)) (FoundUrl s image (c ++ d)) (DocumentCause (OwnDigest (entry_reference image digest))) (DocumentCause (FoundDigest image (c ++ d))) s manifest_types now c d e
    (λ act is. inr (digest, has, is))
    (λ address answer g. document_more (OwnDigest (entry_reference image digest)) (FoundDigest image (c ++ d)) address answer e (λ text is. entry_digest image (c ++ d) digest text has is) g) h

-- the entry's document is another index
again_found : (s : Settings) (image : Reference) (c d : List Exchange) (index : OciImageIndex) (digest : List ℕ) (now : ℕ) (document : OciManifest) (e : OciDistributionError) → Chosen s index digest → IndexRead c index → ReadLast s (entry_reference image digest) d document → entry_manifest digest document ≡ Err e → FoundLoose s image (c ++ d) now e
again_found s image c d index digest now (Image manifest) e choice read last is = absurd (cc is)
again_found s image c d index digest now (ImageIndex other) e choice read last is =
    let same : refusal.ImageManifestNotFoundError digest ≡ e = cc is in
    subst (FoundLoose s image (c ++ d) now) same (record { index = index; read = index_before d read; promise = choice.promise; has = choice.has; missing = inr (choice.answers, inr (choice.listed, last_index s (entry_reference image digest) (FoundUrl s image (c ++ d)) c other (λ act h. inr (digest, record { index = index; read = index_before d read; listed = choice.listed }, h)) last)) })

entry_is : (digest : List ℕ) (document : OciManifest) (manifest : OciImageManifest) → entry_manifest digest document ≡ Ok manifest → document ≡ Image manifest
entry_is digest (Image found) manifest is = ap Image (cc is)
entry_is digest (ImageIndex index) manifest is = absurd (cc is)

-- ---- rows

-- the row of a manifest, and why it ends with a refusal, for any invalid header value
abbrev HasRead : ℕ → List Exchange → ℕ → OciImageManifest → Type 0
HasRead m c n manifest = ManifestRead c manifest

abbrev pub FoundRefused : Settings → Reference → ℕ → List Exchange → ℕ → OciDistributionError → Type 0
FoundRefused s image m c n e = FoundLoose s image c n e

second_where : (s : Settings) (image : Reference) (index : OciImageIndex) (digest : List ℕ) (m start o : ℕ) (c d : List Exchange) (r : Result (OciManifest × List ℕ) OciDistributionError) → Chosen s index digest → IndexRead c index → ByResult (λ m c n found. ReadLast s (entry_reference image digest) c found.0) (ManifestCause s (entry_reference image digest)) start d o r → ByResult (λ start d o found. ReadLast s (entry_reference image digest) d found.0) (λ start d o e. FoundRefused s image m (c ++ d) o e) start d o r
second_where s image index digest m start o c d (Ok found) choice read h = h
second_where s image index digest m start o c d (Err e) choice read h = second_found s image c d digest o e (record { index = index; read = index_before d read; listed = choice.listed }) h

entry_shows : (s : Context) (image : Reference) (a : RegistryAuth) (index : OciImageIndex) (digest : List ℕ) (m : ℕ) (c : List Exchange) → Chosen s.settings index digest → IndexRead c index → EveryRun (λ start d o r. ByResult HasRead (FoundRefused s.settings image) m (c ++ d) o r) (pull_entry s image a digest)
unfolding pull_entry
entry_shows s image a index digest m c choice read = EveryRun-each (λ start d o found. ReadLast s.settings (entry_reference image digest) d found.0) (λ start d o manifest. ManifestRead (c ++ d) manifest) (λ start d o e. FoundRefused s.settings image m (c ++ d) o e) (pull_manifest s (entry_reference image digest) a) (λ found. Done (entry_manifest digest found.0))
    (EveryRun-more (ByResult (λ m c n found. ReadLast s.settings (entry_reference image digest) c found.0) (ManifestCause s.settings (entry_reference image digest))) (ByResult (λ start d o found. ReadLast s.settings (entry_reference image digest) d found.0) (λ start d o e. FoundRefused s.settings image m (c ++ d) o e)) (pull_manifest s (entry_reference image digest) a) (manifest_causes s (entry_reference image digest) a) (λ start o d r h. second_where s.settings image index digest m start o c d r choice read h))
    (λ start n d found last. EveryRun-last (λ st f o manifest. ManifestRead (c ++ (d ++ f)) manifest) (λ st f o e. FoundRefused s.settings image m (c ++ (d ++ f)) o e) (entry_manifest digest found.0)
    (λ manifest is o. subst (λ x. ManifestRead (c ++ x) manifest) (sym (append-nil d)) (manifest_after s.settings (entry_reference image digest) c (subst (ReadLast s.settings (entry_reference image digest) d) (entry_is digest found.0 manifest is) last)))
    (λ e is o. subst (λ x. FoundRefused s.settings image m (c ++ x) o e) (sym (append-nil d)) (again_found s.settings image c d index digest o found.0 e choice read last is)))

abbrev Found : ℕ → List Exchange → ℕ → OciImageManifest × List ℕ × Option (List ℕ) → Type 0
Found m c n found = ManifestRead c found.0

by_shows : (s : Context) (image : Reference) (a : RegistryAuth) (document : OciManifest) (digest : List ℕ) (m : ℕ) (c : List Exchange) → ReadLast s.settings image c document → EveryRun (λ start d o r. ByResult Found (FoundRefused s.settings image) m (c ++ d) o r) (manifest_by s image a document digest)
by_shows s image a (Image manifest) digest m c last = EveryRun-done (λ start d o r. ByResult Found (FoundRefused s.settings image) m (c ++ d) o r) (Ok (manifest, digest, None)) (λ o. subst (λ x. ManifestRead x manifest) (sym (append-nil c)) (read_manifest s.settings image c manifest last))
by_shows s image a (ImageIndex index) digest m c last = EveryRun-step (λ start d o r. ByResult Found (FoundRefused s.settings image) m (c ++ d) o r) (entry_found s.settings.platform_resolver index.manifests) (λ entry. pull_entry s image a entry >>= λ manifest. Done (Ok (manifest, entry, Some digest)))
    (λ entry is. EveryRun-each (λ start d o manifest. ManifestRead (c ++ d) manifest) (λ start d o found. ManifestRead (c ++ d) found.0) (λ start d o e. FoundRefused s.settings image m (c ++ d) o e) (pull_entry s image a entry) (λ manifest. Done (Ok (manifest, entry, Some digest)))
    (entry_shows s image a index entry m c (chosen s.settings index entry is) (read_index s.settings image c index last))
    (λ start n d manifest h. EveryRun-done (λ st f o r. ByResult (λ start d o found. ManifestRead (c ++ d) found.0) (λ start d o e. FoundRefused s.settings image m (c ++ d) o e) start (d ++ f) o r) (Ok (manifest, entry, Some digest)) (λ o. subst (λ x. ManifestRead (c ++ x) manifest) (sym (append-nil d)) h)))
    (λ e is o. subst (λ x. FoundRefused s.settings image m x o e) (sym (append-nil c)) (found_err s.settings image c o index s.settings.platform_resolver e refl last is))

first_where : (s : Settings) (image : Reference) (m n : ℕ) (c : List Exchange) (r : Result (OciManifest × List ℕ) OciDistributionError) → ByResult (λ m c n found. ReadLast s image c found.0) (ManifestCause s image) m c n r → ByResult (λ m c n found. ReadLast s image c found.0) (FoundRefused s image) m c n r
first_where s image m n c (Ok found) h = h
first_where s image m n c (Err e) h = first_found s image c n e h

-- the manifest was parsed, and each refusal has its cause
pub found_causes : (s : Context) (image : Reference) (a : RegistryAuth) → EveryRun (ByResult (λ m c n found. ManifestRead c found.0) (FoundRefused s.settings image)) (pull_image_manifest_and_list_digest s image a)
unfolding pull_image_manifest_and_list_digest
found_causes s image a = EveryRun-each (λ m c n found. ReadLast s.settings image c found.0) Found (FoundRefused s.settings image) (pull_manifest s image a) (λ found. manifest_by s image a found.0 found.1)
    (EveryRun-more (ByResult (λ m c n found. ReadLast s.settings image c found.0) (ManifestCause s.settings image)) (ByResult (λ m c n found. ReadLast s.settings image c found.0) (FoundRefused s.settings image)) (pull_manifest s image a) (manifest_causes s image a) (λ m n c r h. first_where s.settings image m n c r h))
    (λ m n c found last. by_shows s image a found.0 found.1 m c last)

pub found_any : (s : Context) (image : Reference) (a : RegistryAuth) → EveryRun (ByResult (λ m c n found. Unit {0}) (FoundRefused s.settings image)) (pull_image_manifest_and_list_digest s image a)
found_any s image a = EveryRun-more (ByResult Found (FoundRefused s.settings image)) (ByResult (λ m c n found. Unit {0}) (FoundRefused s.settings image)) (pull_image_manifest_and_list_digest s image a) (found_causes s image a) (λ m n c r h. any_where s.settings image m n c r h) where
  any_where : (s : Settings) (image : Reference) (m n : ℕ) (c : List Exchange) (r : Result (OciImageManifest × List ℕ × Option (List ℕ)) OciDistributionError) → ByResult Found (FoundRefused s image) m c n r → ByResult (λ m c n found. Unit {0}) (FoundRefused s image) m c n r
  any_where s image m n c (Ok found) h = tt
  any_where s image m n c (Err e) h = h

pub one_causes : (s : Context) (image : Reference) (a : RegistryAuth) → EveryRun (ByResult (λ m c n found. Unit {0}) (FoundRefused s.settings image)) (pull_image_manifest s image a)
unfolding pull_image_manifest
one_causes s image a = EveryRun-each Found (λ m c n found. Unit {0}) (FoundRefused s.settings image) (pull_image_manifest_and_list_digest s image a) (λ found. Done (Ok (found.0, found.1))) (found_causes s image a)
    (λ m n c found h. EveryRun-done (λ start d o r. ByResult (λ m c n found. Unit {0}) (FoundRefused s.settings image) m (c ++ d) o r) (Ok (found.0, found.1)) (λ o. tt))
