-- A layer that is returned is what its bytes state, and a rejection names the first check that fails.
use Rattle.std.proofs.Common.{◌≡◌, ◌⊎◌, inl, inr, ℕ, Bool, true, false, List, Option, Some, None, ok_or, if◌then◌else◌, Result, Ok, Err, refl, sym, ap, ◌∙◌, subst}
use Rattle.std.specs.FinMap.{get}
use Rattle.base64.specs.Engines.{standard}
use Rattle.base64.specs.GeneralPurpose.{decoded_of}
use Rattle.oci_digests.specs.Names.{Names, names}
use Rattle.oci_digests.proofs.Equal.{named}
use Rattle.cosign_layers.specs.Checks.{Input, Spelled, unless, content_checked, signature_checked, entry_verified, entry_found, entry_checked, certificate_signature, certificate_vouched, certificate_checked}
use Rattle.cosign_parts.specs.Layer.{IsSignature, IsLogged, IsEntry, IsCertificate, is_logged, evidence}
use Rattle.cosign_parts.specs.LogEntry.{LogSigned, log_text}
use Rattle.cosign_layers.specs.Read.{IsAbout, ContentRejected, SignatureRejected, EntryRejected, CertificateRejected}
use Rattle.cosign_parts.specs.Shown.{shown, is_about}
use Rattle.cosign_parts.specs.Trust.{Trust, knows_no_log}
use Rattle.cosign_parts.specs.declared.certificate.CertificateSignature.{CertificateSignature}
use Rattle.cosign_parts.specs.declared.certificate.Vouched.{Vouched}
use Rattle.cosign_parts.specs.declared.log_entry.LogEntryBundle.{LogEntryBundle}
use Rattle.cosign_layers.specs.declared.rejection.LayerPart.TheVariants.{Content, Signature, LogEntry, Certificate}
use Rattle.cosign_layers.specs.declared.rejection.LayerRejection.{LayerRejection}
use Rattle.cosign_layers.specs.declared.rejection.LayerRejection.TheVariants.{DigestMismatch, Unreadable, OtherDigest, NoSignature, UnknownLogKey, BadLogSignature, OtherLogEntry, NoLogEntry, NotVouched, LayerNotPulled, WantOfMemory}
use Rattle.cosign_parts.specs.declared.shown.Found.{Found}
use Rattle.cosign_parts.specs.declared.shown.Found.TheVariants as founds
use Rattle.cosign_parts.specs.declared.shown.Shown.{Shown}
use Rattle.cosign_layers.proofs.Outcomes.{Decides, both, reworded, tested, needed, answered, ok_same, ok_err, err_ok, err_same}

false_true : {P : Type 0} (b : Bool) → b ≡ false → b ≡ true → P
false_true b f t = cc (sym f ∙ t)

untrue : (b : Bool) → (b ≡ true → ⊥) → b ≡ false
untrue true h = absurd (h refl)
untrue false h = refl

-- ---- what is found has one of three forms

unread_absent : {X P : Type 0} → (let f : Found X = founds.Absent in f) ≡ founds.Unreadable → P
unread_absent e = cc

absent_unread : {X P : Type 0} → (let f : Found X = founds.Unreadable in f) ≡ founds.Absent → P
absent_unread e = cc

read_absent : {X P : Type 0} (x : X) → (let f : Found X = founds.Absent in f) ≡ founds.Read x → P
read_absent x e = cc

read_unread : {X P : Type 0} (x : X) → (let f : Found X = founds.Unreadable in f) ≡ founds.Read x → P
read_unread x e = cc

read_same : {X : Type 0} (x y : X) → (let f : Found X = founds.Read x in f) ≡ founds.Read y → x ≡ y
read_same x y e = cc

-- ---- the content

abbrev by_digest : Input → Bool
by_digest input = names input.oci_digest input.content

abbrev found : Input → Option Shown
found input = shown input.kind input.content input.annotations

digest_names : (input : Input) → by_digest input ≡ true → Names input.oci_digest input.content
digest_names input e = (named input.oci_digest input.content).0 e

is_named : (input : Input) → Names input.oci_digest input.content → by_digest input ≡ true
is_named input n = (named input.oci_digest input.content).1 n

abbrev ContentPasses : List ℕ → Input → Shown → Type 0
ContentPasses d input s = (u : Unit {0}) × (by_digest input ≡ true) × ((t : Shown) × (found input ≡ Some t) × ((v : Unit {0}) × (is_about d t ≡ true) × (t ≡ s)))

abbrev ContentFails : List ℕ → Input → LayerRejection → Type 0
ContentFails d input x = ((by_digest input ≡ false) × (DigestMismatch ≡ x)) ⊎ ((u : Unit {0}) × (by_digest input ≡ true) × (((found input ≡ None) × (Unreadable Content ≡ x)) ⊎ ((s : Shown) × (found input ≡ Some s) × (((is_about d s ≡ false) × (OtherDigest ≡ x)) ⊎ ((v : Unit {0}) × (is_about d s ≡ true) × ⊥)))))

content_passes : (d : List ℕ) (input : Input) (s : Shown) → ContentPasses d input s → IsAbout d input s
content_passes d input s h = subst (IsAbout d input) h.2.2.2 (record { has = record { named = digest_names input h.1; content = h.2.1 }; about = h.2.2.1 })

content_passed : (d : List ℕ) (input : Input) (s : Shown) → IsAbout d input s → ContentPasses d input s
content_passed d input s h = (tt, is_named input h.has.named, (s, h.has.content, (tt, h.about, refl)))

content_fails : (d : List ℕ) (input : Input) (x : LayerRejection) → ContentFails d input x → ContentRejected d input x
content_fails d input x h = elim h [
  | inl k ↦ subst (ContentRejected d input) k.1 (λ n. false_true (by_digest input) k.0 (is_named input n))
  | inr k ↦ elim k.2 [
    | inl l ↦ subst (ContentRejected d input) l.1 (digest_names input k.1, l.0)
    | inr l ↦ elim l.2 [
      | inl m ↦ subst (ContentRejected d input) m.1 (l.0, record { named = digest_names input k.1; content = l.1 }, m.0)
      | inr m ↦ absurd m.2
    ]
  ]
]

content_failed : (d : List ℕ) (input : Input) (x : LayerRejection) → ContentRejected d input x → ContentFails d input x
content_failed d input DigestMismatch h = inl (untrue (by_digest input) (λ e. h (digest_names input e)), refl)
content_failed d input (Unreadable Content) h = inr (tt, is_named input h.0, inl (h.1, refl))
content_failed d input OtherDigest h = inr (tt, is_named input h.1.named, inr (h.0, h.1.content, inl (h.2, refl)))
content_failed d input (Unreadable Signature) h = absurd h
content_failed d input (Unreadable LogEntry) h = absurd h
content_failed d input (Unreadable Certificate) h = absurd h
content_failed d input NoSignature h = absurd h
content_failed d input (UnknownLogKey k) h = absurd h
content_failed d input BadLogSignature h = absurd h
content_failed d input (OtherLogEntry b) h = absurd h
content_failed d input NoLogEntry h = absurd h
content_failed d input NotVouched h = absurd h
content_failed d input LayerNotPulled h = absurd h
content_failed d input WantOfMemory h = absurd h

pub content : (d : List ℕ) (input : Input) → Decides (content_checked d input) (IsAbout d input) (ContentRejected d input)
content d input =
    reworded _ (ContentPasses d input) _ (ContentFails d input) _ (content_passes d input) (content_passed d input) (content_fails d input) (content_failed d input)
    (both (unless DigestMismatch (by_digest input)) _ _ _ _ _ (tested DigestMismatch (by_digest input)) (λ u.
    both (ok_or (found input) (Unreadable Content)) _ _ _ _ _ (needed (found input) (Unreadable Content)) (λ s.
    both (unless OtherDigest (is_about d s)) _ _ _ _ _ (tested OtherDigest (is_about d s)) (λ v. answered s))))

-- ---- the signature

abbrev SignaturePasses : Option (List ℕ) → Spelled → Type 0
SignaturePasses o spelled = (signature : List ℕ) × (o ≡ Some signature) × ((bytes : List ℕ) × (decoded_of standard signature ≡ Some bytes) × ((let pair : Spelled = (signature, bytes) in pair) ≡ spelled))

abbrev SignatureFails : Option (List ℕ) → LayerRejection → Type 0
SignatureFails o x = ((o ≡ None) × (NoSignature ≡ x)) ⊎ ((signature : List ℕ) × (o ≡ Some signature) × (((decoded_of standard signature ≡ None) × (Unreadable Signature ≡ x)) ⊎ ((bytes : List ℕ) × (decoded_of standard signature ≡ Some bytes) × ⊥)))

signature_passes : (o : Option (List ℕ)) (spelled : Spelled) → SignaturePasses o spelled → IsSignature o spelled.0 spelled.1
signature_passes o spelled h = subst (λ (s : Spelled). IsSignature o s.0 s.1) h.2.2 (record { there = h.1; spells = h.2.1 })

signature_passed : (o : Option (List ℕ)) (spelled : Spelled) → IsSignature o spelled.0 spelled.1 → SignaturePasses o spelled
signature_passed o spelled h = (spelled.0, h.there, (spelled.1, h.spells, refl))

signature_fails : (o : Option (List ℕ)) (x : LayerRejection) → SignatureFails o x → SignatureRejected o x
signature_fails o x h = elim h [
  | inl k ↦ subst (SignatureRejected o) k.1 k.0
  | inr k ↦ elim k.2 [
    | inl l ↦ subst (SignatureRejected o) l.1 (k.0, k.1, l.0)
    | inr l ↦ absurd l.2
  ]
]

signature_failed : (o : Option (List ℕ)) (x : LayerRejection) → SignatureRejected o x → SignatureFails o x
signature_failed o NoSignature h = inl (h, refl)
signature_failed o (Unreadable Signature) h = inr (h.0, h.1, inl (h.2, refl))
signature_failed o DigestMismatch h = absurd h
signature_failed o (Unreadable Content) h = absurd h
signature_failed o (Unreadable LogEntry) h = absurd h
signature_failed o (Unreadable Certificate) h = absurd h
signature_failed o OtherDigest h = absurd h
signature_failed o (UnknownLogKey k) h = absurd h
signature_failed o BadLogSignature h = absurd h
signature_failed o (OtherLogEntry b) h = absurd h
signature_failed o NoLogEntry h = absurd h
signature_failed o NotVouched h = absurd h
signature_failed o LayerNotPulled h = absurd h
signature_failed o WantOfMemory h = absurd h

pub signature : (o : Option (List ℕ)) → Decides (signature_checked o) (λ spelled. IsSignature o spelled.0 spelled.1) (SignatureRejected o)
signature o =
    reworded _ (SignaturePasses o) _ (SignatureFails o) _ (signature_passes o) (signature_passed o) (signature_fails o) (signature_failed o)
    (both (ok_or o NoSignature) _ _ _ _ _ (needed o NoSignature) (λ s.
    both (ok_or (decoded_of standard s) (Unreadable Signature)) _ _ _ _ _ (needed (decoded_of standard s) (Unreadable Signature)) (λ bytes. answered (let pair : Spelled = (s, bytes) in pair))))

-- ---- the log entry

module _ (trust : Trust) (input : Input) (bytes : List ℕ) where
  abbrev known : LogEntryBundle → Option (List ℕ)
  known e = get trust.log_keys e.log_id

  abbrev is_signed : LogEntryBundle → List ℕ → Bool
  is_signed e key = trust.valid key (log_text e) e.signed_entry_timestamp

  abbrev names_it : LogEntryBundle → Bool
  names_it e = is_logged input.kind input.content bytes e.body

  abbrev EntryPasses : LogEntryBundle → Option LogEntryBundle → Type 0
  EntryPasses e o = (key : List ℕ) × (known e ≡ Some key) × ((u : Unit {0}) × (is_signed e key ≡ true) × ((v : Unit {0}) × (names_it e ≡ true) × (Some e ≡ o)))

  abbrev EntryFails : LogEntryBundle → LayerRejection → Type 0
  EntryFails e x = ((known e ≡ None) × (UnknownLogKey e.log_id ≡ x)) ⊎ ((key : List ℕ) × (known e ≡ Some key) × (((is_signed e key ≡ false) × (BadLogSignature ≡ x)) ⊎ ((u : Unit {0}) × (is_signed e key ≡ true) × (((names_it e ≡ false) × (OtherLogEntry e.body ≡ x)) ⊎ ((v : Unit {0}) × (names_it e ≡ true) × ⊥)))))

  verified : (e : LogEntryBundle) → Decides (entry_verified trust input.kind input.content bytes e) (EntryPasses e) (EntryFails e)
  verified e =
      both (ok_or (known e) (UnknownLogKey e.log_id)) _ _ _ _ _ (needed (known e) (UnknownLogKey e.log_id)) (λ key.
      both (unless BadLogSignature (is_signed e key)) _ _ _ _ _ (tested BadLogSignature (is_signed e key)) (λ u.
      both (unless (OtherLogEntry e.body) (names_it e)) _ _ _ _ _ (tested (OtherLogEntry e.body) (names_it e)) (λ v. answered (Some e))))

  abbrev EntryCauses : Found LogEntryBundle → LayerRejection → Type 0
  EntryCauses found x = ((found ≡ founds.Unreadable) × (Unreadable LogEntry ≡ x)) ⊎ ((e : LogEntryBundle) × (found ≡ founds.Read e) × EntryFails e x)

  log_signed : (e : LogEntryBundle) (key : List ℕ) → known e ≡ Some key → is_signed e key ≡ true → LogSigned trust e
  log_signed e key k s = record { key = key; known = k; signed = s }

  entry_rejected : (found : Found LogEntryBundle) (x : LayerRejection) → EntryCauses found x → EntryRejected trust input bytes found x
  entry_rejected found x h = elim h [
    | inl k ↦ subst (EntryRejected trust input bytes found) k.1 k.0
    | inr k ↦ elim k.2 [
      | inl l ↦ subst (EntryRejected trust input bytes found) l.1 (k.0, k.1, l.0, refl)
      | inr l ↦ elim l.2 [
        | inl m ↦ subst (EntryRejected trust input bytes found) m.1 (k.0, k.1, (l.0, l.1, m.0))
        | inr m ↦ elim m.2 [
          | inl n ↦ subst (EntryRejected trust input bytes found) n.1 (k.0, k.1, log_signed k.0 l.0 l.1 m.1, n.0, refl)
          | inr n ↦ absurd n.2
        ]
      ]
    ]
  ]

  entry_causes : (found : Found LogEntryBundle) (x : LayerRejection) → EntryRejected trust input bytes found x → EntryCauses found x
  entry_causes found (Unreadable LogEntry) h = inl (h, refl)
  entry_causes found (UnknownLogKey k) h = inr (h.0, h.1, inl (h.2, ap UnknownLogKey (sym h.3)))
  entry_causes found BadLogSignature h = inr (h.0, h.1, inr (h.2.0, h.2.1, inl (h.2.2, refl)))
  entry_causes found (OtherLogEntry b) h = inr (h.0, h.1, inr (h.2.key, h.2.known, inr (tt, h.2.signed, inl (h.3, ap OtherLogEntry (sym h.4)))))
  entry_causes found DigestMismatch h = absurd h
  entry_causes found (Unreadable Content) h = absurd h
  entry_causes found (Unreadable Signature) h = absurd h
  entry_causes found (Unreadable Certificate) h = absurd h
  entry_causes found OtherDigest h = absurd h
  entry_causes found NoSignature h = absurd h
  entry_causes found NoLogEntry h = absurd h
  entry_causes found NotVouched h = absurd h
  entry_causes found LayerNotPulled h = absurd h
  entry_causes found WantOfMemory h = absurd h

  abbrev Is : Found LogEntryBundle → Option LogEntryBundle → Type 0
  Is found = IsEntry trust input.kind input.content bytes found

  abbrev Knows : Type 0
  Knows = knows_no_log trust ≡ false

  abbrev Answer : Type 0
  Answer = Result (Option LogEntryBundle) LayerRejection

  abbrev nothing : Answer
  nothing = Ok None

  unknown_passes : (found : Found LogEntryBundle) → knows_no_log trust ≡ true → (o : Option LogEntryBundle) → Is found o → nothing ≡ Ok o
  unknown_passes found none None h = refl
  unknown_passes found none (Some e) h = false_true (knows_no_log trust) h.0 none

  unknown : (found : Found LogEntryBundle) → knows_no_log trust ≡ true → Decides nothing (Is found) (λ x. Knows × EntryCauses found x)
  unknown found none = record {
    passes = λ o h. unknown_passes found none o h;
    passed = λ o e. subst (Is found) (ok_same None o e) (inl none);
    rejects = λ x h. false_true (knows_no_log trust) h.0 none;
    rejected = λ x e. ok_err None x e;
  }

  absent_passes : (o : Option LogEntryBundle) → Is founds.Absent o → nothing ≡ Ok o
  absent_passes None h = refl
  absent_passes (Some e) h = cc

  absent : Decides nothing (Is founds.Absent) (λ x. Knows × EntryCauses founds.Absent x)
  absent = record {
    passes = λ o h. absent_passes o h;
    passed = λ o e. subst (Is founds.Absent) (ok_same None o e) (inr refl);
    rejects = λ x h. elim h.1 [ inl k ↦ unread_absent k.0 | inr k ↦ read_absent k.0 k.1 ];
    rejected = λ x e. ok_err None x e;
  }

  unread_passes : Knows → (o : Option LogEntryBundle) → Is founds.Unreadable o → (let r : Answer = Err (Unreadable LogEntry) in r) ≡ Ok o
  unread_passes knows None h = elim h [ inl none ↦ false_true (knows_no_log trust) knows none | inr k ↦ absent_unread k ]
  unread_passes knows (Some e) h = read_unread e h.1

  unread : Knows → Decides (let r : Answer = Err (Unreadable LogEntry) in r) (Is founds.Unreadable) (λ x. Knows × EntryCauses founds.Unreadable x)
  unread knows = record {
    passes = λ o h. unread_passes knows o h;
    passed = λ o e. err_ok o (Unreadable LogEntry) e;
    rejects = λ x h. elim h.1 [ inl k ↦ ap Err k.1 | inr k ↦ read_unread k.0 k.1 ];
    rejected = λ x e. (knows, inl (refl, err_same (Unreadable LogEntry) x e));
  }

  read_is : (e : LogEntryBundle) → Knows → (o : Option LogEntryBundle) → EntryPasses e o → Is (founds.Read e) o
  read_is e knows o h = subst (Is (founds.Read e)) h.2.2.2 (knows, refl, record { signed = log_signed e h.0 h.1 h.2.1; names = h.2.2.1 })

  passes_read : (e f : LogEntryBundle) → e ≡ f → IsLogged trust input.kind input.content bytes f → EntryPasses e (Some f)
  passes_read e f same h = subst (λ g. EntryPasses g (Some f)) (sym same) (h.signed.key, h.signed.known, (tt, h.signed.signed, (tt, h.names, refl)))

  read_passes : (e : LogEntryBundle) → Knows → (o : Option LogEntryBundle) → Is (founds.Read e) o → EntryPasses e o
  read_passes e knows None h = elim h [ inl none ↦ false_true (knows_no_log trust) knows none | inr k ↦ read_absent e (sym k) ]
  read_passes e knows (Some f) h = passes_read e f (read_same e f h.1) h.2

  read_fails : (e : LogEntryBundle) (x : LayerRejection) → EntryCauses (founds.Read e) x → EntryFails e x
  read_fails e x h = elim h [ inl k ↦ read_unread e (sym k.0) | inr k ↦ subst (λ f. EntryFails f x) (sym (read_same e k.0 k.1)) k.2 ]

  read_entry : (e : LogEntryBundle) → Knows → Decides (entry_verified trust input.kind input.content bytes e) (Is (founds.Read e)) (λ x. Knows × EntryCauses (founds.Read e) x)
  read_entry e knows =
      reworded _ (EntryPasses e) (Is (founds.Read e)) (EntryFails e) (λ x. Knows × EntryCauses (founds.Read e) x)
      (read_is e knows) (read_passes e knows) (λ x h. (knows, inr (e, refl, h))) (λ x h. read_fails e x h.1) (verified e)

  found_entry : (found : Found LogEntryBundle) → Knows → Decides (entry_found trust input.kind input.content bytes found) (Is found) (λ x. Knows × EntryCauses found x)
  found_entry founds.Absent knows = absent
  found_entry founds.Unreadable knows = unread knows
  found_entry (founds.Read e) knows = read_entry e knows

  by_knowledge : (found : Found LogEntryBundle) (b : Bool) → knows_no_log trust ≡ b → Decides (if b then nothing else entry_found trust input.kind input.content bytes found) (Is found) (λ x. Knows × EntryCauses found x)
  by_knowledge found true none = unknown found none
  by_knowledge found false knows = found_entry found knows

  pub entry : (found : Found LogEntryBundle) → Decides (entry_checked trust input.kind input.content bytes found) (Is found) (λ x. Knows × EntryRejected trust input bytes found x)
  entry found =
      reworded _ (Is found) (Is found) (λ x. Knows × EntryCauses found x) (λ x. Knows × EntryRejected trust input bytes found x)
      (λ o h. h) (λ o h. h) (λ x h. (h.0, entry_rejected found x h.1)) (λ x h. (h.0, entry_causes found x h.1))
      (by_knowledge found (knows_no_log trust) refl)

-- ---- the certificate

module _ (trust : Trust) (entry : Option LogEntryBundle) where
  abbrev vouched : List ℕ → LogEntryBundle → Option Vouched
  vouched c e = trust.vouched (evidence c e)

  abbrev CertificatePasses : List ℕ → Option CertificateSignature → Type 0
  CertificatePasses c o = (e : LogEntryBundle) × (entry ≡ Some e) × ((v : Vouched) × (vouched c e ≡ Some v) × (Some (certificate_signature c v) ≡ o))

  abbrev CertificateFails : List ℕ → LayerRejection → Type 0
  CertificateFails c x = ((entry ≡ None) × (NoLogEntry ≡ x)) ⊎ ((e : LogEntryBundle) × (entry ≡ Some e) × (((vouched c e ≡ None) × (NotVouched ≡ x)) ⊎ ((v : Vouched) × (vouched c e ≡ Some v) × ⊥)))

  judged : (c : List ℕ) → Decides (certificate_vouched trust.vouched entry c) (CertificatePasses c) (CertificateFails c)
  judged c =
      both (ok_or entry NoLogEntry) _ _ _ _ _ (needed entry NoLogEntry) (λ e.
      both (ok_or (vouched c e) NotVouched) _ _ _ _ _ (needed (vouched c e) NotVouched) (λ v. answered (Some (certificate_signature c v))))

  abbrev CertificateCauses : Found (List ℕ) → LayerRejection → Type 0
  CertificateCauses found x = ((found ≡ founds.Unreadable) × (Unreadable Certificate ≡ x)) ⊎ ((c : List ℕ) × (found ≡ founds.Read c) × CertificateFails c x)

  certificate_rejected : (found : Found (List ℕ)) (x : LayerRejection) → CertificateCauses found x → CertificateRejected trust entry found x
  certificate_rejected found x h = elim h [
    | inl k ↦ subst (CertificateRejected trust entry found) k.1 k.0
    | inr k ↦ elim k.2 [
      | inl l ↦ subst (CertificateRejected trust entry found) l.1 (k.0, k.1, l.0)
      | inr l ↦ elim l.2 [
        | inl m ↦ subst (CertificateRejected trust entry found) m.1 (k.0, l.0, k.1, l.1, m.0)
        | inr m ↦ absurd m.2
      ]
    ]
  ]

  certificate_causes : (found : Found (List ℕ)) (x : LayerRejection) → CertificateRejected trust entry found x → CertificateCauses found x
  certificate_causes found (Unreadable Certificate) h = inl (h, refl)
  certificate_causes found NoLogEntry h = inr (h.0, h.1, inl (h.2, refl))
  certificate_causes found NotVouched h = inr (h.0, h.2, inr (h.1, h.3, inl (h.4, refl)))
  certificate_causes found DigestMismatch h = absurd h
  certificate_causes found (Unreadable Content) h = absurd h
  certificate_causes found (Unreadable Signature) h = absurd h
  certificate_causes found (Unreadable LogEntry) h = absurd h
  certificate_causes found OtherDigest h = absurd h
  certificate_causes found NoSignature h = absurd h
  certificate_causes found (UnknownLogKey k) h = absurd h
  certificate_causes found BadLogSignature h = absurd h
  certificate_causes found (OtherLogEntry b) h = absurd h
  certificate_causes found LayerNotPulled h = absurd h
  certificate_causes found WantOfMemory h = absurd h

  abbrev Certifies : Found (List ℕ) → Option CertificateSignature → Type 0
  Certifies found = IsCertificate trust entry found

  abbrev Verdict : Type 0
  Verdict = Result (Option CertificateSignature) LayerRejection

  abbrev uncertified : Verdict
  uncertified = Ok None

  uncertified_passes : (o : Option CertificateSignature) → Certifies founds.Absent o → uncertified ≡ Ok o
  uncertified_passes None h = refl
  uncertified_passes (Some c) h = cc

  no_certificate : Decides uncertified (Certifies founds.Absent) (CertificateCauses founds.Absent)
  no_certificate = record {
    passes = λ o h. uncertified_passes o h;
    passed = λ o e. subst (Certifies founds.Absent) (ok_same None o e) refl;
    rejects = λ x h. elim h [ inl k ↦ unread_absent k.0 | inr k ↦ read_absent k.0 k.1 ];
    rejected = λ x e. ok_err None x e;
  }

  unspelled_passes : (o : Option CertificateSignature) → Certifies founds.Unreadable o → (let r : Verdict = Err (Unreadable Certificate) in r) ≡ Ok o
  unspelled_passes None h = unread_absent (sym h)
  unspelled_passes (Some c) h = read_unread c.certificate h.1

  unspelled : Decides (let r : Verdict = Err (Unreadable Certificate) in r) (Certifies founds.Unreadable) (CertificateCauses founds.Unreadable)
  unspelled = record {
    passes = λ o h. unspelled_passes o h;
    passed = λ o e. err_ok o (Unreadable Certificate) e;
    rejects = λ x h. elim h [ inl k ↦ ap Err k.1 | inr k ↦ read_unread k.0 k.1 ];
    rejected = λ x e. inl (refl, err_same (Unreadable Certificate) x e);
  }

  certifies : (c : List ℕ) (o : Option CertificateSignature) → CertificatePasses c o → Certifies (founds.Read c) o
  certifies c o h = subst (Certifies (founds.Read c)) h.2.2 (h.0, refl, h.1, h.2.1)

  certified_by : (c : List ℕ) (s : CertificateSignature) → c ≡ s.certificate → (e : LogEntryBundle) → entry ≡ Some e → vouched s.certificate e ≡ Some s.vouched → CertificatePasses c (Some s)
  certified_by c s same e is v = subst (λ b. CertificatePasses b (Some s)) (sym same) (e, is, (s.vouched, v, refl))

  certified : (c : List ℕ) (o : Option CertificateSignature) → Certifies (founds.Read c) o → CertificatePasses c o
  certified c None h = read_absent c (sym h)
  certified c (Some s) h = certified_by c s (read_same c s.certificate h.1) h.0 h.2 h.3

  certificate_fails : (c : List ℕ) (x : LayerRejection) → CertificateCauses (founds.Read c) x → CertificateFails c x
  certificate_fails c x h = elim h [ inl k ↦ read_unread c (sym k.0) | inr k ↦ subst (λ b. CertificateFails b x) (sym (read_same c k.0 k.1)) k.2 ]

  read_certificate : (c : List ℕ) → Decides (certificate_vouched trust.vouched entry c) (Certifies (founds.Read c)) (CertificateCauses (founds.Read c))
  read_certificate c =
      reworded _ (CertificatePasses c) (Certifies (founds.Read c)) (CertificateFails c) (CertificateCauses (founds.Read c))
      (certifies c) (certified c) (λ x h. inr (c, refl, h)) (λ x h. certificate_fails c x h) (judged c)

  found_certificate : (found : Found (List ℕ)) → Decides (certificate_checked trust.vouched entry found) (Certifies found) (CertificateCauses found)
  found_certificate founds.Absent = no_certificate
  found_certificate founds.Unreadable = unspelled
  found_certificate (founds.Read c) = read_certificate c

  pub certificate : (found : Found (List ℕ)) → Decides (certificate_checked trust.vouched entry found) (Certifies found) (CertificateRejected trust entry found)
  certificate found =
      reworded _ (Certifies found) (Certifies found) (CertificateCauses found) (CertificateRejected trust entry found)
      (λ o h. h) (λ o h. h) (certificate_rejected found) (certificate_causes found) (found_certificate found)
