-- Why calls for referrers were refused.
use Rattle.std.proofs.Common.{◌≡◌, ◌≢◌, ◌⊎◌, inl, inr, ℕ, Bool, true, false, List, [], ◌∷◌, ◌++◌, Option, Some, None, Result, Ok, Err, IfErr, refl, sym, ap, subst, ◌∙◌, append-nil}
use Rattle.std.specs.Prelude.{MatchBool, if◌then◌else◌, nat_eq}
use Rattle.json_values.specs.Counts.{Increased}
use Rattle.json_values.specs.JsonText.{json_of}
use Rattle.oci_transport.specs.Link.{Link}
use Rattle.oci_transport.specs.declared.message.Answer.{Answer}
use Rattle.oci_transport.specs.declared.message.Exchange.{Exchange}
use Rattle.oci_names.specs.declared.reference.Reference.{Reference}
use Rattle.oci_names.specs.Reference.{digest_of}
use Rattle.oci_auth.specs.declared.auth_state.AuthState.{AuthState}
use Rattle.oci_manifests.specs.Document.{document_of}
use Rattle.oci_errors.specs.declared.envelope.OciEnvelope.{OciEnvelope}
use Rattle.oci_manifests.specs.declared.document.OciManifest.{OciManifest}
use Rattle.oci_manifests.specs.declared.document.OciManifest.TheVariants.{Image, ImageIndex}
use Rattle.oci_manifests.specs.declared.index.OciImageIndex.{OciImageIndex}
use Rattle.oci_protocol.specs.Proto.{Done, bind, unless_refused, ◌>>=◌}
use Rattle.oci_protocol.specs.Runs.{Runs, Performs, PerformsPrefix, Outcome, Meets, Told}
use Rattle.oci_protocol.specs.EveryRun.{EveryRun, ByResult}
use Rattle.oci_protocol.specs.Ends.{Ends}
use Rattle.oci_protocol.proofs.SafeEnds.{Runs-ends-safe}
use Rattle.oci_protocol.proofs.Parts.{Parts, Runs-parts}
use Rattle.engine_terms.specs.Contexts.{Context}
use Rattle.engine_answers.specs.declared.answers.Got.{Got}
use Rattle.engine_terms.specs.declared.settings.Settings.{Settings}
use Rattle.engine_terms.specs.declared.error.GenericCause.TheVariants.{HeaderText, NoDigest}
use Rattle.engine_terms.specs.declared.error.SpecViolation.TheVariants.{Status, ReferrersTag}
use Rattle.engine_terms.specs.declared.error.OciDistributionError.{OciDistributionError}
use Rattle.engine_terms.specs.declared.error.OciDistributionError.TheVariants as refusal
use Rattle.engine_terms.specs.Error.{is_memory}
use Rattle.engine_answers.specs.Answers.{is_success, is_client_error, envelope_in, by_envelope, refused_answer, accepted}
use Rattle.engine_answers.specs.Documents.{plain_of, or_unread, reads_twice, tables_read}
use Rattle.engine_requests.specs.Requests.{manifest_types}
use Rattle.engine_answers.specs.Referrers.{index_in, index_read, referrers_in, referrers_tag, fallback_reference, no_referrers, is_absent, tag_index, tagged_index}
use Rattle.engine_requests.specs.ReferrerLists.{digest_given}
use Rattle.engine_rows.specs.Pulls.{manifest_asked}
use Rattle.engine_rows.specs.Referrers.{referrers_asked, referrers_tagged, referrers_by, pull_referrers}
use Rattle.engine_rows.specs.Causes.{Act, Cause, AnswerCause, DocumentCause, LastAnswer, BadHeader, OwnDigest, ManifestUrl}
use Rattle.engine_rows.specs.TokenCauses.{LastIs}
use Rattle.engine_rows.specs.Held.{Entry, pulling}
use Rattle.engine_rows.specs.ReferrersCauses.{AfterMissing, ListUrl, IsNoIndex, ListAnswer, TagAnswer, ListCause, TagCause, ReferrersCause}
use Rattle.engine_laws.proofs.CallCauses.{tight}
use Rattle.request_laws.proofs.DocumentAnswers.{accepted_is}
use Rattle.request_laws.proofs.DocumentCauses.{into_err, not_accepted, status_is, status_other}
use Rattle.request_laws.proofs.EarlyCauses.{Loose}
use Rattle.request_laws.proofs.ExactRefusals.{Only, after_refusal}
use Rattle.request_laws.proofs.FaultCounts.{failed_last, last_after, fault_last}
use Rattle.request_laws.proofs.KeptTokens.{Keeps, keeps_first}
use Rattle.engine_laws.proofs.ManifestCauses.{ReadLast}
use Rattle.engine_laws.proofs.ReferrersAnswers.{asked_causes, manifest_shown}
use Rattle.engine_laws.proofs.ReferrersConfinement.{asked_sound, document_asked_sound, asked_within}
use Rattle.request_laws.proofs.ShownTokens.{Carries, HeaderCause, Ended}

-- ---- which refusals a response of the list results in

abbrev IsOfStatus : OciDistributionError → Type 0
IsOfStatus (refusal.UnauthorizedError url) = Unit {0}
IsOfStatus (refusal.RegistryError envelope url) = Unit {0}
IsOfStatus (refusal.ServerError status url body) = Unit {0}
IsOfStatus (refusal.SpecViolationError violation) = Unit {0}
IsOfStatus _ = ⊥

abbrev OfStatus : {A : Type 0} → Result A OciDistributionError → Type 0
OfStatus (Ok a) = Unit {0}
OfStatus (Err e) = IsOfStatus e

envelope_status : (url : List ℕ) (answer : Answer) (o : Option OciEnvelope) → IsOfStatus (by_envelope url answer o)
envelope_status url answer (Some envelope) = tt
envelope_status url answer None = tt

refused_status : (url : List ℕ) (answer : Answer) → IsOfStatus (refused_answer 200 url answer)
refused_status url answer = by_status (nat_eq answer.status 401) (is_success answer.status) (is_client_error answer.status) where
  by_status : (a b c : Bool) → IsOfStatus (if a then refusal.UnauthorizedError url else (if b then refusal.SpecViolationError (Status 200 answer.status url) else (if c then by_envelope url answer (envelope_in answer.body) else refusal.ServerError answer.status url answer.body)))
  by_status true b c = tt
  by_status false true c = tt
  by_status false false true = envelope_status url answer (envelope_in answer.body)
  by_status false false false = tt

accepted_status : (url : List ℕ) (answer : Answer) → OfStatus (accepted 200 url answer)
accepted_status url answer = by_test (nat_eq answer.status 200) where
  by_test : (b : Bool) → OfStatus {A = Answer} (if b then Ok answer else Err (refused_answer 200 url answer))
  by_test true = tt
  by_test false = refused_status url answer

abbrev IsOfIndex : OciDistributionError → Type 0
IsOfIndex (refusal.ManifestParsingError body) = Unit {0}
IsOfIndex (refusal.AmbiguousManifest body) = Unit {0}
IsOfIndex _ = ⊥

abbrev OfIndex : {A : Type 0} → Result A OciDistributionError → Type 0
OfIndex (Ok a) = Unit {0}
OfIndex (Err e) = IsOfIndex e

one_index : (body : List ℕ) (o : Option OciManifest) → OfIndex (or_unread body o)
one_index body None = tt
one_index body (Some document) = tt

tables_index : (body : List ℕ) → OfIndex (tables_read body (plain_of (json_of body)))
tables_index body =
    elim (plain_of (json_of body)) as (λ o. OfIndex (tables_read body o)) [
      | None ↦ tt
      | Some d ↦ elim (reads_twice d) as (λ b. OfIndex (if b then Err (refusal.AmbiguousManifest body) else or_unread body (document_of d))) [ true ↦ tt | false ↦ one_index body (document_of d) ]
    ]

index_refused : (body : List ℕ) (e : OciDistributionError) → (tables_read body (plain_of (json_of body)) ≡ Err e) ⊎ ((document : OciManifest) × (tables_read body (plain_of (json_of body)) ≡ Ok document) × (index_in body document ≡ Err e)) → IsOfIndex e
index_refused body e (inl is) = let P : Result OciManifest OciDistributionError → Type 0 = OfIndex in subst P is (tables_index body)
index_refused body e (inr (ImageIndex index, read, is)) = absurd (cc is)
index_refused body e (inr (Image manifest, read, is)) = let same : refusal.ManifestParsingError body ≡ e = cc is in subst IsOfIndex same tt

by_status : (s : Settings) (image : Reference) (digest : List ℕ) (Bad : List Exchange → Type 0) (c : List Exchange) (n : ℕ) (address : List ℕ) (answer : Answer) (e : OciDistributionError) → LastAnswer (ListUrl s image digest) c address answer → IsOfStatus e → answer.status ≢ 404 → AnswerCause (λ text. ⊥) address answer e → Cause (ListUrl s image digest) ListAnswer Bad s c n e
by_status s image digest Bad c n address answer (refusal.UnauthorizedError url) last of other h = record { address = address; answer = answer; last = last; holds = (other, h) }
by_status s image digest Bad c n address answer (refusal.RegistryError envelope url) last of other h = record { address = address; answer = answer; last = last; holds = (other, h) }
by_status s image digest Bad c n address answer (refusal.ServerError status url body) last of other h = record { address = address; answer = answer; last = last; holds = (other, h) }
by_status s image digest Bad c n address answer (refusal.SpecViolationError (Status expected got url)) last of other h = record { address = address; answer = answer; last = last; holds = (other, h) }
by_status s image digest Bad c n address answer (refusal.SpecViolationError (ReferrersTag tag)) last of other h = absurd h
by_status s image digest Bad c n address answer e last of other h = absurd of

by_body : (s : Settings) (image : Reference) (digest : List ℕ) (Bad : List Exchange → Type 0) (c : List Exchange) (n : ℕ) (address : List ℕ) (answer : Answer) (e : OciDistributionError) → LastAnswer (ListUrl s image digest) c address answer → IsOfIndex e → IsNoIndex answer e → Cause (ListUrl s image digest) ListAnswer Bad s c n e
by_body s image digest Bad c n address answer (refusal.ManifestParsingError body) last of h = record { address = address; answer = answer; last = last; holds = h }
by_body s image digest Bad c n address answer (refusal.AmbiguousManifest body) last of h = record { address = address; answer = answer; last = last; holds = h }
by_body s image digest Bad c n address answer e last of h = absurd of

-- the list's response was refused
list_refused : (s : Settings) (image : Reference) (digest : List ℕ) (Bad : List Exchange → Type 0) (c : List Exchange) (n : ℕ) (got : Got) (e : OciDistributionError) → LastAnswer (ListUrl s image digest) c got.url got.answer → got.answer.status ≢ 404
    → (accepted 200 got.url got.answer ≡ Err e) ⊎ ((answer : Answer) × (accepted 200 got.url got.answer ≡ Ok answer) × (index_read answer.body ≡ Err e)) → Cause (ListUrl s image digest) ListAnswer Bad s c n e
list_refused s image digest Bad c n got e last other (inl is) =
    let P : Result Answer OciDistributionError → Type 0 = OfStatus in
    by_status s image digest Bad c n got.url got.answer e last (subst P is (accepted_status got.url got.answer)) other (not_accepted (λ text. ⊥) got.url got.answer e is)
list_refused s image digest Bad c n got e last other (inr (answer, good, is)) =
    let at = accepted_is got.url got.answer answer good in
    let read = ap (λ (a : Answer). index_read a.body) (sym at.1) ∙ is in
    by_body s image digest Bad c n got.url got.answer e last (index_refused got.answer.body e (into_err (tables_read got.answer.body (plain_of (json_of got.answer.body))) (index_in got.answer.body) e read)) (at.0, read)

-- ---- the tag

tag_tight : (T : Act → Type 0) (image : Reference) (digest : List ℕ) (y : Entry) (s : Settings) (n : ℕ) (c : List Exchange) (e : OciDistributionError) → is_absent e ≡ false → Loose T (DocumentCause (OwnDigest (fallback_reference image digest))) s manifest_types c n e → HeaderCause y s manifest_types c e → Cause T (TagAnswer image digest) (BadHeader y s manifest_types) s c n e
tag_tight T image digest y s n c (refusal.UrlParseError text) other h bad = h
tag_tight T image digest y s n c (refusal.GenericError HeaderText) other h bad = bad
tag_tight T image digest y s n c refusal.BodyTooLong other h bad = h
tag_tight T image digest y s n c refusal.TransportFault other h bad = h
tag_tight T image digest y s n c refusal.WantOfMemory other h bad = tt
tag_tight T image digest y s n c (refusal.SpecViolationError (ReferrersTag tag)) other h bad = absurd h.holds
tag_tight T image digest y s n c e other h bad = record { address = h.address; answer = h.answer; last = h.last; holds = (other, h.holds) }

-- the exchanges of a run that is done, its fault count and its result
runs_done : {A : Type 0} (x : A) (k : AuthState) (m : ℕ) (c : List Exchange) (n : ℕ) (l : AuthState) (a : A) → Runs (Done x) k m c n l a → (c ≡ []) × (m ≡ n) × (x ≡ a)
unfolding Runs
runs_done x k m [] n l a r = (refl, r.0, r.2)
runs_done x k m (e ∷ c) n l a r = absurd r

-- a cause of a prefix that is the whole
whole_cause : (P : List Exchange → ℕ → Type 0) (c first second : List Exchange) (m n : ℕ) → c ≡ first ++ second → second ≡ [] → m ≡ n → P first m → P c n
whole_cause P c first second m n joined none same h = subst (λ z. P c z) same (subst (λ z. P z m) (sym (joined ∙ ap (λ z. first ++ z) none ∙ append-nil first)) h)

tag_holds : (x : Entry) (s : Settings) (digest : List ℕ) (kind : Option (List ℕ)) (between : AuthState) (n : ℕ) (c : List Exchange) (document : OciManifest) (e : OciDistributionError) → ReadLast s (fallback_reference x.image digest) c document → tag_index digest kind document ≡ Err e → TagCause x s n e digest between c
tag_holds x s digest kind between n c (ImageIndex index) e last is = absurd (cc is)
tag_holds x s digest kind between n c (Image manifest) e last is =
    let same : refusal.SpecViolationError (ReferrersTag (referrers_tag digest)) ≡ e = cc is in
    subst (λ z. TagCause x s n z digest between c) same (record { address = last.address; answer = last.answer; last = last.last; holds = (refl, manifest, last.holds) })

tag_runs : (k : AuthState) (s : Context) (image : Reference) (digest : List ℕ) (kind : Option (List ℕ)) (j l : AuthState) (m n : ℕ) (c : List Exchange) (e : OciDistributionError) → Runs (referrers_tagged s image digest kind) j m c n l (Err e) → TagCause (pulling k s image None) s.settings n e digest j c
unfolding referrers_tagged
tag_runs k s image digest kind j l m n c e run = by_answer parts.answer parts.runs_first (runs_done (tagged_index digest kind parts.answer) parts.between parts.count parts.second n l (Err e) parts.runs_second) where
  tag : Reference
  tag = fallback_reference image digest

  y : Entry
  y = pulling j s tag None

  parts : Parts (manifest_asked s tag) (λ answer. Done (tagged_index digest kind answer)) j m c n l (Err e)
  parts = Runs-parts (manifest_asked s tag) (λ answer. Done (tagged_index digest kind answer)) j m c n l (Err e) run

  absent_by : (e2 : OciDistributionError) (b : Bool) → is_absent e2 ≡ b → Runs (manifest_asked s tag) j m parts.first parts.count parts.between (Err e2) → ◌≡◌ {A = Result OciImageIndex OciDistributionError} (if b then Ok no_referrers else Err e2) (Err e) → TagCause (pulling k s image None) s.settings parts.count e digest j parts.first
  absent_by e2 true absent runs same = absurd (cc same)
  absent_by e2 false other runs same =
      let here : e2 ≡ e = cc same in
      let loose = (manifest_shown s tag).shows j parts.between m parts.count parts.first (Err e2) runs in
      let header = Runs-ends-safe (Carries y s.settings) (Keeps y) (Ended y s.settings manifest_types) (manifest_asked s tag) j parts.between m parts.count [] parts.first (Err e2) (document_asked_sound s tag j None j [] (keeps_first y)) runs in
      subst (λ z. TagCause (pulling k s image None) s.settings parts.count z digest j parts.first) here (tag_tight (ManifestUrl s.settings tag) image digest y s.settings parts.count parts.first e2 other loose header)

  by_answer : (r : Result (OciManifest × List ℕ) OciDistributionError) → Runs (manifest_asked s tag) j m parts.first parts.count parts.between r → (parts.second ≡ []) × (parts.count ≡ n) × (tagged_index digest kind r ≡ Err e) → TagCause (pulling k s image None) s.settings n e digest j c
  by_answer (Ok found) runs over = whole_cause (λ c n. TagCause (pulling k s image None) s.settings n e digest j c) c parts.first parts.second parts.count n parts.joined over.0 over.1 (tag_holds (pulling k s image None) s.settings digest kind j parts.count parts.first found.0 e ((manifest_shown s tag).shows j parts.between m parts.count parts.first (Ok found) runs) over.2)
  by_answer (Err e2) runs over = whole_cause (λ c n. TagCause (pulling k s image None) s.settings n e digest j c) c parts.first parts.second parts.count n parts.joined over.0 over.1 (absent_by e2 (is_absent e2) refl runs over.2)

-- ---- both

from_list : (x : Entry) (s : Settings) (c : List Exchange) (n : ℕ) (e : OciDistributionError) → ListCause x s c n e → ReferrersCause x s c n e
from_list x s c n (refusal.GenericError NoDigest) h = absurd h.cause.holds.1
from_list x s c n refusal.WantOfMemory h = tt
from_list x s c n e h = inl h

from_tag : (x : Entry) (s : Settings) (c : List Exchange) (n : ℕ) (e : OciDistributionError) → AfterMissing x s (TagCause x s n e) c → ReferrersCause x s c n e
from_tag x s c n (refusal.GenericError NoDigest) h = absurd h.after.holds.1
from_tag x s c n refusal.WantOfMemory h = tt
from_tag x s c n e h = inr h

with_digest : (k : AuthState) (s : Context) (image : Reference) (digest : List ℕ) (kind : Option (List ℕ)) (l : AuthState) (m n : ℕ) (c : List Exchange) (e : OciDistributionError) → digest_of image ≡ Some digest → Runs (referrers_asked s image digest kind >>= referrers_by s image digest kind) k m c n l (Err e) → ReferrersCause (pulling k s image None) s.settings c n e
with_digest k s image digest kind l m n c e digest_is run = by_answer parts.answer parts.runs_first parts.runs_second where
  x : Entry
  x = pulling k s image None

  parts : Parts (referrers_asked s image digest kind) (unless_refused (referrers_by s image digest kind)) k m c n l (Err e)
  parts = Runs-parts (referrers_asked s image digest kind) (unless_refused (referrers_by s image digest kind)) k m c n l (Err e) run

  listed : Cause (ListUrl s.settings image digest) ListAnswer (BadHeader x s.settings manifest_types) s.settings parts.first parts.count e → parts.second ≡ [] → parts.count ≡ n → ReferrersCause x s.settings c n e
  listed h none same = whole_cause (λ c n. ReferrersCause x s.settings c n e) c parts.first parts.second parts.count n parts.joined none same (from_list x s.settings parts.first parts.count e (record { digest = digest; digest_is = digest_is; cause = h }))

  refused : (e2 : OciDistributionError) → Runs (referrers_asked s image digest kind) k m parts.first parts.count parts.between (Err e2) → (parts.second ≡ []) × (parts.count ≡ n) × (◌≡◌ {A = Result OciImageIndex OciDistributionError} (Err e2) (Err e)) → ReferrersCause x s.settings c n e
  refused e2 runs over =
      let here : e2 ≡ e = cc (over.2) in
      let loose = (asked_causes s image digest kind).shows k parts.between m parts.count parts.first (Err e2) runs in
      let header = Runs-ends-safe (Carries x s.settings) (Keeps x) (Ended x s.settings manifest_types) (referrers_asked s image digest kind) k parts.between m parts.count [] parts.first (Err e2) (asked_sound s image digest kind k None k [] (keeps_first x)) runs in
      listed (subst (λ z. Cause (ListUrl s.settings image digest) ListAnswer (BadHeader x s.settings manifest_types) s.settings parts.first parts.count z) here (tight (ListUrl s.settings image digest) ListAnswer x s.settings manifest_types parts.count parts.first e2 loose header)) over.0 over.1

  by_status : (got : Got) (b : Bool) → nat_eq got.answer.status 404 ≡ b → Runs (referrers_asked s image digest kind) k m parts.first parts.count parts.between (Ok got) → Runs (if b then referrers_tagged s image digest kind else Done (referrers_in got)) parts.between parts.count parts.second n l (Err e) → ReferrersCause x s.settings c n e
  by_status got false other runs rest =
      let over = runs_done (referrers_in got) parts.between parts.count parts.second n l (Err e) rest in
      let last = (asked_causes s image digest kind).shows k parts.between m parts.count parts.first (Ok got) runs in
      listed (list_refused s.settings image digest (BadHeader x s.settings manifest_types) parts.first parts.count got e last (status_other got.answer.status 404 other) (into_err (accepted 200 got.url got.answer) (λ answer. index_read answer.body) e over.2)) over.0 over.1
  by_status got true missing runs rest =
      let last = (asked_causes s image digest kind).shows k parts.between m parts.count parts.first (Ok got) runs in
      from_tag x s.settings c n e (record {
        digest = digest;
        digest_is = digest_is;
        front = parts.first;
        rest = parts.second;
        split = parts.joined;
        missing = record { address = got.url; answer = got.answer; last = last; holds = status_is got.answer.status 404 missing };
        between = parts.between;
        first = asked_within k s image digest kind parts.between m parts.count parts.first (Ok got) runs;
        after = tag_runs k s image digest kind parts.between l parts.count n parts.second e rest;
      })

  by_answer : (r : Result Got OciDistributionError) → Runs (referrers_asked s image digest kind) k m parts.first parts.count parts.between r → Runs (unless_refused (referrers_by s image digest kind) r) parts.between parts.count parts.second n l (Err e) → ReferrersCause x s.settings c n e
  by_answer (Ok got) runs rest = by_status got (nat_eq got.answer.status 404) refl runs rest
  by_answer (Err e2) runs rest = refused e2 runs (runs_done (Err e2) parts.between parts.count parts.second n l (Err e) rest)

runs_cause : (k : AuthState) (s : Context) (image : Reference) (kind : Option (List ℕ)) (l : AuthState) (m n : ℕ) (c : List Exchange) (e : OciDistributionError) → Runs (pull_referrers s image kind) k m c n l (Err e) → ReferrersCause (pulling k s image None) s.settings c n e
unfolding pull_referrers bind
runs_cause k s image kind l m n c e run = by_digest (digest_of image) refl run where
  by_digest : (o : Option (List ℕ)) → digest_of image ≡ o → Runs (Done (digest_given o) >>= λ digest. referrers_asked s image digest kind >>= referrers_by s image digest kind) k m c n l (Err e) → ReferrersCause (pulling k s image None) s.settings c n e
  by_digest (Some digest) is run = with_digest k s image digest kind l m n c e is run
  by_digest None is run =
      let over = runs_done {A = Result OciImageIndex OciDistributionError} (Err (refusal.GenericError NoDigest)) k m c n l (Err e) run in
      let same : refusal.GenericError NoDigest ≡ e = cc (over.2) in
      subst (λ z. ReferrersCause (pulling k s image None) s.settings c n z) same is

-- by the client state when the call began
abbrev pub RowCause : Context → Reference → ℕ → List Exchange → ℕ → OciDistributionError → Type 0
RowCause s image m c n e = (k : AuthState) × ReferrersCause (pulling k s image None) s.settings c n e

pub referrers_causes : (s : Context) (image : Reference) (kind : Option (List ℕ)) → EveryRun (ByResult (λ m c n index. Unit {0}) (RowCause s image)) (pull_referrers s image kind)
referrers_causes s image kind = record { shows = λ k l m n c r run. by_result k l m n c r run } where
  by_result : (k l : AuthState) (m n : ℕ) (c : List Exchange) (r : Result OciImageIndex OciDistributionError) → Runs (pull_referrers s image kind) k m c n l r → ByResult (λ m c n index. Unit {0}) (RowCause s image) m c n r
  by_result k l m n c (Ok index) run = tt
  by_result k l m n c (Err e) run = (k, runs_cause k s image kind l m n c e run)

-- no sink is involved
pub referrers_no_sink : (x : Entry) (s : Settings) (c : List Exchange) (n : ℕ) → ReferrersCause x s c n refusal.SinkFault → ⊥
referrers_no_sink x s c n (inl h) = h.cause.holds.1
referrers_no_sink x s c n (inr h) = h.after.holds.1

cause_free : (x : Entry) (s : Settings) (c : List Exchange) (n : ℕ) (e : OciDistributionError) → is_memory e ≡ true → ReferrersCause x s c n e
cause_free x s c n refusal.WantOfMemory is = tt
cause_free x s c n _ is = absurd (cc is)

pub referrers_reason : (s : Context) (image : Reference) (kind : Option (List ℕ)) {old new : Link} {k l : AuthState} {r : Result OciImageIndex OciDistributionError} → Meets is_memory (pull_referrers s image kind) old new k l r → IfErr r (λ e. Told (λ c. ReferrersCause (pulling k s image None) s.settings c new.faults e) old new)
referrers_reason s image kind {old} {new} {k} {l} {r} met = by_result r met.outcome where
  by_memory : (b : Bool) (e : OciDistributionError) → is_memory e ≡ b → MatchBool b (PerformsPrefix (pull_referrers s image kind) old new k l) (Performs (pull_referrers s image kind) old new k l (Err e)) → Told (λ c. ReferrersCause (pulling k s image None) s.settings c new.faults e) old new
  by_memory true e is run = record { conversation = run.conversation; told = run.told; holds = cause_free (pulling k s image None) s.settings run.conversation new.faults e is }
  by_memory false e is run = record { conversation = run.conversation; told = run.told; holds = runs_cause k s image kind l old.faults new.faults run.conversation e run.runs }

  by_result : (r : Result OciImageIndex OciDistributionError) → Outcome is_memory (pull_referrers s image kind) old new k l r → IfErr r (λ e. Told (λ c. ReferrersCause (pulling k s image None) s.settings c new.faults e) old new)
  by_result (Ok index) run = tt
  by_result (Err e) run = by_memory (is_memory e) e refl run

failed : (x : Entry) (s : Settings) (c : List Exchange) (n : ℕ) → ReferrersCause x s c n refusal.TransportFault → LastIs (λ e. Increased e.faults n) c
failed x s c n (inl h) = failed_last h.cause
failed x s c n (inr h) = subst (LastIs (λ e. Increased e.faults n)) (sym h.split) (last_after h.front (failed_last h.after))

pub referrers_fault : (s : Context) (image : Reference) (kind : Option (List ℕ)) {old new : Link} {k l : AuthState} {r : Result OciImageIndex OciDistributionError} → Meets is_memory (pull_referrers s image kind) old new k l r → r ≡ Err refusal.TransportFault → Increased old.faults new.faults
referrers_fault s image kind {r = r} met is = fault_last (λ m c n index. Unit {0}) (RowCause s image) (pull_referrers s image kind) refusal.TransportFault refl (λ m n c h. failed (pulling h.0 s image None) s.settings c n h.1) (referrers_causes s image kind) (rw is at met)

-- a reference without a digest is refused as such
pub no_digest : (s : Context) (image : Reference) (kind : Option (List ℕ)) → digest_of image ≡ None → Ends (Only (refusal.GenericError NoDigest)) (pull_referrers s image kind)
unfolding pull_referrers Ends bind
no_digest s image kind none = after_refusal (refusal.GenericError NoDigest) (λ digest. referrers_asked s image digest kind >>= referrers_by s image digest kind) (digest_given (digest_of image)) (ap digest_given none)
