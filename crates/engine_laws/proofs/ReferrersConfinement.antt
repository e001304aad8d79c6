-- Where credentials and tokens go in a call for referrers.
use Rattle.std.proofs.Common.{◌≡◌, ◌⊎◌, inl, inr, ℕ, Bool, true, false, List, [], ◌++◌, Option, Some, None, Result, Ok, Err, refl, sym, ap, subst, ◌∙◌, append_assoc, append-nil}
use Rattle.std.specs.Prelude.{if◌then◌else◌, nat_eq}
use Rattle.oci_transport.specs.Link.{Link}
use Rattle.oci_transport.specs.declared.message.Exchange.{Exchange}
use Rattle.oci_transport.specs.declared.message.Method.TheVariants.{Get}
use Rattle.oci_names.specs.declared.reference.Reference.{Reference}
use Rattle.oci_names.specs.Reference.{digest_of}
use Rattle.oci_auth.specs.declared.auth.RegistryAuth.{RegistryAuth}
use Rattle.oci_auth.specs.declared.auth_state.AuthState.{AuthState}
use Rattle.oci_auth.specs.declared.token_type.RegistryOperation.TheVariants.{Pull}
use Rattle.oci_manifests.specs.declared.index.OciImageIndex.{OciImageIndex}
use Rattle.oci_protocol.specs.Proto.{Done, bind, unless_refused, ◌>>=◌}
use Rattle.oci_protocol.specs.Runs.{Runs, Meets, Told}
use Rattle.oci_protocol.specs.Safe.{Safe}
use Rattle.oci_protocol.proofs.Safety.{Safe-bind}
use Rattle.engine_terms.specs.Contexts.{Context}
use Rattle.engine_requests.specs.Addresses.{manifest_text, url_read}
use Rattle.engine_answers.specs.Documents.{document_read}
use Rattle.engine_requests.specs.Requests.{manifest_types}
use Rattle.engine_answers.specs.declared.answers.Got.{Got}
use Rattle.engine_terms.specs.declared.error.OciDistributionError.{OciDistributionError}
use Rattle.engine_terms.specs.Error.{is_memory}
use Rattle.engine_terms.specs.declared.settings.Settings.{Settings}
use Rattle.engine_answers.specs.Referrers.{referrers_in, fallback_reference, tagged_index}
use Rattle.engine_requests.specs.ReferrerLists.{digest_given, referrers_url}
use Rattle.engine_rows.specs.Rows.{Row, prepared, token_given}
use Rattle.engine_rows.specs.Pulls.{manifest_document, manifest_asked}
use Rattle.engine_rows.specs.Referrers.{referrers_asked, referrers_tagged, referrers_by, pull_referrers}
use Rattle.engine_rows.specs.Confined.{Confined, AllConfined, Within}
use Rattle.engine_rows.specs.Held.{Entry, pulling}
use Rattle.engine_rows.specs.ReferrersCauses.{for_tag, ListUrl, WithinReferrers}
use Rattle.request_laws.proofs.CallConfinement.{Any, given_safe}
use Rattle.request_laws.proofs.DocumentCauses.{answer_later, status_is}
use Rattle.request_laws.proofs.HeaderCauses.{Sound, whole_sound, document_sound}
use Rattle.request_laws.proofs.KeptTokens.{Keeps, keeps_first, keeps_more}
use Rattle.request_laws.proofs.PlainRefusals.{read_document_plain}
use Rattle.engine_laws.proofs.ReferrersAnswers.{asked_causes}
use Rattle.engine_laws.proofs.ReferrersPlain.{url_plain, tagged_ended}
use Rattle.engine_laws.proofs.RunParts.{Behind, Parted, behind_parts, behind_done, behind_each, behind_keeps, met_behind, each_more}
use Rattle.request_laws.proofs.SafeKeeps.{Safe-keeps}
use Rattle.request_laws.proofs.ShownTokens.{Carries, Ended, safe_done, safe_next, safe_ready, prepared_safe, plain_step, plain_last, url_first}

-- ---- the walk

-- the call for the list
pub asked_sound : (s : Context) (image : Reference) (digest : List ℕ) (kind : Option (List ℕ)) (k : AuthState) (handed : Option RegistryAuth) (l : AuthState) (c : List Exchange) → Keeps (pulling k s image handed) l c → Sound (pulling k s image handed) s.settings manifest_types l c (referrers_asked s image digest kind)
unfolding referrers_asked
asked_sound s image digest kind k handed l c keeps =
    let x = pulling k s image handed in
    plain_step x s.settings manifest_types (referrers_url s.settings image digest kind) _ l c (url_plain s.settings image digest kind) (λ url is.
    safe_ready x s.settings manifest_types (prepared s image Pull Get url manifest_types) _ l c (prepared_safe x s.settings Get url manifest_types l c keeps) (λ l c request keeps sent. whole_sound x s.settings manifest_types 10 request s.settings.max_body_bytes l c sent keeps))

-- a manifest or an index, without store
pub document_asked_sound : (s : Context) (image : Reference) (k : AuthState) (handed : Option RegistryAuth) (l : AuthState) (c : List Exchange) → Keeps (pulling k s image handed) l c → Sound (pulling k s image handed) s.settings manifest_types l c (manifest_asked s image)
unfolding manifest_asked manifest_document
document_asked_sound s image k handed l c keeps =
    let x = pulling k s image handed in
    safe_next x s.settings manifest_types (Done (url_read (manifest_text s.settings image)) >>= _) _ l c (url_first x s.settings manifest_types (manifest_text s.settings image) _ l c (λ url. document_sound s image k handed url manifest_types l c keeps)) (λ l c found keeps.
    plain_step x s.settings manifest_types (document_read found.0) _ l c (read_document_plain found.0) (λ document is. plain_last x s.settings manifest_types (Ok (document, found.1)) l c tt keeps))

-- the call for the tag
pub tagged_sound : (s : Context) (image : Reference) (digest : List ℕ) (kind : Option (List ℕ)) (k : AuthState) (handed : Option RegistryAuth) (l : AuthState) (c : List Exchange) → Keeps (pulling k s (fallback_reference image digest) handed) l c → Sound (pulling k s (fallback_reference image digest) handed) s.settings manifest_types l c (referrers_tagged s image digest kind)
unfolding referrers_tagged
tagged_sound s image digest kind k handed l c keeps =
    let x = pulling k s (fallback_reference image digest) handed in
    Safe-bind (Carries x s.settings) (Keeps x) (λ l c r. Keeps x l c × Ended x s.settings manifest_types l c r) (Ended x s.settings manifest_types) (manifest_asked s (fallback_reference image digest)) (λ answer. Done (tagged_index digest kind answer)) l c
    (Safe-keeps (Carries x s.settings) (Keeps x) (Ended x s.settings manifest_types) (manifest_asked s (fallback_reference image digest)) l c (keeps_more x) keeps (document_asked_sound s (fallback_reference image digest) k handed l c keeps))
    (λ l c r h. safe_done x s.settings (Ended x s.settings manifest_types) l c (tagged_index digest kind r) (tagged_ended x s.settings manifest_types digest kind l c r h.0 h.1))

-- ---- both

within_behind : {A : Type 0} (x : Entry) (s : Settings) (Q : AuthState → List Exchange → Result A OciDistributionError → Type 0) (p : Row A) (k l : AuthState) (m : ℕ) (seen c : List Exchange) → AllConfined x s seen → Keeps x k seen → Safe (Carries x s) (Keeps x) Q k seen p → Behind p k m c l → Within x s l (seen ++ c)
within_behind x s Q p k l m seen c confined keeps h b =
    let after = behind_keeps (Carries x s) (Keeps x) Q p k l m seen c (keeps_more x) keeps h b in
    record { confined = each_more (Confined x s) [] seen c confined (behind_each (Confined x s) (Keeps x) Q p k l m seen c h b); kept = after.added; stored = after.stored }

-- the list's exchanges
pub asked_within : (k : AuthState) (s : Context) (image : Reference) (digest : List ℕ) (kind : Option (List ℕ)) (between : AuthState) (m n : ℕ) (c : List Exchange) (r : Result Got OciDistributionError) → Runs (referrers_asked s image digest kind) k m c n between r → Within (pulling k s image None) s.settings between c
asked_within k s image digest kind between m n c r runs = let x = pulling k s image None in
    within_behind x s.settings (Ended x s.settings manifest_types) (referrers_asked s image digest kind) k between m [] c tt (keeps_first x) (asked_sound s image digest kind k None k [] (keeps_first x)) (inr (n, r, runs))

-- the tag is requested after a response of status 404
after_list : (k : AuthState) (s : Context) (image : Reference) (digest : List ℕ) (kind : Option (List ℕ)) (handed : Option RegistryAuth) (j l : AuthState) (m : ℕ) (seen c : List Exchange) → digest_of image ≡ Some digest → AllConfined (pulling k s image handed) s.settings seen → Keeps (pulling k s image handed) j seen
    → Parted (referrers_asked s image digest kind) (unless_refused (referrers_by s image digest kind)) j m c l → WithinReferrers (pulling k s image handed) s.settings l (seen ++ c)
after_list k s image digest kind handed j l m seen c digest_is confined keeps h = by_answer h.answer h.runs h.behind where
  x : Entry
  x = pulling k s image handed

  front : (r : Result Got OciDistributionError) → Runs (referrers_asked s image digest kind) j m h.first h.count h.between r → Within x s.settings h.between (seen ++ h.first)
  front r runs = within_behind x s.settings (Ended x s.settings manifest_types) (referrers_asked s image digest kind) j h.between m seen h.first confined keeps (asked_sound s image digest kind k handed j seen keeps) (inr (h.count, r, runs))

  ended : (r : Result Got OciDistributionError) (a : Result OciImageIndex OciDistributionError) → Runs (referrers_asked s image digest kind) j m h.first h.count h.between r → Behind (Done a) h.between h.count h.second l → WithinReferrers x s.settings l (seen ++ c)
  ended r a runs behind =
      let over = behind_done a h.between h.count h.second l behind in
      inl (subst (λ z. Within x s.settings z (seen ++ c)) over.1 (subst (λ z. Within x s.settings h.between (seen ++ z)) (sym (h.joined ∙ ap (λ z. h.first ++ z) over.0 ∙ append-nil h.first)) (front r runs)))

  by_status : (got : Got) (b : Bool) → nat_eq got.answer.status 404 ≡ b → Runs (referrers_asked s image digest kind) j m h.first h.count h.between (Ok got) → Behind (if b then referrers_tagged s image digest kind else Done (referrers_in got)) h.between h.count h.second l → WithinReferrers x s.settings l (seen ++ c)
  by_status got false other runs behind = ended (Ok got) (referrers_in got) runs behind
  by_status got true missing runs behind =
      let last = (asked_causes s image digest kind).shows j h.between m h.count h.first (Ok got) runs in
      inr (record {
        digest = digest;
        digest_is = digest_is;
        front = seen ++ h.first;
        rest = h.second;
        split = ap (λ z. seen ++ z) h.joined ∙ sym (append_assoc seen h.first h.second);
        missing = record { address = got.url; answer = got.answer; last = answer_later (ListUrl s.settings image digest) (ListUrl s.settings image digest) seen (λ act h. h) last; holds = status_is got.answer.status 404 missing };
        between = h.between;
        first = front (Ok got) runs;
        after = within_behind (for_tag x digest h.between) s.settings (Ended (for_tag x digest h.between) s.settings manifest_types) (referrers_tagged s image digest kind) h.between l h.count [] h.second tt (keeps_first (for_tag x digest h.between))
            (tagged_sound s image digest kind h.between None h.between [] (keeps_first (for_tag x digest h.between))) behind;
      })

  by_answer : (r : Result Got OciDistributionError) → Runs (referrers_asked s image digest kind) j m h.first h.count h.between r → Behind (unless_refused (referrers_by s image digest kind) r) h.between h.count h.second l → WithinReferrers x s.settings l (seen ++ c)
  by_answer (Ok got) runs behind = by_status got (nat_eq got.answer.status 404) refl runs behind
  by_answer (Err e) runs behind = ended (Err e) (Err e) runs behind

with_digest : (k : AuthState) (s : Context) (image : Reference) (digest : List ℕ) (kind : Option (List ℕ)) (handed : Option RegistryAuth) (j l : AuthState) (m : ℕ) (seen c : List Exchange) → digest_of image ≡ Some digest → AllConfined (pulling k s image handed) s.settings seen → Keeps (pulling k s image handed) j seen
    → Behind (referrers_asked s image digest kind) j m c l ⊎ Parted (referrers_asked s image digest kind) (unless_refused (referrers_by s image digest kind)) j m c l → WithinReferrers (pulling k s image handed) s.settings l (seen ++ c)
with_digest k s image digest kind handed j l m seen c digest_is confined keeps (inl behind) = let x = pulling k s image handed in
    inl (within_behind x s.settings (Ended x s.settings manifest_types) (referrers_asked s image digest kind) j l m seen c confined keeps (asked_sound s image digest kind k handed j seen keeps) behind)
with_digest k s image digest kind handed j l m seen c digest_is confined keeps (inr parted) = after_list k s image digest kind handed j l m seen c digest_is confined keeps parted

-- after exchanges that are confined to the image
referrers_within : (k : AuthState) (s : Context) (image : Reference) (kind : Option (List ℕ)) (handed : Option RegistryAuth) (j l : AuthState) (m : ℕ) (seen c : List Exchange) → AllConfined (pulling k s image handed) s.settings seen → Keeps (pulling k s image handed) j seen
    → Behind (pull_referrers s image kind) j m c l → WithinReferrers (pulling k s image handed) s.settings l (seen ++ c)
unfolding pull_referrers bind
referrers_within k s image kind handed j l m seen c confined keeps behind = by_digest (digest_of image) refl behind where
  by_digest : (o : Option (List ℕ)) → digest_of image ≡ o → Behind (Done (digest_given o) >>= λ digest. referrers_asked s image digest kind >>= referrers_by s image digest kind) j m c l → WithinReferrers (pulling k s image handed) s.settings l (seen ++ c)
  by_digest (Some digest) is behind = with_digest k s image digest kind handed j l m seen c is confined keeps (behind_parts (referrers_asked s image digest kind) (unless_refused (referrers_by s image digest kind)) j m c l behind)
  by_digest None is behind = let x = pulling k s image handed in
      inl (within_behind x s.settings (Ended x s.settings manifest_types) (Done (digest_given None) >>= λ digest. referrers_asked s image digest kind >>= referrers_by s image digest kind) j l m seen c confined keeps (plain_step x s.settings manifest_types (digest_given None) (λ digest. referrers_asked s image digest kind >>= referrers_by s image digest kind) j seen tt (λ digest never. absurd (cc never))) behind)

told_more : {P Q : List Exchange → Type 0} {old new : Link} → ((c : List Exchange) → P c → Q c) → Told P old new → Told Q old new
told_more more told = record { conversation = told.conversation; told = told.told; holds = more told.conversation told.holds }

pub referrers_confined : (s : Context) (image : Reference) (kind : Option (List ℕ)) {old new : Link} {k l : AuthState} {r : Result OciImageIndex OciDistributionError} → Meets is_memory (pull_referrers s image kind) old new k l r → Told (WithinReferrers (pulling k s image None) s.settings l) old new
referrers_confined s image kind {old} {new} {k} {l} met = told_more (λ c behind. referrers_within k s image kind None k l old.faults [] c tt (keeps_first (pulling k s image None)) behind) (met_behind met)

-- ---- after the call for a token

given_within : (k : AuthState) (s : Context) (image : Reference) (a : RegistryAuth) (kind : Option (List ℕ)) (l : AuthState) (m : ℕ) (c : List Exchange) → Behind (token_given s image a Pull) k m c l ⊎ Parted (token_given s image a Pull) (unless_refused (λ t. pull_referrers s image kind)) k m c l → WithinReferrers (pulling k s image (Some a)) s.settings l c
given_within k s image a kind l m c (inl behind) = let x = pulling k s image (Some a) in
    inl (within_behind x s.settings (Any x) (token_given s image a Pull) k l m [] c tt (keeps_first x) (given_safe k s image a Pull k [] (keeps_first x)) behind)
given_within k s image a kind l m c (inr h) = by_answer h.answer h.runs h.behind where
  x : Entry
  x = pulling k s image (Some a)

  front : (t : Result (Option (List ℕ)) OciDistributionError) → Runs (token_given s image a Pull) k m h.first h.count h.between t → Within x s.settings h.between h.first
  front t runs = within_behind x s.settings (Any x) (token_given s image a Pull) k h.between m [] h.first tt (keeps_first x) (given_safe k s image a Pull k [] (keeps_first x)) (inr (h.count, t, runs))

  keeps : (t : Result (Option (List ℕ)) OciDistributionError) → Runs (token_given s image a Pull) k m h.first h.count h.between t → Keeps x h.between h.first
  keeps t runs = behind_keeps (Carries x s.settings) (Keeps x) (Any x) (token_given s image a Pull) k h.between m [] h.first (keeps_more x) (keeps_first x) (given_safe k s image a Pull k [] (keeps_first x)) (inr (h.count, t, runs))

  by_answer : (t : Result (Option (List ℕ)) OciDistributionError) → Runs (token_given s image a Pull) k m h.first h.count h.between t → Behind (unless_refused (λ t. pull_referrers s image kind) t) h.between h.count h.second l → WithinReferrers x s.settings l c
  by_answer (Ok t) runs behind = subst (λ z. WithinReferrers x s.settings l z) (sym h.joined) (referrers_within k s image kind (Some a) h.between l h.count h.first h.second (front (Ok t) runs).confined (keeps (Ok t) runs) behind)
  by_answer (Err e) runs behind =
      let over = behind_done (Err e) h.between h.count h.second l behind in
      inl (subst (λ z. Within x s.settings z c) over.1 (subst (λ z. Within x s.settings h.between z) (sym (h.joined ∙ ap (λ z. h.first ++ z) over.0 ∙ append-nil h.first)) (front (Err e) runs)))

pub given_referrers_confined : (s : Context) (image : Reference) (a : RegistryAuth) (kind : Option (List ℕ)) {old new : Link} {k l : AuthState} {r : Result OciImageIndex OciDistributionError} → Meets is_memory (token_given s image a Pull >>= λ t. pull_referrers s image kind) old new k l r → Told (WithinReferrers (pulling k s image (Some a)) s.settings l) old new
given_referrers_confined s image a kind {old} {new} {k} {l} met = told_more (λ c behind. given_within k s image a kind l old.faults c (behind_parts (token_given s image a Pull) (unless_refused (λ t. pull_referrers s image kind)) k old.faults c l behind)) (met_behind met)
