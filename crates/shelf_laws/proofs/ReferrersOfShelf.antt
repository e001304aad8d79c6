-- The referrers of a digest on a shelf, as the row that pulls them returns them.
use Rattle.std.specs.Prelude.{codes, if◌then◌else◌}
use Rattle.std.specs.List.{list_any}
use Rattle.std.specs.FinMap as map
use Rattle.std.proofs.Common.{◌≡◌, ◌≤◌, ℕ, ◌==◌, false, List, ◌++◌, length, Option, Some, None, Result, Ok, Err, refl, sym, ap, ◌∙◌, subst, arith}
use Rattle.url.specs.Parts.{Parts}
use Rattle.oci_names.specs.declared.reference.Reference.{Reference}
use Rattle.oci_names.specs.Reference.{digest_of}
use Rattle.oci_auth.specs.declared.auth.RegistryAuth.{RegistryAuth}
use Rattle.oci_auth.specs.declared.auth_state.AuthState.{AuthState}
use Rattle.oci_digests.specs.Names.{Names}
use Rattle.oci_manifests.specs.declared.document.OciManifest.{OciManifest}
use Rattle.oci_manifests.specs.declared.document.OciManifest.TheVariants.{ImageIndex}
use Rattle.oci_manifests.specs.declared.index.OciImageIndex.{OciImageIndex}
use Rattle.oci_transport.specs.Redirects.{may_follow, is_redirect_status}
use Rattle.oci_transport.specs.declared.message.Answer.{Answer}
use Rattle.oci_transport.specs.declared.message.Method.TheVariants.{Get}
use Rattle.oci_protocol.specs.Proto.{Done, ◌>>=◌}
use Rattle.oci_link.specs.PlainPaths.{Segment}
use Rattle.oci_link.specs.Table.{answer, found, bytes_answer, referrers_answer, digest_named}
use Rattle.oci_link.specs.declared.shelf.Shelf.{Shelf}
use Rattle.engine_answers.specs.declared.answers.Got.{Got}
use Rattle.engine_terms.specs.declared.error.OciDistributionError.{OciDistributionError}
use Rattle.engine_requests.specs.Addresses.{url_read}
use Rattle.engine_terms.specs.Contexts.{Context}
use Rattle.engine_answers.specs.Documents.{document_read}
use Rattle.json_values.specs.Refusals.{◌>>=◌ as ◌into◌}
use Rattle.engine_answers.specs.Referrers.{referrers_in, referrers_tag, fallback_reference, tagged_index}
use Rattle.engine_requests.specs.ReferrerLists.{digest_given, referrers_text, referrers_url, with_artifact_type}
use Rattle.engine_requests.specs.Requests.{manifest_types}
use Rattle.engine_terms.specs.declared.settings.Settings.{Settings}
use Rattle.engine_rows.specs.Pulls.{manifest_asked}
use Rattle.engine_rows.specs.Referrers.{referrers_asked, referrers_tagged, referrers_by, pull_referrers}
use Rattle.shelf_laws.specs.EvaluatesWith.{Yields, AlwaysOk}
use Rattle.shelf_laws.specs.IsHosted.{base_of, IsHosted, IsAt, CanBeShown, Settled}
use Rattle.shelf_laws.specs.Shelves.{FitsLimit, TagLists, ListsBy, Lists}
use Rattle.shelf_laws.proofs.TableSteps.{AlwaysOk-done, AlwaysOk-next, AlwaysOk-caught}
use Rattle.shelf_laws.proofs.DigestTags.{dashed_text, dashed_segment, dashed_colonless}
use Rattle.shelf_laws.proofs.Documents.{named_segment, asked_gives, answer_gives}
use Rattle.shelf_laws.proofs.PlainNames.{item_plain}
use Rattle.shelf_laws.proofs.Places.{item_path, answers_referrers, referrers_text_is}
use Rattle.shelf_laws.proofs.Requests.{yields_ok, IsUrl, url_reads}
use Rattle.shelf_laws.proofs.ShelfRows.{resolved_again}
use Rattle.shelf_laws.proofs.Tokens.{prepared_gives}

-- the tag that replaces a list of referrers
tag_segment : (digest bytes : List ℕ) → Names digest bytes → Segment (referrers_tag digest)
tag_segment digest bytes (a, is) = subst Segment (sym (ap referrers_tag is ∙ dashed_text a bytes)) (dashed_segment a bytes)

tag_points : (shelf : Shelf) (digest bytes : List ℕ) → Names digest bytes → digest_named shelf (referrers_tag digest) ≡ map.get shelf.tags (referrers_tag digest)
tag_points shelf digest bytes (a, is) = ap (λ b. if b then Some (referrers_tag digest) else map.get shelf.tags (referrers_tag digest)) (ap (list_any (λ b. b == 58)) (ap referrers_tag is ∙ dashed_text a bytes) ∙ dashed_colonless a bytes)

module _ {s : Settings} {registry : List ℕ} {shelf : Shelf} (home : IsHosted s registry shelf) (short : FitsLimit s shelf) (image : Reference) (at : IsAt registry shelf image) (a : RegistryAuth) (can : CanBeShown a) (moment : ℕ) (digest bytes : List ℕ) (named : Names digest bytes) where
  abbrev I : AuthState → Type 0
  I k = Settled registry shelf.repository a k

  abbrev ctx : Context
  ctx = record { settings = s; moment = moment }

  abbrev listed : Option (List ℕ)
  listed = map.get shelf.referrers digest

  rests : (o : Option (List ℕ)) → is_redirect_status (bytes_answer map.empty o).status ≡ false
  rests None = refl
  rests (Some body) = refl

  short_body : (o : Option (List ℕ)) → listed ≡ o → length (bytes_answer map.empty o).body ≤ s.max_body_bytes
  short_body None is = omega arith
  short_body (Some body) is = short.referrers digest body is

  list_gives : AlwaysOk I (answer shelf) (λ got. got.answer ≡ bytes_answer map.empty listed) (referrers_asked ctx image digest None)
  unfolding referrers_asked
  list_gives =
      let segment = named_segment digest bytes named in
      let url_ok = url_reads home (referrers_text s image digest) (item_path shelf.repository (codes "referrers") digest) (referrers_text_is home at digest) (item_plain shelf.repository (codes "referrers") digest home.path (114, codes "eferrers", refl, refl, refl) segment) in
      AlwaysOk-next _ (AlwaysOk-done (referrers_url s image digest None) (unrestricted (IsUrl (base_of s registry ++ item_path shelf.repository (codes "referrers") digest) home.written.url) (url_read (referrers_text s image digest)) url_ok)) (λ url is.
      AlwaysOk-next _ (prepared_gives home image at a can moment Get url manifest_types refl) (λ request made.
      answer_gives home short image at a can moment request (bytes_answer map.empty listed)
      (answers_referrers home request digest (bytes_answer map.empty listed) segment (made.url_is ∙ is.text_is) (ap may_follow made.method_is) (rests listed) (ap (λ m. referrers_answer shelf m digest) made.method_is))
      (short_body listed refl))) where
        unrestricted : (P : Parts → Type 0) (r : Result Parts OciDistributionError) → Yields P r → Yields P (r into λ url. Ok (with_artifact_type None url))
        unrestricted P (Ok url) h = h
        unrestricted P (Err e) h = h

  tag_gives : (index : OciImageIndex) → TagLists shelf digest index → AlwaysOk I (answer shelf) (λ x. x ≡ index) (referrers_tagged ctx image digest None)
  unfolding referrers_tagged manifest_asked
  tag_gives index lists =
      let own = fallback_reference image digest in
      let at_own : IsAt registry shelf own = record { registry_is = resolved_again image at.no_mirror ∙ at.registry_is; repository_is = at.repository_is; no_mirror = refl } in
      AlwaysOk-caught {P = λ (found : OciManifest × List ℕ). found.0 ≡ ImageIndex index} (λ r. Done (tagged_index digest None r))
      (AlwaysOk-next _ (asked_gives home short own at_own a can moment lists.list lists.bytes manifest_types lists.there (tag_segment digest bytes named) (tag_points shelf digest bytes named ∙ lists.tagged) tt refl) (λ found is.
      AlwaysOk-next _ (AlwaysOk-done (document_read found.0) (yields_ok (λ (d : OciManifest). d ≡ ImageIndex index) (document_read found.0) (ImageIndex index) (ap (λ (p : List ℕ × List ℕ). document_read p.0) is ∙ lists.reads) refl)) (λ d same.
      AlwaysOk-done (Ok (d, found.1)) same)))
      (λ found same. AlwaysOk-done (tagged_index digest None (Ok found)) (yields_ok (λ x. x ≡ index) (tagged_index digest None (Ok found)) index (ap (λ (d : OciManifest). tagged_index digest None (Ok (d, found.1))) same) refl))

  by_list : (o : Option (List ℕ)) (index : OciImageIndex) (got : Got) → ListsBy shelf digest index o → got.answer ≡ bytes_answer map.empty o → AlwaysOk I (answer shelf) (λ x. x ≡ index) (referrers_by ctx image digest None got)
  by_list (Some body) index got reads is =
      subst (λ (x : Answer). AlwaysOk I (answer shelf) (λ x. x ≡ index) (referrers_by ctx image digest None (record { url = got.url; answer = x }))) (sym is)
      (AlwaysOk-done (referrers_in (record { url = got.url; answer = found map.empty body })) (yields_ok (λ x. x ≡ index) (referrers_in (record { url = got.url; answer = found map.empty body })) index reads refl))
  by_list None index got lists is =
      subst (λ (x : Answer). AlwaysOk I (answer shelf) (λ x. x ≡ index) (referrers_by ctx image digest None (record { url = got.url; answer = x }))) (sym is) (tag_gives index lists)

  pub referrers_give : (index : OciImageIndex) → digest_of image ≡ Some digest → Lists shelf digest index → AlwaysOk I (answer shelf) (λ x. x ≡ index) (pull_referrers ctx image None)
  unfolding pull_referrers
  referrers_give index own lists =
      AlwaysOk-next _ (AlwaysOk-done (digest_given (digest_of image)) (yields_ok (λ (d : List ℕ). d ≡ digest) (digest_given (digest_of image)) digest (ap digest_given own) refl)) (λ d same.
      subst (λ (t : List ℕ). AlwaysOk I (answer shelf) (λ x. x ≡ index) (referrers_asked ctx image t None >>= λ got. referrers_by ctx image t None got)) (sym same)
      (AlwaysOk-next _ list_gives (λ got is. by_list listed index got lists is)))
