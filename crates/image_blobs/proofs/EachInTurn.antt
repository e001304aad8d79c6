-- The blobs of a range, one after another.
use Rattle.std.proofs.Common.{◌≡◌, ◌≤◌, ◌<◌, ◌⊎◌, inl, inr, ℕ, ◌+◌, ◌-◌, suc, List, [], ◌∷◌, ◌++◌, Some, None, Option, Result, Ok, Err, length, take, drop, take_all, refl, sym, ap, subst, ◌∙◌, add-one, append_assoc, append-nil, arith}
use Rattle.std.proofs.lemmas.List.{drop_all}
use Rattle.byte_streams.specs.declared.sink.SinkError.{SinkError}
use Rattle.byte_streams.specs.declared.sink.SinkError.TheVariants as sink_refusal
use Rattle.byte_streams.specs.SinkState.{SinkState}
use Rattle.oci_transport.specs.Link.{Link}
use Rattle.oci_auth.specs.declared.auth_state.AuthState.{AuthState}
use Rattle.oci_auth.specs.declared.token_type.RegistryTokenType.{RegistryTokenType}
use Rattle.oci_names.specs.declared.reference.Reference.{Reference}
use Rattle.oci_manifests.specs.declared.descriptor.OciDescriptor.{OciDescriptor}
use Rattle.oci_protocol.specs.Proto.{Done, Consult, ◌>>=◌, ◌>>◌}
use Rattle.oci_protocol.specs.Runs.{Meets}
use Rattle.oci_protocol.proofs.Laws.{Meets-consult, Meets-refused, Meets-ok, Meets-err, Meets-memory}
use Rattle.url.specs.Parts.{Parts}
use Rattle.engine_terms.specs.Error.{is_memory}
use Rattle.engine_terms.specs.declared.settings.Settings.{Settings}
use Rattle.engine_terms.specs.declared.error.OciDistributionError.{OciDistributionError}
use Rattle.engine_terms.specs.declared.error.OciDistributionError.TheVariants as refusal
use Rattle.engine_rows.specs.Blobs.{filled}
use Rattle.engine_rows.specs.Rows.{Row}
use Rattle.oci_protocol.proofs.Exits.{and_then, done}
use Rattle.engine_pull.proofs.Layers.{at_next}
use Rattle.call_laws.specs.Blobs.{range_of, going_on, sinks_asked, blob_with, kept_blob, each_blob}
use Rattle.image_blobs.specs.SinksState.{SinksState}
use Rattle.image_blobs.specs.Taken.{IsAt, MeetsOne, MeetsIntoSinks, with_blobs, TookAll, TookSome, TookBlobs, refusal_of}
use Rattle.image_blobs.proofs.SinksTaken.{took_none, took_next, took_stops}

-- ---- the sinks refuse, or go on

pub sinks_go : (link : Link) (k : AuthState) → Meets is_memory sinks_asked link link k k (Ok tt)
unfolding sinks_asked
sinks_go link k = Meets-consult (λ said. Done (going_on said)) (Some []) (Meets-ok is_memory link k tt)

pub sinks_refuse : (link : Link) (k : AuthState) → Meets is_memory sinks_asked link link k k (Err refusal.SinkFault)
unfolding sinks_asked
sinks_refuse link k = Meets-consult (λ said. Done (going_on said)) None (Meets-err is_memory link k refusal.SinkFault refl)

pub sinks_wanting : (link : Link) (k : AuthState) → Meets is_memory sinks_asked link link k k (Err refusal.WantOfMemory)
sinks_wanting link k = Meets-memory is_memory sinks_asked link k refusal.WantOfMemory refl

-- ---- one blob

-- what a refusal of the sinks is returned as
pub sinks_say : (e : SinkError) (r : OciDistributionError) → r ≡ refusal_of e → (link : Link) (k : AuthState) → Meets is_memory sinks_asked link link k k (Err r)
sinks_say sink_refusal.Failed r is link k = rw is (sinks_refuse link k)
sinks_say sink_refusal.WantOfMemory r is link k = rw is (sinks_wanting link k)

pub sinks_count : (e : SinkError) (r : OciDistributionError) (P : Type 0) → r ≡ refusal_of e → (e ≡ sink_refusal.Failed → P) → ◌≡◌ {A = Result Unit OciDistributionError} (Err r) (Err refusal.SinkFault) → P
sinks_count sink_refusal.Failed r P is fault h = fault refl
sinks_count sink_refusal.WantOfMemory r P is fault h = absurd (cc (is, h))

module _ (s : Settings) (image : Reference) (registry : Parts) (token : Option RegistryTokenType) (x : OciDescriptor) where
  -- no sink was opened
  pub unopened : (old : Link) (e : OciDistributionError) (k : AuthState) → Meets is_memory sinks_asked old old k k (Err e) → MeetsOne (kept_blob s image registry token x) old old k (Err e)
  unfolding kept_blob
  unopened old e k met = record { blob = []; met = Meets-refused _ met }

  -- the blob was refused
  pub unfilled : (old new : Link) (e : OciDistributionError) (k : AuthState) → Meets is_memory (blob_with s image registry token x) old new k k (Err e) → MeetsOne (kept_blob s image registry token x) old new k (Err e)
  unfolding kept_blob
  unfilled old new e k met = record { blob = []; met = and_then _ (sinks_go old k) (Meets-refused _ met) }

  -- the sinks refuse after it
  pub unclosed : (old new : Link) (bytes : List ℕ) (e : OciDistributionError) (k : AuthState) → Meets is_memory (blob_with s image registry token x) old new k k (Ok bytes) → Meets is_memory sinks_asked new new k k (Err e) → MeetsOne (kept_blob s image registry token x) old new k (Err e)
  unfolding kept_blob
  unclosed old new bytes e k met refuse = record { blob = []; met = and_then _ (sinks_go old k) (and_then _ met (Meets-refused _ refuse)) }

  pub kept : (old new : Link) (bytes : List ℕ) (k : AuthState) → Meets is_memory (blob_with s image registry token x) old new k k (Ok bytes) → MeetsOne (kept_blob s image registry token x) old new k (Ok tt)
  unfolding kept_blob
  kept old new bytes k met = record { blob = bytes; met = and_then _ (sinks_go old k) (and_then _ met (and_then _ (sinks_go new k) done)) }

-- ---- the descriptors of a range

take_one : (n : ℕ) (x : OciDescriptor) (xs : List OciDescriptor) → take (n + 1) (x ∷ xs) ≡ x ∷ take n xs
take_one n x xs = rw add-one refl

pub range_next : (at end : ℕ) (ds : List OciDescriptor) (x : OciDescriptor) → at < end → IsAt ds at x → range_of at end ds ≡ x ∷ range_of (at + 1) end ds
range_next at end ds x lt is =
    let one : end - at ≡ (end - (at + 1)) + 1 = omega (arith, lt) in
    ap (λ (n : ℕ). take n (drop at ds)) one ∙ (ap (λ (xs : List OciDescriptor). take ((end - (at + 1)) + 1) xs) (at_next ds at x is.0 is.1) ∙ take_one (end - (at + 1)) x (drop (at + 1) ds))

range_past : (at end : ℕ) (ds : List OciDescriptor) → end ≤ at → range_of at end ds ≡ []
range_past at end ds le = let none : end - at ≡ 0 = omega (arith, le) in ap (λ (n : ℕ). take n (drop at ds)) none ∙ refl

range_out : (at end : ℕ) (ds : List OciDescriptor) → length ds ≤ at → range_of at end ds ≡ []
range_out at end ds le = ap (λ (xs : List OciDescriptor). take (end - at) xs) (drop_all at ds le) ∙ take_all (end - at) [] (omega arith)

pub range_none : (at end : ℕ) (ds : List OciDescriptor) → (end ≤ at) ⊎ (length ds ≤ at) → range_of at end ds ≡ []
range_none at end ds (inl le) = range_past at end ds le
range_none at end ds (inr le) = range_out at end ds le

-- ---- so far

module _ (s : Settings) (image : Reference) (registry : Parts) (token : Option RegistryTokenType) (fresh : SinkState) (ds : List OciDescriptor) (first end : ℕ) where
  abbrev pub Row_ : List OciDescriptor → List (List ℕ) → Row (List (List ℕ))
  Row_ xs blobs = each_blob s image registry token xs blobs

  -- the blobs so far, and the row of those that are left
  pub record Leads (at : ℕ) (old mid : Link) (k : AuthState) : Type 0 where
    pub blobs : List (List ℕ)
    pub met : (new : Link) (r : Result (List (List ℕ)) OciDistributionError) → Meets is_memory (Row_ (range_of at end ds) blobs) mid new k k r → Meets is_memory (Row_ (range_of first end ds) []) old new k k r

  pub record SoFar (at : ℕ) (old mid : Link) (before between : SinksState) : Type 0 where
    pub past : List OciDescriptor
    pub split : range_of first end ds ≡ past ++ range_of at end ds
    pub took : AuthState → TookAll fresh past old mid before between
    pub leads : (k : AuthState) → Leads at old mid k
    pub count : before.faults ≤ between.faults

  pub so_far_none : (old : Link) (before : SinksState) → SoFar first old old before before
  so_far_none old before = record { past = []; split = refl; took = λ k. took_none fresh old before; leads = λ k. record { blobs = []; met = λ new r rest. rest }; count = omega arith }

  each_next : (at : ℕ) (x : OciDescriptor) (blobs : List (List ℕ)) {old new : Link} {k : AuthState} {r : Result (List (List ℕ)) OciDistributionError} → at < end → IsAt ds at x → Meets is_memory (kept_blob s image registry token x >>= (λ bytes. Row_ (range_of (at + 1) end ds) (blobs ++ bytes ∷ []))) old new k k r → Meets is_memory (Row_ (range_of at end ds) blobs) old new k k r
  unfolding each_blob
  each_next at x blobs lt is rest = rw (range_next at end ds x lt is) rest

  pub so_far_next : (at : ℕ) (x : OciDescriptor) (old mid new : Link) (before between after : SinksState) → at < end → IsAt ds at x → SoFar at old mid before between → ((k : AuthState) → MeetsOne (kept_blob s image registry token x) mid new k (Ok tt)) → (AuthState → TookAll fresh (x ∷ []) mid new between after) → between.faults ≤ after.faults → SoFar (at + 1) old new before after
  so_far_next at x old mid new before between after lt is so one took le = record {
    past = so.past ++ x ∷ [];
    split = so.split ∙ (ap (λ (xs : List OciDescriptor). so.past ++ xs) (range_next at end ds x lt is) ∙ sym (append_assoc so.past (x ∷ []) (range_of (at + 1) end ds)));
    took = λ k. took_next fresh so.past (x ∷ []) old mid new before between after (so.took k) (took k);
    leads = λ k. record { blobs = (so.leads k).blobs ++ (one k).blob ∷ []; met = λ later r rest. (so.leads k).met later r (each_next at x (so.leads k).blobs lt is (and_then _ (one k).met rest)) };
    count = omega (arith, so.count, le);
  }

  pub met_stops : (at : ℕ) (x : OciDescriptor) (e : OciDistributionError) (old mid new : Link) (before between : SinksState) → at < end → IsAt ds at x → SoFar at old mid before between → (k : AuthState) → MeetsOne (kept_blob s image registry token x) mid new k (Err e) → MeetsIntoSinks (Row_ (range_of first end ds) []) old new k k (Err e)
  met_stops at x e old mid new before between lt is so k one = record { blobs = []; met = (so.leads k).met new (Err e) (each_next at x (so.leads k).blobs lt is (Meets-refused _ one.met)) }

  pub took_till : (at : ℕ) (x : OciDescriptor) (old mid new : Link) (before between after : SinksState) → at < end → IsAt ds at x → SoFar at old mid before between → (AuthState → TookSome fresh (x ∷ []) mid new between after) → AuthState → TookSome fresh (range_of first end ds) old new before after
  took_till at x old mid new before between after lt is so took k = subst (λ (xs : List OciDescriptor). TookSome fresh xs old new before after) (sym (so.split ∙ ap (λ (xs : List OciDescriptor). so.past ++ xs) (range_next at end ds x lt is))) (took_stops fresh so.past (x ∷ []) (range_of (at + 1) end ds) old mid new before between after (so.took k) (took k))

  each_end : (at : ℕ) (blobs : List (List ℕ)) (link : Link) (k : AuthState) → range_of at end ds ≡ [] → Meets is_memory (Row_ (range_of at end ds) blobs) link link k k (Ok blobs)
  unfolding each_blob
  each_end at blobs link k none = rw none done

  pub met_ends : (at : ℕ) (old mid : Link) (before between : SinksState) → range_of at end ds ≡ [] → SoFar at old mid before between → (k : AuthState) → MeetsIntoSinks (Row_ (range_of first end ds) []) old mid k k (Ok tt)
  met_ends at old mid before between none so k = record { blobs = (so.leads k).blobs; met = (so.leads k).met mid (Ok (so.leads k).blobs) (each_end at (so.leads k).blobs mid k none) }

  pub took_ends : (at : ℕ) (old mid : Link) (before between : SinksState) → range_of at end ds ≡ [] → SoFar at old mid before between → AuthState → TookAll fresh (range_of first end ds) old mid before between
  took_ends at old mid before between none so k = subst (λ (xs : List OciDescriptor). TookAll fresh xs old mid before between) (sym (so.split ∙ (ap (λ (xs : List OciDescriptor). so.past ++ xs) none ∙ append-nil so.past))) (so.took k)
