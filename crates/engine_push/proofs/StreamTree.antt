-- The calls that push a stream, each outcome.
use Rattle.std.proofs.Common.{IfErr, ◌≡◌, ℕ, Bool, List, [], ◌∷◌, ◌++◌, Option, Some, None, Result, Ok, Err, inl, inr, ◌⊎◌, true, false, length, refl, sym, ap, subst, ◌∙◌, append-nil}
use Rattle.std.specs.Option.{is_some}
use Rattle.oci_digests.specs.Names.{digest_text}
use Rattle.oci_names.specs.declared.algorithm.Algorithm.TheVariants.{Sha256}
use Rattle.oci_digests.specs.declared.digester.Digester.{Digester}
use Rattle.std.specs.Io.KnownBytes.{Consumes, IsAtEnd}
use Rattle.std.specs.Result.{IsErrAnd}
use Rattle.std.proofs.lemmas.Result.{err_from_is_err_and}
use Rattle.oci_names.specs.declared.reference.Reference.{Reference}
use Rattle.oci_transport.specs.Link.{Link}
use Rattle.oci_auth.specs.declared.auth_state.AuthState.{AuthState}
use Rattle.oci_protocol.specs.Proto.{Done, ◌>>=◌}
use Rattle.oci_protocol.specs.Runs.{Meets, Told}
use Rattle.oci_protocol.proofs.Conversations.{Extends-more}
use Rattle.oci_protocol.proofs.Laws.{Meets-refused}
use Rattle.oci_transport.specs.Pieces.{joined}
use Rattle.engine_terms.specs.Contexts.{Context}
use Rattle.engine_terms.specs.Error.{is_memory}
use Rattle.engine_terms.specs.declared.error.GenericCause.TheVariants.{NoSize}
use Rattle.engine_terms.specs.declared.error.OciDistributionError.{OciDistributionError}
use Rattle.engine_terms.specs.declared.error.OciDistributionError.TheVariants as refusal
use Rattle.engine_rows.specs.Rows.{Row}
use Rattle.oci_protocol.proofs.Exits.{refused, and_then, said, done}
use Rattle.push_rows.specs.Bodies.{bodies, IsPrefix}
use Rattle.push_rows.specs.Calls.{size_given, stream_sent, response_of}
use Rattle.push_rows.specs.PieceStates.{PieceState, Takes, TakesPieces, part}
use Rattle.engine_push.specs.Sources.{cuts, AllCut, SomeCut, AllJoined, SomeJoined, Cuts, CutBy, NotSent, SourceCause, TookAll, IsPrefixOf, Pushes}
use Rattle.push_rows.specs.Uploads.{Sent, upload_begun, all_sent}
use Rattle.push_rows.proofs.Carried.{Carries, CarriesFront, front_behind_more, bodies_both, joined_part}
use Rattle.engine_push.proofs.PieceTree.{nil_of, sent_source, front_of_left, pushes_refused, takes_none}

pub size_unknown : {A : Type 0} (f : ℕ → Row A) (link : Link) (k : AuthState) → Meets is_memory (Done (size_given None) >>= f) link link k k (Err (refusal.GenericError NoSize))
size_unknown f link k = Meets-refused f (said (Err (refusal.GenericError NoSize)) refl)

-- ---- the row of an upload that is not finished yet

pub sent_refused : {A : Type 0} (s : Context) (image : Reference) (f : Sent → Row A) {old new : Link} {k l : AuthState} (e : OciDistributionError) (r : Result A OciDistributionError) → Meets is_memory (upload_begun s image) old new k l (Err e) → IsErrAnd r (λ x. x ≡ e) → Meets is_memory (stream_sent s image >>= f) old new k l r
unfolding stream_sent
sent_refused s image f e r met is = refused f (Meets-refused (all_sent s image) met) is

pub sent_then : {A : Type 0} (s : Context) (image : Reference) (f : Sent → Row A) {old mid new : Link} {k j l : AuthState} (location : List ℕ) (e : OciDistributionError) (r : Result A OciDistributionError) → Meets is_memory (upload_begun s image) old mid k j (Ok location) → Meets is_memory (all_sent s image location) mid new j l (Err e) → IsErrAnd r (λ x. x ≡ e) → Meets is_memory (stream_sent s image >>= f) old new k l r
unfolding stream_sent
sent_then s image f location e r first second is = refused f (and_then (all_sent s image) first second) is

pub sent_met : (s : Context) (image : Reference) {old mid new : Link} {k j l : AuthState} (location : List ℕ) (sent : Sent) → Meets is_memory (upload_begun s image) old mid k j (Ok location) → Meets is_memory (all_sent s image location) mid new j l (Ok sent) → Meets is_memory (stream_sent s image) old new k l (Ok sent)
unfolding stream_sent
sent_met s image location sent first second = and_then (all_sent s image) first second

-- ---- what was sent

-- after requests without a body
told_behind : (P : List (List ℕ) → Type 0) {old mid new : Link} → Carries [] old mid → Told (λ c. P (bodies c)) mid new → Told (λ c. P (bodies c)) old new
told_behind P {old} {mid} {new} a b = record {
  conversation = a.conversation ++ b.conversation;
  told = Extends-more old mid new a.conversation b.conversation a.told b.told;
  holds = subst P (sym (bodies_both a.conversation b.conversation ∙ ap (λ xs. xs ++ bodies b.conversation) a.holds)) b.holds;
}

-- and before them
told_before : (P : List (List ℕ) → Type 0) {old mid new : Link} → Told (λ c. P (bodies c)) old mid → Carries [] mid new → Told (λ c. P (bodies c)) old new
told_before P {old} {mid} {new} a b = record {
  conversation = a.conversation ++ b.conversation;
  told = Extends-more old mid new a.conversation b.conversation a.told b.told;
  holds = subst P (sym (bodies_both a.conversation b.conversation ∙ ap (λ xs. bodies a.conversation ++ xs) b.holds ∙ append-nil (bodies a.conversation))) a.holds;
}

nothing_in_front : {old new : Link} → CarriesFront [] old new → Carries [] old new
nothing_in_front told = record { conversation = told.conversation; told = told.told; holds = by_front (bodies told.conversation) told.holds } where
  by_front : (parts : List (List ℕ)) → IsPrefix parts [] → parts ≡ []
  by_front [] front = refl
  by_front (x ∷ xs) front = absurd (cc front.1)

front_part : (before : PieceState) (bytes : List ℕ) (after : PieceState) → Takes bytes before after → IsPrefixOf bytes before.left
front_part before bytes after taken = by_left before.left after.left taken where
  by_left : (all rest : Option (List ℕ)) → Consumes all rest bytes → IsPrefixOf bytes all
  by_left None rest taken = tt
  by_left (Some all) None taken = absurd taken
  by_left (Some all) (Some rest) taken = (rest, taken)

-- ---- bytes that are held in memory

pub begun_pushes : (before after : PieceState) (bytes : List ℕ) {old mid new : Link} → Takes bytes before after × IsAtEnd after.left → Carries [] old mid → Carries (part bytes) mid new → Told (λ c. Takes (joined (bodies c)) before after) old new × IsAtEnd after.left
begun_pushes before after bytes given first second = (told_behind (λ parts. Takes (joined parts) before after) first (record { conversation = second.conversation; told = second.told; holds = subst (λ xs. Takes xs before after) (sym (ap joined second.holds ∙ joined_part bytes)) given.0 }), given.1)

pub held_pushes : {A E : Type 0} (before after : PieceState) (bytes : List ℕ) {old mid new : Link} (r : Result A E) (e : E) → IsErrAnd r (λ x. x ≡ e) → Takes bytes before after × IsAtEnd after.left → Carries [] old mid → CarriesFront (part bytes) mid new → Pushes before after old new r
held_pushes before after bytes r e is given first second = pushes_refused before after r e is (front_of_left before after bytes (part bytes) (joined_part bytes) given.0 (front_behind_more first second))

-- nothing was sent
pub none_joined : (before after : PieceState) {old new : Link} → CarriesFront [] old new → Told (λ c. SomeJoined before after (bodies c)) old new
none_joined before after told = let none = nothing_in_front told in record { conversation = none.conversation; told = none.told; holds = inl none.holds }

pub joined_refused : {A E : Type 0} (before after : PieceState) {old new : Link} (r : Result A E) (e : E) → IsErrAnd r (λ x. x ≡ e) → Told (λ c. SomeJoined before after (bodies c)) old new → CutBy true before after old new r
joined_refused before after r e is told = let at = err_from_is_err_and r is in rw at.1 told

pub begun_joined : (before after : PieceState) (bytes : List ℕ) {old mid new : Link} → AllJoined before after (part bytes) → Carries [] old mid → Carries (part bytes) mid new → Told (λ c. AllJoined before after (bodies c)) old new
begun_joined before after bytes given first second = told_behind (λ parts. AllJoined before after parts) first (record { conversation = second.conversation; told = second.told; holds = subst (AllJoined before after) (sym second.holds) given })

-- all of one body, or none
none_or_all : (sent : List (List ℕ)) (bytes : List ℕ) → IsPrefix sent (part bytes) → (sent ≡ []) ⊎ (sent ≡ part bytes)
none_or_all [] bytes front = inl refl
none_or_all (x ∷ xs) [] front = absurd (cc front.1)
none_or_all (x ∷ []) (b ∷ bytes) front = let same : (b ∷ bytes) ≡ x = cc front.1 in inr (ap (λ y. y ∷ []) (sym same))
none_or_all (x ∷ y ∷ xs) (b ∷ bytes) front = absurd (cc front.1)

pub ended_joined : (before after : PieceState) (bytes : List ℕ) {old mid new : Link} → AllJoined before after (part bytes) → Carries [] old mid → CarriesFront (part bytes) mid new → Told (λ c. SomeJoined before after (bodies c)) old new
ended_joined before after bytes given first second = told_behind (λ parts. SomeJoined before after parts) first (record { conversation = second.conversation; told = second.told; holds = by_front (none_or_all (bodies second.conversation) bytes second.holds) }) where
  by_front : (bodies second.conversation ≡ []) ⊎ (bodies second.conversation ≡ part bytes) → SomeJoined before after (bodies second.conversation)
  by_front (inl none) = inl none
  by_front (inr all) = inr (subst (AllJoined before after) (sym all) given)

-- ---- pieces that were sent

pub ended_refused : {A E : Type 0} (before after : PieceState) {old mid new : Link} (r : Result A E) (e : E) → IsErrAnd r (λ x. x ≡ e) → Carries [] old mid → Told (λ c. IsPrefixOf (joined (bodies c)) before.left) mid new → Pushes before after old new r
ended_refused before after r e is first second = pushes_refused before after r e is (told_behind (λ parts. IsPrefixOf (joined parts) before.left) first second)

pub none_sent : (before after : PieceState) {old mid new : Link} → Carries [] old mid → Told (λ c. Takes (joined (bodies c)) before after) mid new × IsAtEnd after.left → Told (λ c. IsPrefixOf (joined (bodies c)) before.left) old new
none_sent before after first second = told_behind (λ parts. IsPrefixOf (joined parts) before.left) first (record { conversation = second.0.conversation; told = second.0.told; holds = front_part before (joined (bodies second.0.conversation)) after second.0.holds })

pub ended_pushes : (before after : PieceState) {old mid late new : Link} → Carries [] old mid → Told (λ c. Takes (joined (bodies c)) before after) mid late × IsAtEnd after.left → CarriesFront [] late new → Told (λ c. IsPrefixOf (joined (bodies c)) before.left) old new
ended_pushes before after first second third = told_before (λ parts. IsPrefixOf (joined parts) before.left) (none_sent before after first second) (nothing_in_front third)

pub some_sent : (before after : PieceState) {old mid late new : Link} → Carries [] old mid → Told (λ c. Takes (joined (bodies c)) before after) mid late × IsAtEnd after.left → Carries [] late new → Told (λ c. Takes (joined (bodies c)) before after) old new × IsAtEnd after.left
some_sent before after first second third = (told_before (λ parts. Takes (joined parts) before after) (told_behind (λ parts. Takes (joined parts) before after) first second.0) third, second.1)

-- ---- how they were cut

all_some : (before after : PieceState) (parts : List (List ℕ)) → AllCut before after parts → SomeCut before after parts
all_some before after parts all = record { pieces = all.pieces; held = []; taken = subst (λ xs. TakesPieces xs before after) (sym (append-nil all.pieces)) all.taken; first = []; of_held = ([], refl); cut = all.cut ∙ sym (append-nil (cuts all.pieces)) }

-- nothing was sent
pub none_cut : (before : PieceState) {old new : Link} → CarriesFront [] old new → Told (λ c. SomeCut before before (bodies c)) old new
none_cut before told = let none = nothing_in_front told in record { conversation = none.conversation; told = none.told; holds = record { pieces = []; held = []; taken = takes_none before; first = []; of_held = ([], refl); cut = none.holds } }

pub begun_cut : (before after : PieceState) {old mid new : Link} → Carries [] old mid → Told (λ c. SomeCut before after (bodies c)) mid new → Told (λ c. SomeCut before after (bodies c)) old new
begun_cut before after first second = told_behind (SomeCut before after) first second

pub all_cut : (before after : PieceState) {old mid new : Link} → Carries [] old mid → Told (λ c. AllCut before after (bodies c)) mid new → Told (λ c. SomeCut before after (bodies c)) old new
all_cut before after first second = told_behind (SomeCut before after) first (record { conversation = second.conversation; told = second.told; holds = all_some before after (bodies second.conversation) second.holds })

pub ended_cut : (before after : PieceState) {old mid late new : Link} → Carries [] old mid → Told (λ c. AllCut before after (bodies c)) mid late → CarriesFront [] late new → Told (λ c. SomeCut before after (bodies c)) old new
ended_cut before after first second third = told_before (SomeCut before after) (all_cut before after first second) (nothing_in_front third)

pub whole_cut : (before after : PieceState) {old mid late new : Link} → Carries [] old mid → Told (λ c. AllCut before after (bodies c)) mid late → Carries [] late new → Told (λ c. AllCut before after (bodies c)) old new
whole_cut before after first second third = told_before (AllCut before after) (told_behind (AllCut before after) first second) third

-- ---- the result

pub response_met : (url digest bytes : List ℕ) (size : ℕ) (link : Link) (k : AuthState) → digest ≡ digest_text Sha256 bytes → size ≡ length bytes → Meets is_memory (Done (Ok (response_of url bytes))) link link k k (Ok (record { blob_url = url; blob_digest = digest; size = size }))
response_met url digest bytes size link k digest_is size_is = rw (digest_is, size_is) done

pub none_missing : (given kept : Option Digester) → is_some kept ≡ is_some given → is_some given ≡ true → kept ≡ None → ⊥
none_missing given kept same some none = let is : is_some kept ≡ false = ap is_some none in cc (sym is ∙ same ∙ some)

-- nothing was given
pub took_none : (before after : PieceState) (bytes : List ℕ) → length bytes ≡ 0 → TookAll bytes before after → TookAll [] before after
took_none before after bytes none all = subst (λ xs. TookAll xs before after) (nil_of bytes none) all

pub if_not_sent : {A : Type 0} (limit : ℕ) (size : Option ℕ) (before after : PieceState) (old new : Link) (r : Result A OciDistributionError) → IfErr r (NotSent limit before after old new) → IfErr r (SourceCause limit size before after old new)
if_not_sent limit size before after old new (Ok a) h = tt
if_not_sent limit size before after old new (Err e) h = sent_source limit size before after old new e h

-- by the setting
pub cut_by_one : {A E : Type 0} (b : Bool) (before after : PieceState) (old new : Link) (r : Result A E) → b ≡ true → CutBy true before after old new r → CutBy b before after old new r
cut_by_one b before after old new r is h = subst (λ b. CutBy b before after old new r) (sym is) h

pub cut_in_chunks : {A E : Type 0} (b : Bool) (before after : PieceState) (old new : Link) (r : Result A E) → b ≡ false → Cuts before after old new r → CutBy b before after old new r
cut_in_chunks b before after old new r is h = subst (λ b. CutBy b before after old new r) (sym is) h
