-- How far the questions about blobs came, and how far a copy of documents came.
use Rattle.std.specs.Prelude.{◌≡◌, ◌⊎◌, ℕ, Bool, true, false, List, [], ◌∷◌, ◌++◌, Option, Some, None, Result, Ok, Err}
use Rattle.oci_auth.specs.declared.auth.RegistryAuth.{RegistryAuth}
use Rattle.oci_auth.specs.declared.auth_state.AuthState.{AuthState}
use Rattle.oci_auth.specs.declared.token_type.RegistryOperation.TheVariants.{Push as ForPush}
use Rattle.oci_names.specs.declared.reference.Reference.{Reference}
use Rattle.oci_protocol.specs.Runs.{Meets, Performs}
use Rattle.oci_transport.specs.Link.{Link}
use Rattle.oci_transport.specs.declared.message.Exchange.{Exchange}
use Rattle.engine_pull.specs.Listings.{blob_exists}
use Rattle.engine_rows.specs.Confined.{Within}
use Rattle.engine_rows.specs.Held.{asking, pulling}
use Rattle.engine_terms.specs.Contexts.{Context}
use Rattle.engine_terms.specs.Error.{is_memory}
use Rattle.engine_terms.specs.declared.error.OciDistributionError.{OciDistributionError}
use Rattle.engine_terms.specs.declared.error.OciDistributionError.TheVariants as engine
use Rattle.pull_mirror.specs.DocumentCopies.{CopyOutcome, Absent, PushedAt, first_missing}
use Rattle.pull_mirror.specs.DocumentPushes.{Parts, all_of}
use Rattle.pull_mirror.specs.Pushes.{Push}
use Rattle.pull_mirror.specs.Stopped.{Stopped}
use Rattle.pull_mirror.specs.declared.absences.DocumentsRefusal.{DocumentsRefusal}
use Rattle.pull_mirror.specs.declared.absences.DocumentsRefusal.TheVariants.{Missing, Refused, WantOfMemory}
use Rattle.pull_mirror.specs.declared.refusals.PushRefusal.{PushRefusal}
use Rattle.pull_mirror.specs.declared.refusals.PushRefusal.TheVariants as pushing
use Rattle.pull_mirror.specs.declared.refusals.PushReport.{PushReport}

-- ---- results as the rows have them

-- of the question about one blob
abbrev pub there_of : Result (Unit {0}) DocumentsRefusal → Result Bool OciDistributionError
there_of (Ok u) = Ok true
there_of (Err (Missing digest)) = Ok false
there_of (Err (Refused digest error)) = Err error
there_of (Err WantOfMemory) = Err engine.WantOfMemory

-- of the questions about blobs
abbrev pub missing_of : Result (Unit {0}) DocumentsRefusal → Result (Option (List ℕ)) OciDistributionError
missing_of (Ok u) = Ok None
missing_of (Err (Missing digest)) = Ok (Some digest)
missing_of (Err (Refused digest error)) = Err error
missing_of (Err WantOfMemory) = Err engine.WantOfMemory

-- of the copy
abbrev pub outcome_of : Result PushReport DocumentsRefusal → Result CopyOutcome OciDistributionError
outcome_of (Ok report) = Ok (PushedAt report.manifest_url)
outcome_of (Err (Missing digest)) = Ok (Absent digest)
outcome_of (Err (Refused digest error)) = Err error
outcome_of (Err WantOfMemory) = Err engine.WantOfMemory

-- the refusal of a push
abbrev pub of_push : PushRefusal → DocumentsRefusal
of_push (pushing.Refused digest error) = Refused digest error
of_push pushing.WantOfMemory = WantOfMemory

-- it is about this digest, and its error is not that memory ran out; or memory ran out
abbrev pub IsAbout : List ℕ → DocumentsRefusal → Type 0
IsAbout text (Missing digest) = digest ≡ text
IsAbout text (Refused digest error) = (digest ≡ text) × (is_memory error ≡ false)
IsAbout text WantOfMemory = Unit {0}

-- ---- how far

-- Of the questions about these blobs, those before one were each answered that the target has it; then the one about
-- the blob of this digest had this result. Each ran completely, from the client and the transport as those before it
-- left them.
pub record AskedUpTo (s : Context) (target : Reference) (digests : List (List ℕ)) (old new : Link) (k l : AuthState)
    (digest : List ℕ) (r : Result Bool OciDistributionError) : Type 0 where
  pub there : List (List ℕ)
  pub left : List (List ℕ)
  pub split : digests ≡ there ++ digest ∷ left
  pub mid : Link
  pub between : AuthState
  pub all_there : Performs (first_missing s target there) old mid k between (Ok None)
  pub last : Performs (blob_exists s target digest) mid new between l r

-- a blob is missing, or a question was refused
abbrev pub StoppedAsking : Context → Reference → List (List ℕ) → Link → Link → AuthState → AuthState
    → DocumentsRefusal → Type 0
StoppedAsking s target digests old new k l (Missing digest) = AskedUpTo s target digests old new k l digest (Ok false)
StoppedAsking s target digests old new k l (Refused digest error) =
    AskedUpTo s target digests old new k l digest (Err error) × (is_memory error ≡ false)
StoppedAsking s target digests old new k l WantOfMemory = Unit {0}

-- the target has each blob, and then a push was refused
pub record StoppedPushing (s : Context) (target : Reference) (digests : List (List ℕ)) (pushes : List Push)
    (old new : Link) (k l : AuthState) (digest : List ℕ) (e : OciDistributionError) : Type 0 where
  pub mid : Link
  pub between : AuthState
  pub all_there : Performs (first_missing s target digests) old mid k between (Ok None)
  pub stopped : Stopped s target pushes mid new between l digest e

-- a blob is missing, a question was refused, or a push was
abbrev pub StoppedCopy : Context → Reference → List (List ℕ) → List Push → Link → Link → AuthState → AuthState
    → DocumentsRefusal → Type 0
StoppedCopy s target digests pushes old new k l (Missing digest) =
    AskedUpTo s target digests old new k l digest (Ok false)
StoppedCopy s target digests pushes old new k l (Refused digest error) =
    (AskedUpTo s target digests old new k l digest (Err error)
    ⊎ StoppedPushing s target digests pushes old new k l digest error) × (is_memory error ≡ false)
StoppedCopy s target digests pushes old new k l WantOfMemory = Unit {0}

-- ---- between steps

-- the target has these blobs: whatever the questions after them then do, all of them did
pub record WereThere (s : Context) (target : Reference) (digests : List (List ℕ)) (old mid : Link) (k j : AuthState)
    : Type 0 where
  pub met : (rest : List (List ℕ)) (new : Link) (l : AuthState) (r : Result (Option (List ℕ)) OciDistributionError)
      → Meets is_memory (first_missing s target rest) mid new j l r
      → Meets is_memory (first_missing s target (digests ++ rest)) old new k l r

-- ---- credentials

-- The questions send credentials and tokens as a pull does, and the pushes after them as a push does: only to the
-- target's registry and to the realm that it names.
pub record CopyWithin (k : AuthState) (s : Context) (target : Reference) (a : RegistryAuth) (l : AuthState)
    (c : List Exchange) : Type 0 where
  pub asked : List Exchange
  pub pushed : List Exchange
  pub split : c ≡ asked ++ pushed
  pub between : AuthState
  pub questions : Within (pulling k s target (Some a)) s.settings between asked
  pub pushes : Within (asking between s target ForPush None) s.settings l pushed
