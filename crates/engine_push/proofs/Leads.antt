-- What was done leads from one row to another: whatever the other then does, the first did.
use Rattle.std.proofs.Common.{◌≡◌, ◌≤◌, ◌<◌, ◌+◌, ℕ, zero, suc, List, [], ◌∷◌, ◌++◌, Result, Ok, Err, length, take, drop, min, refl, sym, ap, subst, ◌∙◌, arith, append_assoc, append-nil, length-append}
use Rattle.std.specs.Prelude.{◌^◌}
use Rattle.std.specs.Result.{IsErrAnd}
use Rattle.std.proofs.lemmas.List.{take-append-drop as take-drop}
use Rattle.oci_names.specs.declared.reference.Reference.{Reference}
use Rattle.oci_transport.specs.Link.{Link}
use Rattle.oci_auth.specs.declared.auth_state.AuthState.{AuthState}
use Rattle.oci_protocol.specs.Proto.{◌>>=◌}
use Rattle.oci_protocol.specs.Runs.{Meets}
use Rattle.engine_terms.specs.Contexts.{Context}
use Rattle.engine_terms.specs.Error.{is_memory}
use Rattle.engine_terms.specs.declared.error.OciDistributionError.{OciDistributionError}
use Rattle.engine_terms.specs.declared.error.OciDistributionError.TheVariants as refusal
use Rattle.engine_rows.specs.Rows.{Row}
use Rattle.oci_protocol.proofs.Exits.{refused, and_then, done}
use Rattle.engine_rows.proofs.Exits.{wanting}
use Rattle.push_rows.specs.Uploads.{chunk_size, first_chunks, chunks, chunk_sent, chunks_sent}
use Rattle.push_rows.specs.PieceStates.{part}
use Rattle.push_rows.proofs.Carried.{Carries, CarriesFront, carries_none, carries_more, carries_front, front_behind_more, front_of_more, dropped_fewer}

pub record LeadsTo {A : Type 0} (p q : Row A) (old mid : Link) (k j : AuthState) : Type 0 where
  pub met : (new : Link) (l : AuthState) (r : Result A OciDistributionError) → Meets is_memory q mid new j l r → Meets is_memory p old new k l r

pub leads_start : {A : Type 0} (p : Row A) (link : Link) (k : AuthState) → LeadsTo p p link link k k
leads_start p link k = record { met = λ new l r h. h }

pub leads_next : {A B : Type 0} {p : Row A} (q : Row B) (f : B → Row A) {old mid new : Link} {k j l : AuthState} {b : B} → LeadsTo p (q >>= f) old mid k j → Meets is_memory q mid new j l (Ok b) → LeadsTo p (f b) old new k l
leads_next q f lead met = record { met = λ new l r h. lead.met new l r (and_then f met h) }

-- ---- chunks

take_least : (c : ℕ) (xs : List ℕ) → take (min (length xs) c) xs ≡ take c xs
take_least zero [] = refl
take_least zero (x ∷ xs) = let none : min (length (x ∷ xs)) 0 ≡ 0 = omega arith in ap (λ n. take n (x ∷ xs)) none
take_least (suc c) [] = let none : min (length {A = ℕ} []) (suc c) ≡ 0 = omega arith in ap (λ n. take {A = ℕ} n []) none
take_least (suc c) (x ∷ xs) = let next : min (length (x ∷ xs)) (suc c) ≡ suc (min (length xs) c) = omega arith in ap (λ n. take n (x ∷ xs)) next ∙ ap (λ ys. x ∷ ys) (take_least c xs)

drop_least : (c : ℕ) (xs : List ℕ) → drop (min (length xs) c) xs ≡ drop c xs
drop_least zero [] = refl
drop_least zero (x ∷ xs) = let none : min (length (x ∷ xs)) 0 ≡ 0 = omega arith in ap (λ n. drop n (x ∷ xs)) none
drop_least (suc c) [] = let none : min (length {A = ℕ} []) (suc c) ≡ 0 = omega arith in ap (λ n. drop {A = ℕ} n []) none
drop_least (suc c) (x ∷ xs) = let next : min (length (x ∷ xs)) (suc c) ≡ suc (min (length xs) c) = omega arith in ap (λ n. drop n (x ∷ xs)) next ∙ drop_least c xs

-- the first chunk, and how many may follow
pub record Unrolled (n : ℕ) (left : List ℕ) : Type 0 where
  pub fewer : ℕ
  pub is : first_chunks n left ≡ take chunk_size left ∷ first_chunks fewer (drop chunk_size left)
  pub enough : length (drop chunk_size left) ≤ fewer

pub unrolled : (n : ℕ) (left : List ℕ) → 0 < length left → length left ≤ n → Unrolled n left
unrolled n [] some le = absurd (omega (arith, some))
unrolled zero (x ∷ xs) some le = absurd (omega (arith, le))
unrolled (suc n) (x ∷ xs) some le = record { fewer = n; is = refl; enough = dropped_fewer 4194303 n x xs le }

-- the first chunk is not empty
first_part : (left : List ℕ) → 0 < length left → part (take chunk_size left) ≡ take chunk_size left ∷ []
first_part [] some = absurd (omega (arith, some))
first_part (x ∷ xs) some = refl

none_left : (n : ℕ) → first_chunks n [] ≡ []
none_left zero = refl
none_left (suc n) = refl

-- these chunks of them were sent, and those bytes are left
pub record Chunking (s : Context) (image : Reference) (first : List ℕ) (from : ℕ) (bytes location : List ℕ) (start : ℕ) (left : List ℕ) (old mid : Link) (k j : AuthState) : Type 0 where
  pub times : ℕ
  pub enough : length left ≤ times
  pub leads : LeadsTo (chunks_sent s image first from (chunks bytes)) (chunks_sent s image location start (first_chunks times left)) old mid k j
  pub gone : List (List ℕ)
  pub split : chunks bytes ≡ gone ++ first_chunks times left
  pub carried : Carries gone old mid
  pub fits : start + length left < 2 ^ 64

pub chunking_start : (s : Context) (image : Reference) (location : List ℕ) (from : ℕ) (bytes : List ℕ) (link : Link) (k : AuthState) → from + length bytes < 2 ^ 64 → Chunking s image location from bytes location from bytes link link k k
chunking_start s image location from bytes link k fits = record { times = length bytes; enough = omega arith; leads = leads_start _ link k; gone = []; split = refl; carried = carries_none link; fits = fits }

module _ (s : Context) (image : Reference) (first : List ℕ) (from : ℕ) (bytes location : List ℕ) (start : ℕ) (left : List ℕ) {old mid : Link} {k j : AuthState} (chunking : Chunking s image first from bytes location start left old mid k j) where
  -- all were sent
  pub chunking_met : length left ≡ 0 → Meets is_memory (chunks_sent s image first from (chunks bytes)) old mid k j (Ok location)
  unfolding chunks_sent
  chunking_met none = chunking.leads.met mid j (Ok location) (subst (λ parts. Meets is_memory (chunks_sent s image location start parts) mid mid j j (Ok location)) (sym (by_nil left none)) done) where
    by_nil : (left : List ℕ) → length left ≡ 0 → first_chunks chunking.times left ≡ []
    by_nil [] none = none_left chunking.times
    by_nil (x ∷ xs) none = absurd (omega (arith, none))

  pub chunking_sent : length left ≡ 0 → Carries (chunks bytes) old mid
  chunking_sent none = by_nil left none chunking.split where
    by_nil : (left : List ℕ) → length left ≡ 0 → chunks bytes ≡ chunking.gone ++ first_chunks chunking.times left → Carries (chunks bytes) old mid
    by_nil [] none split = subst (λ all. Carries all old mid) (sym (split ∙ ap (λ rest. chunking.gone ++ rest) (none_left chunking.times) ∙ append-nil chunking.gone)) chunking.carried
    by_nil (x ∷ xs) none split = absurd (omega (arith, none))

  -- memory ran out before the next one
  pub chunking_wanting : (r : Result (List ℕ) OciDistributionError) → IsErrAnd r (λ e. e ≡ refusal.WantOfMemory) → Meets is_memory (chunks_sent s image first from (chunks bytes)) old mid k j r
  chunking_wanting r is = chunking.leads.met mid j r (wanting is)

  pub chunking_front : CarriesFront (chunks bytes) old mid
  chunking_front = subst (λ all. CarriesFront all old mid) (sym chunking.split) (front_of_more (first_chunks chunking.times left) (carries_front chunking.carried))

  -- the next one
  next_leads : (some : 0 < length left) → LeadsTo (chunks_sent s image first from (chunks bytes)) (chunk_sent s image location start (take chunk_size left) >>= λ next. chunks_sent s image next (start + length (take chunk_size left)) (first_chunks (unrolled chunking.times left some chunking.enough).fewer (drop chunk_size left))) old mid k j
  unfolding chunks_sent
  next_leads some = subst (λ parts. LeadsTo (chunks_sent s image first from (chunks bytes)) (chunks_sent s image location start parts) old mid k j) (unrolled chunking.times left some chunking.enough).is chunking.leads

  pub chunking_refused : {new : Link} {l : AuthState} (chunk : List ℕ) (e : OciDistributionError) (r : Result (List ℕ) OciDistributionError) → 0 < length left → chunk ≡ take (min (length left) chunk_size) left → Meets is_memory (chunk_sent s image location start chunk) mid new j l (Err e) → IsErrAnd r (λ x. x ≡ e)
      → Meets is_memory (chunks_sent s image first from (chunks bytes)) old new k l r
  chunking_refused {new} {l} chunk e r some is met same = (next_leads some).met new l r (refused _ (subst (λ part. Meets is_memory (chunk_sent s image location start part) mid new j l (Err e)) (is ∙ take_least chunk_size left) met) same)

  front_split : (some : 0 < length left) (chunk : List ℕ) → chunk ≡ take (min (length left) chunk_size) left → chunks bytes ≡ (chunking.gone ++ part chunk) ++ first_chunks (unrolled chunking.times left some chunking.enough).fewer (drop chunk_size left)
  front_split some chunk is =
      let by = unrolled chunking.times left some chunking.enough in
      let rest = first_chunks by.fewer (drop chunk_size left) in
      chunking.split ∙ ap (λ parts. chunking.gone ++ parts) (by.is ∙ ap (λ parts. parts ++ rest) (sym (first_part left some) ∙ ap part (sym (is ∙ take_least chunk_size left)))) ∙ sym (append_assoc chunking.gone (part chunk) rest)

  pub chunking_part : {new : Link} (chunk : List ℕ) → 0 < length left → chunk ≡ take (min (length left) chunk_size) left → CarriesFront (part chunk) mid new → CarriesFront (chunks bytes) old new
  chunking_part {new} chunk some is sends = subst (λ all. CarriesFront all old new) (sym (front_split some chunk is)) (front_of_more (first_chunks (unrolled chunking.times left some chunking.enough).fewer (drop chunk_size left)) (front_behind_more chunking.carried sends))

  pub chunking_more : {new : Link} {l : AuthState} (chunk rest next : List ℕ) (count : ℕ) → 0 < length left → chunk ≡ take (min (length left) chunk_size) left → rest ≡ drop (min (length left) chunk_size) left → count ≡ start + length chunk → Meets is_memory (chunk_sent s image location start chunk) mid new j l (Ok next) → Carries (part chunk) mid new
      → Chunking s image first from bytes next count rest old new k l
  chunking_more {new} {l} chunk rest next count some is rest_is count_is met sent =
      let chunk_is : chunk ≡ take chunk_size left = is ∙ take_least chunk_size left in
      let left_is : rest ≡ drop chunk_size left = rest_is ∙ drop_least chunk_size left in
      let by = unrolled chunking.times left some chunking.enough in
      let whole : length left ≡ length chunk + length rest = ap length (sym (take-drop chunk_size left)) ∙ length-append (take chunk_size left) (drop chunk_size left) ∙ ap (λ (n : ℕ). n + length (drop chunk_size left)) (ap length (sym chunk_is)) ∙ ap (λ (n : ℕ). length chunk + n) (ap length (sym left_is)) in
      record {
        times = by.fewer;
        enough = subst (λ xs. length xs ≤ by.fewer) (sym left_is) by.enough;
        leads = record { met = λ end m r h. (next_leads some).met end m r (and_then _ (subst (λ part. Meets is_memory (chunk_sent s image location start part) mid new j l (Ok next)) chunk_is met) (subst (λ at. Meets is_memory (chunks_sent s image next at (first_chunks by.fewer (drop chunk_size left))) new end l m r) (count_is ∙ ap (λ part. start + length part) chunk_is) (subst (λ xs. Meets is_memory (chunks_sent s image next count (first_chunks by.fewer xs)) new end l m r) left_is h))) };
        gone = chunking.gone ++ part chunk;
        split = front_split some chunk is ∙ ap (λ xs. (chunking.gone ++ part chunk) ++ first_chunks by.fewer xs) (sym left_is);
        carried = carries_more chunking.carried sent;
        fits = omega (arith, chunking.fits, whole, count_is);
      }
