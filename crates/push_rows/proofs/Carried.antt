-- What the bodies of the requests contain, one step after another.
use Rattle.std.proofs.Common.{◌≡◌, ◌≤◌, ◌<◌, ℕ, zero, suc, List, [], ◌∷◌, ◌++◌, Result, Ok, Err, length, take, drop, refl, sym, ap, subst, ◌∙◌, append_assoc, append-nil, arith}
use Rattle.std.specs.Result.{IsErrAnd}
use Rattle.std.proofs.lemmas.List.{take-append-drop as take-drop}
use Rattle.std.proofs.lemmas.Result.{err_from_is_err_and}
use Rattle.oci_transport.specs.Link.{Link}
use Rattle.oci_transport.specs.Pieces.{joined}
use Rattle.oci_transport.specs.declared.message.Exchange.{Exchange}
use Rattle.oci_protocol.specs.Runs.{Told}
use Rattle.oci_protocol.proofs.Conversations.{Extends-none, Extends-more}
use Rattle.push_rows.specs.Bodies.{bodies, IsPrefix, Sends}
use Rattle.push_rows.specs.PieceStates.{part}
use Rattle.push_rows.specs.Uploads.{chunk_size, first_chunks, chunks}

pub bodies_both : (c d : List Exchange) → bodies (c ++ d) ≡ bodies c ++ bodies d
bodies_both [] d = refl
bodies_both (e ∷ c) d = ap (λ rest. part e.request.body ++ rest) (bodies_both c d) ∙ sym (append_assoc (part e.request.body) (bodies c) (bodies d))

front_none : {A : Type 0} (all : List A) → IsPrefix [] all
front_none all = (all, refl)

front_all : {A : Type 0} (all : List A) → IsPrefix all all
front_all all = ([], sym (append-nil all))

front_behind : {A : Type 0} (first all front : List A) → IsPrefix front all → IsPrefix (first ++ front) (first ++ all)
front_behind first all front h = (h.0, ap (λ rest. first ++ rest) h.1 ∙ sym (append_assoc first front h.0))

front_more : {A : Type 0} (front all rest : List A) → IsPrefix front all → IsPrefix front (all ++ rest)
front_more front all rest h = (h.0 ++ rest, ap (λ xs. xs ++ rest) h.1 ∙ append_assoc front h.0 rest)

-- ---- the bytes of bodies

pub joined_both : (a b : List (List ℕ)) → joined (a ++ b) ≡ joined a ++ joined b
joined_both [] b = refl
joined_both (x ∷ a) b = ap (λ rest. x ++ rest) (joined_both a b) ∙ sym (append_assoc x (joined a) (joined b))

pub joined_part : (bytes : List ℕ) → joined (part bytes) ≡ bytes
joined_part [] = refl
joined_part (b ∷ bytes) = append-nil (b ∷ bytes)

pub joined_one : (pieces : List (List ℕ)) (piece : List ℕ) → joined (pieces ++ piece ∷ []) ≡ joined pieces ++ piece
joined_one pieces piece = joined_both pieces (piece ∷ []) ∙ ap (λ rest. joined pieces ++ rest) (append-nil piece)

pub joined_front : (a b : List (List ℕ)) → IsPrefix a b → IsPrefix (joined a) (joined b)
joined_front a b h = (joined h.0, ap joined h.1 ∙ joined_both a h.0)

pub part_some : (piece : List ℕ) → 0 < length piece → part piece ≡ piece ∷ []
part_some [] some = absurd (omega (arith, some))
part_some (x ∷ xs) some = refl

drop_shorter : (c : ℕ) (xs : List ℕ) → length (drop c xs) ≤ length xs
drop_shorter zero xs = omega arith
drop_shorter (suc c) [] = omega arith
drop_shorter (suc c) (x ∷ xs) = let rest = drop_shorter c xs in omega (arith, rest)

pub dropped_fewer : (m n : ℕ) (x : ℕ) (xs : List ℕ) → length (x ∷ xs) ≤ suc n → length (drop (suc m) (x ∷ xs)) ≤ n
dropped_fewer m n x xs le = let rest = drop_shorter m xs in omega (arith, rest, le)

joined_first : (n : ℕ) (bytes : List ℕ) → length bytes ≤ n → joined (first_chunks n bytes) ≡ bytes
joined_first zero [] le = refl
joined_first zero (x ∷ xs) le = absurd (omega (arith, le))
joined_first (suc n) [] le = refl
joined_first (suc n) (x ∷ xs) le = ap (λ rest. take chunk_size (x ∷ xs) ++ rest) (joined_first n (drop chunk_size (x ∷ xs)) (dropped_fewer 4194303 n x xs le)) ∙ take-drop chunk_size (x ∷ xs)

pub joined_chunks : (bytes : List ℕ) → joined (chunks bytes) ≡ bytes
joined_chunks bytes = joined_first (length bytes) bytes (omega arith)

-- ---- what was exposed

-- the bodies are these
abbrev pub Carries : List (List ℕ) → Link → Link → Type 0
Carries parts old new = Told (λ c. bodies c ≡ parts) old new

-- the bodies are a prefix of them
abbrev pub CarriesFront : List (List ℕ) → Link → Link → Type 0
CarriesFront parts old new = Told (λ c. IsPrefix (bodies c) parts) old new

pub carries_none : (link : Link) → Carries [] link link
carries_none link = record { conversation = []; told = Extends-none link; holds = refl }

pub carries_front : {parts : List (List ℕ)} {old new : Link} → Carries parts old new → CarriesFront parts old new
carries_front {parts} told = record { conversation = told.conversation; told = told.told; holds = subst (λ front. IsPrefix front parts) (sym told.holds) (front_all parts) }

-- the empty list is a prefix of any list
pub none_front : {old new : Link} (parts : List (List ℕ)) → Carries [] old new → CarriesFront parts old new
none_front parts told = record { conversation = told.conversation; told = told.told; holds = subst (λ front. IsPrefix front parts) (sym told.holds) (front_none parts) }

pub carries_more : {first second : List (List ℕ)} {old mid new : Link} → Carries first old mid → Carries second mid new → Carries (first ++ second) old new
carries_more {first} {second} {old} {mid} {new} a b = record {
  conversation = a.conversation ++ b.conversation;
  told = Extends-more old mid new a.conversation b.conversation a.told b.told;
  holds = bodies_both a.conversation b.conversation ∙ ap (λ front. front ++ bodies b.conversation) a.holds ∙ ap (λ rest. first ++ rest) b.holds;
}

pub front_behind_more : {first second : List (List ℕ)} {old mid new : Link} → Carries first old mid → CarriesFront second mid new → CarriesFront (first ++ second) old new
front_behind_more {first} {second} {old} {mid} {new} a b = record {
  conversation = a.conversation ++ b.conversation;
  told = Extends-more old mid new a.conversation b.conversation a.told b.told;
  holds = subst (λ front. IsPrefix front (first ++ second)) (sym (bodies_both a.conversation b.conversation ∙ ap (λ front. front ++ bodies b.conversation) a.holds)) (front_behind first second (bodies b.conversation) b.holds);
}

pub front_of_more : {parts : List (List ℕ)} {old new : Link} (rest : List (List ℕ)) → CarriesFront parts old new → CarriesFront (parts ++ rest) old new
front_of_more {parts} rest told = record { conversation = told.conversation; told = told.told; holds = front_more (bodies told.conversation) parts rest told.holds }

-- after requests without a body
pub sends_behind : {A E : Type 0} (parts : List (List ℕ)) (old mid new : Link) (r : Result A E) → Carries [] old mid → Sends parts mid new r → Sends parts old new r
sends_behind parts old mid new (Ok a) first second = carries_more first second
sends_behind parts old mid new (Err e) first second = front_behind_more first second

-- a call that was refused after them
pub sends_nothing : {A E : Type 0} {old new : Link} (parts : List (List ℕ)) (r : Result A E) (e : E) → IsErrAnd r (λ x. x ≡ e) → Carries [] old new → Sends parts old new r
sends_nothing parts r e is told = let at = err_from_is_err_and r is in rw at.1 (none_front parts told)

-- a call that was refused as a step of it was
pub sends_as : {A E : Type 0} (parts : List (List ℕ)) {old new : Link} (r : Result A E) (e : E) → IsErrAnd r (λ x. x ≡ e) → CarriesFront parts old new → Sends parts old new r
sends_as parts r e is told = let at = err_from_is_err_and r is in rw at.1 told
