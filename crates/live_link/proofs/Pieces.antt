-- The pieces of a body: one frame after another.
use Rattle.std.proofs.Common.{◌≡◌, ℕ, zero, suc, ◌≤◌, ◌<◌, Bool, true, false, ◌&&◌, List, [], ◌∷◌, ◌++◌, Option, Some, None, length, take, drop, nat_le, if◌then◌else◌, refl, sym, ap, ap₂, subst, ◌∙◌, append_assoc, length-append, arith}
use Rattle.std.specs.Str.{bytes_eq}
use Rattle.std.specs.Prelude.{codes}
use Rattle.std.proofs.lemmas.Bool.Decides.{nat_tests}
use Rattle.serde_json.specs.Data.{Data}
use Rattle.json_tables.specs.Reading.{◌>>=◌}
use Rattle.oci_transport.specs.declared.message.AnswerHead.{AnswerHead}
use Rattle.live_link.specs.Frame.{IsFrame, is_line, is_inside, most_bytes, head_of, size_of, kind_of}
use Rattle.live_link.specs.declared.frame.Frame.{Frame}
use Rattle.live_link.specs.Heads.{answer_head_of}
use Rattle.live_link.specs.Replies.{reply_of, reply_by, plain_reply, answer_reply}
use Rattle.live_link.specs.Bodies.{with_first, line_in, sized_in, headed_in, frame_in, piece_by, piece_in, and_those, pieces_in, body_in}
use Rattle.live_link.specs.declared.replies.Reply.{Reply}
use Rattle.live_link.specs.declared.replies.Reply.TheVariants.{Answer, Piece, End, Failed, Other}

-- ---- a frame before other bytes

first_true : (a b : Bool) → (a && b) ≡ true → a ≡ true
first_true true b is = refl
first_true false b is = absurd (cc is)

second_true : (a b : Bool) → (a && b) ≡ true → b ≡ true
second_true true b is = is
second_true false b is = absurd (cc is)

line_first : (line rest : List ℕ) → is_line line ≡ true → line_in (line ++ 10 ∷ rest) ≡ Some (line, rest)
line_first [] rest inside = refl
line_first (b ∷ line) rest inside =
    let here : is_inside b ≡ true = first_true (is_inside b) (is_line line) inside in
    let later : is_line line ≡ true = second_true (is_inside b) (is_line line) inside in
    ap (λ t. if t then with_first b (line_in (line ++ 10 ∷ rest)) else Some ([], line ++ 10 ∷ rest)) here
    ∙ ap (with_first b) (line_first line rest later)

take_first : (bytes rest : List ℕ) → take (length bytes) (bytes ++ rest) ≡ bytes
take_first [] rest = refl
take_first (b ∷ bytes) rest = ap (λ xs. b ∷ xs) (take_first bytes rest)

drop_first : (bytes rest : List ℕ) → drop (length bytes) (bytes ++ rest) ≡ rest
drop_first [] rest = refl
drop_first (b ∷ bytes) rest = drop_first bytes rest

le_test : (n k : ℕ) → n ≤ k → nat_le n k ≡ true
le_test n k h = grind (arith, nat_tests)

both_true : (a b : Bool) → a ≡ true → b ≡ true → (a && b) ≡ true
both_true true b is also = also
both_true false b is also = absurd (cc is)

sized_first : (head : Data) (bytes rest : List ℕ) → length bytes ≤ most_bytes → sized_in head (bytes ++ rest) (length bytes) ≡ Some (record { head = head; bytes = bytes }, rest)
sized_first head bytes rest few =
    let fits : length bytes ≤ length (bytes ++ rest) = omega (arith, length-append bytes rest) in
    ap (λ (t : Bool). if t then Some (record { head = head; bytes = take (length bytes) (bytes ++ rest) }, drop (length bytes) (bytes ++ rest)) else None) (both_true _ _ (le_test (length bytes) most_bytes few) (le_test (length bytes) (length (bytes ++ rest)) fits))
    ∙ ap₂ (λ (b r : List ℕ). Some (record { head = head; bytes = b }, r)) (take_first bytes rest) (drop_first bytes rest)

headed_first : (line rest : List ℕ) (frame : Frame) → length line ≤ most_bytes → head_of line ≡ Some frame.head → size_of frame.head ≡ Some (length frame.bytes) → length frame.bytes ≤ most_bytes
    → headed_in (line, frame.bytes ++ rest) ≡ Some (frame, rest)
headed_first line rest frame short is_head is_size few =
    ap (λ (t : Bool). if t then (head_of line >>= λ head. size_of head >>= sized_in head (frame.bytes ++ rest)) else None) (le_test (length line) most_bytes short)
    ∙ ap (λ (o : Option Data). o >>= λ head. size_of head >>= sized_in head (frame.bytes ++ rest)) is_head
    ∙ ap (λ (o : Option ℕ). o >>= sized_in frame.head (frame.bytes ++ rest)) is_size
    ∙ sized_first frame.head frame.bytes rest few

pub frame_first : (frame : Frame) (text rest : List ℕ) → IsFrame most_bytes frame text → frame_in (text ++ rest) ≡ Some (frame, rest)
unfolding frame_in
frame_first frame text rest is =
    let whole : text ++ rest ≡ is.line ++ 10 ∷ (frame.bytes ++ rest) = ap (λ t. t ++ rest) is.split ∙ append_assoc is.line (10 ∷ frame.bytes) rest in
    ap (λ t. line_in t >>= headed_in) whole
    ∙ ap (λ o. o >>= headed_in) (line_first is.line (frame.bytes ++ rest) is.inside)
    ∙ headed_first is.line rest frame is.short is.head is.size is.few

-- ---- each frame has at least one byte

abbrev second_of : {X : Type 0} → Option (X × List ℕ) → List ℕ
second_of None = []
second_of (Some q) = q.1

line_step : (b : ℕ) (bytes : List ℕ) (o : Option (List ℕ × List ℕ)) → ((q : List ℕ × List ℕ) → o ≡ Some q → length q.1 < length bytes)
    → (t : Bool) (parts : List ℕ × List ℕ) → (if t then with_first b o else Some ([], bytes)) ≡ Some parts → length parts.1 < length (b ∷ bytes)
line_step b bytes None less true parts is = absurd (cc is)
line_step b bytes (Some q) less true parts is =
    let same : q.1 ≡ parts.1 = ap second_of is in
    let fewer = less q refl in
    omega (arith, fewer, ap length same)
line_step b bytes o less false parts is = let same : bytes ≡ parts.1 = ap second_of is in omega (arith, ap length same)

line_less : (bytes : List ℕ) (parts : List ℕ × List ℕ) → line_in bytes ≡ Some parts → length parts.1 < length bytes
line_less [] parts is = absurd (cc is)
line_less (b ∷ bytes) parts is = line_step b bytes (line_in bytes) (line_less bytes) (is_inside b) parts is

drop_less : (n : ℕ) (xs : List ℕ) → length (drop n xs) ≤ length xs
drop_less zero xs = omega arith
drop_less (suc n) [] = omega arith
drop_less (suc n) (x ∷ xs) = let less = drop_less n xs in omega (arith, less)

sized_less : (t : Bool) (head : Data) (rest : List ℕ) (n : ℕ) (found : Frame × List ℕ)
    → (if t then Some (record { head = head; bytes = take n rest }, drop n rest) else None) ≡ Some found → length found.1 ≤ length rest
sized_less true head rest n found is = let same : drop n rest ≡ found.1 = ap second_of is in let less = drop_less n rest in omega (arith, less, ap length same)
sized_less false head rest n found is = absurd (cc is)

by_size : (o : Option ℕ) (head : Data) (rest : List ℕ) (found : Frame × List ℕ) → (o >>= sized_in head rest) ≡ Some found → length found.1 ≤ length rest
by_size None head rest found is = absurd (cc is)
by_size (Some n) head rest found is = sized_less (nat_le n most_bytes && nat_le n (length rest)) head rest n found is

by_head : (o : Option Data) (rest : List ℕ) (found : Frame × List ℕ) → (o >>= λ head. size_of head >>= sized_in head rest) ≡ Some found → length found.1 ≤ length rest
by_head None rest found is = absurd (cc is)
by_head (Some head) rest found is = by_size (size_of head) head rest found is

headed_less : (t : Bool) (line rest : List ℕ) (found : Frame × List ℕ)
    → (if t then (head_of line >>= λ head. size_of head >>= sized_in head rest) else None) ≡ Some found → length found.1 ≤ length rest
headed_less true line rest found is = by_head (head_of line) rest found is
headed_less false line rest found is = absurd (cc is)

framed_less : (bytes : List ℕ) (o : Option (List ℕ × List ℕ)) → ((parts : List ℕ × List ℕ) → o ≡ Some parts → length parts.1 < length bytes)
    → (found : Frame × List ℕ) → (o >>= headed_in) ≡ Some found → length found.1 < length bytes
framed_less bytes None less found is = absurd (cc is)
framed_less bytes (Some parts) less found is =
    let fewer = less parts refl in
    let more = headed_less (nat_le (length parts.0) most_bytes) parts.0 parts.1 found is in
    omega (arith, fewer, more)

frame_less : (bytes : List ℕ) (found : Frame × List ℕ) → frame_in bytes ≡ Some found → length found.1 < length bytes
unfolding frame_in
frame_less bytes found is = framed_less bytes (line_in bytes) (line_less bytes) found is

piece_rest : (reply : Reply) (rest : List ℕ) (found : List ℕ × List ℕ) → piece_by reply rest ≡ Some found → found.1 ≡ rest
piece_rest (Piece bytes) rest found is = sym (ap second_of is)
piece_rest (Answer head) rest found is = absurd (cc is)
piece_rest End rest found is = absurd (cc is)
piece_rest Failed rest found is = absurd (cc is)
piece_rest Other rest found is = absurd (cc is)

pieced_less : (bytes : List ℕ) (o : Option (Frame × List ℕ)) → ((f : Frame × List ℕ) → o ≡ Some f → length f.1 < length bytes)
    → (found : List ℕ × List ℕ) → (o >>= λ f. piece_by (reply_of f.0) f.1) ≡ Some found → length found.1 < length bytes
pieced_less bytes None less found is = absurd (cc is)
pieced_less bytes (Some f) less found is =
    let fewer = less f refl in
    let same = piece_rest (reply_of f.0) f.1 found is in
    omega (arith, fewer, ap length same)

piece_less : (bytes : List ℕ) (found : List ℕ × List ℕ) → piece_in bytes ≡ Some found → length found.1 < length bytes
piece_less bytes found is = pieced_less bytes (frame_in bytes) (frame_less bytes) found is

-- ---- any number of steps that is large enough gives the same pieces

no_piece : piece_in [] ≡ None
unfolding frame_in
no_piece = refl

no_length : (xs : List ℕ) → length xs ≤ 0 → xs ≡ []
no_length [] h = refl
no_length (x ∷ xs) h = absurd (omega (arith, h))

steps_by : (m n : ℕ) (xs : List ℕ) (o : Option (List ℕ × List ℕ)) → ((found : List ℕ × List ℕ) → o ≡ Some found → length found.1 < length xs)
    → ((ys : List ℕ) → length ys ≤ m → length ys ≤ n → pieces_in m ys ≡ pieces_in n ys)
    → length xs ≤ suc m → length xs ≤ suc n → and_those (pieces_in m) o ≡ and_those (pieces_in n) o
steps_by m n xs None less same few_m few_n = refl
steps_by m n xs (Some found) less same few_m few_n =
    let fewer = less found refl in
    ap (λ ys. found.0 ++ ys) (same found.1 (omega (arith, fewer, few_m)) (omega (arith, fewer, few_n)))

none_of : (n : ℕ) → pieces_in n [] ≡ []
none_of zero = refl
none_of (suc n) = ap (and_those (pieces_in n)) no_piece

pub steps : (m n : ℕ) (xs : List ℕ) → length xs ≤ m → length xs ≤ n → pieces_in m xs ≡ pieces_in n xs
steps zero n xs few_m few_n = let none = no_length xs few_m in subst (λ ys. [] ≡ pieces_in n ys) (sym none) (sym (none_of n))
steps (suc m) zero xs few_m few_n = let none = no_length xs few_n in subst (λ ys. pieces_in (suc m) ys ≡ []) (sym none) (none_of (suc m))
steps (suc m) (suc n) xs few_m few_n = steps_by m n xs (piece_in xs) (piece_less xs) (steps m n) few_m few_n

-- ---- a piece, or another frame, at the beginning

and_first : (m : ℕ) (xs : List ℕ) (o : Option (List ℕ × List ℕ)) → length xs ≡ suc m → piece_in xs ≡ o → body_in xs ≡ and_those (pieces_in m) o
unfolding body_in
and_first m xs o counted is = ap (λ n. pieces_in n xs) counted ∙ ap (and_those (pieces_in m)) is

pub a_piece_first : (m : ℕ) (xs rest p : List ℕ) → length xs ≡ suc m → length rest ≤ m → piece_in xs ≡ Some (p, rest) → body_in xs ≡ p ++ body_in rest
unfolding body_in
a_piece_first m xs rest p counted few is = and_first m xs (Some (p, rest)) counted is ∙ ap (λ ys. p ++ ys) (steps m (length rest) rest few (omega arith))

some_bytes : (line bytes text : List ℕ) → text ≡ line ++ 10 ∷ bytes → 0 < length text
some_bytes line bytes text is = omega (arith, ap length is, length-append line (10 ∷ bytes))

before : (n : ℕ) → 0 < n → (m : ℕ) × (n ≡ suc m)
before zero some = absurd (omega (arith, some))
before (suc m) some = (m, refl)

-- the pieces begin with this one
pub body_piece : (frame : Frame) (text rest p : List ℕ) → IsFrame most_bytes frame text → reply_of frame ≡ Piece p → body_in (text ++ rest) ≡ p ++ body_in rest
body_piece frame text rest p is says =
    let some = some_bytes is.line frame.bytes text is.split in
    let long = length-append text rest in
    let m = before (length (text ++ rest)) (omega (arith, some, long)) in
    let counted = m.1 in
    a_piece_first m.0 (text ++ rest) rest p counted (omega (arith, some, long, counted))
    (ap (λ o. o >>= λ f. piece_by (reply_of f.0) f.1) (frame_first frame text rest is) ∙ ap (λ r. piece_by r rest) says)

-- the end frame has no piece before it
pub body_end : (frame : Frame) (text rest : List ℕ) → IsFrame most_bytes frame text → reply_of frame ≡ End → body_in (text ++ rest) ≡ []
body_end frame text rest is says =
    let some = some_bytes is.line frame.bytes text is.split in
    let long = length-append text rest in
    let m = before (length (text ++ rest)) (omega (arith, some, long)) in
    and_first m.0 (text ++ rest) None m.1
    (ap (λ o. o >>= λ f. piece_by (reply_of f.0) f.1) (frame_first frame text rest is) ∙ ap (λ r. piece_by r rest) says)

-- ---- a piece is not empty

abbrev is_piece : Reply → Bool
is_piece (Answer head) = false
is_piece (Piece bytes) = true
is_piece End = false
is_piece Failed = false
is_piece Other = false

no_piece_head : (o : Option AnswerHead) → is_piece (answer_reply o) ≡ false
no_piece_head None = refl
no_piece_head (Some head) = refl

no_piece_plain : (a b c : Bool) (o : Option AnswerHead) → is_piece (if a then answer_reply o else (if b then End else (if c then Failed else Other))) ≡ false
no_piece_plain true b c o = no_piece_head o
no_piece_plain false true c o = refl
no_piece_plain false false true o = refl
no_piece_plain false false false o = refl

abbrev piece_of : Reply → List ℕ
piece_of (Answer head) = []
piece_of (Piece bytes) = bytes
piece_of End = []
piece_of Failed = []
piece_of Other = []

some_piece : (t : Bool) (b : ℕ) (bytes p : List ℕ) → (if t then Piece (b ∷ bytes) else Other) ≡ Piece p → p ≡ [] → ⊥
some_piece true b bytes p is none = let same : b ∷ bytes ≡ p = ap piece_of is in cc (same, none)
some_piece false b bytes p is none = cc (is, none)

some_reply : (kind : Option (List ℕ)) (head : Data) (bytes p : List ℕ) → reply_by kind head bytes ≡ Piece p → p ≡ [] → ⊥
some_reply None head bytes p is none = cc is
some_reply (Some kind) head [] p is none =
    let never = no_piece_plain (bytes_eq kind (codes "answer")) (bytes_eq kind (codes "end")) (bytes_eq kind (codes "failed")) (answer_head_of head) in
    let is_one : is_piece (plain_reply kind head) ≡ true = ap is_piece is in
    cc (never, is_one)
some_reply (Some kind) head (b ∷ bytes) p is none = some_piece (bytes_eq kind (codes "piece")) b bytes p is none

pub not_empty : (frame : Frame) (p : List ℕ) → reply_of frame ≡ Piece p → p ≡ [] → ⊥
unfolding reply_of
not_empty frame p is none = some_reply (kind_of frame.head) frame.head frame.bytes p is none
