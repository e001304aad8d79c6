-- A frame from its parts.
use Rattle.std.proofs.Common.{◌≡◌, ℕ, ◌≤◌, ◌<◌, List, [], ◌∷◌, ◌++◌, length, Option, Some, refl, sym, ap, ◌∙◌, subst, append_assoc, append-nil, arith}
use Rattle.std.specs.Prelude.{Result, Ok, Err}
use Rattle.std.specs.Result.{IsErr, IsErrAnd}
use Rattle.serde_json.specs.Data.{Data}
use Rattle.json_values.specs.Counts.{Increased, Unchanged}
use Rattle.json_tables.specs.Reading.{◌>>=◌}
use Rattle.byte_streams.specs.Source.{SourceState, Takes}
use Rattle.live_link.specs.Frame.{head_of, size_of}
use Rattle.live_link.specs.Parts.{IsTakenLine, ReadsLine, ReadsHead, ShortRead, ReadsBytes, IsNone, TakesUpTo}
use Rattle.live_link.specs.Reading.{size_at, lined, IsLong, IsCut, IsNoHead, Stops, ReadsFrame}
use Rattle.live_link.specs.declared.frame.Frame.{Frame}
use Rattle.live_link.specs.declared.reading.FrameError.{FrameError}
use Rattle.live_link.specs.declared.reading.FrameError.TheVariants.{SourceFault, Ended, TooLong, NoFrame, WantOfMemory}
use Rattle.live_link.proofs.TakenBytes.{BytesSoFar, then_takes}

pub error_is : {X : Type 0} (r : Result X FrameError) (e : FrameError) → IsErr r → IsErrAnd r (λ x. x ≡ e) → r ≡ Err e
error_is (Ok x) e err is = absurd (cc err)
error_is (Err x) e err is = ap (λ y. Err y) is

-- the line was not read
pub line_stops : (most : ℕ) (r : Result Frame FrameError) (l : Result (List ℕ) FrameError) (e : FrameError) (a b : SourceState)
    → r ≡ Err e → l ≡ Err e → ReadsLine most l a b → ReadsFrame most r a b
line_stops most r l e a b is was reads =
    subst (λ x. ReadsFrame most x a b) (sym is) (subst (λ x. ReadsLine most x a b) was reads)

-- the line is not an object with a size
head_cause : (most : ℕ) (line : List ℕ) (e : FrameError) (a b : SourceState) → IsTakenLine line a b → ReadsHead (Err e) line → Stops most e (lined line []) a b
head_cause most line SourceFault a b taken none = absurd none
head_cause most line Ended a b taken none = absurd none
head_cause most line TooLong a b taken none = absurd none
head_cause most line NoFrame a b taken none = (IsNoHead.no_head line refl taken.inside none, taken.count)
head_cause most line WantOfMemory a b taken none = taken.count

pub head_stops : (most : ℕ) (line : List ℕ) (r : Result Frame FrameError) (h : Result (Data × ℕ) FrameError) (e : FrameError) (a b : SourceState)
    → r ≡ Err e → h ≡ Err e → IsTakenLine line a b → ReadsHead h line → ReadsFrame most r a b
head_stops most line r h e a b is was taken reads =
    subst (λ x. ReadsFrame most x a b) (sym is) (lined line [], taken.taken, head_cause most line e a b taken (subst (λ x. ReadsHead x line) was reads))

said_size : (line : List ℕ) (head : Data) (n : ℕ) → head_of line ≡ Some head → size_of head ≡ Some n → size_at line ≡ Some n
said_size line head n is_head is_size = ap (λ (o : Option Data). o >>= size_of) is_head ∙ is_size

-- its size is more than the limit
pub size_stops : (most : ℕ) (line : List ℕ) (head : Data) (n : ℕ) (a b : SourceState)
    → IsTakenLine line a b → head_of line ≡ Some head → size_of head ≡ Some n → most < n → ReadsFrame most (Err TooLong) a b
size_stops most line head n a b taken is_head is_size over =
    (lined line [], taken.taken, (IsLong.a_size line n refl (said_size line head n is_head is_size) over, taken.count))

line_and : (line part : List ℕ) → lined line [] ++ part ≡ lined line part
line_and line part = append_assoc line (10 ∷ []) part

-- the bytes after the line were not read
part_cause : (most n : ℕ) (line part : List ℕ) (head : Data) (e : FrameError) (a b c : SourceState)
    → IsTakenLine line a b → head_of line ≡ Some head → size_of head ≡ Some n → ShortRead n e part b c → Stops most e (lined line part) a c
part_cause most n line part head SourceFault a b c taken is_head is_size short = subst (λ f. Increased f c.faults) taken.count short
part_cause most n line part head Ended a b c taken is_head is_size short =
    (short.0, IsCut.in_bytes line part n refl (said_size line head n is_head is_size) short.1, short.2 ∙ taken.count)
part_cause most n line part head TooLong a b c taken is_head is_size short = absurd short
part_cause most n line part head NoFrame a b c taken is_head is_size short = absurd short
part_cause most n line part head WantOfMemory a b c taken is_head is_size short = short ∙ taken.count

pub bytes_stop : (most n : ℕ) (line : List ℕ) (head : Data) (r : Result Frame FrameError) (p : Result (List ℕ) FrameError) (e : FrameError) (a b c : SourceState)
    → r ≡ Err e → p ≡ Err e → IsTakenLine line a b → head_of line ≡ Some head → size_of head ≡ Some n → ReadsBytes n p b c → ReadsFrame most r a c
bytes_stop most n line head r p e a b c is was taken is_head is_size reads =
    let got : ReadsBytes n (Err e) b c = subst (λ x. ReadsBytes n x b c) was reads in
    subst (λ x. ReadsFrame most x a c) (sym is)
    (lined line got.0, subst (λ t. Takes t a c) (line_and line got.0) (then_takes a b c (lined line []) got.0 taken.taken got.1), part_cause most n line got.0 head e a b c taken is_head is_size got.2)

-- the whole frame was read
pub frame_comes : (most n : ℕ) (line bytes : List ℕ) (head : Data) (a b c : SourceState)
    → IsTakenLine line a b → head_of line ≡ Some head → size_of head ≡ Some n → n ≤ most
    → Takes bytes b c → length bytes ≡ n → Unchanged b.faults c.faults → ReadsFrame most (Ok (record { head = head; bytes = bytes })) a c
frame_comes most n line bytes head a b c taken is_head is_size few got counted stays = (
  lined line bytes,
  subst (λ t. Takes t a c) (line_and line bytes) (then_takes a b c (lined line []) bytes taken.taken got),
  record {
    line = line;
    split = refl;
    inside = taken.inside;
    short = taken.short;
    head = is_head;
    size = is_size ∙ ap (λ k. Some k) (sym counted);
    few = omega (arith, few, counted);
  },
  stays ∙ taken.count,
)

-- which further bytes were taken, after these
none_cause : (count : ℕ) (bytes part : List ℕ) (e : FrameError) (a b c : SourceState) → b.faults ≡ a.faults → length bytes < count → IsNone e part b c → ShortRead count e (bytes ++ part) a c
none_cause count bytes part SourceFault a b c same few none = subst (λ f. Increased f c.faults) same none
none_cause count bytes part Ended a b c same few none =
    (none.0, subst (λ p. length (bytes ++ p) < count) (sym none.1) (subst (λ p. length p < count) (sym (append-nil bytes)) few), none.2 ∙ same)
none_cause count bytes part TooLong a b c same few none = absurd none
none_cause count bytes part NoFrame a b c same few none = absurd none
none_cause count bytes part WantOfMemory a b c same few none = none ∙ same

-- no further byte was read
pub more_stops : (count most : ℕ) (bytes : List ℕ) (r p : Result (List ℕ) FrameError) (e : FrameError) (a b c : SourceState)
    → r ≡ Err e → p ≡ Err e → BytesSoFar bytes a b → length bytes < count → TakesUpTo most p b c → ReadsBytes count r a c
more_stops count most bytes r p e a b c is was so_far few takes =
    let got : TakesUpTo most (Err e) b c = subst (λ x. TakesUpTo most x b c) was takes in
    subst (λ x. ReadsBytes count x a c) (sym is)
    (bytes ++ got.0, then_takes a b c bytes got.0 so_far.taken got.1, none_cause count bytes got.0 e a b c so_far.count few got.2)

-- memory ran out for them
pub more_want : (count most : ℕ) (bytes piece : List ℕ) (r : Result (List ℕ) FrameError) (a b c : SourceState) → IsErr r → IsErrAnd r (λ e. e ≡ WantOfMemory)
    → BytesSoFar bytes a b → TakesUpTo most (Ok piece) b c → ReadsBytes count r a c
more_want count most bytes piece (Ok all) a b c err is so_far got = absurd (cc err)
more_want count most bytes piece (Err e) a b c err is so_far got =
    rw is (bytes ++ piece, then_takes a b c bytes piece so_far.taken got.0, got.3 ∙ so_far.count)
