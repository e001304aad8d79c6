-- The pieces of a stream, joined.
use Rattle.std.proofs.Common.{◌≡◌, ℕ, List, [], ◌∷◌, ◌++◌, Some, None, Result, Ok, refl, sym, ap, subst, ◌∙◌, append_assoc, append-nil}
use Rattle.std.specs.List.{concat}
use Rattle.oci_transport.specs.Link.{Link}
use Rattle.engine_terms.specs.declared.error.OciDistributionError.{OciDistributionError}
use Rattle.engine_streams.specs.Streams.{compared, opening_of, IsOpen, Next}
use Rattle.engine_streams.specs.Joined.{GivesPieces, IsPrefix, IsAll, PiecesArePrefix, PiecesAreWhole}
use Rattle.engine_streams.specs.declared.head.Opening.{Opening}
use Rattle.engine_streams.specs.declared.stream.SizedStream.{SizedStream}

two_fronts : (first second left : List ℕ) {rest between : List ℕ} → rest ≡ first ++ between → between ≡ second ++ left → rest ≡ (first ++ second) ++ left
two_fronts first second left a b = a ∙ ap (λ xs. first ++ xs) b ∙ sym (append_assoc first second left)

is_front : (limit : ℕ) (gave : List ℕ) (pieces : List (List ℕ)) (s t : SizedStream) (old new : Link) → GivesPieces limit gave pieces s t old new → IsPrefix (concat pieces) old new
is_front limit gave [] s t old new g rest is = (rest, refl, subst (λ (link : Link). link.rest ≡ Some rest) g.1 is)
is_front limit gave (piece ∷ pieces) s t old new (between, link, next, stays, more) rest is =
    let first = next.0.1.front rest is in
    let others = is_front limit (gave ++ piece) pieces between t link new more first.0 first.2 in
    (others.0, two_fronts piece (concat pieces) others.0 first.1 others.1, others.2)

is_open : (limit : ℕ) (gave : List ℕ) (pieces : List (List ℕ)) (s t : SizedStream) (old new : Link) → IsOpen limit gave s → GivesPieces limit gave pieces s t old new → IsOpen limit (gave ++ concat pieces) t
is_open limit gave [] s t old new begun g = subst (λ (xs : List ℕ). IsOpen limit xs t) (sym (append-nil gave)) (subst (λ (s : SizedStream). IsOpen limit gave s) g.0 begun)
is_open limit gave (piece ∷ pieces) s t old new begun (between, link, next, stays, more) =
    subst (λ (xs : List ℕ). IsOpen limit xs t) (append_assoc gave piece (concat pieces)) (is_open limit (gave ++ piece) pieces between t link new next.1 more)

pub pieces_are_front : PiecesArePrefix
pieces_are_front limit gave pieces s t old new begun g = (is_front limit gave pieces s t old new g, is_open limit gave pieces s t old new begun g)

opening_stays : (limit : ℕ) (gave : List ℕ) (pieces : List (List ℕ)) (s t : SizedStream) (old new : Link) → GivesPieces limit gave pieces s t old new → opening_of t ≡ opening_of s
opening_stays limit gave [] s t old new g = ap opening_of (sym g.0)
opening_stays limit gave (piece ∷ pieces) s t old new (between, link, next, stays, more) = opening_stays limit (gave ++ piece) pieces between t link new more ∙ stays

pub pieces_are_whole : PiecesAreWhole
pieces_are_whole limit gave pieces s t u old new end g next same = (
  λ rest is.
      let front = is_front limit gave pieces s t old new g rest is in
      let nothing = next.0.front front.0 front.2 in
      sym (front.1 ∙ ap (λ xs. concat pieces ++ xs) (nothing.3 refl) ∙ append-nil (concat pieces)),
  ap (λ (o : Opening). compared o.digests (gave ++ concat pieces)) (sym (same ∙ opening_stays limit gave pieces s t old new g)) ∙ next.1,
)
