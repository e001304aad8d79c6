-- Responses whose body is not taken.
use Rattle.std.specs.Prelude.{◌≡◌, List, [], ◌∷◌, ◌++◌, ℕ, Option, Some, None}
use Rattle.oci_auth.specs.declared.token_type.RegistryTokenType.{RegistryTokenType}
use Rattle.oci_auth.specs.declared.token_type.RegistryTokenType.TheVariants.{Bearer, Basic}
use Rattle.oci_transport.specs.Link.{Link, answer_of}
use Rattle.oci_transport.specs.declared.message.AnswerHead.{AnswerHead}
use Rattle.oci_transport.specs.declared.message.Exchange.{Exchange}
use Rattle.engine_rows.specs.declared.named.NamedAnswer.{NamedAnswer}
use Rattle.engine_rows.specs.declared.named.NamedAnswer.TheVariants.{ByHeader, Unnamed}

-- if exchanges are exposed, the last one has a response with this head, and its whole body is left
pub record BodyUnread (head : AnswerHead) (old new : Link) : Type 0 where
  pub body : List ℕ
  pub answered : (before : List Exchange) → old.told ≡ Some before
      → (c : List Exchange) × (last : Exchange) × (new.told ≡ Some (c ++ last ∷ []))
      × (last.answer ≡ Some (answer_of head body))
  pub rest : (before : List Exchange) → old.told ≡ Some before → new.rest ≡ Some body

-- nothing is taken of the last response
abbrev pub LastBodyUnread : Link → Link → Type 0
LastBodyUnread old new = (head : AnswerHead) × BodyUnread head old new

-- nothing is taken of a response whose header names no digest
abbrev pub BodyUnreadUnnamed : NamedAnswer → Link → Link → Type 0
BodyUnreadUnnamed (ByHeader digest got) old new = Unit {0}
BodyUnreadUnnamed Unnamed old new = LastBodyUnread old new

-- P holds, unless the token is a realm's
abbrev pub IfNoBearer : Type 0 → Option RegistryTokenType → Type 0
IfNoBearer P None = P
IfNoBearer P (Some (Basic user password)) = P
IfNoBearer P (Some (Bearer token)) = Unit {0}
