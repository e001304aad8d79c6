-- A realm's response results in a token of its own, or a refusal; a token that is sent unasked is one too.
use Rattle.std.specs.Prelude.{◌≡◌, ℕ, nat_eq, Bool, true, false, List, Option, Some, None, Ok, Err, if◌then◌else◌}
use Rattle.std.proofs.Common.{◌∙◌, subst, sym}
use Rattle.oci_auth.specs.Auth.{unasked}
use Rattle.oci_auth.specs.Token.{token_of}
use Rattle.oci_auth.specs.declared.auth.RegistryAuth.{RegistryAuth}
use Rattle.oci_auth.specs.declared.token.RegistryToken.{RegistryToken}
use Rattle.oci_auth.specs.declared.token_type.RegistryTokenType.{RegistryTokenType}
use Rattle.oci_auth.specs.declared.token_type.RegistryTokenType.TheVariants.{Bearer, Basic}
use Rattle.oci_auth.proofs.Forms.{unasked_bearer}
use Rattle.oci_transport.specs.Link.{Link}
use Rattle.oci_transport.specs.declared.message.AnswerHead.{AnswerHead}
use Rattle.engine_terms.specs.declared.error.OciDistributionError.TheVariants as refusal
use Rattle.engine_requests.specs.Tokens.{decoded}
use Rattle.engine_rows.specs.Rows.{shown_text}
use Rattle.engine_steps.specs.BodyUnread.{IfNoBearer, LastBodyUnread, BodyUnread}

by_body : (body : List ℕ) (o : Option RegistryToken) (token : Option RegistryTokenType) → decoded body o ≡ Ok token → IfNoBearer ⊥ token
by_body body (Some t) token h = let same : Some (Bearer t) ≡ token = cc h in subst (λ o. IfNoBearer ⊥ o) same tt
by_body body None token h = absurd (cc h)

-- a response with this status and this body
pub realm_bearer : (status : ℕ) (body : List ℕ) (token : Option RegistryTokenType) → (if nat_eq status 200 then decoded body (token_of body) else Err (refusal.AuthenticationFailure body)) ≡ Ok token → IfNoBearer ⊥ token
realm_bearer status body token h = by_status (nat_eq status 200) h where
  by_status : (b : Bool) → (if b then decoded body (token_of body) else Err (refusal.AuthenticationFailure body)) ≡ Ok token → IfNoBearer ⊥ token
  by_status true h = by_body body (token_of body) token h
  by_status false h = absurd (cc h)

pub unasked_given : (P : Type 0) (a : RegistryAuth) (token : RegistryTokenType) → unasked a ≡ Some token → IfNoBearer P (Some token)
unasked_given P a token is = let bearer = unasked_bearer a token is in subst (λ (t : RegistryTokenType). IfNoBearer P (Some t)) (sym bearer.1) tt

pub unless_bearer : {P Q : Type 0} (token : Option RegistryTokenType) → (P → Q) → IfNoBearer P token → IfNoBearer Q token
unless_bearer None f h = f h
unless_bearer (Some (Basic user password)) f h = f h
unless_bearer (Some (Bearer token)) f h = tt

pub whatever_token : {P : Type 0} (token : Option RegistryTokenType) → P → IfNoBearer P token
whatever_token None h = h
whatever_token (Some (Basic user password)) h = h
whatever_token (Some (Bearer token)) h = tt

pub no_text : {P : Type 0} (token : RegistryTokenType) (text : Option (List ℕ)) → text ≡ shown_text token → IfNoBearer P (Some token) → text ≡ None → P
no_text (Basic user password) text is h none = h
no_text (Bearer token) text is h none = absurd (cc (sym is ∙ none))

pub left_untaken : {old mid : Link} (new : Link) (head : AnswerHead) (token : Option RegistryTokenType) → BodyUnread head old mid → IfNoBearer (new ≡ mid) token → IfNoBearer (LastBodyUnread old new) token
left_untaken {old} new head None h same = (head, subst (λ link. BodyUnread head old link) (sym same) h)
left_untaken {old} new head (Some (Basic user password)) h same = (head, subst (λ link. BodyUnread head old link) (sym same) h)
left_untaken new head (Some (Bearer token)) h same = tt
