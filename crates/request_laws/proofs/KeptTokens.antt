-- The client state during a call: credentials and tokens that the call may send.
use Rattle.std.proofs.Common.{◌≡◌, ◌⊎◌, inl, inr, ℕ, Bool, true, false, cond, List, [], ◌∷◌, ◌++◌, Option, Some, None, true≢false, refl, sym, ap, subst, ◌∙◌, append_assoc}
use Rattle.std.specs.Prelude.{is_some, if◌then◌else◌}
use Rattle.std.specs.FinMap as map
use Rattle.std.specs.FinMap.{FinMap, get-insert}
use Rattle.std.specs.Ordering.{eq_by_cmp}
use Rattle.std.specs.Cmp.Lexicographic.{nat_list_cmp_total, texts_ties, same_text}
use Rattle.json_values.specs.Places.{by_bytes}
use Rattle.oci_transport.specs.declared.message.Exchange.{Exchange}
use Rattle.oci_names.specs.Reference.{resolved_registry}
use Rattle.oci_auth.specs.Cache.{key_of, token_at}
use Rattle.oci_auth.specs.Kept.{Key}
use Rattle.oci_auth.specs.AuthState.{stored}
use Rattle.oci_auth.specs.declared.auth.RegistryAuth.{RegistryAuth}
use Rattle.oci_auth.specs.declared.auth_state.AuthState.{AuthState}
use Rattle.oci_auth.specs.declared.token_type.RegistryTokenType.{RegistryTokenType}
use Rattle.oci_auth.proofs.Places.{token_after}
use Rattle.engine_rows.specs.Rows.{with_kept}
use Rattle.engine_rows.specs.Confined.{KeptOrAdded, KeptWell, StoredOrHanded, StoredWell}
use Rattle.engine_rows.specs.Held.{Entry, IsAuth, GivenIn, IsHeld}

-- the client state after these exchanges
pub record Keeps (x : Entry) (l : AuthState) (c : List Exchange) : Type 0 where
  pub credentials : (a : RegistryAuth) → map.get l.credentials (resolved_registry x.image) ≡ Some a → IsAuth x a
  pub tokens : (token : RegistryTokenType) → token_at l.tokens (key_of x.image x.operation) x.moment ≡ Some token → IsHeld x c token
  pub added : KeptWell x l c
  pub stored : StoredWell x l

-- at the beginning
pub keeps_first : (x : Entry) → Keeps x x.kept []
keeps_first x = record { credentials = λ a is. inl is; tokens = λ token is. inr (inl is); added = λ key moment token is. inl is; stored = λ registry a is. inl is }

-- what may be sent may still be sent later
given_more : (c d : List Exchange) (token : RegistryTokenType) → GivenIn c token → GivenIn (c ++ d) token
given_more c d token g = record { before = g.before; exchange = g.exchange; after = g.after ++ d; split = ap (λ e. e ++ d) g.split ∙ append_assoc g.before (g.exchange ∷ g.after) d; answer = g.answer; answered = g.answered; read = g.read }

pub held_more : (x : Entry) (c d : List Exchange) (token : RegistryTokenType) → IsHeld x c token → IsHeld x (c ++ d) token
held_more x c d token (inl h) = inl h
held_more x c d token (inr (inl h)) = inr (inl h)
held_more x c d token (inr (inr h)) = inr (inr (given_more c d token h))

added_more : (x : Entry) (c d : List Exchange) (key : Key) (moment : ℕ) (token : RegistryTokenType) → KeptOrAdded x c key moment token → KeptOrAdded x (c ++ d) key moment token
added_more x c d key moment token (inl h) = inl h
added_more x c d key moment token (inr h) = inr (h.0, held_more x c d token h.1)

pub keeps_more : (x : Entry) (l : AuthState) (c d : List Exchange) → Keeps x l c → Keeps x l (c ++ d)
keeps_more x l c d k = record { credentials = k.credentials; tokens = λ token is. held_more x c d token (k.tokens token is); added = λ key moment token is. added_more x c d key moment token (k.added key moment token is); stored = k.stored }

-- ---- credentials are stored

by_key : (x : Entry) (b : Bool) (a other : RegistryAuth) (found : Option RegistryAuth) → x.handed ≡ Some a → (found ≡ Some other → IsAuth x other) → cond b (Some a) found ≡ Some other → IsAuth x other
by_key x true a other found handed before is = let same : a ≡ other = cc is in inr (handed ∙ ap Some same)
by_key x false a other found handed before is = before is

into_map : (x : Entry) (m : FinMap by_bytes RegistryAuth) (registry : List ℕ) (a other : RegistryAuth) → x.handed ≡ Some a → (map.get m (resolved_registry x.image) ≡ Some other → IsAuth x other) → map.get (map.insert m registry a) (resolved_registry x.image) ≡ Some other → IsAuth x other
into_map x m registry a other handed before is = by_key x _ a other (map.get m (resolved_registry x.image)) handed before (sym (get-insert nat_list_cmp_total m registry a (resolved_registry x.image)) ∙ is)

-- those under another registry are unchanged
into_stored : (x : Entry) (found : Option RegistryAuth) (registry key : List ℕ) (a other : RegistryAuth) (b : Bool) → eq_by_cmp by_bytes key registry ≡ b → x.handed ≡ Some a → registry ≡ resolved_registry x.image → (found ≡ Some other → StoredOrHanded x key other) → cond b (Some a) found ≡ Some other → StoredOrHanded x key other
into_stored x found registry key a other true tied handed own before is = let same : a ≡ other = cc is in inr (same_text key registry (sym (texts_ties key registry ∙ tied)) ∙ own, handed ∙ ap Some same)
into_stored x found registry key a other false tied handed own before is = before is

stored_by : (x : Entry) (l : AuthState) (c : List Exchange) (registry : List ℕ) (a : RegistryAuth) (b : Bool) → x.handed ≡ Some a → registry ≡ resolved_registry x.image → Keeps x l c → Keeps x (if b then l else record l { credentials = map.insert l.credentials registry a }) c
stored_by x l c registry a true handed own k = k
stored_by x l c registry a false handed own k = record {
  credentials = λ other is. into_map x l.credentials registry a other handed (k.credentials other) is;
  tokens = k.tokens;
  added = k.added;
  stored = λ key other is. into_stored x (map.get l.credentials key) registry key a other (eq_by_cmp by_bytes key registry) refl handed own (k.stored key other) (sym (get-insert nat_list_cmp_total l.credentials registry a key) ∙ is);
}

pub keeps_stored : (x : Entry) (l : AuthState) (c : List Exchange) (a : RegistryAuth) → x.handed ≡ Some a → Keeps x l c → Keeps x (stored l (resolved_registry x.image) a) c
keeps_stored x l c a handed k = stored_by x l c (resolved_registry x.image) a (is_some (map.get l.credentials (resolved_registry x.image))) handed refl k

-- ---- a token is stored

-- each token that is returned then was returned before, or is that one
pub keeps_kept : (x : Entry) (l : AuthState) (c : List Exchange) (token : RegistryTokenType) → IsHeld x c token → Keeps x l c → Keeps x (with_kept l (key_of x.image x.operation) token x.moment) c
keeps_kept x l c token held k = record {
  credentials = k.credentials;
  tokens = λ other is. may_send other (token_after l.tokens here here token other x.moment x.moment is);
  added = λ key moment other is. added_by key moment other (token_after l.tokens here key token other x.moment moment is);
  stored = k.stored;
} where
  here : Key
  here = key_of x.image x.operation

  may_send : (other : RegistryTokenType) → (token_at l.tokens here x.moment ≡ Some other) ⊎ ((here ≡ here) × (other ≡ token)) → IsHeld x c other
  may_send other (inl before) = k.tokens other before
  may_send other (inr (same, is)) = subst (IsHeld x c) (sym is) held

  added_by : (key : Key) (moment : ℕ) (other : RegistryTokenType) → (token_at l.tokens key moment ≡ Some other) ⊎ ((key ≡ here) × (other ≡ token)) → KeptOrAdded x c key moment other
  added_by key moment other (inl before) = k.added key moment other before
  added_by key moment other (inr (same, is)) = inr (same, subst (IsHeld x c) (sym is) held)
