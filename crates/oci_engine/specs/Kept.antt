-- What a client stores between its calls.
use Rattle.oci_auth.specs.declared.auth_state.AuthState.{AuthState}
use Rattle.oci_engine.specs.declared.client.Client.{Client}

-- its credentials and its tokens, as the rows represent them
abbrev pub auth_state_of : Client → AuthState
auth_state_of client = record { credentials = client.credentials; tokens = client.tokens }
