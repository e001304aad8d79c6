-- The meaning of the terms of a pull.
use Rattle.cosign_layers.specs.Satisfying.{PolicyContext, CustomVerdict, policy_context}
use Rattle.cosign_parts.specs.Trust.{Valid, Vouching, trust_of}
use Rattle.cosign_rows.specs.declared.terms.Terms.{Terms}

-- the policy and the trust of these terms, for these meanings of verifiers, judges and boxes
abbrev pub meaning_of : {V O W : Type 0} {H : W → Type 0} → (V → Valid) → (O → Vouching) → CustomVerdict W H
    → Terms V O W H → PolicyContext W H
meaning_of valid vouched own t = policy_context t.policy.now own (trust_of valid vouched t.trusted)
