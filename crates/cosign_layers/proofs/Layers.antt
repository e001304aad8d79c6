-- Each input results in one layer, or in one check that fails first.
use Rattle.std.proofs.Common.{◌≡◌, ◌⊎◌, inl, inr, ℕ, Bool, true, false, IsTrue, List, Option, IsSomeAnd, Result, Ok, Err, IfOk, IfErr, refl, sym, ap, ◌∙◌, subst}
use Rattle.std.specs.Prelude.{MatchBool}
use Rattle.cosign_layers.specs.Checks.{Input, Spelled, content_checked, signature_checked, entry_checked, certificate_checked, layer_with, layer_read}
use Rattle.cosign_parts.specs.Layer.{IsSignature, IsEntry, IsCertificate, LayerOf, IsAboutImage}
use Rattle.cosign_layers.specs.Read.{IsAbout, ContentRejected, SignatureRejected, EntryRejected, CertificateRejected, Rejected, RejectedUnlessMemory, input_of, Gives, HasOneOutcome}
use Rattle.json_values.specs.Refusals.{Matches}
use Rattle.cosign_layers.specs.Rejection.{is_memory}
use Rattle.cosign_parts.specs.Shown.{is_about}
use Rattle.cosign_parts.specs.Trust.{Trust, knows_no_log}
use Rattle.cosign_parts.specs.declared.certificate.CertificateSignature.{CertificateSignature}
use Rattle.cosign_parts.specs.declared.layer.SignatureLayer.{SignatureLayer}
use Rattle.cosign_parts.specs.declared.layer.SimpleSigning.{SimpleSigning}
use Rattle.cosign_parts.specs.declared.log_entry.LogEntryBundle.{LogEntryBundle}
use Rattle.cosign_layers.specs.declared.rejection.LayerRejection.{LayerRejection}
use Rattle.cosign_layers.specs.declared.rejection.LayerRejection.TheVariants.{WantOfMemory}
use Rattle.cosign_parts.specs.declared.shown.Shown.{Shown}
use Rattle.cosign_layers.proofs.Outcomes.{Decides, both, reworded, answered, ok_same, ok_err, err_same}
use Rattle.cosign_layers.proofs.LayerReads.{content, signature, entry, certificate}

module _ (trust : Trust) (d : List ℕ) where
  -- the parts of a layer
  abbrev Made : Input → SignatureLayer → Type 0
  Made input layer =
      (s : Shown) × IsAbout d input s
      × ((p : Spelled) × IsSignature s.signature p.0 p.1
      × ((e : Option LogEntryBundle) × IsEntry trust input.kind input.content p.1 s.log_entry e
      × ((c : Option CertificateSignature) × IsCertificate trust e s.certificate c × (layer_with input s p.0 e c ≡ layer))))

  -- why there is no layer
  abbrev Fails : Input → LayerRejection → Type 0
  Fails input x =
      ContentRejected d input x ⊎ ((s : Shown) × IsAbout d input s
      × (SignatureRejected s.signature x ⊎ ((p : Spelled) × IsSignature s.signature p.0 p.1
      × (((knows_no_log trust ≡ false) × EntryRejected trust input p.1 s.log_entry x)
      ⊎ ((e : Option LogEntryBundle) × IsEntry trust input.kind input.content p.1 s.log_entry e
      × (CertificateRejected trust e s.certificate x ⊎ ((c : Option CertificateSignature) × IsCertificate trust e s.certificate c × ⊥)))))))

  read : (input : Input) → Decides (layer_read trust d input) (Made input) (Fails input)
  read input =
      both (content_checked d input) _ _ _ _ _ (content d input) (λ s.
      both (signature_checked s.signature) _ _ _ _ _ (signature s.signature) (λ p.
      both (entry_checked trust input.kind input.content p.1 s.log_entry) _ _ _ _ _ (entry trust input p.1 s.log_entry) (λ e.
      both (certificate_checked trust.vouched e s.certificate) _ _ _ _ _ (certificate trust e s.certificate) (λ c.
      answered (layer_with input s p.0 e c)))))

  given : (input : Input) (layer : SignatureLayer) → Made input layer → Gives trust d input layer
  given input layer h =
      let s = h.0 in let about = h.1 in let p = h.2.0 in let signed = h.2.1 in
      let e = h.2.2.0 in let logged = h.2.2.1 in let c = h.2.2.2.0 in let certified = h.2.2.2.1 in
      subst (Gives trust d input) h.2.2.2.2 (record {
        from = refl;
        layer_of = record {
          named = about.has.named;
          shows = s;
          content = about.has.content;
          signing = refl;
          bytes = p.1;
          signature = signed;
          entry = logged;
          certificate = certified;
        };
        is_named = subst (λ o. IsSomeAnd o (λ t. IsTrue (is_about d t))) (sym about.has.content) about.about;
      })

  abbrev with_signing : SignatureLayer → Option SimpleSigning → SignatureLayer
  with_signing layer signing = record {
    kind = layer.kind;
    content = layer.content;
    oci_digest = layer.oci_digest;
    annotations = layer.annotations;
    simple_signing = signing;
    signature = layer.signature;
    certificate_signature = layer.certificate_signature;
    bundle = layer.bundle;
  }

  made_of : (layer : SignatureLayer) → LayerOf trust layer → IsAboutImage layer d → Made (input_of layer) layer
  made_of layer l n =
      let about : is_about d l.shows ≡ true = subst (λ o. IsSomeAnd o (λ t. IsTrue (is_about d t))) l.content n in (
        l.shows,
        record { has = record { named = l.named; content = l.content }; about = about },
        (
          (layer.signature, l.bytes),
          l.signature,
          (
            layer.bundle,
            l.entry,
            (layer.certificate_signature, l.certificate, ap (with_signing layer) (sym l.signing)),
          ),
        ),
      )

  made : (input : Input) (layer : SignatureLayer) → Gives trust d input layer → Made input layer
  made input layer g = subst (λ i. Made i layer) g.from (made_of layer g.layer_of g.is_named)

  fails : (input : Input) (x : LayerRejection) → Fails input x → Rejected trust d input x
  fails input x h = elim h [
    | inl k ↦ inl k
    | inr k ↦ inr (
      k.0,
      k.1,
      elim k.2 [
        | inl l ↦ inl l
        | inr l ↦ inr (
          l.0.0,
          l.0.1,
          l.1,
          elim l.2 [
            | inl m ↦ inl m
            | inr m ↦ inr (m.0, m.1, elim m.2 [ inl n ↦ n | inr n ↦ absurd n.2 ])
          ],
        )
      ],
    )
  ]

  failed : (input : Input) (x : LayerRejection) → Rejected trust d input x → Fails input x
  failed input x h = elim h [
    | inl k ↦ inl k
    | inr k ↦ inr (
      k.0,
      k.1,
      elim k.2 [
        | inl l ↦ inl l
        | inr l ↦ inr (
          (l.0, l.1),
          l.2,
          elim l.3 [
            | inl m ↦ inl m
            | inr m ↦ inr (m.0, m.1, inl m.2)
          ],
        )
      ],
    )
  ]

  pub decided : (input : Input) → Decides (layer_read trust d input) (Gives trust d input) (Rejected trust d input)
  decided input = reworded _ (Made input) _ (Fails input) _ (given input) (made input) (fails input) (failed input) (read input)

  by_result : (input : Input) (r : Result SignatureLayer LayerRejection) → layer_read trust d input ≡ r → ((layer : SignatureLayer) × Gives trust d input layer) ⊎ ((x : LayerRejection) × Rejected trust d input x)
  by_result input (Ok layer) e = inl (layer, (decided input).passed layer e)
  by_result input (Err x) e = inr (x, (decided input).rejected x e)

  differ : {r : Result SignatureLayer LayerRejection} (layer : SignatureLayer) (x : LayerRejection) → r ≡ Ok layer → r ≡ Err x → ⊥
  differ layer x o e = ok_err layer x (sym o ∙ e)

  pub one_outcome : (input : Input) → HasOneOutcome trust d input
  one_outcome input = record {
    one_of = by_result input (layer_read trust d input) refl;
    not_both = λ layer x g h. differ layer x ((decided input).passes layer g) ((decided input).rejects x h);
    one_layer = λ a b g h. ok_same a b (sym ((decided input).passes a g) ∙ (decided input).passes b h);
    one_rejection = λ x y g h. err_same x y (sym ((decided input).rejects x g) ∙ (decided input).rejects y h);
  }

  pub gives : (input : Input) (r : Result SignatureLayer LayerRejection) → Matches is_memory r (layer_read trust d input) → IfOk r (Gives trust d input)
  gives input (Ok layer) says = (decided input).passed layer says
  gives input (Err x) says = tt

  pub rejects : (input : Input) (r : Result SignatureLayer LayerRejection) → Matches is_memory r (layer_read trust d input) → IfErr r (RejectedUnlessMemory trust d input)
  rejects input (Ok layer) says = tt
  rejects input (Err x) says = by_memory (is_memory x) says where
    by_memory : (b : Bool) → MatchBool b (Unit {0}) (layer_read trust d input ≡ Err x) → MatchBool b (Unit {0}) (Rejected trust d input x)
    by_memory true h = tt
    by_memory false h = (decided input).rejected x h

  -- running out of memory is not a check
  pub never_memory : (input : Input) → layer_read trust d input ≡ Err WantOfMemory → ⊥
  never_memory input e = no_check input ((decided input).rejected WantOfMemory e) where
    no_check : (input : Input) → Rejected trust d input WantOfMemory → ⊥
    no_check input h = elim h [
      | inl k ↦ k
      | inr k ↦ elim k.2 [
        | inl l ↦ l
        | inr l ↦ elim l.3 [
          | inl m ↦ m.1
          | inr m ↦ m.2
        ]
      ]
    ]
