-- What was received, by what the sinks were told.
use Rattle.std.proofs.Common.{◌≡◌, ◌≤◌, ℕ, zero, suc, ◌+◌, List, [], ◌∷◌, ◌++◌, take, length, All, Some, refl, sym, ap, subst, arith}
use Rattle.std.specs.Prelude.{if◌then◌else◌}
use Rattle.std.proofs.lemmas.List.Elements.{All-nil, All-cons, All-head, All-tail}
use Rattle.byte_streams.specs.SinkState.{SinkState}
use Rattle.oci_manifests.specs.declared.descriptor.OciDescriptor.{OciDescriptor}
use Rattle.oci_protocol.specs.Runs.{Told}
use Rattle.oci_transport.specs.Link.{Link}
use Rattle.oci_transport.specs.declared.message.Exchange.{Exchange}
use Rattle.image_blobs.specs.SinksState.{Closed, SinksState}
use Rattle.image_blobs.specs.Taken.{EachStands, MayFall, TookAll, TookSome}
use Rattle.live_blobs.specs.Discarded.{stood_among}
use Rattle.live_blobs.specs.Pulled.{IsReceived}

each_received : (fresh : SinkState) (c : List Exchange) (xs : List OciDescriptor) (zs : List Closed) → EachStands fresh c xs zs → All (IsReceived c) xs
each_received fresh c [] [] h = All-nil (IsReceived c)
each_received fresh c (x ∷ xs) (z ∷ zs) h = All-cons (IsReceived c) x xs ((h.0).bytes, (h.0).blob) (each_received fresh c xs zs h.1)
each_received fresh c [] (z ∷ zs) h = absurd h
each_received fresh c (x ∷ xs) [] h = absurd h

none_fallen : (fresh : SinkState) (c : List Exchange) (xs : List OciDescriptor) (zs : List Closed) → MayFall fresh c xs zs → stood_among zs ≡ 0
none_fallen fresh c xs [] h = refl
none_fallen fresh c (x ∷ xs) (z ∷ []) h = ap (λ b. (if b then 1 else 0) + 0) h.stood
none_fallen fresh c [] (z ∷ zs) h = absurd h
none_fallen fresh c (x ∷ xs) (z ∷ w ∷ zs) h = absurd h

-- as many stand as sinks were told so
stood_at_most : (fresh : SinkState) (c : List Exchange) (done rest : List OciDescriptor) (zs last : List Closed) → EachStands fresh c done zs → MayFall fresh c rest last → stood_among (zs ++ last) ≤ length done
stood_at_most fresh c [] rest [] last h falls = let none = none_fallen fresh c rest last falls in omega (arith, none)
stood_at_most fresh c (x ∷ done) rest (z ∷ zs) last h falls =
    let one : ◌≡◌ {A = ℕ} (if z.stood then 1 else 0) 1 = ap (λ b. if b then 1 else 0) (h.0).stood in
    let more = stood_at_most fresh c done rest zs last h.1 falls in
    omega (arith, one, more)
stood_at_most fresh c [] rest (z ∷ zs) last h falls = absurd h
stood_at_most fresh c (x ∷ done) rest [] last h falls = absurd h

first_of : (P : OciDescriptor → Type 0) (m : ℕ) (done rest : List OciDescriptor) → m ≤ length done → All P done → All P (take m (done ++ rest))
first_of P zero done rest le h = All-nil P
first_of P (suc m) [] rest le h = absurd (omega (arith, le))
first_of P (suc m) (x ∷ done) rest le h = All-cons P x (take m (done ++ rest)) (All-head P x done h) (first_of P m done rest (omega (arith, le)) (All-tail P x done h))

module _ (fresh : SinkState) (xs : List OciDescriptor) (old new : Link) (before after : SinksState) where
  pub all_received : TookAll fresh xs old new before after → Told (λ c. All (IsReceived c) xs) old new
  all_received took = record { conversation = took.stand.conversation; told = took.stand.told; holds = each_received fresh took.stand.conversation xs took.closed took.stand.holds }

  pub first_received : (n : ℕ) (zs : List Closed) → before.closed ≡ Some [] → after.closed ≡ Some zs → n ≤ stood_among zs → TookSome fresh xs old new before after → (m : ℕ) → m ≤ n → Told (λ c. All (IsReceived c) (take m xs)) old new
  first_received n zs began ended counted took m le =
      let same : zs ≡ took.closed ++ took.last = cc (ended, took.closes.closed [] began) in
      let most = stood_at_most fresh took.stand.conversation took.done took.rest took.closed took.last took.stand.holds.0 took.stand.holds.1 in
      let few : m ≤ length took.done = omega (arith, le, counted, ap stood_among same, most) in
      record {
        conversation = took.stand.conversation;
        told = took.stand.told;
        holds = subst (λ (ys : List OciDescriptor). All (IsReceived took.stand.conversation) (take m ys)) (sym took.split)
            (first_of (IsReceived took.stand.conversation) m took.done took.rest few (each_received fresh took.stand.conversation took.done took.closed took.stand.holds.0));
      }
