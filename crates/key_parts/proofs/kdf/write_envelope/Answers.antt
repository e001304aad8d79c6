use Rattle.std.proofs.Common.{◌≡◌, rules}
use Rattle.std.specs.Str.{IsUtf8}
use Rattle.key_parts.specs.Envelope.{envelope_text}
use Rattle.key_parts.proofs.ReadBack.{read_back}
use Rattle.key_parts.proofs.kdf.write_envelope.Goals as goal

pub returns-clause-back : goal.returns-clause-back
returns-clause-back c =
    let is : c.in_ok-bytes.bytes ≡ envelope_text c.args.salt.now c.args.nonce.now c.args.ciphertext.now = search rules in
    let spelt : IsUtf8 c.in_ok-bytes.bytes = search rules in
    let salt = c.in_ok-push_base64.ensures in
    let nonce = c.in_ok-push_base64-2.ensures in
    let ciphertext = c.in_ok-push_base64-3.ensures in
    rw is (read_back c.args.salt.now c.args.nonce.now c.args.ciphertext.now (rw is at spelt) (record { plain = salt.plain; back = salt.back }) (record { plain = nonce.plain; back = nonce.back }) (record { plain = ciphertext.plain; back = ciphertext.back }))
