use Rattle.std.proofs.Common.{◌≡◌, take}
use Rattle.sig_services.proofs.client.copies.Given as goal

abbrev pub invariant-loop-certificate : goal.invariant-loop-certificate
invariant-loop-certificate l = l.chain ≡ take l.certificate-index l.certificates
