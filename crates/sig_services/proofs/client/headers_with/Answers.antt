use Rattle.sig_services.proofs.HeaderSteps.{three}
use Rattle.sig_services.proofs.client.headers_with.Goals as goal

pub returns : goal.returns
returns c = three _ _ _ _ _ _ _ _ _ c.new.ensures c.as_bytes.ensures.value c.in_ok-headers.ensures c.in-Some.is c.in_ok-headers-2.ensures c.in-Some-2.is c.in_ok-headers-3.ensures
