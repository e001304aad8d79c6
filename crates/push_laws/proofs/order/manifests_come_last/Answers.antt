use Rattle.push_laws.proofs.SentOrder.{image_first}
use Rattle.push_laws.proofs.order.manifests_come_last.Goals as goal

pub returns : goal.returns
returns c = image_first
