use Rattle.std.proofs.Common.{refl}
use Rattle.constant_texts.proofs.texts.names_are_these.Goals as goal

pub returns-clause-platforms : goal.returns-clause-platforms
returns-clause-platforms c = record { amd64 = refl; arm64 = refl; linux = refl; windows = refl }

pub returns-clause-headers : goal.returns-clause-headers
returns-clause-headers c = record { digest = refl; digest_in_lower_case = refl }

pub returns-clause-annotations : goal.returns-clause-annotations
returns-clause-annotations c = record { created = refl; authors = refl; url = refl; documentation = refl; source = refl; version = refl; revision = refl; vendor = refl; licenses = refl; ref_name = refl; title = refl; description = refl; base_digest = refl; base_name = refl }
