-- Texts that are appended one after another.
use Rattle.std.proofs.Common.{◌≡◌, ℕ, List, ◌++◌, ap, ◌∙◌, append_assoc}

pub three : (a x y z b c d : List ℕ) → b ≡ a ++ x → c ≡ b ++ y → d ≡ c ++ z → d ≡ a ++ (x ++ (y ++ z))
three a x y z b c d first second third =
    third ∙ ap (λ t. t ++ z) (second ∙ ap (λ t. t ++ y) first) ∙ append_assoc (a ++ x) y z ∙ append_assoc a x (y ++ z)
