-- Conversations one after another.
use Rattle.std.proofs.Common.{◌≡◌, ◌+◌, ℕ, suc, List, [], ◌∷◌, ◌++◌, Some, None, length, length-append, refl, sym, ◌∙◌, ap, subst, append_assoc, append-nil, arith}
use Rattle.oci_transport.specs.Link.{Link, Answering, AnsweredBy, Steady, Extends}
use Rattle.oci_transport.specs.declared.message.Exchange.{Exchange}
pub use Rattle.oci_transport.proofs.TakenBytes.{Steady-more}

-- an unchanged link is `Steady`
pub Steady-none : (link : Link) → Steady link link
Steady-none link = record { steady = λ a h. h; quiet = λ a h quiet. refl; exact = refl }

pub AnsweredBy-append : (t : Answering) (place : ℕ) (x y : List Exchange) → AnsweredBy t place x → AnsweredBy t (place + length x) y → AnsweredBy t place (x ++ y)
AnsweredBy-append t place [] y first second = subst (λ n. AnsweredBy t n y) (omega arith) second
AnsweredBy-append t place (e ∷ x) y first second = (first.0, AnsweredBy-append t (suc place) x y first.1 (subst (λ n. AnsweredBy t n y) (omega arith) second))

-- if the first conversation extends a to b and the second b to c, both together extend a to c
pub Extends-more : (a b c : Link) (x y : List Exchange) → Extends a b x → Extends b c y → Extends a c (x ++ y)
Extends-more a b c x y first second = record {
  told = λ before h. second.told (before ++ x) (first.told before h) ∙ ap Some (append_assoc before x y);
  table = λ t before ha hb. AnsweredBy-append t (length before) x y (first.table t before ha hb)
      (subst (λ n. AnsweredBy t n y) (length-append before x) (second.table t (before ++ x) (first.stays.steady t ha) (first.told before hb)));
  stays = Steady-more a b c first.stays second.stays;
}

-- the empty conversation extends a link to itself
pub Extends-none : (link : Link) → Extends link link []
Extends-none link = record { told = λ before h. h ∙ ap Some (sym (append-nil before)); table = λ t before ha hb. tt; stays = Steady-none link }

-- a steady step that exposes no further exchange keeps `Extends`
pub Extends-still : (old mid new : Link) (c : List Exchange) → Extends old mid c → new.told ≡ mid.told → Steady mid new → Extends old new c
Extends-still old mid new c added same steady = record { told = λ before h. same ∙ added.told before h; table = added.table; stays = Steady-more old mid new added.stays steady }

-- a link that exposes nothing is extended by any conversation
pub Extends-untold : (old new : Link) (c : List Exchange) → old.told ≡ None → Steady old new → Extends old new c
Extends-untold old new c none steady = record { told = λ before h. absurd (told_none before h); table = λ t before ha hb. absurd (told_none before hb); stays = steady } where
  told_none : (before : List Exchange) → old.told ≡ Some before → ⊥
  told_none before h = cc (none, h)
