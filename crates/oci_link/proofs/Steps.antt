-- What a contract sees of a guard after a step.
use Rattle.std.proofs.Common.{◌≡◌, ℕ, suc, ◌+◌, ◌-◌, ◌^◌, ◌≤◌, min, Bool, true, false, not, List, [], ◌∷◌, ◌++◌, length, map, Option, Some, None, refl, sym, ap, ◌∙◌, arith, subst, append-nil, if◌then◌else◌, option_and_then}
use Rattle.std.specs.Prelude.{bytes_eq}
use Rattle.std.specs.Cmp.Lexicographic.{nat_list_eq_equiv}
use Rattle.oci_transport.specs.Link.{Link, Answering, NeverFails, Steady, Extends, Answers, AddsUnanswered, AddsAtMost, IsAtMost, LeavesRest, answer_of, exchange_of}
use Rattle.oci_transport.specs.declared.message.Request.{Request}
use Rattle.oci_transport.specs.declared.message.AnswerHead.{AnswerHead}
use Rattle.oci_transport.specs.declared.message.Exchange.{Exchange}
use Rattle.oci_link.specs.Guard.{counted, refused_exchange, told_with, keep_after, last_realm, fits, more, places, is_known}
use Rattle.oci_link.specs.Guard.{realm_by}
use Rattle.oci_link.specs.Rules.{passes}
use Rattle.oci_link.specs.GuardState.{told_of, rest_of, shown}
use Rattle.oci_link.specs.declared.rules.Rules.{Rules}
use Rattle.oci_link.specs.declared.guarded.Guarded.{Guarded}
use Rattle.oci_link.specs.declared.guarded.Unsent.{Unsent}
use Rattle.oci_link.proofs.GuardKnowledge.{Known, known_of, fits_by, known_sent, known_refused}
use Rattle.oci_link.proofs.Told.{told_sent, told_refused}

zero_and : (n : ℕ) → 0 + n ≡ n
zero_and n = omega arith

some_is : {A : Type 0} (x y : A) → Some x ≡ Some y → x ≡ y
some_is x y h = cc h

abbrev knows : {T : Type 0} → Guarded T → List Exchange → Bool
knows g c = fits g.rules g.unsent g.since g.lost g.realm c

-- the exchanges of the inner transport, if the guard exposes these
record Inside {T : Type 0} (g : Guarded T) (told : Option (List Exchange)) (before : List Exchange) : Type 0 where
  pub c : List Exchange
  pub told_is : told ≡ Some c
  pub known : knows g c ≡ true
  pub is : told_with 0 g.unsent c ≡ before

inside_of : {T : Type 0} (g : Guarded T) (told : Option (List Exchange)) (before : List Exchange) → option_and_then (told_of g) told ≡ Some before → Inside g told before
inside_of g None before h = absurd (cc h)
inside_of g (Some c) before h = by (knows g c) refl h where
  by : (b : Bool) → knows g c ≡ b → (if b then Some (told_with 0 g.unsent c) else None) ≡ Some before → Inside g (Some c) before
  by true known h = record { c = c; told_is = refl; known = known; is = some_is _ _ h }
  by false known h = absurd (cc h)

told_by : {T : Type 0} (g : Guarded T) (told : Option (List Exchange)) (c : List Exchange) → told ≡ Some c → knows g c ≡ true → option_and_then (told_of g) told ≡ Some (told_with 0 g.unsent c)
told_by g told c is known = ap (option_and_then (told_of g)) is ∙ ap (λ b. if b then Some (told_with 0 g.unsent c) else None) known

untabled : {T : Type 0} (g h : Guarded T) (old new : Link) → new.exact ≡ old.exact → Steady (shown g old) (shown h new)
untabled g h old new exact = record { exact = exact; steady = λ a is. absurd (cc is); quiet = λ a is never. absurd (cc is) }

-- ---- a request was sent

pub record Sent {T : Type 0} (g h : Guarded T) (old : Link) (added : List Exchange) : Type 0 where
  pub unsent : h.unsent ≡ g.unsent
  pub knows : (c : List Exchange) → old.told ≡ Some c → knows g c ≡ true → knows h (c ++ added) ≡ true

extends_sent : {T : Type 0} (g h : Guarded T) (old new : Link) (added : List Exchange) → Extends old new added → Sent g h old added
    → Extends (shown g old) (shown h new) (map (counted (length g.unsent)) added)
extends_sent g h old new added by sent = record {
  told = λ before told.
      let at : Inside g old.told before = inside_of g old.told before told in
      let known : Known g.rules g.unsent g.since g.lost g.realm at.c = known_of g.rules g.unsent g.since g.lost g.realm at.c at.known in
      told_by h new.told (at.c ++ added) (by.told at.c at.told_is) (sent.knows at.c at.told_is at.known)
      ∙ ap (λ xs. Some (told_with 0 xs (at.c ++ added))) sent.unsent
      ∙ ap Some (told_sent 0 g.unsent at.c added known.within)
      ∙ ap (λ n. Some (told_with 0 g.unsent at.c ++ map (counted n) added)) (zero_and (length g.unsent))
      ∙ ap (λ b. Some (b ++ map (counted (length g.unsent)) added)) at.is;
  table = λ a before is told. absurd (cc is);
  stays = untabled g h old new by.stays.exact;
}

pub answered : {T : Type 0} (g h : Guarded T) (old new : Link) (request : Request) (head : AnswerHead) → (by : Answers request head old new)
    → Sent g h old (exchange_of request (Some (answer_of head by.body)) old ∷ []) → h.closed ≡ false → Answers request head (shown g old) (shown h new)
answered g h old new request head by sent begun = record {
  body = by.body;
  added = extends_sent g h old new (exchange_of request (Some (answer_of head by.body)) old ∷ []) by.added sent;
  rest = λ before told. let at : Inside g old.told before = inside_of g old.told before told in ap (λ b. rest_of b new.rest) begun ∙ by.rest at.c at.told_is;
  calm = λ exact i. more (by.calm exact i) (length (sent.unsent i));
}

pub at_most_one : {T : Type 0} (g h : Guarded T) (old new : Link) (request : Request) (head : AnswerHead) → (by : Answers request head old new)
    → Sent g h old (exchange_of request (Some (answer_of head by.body)) old ∷ []) → AddsAtMost request (shown g old) (shown h new)
at_most_one g h old new request head by sent = record {
  conversation = exchange_of request (Some (answer_of head by.body)) (shown g old) ∷ [];
  added = extends_sent g h old new (exchange_of request (Some (answer_of head by.body)) old ∷ []) by.added sent;
  most = (refl, refl);
}

pub unanswered : {T : Type 0} (g h : Guarded T) (old new : Link) (request : Request) → AddsUnanswered request old new
    → Sent g h old (exchange_of request None old ∷ []) → AddsUnanswered request (shown g old) (shown h new)
unanswered g h old new request by sent = extends_sent g h old new (exchange_of request None old ∷ []) by sent

most : {T : Type 0} (g : Guarded T) (old : Link) (request : Request) (added : List Exchange) → IsAtMost request old.faults added → IsAtMost request (shown g old).faults (map (counted (length g.unsent)) added)
most g old request [] h = h
most g old request (e ∷ []) h = (h.0, ap (λ n. more n (length g.unsent)) h.1)
most g old request (e ∷ f ∷ c) h = h

pub at_most : {T : Type 0} (g h : Guarded T) (old new : Link) (request : Request) → (by : AddsAtMost request old new)
    → Sent g h old by.conversation → AddsAtMost request (shown g old) (shown h new)
at_most g h old new request by sent = record {
  conversation = map (counted (length g.unsent)) by.conversation;
  added = extends_sent g h old new by.conversation by.added sent;
  most = most g old request by.conversation by.most;
}

-- what is known after one more exchange
pub one_more : {T : Type 0} (g h : Guarded T) (old : Link) (e : Exchange) → h.rules ≡ g.rules → h.unsent ≡ g.unsent → h.lost ≡ g.lost → h.since ≡ g.since + 1
    → is_known h.realm (realm_by e.request e.answer) ≡ true → passes g.rules g.realm e.request ≡ true → Sent g h old (e ∷ [])
one_more g h old e rules unsent lost since named pass = record {
  unsent = unsent;
  knows = λ c told known.
      let k : Known g.rules g.unsent g.since g.lost g.realm c = known_of g.rules g.unsent g.since g.lost g.realm c known in
      let next : Known g.rules g.unsent h.since h.lost h.realm (c ++ e ∷ []) = known_sent g.rules g.unsent g.since h.since g.lost h.lost g.realm h.realm c e k pass (λ is. (sym lost ∙ is, since)) named in
      rw (rules, unsent) (fits_by g.rules g.unsent h.since h.lost h.realm (c ++ e ∷ []) next);
}

-- the same if it is unknown whether there was one
pub perhaps_one : {T : Type 0} (g h : Guarded T) (old : Link) (request : Request) (added : List Exchange) → h.rules ≡ g.rules → h.unsent ≡ g.unsent → h.lost ≡ true → h.realm ≡ None
    → passes g.rules g.realm request ≡ true → IsAtMost request old.faults added → Sent g h old added
perhaps_one g h old request [] rules unsent lost realm pass one = record {
  unsent = unsent;
  knows = λ c told known.
      let k : Known g.rules g.unsent g.since g.lost g.realm c = known_of g.rules g.unsent g.since g.lost g.realm c known in
      let next : Known g.rules g.unsent h.since true None c = record { within = k.within; placed = λ is. absurd (cc is); keeps = k.keeps; named = refl } in
      subst (λ d. knows h d ≡ true) (sym (append-nil c)) (rw (rules, unsent, lost, realm) (fits_by g.rules g.unsent h.since true None c next));
}
perhaps_one g h old request (e ∷ []) rules unsent lost realm pass one = record {
  unsent = unsent;
  knows = λ c told known.
      let k : Known g.rules g.unsent g.since g.lost g.realm c = known_of g.rules g.unsent g.since g.lost g.realm c known in
      let next : Known g.rules g.unsent h.since true None (c ++ e ∷ []) = known_sent g.rules g.unsent g.since h.since g.lost true g.realm None c e k (subst (λ r. passes g.rules g.realm r ≡ true) (sym one.0) pass) (λ is. absurd (cc is)) refl in
      rw (rules, unsent, lost, realm) (fits_by g.rules g.unsent h.since true None (c ++ e ∷ []) next);
}
perhaps_one g h old request (e ∷ f ∷ added) rules unsent lost realm pass one = absurd one

-- ---- a request was not sent

pub refused : {T : Type 0} (g h : Guarded T) (old : Link) (request : Request) (x : Unsent) → h.rules ≡ g.rules → h.unsent ≡ g.unsent ++ x ∷ [] → g.lost ≡ false → h.lost ≡ g.lost → h.since ≡ 0 → h.realm ≡ None
    → x.request ≡ request → x.faults ≡ more old.faults (length g.unsent) → x.after ≡ g.since → AddsUnanswered request (shown g old) (shown h old)
refused g h old request x rules unsent sure lost since realm request_is faults after = record {
  told = λ before told.
      let at : Inside g old.told before = inside_of g old.told before told in
      let k : Known g.rules g.unsent g.since g.lost g.realm at.c = known_of g.rules g.unsent g.since g.lost g.realm at.c at.known in
      let next : Known g.rules (g.unsent ++ x ∷ []) 0 g.lost None at.c = known_refused g.rules g.unsent g.since g.lost g.realm at.c x k sure after in
      let place : length at.c ≡ places g.unsent + g.since = k.placed sure in
      told_by h old.told at.c at.told_is (rw (rules, unsent, lost, since, realm) (fits_by g.rules (g.unsent ++ x ∷ []) 0 g.lost None at.c next))
      ∙ ap (λ xs. Some (told_with 0 xs at.c)) unsent
      ∙ ap Some (told_refused 0 g.unsent x at.c (place ∙ ap (λ n. places g.unsent + n) (sym after)))
      ∙ ap (λ b. Some (b ++ refused_exchange x ∷ [])) at.is
      ∙ ap (λ r. Some (before ++ record { request = r; answer = None; faults = x.faults } ∷ [])) request_is
      ∙ ap (λ n. Some (before ++ record { request = request; answer = None; faults = n } ∷ [])) faults;
  table = λ a before is told. absurd (cc is);
  stays = untabled g h old old refl;
}

-- ---- a new guard

pub new_told : {T : Type 0} (g : Guarded T) (told : Option (List Exchange)) → ((c : List Exchange) → told ≡ Some c → c ≡ [])
    → g.unsent ≡ [] → g.since ≡ 0 → g.lost ≡ false → g.realm ≡ None → option_and_then (told_of g) told ≡ told
unfolding told_with keep_after places last_realm
new_told g None fresh unsent since lost realm = refl
new_told g (Some c) fresh unsent since lost realm = let none : c ≡ [] = fresh c refl in rw (none, unsent, since, lost, realm) refl

-- ---- whether a request is allowed

pub passed : (pass : Bool) (rules : Rules) (realm : Option (List ℕ)) (request : Request) → pass ≡ passes rules realm request → pass ≡ true → passes rules realm request ≡ true
passed pass rules realm request is h = sym is ∙ h

pub same_known : (a b : Option (List ℕ)) → a ≡ b → is_known a b ≡ true
same_known None b h = refl
same_known (Some a) None h = absurd (cc h)
same_known (Some a) (Some b) h = subst (λ x. bytes_eq a x ≡ true) (some_is a b h) (nat_list_eq_equiv.refl a)

-- nothing was sent
pub nothing_shown : (request : Request) (link : Link) → AddsAtMost request link link
nothing_shown request link = record {
  conversation = [];
  added = record {
    told = λ before h. h ∙ ap Some (sym (append-nil before));
    table = λ a before ha hb. tt;
    stays = record { steady = λ a h. h; quiet = λ a h never. refl; exact = refl };
  };
  most = tt;
}
