use Rattle.std.proofs.Common.{◌≡◌, ◌≢◌, ◌≤◌, ◌-◌, inl, inr, ℕ, suc, zero, List, [], ◌∷◌, ◌++◌, Some, None, refl, sym, ap, arith}
use Rattle.json_values.specs.Counts.{Increased}
use Rattle.oci_transport.specs.Link.{Link, Answers, AddsUnanswered, AddsAtMost, answer_of}
use Rattle.oci_transport.specs.Redirects.{redirected}
use Rattle.oci_transport.specs.declared.message.Request.{Request}
use Rattle.oci_transport.specs.declared.message.AnswerHead.{AnswerHead}
use Rattle.oci_transport.specs.declared.message.Exchange.{Exchange}
use Rattle.oci_protocol.specs.Proto.{read_none, Headed}
use Rattle.oci_protocol.specs.Runs.{Replies}
use Rattle.oci_protocol.specs.Follow.{Trail, Follows, IsFinal, Reaches, Misses, Cuts}
use Rattle.oci_protocol.proofs.Conversations.{Extends-none, Extends-more}

-- one more exchange
trail_more : (n : ℕ) (request : Request) (m : ℕ) (c : List Exchange) (left : ℕ) (last : Request) (after : ℕ) (e : Exchange) (between : ℕ) (head : AnswerHead) (next : Request)
    → Trail n request m c (suc left) last after → redirected last head ≡ Some next → Replies last read_none after e between (Headed head) → Trail n request m (c ++ e ∷ []) left next between
unfolding Trail
trail_more n request m [] left last after e between head next t to replies =
    rw (t.0, t.1, t.2) (between, head, next, to, replies, (refl, refl, refl))
trail_more zero request m (f ∷ c) left last after e between head next t to replies = absurd t
trail_more (suc n) request m (f ∷ c) left last after e between head next t to replies = (t.0, t.1, t.2, t.3, t.4, trail_more n t.2 t.0 c left last after e between head next t.5 to replies)

pub follows_none : (n : ℕ) (request last : Request) (link : Link) → last ≡ request → Follows n request n last link link
unfolding Trail
follows_none n request last link is = record { conversation = []; told = Extends-none link; trail = (refl, sym is, refl) }

headed_replies : (request : Request) (head : AnswerHead) (body : List ℕ) (before after : ℕ) → before ≤ after → Replies request read_none before (record { request = request; answer = Some (answer_of head body); faults = before }) after (Headed head)
unfolding read_none
headed_replies request head body before after le = record { request_is = refl; faults_is = refl; count = le; reply_is = (body, refl, refl); fails_as = tt }

pub follows_more : (n : ℕ) (request : Request) (left left' : ℕ) (last next : Request) (head : AnswerHead) (old mid new : Link) → Follows n request left last old mid → left ≡ suc left' → Answers last head mid new → mid.faults ≤ new.faults → Some next ≡ redirected last head → Follows n request left' next old new
follows_more n request left left' last next head old mid new follows is sent le to = record {
  conversation = follows.conversation ++ record { request = last; answer = Some (answer_of head sent.body); faults = mid.faults } ∷ [];
  told = Extends-more old mid new follows.conversation _ follows.told sent.added;
  trail = trail_more n request old.faults follows.conversation left' last mid.faults _ new.faults head next (rw is at follows.trail) (sym to) (headed_replies last head sent.body mid.faults new.faults le);
}

-- one redirect fewer is left
one_less : (left : ℕ) → left ≢ 0 → left ≡ suc (left - 1)
one_less zero h = absurd (h refl)
one_less (suc n) h = ap suc (omega arith)

pub follows_next : (n : ℕ) (request : Request) (left : ℕ) (last next : Request) (head : AnswerHead) (old mid new : Link) → Follows n request left last old mid → left ≢ 0 → Answers last head mid new → mid.faults ≤ new.faults → Some next ≡ redirected last head → Follows n request (left - 1) next old new
follows_next n request left last next head old mid new follows some sent le to = follows_more n request left (left - 1) last next head old mid new follows (one_less left some) sent le to

pub trail_count : (n : ℕ) (request : Request) (m : ℕ) (c : List Exchange) (left : ℕ) (last : Request) (after : ℕ) → Trail n request m c left last after → m ≤ after
unfolding Trail
trail_count n request m [] left last after t = omega (arith, t.2)
trail_count zero request m (e ∷ c) left last after t = absurd t
trail_count (suc n) request m (e ∷ c) left last after t = omega (arith, t.4.count, trail_count n t.2 t.0 c left last after t.5)

pub follows_count : (n : ℕ) (request : Request) (left : ℕ) (last : Request) (old new : Link) → Follows n request left last old new → old.faults ≤ new.faults
follows_count n request left last old new f = trail_count n request old.faults f.conversation left last new.faults f.trail

pub reaches : (n : ℕ) (request : Request) (left : ℕ) (last : Request) (head : AnswerHead) (old mid new : Link) → Follows n request left last old mid → Answers last head mid new → mid.faults ≤ new.faults → IsFinal left last head → Reaches n request head last old new
reaches n request left last head old mid new follows sent le final = record { left = left; mid = mid; follows = follows; final = final; sent = sent; count = le }

pub reaches_limit : (n : ℕ) (request : Request) (left : ℕ) (last : Request) (head : AnswerHead) (old mid new : Link) → Follows n request left last old mid → Answers last head mid new → mid.faults ≤ new.faults → left ≡ 0 → Reaches n request head last old new
reaches_limit n request left last head old mid new follows sent le none = reaches n request left last head old mid new follows sent le (inl none)

pub reaches_end : (n : ℕ) (request : Request) (left : ℕ) (last : Request) (head : AnswerHead) (old mid new : Link) → Follows n request left last old mid → Answers last head mid new → mid.faults ≤ new.faults → None ≡ redirected last head → Reaches n request head last old new
reaches_end n request left last head old mid new follows sent le none = reaches n request left last head old mid new follows sent le (inr (sym none))

pub misses : (n : ℕ) (request : Request) (left : ℕ) (last : Request) (old mid new : Link) → Follows n request left last old mid → AddsUnanswered last mid new → Increased mid.faults new.faults → mid.faults ≤ new.faults → Misses n request old new
misses n request left last old mid new follows added rose le = record { left = left; last = last; mid = mid; follows = follows; added = added; rose = rose; count = le }

pub cuts : (n : ℕ) (request : Request) (left : ℕ) (last : Request) (old mid new : Link) → Follows n request left last old mid → AddsAtMost last mid new → mid.faults ≤ new.faults → Cuts n request old new
cuts n request left last old mid new follows cut le = record { left = left; last = last; mid = mid; follows = follows; cut = cut; count = le }

-- memory ran out after the response was received
pub answered_at_most : (last : Request) (head : AnswerHead) (old new : Link) → Answers last head old new → AddsAtMost last old new
answered_at_most last head old new sent = record { conversation = _; added = sent.added; most = (refl, refl) }

pub cuts_answered : (n : ℕ) (request : Request) (left : ℕ) (last : Request) (head : AnswerHead) (old mid new : Link) → Follows n request left last old mid → Answers last head mid new → mid.faults ≤ new.faults → Cuts n request old new
cuts_answered n request left last head old mid new follows sent le = cuts n request left last old mid new follows (answered_at_most last head mid new sent) le

pub cuts_start : (n : ℕ) (request : Request) (link : Link) → Cuts n request link link
cuts_start n request link = cuts n request n request link link link (follows_none n request request link refl) (record { conversation = []; added = Extends-none link; most = tt }) (omega arith)
