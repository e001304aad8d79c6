-- The exchanges of a request whose redirects are followed.
use Rattle.std.specs.Prelude.{◌≡◌, ℕ, List, ◌∷◌, ◌++◌}
use Rattle.oci_transport.specs.declared.message.Request.{Request}
use Rattle.oci_transport.specs.declared.message.AnswerHead.{AnswerHead}
use Rattle.oci_transport.specs.declared.message.Exchange.{Exchange}
use Rattle.oci_protocol.specs.Proto.{Reading, Reply, Headed, Answered, Proto}
use Rattle.oci_protocol.specs.Runs.{head_part, Replies, Runs}
use Rattle.oci_protocol.specs.Follow.{Trail, IsFinal}

-- a response that is known is not a redirect that is followed
abbrev pub Settles : ℕ → Request → Reply → Type 0
Settles left last (Headed head) = IsFinal left last head
Settles left last (Answered answer) = IsFinal left last (head_part answer)
Settles left last reply = Unit {0}

-- a run of a request whose redirects are followed: its redirects, the last exchange, then what the last reply leads to
pub record Trailed {K A : Type 0} (n : ℕ) (request : Request)
    (reading : AnswerHead → Reading) (next : Request → Reply → Proto K A) (k : K) (m : ℕ) (c : List Exchange)
    (after : ℕ) (l : K) (a : A) : Type 0 where
  pub redirects : List Exchange
  pub exchange : Exchange
  pub rest : List Exchange
  pub split : c ≡ redirects ++ exchange ∷ rest
  pub left : ℕ
  pub last : Request
  pub before : ℕ
  pub trail : Trail n request m redirects left last before
  pub count : ℕ
  pub reply : Reply
  pub replies : Replies last reading before exchange count reply
  pub settles : Settles left last reply
  pub runs : Runs (next last reply) k count rest after l a
