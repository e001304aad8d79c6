-- The grammar of references as sets of texts: path, tag and digest as in the OCI distribution and image
-- specifications, and the domain as in container clients.
use Rattle.std.specs.Prelude.{◌≡◌, ◌≢◌, ◌≤◌, ◌==◌, ◌⊎◌, ℕ, List, [], ◌∷◌, ◌++◌, Bool, IsTrue, IfSome, length, codes}
use Rattle.std.specs.List.{list_all}
use Rattle.std.specs.Char.{is_ascii_alphanumeric, is_ascii_digit, is_ascii_hexdigit}
use Rattle.oci_names.specs.Grammar.{is_path_letter, is_tag_start, is_tag_byte}
use Rattle.oci_names.specs.Parts.{Parts}

-- one or more of these characters
abbrev pub Run : (ℕ → Bool) → List ℕ → Type 0
Run letter text = (text ≢ []) × IsTrue (list_all letter text)

-- one item, or several with a separator between each two
pub data Joined (Item Separator : List ℕ → Type 0) : List ℕ → Type 0 where
  alone : (text : List ℕ) → Item text → Joined Item Separator text
  more : (text item gap rest : List ℕ) → text ≡ item ++ (gap ++ rest)
      → Item item → Separator gap → Joined Item Separator rest → Joined Item Separator text

abbrev pub Dashes : List ℕ → Type 0
Dashes gap = Run (λ b. b == 45) gap

-- letters and digits, with dashes between them
abbrev pub DomainComponent : List ℕ → Type 0
DomainComponent text = Joined (Run is_ascii_alphanumeric) Dashes text

abbrev pub Host : List ℕ → Type 0
Host text = Joined DomainComponent (λ gap. gap ≡ codes ".") text

-- a host, or a host, a colon and a port
abbrev pub Domain : List ℕ → Type 0
Domain text =
    Host text
    ⊎ ((host : List ℕ) × (port : List ℕ) × (text ≡ host ++ (codes ":" ++ port)) × Host host × Run is_ascii_digit port)

abbrev pub PathSeparator : List ℕ → Type 0
PathSeparator gap = (gap ≡ codes ".") ⊎ ((gap ≡ codes "_") ⊎ ((gap ≡ codes "__") ⊎ Dashes gap))

-- runs of lower-case letters and digits
abbrev pub PathComponent : List ℕ → Type 0
PathComponent text = Joined (Run is_path_letter) PathSeparator text

abbrev pub Path : List ℕ → Type 0
Path text = Joined PathComponent (λ gap. gap ≡ codes "/") text

-- a letter, a digit or an underscore, then up to 127 of these, dots and dashes
abbrev pub Tag : List ℕ → Type 0
Tag text =
    (first : ℕ) × (rest : List ℕ) × (text ≡ first ∷ rest)
    × IsTrue (is_tag_start first) × (length rest ≤ 127) × IsTrue (list_all is_tag_byte rest)

abbrev pub AlgorithmSeparator : List ℕ → Type 0
AlgorithmSeparator gap = (gap ≡ codes "+") ⊎ ((gap ≡ codes ".") ⊎ ((gap ≡ codes "_") ⊎ (gap ≡ codes "-")))

-- runs of letters and digits
abbrev pub Algorithm : List ℕ → Type 0
Algorithm text = Joined (Run is_ascii_alphanumeric) AlgorithmSeparator text

-- an algorithm, a colon and hexadecimal digits
abbrev pub Encoded : List ℕ → Type 0
Encoded text =
    (algorithm : List ℕ) × (digits : List ℕ) × (text ≡ algorithm ++ (codes ":" ++ digits))
    × Algorithm algorithm × Run is_ascii_hexdigit digits

-- each part is a word of the grammar
pub record InGrammar (p : Parts) : Type 0 where
  pub domain : Domain p.domain
  pub path : Path p.path
  pub tag : IfSome p.tag Tag
  pub digest : IfSome p.digest Encoded
