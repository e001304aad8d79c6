-- What each token says of the names of an object's members.
use Rattle.std.proofs.Common.{◌≡◌, ℕ, zero, suc, ◌-◌, List, [], ◌∷◌, length, Bool, true, false, Option, Some, None, option_map, option_and_then, refl, sym, ◌∙◌, arith}
use Rattle.std.specs.Prelude.{is_some, IfSome}
use Rattle.json.specs.Token.{Token}
use Rattle.json.specs.Json as json
use Rattle.json.specs.Json.{Json, parse_map, read_key, members, value, value_with, skip_value, if_last}
use Rattle.json.proofs.Grammar.{value_is, value-begin_object, members_no_key, members_fail, members_more, left_none, left_some}
use Rattle.serde_json.specs.Data.{Num, Data, number, array, object, Items, Members, no_members, put}
use Rattle.serde_json.specs.Read.{number_of, of_json, of_items, of_members, converted}
use Rattle.json_tables.specs.Objects.{only, names_within}
use Rattle.json_tables.specs.Tokens.{opens_object, DecidesOnly, DecidesRest}
use Rattle.json_tables.proofs.Names.{among, Within, first_out, put_in}

module _ (names : List (List ℕ)) where
  -- what is decided of what was read
  abbrev Decided : Bool → Option (Members × List Token) → Type 0
  Decided b o = IfSome o (λ p. b ≡ names_within names p.0)

  abbrev read_into : Members → Option (json.Members × List Token) → Option (Members × List Token)
  read_into found o = converted (λ ms. of_members ms found) o

  with_rest : (b : Bool) (x : Option Members) (r : List Token) → Within names b x → Decided b (option_map (λ ms. (ms, r)) x)
  with_rest b None r w = tt
  with_rest b (Some ms) r w = w

  -- ---- a member with another name

  out_rest : (k : List ℕ) (j : Json) (found : Members) (o : Option (json.Members × List Token)) → among names k ≡ false
      → Decided false (read_into found (parse_map (json.member k j) o))
  out_rest k j found None a = tt
  out_rest k j found (Some p) a = with_rest false (of_members (json.member k j p.0) found) p.1 (first_out names k j p.0 found a)

  out_value : (k : List ℕ) (found : Members) (more : json.Parse json.Members) (o : Option (Json × List Token)) → among names k ≡ false
      → Decided false (read_into found (option_and_then (λ q. parse_map (json.member k q.0) (more q.1)) o))
  out_value k found more None a = tt
  out_value k found more (Some q) a = out_rest k q.0 found (more q.1) a

  pub other_name : (k : List ℕ) (ts s : List Token) → read_key ts ≡ Some (Some k, s) → among names k ≡ false → DecidesRest names ts false
  unfolding members
  other_name k ts s key a zero found within = tt
  other_name k ts s key a (suc n) found within = rw key (out_value k found (members (value 126) n) (value 126 s) a)

  -- ---- the members end, or are no JSON

  pub at_end : (ts s : List Token) → read_key ts ≡ Some (None, s) → DecidesRest names ts true
  unfolding members
  at_end ts s key zero found within = tt
  at_end ts s key (suc n) found within = rw key (sym within)

  pub no_name : (b : Bool) (ts : List Token) → read_key ts ≡ None → DecidesRest names ts b
  no_name b ts key n found within = rw (members_no_key (value 126) n ts key) tt

  pub no_value : (b : Bool) (k : List ℕ) (ts s : List Token) → read_key ts ≡ Some (Some k, s) → skip_value 126 s ≡ None → DecidesRest names ts b
  no_value b k ts s key none n found within = rw (members_fail (value 126) n k ts s key (left_none (value 126 s) none)) tt

  -- ---- one more member with one of the names

  known_value : (b : Bool) (k : List ℕ) (j : Json) (found : Members) (d : Data) → of_json j ≡ Some d
      → (o : Option (json.Members × List Token)) → Decided b (read_into (put k d found) o) → Decided b (read_into found (parse_map (json.member k j) o))
  known_value b k j found d e None h = tt
  known_value b k j found d e (Some p) h = rw e h

  refused_value : (b : Bool) (k : List ℕ) (j : Json) (found : Members) → of_json j ≡ None
      → (o : Option (json.Members × List Token)) → Decided b (read_into found (parse_map (json.member k j) o))
  refused_value b k j found e None = tt
  refused_value b k j found e (Some p) = rw e tt

  more_data : (b : Bool) (k : List ℕ) (r : List Token) (j : Json) → among names k ≡ true → DecidesRest names r b
      → (n : ℕ) (found : Members) → names_within names found ≡ true → (x : Option Data) → of_json j ≡ x
      → Decided b (read_into found (parse_map (json.member k j) (members (value 126) n r)))
  more_data b k r j a rest n found within None e = refused_value b k j found e (members (value 126) n r)
  more_data b k r j a rest n found within (Some d) e =
      known_value b k j found d e (members (value 126) n r) (rest n (put k d found) (put_in names k d found a within))

  no_turn : (b : Bool) (ts : List Token) (found : Members) → Decided b (read_into found (members (value 126) zero ts))
  unfolding members
  no_turn b ts found = tt

  pub one_more : (b : Bool) (k : List ℕ) (ts s r : List Token) → read_key ts ≡ Some (Some k, s) → skip_value 126 s ≡ Some r → among names k ≡ true → DecidesRest names r b → DecidesRest names ts b
  one_more b k ts s r key passed a rest zero found within = no_turn b ts found
  one_more b k ts s r key passed a rest (suc n) found within =
      let j = left_some (value 126 s) r passed in
      rw (members_more (value 126) (suc n) k ts s r j.0 (omega arith) key j.1) (more_data b k r j.0 a rest (suc n - 1) found within (of_json j.0) refl)

  -- ---- the first token

  decided : (ms : Members) (w : Bool) → names_within names ms ≡ w → w ≡ is_some (only names (object ms))
  decided ms true e = rw e refl
  decided ms false e = rw e refl

  object_data : (b : Bool) (x : Option Members) → Within names b x → IfSome (option_map object x) (λ d. b ≡ is_some (only names d))
  object_data b None w = tt
  object_data b (Some ms) w = w ∙ decided ms (names_within names ms) refl

  without_rest : (b : Bool) (x : Option Members) (r : List Token) → Decided b (option_map (λ ms. (ms, r)) x) → Within names b x
  without_rest b None r h = tt
  without_rest b (Some ms) r h = h

  object_read : (b : Bool) (o : Option (json.Members × List Token)) → Decided b (read_into no_members o)
      → IfSome (option_and_then of_json (option_and_then (λ p. if_last p.0 p.1) (parse_map json.object o))) (λ d. b ≡ is_some (only names d))
  object_read b None h = tt
  object_read b (Some (ms, [])) h = object_data b (of_members ms no_members) (without_rest b (of_members ms no_members) [] h)
  object_read b (Some (ms, t ∷ r)) h = tt

  from_object : (b : Bool) (ts : List Token) → DecidesRest names ts b → DecidesOnly names (Token.begin_object ∷ ts) b
  from_object b ts rest =
      rw (value-begin_object 127 ts (omega arith)) (object_read b (members (value 126) (length ts) ts) (rest (length ts) no_members refl))

  pub from_token : (b : Bool) (t : Token) (ts : List Token) → opens_object t ≡ true → DecidesRest names ts b → DecidesOnly names (t ∷ ts) b
  from_token b Token.begin_object ts e rest = from_object b ts rest
  from_token b Token.end_object ts e rest = absurd (cc)
  from_token b Token.begin_array ts e rest = absurd (cc)
  from_token b Token.end_array ts e rest = absurd (cc)
  from_token b (Token.key s) ts e rest = absurd (cc)
  from_token b (Token.string s) ts e rest = absurd (cc)
  from_token b (Token.number s) ts e rest = absurd (cc)
  from_token b (Token.boolean x) ts e rest = absurd (cc)
  from_token b Token.null ts e rest = absurd (cc)
  from_token b Token.bad ts e rest = absurd (cc)

  -- ---- another first token

  abbrev whole : Option (Json × List Token) → Option Data
  whole o = option_and_then of_json (option_and_then (λ p. if_last p.0 p.1) o)

  abbrev Refused : Option Data → Type 0
  Refused x = IfSome x (λ d. false ≡ is_some (only names d))

  no_number : (x : Option Num) → Refused (option_map number x)
  no_number None = tt
  no_number (Some n) = refl

  no_items : (x : Option Items) → Refused (option_map array x)
  no_items None = tt
  no_items (Some ds) = refl

  array_read : (o : Option (json.Items × List Token)) → Refused (whole (parse_map json.array o))
  array_read None = tt
  array_read (Some (js, [])) = no_items (of_items js)
  array_read (Some (js, t ∷ r)) = tt

  other_token : (a : json.Parse json.Items) (o : json.Parse json.Members) (t : Token) (ts : List Token) → opens_object t ≡ false → Refused (whole (value_with a o (t ∷ ts)))
  other_token a o Token.begin_object ts e = absurd (cc)
  other_token a o Token.end_object ts e = tt
  other_token a o Token.begin_array ts e = array_read (a ts)
  other_token a o Token.end_array ts e = tt
  other_token a o (Token.key s) ts e = tt
  other_token a o (Token.string s) [] e = refl
  other_token a o (Token.string s) (t ∷ ts) e = tt
  other_token a o (Token.number s) [] e = no_number (number_of s)
  other_token a o (Token.number s) (t ∷ ts) e = tt
  other_token a o (Token.boolean b) [] e = refl
  other_token a o (Token.boolean b) (t ∷ ts) e = tt
  other_token a o Token.null [] e = refl
  other_token a o Token.null (t ∷ ts) e = tt
  other_token a o Token.bad ts e = tt

  pub no_object : (t : Token) (ts : List Token) → opens_object t ≡ false → DecidesOnly names (t ∷ ts) false
  no_object t ts e = rw (value_is 127 (t ∷ ts)) (other_token _ _ t ts e)

  pub no_token : DecidesOnly names [] false
  no_token = rw (value_is 127 []) tt
