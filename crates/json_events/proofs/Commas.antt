-- Texts joined by commas, one after another.
use Rattle.std.proofs.Common.{◌≡◌, ℕ, List, [], ◌∷◌, ◌++◌, Bool, true, false, refl, sym, ap, ◌∙◌, append_assoc, append-nil, map, subst}
use Rattle.std.proofs.lemmas.List.{map_push}
use Rattle.std.specs.List.{join_with_byte}
use Rattle.serde_json.specs.Written.{comma_if}
use Rattle.json_events.specs.declared.property.JsonProperty.{JsonProperty}
use Rattle.json_events.specs.Members.{kept_text, kept_object}

-- whether the list is not empty
abbrev pub some : {X : Type 0} → List X → Bool
some [] = false
some (x ∷ xs) = true

pub join-snoc : (ts : List (List ℕ)) (t : List ℕ) → join_with_byte 44 (ts ++ t ∷ []) ≡ join_with_byte 44 ts ++ (comma_if (some ts) ++ t)
join-snoc [] t = refl
join-snoc (x ∷ []) t = refl
join-snoc (x ∷ y ∷ ts) t = ap (λ r. x ++ 44 ∷ r) (join-snoc (y ∷ ts) t) ∙ sym (append_assoc x (44 ∷ join_with_byte 44 (y ∷ ts)) _)

pub some-snoc : {X : Type 0} (xs : List X) (x : X) → some (xs ++ x ∷ []) ≡ true
some-snoc [] x = refl
some-snoc (y ∷ xs) x = refl

-- the text written so far, after an opening byte
pub record Joined (before now : List ℕ) (b : ℕ) (ts : List (List ℕ)) (later : Bool) : Type 0 where
  pub text : now ≡ before ++ b ∷ join_with_byte 44 ts
  pub begun : later ≡ some ts

pub joined_none : (before : List ℕ) (b : ℕ) → Joined before (before ++ b ∷ []) b [] false
joined_none before b = record { text = refl; begun = refl }

pub joined_more : (before now mid new : List ℕ) (b : ℕ) (ts : List (List ℕ)) (t : List ℕ) (later : Bool) → Joined before now b ts later
    → mid ≡ now ++ comma_if later → new ≡ mid ++ t → Joined before new b (ts ++ t ∷ []) true
joined_more before now mid new b ts t later so comma text = record {
  text = text ∙ ap (λ m. m ++ t) (comma ∙ ap (λ l. now ++ comma_if l) so.begun ∙ ap (λ n. n ++ comma_if (some ts)) so.text)
      ∙ append_assoc (before ++ b ∷ join_with_byte 44 ts) (comma_if (some ts)) t
      ∙ append_assoc before (b ∷ join_with_byte 44 ts) (comma_if (some ts) ++ t)
      ∙ ap (λ r. before ++ b ∷ r) (sym (join-snoc ts t));
  begun = sym (some-snoc ts t);
}

pub joined_end : (before now new : List ℕ) (b e : ℕ) (ts : List (List ℕ)) (later : Bool) → Joined before now b ts later → new ≡ now ++ e ∷ [] → new ≡ before ++ b ∷ (join_with_byte 44 ts ++ e ∷ [])
joined_end before now new b e ts later so text = text ∙ ap (λ n. n ++ e ∷ []) so.text ∙ append_assoc before (b ∷ join_with_byte 44 ts) (e ∷ [])

-- the members are written up to those that are left
pub record Writing (before now : List ℕ) (all left : List JsonProperty) (later : Bool) : Type 0 where
  pub done : List JsonProperty
  pub parts : all ≡ done ++ left
  pub joined : Joined before now 123 (map kept_text done) later

pub writing_none : (before now : List ℕ) (all left : List JsonProperty) → now ≡ before ++ 123 ∷ [] → left ≡ all → Writing before now all left false
writing_none before now all left text same = record { done = []; parts = sym same; joined = record { text = text; begun = refl } }

pub writing_more : (before now mid new : List ℕ) (all left rest : List JsonProperty) (p : JsonProperty) (later : Bool) → Writing before now all left later → left ≡ p ∷ rest
    → mid ≡ now ++ comma_if later → new ≡ mid ++ kept_text p → Writing before new all rest true
writing_more before now mid new all left rest p later so step comma text = record {
  done = so.done ++ p ∷ [];
  parts = so.parts ∙ ap (λ l. so.done ++ l) step ∙ sym (append_assoc so.done (p ∷ []) rest);
  joined = subst (λ ts. Joined before new 123 ts true) (sym (map_push kept_text so.done p)) (joined_more before now mid new 123 (map kept_text so.done) (kept_text p) later so.joined comma text);
}

pub writing_end : (before now new : List ℕ) (all left : List JsonProperty) (later : Bool) → Writing before now all left later → left ≡ [] → new ≡ now ++ 125 ∷ [] → new ≡ before ++ kept_object all
writing_end before now new all left later so none text =
    let whole : so.done ≡ all = sym (so.parts ∙ ap (λ l. so.done ++ l) none ∙ append-nil so.done) in
    joined_end before now new 123 125 (map kept_text so.done) later so.joined text ∙ ap (λ ps. before ++ kept_object ps) whole
