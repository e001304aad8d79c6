-- The text that a log signs is the canonical one.
use Rattle.std.proofs.Common.{◌≡◌, ℕ, ℤ, pos, negsuc, List, [], ◌∷◌, Bool, true, false, IsTrue, Some, None, refl, sym, ap, ◌∙◌, ◌++◌, append_assoc, codes}
use Rattle.std.specs.Prelude.{int_lt, if◌then◌else◌}
use Rattle.std.proofs.lemmas.Bool.{le-leb, ltb-false}
use Rattle.std.specs.Fmt.{signed_decimal}
use Rattle.std.specs.List.Sorted.{IsStrictlySortedBy}
use Rattle.std.specs.Str.{chars}
use Rattle.std.proofs.lemmas.List.Sorted.{IsPermutation-refl}
use Rattle.json_values.specs.Canon.{quoted_text}
use Rattle.json_events.specs.Canonical.{Canonical, Entry, Rises, in_range, object_text}
use Rattle.json_events.specs.Units.{units}
use Rattle.cosign_parts.specs.LogEntry.{IsInLog, whole, log_text, TextsAreCanonical}
use Rattle.cosign_parts.specs.declared.log_entry.LogEntryBundle.{LogEntryBundle}

abbrev greatest : ℕ
greatest = 9007199254740991

within_range : (n : ℕ) → IsInLog (pos n) → IsTrue (in_range (pos n))
within_range n h = by_tests (int_lt (pos n) (pos 0)) (int_lt (pos greatest) (pos n)) refl h where
  by_tests : (a b : Bool) → int_lt (pos greatest) (pos n) ≡ b → (if a then None else (if b then None else Some (pos n))) ≡ Some (pos n) → IsTrue (in_range (pos n))
  by_tests true b is h = cc
  by_tests false true is h = cc
  by_tests false false is h = le-leb n greatest (ltb-false greatest n is)

whole_text : (z : ℤ) → IsInLog z → Canonical (whole z) (signed_decimal z)
whole_text (pos n) h = (pos n, refl, within_range n h, refl)
whole_text (negsuc n) h = cc

abbrev members : LogEntryBundle → List Entry
members e =
    (codes "body", quoted_text e.body)
    ∷ (codes "integratedTime", signed_decimal e.integrated_time)
    ∷ (codes "logID", quoted_text e.log_id)
    ∷ (codes "logIndex", signed_decimal e.log_index)
    ∷ []

names_rise : (e : LogEntryBundle) → Rises (members e)
unfolding units chars IsStrictlySortedBy
names_rise e = ((refl, (refl, (refl, tt))), ((refl, (refl, tt)), ((refl, tt), (tt, tt))))

pub canonical : TextsAreCanonical
canonical e range = (
  members e,
  (refl, refl, (refl, whole_text e.integrated_time range.time, (refl, refl, (refl, whole_text e.log_index range.index, tt)))),
  record { order = members e; same = IsPermutation-refl (members e); rises = names_rise e; text = refl },
)

-- ---- how the text is put together

left : (s1 v1 s2 v2 s3 v3 s4 v4 z : List ℕ) → s1 ++ v1 ++ s2 ++ v2 ++ s3 ++ v3 ++ s4 ++ v4 ++ z ≡ s1 ++ (v1 ++ (s2 ++ (v2 ++ (s3 ++ (v3 ++ (s4 ++ (v4 ++ z)))))))
left s1 v1 s2 v2 s3 v3 s4 v4 z =
    append_assoc (s1 ++ v1 ++ s2 ++ v2 ++ s3 ++ v3 ++ s4) v4 z
    ∙ append_assoc (s1 ++ v1 ++ s2 ++ v2 ++ s3 ++ v3) s4 (v4 ++ z)
    ∙ append_assoc (s1 ++ v1 ++ s2 ++ v2 ++ s3) v3 (s4 ++ (v4 ++ z))
    ∙ append_assoc (s1 ++ v1 ++ s2 ++ v2) s3 (v3 ++ (s4 ++ (v4 ++ z)))
    ∙ append_assoc (s1 ++ v1 ++ s2) v2 (s3 ++ (v3 ++ (s4 ++ (v4 ++ z))))
    ∙ append_assoc (s1 ++ v1) s2 (v2 ++ (s3 ++ (v3 ++ (s4 ++ (v4 ++ z)))))
    ∙ append_assoc s1 v1 (s2 ++ (v2 ++ (s3 ++ (v3 ++ (s4 ++ (v4 ++ z))))))

right : (v1 s2 v2 s3 v3 s4 v4 z : List ℕ) → (v1 ++ (s2 ++ (v2 ++ (s3 ++ (v3 ++ (s4 ++ v4)))))) ++ z ≡ v1 ++ (s2 ++ (v2 ++ (s3 ++ (v3 ++ (s4 ++ (v4 ++ z))))))
right v1 s2 v2 s3 v3 s4 v4 z =
    append_assoc v1 (s2 ++ (v2 ++ (s3 ++ (v3 ++ (s4 ++ v4))))) z
    ∙ ap (λ t. v1 ++ t) (append_assoc s2 (v2 ++ (s3 ++ (v3 ++ (s4 ++ v4)))) z
    ∙ ap (λ t. s2 ++ t) (append_assoc v2 (s3 ++ (v3 ++ (s4 ++ v4))) z
    ∙ ap (λ t. v2 ++ t) (append_assoc s3 (v3 ++ (s4 ++ v4)) z
    ∙ ap (λ t. s3 ++ t) (append_assoc v3 (s4 ++ v4) z
    ∙ ap (λ t. v3 ++ t) (append_assoc s4 v4 z)))))

-- the pieces of the text, concatenated
pub text_is : (body time id index : List ℕ)
    → codes "{\"body\":" ++ body ++ codes ",\"integratedTime\":" ++ time ++ codes ",\"logID\":" ++ id ++ codes ",\"logIndex\":" ++ index ++ codes "}"
    ≡ object_text ((codes "body", body) ∷ (codes "integratedTime", time) ∷ (codes "logID", id) ∷ (codes "logIndex", index) ∷ [])
text_is body time id index =
    left (codes "{\"body\":") body (codes ",\"integratedTime\":") time (codes ",\"logID\":") id (codes ",\"logIndex\":") index (codes "}")
    ∙ ap (λ t. codes "{\"body\":" ++ t) (sym (right body (codes ",\"integratedTime\":") time (codes ",\"logID\":") id (codes ",\"logIndex\":") index (codes "}")))

-- the same, one after another
pub put_together : (t0 t1 t2 t3 t4 t5 t6 t7 t8 : List ℕ) (e : LogEntryBundle)
    → t0 ≡ codes "{\"body\":" → t1 ≡ t0 ++ quoted_text e.body
    → t2 ≡ t1 ++ codes ",\"integratedTime\":" → t3 ≡ t2 ++ signed_decimal e.integrated_time
    → t4 ≡ t3 ++ codes ",\"logID\":" → t5 ≡ t4 ++ quoted_text e.log_id
    → t6 ≡ t5 ++ codes ",\"logIndex\":" → t7 ≡ t6 ++ signed_decimal e.log_index
    → t8 ≡ t7 ++ codes "}" → t8 ≡ log_text e
put_together t0 t1 t2 t3 t4 t5 t6 t7 t8 e e0 e1 e2 e3 e4 e5 e6 e7 e8 =
    e8 ∙ ap (λ t. t ++ codes "}")
    (e7 ∙ ap (λ t. t ++ signed_decimal e.log_index)
    (e6 ∙ ap (λ t. t ++ codes ",\"logIndex\":")
    (e5 ∙ ap (λ t. t ++ quoted_text e.log_id)
    (e4 ∙ ap (λ t. t ++ codes ",\"logID\":")
    (e3 ∙ ap (λ t. t ++ signed_decimal e.integrated_time)
    (e2 ∙ ap (λ t. t ++ codes ",\"integratedTime\":")
    (e1 ∙ ap (λ t. t ++ quoted_text e.body) e0)))))))
    ∙ text_is (quoted_text e.body) (signed_decimal e.integrated_time) (quoted_text e.log_id) (signed_decimal e.log_index)
