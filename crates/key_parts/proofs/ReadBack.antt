-- An envelope's text parses to the envelope of its parts.
use Rattle.std.proofs.Common.{◌≡◌, ℕ, List, [], ◌∷◌, ◌++◌, Option, Some, refl, ap, sym, ◌∙◌, codes, append_assoc}
use Rattle.std.specs.Prelude.{option_and_then}
use Rattle.std.specs.Str.{IsUtf8}
use Rattle.base64.specs.Engines.{standard}
use Rattle.base64.specs.GeneralPurpose.{encode_of, decoded_of}
use Rattle.json.specs.Token.{Token, begin_object, end_object, key, string, number}
use Rattle.json.specs.Lex.{tokens}
use Rattle.json.specs.Json as json
use Rattle.json.specs.Print.{escape, escape_byte, quoted, print, print_from, ArePrintable}
use Rattle.json.specs.Word.{after_number}
use Rattle.json.proofs.Printed.Tokens.{tokens-print}
use Rattle.serde_json.specs.Data as json_data
use Rattle.serde_json.specs.Data.{Data}
use Rattle.serde_json.specs.Read.{read, of_json, max_depth}
use Rattle.serde_json.proofs.OnLiterals.{serde_json_on_literals}
use Rattle.json_tables.specs.Plain.{read_plain}
use Rattle.json_values.specs.JsonText.{json_of}
use Rattle.json_values.proofs.JsonTexts.{json_of-read}
use Rattle.key_parts.specs.Envelope.{envelope_of, envelope_text, envelope_with}

-- the text before each of the three values
abbrev to_salt : List ℕ
to_salt = codes "{\"kdf\":{\"name\":\"scrypt\",\"params\":{\"N\":32768,\"r\":8,\"p\":1},\"salt\":"

abbrev to_nonce : List ℕ
to_nonce = codes "},\"cipher\":{\"name\":\"nacl/secretbox\",\"nonce\":"

abbrev to_ciphertext : List ℕ
to_ciphertext = codes "},\"ciphertext\":"

-- the envelope of three texts
abbrev text_of : List ℕ → List ℕ → List ℕ → List ℕ
text_of s n c =
    codes "{\"kdf\":{\"name\":\"scrypt\",\"params\":{\"N\":32768,\"r\":8,\"p\":1},\"salt\":\"" ++ s
    ++ codes "\"},\"cipher\":{\"name\":\"nacl/secretbox\",\"nonce\":\"" ++ n
    ++ codes "\"},\"ciphertext\":\"" ++ c ++ codes "\"}"

abbrev tokens_of : List ℕ → List ℕ → List ℕ → List Token
tokens_of s n c =
    begin_object ∷ key (codes "kdf") ∷ begin_object ∷ key (codes "name") ∷ string (codes "scrypt")
    ∷ key (codes "params") ∷ begin_object ∷ key (codes "N") ∷ number (codes "32768")
    ∷ key (codes "r") ∷ number (codes "8") ∷ key (codes "p") ∷ number (codes "1") ∷ end_object
    ∷ key (codes "salt") ∷ string s ∷ end_object
    ∷ key (codes "cipher") ∷ begin_object ∷ key (codes "name") ∷ string (codes "nacl/secretbox")
    ∷ key (codes "nonce") ∷ string n ∷ end_object
    ∷ key (codes "ciphertext") ∷ string c ∷ end_object ∷ []

-- the data of the text: the members in the order of their names
abbrev data_of : List ℕ → List ℕ → List ℕ → Data
data_of s n c = json_data.object
    (json_data.member (codes "cipher") (json_data.object
    (json_data.member (codes "name") (json_data.string (codes "nacl/secretbox"))
    (json_data.member (codes "nonce") (json_data.string n) json_data.no_members)))
    (json_data.member (codes "ciphertext") (json_data.string c)
    (json_data.member (codes "kdf") (json_data.object
    (json_data.member (codes "name") (json_data.string (codes "scrypt"))
    (json_data.member (codes "params") (json_data.object
    (json_data.member (codes "N") (json_data.number (json_data.unsigned 32768))
    (json_data.member (codes "p") (json_data.number (json_data.unsigned 1))
    (json_data.member (codes "r") (json_data.number (json_data.unsigned 8)) json_data.no_members))))
    (json_data.member (codes "salt") (json_data.string s) json_data.no_members))))
    json_data.no_members)))

printed : (s n c : List ℕ) → print (tokens_of s n c) ≡ to_salt ++ (quoted s ++ (to_nonce ++ (quoted n ++ (to_ciphertext ++ (quoted c ++ codes "}")))))
unfolding print_from escape_byte
printed s n c = refl

-- the JSON string of a text without escapes is the text in quotes
quoted_as_is : (s rest : List ℕ) → escape s ≡ s → quoted s ++ rest ≡ 34 ∷ (s ++ 34 ∷ rest)
quoted_as_is s rest plain = ap (λ e. 34 ∷ ((e ++ 34 ∷ []) ++ rest)) plain ∙ ap (λ l. 34 ∷ l) (append_assoc s (34 ∷ []) rest)

joined : (a s b n d c e : List ℕ) → a ++ s ++ b ++ n ++ d ++ c ++ e ≡ a ++ (s ++ (b ++ (n ++ (d ++ (c ++ e)))))
joined a s b n d c e =
    append_assoc (a ++ s ++ b ++ n ++ d) c e
    ∙ append_assoc (a ++ s ++ b ++ n) d (c ++ e)
    ∙ append_assoc (a ++ s ++ b) n (d ++ (c ++ e))
    ∙ append_assoc (a ++ s) b (n ++ (d ++ (c ++ e)))
    ∙ append_assoc a s (b ++ (n ++ (d ++ (c ++ e))))

printed_as_is : (s n c : List ℕ) → escape s ≡ s → escape n ≡ n → escape c ≡ c → print (tokens_of s n c) ≡ text_of s n c
printed_as_is s n c hs hn hc =
    let last = quoted_as_is c (codes "}") hc in
    let middle = quoted_as_is n (to_ciphertext ++ (quoted c ++ codes "}")) hn ∙ ap (λ l. 34 ∷ (n ++ 34 ∷ (to_ciphertext ++ l))) last in
    let first = quoted_as_is s (to_nonce ++ (quoted n ++ (to_ciphertext ++ (quoted c ++ codes "}")))) hs ∙ ap (λ l. 34 ∷ (s ++ 34 ∷ (to_nonce ++ l))) middle in
    printed s n c ∙ ap (λ l. to_salt ++ l) first ∙ sym (joined (to_salt ++ codes "\"") s (codes "\"" ++ to_nonce ++ codes "\"") n (codes "\"" ++ to_ciphertext ++ codes "\"") c (codes "\"}"))

printable : (s n c : List ℕ) → ArePrintable (tokens_of s n c)
unfolding ArePrintable after_number
printable s n c =
    (tt, (tt, (tt, (tt, (tt, (tt, (tt, (tt, (refl, (tt, (refl, (tt, (refl, (tt, (tt, (tt, (tt, (tt, (tt, (tt, (tt, (tt, (tt, (tt, (tt, (tt, (tt, tt)))))))))))))))))))))))))))

lexed : (s n c : List ℕ) → escape s ≡ s → escape n ≡ n → escape c ≡ c → tokens (text_of s n c) ≡ tokens_of s n c
lexed s n c hs hn hc = ap tokens (sym (printed_as_is s n c hs hn hc)) ∙ tokens-print (tokens_of s n c) (printable s n c)

-- the data of the tokens
abbrev said : List Token → Option Data
said ts = option_and_then of_json (option_and_then (λ p. json.if_last p.0 p.1) (json.value max_depth ts))

says : (s n c : List ℕ) → said (tokens_of s n c) ≡ Some (data_of s n c)
unfolding serde_json_on_literals
says s n c = refl

reads : (s n c : List ℕ) → escape s ≡ s → escape n ≡ n → escape c ≡ c → read (text_of s n c) ≡ Some (data_of s n c)
reads s n c hs hn hc = ap said (lexed s n c hs hn hc) ∙ says s n c

tabled : (salt nonce ciphertext s n c : List ℕ)
    → decoded_of standard s ≡ Some salt → decoded_of standard n ≡ Some nonce → decoded_of standard c ≡ Some ciphertext
    → envelope_of (data_of s n c) ≡ Some (envelope_with salt nonce ciphertext)
tabled salt nonce ciphertext s n c hs hn hc = rw (hs, hn, hc) refl

-- the base64 of these bytes needs no escapes, and decodes to them
pub record IsCoded (bytes : List ℕ) : Type 0 where
  pub plain : escape (encode_of standard bytes) ≡ encode_of standard bytes
  pub back : decoded_of standard (encode_of standard bytes) ≡ Some bytes

pub read_back : (salt nonce ciphertext : List ℕ)
    → IsUtf8 (envelope_text salt nonce ciphertext) → IsCoded salt → IsCoded nonce → IsCoded ciphertext
    → read_plain envelope_of (envelope_text salt nonce ciphertext) ≡ Some (envelope_with salt nonce ciphertext)
read_back salt nonce ciphertext utf8 hs hn hc =
    let s : List ℕ = encode_of standard salt in
    let n : List ℕ = encode_of standard nonce in
    let c : List ℕ = encode_of standard ciphertext in
    let said : json_of (envelope_text salt nonce ciphertext) ≡ Some (data_of s n c) = json_of-read (envelope_text salt nonce ciphertext) (data_of s n c) utf8 (reads s n c hs.plain hn.plain hc.plain) in
    rw said (tabled salt nonce ciphertext s n c hs.back hn.back hc.back)
