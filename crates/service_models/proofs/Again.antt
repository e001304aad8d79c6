-- Written models round-trip.
use Rattle.std.proofs.Common.{◌≡◌, ℕ, List, [], ◌∷◌, map, Bool, false, Option, Some, None, option_map, unwrap_or, refl, ap, ◌∙◌}
use Rattle.std.specs.List.{list_any}
use Rattle.serde_json.specs.Data.{Data, string}
use Rattle.serde_json.specs.Find.{get}
use Rattle.json_values.specs.Writing.{listed}
use Rattle.json_tables.specs.Reading.{text_of, i32_of, list_of}
use Rattle.json_tables.specs.Member.{present, unless_null}
use Rattle.json_tables.specs.Fields.{fields}
use Rattle.json_tables.specs.Again.{ReadsAgain, MemberReadsAgain}
use Rattle.json_tables.proofs.Members.{among, or_else, or_else-none, get-fields, fields_plain}
use Rattle.service_models.specs.declared.error.Error.{Error}
use Rattle.service_models.specs.declared.format.Format.{Format}
use Rattle.service_models.specs.declared.format.Format.TheVariants.{Pgp, X509, Minisign, Ssh, Tuf}
use Rattle.service_models.specs.declared.proposed_entry.ProposedEntry.{ProposedEntry}
use Rattle.service_models.specs.declared.all_of.EntryAllOf.{EntryAllOf}
use Rattle.service_models.specs.declared.inactive_shard.InactiveShardLogInfo.{InactiveShardLogInfo}
use Rattle.service_models.specs.declared.public_key.SearchIndexPublicKey.{SearchIndexPublicKey}
use Rattle.service_models.specs.declared.search_index.SearchIndex.{SearchIndex}
use Rattle.service_models.specs.declared.search_log_query.SearchLogQuery.{SearchLogQuery}
use Rattle.service_models.specs.Numbers.{whole}
use Rattle.service_models.specs.Error.{error_of, error_fields, error_written}
use Rattle.service_models.specs.ProposedEntry.{proposed_entry_of, proposed_entry_fields, proposed_entry_written, spec_has_float}
use Rattle.service_models.specs.AllOf as all
use Rattle.service_models.specs.AllOf.{all_of, all_of_fields, all_of_written}
use Rattle.service_models.specs.InactiveShard.{shard_of, shard_fields, shard_written}
use Rattle.service_models.specs.Format.{known_format, format_of, format_text, format_written}
use Rattle.service_models.specs.PublicKey.{public_key_of, public_key_fields, public_key_written}
use Rattle.service_models.specs.SearchIndex.{search_index_of, search_index_fields, search_index_written}
use Rattle.service_models.specs.SearchLogQuery.{query_of, query_fields, query_written, entries_have_float}

-- an option that round-trips, and its data
abbrev pub Optional : {X : Type 0} → (Data → Option X) → (X → Data) → Option X → Type 0
Optional f w x = MemberReadsAgain (unless_null f) (option_map w x) x false

abbrev pub Present : {X : Type 0} → (Data → Option X) → (X → Data) → X → Type 0
Present f w x = MemberReadsAgain (present f) (Some (w x)) x false

-- ---- error bodies

error_reads : (x : Error) (d : Data) → ((q : List ℕ) → get q d ≡ among q (error_fields x) None)
    → unless_null i32_of (option_map whole x.code) ≡ Some x.code
    → unless_null text_of (option_map string x.message) ≡ Some x.message
    → error_of d ≡ Some x
unfolding error_of
error_reads x d found code message = simp (found, or_else-none, code, message)

pub error_again : (x : Error) → Optional i32_of whole x.code → Optional text_of string x.message
    → ReadsAgain error_of (error_written x) x false
unfolding error_written
error_again x code message = record {
  reads = error_reads x _ (λ q. get-fields q (error_fields x)) code.reads message.reads;
  is_there = refl;
  plain = λ _. fields_plain (error_fields x) (simp (code.plain refl, message.plain refl));
}

-- ---- entries

entry_reads : (x : ProposedEntry) (d : Data) → ((q : List ℕ) → get q d ≡ among q (proposed_entry_fields x) None) → proposed_entry_of d ≡ Some x
unfolding proposed_entry_of
entry_reads x d found = simp (found)

pub proposed_entry_again : (x : ProposedEntry) → ReadsAgain proposed_entry_of (proposed_entry_written x) x (spec_has_float x)
unfolding proposed_entry_written
proposed_entry_again x = record {
  reads = entry_reads x _ (λ q. get-fields q (proposed_entry_fields x));
  is_there = refl;
  plain = λ none. fields_plain (proposed_entry_fields x) (simp (none));
}

all_of_reads : (x : EntryAllOf) (d : Data) → ((q : List ℕ) → get q d ≡ among q (all_of_fields x) None) → all_of d ≡ Some x
unfolding all_of
all_of_reads x d found = simp (found)

pub all_of_again : (x : EntryAllOf) → ReadsAgain all_of (all_of_written x) x (all.spec_has_float x)
unfolding all_of_written
all_of_again x = record {
  reads = all_of_reads x _ (λ q. get-fields q (all_of_fields x));
  is_there = refl;
  plain = λ none. fields_plain (all_of_fields x) (simp (none));
}

-- ---- shards

shard_reads : (x : InactiveShardLogInfo) (d : Data) → ((q : List ℕ) → get q d ≡ among q (shard_fields x) None) → shard_of d ≡ Some x
unfolding shard_of
shard_reads x d found = simp (found)

pub shard_again : (x : InactiveShardLogInfo) → ReadsAgain shard_of (shard_written x) x false
unfolding shard_written
shard_again x = record {
  reads = shard_reads x _ (λ q. get-fields q (shard_fields x));
  is_there = refl;
  plain = λ _. fields_plain (shard_fields x) refl;
}

-- ---- keys and searches

format_reads : (x : Format) → format_of (string (format_text x)) ≡ Some x
unfolding format_of known_format format_text
format_reads Pgp = refl
format_reads X509 = refl
format_reads Minisign = refl
format_reads Ssh = refl
format_reads Tuf = refl

pub format_again : (x : Format) → ReadsAgain format_of (format_written x) x false
unfolding format_written
format_again x = record { reads = format_reads x; is_there = refl; plain = λ _. refl }

public_key_reads : (x : SearchIndexPublicKey) (d : Data) → ((q : List ℕ) → get q d ≡ among q (public_key_fields x) None)
    → format_of (format_written x.format) ≡ Some x.format
    → unless_null text_of (option_map string x.content) ≡ Some x.content
    → unless_null text_of (option_map string x.url) ≡ Some x.url
    → public_key_of d ≡ Some x
unfolding public_key_of
public_key_reads x d found format content url = simp (found, or_else-none, format, content, url)

pub public_key_again : (x : SearchIndexPublicKey) → Present format_of format_written x.format → Optional text_of string x.content → Optional text_of string x.url
    → ReadsAgain public_key_of (public_key_written x) x false
unfolding public_key_written
public_key_again x format content url = record {
  reads = public_key_reads x _ (λ q. get-fields q (public_key_fields x)) format.reads content.reads url.reads;
  is_there = refl;
  plain = λ _. fields_plain (public_key_fields x) (simp (format.plain refl, content.plain refl, url.plain refl));
}

search_index_reads : (x : SearchIndex) (d : Data) → ((q : List ℕ) → get q d ≡ among q (search_index_fields x) None)
    → unless_null text_of (option_map string x.email) ≡ Some x.email
    → unless_null public_key_of (option_map public_key_written x.public_key) ≡ Some x.public_key
    → unless_null text_of (option_map string x.hash) ≡ Some x.hash
    → search_index_of d ≡ Some x
unfolding search_index_of
search_index_reads x d found email public_key hash = simp (found, or_else-none, email, public_key, hash)

pub search_index_again : (x : SearchIndex) → Optional text_of string x.email → Optional public_key_of public_key_written x.public_key → Optional text_of string x.hash
    → ReadsAgain search_index_of (search_index_written x) x false
unfolding search_index_written
search_index_again x email public_key hash = record {
  reads = search_index_reads x _ (λ q. get-fields q (search_index_fields x)) email.reads public_key.reads hash.reads;
  is_there = refl;
  plain = λ _. fields_plain (search_index_fields x) (simp (email.plain refl, public_key.plain refl, hash.plain refl));
}

-- ---- queries

map_same : {X : Type 0} (xs : List X) → map (λ x. x) xs ≡ xs
map_same [] = refl
map_same (x ∷ xs) = ap (λ ys. x ∷ ys) (map_same xs)

-- a list that may be missing, and may contain a float
pub list_option_of : {X : Type 0} (f : Data → Option X) (p : X → Bool) {o : Option Data} (xs : Option (List X)) → MemberReadsAgain (unless_null (list_of f)) o (option_map (map (λ x. x)) xs) (unwrap_or (option_map (list_any p) xs) false) → MemberReadsAgain (unless_null (list_of f)) o xs (unwrap_or (option_map (list_any p) xs) false)
list_option_of f p None m = m
list_option_of f p (Some xs) m = record { reads = m.reads ∙ ap (λ ys. Some (Some ys)) (map_same xs); plain = m.plain }

query_reads : (x : SearchLogQuery) (d : Data) → ((q : List ℕ) → get q d ≡ among q (query_fields x) None)
    → unless_null (list_of text_of) (option_map (listed string) x.entry_uuids) ≡ Some x.entry_uuids
    → unless_null (list_of i32_of) (option_map (listed whole) x.log_indexes) ≡ Some x.log_indexes
    → unless_null (list_of proposed_entry_of) (option_map (listed proposed_entry_written) x.entries) ≡ Some x.entries
    → query_of d ≡ Some x
unfolding query_of
query_reads x d found entry_uuids log_indexes entries = simp (found, or_else-none, entry_uuids, log_indexes, entries)

pub query_again : (x : SearchLogQuery) → Optional (list_of text_of) (listed string) x.entry_uuids → Optional (list_of i32_of) (listed whole) x.log_indexes
    → MemberReadsAgain (unless_null (list_of proposed_entry_of)) (option_map (listed proposed_entry_written) x.entries) x.entries (entries_have_float x)
    → ReadsAgain query_of (query_written x) x (entries_have_float x)
unfolding query_written
query_again x entry_uuids log_indexes entries = record {
  reads = query_reads x _ (λ q. get-fields q (query_fields x)) entry_uuids.reads log_indexes.reads entries.reads;
  is_there = refl;
  plain = λ none. fields_plain (query_fields x) (simp (entry_uuids.plain refl, log_indexes.plain refl, entries.plain none));
}
