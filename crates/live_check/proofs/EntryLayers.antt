-- The signature layers of entries, added one after another, and what the host was asked about them.
use Rattle.std.proofs.Common.{◌≡◌, ◌<◌, ◌≤◌, ℕ, ◌+◌, true, false, Bool, List, [], ◌∷◌, ◌++◌, length, drop, get_or, Option, Some, None, Result, Ok, Err, refl, sym, ap, subst, ◌∙◌, append_assoc, append-nil}
use Rattle.std.specs.Prelude.{All, IfOk, MatchBool, filter_map, option_to_list}
use Rattle.std.specs.List.{cons_option}
use Rattle.std.specs.Result.{result_ok}
use Rattle.std.specs.FinMap.{FinMap}
use Rattle.std.proofs.lemmas.List.{drop_all, drop_more}
use Rattle.json_values.specs.Places.{by_bytes}
use Rattle.json_values.specs.Refusals.{Matches}
use Rattle.cosign_parts.specs.declared.layer.SignatureLayer.{SignatureLayer}
use Rattle.cosign_layers.specs.Checks.{layer_read}
use Rattle.cosign_layers.specs.Rejection.{is_memory}
use Rattle.cosign_layers.specs.declared.rejection.LayerRejection.{LayerRejection}
use Rattle.pull_lock.specs.Tests.{input_of, input_with}
use Rattle.pull_lock.specs.declared.lock.LockEntry.{LockEntry}
use Rattle.live_host.specs.Everyone.{everyone}
use Rattle.live_host.specs.Questions.{LayerAsked}
use Rattle.live_host.specs.declared.answers.Answers.{Answers}
use Rattle.live_host.specs.declared.answers.HostAnswer.{HostAnswer}
use Rattle.live_host.specs.declared.streams.HostError.{HostError}
use Rattle.live_check.specs.Asked.{EntriesAsked, layer_of, layers_of}

-- ---- one entry

-- the layer that was read
pub read_one : (said : Result SignatureLayer LayerRejection) (layer : SignatureLayer) → Matches is_memory (Ok layer) said → option_to_list (result_ok said) ≡ layer ∷ []
read_one said layer h = ap (λ (r : Result SignatureLayer LayerRejection). option_to_list (result_ok r)) h

-- none was, for a reason other than memory
pub read_none : (said : Result SignatureLayer LayerRejection) (x : LayerRejection) → is_memory x ≡ false → Matches is_memory (Err x) said → option_to_list (result_ok said) ≡ []
read_none said x other h = by (is_memory x) other h where
  by : (b : Bool) → b ≡ false → MatchBool b (Unit {0}) (said ≡ Err x) → option_to_list (result_ok said) ≡ []
  by true other h = absurd (cc other)
  by false other h = ap (λ (r : Result SignatureLayer LayerRejection). option_to_list (result_ok r)) h

-- the layer of an entry is added
pub layer_added : (log_keys : FinMap by_bytes (List ℕ)) (e : LockEntry) (content : List ℕ) (layer : SignatureLayer) (old new : List SignatureLayer) → content ≡ e.signature.content
    → Matches is_memory (Ok layer) (layer_read (everyone log_keys) e.digest (input_with content e.signature)) → new ≡ old ++ layer ∷ [] → new ≡ old ++ option_to_list (layer_of log_keys e)
layer_added log_keys e content layer old new is h added =
    added ∙ ap (λ (l : List SignatureLayer). old ++ l) (sym (read_one (layer_read (everyone log_keys) e.digest (input_of e.signature)) layer
    (subst (λ (b : List ℕ). Matches is_memory (Ok layer) (layer_read (everyone log_keys) e.digest (input_with b e.signature))) is h)))

-- an entry has none
pub no_layer_added : (log_keys : FinMap by_bytes (List ℕ)) (e : LockEntry) (content : List ℕ) (x : LayerRejection) (old new : List SignatureLayer) → content ≡ e.signature.content → is_memory x ≡ false
    → Matches is_memory (Err x) (layer_read (everyone log_keys) e.digest (input_with content e.signature)) → new ≡ old → new ≡ old ++ option_to_list (layer_of log_keys e)
no_layer_added log_keys e content x old new is other h stays =
    stays ∙ sym (append-nil old) ∙ ap (λ (l : List SignatureLayer). old ++ l) (sym (read_none (layer_read (everyone log_keys) e.digest (input_of e.signature)) x other
    (subst (λ (b : List ℕ). Matches is_memory (Err x) (layer_read (everyone log_keys) e.digest (input_with b e.signature))) is h)))

-- ---- one after another

first_of : (o : Option SignatureLayer) (f : LockEntry → Option SignatureLayer) (e : LockEntry) (es : List LockEntry) → f e ≡ o → filter_map f (e ∷ es) ≡ option_to_list o ++ filter_map f es
first_of None f e es is = ap (λ (o : Option SignatureLayer). cons_option o (filter_map f es)) is
first_of (Some layer) f e es is = ap (λ (o : Option SignatureLayer). cons_option o (filter_map f es)) is

-- the layers so far, and those of the entries that are left, are those of all
pub record LayersSoFar (log_keys : FinMap by_bytes (List ℕ)) (entries : List LockEntry) (at : ℕ) (layers : List SignatureLayer) : Type 0 where
  pub all : layers ++ layers_of log_keys (drop at entries) ≡ layers_of log_keys entries

pub none_added : (log_keys : FinMap by_bytes (List ℕ)) (entries : List LockEntry) → LayersSoFar log_keys entries 0 []
none_added log_keys entries = record { all = refl }

-- one more entry
pub one_added : (log_keys : FinMap by_bytes (List ℕ)) (entries : List LockEntry) (at : ℕ) (e : LockEntry) (layers more : List SignatureLayer) → at < length entries → e ≡ get_or entries at e
    → more ≡ layers ++ option_to_list (layer_of log_keys e) → LayersSoFar log_keys entries at layers → LayersSoFar log_keys entries (at + 1) more
one_added log_keys entries at e layers more lt is added so = record {
  all =
      ap (λ (l : List SignatureLayer). l ++ layers_of log_keys (drop (at + 1) entries)) added
      ∙ append_assoc layers (option_to_list (layer_of log_keys e)) (layers_of log_keys (drop (at + 1) entries))
      ∙ ap (λ (l : List SignatureLayer). layers ++ l) (sym (first_of (layer_of log_keys e) (layer_of log_keys) e (drop (at + 1) entries) refl))
      ∙ ap (λ (es : List LockEntry). layers ++ layers_of log_keys es) (sym next)
      ∙ so.all;
} where
  next : drop at entries ≡ e ∷ drop (at + 1) entries
  next = drop_more entries at e lt ∙ ap (λ (x : LockEntry). x ∷ drop (at + 1) entries) (sym is)

-- no entry is left
pub all_added : (log_keys : FinMap by_bytes (List ℕ)) (entries : List LockEntry) (at : ℕ) (layers : List SignatureLayer) → length entries ≤ at → LayersSoFar log_keys entries at layers → layers ≡ layers_of log_keys entries
all_added log_keys entries at layers le so =
    sym (append-nil layers) ∙ ap (λ (es : List LockEntry). layers ++ layers_of log_keys es) (sym (drop_all at entries le)) ∙ so.all

-- ---- the questions about them

-- about the layers of entries
pub about_entries : (answers : List HostAnswer) (keys : List (List ℕ)) (log_keys : FinMap by_bytes (List ℕ)) (entries : List LockEntry) (layers : List SignatureLayer) → layers ≡ layers_of log_keys entries
    → All (LayerAsked answers keys log_keys) layers → EntriesAsked answers keys log_keys entries
about_entries answers keys log_keys entries layers is about = subst (λ (l : List SignatureLayer). All (LayerAsked answers keys log_keys) l) is about

-- about that of one entry
pub about_entry : (answers : List HostAnswer) (keys : List (List ℕ)) (log_keys : FinMap by_bytes (List ℕ)) (e : LockEntry) (layers : List SignatureLayer) → layers ≡ option_to_list (layer_of log_keys e)
    → All (LayerAsked answers keys log_keys) layers → EntriesAsked answers keys log_keys (e ∷ [])
about_entry answers keys log_keys e layers is about =
    about_entries answers keys log_keys (e ∷ []) layers (is ∙ sym (first_of (layer_of log_keys e) (layer_of log_keys) e [] refl ∙ append-nil (option_to_list (layer_of log_keys e)))) about

-- the same of what `ask_layers` returned
pub about_one : (r : Result Answers HostError) (keys : List (List ℕ)) (log_keys : FinMap by_bytes (List ℕ)) (e : LockEntry) (layers : List SignatureLayer) → layers ≡ option_to_list (layer_of log_keys e)
    → IfOk r (λ answers. All (LayerAsked answers.list keys log_keys) layers) → IfOk r (λ answers. EntriesAsked answers.list keys log_keys (e ∷ []))
about_one (Ok answers) keys log_keys e layers is about = about_entry answers.list keys log_keys e layers is about
about_one (Err x) keys log_keys e layers is about = tt
