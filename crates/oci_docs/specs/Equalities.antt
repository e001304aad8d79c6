-- Equality of all fields.
use Rattle.std.specs.Prelude.{ℕ, List, Bool, ◌&&◌, Option}
use Rattle.std.specs.Option.{option_eq}
use Rattle.std.specs.Str.{bytes_eq}
use Rattle.std.specs.Bool.{beq}
use Rattle.std.specs.Cmp.{IsEquivalence, and_equiv, on_equiv, bool_eq_equiv}
use Rattle.std.specs.Cmp.Lexicographic.{pointwise, nat_list_eq_equiv, options_equiv, lists_equiv}
use Rattle.oci_docs.specs.Moment.{is_same}
use Rattle.oci_docs.specs.TimeEqualities.{moments}
use Rattle.oci_docs.specs.declared.history.History.{History}
use Rattle.oci_docs.specs.declared.rootfs.Rootfs.{Rootfs}

abbrev pub is_same_rootfs : Rootfs → Rootfs → Bool
is_same_rootfs a b = bytes_eq a.kind b.kind && pointwise bytes_eq a.diff_ids b.diff_ids

abbrev pub is_same_history : History → History → Bool
is_same_history a b =
    option_eq is_same a.created b.created && option_eq bytes_eq a.author b.author
    && option_eq bytes_eq a.created_by b.created_by && option_eq bytes_eq a.comment b.comment
    && option_eq beq a.empty_layer b.empty_layer

pub roots : IsEquivalence is_same_rootfs
roots = and_equiv (on_equiv (λ (r : Rootfs). r.kind) nat_list_eq_equiv)
    (on_equiv (λ (r : Rootfs). r.diff_ids) (lists_equiv nat_list_eq_equiv))

at_text : (f : History → Option (List ℕ)) → IsEquivalence (λ a b. option_eq bytes_eq (f a) (f b))
at_text f = on_equiv f (options_equiv nat_list_eq_equiv)

pub histories : IsEquivalence is_same_history
histories =
    and_equiv (and_equiv (and_equiv (and_equiv
    (on_equiv (λ (h : History). h.created) (options_equiv moments)) (at_text (λ h. h.author)))
    (at_text (λ h. h.created_by))) (at_text (λ h. h.comment)))
    (on_equiv (λ (h : History). h.empty_layer) (options_equiv bool_eq_equiv))
