-- Whether the text of an entry names its first document.
use Rattle.std.proofs.Common.{◌≡◌, ◌↔◌, ℕ, Bool, true, false, ◌&&◌, IsTrue, List, Option, Some, None, Result, Ok, Err, refl, sym, ap, subst, ◌∙◌, bytes_eq}
use Rattle.std.specs.Bool.{Decides}
use Rattle.std.specs.Result.{result_ok}
use Rattle.std.proofs.lemmas.Slice.Eq.{bytes_eq-Decides}
use Rattle.oci_names.specs.declared.parse_error.ParseError.{ParseError}
use Rattle.oci_names.specs.declared.reference.Reference.{Reference}
use Rattle.oci_names.specs.Reference.{digest_of, reads_back, reference_of, whole_text}
use Rattle.oci_names.proofs.ReadsBack.{reads_back-means, reads_back-from}
use Rattle.oci_digests.specs.Names.{Names, names}
use Rattle.oci_digests.proofs.Equal.{named}
use Rattle.cosign_chain.specs.Links.{named_by}
use Rattle.cosign_chain.proofs.LinkTests.{both, more, some_same}
use Rattle.pull_lock.specs.Tests.{IsNamed, names_first, parsed}
use Rattle.pull_lock.specs.declared.lock.LockEntry.{LockEntry}

asked : (o : Option (List ℕ)) (bytes : List ℕ) → Decides (named_by o bytes) ((digest : List ℕ) → o ≡ Some digest → Names digest bytes)
asked None bytes = (λ h digest is. absurd (cc is), λ h. refl)
asked (Some own) bytes = more (λ n digest is. let same : own ≡ digest = some_same own digest is in rw (← same) n) (λ h. h own refl) (named own bytes)

first : (image : Reference) (e : LockEntry) → Decides (names_first image e) (Names e.digest e.first × ((digest : List ℕ) → digest_of image ≡ Some digest → Names digest e.first))
first image e = both (names e.digest e.first) (named_by (digest_of image) e.first) (named e.digest e.first) (asked (digest_of image) e.first)

parsed_is : (r : Result Reference ParseError) (image : Reference) → result_ok r ≡ Some image → r ≡ Ok image
parsed_is (Ok found) image is = cc is
parsed_is (Err e) image is = absurd (cc is)

ok_is : (a b : Reference) → (let r : Result Reference ParseError = Ok a in r) ≡ Ok b → a ≡ b
ok_is a b is = cc is

-- the entry's reference is the one that its text parses as
parses : (e : LockEntry) → (n : IsNamed e) → reference_of e.image ≡ Ok n.image
parses e n = ap reference_of n.whole ∙ reads_back-means n.image n.reads

pub not_parsed : (e : LockEntry) (found : Option Reference) → found ≡ None → found ≡ parsed e.image → IsTrue false ↔ IsNamed e
not_parsed e found none is = (λ h. absurd (cc h), λ n. absurd (cc (sym none ∙ is ∙ ap result_ok (parses e n))))

pub parsed_named : (e : LockEntry) (found : Option Reference) (image : Reference) (b : Bool) → found ≡ Some image → found ≡ parsed e.image
    → b ≡ (bytes_eq (whole_text image) e.image && names_first image e) → IsTrue b ↔ IsNamed e
parsed_named e found image b some is b_is =
    let reads : reference_of e.image ≡ Ok image = parsed_is (reference_of e.image) image (sym is ∙ some) in
    rw b_is (more (to reads) (from reads) (both (bytes_eq (whole_text image) e.image) (names_first image e) (bytes_eq-Decides (whole_text image) e.image) (first image e))) where
      to : reference_of e.image ≡ Ok image → ((whole_text image ≡ e.image) × (Names e.digest e.first × ((digest : List ℕ) → digest_of image ≡ Some digest → Names digest e.first))) → IsNamed e
      to reads (whole, (names_it, asks)) = record {
        image = image;
        whole = sym whole;
        reads = reads_back-from image (ap reference_of whole ∙ reads);
        named = names_it;
        asked = asks;
      }

      from : reference_of e.image ≡ Ok image → IsNamed e → ((whole_text image ≡ e.image) × (Names e.digest e.first × ((digest : List ℕ) → digest_of image ≡ Some digest → Names digest e.first)))
      from reads n =
          let same : image ≡ n.image = ok_is image n.image (sym reads ∙ parses e n) in
          (ap whole_text same ∙ sym n.whole, (n.named, λ digest has. n.asked digest (ap digest_of (sym same) ∙ has)))
