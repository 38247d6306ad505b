-- A file says where it ends: cut anywhere it is refused by 16 at one of its sections, and with anything after it by 16 at 7. One law tells both: of some bytes and the same with more
-- after them, either the first are refused before the end or the second at the end.
use mathlib.Core.Bool.{true, false, ◌||◌}
use mathlib.Core.List.{List, [], ◌∷◌, ◌++◌}
use mathlib.Core.Path.{◌≡◌, refl, sym, ◌∙◌, ap}
use Prim.Native.Nat.{ℕ, zero, suc, ◌+◌, ◌≤◌, ◌<◌}
use native.Mathlib.Nat.{add-zero}
use native.Mathlib.Omega.{arith}
use lib.ListN.{length, get_or, take, drop, take-append-drop}
use lib.Seq.{drop-cons}
use Rattle.geometry.specs.Refusal.{accepted, refused, checked}
use Rattle.geometry.proofs.Refusals.{split, applies, passes}
use Rattle.geometry.proofs.Orders.{part_refuses}
use Rattle.saved.specs.Form.{Form, Mesh, quad_size}
use Rattle.saved.specs.Read.{after_section, ends_early, bad_file, goes_on, wrong_head, section_checks, file_checks, face_bytes_in, mesh_in, bad_face_bytes, bad_mesh, read_checks, parse}
use Rattle.saved.proofs.Section
use Rattle.saved.proofs.Section.{both_false}
use Rattle.saved.proofs.Roundtrip.{accepted_passes}

module _ (x : ℕ) (more : List ℕ) where
  some_follow : (b : List ℕ) → goes_on (b ++ (x ∷ more)) ≡ true
  some_follow [] = refl
  some_follow (a ∷ b) = refl

  -- Of n sections, the first of them the k-th.
  sections_cut : {P : Type 0} (size n k : ℕ) (b : List ℕ)
      → ((p : ℕ) → p < k + n → checked (section_checks size k n b) ≡ refused 16 p → P)
      → (checked (section_checks size k n (b ++ (x ∷ more))) ≡ refused 16 (k + n) → P)
      → P
  unfolding section_checks
  sections_cut size zero k b early trailing = trailing (applies (bad_file k (goes_on (b ++ (x ∷ more)))) [] tt (some_follow b) ∙ ap (refused 16) (sym (add-zero k)))
  sections_cut size (suc n) k b early trailing =
      split (ends_early size b)
      (λ t. early k (omega arith) (applies (bad_file k (ends_early size b)) _ tt t))
      (λ f. sections_cut size n (k + 1) (after_section size b)
      (λ p l e. early p (omega arith) (passes (bad_file k (ends_early size b)) _ tt f ∙ e))
      (λ e. trailing
      (passes (bad_file k (ends_early size (b ++ (x ∷ more)))) _ tt (Section.whole_longer size b f (x ∷ more))
      ∙ rw (Section.after_longer size b f (x ∷ more)) (let same_end : k + 1 + n ≡ k + suc n = omega arith in rw same_end at e))))

  module _ (form : Form) where
    -- More bytes don't change section 0 where it is whole.
    head_longer : (b : List ℕ) → ends_early 1 b ≡ false → wrong_head form (b ++ (x ∷ more)) ≡ wrong_head form b
    unfolding wrong_head
    head_longer b f = rw (Section.count_longer 1 b f (x ∷ more), Section.records_longer 1 b f (x ∷ more))

    -- Of a whole file.
    file_cut : {P : Type 0} (b : List ℕ)
        → ((p : ℕ) → p ≤ 6 → checked (file_checks form b) ≡ refused 16 p → P)
        → (checked (file_checks form (b ++ (x ∷ more))) ≡ refused 16 7 → P)
        → P
    unfolding file_checks
    file_cut b early trailing =
        split (ends_early 1 b || wrong_head form b)
        (λ t. early 0 (omega arith) (applies (bad_file 0 (ends_early 1 b || wrong_head form b)) _ tt t))
        (λ f. let (there, right) = both_false (ends_early 1 b) (wrong_head form b) f in
        sections_cut (quad_size form.numbers) 6 1 (after_section 1 b)
        (λ p l e. early p (omega arith) (passes (bad_file 0 (ends_early 1 b || wrong_head form b)) _ tt f ∙ e))
        (λ e. trailing
        (passes (bad_file 0 (ends_early 1 (b ++ (x ∷ more)) || wrong_head form (b ++ (x ∷ more)))) _ tt (rw (Section.whole_longer 1 b there (x ∷ more), head_longer b there) right)
        ∙ rw (Section.after_longer 1 b there (x ∷ more)) e)))

-- 16 comes first: where the file is refused so is the reader's answer.
pub file_refuses : (form : Form) (b : List ℕ) {n p : ℕ} → checked (file_checks form b) ≡ refused n p → parse form b ≡ refused n p
unfolding parse read_checks
file_refuses form b e =
    sym (part_refuses (file_checks form b ++ bad_face_bytes (face_bytes_in b)) (bad_mesh (mesh_in form b)) (mesh_in form b)
    (sym (part_refuses (file_checks form b) (bad_face_bytes (face_bytes_in b)) tt e)))

module _ (form : Form) (b : List ℕ) {m : Mesh} (is_accepted : parse form b ≡ accepted m) where
  -- An accepted file with anything after it is refused by 16 at 7.
  pub longer_refused : (x : ℕ) (more : List ℕ) → parse form (b ++ (x ∷ more)) ≡ refused 16 7
  longer_refused x more =
      file_cut x more form b
      (λ p l e. cc (e, (accepted_passes form b is_accepted).0))
      (λ e. file_refuses form (b ++ (x ∷ more)) e)

  -- An accepted file that is cut anywhere is refused by 16 at one of its sections.
  pub cut_refused : (n : ℕ) → n < length b → (p : ℕ) × (p ≤ 6) × (parse form (take n b) ≡ refused 16 p)
  cut_refused n h =
      let x : ℕ = get_or b n 0 in
      let more : List ℕ = drop (suc n) b in
      let whole : take n b ++ (x ∷ more) ≡ b = rw (drop-cons b n 0 h) at (take-append-drop n b) in
      file_cut x more form (take n b)
      (λ p l e. (p, l, file_refuses form (take n b) e))
      (λ e. let z : ◌≡◌ {A = ℕ} 0 1 = cc (accepted_passes form b is_accepted).0 in absurd (omega arith))
