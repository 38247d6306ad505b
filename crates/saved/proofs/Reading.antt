-- What a reader's checks answer and what a reader leaves, by what its code has found: each way that it can end is a case of the definitions.
use mathlib.Core.List.{List, [], ◌++◌, map}
use mathlib.Core.Path.{◌≡◌, refl, sym, ◌∙◌, ap}
use Prim.Native.Nat.{ℕ, ◌-◌, ◌*◌, ◌/◌, ◌≤◌, ◌<◌}
use native.Mathlib.Nat.{mul-div_cancel}
use native.Mathlib.Omega.{arith}
use lib.ListN.{length, take, drop}
use borrow.Author.Tests.{lt-ltb, le-ltb}
use Rattle.geometry.specs.declared.face.OrientedBlockFace.{OrientedBlockFace}
use Rattle.geometry.specs.Refusal.{Answer, accepted, refused, answer, checked}
use Rattle.geometry.proofs.Refusals.{applies, passes, whole_refuses, whole_passes}
use Rattle.geometry.proofs.Orders.{part_refuses, part_passes, both_pass}
use Rattle.listing.specs.Listing.{joined, overwritten, capacity, too_many}
use Rattle.listing.specs.Outcome.{mesh_answer}
use Rattle.writing.proofs.Rest.{group_held}
use Rattle.saved.specs.Form.{Form, Mesh, quad_size, face_of}
use Rattle.saved.specs.Read.{file_checks, face_bytes_in, groups_in, mesh_in, bad_face_bytes, mesh_quads, bad_mesh, read_checks, parse}
use Rattle.saved.specs.Saved.{quad_count, fitting, read_answer, read_outcome, read_form}
use Rattle.saved.specs.Private.{bad_groups_of}
use Rattle.saved.proofs.Walking.{first_quads, face_bytes_at, mesh_at, file_length}
use Rattle.saved.proofs.Taking.{list_length}

module _ (form : Form) (b : List ℕ) where
  -- ---- 16, 17, 12

  -- The sections are asked first,
  pub sections_refuse : {n p : ℕ} → checked (file_checks form b) ≡ refused n p → refused n p ≡ checked (read_checks form b)
  unfolding read_checks
  sections_refuse e =
      part_refuses (file_checks form b ++ bad_face_bytes (face_bytes_in b)) (bad_mesh (mesh_in form b)) tt (sym (part_refuses (file_checks form b) (bad_face_bytes (face_bytes_in b)) tt e))

  module _ (file : checked (file_checks form b) ≡ accepted tt) where
    both : {x : Answer (Unit {0})} → x ≡ checked (bad_face_bytes (take 6 (drop 4 b))) → x ≡ checked (file_checks form b ++ bad_face_bytes (face_bytes_in b))
    both e = part_passes (file_checks form b) (bad_face_bytes (face_bytes_in b)) tt file (rw (face_bytes_at form b file) e)

    -- then the face bytes,
    pub faces_refuse : {n p : ℕ} → checked (bad_face_bytes (take 6 (drop 4 b))) ≡ refused n p → refused n p ≡ checked (read_checks form b)
    unfolding read_checks
    faces_refuse e = part_refuses (file_checks form b ++ bad_face_bytes (face_bytes_in b)) (bad_mesh (mesh_in form b)) tt (sym (both (sym e)))

    -- and then the quads, on the faces of those bytes.
    pub quads_decide : checked (bad_face_bytes (take 6 (drop 4 b))) ≡ accepted tt → {faces : List OrientedBlockFace} → faces ≡ map face_of (take 6 (drop 4 b))
        → {x : Answer (Unit {0})} → x ≡ checked (bad_groups_of form.numbers faces 0 6 (drop (first_quads form.mark) b)) → x ≡ checked (read_checks form b)
    unfolding read_checks mesh_quads
    quads_decide codes is e =
        part_passes (file_checks form b ++ bad_face_bytes (face_bytes_in b)) (bad_mesh (mesh_in form b)) tt (sym (both (sym codes)))
        (e
        ∙ ap (λ (fs : List OrientedBlockFace). checked (bad_groups_of form.numbers fs 0 6 (drop (first_quads form.mark) b))) is
        ∙ ap (λ (m : Mesh). checked (bad_mesh m)) (sym (mesh_at form b file)))

  -- ---- a file that is refused

  module _ (out : List ℕ) {n p : ℕ} (e : checked (read_checks form b) ≡ refused n p) where
    fitting_refused : fitting form b (length out) ≡ refused n p
    unfolding fitting parse
    fitting_refused = rw (sym (whole_refuses (read_checks form b) (mesh_in form b) e))

    pub read_refused : read_outcome (read_answer (refused n p)) out ≡ read_form form b out
    unfolding read_form
    read_refused = rw fitting_refused

  -- ---- a file that passes

  module _ (passed : checked (read_checks form b) ≡ accepted tt) where
    pub file_passed : checked (file_checks form b) ≡ accepted tt
    unfolding read_checks
    file_passed = (both_pass (file_checks form b) _ (both_pass (file_checks form b ++ bad_face_bytes (face_bytes_in b)) (bad_mesh (mesh_in form b)) passed).0).0

    -- Its quads, from its length.
    abbrev pub quads : ℕ
    quads = (length b - first_quads form.mark - 24) / quad_size form.numbers

    -- The other counts are there,
    pub counts_there : 24 ≤ length b - first_quads form.mark
    counts_there = omega (arith, file_length form b file_passed)

    module _ (some : 1 ≤ form.numbers) where
      -- and what is left holds the quads.
      quads_are : quads ≡ length (joined (groups_in form.numbers 6 (drop (first_quads form.mark) b)))
      quads_are =
          let many : ℕ = length (joined (groups_in form.numbers 6 (drop (first_quads form.mark) b))) in
          let bytes : length b - first_quads form.mark - 24 ≡ many * quad_size form.numbers = omega (arith, file_length form b file_passed) in
          rw bytes (mul-div_cancel many {n = quad_size form.numbers} (omega arith))

      -- They have so many numbers.
      pub numbers_are : quads * form.numbers ≡ length (joined (joined (groups_in form.numbers 6 (drop (first_quads form.mark) b))))
      numbers_are = rw quads_are (sym (list_length form.numbers 6 (drop (first_quads form.mark) b)))

      quads_counted : quads ≡ quad_count (mesh_in form b)
      quads_counted = rw (mesh_at form b file_passed) quads_are

      module _ (out : List ℕ) where
        fitting_left : fitting form b (length out) ≡ answer (too_many quads (capacity form.numbers (length out))) (mesh_in form b)
        unfolding fitting parse
        fitting_left = rw (sym (whole_passes (read_checks form b) (mesh_in form b) passed refl), quads_counted)

        -- An output that holds fewer is refused by 9,
        pub read_many : length out / form.numbers < quads → read_outcome (read_answer (refused 9 (length out / form.numbers))) out ≡ read_form form b out
        unfolding read_form capacity
        read_many h = rw (fitting_left ∙ applies _ [] (mesh_in form b) (lt-ltb _ _ h))

        module _ (h : quads ≤ length out / form.numbers) where
          -- and any other has room for them,
          pub read_room : quads * form.numbers ≤ length out
          unfolding capacity
          read_room = group_held form.numbers (length out) quads h

          -- and holds them at the end.
          pub read_done : {counts : List ℕ} {faces : List OrientedBlockFace} {taken : List ℕ}
              → counts ≡ map length (groups_in form.numbers 6 (drop (first_quads form.mark) b))
              → faces ≡ map face_of (take 6 (drop 4 b))
              → taken ≡ joined (joined (groups_in form.numbers 6 (drop (first_quads form.mark) b)))
              → read_outcome (record { mesh = mesh_answer (accepted counts); faces = faces }) (taken ++ drop (quads * form.numbers) out) ≡ read_form form b out
          unfolding read_form capacity answer overwritten
          read_done is-counts is-faces is-taken =
              rw (
                is-counts,
                is-faces,
                is-taken,
                numbers_are,
                fitting_left ∙ passes _ [] (mesh_in form b) (le-ltb _ _ h),
                mesh_at form b file_passed,
              )
