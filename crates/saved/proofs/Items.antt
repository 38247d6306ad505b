-- Laws of items read and written one after another: where each item's bytes lead back to it, and each item to its bytes, so do all.
use mathlib.Core.List.{List, [], ◌∷◌, ◌++◌, append_assoc}
use mathlib.Core.Path.{◌≡◌, refl, sym, ◌∙◌, ap}
use Prim.Native.Nat.{ℕ, zero, suc, ◌+◌, ◌*◌, ◌≤◌}
use native.Mathlib.Nat.{zero-mul, suc-mul, add_comm}
use native.Mathlib.Omega.{arith}
use lib.ListN.{length, take, drop, length-append, length-drop, length-map}
use lib.Seq.{take_at, drop_at, take-add, length-take-le}
use Rattle.geometry.specs.Lists.{Each}
use Rattle.listing.specs.Listing.{joined}
use Rattle.saved.specs.Bytes.{Bytes, pieces, written_all, read_all}

-- What holds of each of a list holds of each of its first, and of each of the others.
module _ {A : Type 0} (P : A → Type 0) where
  pub each_take : (n : ℕ) (l : List A) → Each P l → Each P (take n l)
  unfolding Each
  each_take zero l h = tt
  each_take (suc n) [] h = tt
  each_take (suc n) (a ∷ l) h = (h.0, each_take n l h.1)

  pub each_drop : (n : ℕ) (l : List A) → Each P l → Each P (drop n l)
  unfolding Each
  each_drop zero l h = h
  each_drop (suc n) [] h = tt
  each_drop (suc n) (a ∷ l) h = each_drop n l h.1

-- n more of one size.
pub one_more : (n size : ℕ) → suc n * size ≡ size + n * size
one_more n size = suc-mul n size ∙ add_comm (n * size) size

-- There are as many pieces as were asked for.
pub pieces_length : {A : Type 0} (size n : ℕ) (l : List A) → length (pieces size n l) ≡ n
unfolding pieces
pieces_length size zero l = refl
pieces_length size (suc n) l = ap suc (pieces_length size n (drop size l))

-- So are the items that are read from them.
pub read_length : {A : Type 0} (size : ℕ) (read : List ℕ → A) (n : ℕ) (l : List ℕ) → length (read_all size read n l) ≡ n
read_length size read n l = length-map (pieces size n l) read ∙ pieces_length size n l

module _ {A : Type 0} (size : ℕ) (write : A → List ℕ) (read : List ℕ → A) where
  -- Items of one size have so many bytes.
  pub all_length : (l : List A) → Each (λ (a : A). length (write a) ≡ size) l → length (written_all write l) ≡ length l * size
  unfolding joined Each
  all_length [] h = sym (zero-mul size)
  all_length (a ∷ l) h = length-append (write a) (written_all write l) ∙ omega (arith, h.0, all_length l h.1, one_more (length l) size)

  -- Items that are each read as they were written are all read so, whatever follows.
  pub all_read : (l : List A) (rest : List ℕ) → Each (λ (a : A). length (write a) ≡ size) l → Each (λ (a : A). read (write a) ≡ a) l
      → read_all size read (length l) (written_all write l ++ rest) ≡ l
  unfolding pieces joined Each
  all_read [] rest long back = refl
  all_read (a ∷ l) rest long back =
      rw (append_assoc (write a) (written_all write l) rest, take_at (write a) (written_all write l ++ rest) size long.0, drop_at (write a) (written_all write l ++ rest) size long.0, back.0, all_read l rest long.1 back.1)

  -- What holds of each read piece holds of each item that is read.
  pub all_have : (P : A → Type 0) → ((p : List ℕ) → length p ≡ size → Bytes p → P (read p))
      → (n : ℕ) (l : List ℕ) → Bytes l → n * size ≤ length l → Each P (read_all size read n l)
  unfolding pieces Each
  all_have P each zero l h long = tt
  all_have P each (suc n) l h long =
      let room : size + n * size ≤ length l = omega (arith, one_more n size) in (
        each (take size l) (length-take-le size l (omega arith)) (each_take _ size l h),
        all_have P each n (drop size l) (each_drop _ size l h) (rw length-drop (omega arith)),
      )

  -- Items that are each written as they were read are all written so.
  pub all_written : ((p : List ℕ) → length p ≡ size → Bytes p → write (read p) ≡ p)
      → (n : ℕ) (l : List ℕ) → Bytes l → n * size ≤ length l → written_all write (read_all size read n l) ≡ take (n * size) l
  unfolding pieces joined Each
  all_written back zero l h long = rw zero-mul
  all_written back (suc n) l h long =
      let room : size + n * size ≤ length l = omega (arith, one_more n size) in
      rw (
        one_more n size,
        take-add size (n * size) l,
        back (take size l) (length-take-le size l (omega arith)) (each_take _ size l h),
        all_written back n (drop size l) (each_drop _ size l h) (rw length-drop (omega arith)),
      )
