-- Marks that are cleared: the first so many bytes are 0, and the others as they were.
use mathlib.Core.List.{List, ◌++◌}
use mathlib.Core.Path.{◌≡◌, ◌∙◌, ap}
use Prim.Native.Nat.{ℕ, ◌≤◌, ◌<◌}
use native.Mathlib.Omega.{arith}
use lib.ListN.{length, get_or, take, drop, replicate, length-append, length-drop, length-replicate, get_or-replicate, get_or-append}
use lib.Seq.{drop_at}
use Rattle.std.proofs.lemmas.List.{length-take-le}
use Rattle.listing.specs.Listing.{overwritten}

zeros : (n : ℕ) → length {A = ℕ} (replicate n 0) ≡ n
zeros n = length-replicate n 0

-- The first n filled with 0, before the others.
pub cleared : (n : ℕ) (was : List ℕ) → n ≤ length was → (filled : List ℕ) → filled ≡ replicate (length (take n was)) 0 → filled ++ drop n was ≡ overwritten (replicate n 0) was
unfolding overwritten
cleared n was h filled is = rw (zeros n, is, length-take-le n was h)

-- Clearing keeps the number of bytes,
pub cleared_length : (n : ℕ) (marks : List ℕ) → n ≤ length marks → length (overwritten (replicate n 0) marks) ≡ length marks
unfolding overwritten
cleared_length n marks h =
    length-append (replicate n 0) (drop (length {A = ℕ} (replicate n 0)) marks)
    ∙ rw (length-drop (length {A = ℕ} (replicate n 0)) marks, zeros n) (omega arith)

-- and those past the first n;
pub cleared_rest : (n : ℕ) (marks : List ℕ) → drop n (overwritten (replicate n 0) marks) ≡ drop n marks
unfolding overwritten
cleared_rest n marks = drop_at (replicate n 0) (drop (length {A = ℕ} (replicate n 0)) marks) n (zeros n) ∙ ap (λ (k : ℕ). drop k marks) (zeros n)

-- those are 0 then.
pub cleared_zero : (n : ℕ) (marks : List ℕ) (i : ℕ) → i < n → get_or (overwritten (replicate n 0) marks) i 0 ≡ 0
unfolding overwritten
cleared_zero n marks i h = get_or-append (replicate n 0) _ 0 i (rw (zeros n) h) ∙ get_or-replicate n i 0 0 h

-- Cleared again, bytes that were left alone past the first n are as if cleared at once.
pub cleared_again : (n : ℕ) (marks was : List ℕ) → drop n marks ≡ drop n was → overwritten (replicate n 0) marks ≡ overwritten (replicate n 0) was
unfolding overwritten
cleared_again n marks was e = rw (zeros n, e)
