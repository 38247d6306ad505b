-- Laws of one section: what was written is read again, what is read is written again, and more bytes after it change nothing in it.
use mathlib.Core.Bool.{Bool, true, false, ◌||◌}
use mathlib.Core.List.{List, ◌++◌, append_assoc}
use mathlib.Core.Path.{◌≡◌, refl}
use Prim.Native.Nat.{ℕ, ◌*◌, ◌≤◌}
use native.Mathlib.Omega.{arith}
use lib.Dec.{ltb}
use lib.ListN.{length, take, drop, length-append, take-append-drop}
use lib.Seq.{take_at, drop_at, take-append-le, drop-append-le, length-take-le}
use borrow.Author.Tests.{le-ltb, ltb-false}
use Rattle.saved.specs.Bytes.{Bytes, written32}
use Rattle.saved.specs.Layout.{section_bytes}
use Rattle.saved.specs.Read.{count_in, extent_in, records_in, after_section, ends_early}
use Rattle.saved.specs.Statements.{Fits}
use Rattle.saved.proofs.Numbers.{written_length, number_written, written_number, number_fits, number_longer}
use Rattle.saved.proofs.Items.{each_take, each_drop}

-- Of two tests that fail together, each does.
pub both_false : (a b : Bool) → a || b ≡ false → (a ≡ false) × (b ≡ false)
both_false true b h = (cc, cc)
both_false false b h = (refl, h)

-- A section does not end early where its count and its records are there.
pub whole : (size : ℕ) (b : List ℕ) → 4 ≤ length b → extent_in size b ≤ length (drop 4 b) → ends_early size b ≡ false
unfolding ends_early
whole size b count records = rw (le-ltb (length b) 4 count, le-ltb (length (drop 4 b)) (extent_in size b) records)

-- A section that was written, with bytes after it.
module _ (size n : ℕ) (records rest : List ℕ) (fits : Fits n) (long : length records ≡ n * size) where
  -- Its bytes.
  abbrev made : List ℕ
  made = section_bytes n records ++ rest

  after_count : drop 4 made ≡ records ++ rest
  after_count = rw (append_assoc (written32 n) records rest) (drop_at (written32 n) (records ++ rest) 4 (written_length 4 n))

  pub count_back : count_in made ≡ n
  count_back = rw (append_assoc (written32 n) records rest) (number_written 4 n (records ++ rest) fits)

  pub records_back : records_in size made ≡ records
  unfolding records_in
  records_back = rw (after_count, count_back) (take_at records rest (n * size) long)

  pub after_back : after_section size made ≡ rest
  unfolding after_section
  after_back = rw (after_count, count_back) (drop_at records rest (n * size) long)

  pub whole_back : ends_early size made ≡ false
  whole_back =
      whole size made
      (omega (arith, length-append (section_bytes n records) rest, length-append (written32 n) records, written_length 4 n))
      (rw (after_count, count_back) (omega (arith, length-append records rest)))

-- A section that is whole.
module _ (size : ℕ) (b : List ℕ) (is_whole : ends_early size b ≡ false) where
  pub count_there : 4 ≤ length b
  unfolding ends_early
  count_there = ltb-false (length b) 4 (both_false (ltb (length b) 4) _ is_whole).0

  pub records_there : extent_in size b ≤ length (drop 4 b)
  unfolding ends_early
  records_there = ltb-false (length (drop 4 b)) (extent_in size b) (both_false (ltb (length b) 4) _ is_whole).1

  pub records_length : length (records_in size b) ≡ count_in b * size
  unfolding records_in
  records_length = length-take-le (extent_in size b) (drop 4 b) records_there

  -- It is written as it was read.
  pub section_back : Bytes b → section_bytes (count_in b) (records_in size b) ++ after_section size b ≡ b
  unfolding records_in after_section
  section_back h =
      rw (
        append_assoc (written32 (count_in b)) (take (extent_in size b) (drop 4 b)) (drop (extent_in size b) (drop 4 b)),
        take-append-drop (extent_in size b) (drop 4 b),
        written_number 4 b h count_there,
      )
      (take-append-drop 4 b)

  -- Bytes that follow change nothing in it, and follow what follows it.
  module _ (rest : List ℕ) where
    pub count_longer : count_in (b ++ rest) ≡ count_in b
    count_longer = number_longer 4 b rest count_there

    drop_longer : drop 4 (b ++ rest) ≡ drop 4 b ++ rest
    drop_longer = drop-append-le 4 b rest count_there

    pub records_longer : records_in size (b ++ rest) ≡ records_in size b
    unfolding records_in
    records_longer = rw (count_longer, drop_longer) (take-append-le (extent_in size b) (drop 4 b) rest records_there)

    pub after_longer : after_section size (b ++ rest) ≡ after_section size b ++ rest
    unfolding after_section
    after_longer = rw (count_longer, drop_longer) (drop-append-le (extent_in size b) (drop 4 b) rest records_there)

    pub whole_longer : ends_early size (b ++ rest) ≡ false
    whole_longer =
        whole size (b ++ rest)
        (omega (arith, length-append b rest, count_there))
        (rw (count_longer, drop_longer) (omega (arith, length-append (drop 4 b) rest, records_there)))

-- What is read of bytes is bytes.
module _ (size : ℕ) (b : List ℕ) (h : Bytes b) where
  pub count_fits : Fits (count_in b)
  count_fits = number_fits 4 b h

  pub records_bytes : Bytes (records_in size b)
  unfolding records_in
  records_bytes = each_take _ (extent_in size b) (drop 4 b) (each_drop _ 4 b h)

  pub after_bytes : Bytes (after_section size b)
  unfolding after_section
  after_bytes = each_drop _ (extent_in size b) (drop 4 b) (each_drop _ 4 b h)
