-- Laws of the quads of a section, and of several sections one after another: what was written is read again, and what is read is written again.
use mathlib.Core.Bool.{false}
use mathlib.Core.List.{List, [], ◌∷◌, ◌++◌, append-nil}
use mathlib.Core.Path.{◌≡◌, refl, sym, ◌∙◌, ap}
use Prim.Native.Nat.{ℕ, zero, suc, ◌+◌, ◌*◌, ◌≤◌}
use native.Mathlib.Omega.{arith}
use lib.ListN.{length}
use lib.Seq.{take_all}
use Rattle.geometry.specs.Refusal.{accepted, checked}
use Rattle.geometry.proofs.Refusals.{passes, passes_alone, first_passes, rest_accepts}
use Rattle.geometry.specs.Lists.{Each}
use Rattle.listing.specs.Listing.{joined}
use Rattle.geometry.proofs.Lists.{each_all, each_up}
use Rattle.saved.specs.Bytes.{Bytes, written32, number32, written_all}
use Rattle.saved.specs.Form.{quad_size}
use Rattle.saved.specs.Layout.{quad_bytes, group_bytes}
use Rattle.saved.specs.Read.{count_in, records_in, after_section, ends_early, bad_file, goes_on, section_checks, quad_in, quads_in, groups_in}
use Rattle.saved.specs.Statements.{Fits, Sized, Countable}
use Rattle.saved.proofs.Numbers.{written_length, number_written, written_number, number_fits}
use Rattle.saved.proofs.Items.{read_length, all_length, all_read, all_have, all_written}
use Rattle.saved.proofs.Section

-- A number by itself.
number_back : (n : ℕ) → Fits n → number32 (written32 n) ≡ n
number_back n h = rw append-nil at (number_written 4 n [] h)

bytes_back : (p : List ℕ) → length p ≡ 4 → Bytes p → written32 (number32 p) ≡ p
bytes_back p long h = written_number 4 p h (omega arith) ∙ take_all 4 p (omega arith)

-- Nothing follows the last byte of bytes that do not go on.
nothing_follows : (b : List ℕ) → goes_on b ≡ false → b ≡ []
nothing_follows [] h = refl
nothing_follows (a ∷ b) h = cc

module _ (numbers : ℕ) where
  -- ---- a quad

  quad_length : (q : List ℕ) → length q ≡ numbers → length (quad_bytes q) ≡ quad_size numbers
  quad_length q long = all_length 4 written32 number32 q (each_all _ (written_length 4) q) ∙ ap (λ (n : ℕ). n * 4) long

  -- Quads by their numbers alone, whatever these are.
  pub quads_length : (g : List (List ℕ)) → Each (λ (q : List ℕ). length q ≡ numbers) g → length (written_all quad_bytes g) ≡ length g * quad_size numbers
  quads_length g long = all_length (quad_size numbers) quad_bytes (quad_in numbers) g (each_up _ _ quad_length g long)

  quad_back : (q : List ℕ) → Sized numbers q → quad_in numbers (quad_bytes q) ≡ q
  quad_back q s =
      rw (append-nil, s.long) at
      (all_read 4 written32 number32 q [] (each_all _ (written_length 4) q) (each_up Fits _ number_back q s.fit))

  quad_sized : (p : List ℕ) → length p ≡ quad_size numbers → Bytes p → Sized numbers (quad_in numbers p)
  quad_sized p long h =
      record {
        long = read_length 4 number32 (numbers) p;
        fit = all_have 4 written32 number32 Fits (λ b l k. number_fits 4 b k) (numbers) p h (omega arith);
      }

  quad_written : (p : List ℕ) → length p ≡ quad_size numbers → Bytes p → quad_bytes (quad_in numbers p) ≡ p
  quad_written p long h = all_written 4 written32 number32 bytes_back (numbers) p h (omega arith) ∙ take_all (numbers * 4) p (omega arith)

  pub sized_long : (g : List (List ℕ)) → Each (Sized numbers) g → Each (λ (q : List ℕ). length q ≡ numbers) g
  sized_long g sized = each_up (Sized numbers) _ (λ q s. s.long) g sized

  -- ---- a group that was written

  module _ (g : List (List ℕ)) (c : Countable numbers g) (rest : List ℕ) where
    pub group_length : length (written_all quad_bytes g) ≡ length g * quad_size numbers
    group_length = quads_length g (sized_long g c.sized)

    pub group_whole : ends_early (quad_size numbers) (group_bytes g ++ rest) ≡ false
    unfolding group_bytes
    group_whole = Section.whole_back (quad_size numbers) (length g) (written_all quad_bytes g) rest c.few group_length

    pub group_after : after_section (quad_size numbers) (group_bytes g ++ rest) ≡ rest
    unfolding group_bytes
    group_after = Section.after_back (quad_size numbers) (length g) (written_all quad_bytes g) rest c.few group_length

    pub group_back : quads_in numbers (group_bytes g ++ rest) ≡ g
    unfolding group_bytes quads_in
    group_back =
        rw (
          Section.count_back (quad_size numbers) (length g) (written_all quad_bytes g) rest c.few group_length,
          Section.records_back (quad_size numbers) (length g) (written_all quad_bytes g) rest c.few group_length,
        )
        (rw append-nil at
        (all_read (quad_size numbers) quad_bytes (quad_in numbers) g [] (each_up (Sized numbers) _ (λ q s. quad_length q s.long) g c.sized) (each_up (Sized numbers) _ quad_back g c.sized)))

  -- The sections that groups were written in are not refused,
  pub groups_pass : (k : ℕ) (gs : List (List (List ℕ))) → Each (Countable numbers) gs
      → checked (section_checks (quad_size numbers) k (length gs) (written_all group_bytes gs)) ≡ accepted tt
  unfolding section_checks joined Each
  groups_pass k [] c = passes_alone (bad_file k (goes_on [])) refl
  groups_pass k (g ∷ gs) c =
      let rest : List ℕ = written_all group_bytes gs in
      passes (bad_file k (ends_early (quad_size numbers) (group_bytes g ++ rest))) _ tt (group_whole g c.0 rest)
      ∙ rw (group_after g c.0 rest) (groups_pass (k + 1) gs c.1)

  -- and the groups are read from them.
  pub groups_back : (gs : List (List (List ℕ))) → Each (Countable numbers) gs → groups_in numbers (length gs) (written_all group_bytes gs) ≡ gs
  unfolding groups_in joined Each
  groups_back [] c = refl
  groups_back (g ∷ gs) c = let rest : List ℕ = written_all group_bytes gs in rw (group_back g c.0 rest, group_after g c.0 rest, groups_back gs c.1)

  -- ---- a group that is read

  module _ (b : List ℕ) (h : Bytes b) (is_whole : ends_early (quad_size numbers) b ≡ false) where
    records_enough : count_in b * quad_size numbers ≤ length (records_in (quad_size numbers) b)
    records_enough = omega (arith, Section.records_length (quad_size numbers) b is_whole)

    group_countable : Countable numbers (quads_in numbers b)
    unfolding quads_in
    group_countable =
        record {
          few = rw (read_length (quad_size numbers) (quad_in numbers) (count_in b) (records_in (quad_size numbers) b)) (Section.count_fits (quad_size numbers) b h);
          sized = all_have (quad_size numbers) quad_bytes (quad_in numbers) (Sized numbers) quad_sized (count_in b) (records_in (quad_size numbers) b) (Section.records_bytes (quad_size numbers) b h) records_enough;
        }

    group_written : group_bytes (quads_in numbers b) ++ after_section (quad_size numbers) b ≡ b
    unfolding group_bytes quads_in
    group_written =
        rw (
          read_length (quad_size numbers) (quad_in numbers) (count_in b) (records_in (quad_size numbers) b),
          all_written (quad_size numbers) quad_bytes (quad_in numbers) quad_written (count_in b) (records_in (quad_size numbers) b) (Section.records_bytes (quad_size numbers) b h) records_enough,
          take_all (count_in b * quad_size numbers) (records_in (quad_size numbers) b) (omega (arith, Section.records_length (quad_size numbers) b is_whole)),
        )
        (Section.section_back (quad_size numbers) b is_whole h)

  -- Sections that are not refused are written as they were read,
  pub groups_written : (n k : ℕ) (b : List ℕ) → Bytes b → checked (section_checks (quad_size numbers) k n b) ≡ accepted tt → written_all group_bytes (groups_in numbers n b) ≡ b
  unfolding section_checks groups_in joined
  groups_written zero k b h e = sym (nothing_follows b (first_passes (bad_file k (goes_on b)) [] tt e))
  groups_written (suc n) k b h e =
      let is_whole = first_passes (bad_file k (ends_early (quad_size numbers) b)) (section_checks (quad_size numbers) (k + 1) n (after_section (quad_size numbers) b)) tt e in
      let others = rest_accepts (bad_file k (ends_early (quad_size numbers) b)) (section_checks (quad_size numbers) (k + 1) n (after_section (quad_size numbers) b)) tt e in
      rw (groups_written n (k + 1) (after_section (quad_size numbers) b) (Section.after_bytes (quad_size numbers) b h) others) (group_written b h is_whole)

  -- and have groups that can be written.
  pub groups_countable : (n k : ℕ) (b : List ℕ) → Bytes b → checked (section_checks (quad_size numbers) k n b) ≡ accepted tt → Each (Countable numbers) (groups_in numbers n b)
  unfolding section_checks groups_in Each
  groups_countable zero k b h e = tt
  groups_countable (suc n) k b h e =
      let is_whole = first_passes (bad_file k (ends_early (quad_size numbers) b)) (section_checks (quad_size numbers) (k + 1) n (after_section (quad_size numbers) b)) tt e in
      let others = rest_accepts (bad_file k (ends_early (quad_size numbers) b)) (section_checks (quad_size numbers) (k + 1) n (after_section (quad_size numbers) b)) tt e in
      (group_countable b h is_whole, groups_countable n (k + 1) (after_section (quad_size numbers) b) (Section.after_bytes (quad_size numbers) b h) others)

  -- There are as many as were asked for.
  pub groups_length : (n : ℕ) (b : List ℕ) → length (groups_in numbers n b) ≡ n
  unfolding groups_in
  groups_length zero b = refl
  groups_length (suc n) b = ap suc (groups_length n (after_section (quad_size numbers) b))
