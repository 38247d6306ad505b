-- Bytes put into an output one after another: two lots are one, and what is written and what is left are the whole. What every method that writes has to show is said by these.
use mathlib.Core.List.{List, [], ◌∷◌, ◌++◌, append_assoc, append-nil}
use mathlib.Core.Path.{◌≡◌, refl, sym, ◌∙◌, ap}
use Prim.Native.Nat.{ℕ, ◌+◌, ◌≤◌}
use native.Mathlib.Nat.{add-zero}
use native.Mathlib.Omega.{arith}
use borrow.Rule.Slice.Mut.{set_vals}
use lib.ListN.{length, set, length-append}
use Rattle.listing.specs.Listing.{overwritten}
use Rattle.listing.specs.Pushed.{set_all}
use Rattle.listing.proofs.Pushed.{set_all_after, set_all_append, set_all_length}
use Rattle.obj.specs.declared.put.Writer.{Writer}
use Rattle.obj.specs.Writer.{Wrote, Room}

-- ---- what was written

-- The output is as long as it was.
pub wrote_length : {new : List ℕ} {p q : Writer} → Wrote new p q → length q.out.now ≡ length p.out.now
wrote_length {new} {p} w = ap length w.bytes ∙ set_all_length new p.out.now p.at

-- No bytes are written where nothing is.
wrote_none : (p : Writer) → Wrote [] p p
unfolding set_all
wrote_none p = record { bytes = refl; at = sym (add-zero p.at); same = refl }

-- One byte.
pub wrote_byte : (p : Writer) (byte : ℕ) → Wrote (byte ∷ []) p (record { out = set_vals (set p.out.now p.at byte) p.out; at = p.at + 1 })
unfolding set_all
wrote_byte p byte = record { bytes = refl; at = refl; same = refl }

-- Two lots, one after the other, are one.
pub wrote_both : {a b : List ℕ} {p q r : Writer} → Wrote a p q → Wrote b q r → Wrote (a ++ b) p r
wrote_both {a} {b} {p} {q} {r} first second =
    record {
      bytes = second.bytes ∙ rw (first.bytes, first.at) (set_all_append p.out.now p.at a b);
      at = omega (arith, first.at, second.at, length-append a b);
      same = second.same ∙ first.same;
    }

-- The same bytes, said otherwise.
pub wrote_as : {a b : List ℕ} {p q : Writer} → a ≡ b → Wrote a p q → Wrote b p q
wrote_as {p = p} e w = record { bytes = w.bytes ∙ ap (set_all p.out.now p.at) e; at = w.at ∙ ap (λ (l : List ℕ). p.at + length l) e; same = w.same }

-- Where there is room for two lots there is room for the first,
pub room_first : {a : List ℕ} {p : Writer} (b : List ℕ) → Room (a ++ b) p → Room a p
room_first {a} b h = record { fits = omega (arith, h.fits, length-append a b) }

-- and once that is written for the second.
pub room_second : {a : List ℕ} {p q : Writer} (b : List ℕ) → Room (a ++ b) p → Wrote a p q → Room b q
room_second {a} b h w = record { fits = omega (arith, h.fits, length-append a b, w.at, wrote_length w) }

-- The same bytes, said otherwise.
pub room_as : {a b : List ℕ} {p : Writer} → a ≡ b → Room a p → Room b p
room_as e h = record { fits = omega (arith, h.fits, ap length e) }

-- Bytes written from the start of an output that has room for them overwrite it.
pub wrote_whole : {new : List ℕ} {p q : Writer} → p.at ≡ 0 → Room new p → Wrote new p q → q.out.now ≡ overwritten new p.out.now
wrote_whole {new} {p} start room w =
    let fits : length new ≤ length p.out.now = omega (arith, room.fits) in
    w.bytes ∙ ap (λ (k : ℕ). set_all p.out.now k new) start ∙ set_all_after new [] p.out.now fits

-- ---- what is left to write

-- In a loop: what was written since it began, and what is left, are the whole.
pub record Leads (rest : List ℕ) (p : Writer) (whole : List ℕ) (was : Writer) : Type 0 where
  pub done : List ℕ
  pub cut : whole ≡ done ++ rest
  pub wrote : Wrote done was p

-- At the start all is left,
pub leads_start : {rest whole : List ℕ} {p : Writer} → rest ≡ whole → Leads rest p whole p
leads_start {p = p} all = record { done = []; cut = sym all; wrote = wrote_none p }

module _ {rest : List ℕ} {p : Writer} {whole : List ℕ} {was : Writer} (l : Leads rest p whole was) where
  -- then the first of it is written and the others are left,
  pub leads_on : {a b : List ℕ} {q : Writer} → rest ≡ a ++ b → Wrote a p q → Leads b q whole was
  leads_on {a} {b} cut w = record { done = l.done ++ a; cut = l.cut ∙ ap (λ (r : List ℕ). l.done ++ r) cut ∙ sym (append_assoc l.done a b); wrote = wrote_both l.wrote w }

  -- and where nothing is left the whole is written.
  pub leads_done : rest ≡ [] → Wrote whole was p
  leads_done none = wrote_as (sym (l.cut ∙ ap (λ (r : List ℕ). l.done ++ r) none ∙ append-nil l.done)) l.wrote

  -- There is room for what is left.
  pub leads_room : Room whole was → Room rest p
  leads_room h = room_second rest (room_as l.cut h) l.wrote
