-- What holds of a writer in each of the three cases of its outcome, whatever its checks and its bytes are.
use mathlib.Core.Bool.{false}
use mathlib.Core.List.{List}
use mathlib.Core.Path.{◌≡◌, refl, sym, ◌∙◌, ap}
use Prim.Native.Nat.{ℕ, ◌≤◌, ◌<◌}
use native.Mathlib.Omega.{arith}
use lib.Dec.{ltb}
use lib.ListN.{length, drop}
use lib.Seq.{take-append_seam, drop_at}
use borrow.Author.Tests.{ltb-true, ltb-false}
use Rattle.geometry.specs.declared.face.OrientedBlockFace.{OrientedBlockFace}
use Rattle.geometry.specs.Refusal.{Answer, accepted, refused, Check, checked}
use Rattle.geometry.specs.Lists.{Each}
use Rattle.geometry.proofs.Refusals.{split, not_both}
use Rattle.listing.specs.Listing.{overwritten}
use Rattle.writing.specs.Handed.{handed_checks}
use Rattle.writing.specs.Written.{WriteAnswer, WriteOutcome, outcome, refused_answer, accepted_answer, written_after}
use Rattle.writing.proofs.Outcome.{checks_refuse, short_refused, enough_written}
use Rattle.saved.specs.Leaves.{WriterLeaves, Writes}
use Rattle.saved.proofs.Numbered.{never, writer_number, WriterCheck, handed_numbered}

-- Checks refuse, or they pass.
told : {P : Type 0} (x : Answer (Unit {0})) → ((n p : ℕ) → x ≡ refused n p → P) → (x ≡ accepted tt → P) → P
told (accepted u) refuses passes = passes refl
told (refused n p) refuses passes = refuses n p refl

-- Equal outcomes have one answer and one output.
pub parts : {r r' : WriteAnswer} {last last' : List ℕ} → outcome r last ≡ outcome r' last' → (r ≡ r') × (last ≡ last')
parts e = (ap (λ (o : WriteOutcome). o.answer) e, ap (λ (o : WriteOutcome). o.out) e)

module _ (checks : List Check) (bytes out : List ℕ) where
  -- What holds in each of the three holds of every outcome.
  pub by_cases : (P : WriteOutcome → Type 0) → ((n p : ℕ) → checked checks ≡ refused n p → P (outcome (refused_answer n p) out))
      → (checked checks ≡ accepted tt → length out < length bytes → P (outcome (refused_answer 15 0) out))
      → (checked checks ≡ accepted tt → length bytes ≤ length out → P (outcome (accepted_answer (length bytes)) (overwritten bytes out)))
      → P (written_after checks bytes out)
  by_cases P refuses short enough =
      told (checked checks)
      (λ n p e. rw (checks_refuse checks bytes out e) (refuses n p e))
      (λ passed.
      split (ltb (length out) (length bytes))
      (λ t. let less = ltb-true _ _ t in rw (short_refused checks bytes out passed less) (short passed less))
      (λ f. let most = ltb-false _ _ f in rw (enough_written checks bytes out passed most) (enough passed most)))

  -- ---- what holds of it

  -- Where its checks pass it writes its bytes, or is refused by 15 alone.
  pub passed_writes : {r : WriteAnswer} {last : List ℕ} → checked checks ≡ accepted tt → outcome r last ≡ written_after checks bytes out → Writes bytes out r last
  passed_writes passed post =
      record {
        enough = λ h. parts (post ∙ enough_written checks bytes out passed h);
        short = λ h. parts (post ∙ short_refused checks bytes out passed h);
      }

  -- Checks that give neither 0 nor 15:
  module _ (numbered : Each WriterCheck checks) where
    not_given : (m : ℕ) → writer_number m ≡ false → {n p : ℕ} → checked checks ≡ refused n p → n ≡ m → ⊥
    not_given m other {n} {p} e is = never writer_number checks numbered m other p (e ∙ ap (λ (k : ℕ). refused k p) is)

    -- each part of what is shown is read off each case.
    all_leave : (o : WriteOutcome) → o ≡ written_after checks bytes out → WriterLeaves checks bytes out o.answer o.out
    unfolding overwritten
    all_leave o post =
        rw post
        (by_cases (λ (w : WriteOutcome). WriterLeaves checks bytes out w.answer w.out)
        (λ n p e. record {
          start = λ is. absurd (not_given 0 refl e is);
          bytes = λ is. absurd (not_given 0 refl e is);
          stays = refl;
          untouched = λ some. (refl, refl);
          short = λ is. absurd (not_given 15 refl e is);
          given = λ passed less. absurd (not_both (sym passed ∙ e));
        })
        (λ passed less. record {
          start = λ is. absurd (omega arith);
          bytes = λ is. absurd (omega arith);
          stays = refl;
          untouched = λ some. (refl, refl);
          short = λ is. (passed, less);
          given = λ again shorter. refl;
        })
        (λ passed most. record {
          start = λ is. take-append_seam bytes (drop (length bytes) out);
          bytes = λ is. refl;
          stays = drop_at bytes (drop (length bytes) out) (length bytes) refl;
          untouched = λ some. absurd (omega arith);
          short = λ is. absurd (omega arith);
          given = λ again shorter. absurd (omega arith);
        }))

    pub writer_leaves : {r : WriteAnswer} {last : List ℕ} → outcome r last ≡ written_after checks bytes out → WriterLeaves checks bytes out r last
    writer_leaves {r} {last} post = all_leave (outcome r last) post

-- After the checks of a mesh that is handed in.
pub handed_leaves : (numbers : ℕ) (faces : List OrientedBlockFace) (counts list bytes out : List ℕ) {r : WriteAnswer} {last : List ℕ}
    → outcome r last ≡ written_after (handed_checks numbers faces counts list) bytes out → WriterLeaves (handed_checks numbers faces counts list) bytes out r last
handed_leaves numbers faces counts list bytes out post = writer_leaves (handed_checks numbers faces counts list) bytes out (handed_numbered numbers faces counts list) post
