-- What every call leaves, from its whole outcome: `post` is what the contract of `write_obj` ensures, word for word.
use mathlib.Core.Bool.{Bool, true, false, ◌||◌, false≢true}
use mathlib.Core.List.{List, [], ◌∷◌, ◌++◌}
use mathlib.Core.Path.{◌≡◌, refl, sym, ◌∙◌, ap}
use Prim.Native.Nat.{ℕ, ◌+◌, ◌≤◌, ◌<◌}
use native.Mathlib.Omega.{arith}
use lib.Dec.{eqb, ltb}
use lib.ListN.{length, drop}
use lib.Seq.{take-append_seam, drop_at}
use contract.Lifetimes
use borrow.Author.Tests.{ltb-true, ltb-false}
use borrow.Fn.World
use borrow.Fn.Kinds
use denote.Triple.Clauses
use Rattle.geometry.specs.declared.face.OrientedBlockFace.{OrientedBlockFace}
use Rattle.geometry.specs.Refusal.{Answer, accepted, refused, Check, answer, checked}
use Rattle.geometry.specs.Lists.{Each}
use Rattle.geometry.proofs.Refusals.{split, applies, passes, refused_number, not_both}
use Rattle.geometry.proofs.Lists.{each_append}
use Rattle.voxels.specs.Checks.{bad_faces_from, bad_faces}
use Rattle.listing.specs.Listing.{overwritten, capacity}
use Rattle.geometry.specs.Answers as answers
use Rattle.greedy.specs.Greedy.{quad_numbers, greedy_answer}
use Rattle.greedy.specs.contracts.greedy_quads
use Rattle.greedy.proofs.greedy_quads.Kinds as greedy-quads-kinds
use Rattle.greedy.proofs.greedy_quads.Reads as greedy-quads
use Rattle.writing.specs.Handed.{OrientedQuad, numbered, handed, past_list, bad_quad_at, bad_quads, many_quads, handed_checks, listed_checks}
use Rattle.writing.specs.Written.{WriteAnswer, write_answer, WriteOutcome, outcome, refused_answer, accepted_answer}
use Rattle.writing.specs.Statements.{ListedPasses}
use Rattle.writing.proofs.Outcome.{checks_refuse, short_refused, enough_written}
use Rattle.writing.proofs.Greedy.{greedy_handed}
use Rattle.obj.specs.Obj.{obj_text, write_obj}
use Rattle.obj.specs.contracts.write_obj
use Rattle.obj.proofs.write_obj.Kinds as write-obj-kinds
use Rattle.obj.proofs.write_obj.Reads as write-obj
use Rattle.obj.specs.Reader.{meaning}
use Rattle.obj.specs.Statements.{WriteHolds, Writes}
use Rattle.obj.proofs.Lengths.{handed_at_most}
use Rattle.obj.proofs.ReadBack.{reads_back}

-- ---- the numbers that a list's checks give

-- Whether a number is one of theirs: neither 0, by which an accepted call is known, nor 15, which comes after them.
abbrev list_number : ℕ → Bool
list_number n = eqb n 24 || eqb n 6 || eqb n 12 || eqb n 13

abbrev ListCheck : Check → Type 0
ListCheck c = list_number c.number ≡ true

refused_list : (cs : List Check) → Each ListCheck cs → {n p : ℕ} → checked cs ≡ refused n p → list_number n ≡ true
unfolding Each answer
refused_list [] h e = absurd (not_both e)
refused_list (c ∷ cs) h {n} {p} e =
    split c.applies
    (λ t. let is : c.number ≡ n = refused_number (sym (applies c cs tt t) ∙ e) in rw (sym is) h.0)
    (λ f. refused_list cs h.1 (sym (passes c cs tt f) ∙ e))

faces_numbered : (k : ℕ) (fs : List OrientedBlockFace) → Each ListCheck (bad_faces_from k fs)
unfolding bad_faces_from Each
faces_numbered k [] = tt
faces_numbered k (f ∷ fs) = (refl, faces_numbered (k + 1) fs)

quads_numbered : (k : ℕ) (qs : List OrientedQuad) → Each ListCheck (numbered bad_quad_at k qs)
unfolding numbered Each
quads_numbered k [] = tt
quads_numbered k (q ∷ qs) = (refl, quads_numbered (k + 1) qs)

module _ (faces : List OrientedBlockFace) (counts list : List ℕ) where
  abbrev past : List Check
  past = past_list (capacity quad_numbers (length list)) counts

  abbrev quads : List OrientedQuad
  quads = handed quad_numbers faces counts list

  checks_numbered : Each ListCheck (listed_checks faces counts list)
  unfolding handed_checks Each
  checks_numbered =
      each_append ListCheck (past ++ bad_faces faces ++ bad_quads quads) (many_quads counts)
      (each_append ListCheck (past ++ bad_faces faces) (bad_quads quads) (each_append ListCheck past (bad_faces faces) (refl, tt) (faces_numbered 0 faces)) (quads_numbered 0 quads))
      (refl, tt)

  never : (m : ℕ) → list_number m ≡ false → {n p : ℕ} → checked (listed_checks faces counts list) ≡ refused n p → n ≡ m → ⊥
  never m other {n} {p} e is = let clash : list_number m ≡ true = rw is at (refused_list (listed_checks faces counts list) checks_numbered e) in false≢true (sym other ∙ clash)

-- ---- the three cases

-- Equal outcomes have one answer and one output.
pub parts : {r r' : WriteAnswer} {last last' : List ℕ} → outcome r last ≡ outcome r' last' → (r ≡ r') × (last ≡ last')
parts e = (ap (λ (o : WriteOutcome). o.answer) e, ap (λ (o : WriteOutcome). o.out) e)

-- Checks refuse, or they pass.
told : {P : Type 0} (x : Answer (Unit {0})) → ((n p : ℕ) → x ≡ refused n p → P) → (x ≡ accepted tt → P) → P
told (accepted u) refuses passes = passes refl
told (refused n p) refuses passes = refuses n p refl

module _ (faces : List OrientedBlockFace) (counts list out : List ℕ) where
  abbrev checks : List Check
  checks = listed_checks faces counts list

  abbrev text : List ℕ
  text = obj_text faces counts list

  -- What holds where a list's check refuses, where 15 does and where nothing does, holds of every call.
  by_cases : (P : WriteOutcome → Type 0) → ((n p : ℕ) → checked checks ≡ refused n p → P (outcome (refused_answer n p) out))
      → (checked checks ≡ accepted tt → length out < length text → P (outcome (refused_answer 15 0) out))
      → (checked checks ≡ accepted tt → length text ≤ length out → P (outcome (accepted_answer (length text)) (overwritten text out)))
      → P (write_obj faces counts list out)
  unfolding write_obj
  by_cases P refuses short enough =
      told (checked checks)
      (λ n p e. rw (checks_refuse checks text out e) (refuses n p e))
      (λ passed.
      split (ltb (length out) (length text))
      (λ t. let less = ltb-true _ _ t in rw (short_refused checks text out passed less) (short passed less))
      (λ f. let most = ltb-false _ _ f in rw (enough_written checks text out passed most) (enough passed most)))

  -- Each part of what is shown is read off each case.
  all_hold : (o : WriteOutcome) → o ≡ write_obj faces counts list out → WriteHolds faces counts list out o.answer o.out
  unfolding overwritten
  all_hold o post =
      rw post
      (by_cases (λ (w : WriteOutcome). WriteHolds faces counts list out w.answer w.out)
      (λ n p e. record {
        start = λ is. absurd (never faces counts list 0 refl e is);
        bytes = λ is. absurd (never faces counts list 0 refl e is);
        reads = λ is. absurd (never faces counts list 0 refl e is);
        stays = refl;
        untouched = λ some. (refl, refl);
        short = λ is. absurd (never faces counts list 15 refl e is);
        given = λ passed less. absurd (not_both (sym passed ∙ e));
        room = λ paired enough is. never faces counts list 15 refl e is;
      })
      (λ passed less. record {
        start = λ is. absurd (omega arith);
        bytes = λ is. absurd (omega arith);
        reads = λ is. absurd (omega arith);
        stays = refl;
        untouched = λ some. (refl, refl);
        short = λ is. (passed, less);
        given = λ again shorter. refl;
        room = λ paired enough is. omega (arith, handed_at_most faces counts list paired passed);
      })
      (λ passed most. record {
        start = λ is. take-append_seam text (drop (length text) out);
        bytes = λ is. refl;
        reads = λ is. ap meaning (take-append_seam text (drop (length text) out)) ∙ reads_back (handed quad_numbers faces counts list);
        stays = drop_at text (drop (length text) out) (length text) refl;
        untouched = λ some. absurd (omega arith);
        short = λ is. absurd (omega arith);
        given = λ again shorter. absurd (omega arith);
        room = λ paired enough is. omega arith;
      }))

  module _ {r : WriteAnswer} {last : List ℕ} (post : outcome r last ≡ write_obj faces counts list out) where
    pub write_holds : WriteHolds faces counts list out r last
    write_holds = all_hold (outcome r last) post

    pub passed_writes : ListedPasses faces counts list → Writes faces counts list out r last
    unfolding write_obj
    passed_writes passed =
        record {
          enough = λ h. parts (post ∙ enough_written checks text out passed h);
          short = λ h. parts (post ∙ short_refused checks text out passed h);
        }

-- ---- the contract

-- Of the contract of `write_obj` itself: its arguments are the faces, the counts, the list and the output.
pub call_holds : (κs : Lifetimes.Lfts 2) (a : World.ArgsD write_obj.signature κs) (r : World.ResD write_obj.signature κs)
    (s : Clauses.AtExit (Kinds.ended_of 2 write-obj-kinds.ps write-obj-kinds.r) κs)
    → write-obj.Post κs a r s → WriteHolds a.0 a.1.0 a.1.1.0.now a.1.1.1.0.now (write_answer (answers.meaning r)) s.1.1.1.0.now
call_holds κs a r s post = write_holds _ _ _ _ post

-- ---- after greedy meshing

-- Of the contract of `greedy_quads` itself: a call of the writer on what a greedy call that answers 0 leaves, with its faces and its counts, is refused by 15 alone.
pub greedy_writes : (κs : Lifetimes.Lfts 3) (a : World.ArgsD greedy_quads.signature κs) (r : World.ResD greedy_quads.signature κs)
    (s : Clauses.AtExit (Kinds.ended_of 3 greedy-quads-kinds.ps greedy-quads-kinds.r) κs)
    → greedy-quads.Post κs a r s → length a.1.1.1.1.0 ≡ 6 → (greedy_answer (answers.meaning r)).mesh.refusal ≡ 0
    → (out : List ℕ) (w : WriteAnswer) (last : List ℕ) → outcome w last ≡ write_obj a.1.1.1.1.0 (greedy_answer (answers.meaning r)).mesh.counts s.1.1.1.1.1.1.0.now out
    → Writes a.1.1.1.1.0 (greedy_answer (answers.meaning r)).mesh.counts s.1.1.1.1.1.1.0.now out w last
greedy_writes κs a r s post six zero out w last e = passed_writes _ _ _ out e (greedy_handed κs a r s post six zero)
