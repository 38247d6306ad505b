-- Meshes that are handed in, and what writers leave, worked out from document 02 apart from the rules. Each side of each row is computed (proofs/Examples.antt, `meshes_hold` and `writings_hold`). 13 takes a list of more than
-- five thousand million numbers and is no row: proofs/Ordered.antt, `many_refuse`, says when it refuses.
use Rattle.std.specs.Prelude.{true, List, [], ◌∷◌, ◌≡◌, ℕ, pos, replicate, set}
use Rattle.geometry.specs.declared.axis.AxisPermutation.TheVariants.{Xyz}
use Rattle.geometry.specs.declared.face.OrientedBlockFace.{OrientedBlockFace}
use Rattle.geometry.specs.Refusal.{Answer, accepted, refused, Check, at_place0, answer}
use Rattle.rules.specs.Table.{six_faces}
use Rattle.writing.specs.Handed.{total, handed_checks}
use Rattle.writing.specs.Written.{WriteOutcome, outcome, refused_answer, accepted_answer, written_after}

-- ---- meshes

-- A mesh that is handed in, its list with so many numbers a quad, and what its checks answer.
pub record HandedIn : Type 0 where
  pub numbers : ℕ
  pub faces : List OrientedBlockFace
  pub counts : List ℕ
  pub list : List ℕ
  pub answers : Answer ℕ

abbrev pub Answers : HandedIn → Type 0
Answers m = answer (handed_checks m.numbers m.faces m.counts m.list) (total m.counts) ≡ m.answers

-- Six counts.
abbrev pub counts : ℕ → ℕ → ℕ → ℕ → ℕ → ℕ → List ℕ
counts a b c d e f = a ∷ b ∷ c ∷ d ∷ e ∷ f ∷ []

-- The canonical faces, with a sign of 0 in place of the k-th.
abbrev pub unsigned : ℕ → List OrientedBlockFace → List OrientedBlockFace
unsigned k faces = set faces k (record { n_sign = pos 0; permutation = Xyz })

unfoldable pub meshes : List HandedIn
meshes =
    -- No quads in no list.
    record { numbers = 5; faces = six_faces; counts = counts 0 0 0 0 0 0; list = []; answers = accepted 0 } ∷
    -- One quad. What lies behind it is not looked at: neither a quad of width 0 nor part of one.
    record { numbers = 5; faces = six_faces; counts = counts 1 0 0 0 0 0; list = 1 ∷ 1 ∷ 1 ∷ 1 ∷ 1 ∷ []; answers = accepted 1 } ∷
    record { numbers = 5; faces = six_faces; counts = counts 1 0 0 0 0 0; list = 1 ∷ 1 ∷ 1 ∷ 1 ∷ 1 ∷ 1 ∷ 1 ∷ 1 ∷ 0 ∷ 1 ∷ 7 ∷ 7 ∷ []; answers = accepted 1 } ∷
    -- Six quads, one a group, in just as many numbers, and in one fewer.
    record { numbers = 5; faces = six_faces; counts = counts 1 1 1 1 1 1; list = replicate 30 1; answers = accepted 6 } ∷
    record { numbers = 5; faces = six_faces; counts = counts 1 1 1 1 1 1; list = replicate 29 1; answers = refused 24 0 } ∷
    -- 24: two quads in nine numbers; the last group's alone; and counts whose sum in 64 bits would be 0.
    record { numbers = 5; faces = six_faces; counts = counts 2 0 0 0 0 0; list = replicate 9 1; answers = refused 24 0 } ∷
    record { numbers = 5; faces = six_faces; counts = counts 0 0 0 0 0 1; list = replicate 4 1; answers = refused 24 0 } ∷
    record { numbers = 5; faces = six_faces; counts = counts 18_446_744_073_709_551_615 1 0 0 0 0; list = []; answers = refused 24 0 } ∷
    -- The order: a list that is too short, the sign of a face whose group is empty, and a quad of width 0, each mended in turn.
    record { numbers = 5; faces = unsigned 5 six_faces; counts = counts 1 0 0 0 0 0; list = 1 ∷ 1 ∷ 1 ∷ 0 ∷ []; answers = refused 24 0 } ∷
    record { numbers = 5; faces = unsigned 5 six_faces; counts = counts 1 0 0 0 0 0; list = 1 ∷ 1 ∷ 1 ∷ 0 ∷ 1 ∷ []; answers = refused 6 5 } ∷
    record { numbers = 5; faces = six_faces; counts = counts 1 0 0 0 0 0; list = 1 ∷ 1 ∷ 1 ∷ 0 ∷ 1 ∷ []; answers = refused 12 0 } ∷
    -- 6 of two faces: the first is the place.
    record { numbers = 5; faces = unsigned 5 (unsigned 2 six_faces); counts = counts 0 0 0 0 0 0; list = []; answers = refused 6 2 } ∷
    -- 12: a quad's number runs over the whole list, on from group to group.
    record { numbers = 5; faces = six_faces; counts = counts 1 1 0 0 0 0; list = 1 ∷ 1 ∷ 1 ∷ 1 ∷ 1 ∷ 1 ∷ 1 ∷ 1 ∷ 0 ∷ 1 ∷ []; answers = refused 12 1 } ∷
    record { numbers = 5; faces = six_faces; counts = counts 2 0 0 1 0 1; list = set (replicate 20 1) 19 0; answers = refused 12 3 } ∷
    -- 12 goes by the group's own u and v. (200,0,0,1,100) is within the limits on +X, whose v is Z, and not on +Y, whose v is X;
    record { numbers = 5; faces = six_faces; counts = counts 1 0 0 0 0 0; list = 200 ∷ 0 ∷ 0 ∷ 1 ∷ 100 ∷ []; answers = accepted 1 } ∷
    record { numbers = 5; faces = six_faces; counts = counts 0 0 1 0 0 0; list = 200 ∷ 0 ∷ 0 ∷ 1 ∷ 100 ∷ []; answers = refused 12 0 } ∷
    -- with (0,200,0,100,1) it is the other way round.
    record { numbers = 5; faces = six_faces; counts = counts 1 0 0 0 0 0; list = 0 ∷ 200 ∷ 0 ∷ 100 ∷ 1 ∷ []; answers = refused 12 0 } ∷
    record { numbers = 5; faces = six_faces; counts = counts 0 0 1 0 0 0; list = 0 ∷ 200 ∷ 0 ∷ 100 ∷ 1 ∷ []; answers = accepted 1 } ∷
    -- Of quads of six numbers the sixth is passed over.
    record { numbers = 6; faces = six_faces; counts = counts 1 1 0 0 0 0; list = 1 ∷ 1 ∷ 1 ∷ 1 ∷ 1 ∷ 0 ∷ 1 ∷ 1 ∷ 1 ∷ 1 ∷ 1 ∷ 0 ∷ []; answers = accepted 2 } ∷
    record { numbers = 6; faces = six_faces; counts = counts 1 1 0 0 0 0; list = replicate 11 1; answers = refused 24 0 } ∷
    []

-- ---- writers

-- The bytes of a writer, after some checks, an output, and what is left.
pub record Writing : Type 0 where
  pub checks : List Check
  pub bytes : List ℕ
  pub out : List ℕ
  pub leaves : WriteOutcome

abbrev pub Leaves : Writing → Type 0
Leaves w = written_after w.checks w.bytes w.out ≡ w.leaves

unfoldable pub writings : List Writing
writings =
    -- Two bytes that just fit; what is past them stays; one byte short.
    record { checks = []; bytes = 1 ∷ 2 ∷ []; out = 9 ∷ 9 ∷ []; leaves = outcome (accepted_answer 2) (1 ∷ 2 ∷ []) } ∷
    record { checks = []; bytes = 1 ∷ 2 ∷ []; out = 9 ∷ 9 ∷ 9 ∷ []; leaves = outcome (accepted_answer 2) (1 ∷ 2 ∷ 9 ∷ []) } ∷
    record { checks = []; bytes = 1 ∷ 2 ∷ []; out = 9 ∷ []; leaves = outcome (refused_answer 15 0) (9 ∷ []) } ∷
    -- A check refuses before 15, and nothing is written.
    record { checks = at_place0 24 true ∷ []; bytes = 1 ∷ 2 ∷ []; out = 9 ∷ []; leaves = outcome (refused_answer 24 0) (9 ∷ []) } ∷
    record { checks = at_place0 24 true ∷ []; bytes = 1 ∷ 2 ∷ []; out = 9 ∷ 9 ∷ []; leaves = outcome (refused_answer 24 0) (9 ∷ 9 ∷ []) } ∷
    []
