-- Document 01's examples as whole calls: E1 and E12 ("E1 with capacity 5: refusal 9, place 5. Capacity 6 succeeds. All empty with capacity 0 succeeds."), and E8 with E9. The marked examples are the table of the rules
-- (crates/rules/specs/Table.antt). That every call holds is `calls_hold` (proofs/Calls.antt).
use Rattle.std.specs.Prelude.{List, [], ◌∷◌, map, ◌≡◌, ℕ, ◌-◌, ◌*◌, replicate}
use Rattle.geometry.specs.declared.quad.UnorientedQuad.{UnorientedQuad}
use Rattle.geometry.specs.Point.{Point, at}
use Rattle.voxels.specs.Shape.{size}
use Rattle.listing.specs.Outcome.{MeshAnswer}
use Rattle.listing.specs.Listing.{joined}
use Rattle.rules.specs.Table.{O, T, Placed, placed, block, quad, six_faces}
use Rattle.greedy.specs.Greedy.{listed, quad_numbers, numbers_of, GreedyOutcome, greedy_quads}

-- A call over a block and the six canonical faces, with an output for so many quads: its answer and its output at exit.
pub record Called : Type 0 where
  pub shape : Point
  pub voxels : List Placed
  pub capacity : ℕ
  pub answer : MeshAnswer
  pub tests : ℕ
  pub out : List ℕ

-- What the call leaves by the rule: its visited bytes hold 255 and its output 9 before it.
unfoldable pub call : Called → GreedyOutcome
call c =
    greedy_quads (block c.shape c.voxels) c.shape (at 0 0 0) (at (c.shape.x - 1) (c.shape.y - 1) (c.shape.z - 1)) six_faces (replicate (size c.shape) 255) (replicate (c.capacity * quad_numbers) 9)

-- A call holds where the rule leaves that answer and that output, and visited bytes that are 0.
unfoldable pub CallIs : Called → Type 0
CallIs c = call c ≡ record { mesh = record { answer = c.answer; out = c.out }; tests = c.tests; visited_bytes = replicate (size c.shape) 0 }

-- The numbers of quads, end to end.
unfoldable pub numbers_of_all : List UnorientedQuad → List ℕ
numbers_of_all quads = joined (map (λ (q : UnorientedQuad). numbers_of (listed q)) quads)

-- So many times (1,1,1,1,1) as a listing: E1's six quads, and its first five.
abbrev pub ones : ℕ → List ℕ
ones n = replicate (n * quad_numbers) 1

-- The calls.
unfoldable pub calls : List Called
calls =
    -- E1 and E12
    record { shape = at 3 3 3; voxels = placed 1 1 1 (O 7) ∷ []; capacity = 6; answer = record { refusal = 0; place = 0; counts = replicate 6 1 }; tests = 12; out = ones 6 } ∷
    record { shape = at 3 3 3; voxels = placed 1 1 1 (O 7) ∷ []; capacity = 5; answer = record { refusal = 9; place = 5; counts = replicate 6 0 }; tests = 0; out = ones 5 } ∷
    record { shape = at 3 3 3; voxels = []; capacity = 0; answer = record { refusal = 0; place = 0; counts = replicate 6 0 }; tests = 6; out = [] } ∷
    -- E8 and E9: +X and -X are E8's, +Z is E9's; on +Y and -Y, whose v is X, the two share a quad of height 2, and on -Z as on +Z
    record {
      shape = at 4 3 3;
      voxels = placed 1 1 1 (O 7) ∷ placed 2 1 1 (T 7) ∷ [];
      capacity = 7;
      answer = record { refusal = 0; place = 0; counts = 2 ∷ 1 ∷ 1 ∷ 1 ∷ 1 ∷ 1 ∷ [] };
      tests = 23;
      out = numbers_of_all (quad 1 1 1 1 1 ∷ quad 2 1 1 1 1 ∷ quad 1 1 1 1 1 ∷ quad 1 1 1 1 2 ∷ quad 1 1 1 1 2 ∷ quad 1 1 1 2 1 ∷ quad 1 1 1 2 1 ∷ []);
    } ∷
    []
