-- For private contracts: bytes put into an output one after another, and what is asked of the quads that they are made of.
use Rattle.std.specs.Prelude.{true, List, [], ◌∷◌, ◌++◌, ◌≡◌, ℕ, ◌+◌, ◌*◌, ◌≤◌, length}
use Rattle.std.specs.Coded.{Unit-prop, ×_prop}
use Rattle.std.proofs.Math.Bool.{Bool-set}
use Rattle.std.proofs.Props.{props}
use Rattle.geometry.specs.declared.quad.UnorientedQuad.{UnorientedQuad}
use Rattle.geometry.specs.declared.face.OrientedBlockFace.{OrientedBlockFace}
use Rattle.geometry.specs.Point.{Point}
use Rattle.geometry.specs.Checks.{proper_sign}
use Rattle.geometry.specs.Lists.{Each}
use Rattle.listing.specs.Listing.{capacity}
use Rattle.listing.specs.Pushed.{set_all}
use Rattle.greedy.specs.Greedy.{quad_numbers}
use Rattle.digits.specs.Decimal.{digits}
use Rattle.writing.specs.Handed.{OrientedQuad, most_quads}
use Rattle.writing.specs.Left.{quads_left, group_left}
use Rattle.writing.specs.Statements.{WithinQuad}
use Rattle.obj.specs.declared.put.Writer.{Writer}
use Rattle.obj.specs.Text.{space, line_feed, quad_text}

-- ---- the output

-- What a method that writes promises: these bytes were put into the writer's output, behind those that were written, and it is the same output.
pub record Wrote (new : List ℕ) (was now : Writer) : Type 0 where
  pub bytes : now.out.now ≡ set_all was.out.now was.at new
  pub at : now.at ≡ was.at + length new
  pub same : now.out.ghost_name ≡ was.out.ghost_name

-- And what it asks: the output has room for them.
pub record Room (new : List ℕ) (was : Writer) : Type 0 where
  pub fits : was.at + length new ≤ length was.out.now

-- A number, and a byte after it.
abbrev pub ended : ℕ → ℕ → List ℕ
ended n end = digits n ++ (end ∷ [])

-- A line of three numbers after its start.
abbrev pub line_of : List ℕ → ℕ → ℕ → ℕ → List ℕ
line_of start a b c = start ++ (ended a space ++ (ended b space ++ ended c line_feed))

-- ---- how long lines are

-- The digits of a point's coordinates.
abbrev pub point_places : Point → ℕ
point_places p = length (digits p.x) + length (digits p.y) + length (digits p.z)

-- The two lines of quad k's triangles, on whichever face: two vertex numbers stand in both.
abbrev pub triangles_long : ℕ → ℕ
triangles_long k = 10 + length (digits (4 * k + 1)) + 2 * length (digits (4 * k + 2)) + 2 * length (digits (4 * k + 3)) + length (digits (4 * k + 4))

-- ---- what is asked

-- The quad on the face.
abbrev pub on : OrientedBlockFace → UnorientedQuad → OrientedQuad
on face quad = record { face = face; quad = quad }

-- Of a face and a quad: nothing that is asked about them for its corners is refused.
pub record Drawable (face : OrientedBlockFace) (quad : UnorientedQuad) : Type 0 where
  pub proper : proper_sign face.n_sign ≡ true
  pub within : WithinQuad (on face quad)

-- Of a group of so many quads on a face, after so many quads of a list.
pub record GroupReady (list : List ℕ) (face : OrientedBlockFace) (first count : ℕ) : Type 0 where
  pub proper : proper_sign face.n_sign ≡ true
  pub within : Each WithinQuad (quads_left quad_numbers list face (first * quad_numbers) count)
  pub few : first + count ≤ most_quads
  pub held : first + count ≤ capacity quad_numbers (length list)

-- The bytes of that group.
abbrev pub group_text : List ℕ → OrientedBlockFace → ℕ → ℕ → List ℕ
group_text list face first count = group_left quad_text quad_numbers list face first (first * quad_numbers) count

-- That quads are within the limits has one proof at most, as the ghost field of a struct asks.
pub within_prop : (qs : List OrientedQuad) → IsProp (Each WithinQuad qs)
unfolding Each
within_prop [] = Unit-prop
within_prop (q ∷ qs) = ×_prop (Bool-set _ _) (within_prop qs)

pub ruleset ready_props = (props, within_prop)
