-- What is listed and the drawing code: document 01, 'Unit meshing', 'Greedy meshing' and 'Corners and vertex numbers'. Where the entry checks pass every quad of every group can be drawn
-- (proofs/Drawn.antt, `unit_drawn` and `greedy_drawn`), and the corners of a quad enclose exactly the faces of the voxels that it contains (`encloses_exactly`).
use Rattle.std.specs.Prelude.{◌≡◌, ◌≤◌}
use Rattle.geometry.specs.declared.quad.UnorientedQuad.{UnorientedQuad}
use Rattle.geometry.specs.declared.face.OrientedBlockFace.{OrientedBlockFace}
use Rattle.geometry.specs.declared.face.Corner.{Corner}
use Rattle.geometry.specs.declared.face.Corner.TheVariants.{MinuMinv, MaxuMaxv}
use Rattle.geometry.specs.Point.{Point, along}
use Rattle.geometry.specs.Axes.{n_axis, u_axis, v_axis}
use Rattle.geometry.specs.Corners.{corner}
use Rattle.geometry.specs.Statements.{unit_quad_at, Drawn}
use Rattle.geometry.specs.Lists.{Each}
use Rattle.voxels.specs.Shape.{Field}
use Rattle.rules.specs.Unit.{unit_group}
use Rattle.rules.specs.Greedy.{greedy_group}
use Rattle.voxels.specs.declared.extent.Extent.{Extent}

-- Every quad of a face's group can be drawn: it is within the quad limits on that face, and nothing that the drawing code asks about it is refused.
abbrev pub GroupDrawn : Extent → Field → OrientedBlockFace → Type 0
GroupDrawn inner v f = Each (Drawn f) (greedy_group inner v f).quads

-- The same of a face's unit group.
abbrev pub UnitDrawn : Extent → Field → OrientedBlockFace → Type 0
UnitDrawn inner v f = Each (λ (p : Point). Drawn f (unit_quad_at p)) (unit_group inner v f)

-- A point lies in the rectangle that a quad's corners are the corners of: on n it is where they are, and on u and v it is from the first corner to the last, which is opposite it. All
-- four corners lie there (proofs/Drawn.antt, `own_corners`).
pub record InRectangle (f : OrientedBlockFace) (q : UnorientedQuad) (p : Point) : Type 0 where
  pub level : along (n_axis f) p ≡ along (n_axis f) (corner f q MinuMinv)
  pub u_from : along (u_axis f) (corner f q MinuMinv) ≤ along (u_axis f) p
  pub u_to : along (u_axis f) p ≤ along (u_axis f) (corner f q MaxuMaxv)
  pub v_from : along (v_axis f) (corner f q MinuMinv) ≤ along (v_axis f) p
  pub v_to : along (v_axis f) p ≤ along (v_axis f) (corner f q MaxuMaxv)

-- A quad's corners enclose the face of a voxel: the four corners of that face, which are those of the voxel's unit quad, lie in the rectangle.
abbrev pub Encloses : OrientedBlockFace → UnorientedQuad → Point → Type 0
Encloses f q p = (c : Corner) → InRectangle f q (corner f (unit_quad_at p) c)
