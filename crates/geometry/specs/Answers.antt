-- What an answer means. A call that can refuse answers a `Result`: its value, or a refusal, which has a reason and a place. Every promise of such a call goes through `meaning`, which gives document 01's
-- answer: the value, or the number and the place.
use Rattle.std.specs.Prelude.{ℕ, Result}
use Rattle.std.specs.declared.result.Result.TheVariants.{Ok, Err}
use Rattle.geometry.specs.Refusal.{Answer, accepted, refused}
use Rattle.geometry.specs.declared.refusal.Refusal.{Refusal}
use Rattle.geometry.specs.declared.refusal.Reason.{Reason}
use Rattle.geometry.specs.declared.refusal.Reason.TheVariants.{Shape, FewVoxels, MinAboveMax, MaxPastShape, MinIsMax, FaceSign, FewVisited, BadVoxel, ManyQuads, NoDirection, ManyDirections, QuadLimits, ManyVertices, VoxelSize, ShortOutput, File, NoSuchNumber, Counts}

-- A reason's number: document 01, 'Refusal numbers'; of 15, 16 and 24 document 02, first and second request; 17 is ours (docs/DECISIONS.md).
abbrev pub number : Reason → ℕ
number Shape = 1
number FewVoxels = 2
number MinAboveMax = 3
number MaxPastShape = 4
number MinIsMax = 5
number FaceSign = 6
number FewVisited = 7
number BadVoxel = 8
number ManyQuads = 9
number NoDirection = 10
number ManyDirections = 11
number QuadLimits = 12
number ManyVertices = 13
number VoxelSize = 14
number ShortOutput = 15
number File = 16
number NoSuchNumber = 17
number Counts = 24

-- The value, or the refusal's number and place. A check that passed has nothing more to say: its value is `tt`.
abbrev pub meaning : {A : Type 0} → Result A Refusal → Answer A
meaning (Ok a) = accepted a
meaning (Err r) = refused (number r.reason) r.place

-- The first of two checks that refuses, whatever a refusal is. Of these refusals that means what `follow` says (`first_follows`, proofs/Orders.antt).
abbrev pub first_refused : {A E : Type 0} → Result A E → Result A E → Result A E
first_refused (Ok a) second = second
first_refused (Err e) second = Err e
