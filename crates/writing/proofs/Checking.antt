-- Check 12 of one quad after another, and of one group after another: what a loop has to show, in the form of its invariant. What is left decides as the whole does.
use mathlib.Core.List.{List, [], ◌∷◌, ◌++◌}
use mathlib.Core.Path.{◌≡◌, sym, ◌∙◌, ap}
use Prim.Native.Nat.{ℕ, ◌+◌, ◌-◌, ◌*◌, ◌≤◌, ◌<◌}
use lib.ListN.{get_or, drop}
use Rattle.geometry.specs.declared.face.OrientedBlockFace.{OrientedBlockFace}
use Rattle.geometry.specs.Refusal.{Answer, accepted, refused, Check, answer, checked, follow}
use Rattle.geometry.specs.Checks.{bad_quad}
use Rattle.geometry.proofs.Refusals.{in_turn, place_passes, place_refuses}
use Rattle.greedy.specs.Call.{quad_from}
use Rattle.writing.specs.Handed.{bad_quad_at}
use Rattle.writing.specs.Left.{group_left, groups_from}
use Rattle.writing.proofs.Rest.{quad_at, group_next, group_done, Walking, groups_next, groups_done}

-- Of checks and those after them: where the first pass the others decide, and where they refuse that stands.
module _ (cs ds : List Check) {all : List Check} {t : Answer (Unit {0})} (cut : all ≡ cs ++ ds) (left : checked all ≡ t) where
  in_two : follow (checked cs) (checked ds) ≡ t
  in_two = sym (in_turn cs ds tt) ∙ sym (ap checked cut) ∙ left

  checks_on : checked cs ≡ accepted tt → checked ds ≡ t
  checks_on e = rw e at in_two

  checks_stop : {n p : ℕ} → checked cs ≡ refused n p → refused n p ≡ t
  checks_stop e = rw e at in_two

-- No checks refuse nothing.
checks_done : {cs : List Check} {t : Answer (Unit {0})} → checked cs ≡ t → cs ≡ [] → accepted tt ≡ t
unfolding answer
checks_done e none = rw none at e

-- ---- a group

module _ (numbers : ℕ) (list : List ℕ) (face : OrientedBlockFace) (first at k count : ℕ) {t : Answer (Unit {0})}
    (left : checked (group_left bad_quad_at numbers list face (first + k) at (count - k)) ≡ t) where
  abbrev here : List Check
  here = bad_quad_at (first + k) (quad_at numbers list face at)

  abbrev after : List Check
  after = group_left bad_quad_at numbers list face (first + (k + 1)) (at + numbers) (count - (k + 1))

  -- Where the quad at hand passes those after it decide,
  pub quad_on : k < count → checked (bad_quad face (quad_from (drop at list)) ∷ []) ≡ accepted tt → checked after ≡ t
  unfolding answer
  quad_on h e = checks_on here after (group_next bad_quad_at numbers list face first at k count h) left (place_passes (bad_quad face (quad_from (drop at list))) (first + k) [] e)

  -- where it is refused its number is the place,
  pub quad_stops : {m p : ℕ} → k < count → checked (bad_quad face (quad_from (drop at list)) ∷ []) ≡ refused m p → refused m (first + k) ≡ t
  quad_stops h e = checks_stop here after (group_next bad_quad_at numbers list face first at k count h) left (place_refuses (bad_quad face (quad_from (drop at list))) (first + k) [] e)

  -- and at the end nothing is refused.
  pub quads_pass : count ≤ k → accepted tt ≡ t
  quads_pass h = checks_done left (group_done bad_quad_at numbers list face first at k count h)

-- ---- the groups

module _ (numbers : ℕ) (list : List ℕ) {faces : List OrientedBlockFace} {counts : List ℕ} {first k : ℕ} (w : Walking faces counts first k) {t : Answer (Unit {0})}
    (left : checked (groups_from bad_quad_at numbers list faces counts first k) ≡ t) where
  abbrev group : OrientedBlockFace → List Check
  group d = group_left bad_quad_at numbers list (get_or faces k d) first (first * numbers) (get_or counts k 0)

  abbrev rest : List Check
  rest = groups_from bad_quad_at numbers list faces counts (first + get_or counts k 0) (k + 1)

  -- The same of the group at hand.
  pub group_on : (d : OrientedBlockFace) → k < 6 → checked (group d) ≡ accepted tt → checked rest ≡ t
  group_on d h e = checks_on (group d) rest (groups_next w bad_quad_at numbers list d h) left e

  pub group_stops : {m p : ℕ} (d : OrientedBlockFace) → k < 6 → checked (group d) ≡ refused m p → refused m p ≡ t
  group_stops d h e = checks_stop (group d) rest (groups_next w bad_quad_at numbers list d h) left e

  pub groups_pass : 6 ≤ k → accepted tt ≡ t
  groups_pass h = checks_done left (groups_done w bad_quad_at numbers list h)
