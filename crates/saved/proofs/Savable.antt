-- A mesh that can be saved in the first form, in the words of the limits: within them no number is above 256, so that each fits. And that a mesh which is handed in and passes is one.
use mathlib.Core.List.{List, [], ◌∷◌, map}
use mathlib.Core.Path.{◌≡◌, ap}
use Prim.Native.Nat.{ℕ, ◌≤◌, ◌<◌, ◌^◌}
use native.Mathlib.Omega.{arith}
use lib.ListN.{length, length-map}
use Rattle.geometry.specs.declared.axis.Axis.TheVariants.{X, Y, Z}
use Rattle.geometry.specs.declared.face.OrientedBlockFace.{OrientedBlockFace}
use Rattle.geometry.specs.Point.{along}
use Rattle.geometry.specs.Inner.{WithinBounds}
use Rattle.geometry.specs.Refusal.{accepted, checked}
use Rattle.geometry.specs.Lists.{Each}
use Rattle.geometry.proofs.Limits.{limits_bounds}
use Rattle.geometry.proofs.Lists.{each_left, each_right, each_up}
use Rattle.greedy.specs.Call.{quad_from}
use Rattle.writing.specs.Handed.{on_face, oriented, total, five_checks}
use Rattle.writing.specs.Statements.{WithinQuad, Passes}
use Rattle.writing.proofs.Ordered.{order_passed}
use Rattle.writing.proofs.Rest.{group_held}
use Rattle.saved.specs.Form.{first_form, Mesh}
use Rattle.saved.specs.Read.{mesh_quads}
use Rattle.saved.specs.Saved.{handed_mesh}
use Rattle.saved.specs.Statements.{Fits, Sized, Countable, Ok, Savable}
use Rattle.saved.proofs.Handed.{Long, handed_quads, handed_counts, handed_long}

-- ---- numbers that fit

-- The five numbers of a quad within the limits fit,
five_fit : (f : OrientedBlockFace) (q : List ℕ) → length q ≡ 5 → WithinQuad (record { face = f; quad = quad_from q }) → Each Fits q
unfolding quad_from Each along
five_fit f (x ∷ y ∷ z ∷ w ∷ h ∷ []) long within =
    let b : WithinBounds f (quad_from (x ∷ y ∷ z ∷ w ∷ h ∷ [])) = limits_bounds f _ within in
    (omega (arith, b.least X), (omega (arith, b.least Y), (omega (arith, b.least Z), (omega (arith, b.wide), (omega (arith, b.high), tt)))))
five_fit f [] long within = absurd (omega arith)
five_fit f (x ∷ []) long within = absurd (omega arith)
five_fit f (x ∷ y ∷ []) long within = absurd (omega arith)
five_fit f (x ∷ y ∷ z ∷ []) long within = absurd (omega arith)
five_fit f (x ∷ y ∷ z ∷ w ∷ []) long within = absurd (omega arith)
five_fit f (x ∷ y ∷ z ∷ w ∷ h ∷ a ∷ q) long within = absurd (omega arith)

-- those of a group,
group_sized : (f : OrientedBlockFace) (g : List (List ℕ)) → Each (Long 5) g → Each WithinQuad (on_face f (map quad_from g)) → Each (Sized 5) g
unfolding Each
group_sized f [] long within = tt
group_sized f (q ∷ g) long within = (record { long = long.0; fit = five_fit f q long.0 within.0 }, group_sized f g long.1 within.1)

-- and those of all, where there is a face for each group.
groups_sized : (fs : List OrientedBlockFace) (gs : List (List (List ℕ))) → length fs ≡ length gs → Each (λ (g : List (List ℕ)). length g < 2 ^ 32) gs → Each (Each (Long 5)) gs
    → Each WithinQuad (oriented fs (map (map quad_from) gs)) → Each (Countable 5) gs
unfolding Each oriented
groups_sized [] [] same few long within = tt
groups_sized [] (g ∷ gs) same few long within = absurd (omega arith)
groups_sized (f ∷ fs) [] same few long within = tt
groups_sized (f ∷ fs) (g ∷ gs) same few long within =
    let rest = oriented fs (map (map quad_from) gs) in (
      record { few = few.0; sized = group_sized f g long.0 (each_left WithinQuad (on_face f (map quad_from g)) rest within) },
      groups_sized fs gs (omega arith) few.1 long.1 (each_right WithinQuad (on_face f (map quad_from g)) rest within),
    )

-- Such a mesh can be saved,
pub savable_ok : (m : Mesh) → Savable m → Ok first_form m
unfolding mesh_quads
savable_ok m s =
    record {
      six = s.six;
      proper = s.proper;
      groups = s.groups;
      countable = groups_sized m.faces m.groups (omega (arith, s.six, s.groups)) s.few s.five s.within;
      within = s.within;
    }

-- Each quad of groups that can be saved has its numbers.
pub countable_long : (numbers : ℕ) (gs : List (List (List ℕ))) → Each (Countable numbers) gs → Each (Each (Long numbers)) gs
countable_long numbers gs h =
    each_up (Countable numbers) (Each (Long numbers)) (λ (g : List (List ℕ)) (c : Countable numbers g). each_up (Sized numbers) (Long numbers) (λ (q : List ℕ) (s : Sized numbers q). s.long) g c.sized) gs h

-- and one that can be saved is such a mesh.
pub ok_savable : (m : Mesh) → Ok first_form m → Savable m
ok_savable m ok =
    record {
      six = ok.six;
      proper = ok.proper;
      groups = ok.groups;
      few = each_up (Countable 5) _ (λ (g : List (List ℕ)) (c : Countable 5 g). c.few) m.groups ok.countable;
      five = countable_long 5 m.groups ok.countable;
      within = ok.within;
    }

-- ---- a mesh that is handed in

-- Each count is at most their sum.
counts_few : (most : ℕ) (gs : List (List (List ℕ))) → total (map length gs) ≤ most → Each (λ (g : List (List ℕ)). length g ≤ most) gs
unfolding Each total
counts_few most [] h = tt
counts_few most (g ∷ gs) h = (omega arith, counts_few most gs (omega arith))

module _ (faces : List OrientedBlockFace) (counts list : List ℕ) (faces_six : length faces ≡ 6) (counts_six : length counts ≡ 6) where
  -- What is handed in and passes can be saved.
  pub passed_ok : checked (five_checks faces counts list) ≡ accepted tt → Ok first_form (handed_mesh first_form faces counts list)
  unfolding handed_mesh
  passed_ok passed =
      let p : Passes 5 faces counts list = order_passed 5 faces counts list passed in
      let m : Mesh = handed_mesh first_form faces counts list in
      let are : map length m.groups ≡ counts = handed_counts first_form faces counts list in
      savable_ok m
      (record {
        six = faces_six;
        proper = p.signs;
        groups = omega (arith, length-map m.groups length, ap length are, counts_six);
        few = each_up (λ (g : List (List ℕ)). length g ≤ 1_073_741_823) _ (λ (g : List (List ℕ)) (h : length g ≤ 1_073_741_823). omega arith) m.groups (counts_few 1_073_741_823 m.groups (rw are p.few));
        five = handed_long first_form faces counts list (group_held 5 (length list) (total counts) p.held);
        within = rw (handed_quads first_form faces counts list (omega arith)) p.quads;
      })
