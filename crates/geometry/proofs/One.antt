-- What it means that a contract leaves one outcome, and that answers which mean the same are the same. The uniqueness theorems of functions that are lent nothing to write share these.
use mathlib.Core.List.{List, [], ◌∷◌}
use lib.ListN.{get_or}
use mathlib.Core.Path.{◌≡◌, refl, sym, ◌∙◌, ap}
use Prim.Native.Nat.{ℕ}
use Rattle.std.specs.declared.result.Result.{Result}
use Rattle.std.specs.declared.result.Result.TheVariants.{Ok, Err}
use Rattle.geometry.specs.declared.refusal.Refusal.{Refusal}
use Rattle.geometry.specs.declared.refusal.Reason.{Reason}
use Rattle.geometry.specs.declared.refusal.Reason.TheVariants.{Shape, FewVoxels, MinAboveMax, MaxPastShape, MinIsMax, FaceSign, FewVisited, BadVoxel, ManyQuads, NoDirection, ManyDirections, QuadLimits, ManyVertices, VoxelSize, ShortOutput, File, NoSuchNumber, Counts}
use Rattle.geometry.specs.Refusal.{Answer, accepted, refused}
use Rattle.geometry.specs.Answers.{number, meaning}

-- A contract, as a relation of lifetimes, arguments, the result and what is lent at exit, leaves one result. (Of a function that is lent a buffer to write this is
-- not enough: there the buffer at exit has to be one too.)
abbrev pub One {ℓ α ρ σ π} :
    {L : Type ℓ} {A : L → Type α} {R : L → Type ρ} {S : L → Type σ} → ((κs : L) → A κs → R κs → S κs → Type π) → Type (ℓ ⊔ α ⊔ ρ ⊔ σ ⊔ π)
One {L = L} {A = A} {R = R} {S = S} Post =
    (κs : L) (a : A κs) (r r' : R κs) (s s' : S κs) → Post κs a r s → Post κs a r' s' → r ≡ r'

-- An answer back from what it means.
abbrev pub back : {A E : Type 0} → (A → E) → (ℕ → ℕ → E) → Answer A → E
back value number (accepted a) = value a
back value number (refused n p) = number n p

-- Where every answer comes back from its meaning, answers with one meaning are one.
pub answered : {A E : Type 0} (means : E → Answer A) (value : A → E) (number : ℕ → ℕ → E) → ((r : E) → back value number (means r) ≡ r) → (r r' : E) → means r ≡ means r' → r ≡ r'
answered means value number comes r r' e = sym (comes r) ∙ ap (back value number) e ∙ comes r'

-- ---- a result that can refuse

-- The reasons in the order of their numbers, from 0; where no reason has one, any stands.
abbrev reasons : List Reason
reasons =
    Shape ∷ Shape ∷ FewVoxels ∷ MinAboveMax ∷ MaxPastShape ∷ MinIsMax ∷ FaceSign ∷ FewVisited ∷ BadVoxel ∷ ManyQuads ∷ NoDirection ∷ ManyDirections ∷ QuadLimits
    ∷ ManyVertices ∷ VoxelSize ∷ ShortOutput ∷ File ∷ NoSuchNumber ∷ Shape ∷ Shape ∷ Shape ∷ Shape ∷ Shape ∷ Shape ∷ Counts ∷ []

-- A refusal back from its number and place.
abbrev refusal : ℕ → ℕ → Refusal
refusal n p = record { reason = get_or reasons n Shape; place = p }

reason_back : (r : Reason) → get_or reasons (number r) Shape ≡ r
reason_back Shape = refl
reason_back FewVoxels = refl
reason_back MinAboveMax = refl
reason_back MaxPastShape = refl
reason_back MinIsMax = refl
reason_back FaceSign = refl
reason_back FewVisited = refl
reason_back BadVoxel = refl
reason_back ManyQuads = refl
reason_back NoDirection = refl
reason_back ManyDirections = refl
reason_back QuadLimits = refl
reason_back ManyVertices = refl
reason_back VoxelSize = refl
reason_back ShortOutput = refl
reason_back File = refl
reason_back NoSuchNumber = refl
reason_back Counts = refl

-- No reason has the number 0, which is an accepted call's.
pub number_some : (r : Reason) → number r ≡ 0 → ⊥
number_some Shape e = cc
number_some FewVoxels e = cc
number_some MinAboveMax e = cc
number_some MaxPastShape e = cc
number_some MinIsMax e = cc
number_some FaceSign e = cc
number_some FewVisited e = cc
number_some BadVoxel e = cc
number_some ManyQuads e = cc
number_some NoDirection e = cc
number_some ManyDirections e = cc
number_some QuadLimits e = cc
number_some ManyVertices e = cc
number_some VoxelSize e = cc
number_some ShortOutput e = cc
number_some File e = cc
number_some NoSuchNumber e = cc
number_some Counts e = cc

-- The refusal of a reason and a place.
abbrev refused_for : Reason → ℕ → Refusal
refused_for r p = record { reason = r; place = p }

-- Refusals of one number and one place are one.
pub refusal_one : (e e' : Refusal) → number e.reason ≡ number e'.reason → e.place ≡ e'.place → e ≡ e'
refusal_one e e' n p =
    let reasons_same : e.reason ≡ e'.reason = sym (reason_back e.reason) ∙ ap (λ (k : ℕ). get_or reasons k Shape) n ∙ reason_back e'.reason in
    ap (λ (r : Reason). refused_for r e.place) reasons_same ∙ ap (refused_for e'.reason) p

-- Two answers with one meaning are one.
pub meaning_one : {A : Type 0} (r r' : Result A Refusal) → meaning r ≡ meaning r' → r ≡ r'
meaning_one = answered meaning Ok (λ n p. Err (refusal n p)) (elim [ Ok a ↦ refl | Err e ↦ ap (λ (r : Reason). Err (record { reason = r; place = e.place })) (reason_back e.reason) ])
