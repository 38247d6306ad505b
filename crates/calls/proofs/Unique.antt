-- What each public function's contract leaves open. Each theorem is about the contract itself, as the function's generated `Reads` has it (`Post`), and not about a copy of it: it says what any two outcomes that the contract allows of one call have in common.
-- Those of what is read of a list, and of `room`, are one: the answers are equal, and so is what is left. Of a function that reads or writes by a reader or a writer that it is handed, what is equal is what was read or written where both outcomes answer `Ok`, and the bytes are known.
use Rattle.std.proofs.Common.{◌≡◌, ℕ, Option, Some, None, IfSome, Result, Ok, Err, IfOk, OnOk, List, ◌∷◌, length, take, drop, sym, ap, ◌∙◌}
use Rattle.std.proofs.Math.Seq.{drop-append_seam}
use Rattle.std.specs.Io.KnownBytes.{Appends, Consumes}
use denote.RattleType.{RattleType}
use denote.Param.Laws.{Laws}
use mir.Syntax.{Dict}
use Rattle.std.specs.declared.io.traits.Read as reading
use Rattle.std.specs.declared.io.traits.Write as writing
use Rattle.std.specs.declared.fmt.Display as displaying
use Rattle.calls.specs.declared.Calls as calling
use Rattle.geometry.proofs.One.{One}
use Rattle.calls.specs.declared.given.Given.{Given}
use Rattle.calls.specs.declared.given.Notation.{Notation}
use Rattle.calls.specs.Given.{Reads, Leaves, face}
use Rattle.calls.specs.Lines.{written}
use Rattle.calls.proofs.given.Given.number.Reads as Given-number
use Rattle.calls.proofs.given.Given.signed.Reads as Given-signed
use Rattle.calls.proofs.given.Given.axis.Reads as Given-axis
use Rattle.calls.proofs.given.Given.point.Reads as Given-point
use Rattle.calls.proofs.given.Given.face.Reads as Given-face
use Rattle.calls.proofs.given.Given.skip.Reads as Given-skip
use Rattle.calls.proofs.room.Reads as room
use Rattle.calls.proofs.read.Reads as read
use Rattle.calls.proofs.run.Reads as run
use Rattle.calls.proofs.show.unknown.Reads as unknown
use Rattle.calls.proofs.show.number.Reads as number
use Rattle.calls.proofs.show.numbers.Reads as numbers
use Rattle.calls.proofs.show.point.Reads as point
use Rattle.calls.proofs.show.refusal.Reads as refusal
use Rattle.calls.proofs.show.check.Reads as check

-- Of any two outcomes that a contract allows of one call, a result and what is lent at exit, this holds.
abbrev pub AnyTwo {ℓ α ρ σ π τ} :
    {L : Type ℓ} {A : L → Type α} {R : L → Type ρ} {S : L → Type σ} → ((κs : L) → A κs → R κs → S κs → Type π)
    → ((κs : L) → A κs → R κs → R κs → S κs → S κs → Type τ) → Type (ℓ ⊔ α ⊔ ρ ⊔ σ ⊔ π ⊔ τ)
AnyTwo {L = L} {A = A} {R = R} {S = S} Post Holds =
    (κs : L) (a : A κs) (r r' : R κs) (s s' : S κs) → Post κs a r s → Post κs a r' s' → Holds κs a r r' s s'

-- The same is left of a list, with one way in which its numbers are written.
abbrev pub SameLeft : Given → Given → Type 0
SameLeft g g' = (g.rest.now ≡ g'.rest.now) × (g.notation ≡ g'.notation)

-- Where a writer's bytes were known they are the same after either of two calls that answer `Ok`.
abbrev pub SameWritten : {A E : Type 0} → Result A E → Result A E → Option (List ℕ) → Option (List ℕ) → Option (List ℕ) → Type 0
SameWritten r r' old new new' = OnOk r (OnOk r' (IfSome old (λ _. new ≡ new')))

-- What is read is one, and so is what it leaves.
reads_one : {A : Type 0} {f : Notation → List ℕ → A × List ℕ} {g h h' : Given} {x x' : A} → Reads f g h x → Reads f g h' x' → (x ≡ x') × SameLeft h h'
reads_one p q = (p.value ∙ sym q.value, (p.rest ∙ sym q.rest, p.notation ∙ sym q.notation))

leaves_one : {f : Notation → List ℕ → List ℕ} {g h h' : Given} → Leaves f g h → Leaves f g h' → SameLeft h h'
leaves_one p q = (p.rest ∙ sym q.rest, p.notation ∙ sym q.notation)

-- Known bytes to which others are written are one.
appends_one : (old new new' : Option (List ℕ)) (bytes : List ℕ) → Appends old new bytes → Appends old new' bytes → IfSome old (λ _. new ≡ new')
appends_one None new new' bytes p q = tt
appends_one (Some x) None new' bytes p q = absurd p
appends_one (Some x) (Some y) None bytes p q = absurd q
appends_one (Some x) (Some y) (Some z) bytes p q = ap Some (p ∙ sym q)

written_one : {A E : Type 0} (r r' : Result A E) (old new new' : Option (List ℕ)) (bytes : List ℕ)
    → OnOk r (Appends old new bytes) → OnOk r' (Appends old new' bytes) → SameWritten r r' old new new'
written_one (Ok x) (Ok y) old new new' bytes p q = appends_one old new new' bytes p q
written_one (Ok x) (Err e) old new new' bytes p q = tt
written_one (Err d) r' old new new' bytes p q = tt

-- Where it is known what is written.
known_one : {A E : Type 0} (r r' : Result A E) (old new new' bytes : Option (List ℕ)) (f : List ℕ → List ℕ)
    → OnOk r (IfSome bytes (λ bs. Appends old new (f bs))) → OnOk r' (IfSome bytes (λ bs. Appends old new' (f bs))) → IfSome bytes (λ _. SameWritten r r' old new new')
known_one r r' old new new' None f p q = tt
known_one r r' old new new' (Some bytes) f p q = written_one r r' old new new' (f bytes) p q

-- What two answers of `Ok` read is one.
answers_one : {A E : Type 0} (r r' : Result A E) (f : Notation → List ℕ → A × List ℕ) (g h h' : Given) → IfOk r (Reads f g h) → IfOk r' (Reads f g h') → IfOk r (λ x. IfOk r' (λ y. x ≡ y))
answers_one (Ok x) (Ok y) f g h h' p q = p.value ∙ sym q.value
answers_one (Ok x) (Err e) f g h h' p q = tt
answers_one (Err d) r' f g h h' p q = tt

-- Of known bytes as many are taken as there is room for, and the others are left.
taken_one : (known left left' : Option (List ℕ)) (n : ℕ) (x y : List ℕ) → IfSome known (λ bytes. x ≡ take n bytes) → IfSome known (λ bytes. y ≡ take n bytes)
    → Consumes known left x → Consumes known left' y → IfSome known (λ _. (x ≡ y) × (left ≡ left'))
taken_one None left left' n x y p q c d = tt
taken_one (Some bytes) None left' n x y p q c d = absurd c
taken_one (Some bytes) (Some l) None n x y p q c d = absurd d
taken_one (Some bytes) (Some l) (Some l') n x y p q c d =
    let same : x ≡ y = p ∙ sym q in
    (same, ap Some (sym (drop-append_seam x l) ∙ ap (drop (length x)) (sym c) ∙ ap (λ z. drop (length z) bytes) same ∙ ap (drop (length y)) d ∙ drop-append_seam y l'))

-- ---- what is read of a list: its outcome is the answer, and what is left

pub Given-number-unique : AnyTwo Given-number.Post (λ κs a r r' s s'. (r ≡ r') × SameLeft s.0.now s'.0.now)
Given-number-unique κs a r r' s s' p q = reads_one p q

pub Given-signed-unique : AnyTwo Given-signed.Post (λ κs a r r' s s'. (r ≡ r') × SameLeft s.0.now s'.0.now)
Given-signed-unique κs a r r' s s' p q = reads_one p q

pub Given-axis-unique : AnyTwo Given-axis.Post (λ κs a r r' s s'. (r ≡ r') × SameLeft s.0.now s'.0.now)
Given-axis-unique κs a r r' s s' p q = reads_one p q

pub Given-point-unique : AnyTwo Given-point.Post (λ κs a r r' s s'. (r ≡ r') × SameLeft s.0.now s'.0.now)
Given-point-unique κs a r r' s s' p q = reads_one p q

pub Given-skip-unique : AnyTwo Given-skip.Post (λ κs a r r' s s'. SameLeft s.0.now s'.0.now)
Given-skip-unique κs a r r' s s' p q = leaves_one p q

-- What is left is one whatever a writer answers.
pub Given-face-unique : (T : RattleType) (laws : Laws T) (w : writing.Ghosts T.Denot) (dict : Dict)
    → AnyTwo (Given-face.Post T laws w dict) (λ κs a r r' s s'.
    SameLeft s.0.now s'.0.now × IfOk r (λ x. IfOk r' (λ y. x ≡ y)) × SameWritten r r' (w.contents a.1.0.now) (w.contents s.1.0.now) (w.contents s'.1.0.now))
Given-face-unique T laws w dict κs a r r' s s' p q =
    (leaves_one p.1.0 q.1.0, answers_one r r' face a.0.now s.0.now s'.0.now p.0 q.0, written_one r r' (w.contents a.1.0.now) (w.contents s.1.0.now) (w.contents s'.1.0.now) _ p.1.1 q.1.1)

-- ---- a list, and its lines

pub room_unique : One room.Post
room_unique κs a r r' s s' p q = p.1 ∙ sym q.1

-- Which part of the bytes for a list is answered; and where the reader's bytes are known, what stands in it and what is left to read. (The bytes for a list are spent: the part has them.)
pub read_unique : (T : RattleType) (laws : Laws T) (reader : reading.Ghosts T.Denot) (dict : Dict)
    → AnyTwo (read.Post T laws reader dict) (λ κs a r r' s s'.
    IfOk r (λ x. IfOk r' (λ y. (x.ref_ptr ≡ y.ref_ptr) × IfSome (reader.remaining a.0.now) (λ _. (x.now ≡ y.now) × (reader.remaining s.0.now ≡ reader.remaining s'.0.now)))))
read_unique T laws reader dict κs a (Ok x) (Ok y) s s' p q =
    (p.1.1.0 ∙ sym q.1.1.0, taken_one (reader.remaining a.0.now) (reader.remaining s.0.now) (reader.remaining s'.0.now) (length a.1.0.now) x.now y.now p.0 q.0 p.1.1.1 q.1.1.1)
read_unique T laws reader dict κs a (Ok x) (Err e) s s' p q = tt
read_unique T laws reader dict κs a (Err d) r' s s' p q = tt

-- All lines, where it is known what comes out of each call.
pub run_unique : (T U : RattleType) (lawsT : Laws T) (lawsU : Laws U) (w : writing.Ghosts T.Denot) (dictT : Dict) (c : calling.Ghosts U.Denot) (dictU : Dict)
    → AnyTwo (run.Post T U lawsT lawsU w dictT c dictU) (λ κs a r r' s s'.
    IfSome (written (c.outcome a.1.1.1.0.now a.1.1.0) a.1.0.now) (λ _. SameWritten r r' (w.contents a.0.now) (w.contents s.0.now) (w.contents s'.0.now)))
run_unique T U lawsT lawsU w dictT c dictU κs a r r' s s' p q =
    known_one r r' (w.contents a.0.now) (w.contents s.0.now) (w.contents s'.0.now) (written (c.outcome a.1.1.1.0.now a.1.1.0) a.1.0.now) (λ bytes. bytes) p q

-- ---- what is written

pub unknown_unique : (T : RattleType) (laws : Laws T) (w : writing.Ghosts T.Denot) (dict : Dict)
    → AnyTwo (unknown.Post T laws w dict) (λ κs a r r' s s'. SameWritten r r' (w.contents a.0.now) (w.contents s.0.now) (w.contents s'.0.now))
unknown_unique T laws w dict κs a r r' s s' p q = written_one r r' (w.contents a.0.now) (w.contents s.0.now) (w.contents s'.0.now) _ p q

-- Where it is known what is written of what is handed in, as of each number it is.
pub number_unique : (T U : RattleType) (lawsT : Laws T) (lawsU : Laws U) (w : writing.Ghosts T.Denot) (dictT : Dict) (n : displaying.Ghosts U.Denot) (dictU dropU : Dict)
    → AnyTwo (number.Post T U lawsT lawsU w dictT n dictU dropU) (λ κs a r r' s s'.
    IfSome (n.output a.1.0) (λ _. SameWritten r r' (w.contents a.0.now) (w.contents s.0.now) (w.contents s'.0.now)))
number_unique T U lawsT lawsU w dictT n dictU dropU κs a r r' s s' p q =
    known_one r r' (w.contents a.0.now) (w.contents s.0.now) (w.contents s'.0.now) (n.output a.1.0) (λ bytes. 32 ∷ bytes) p q

pub numbers_unique : (T : RattleType) (laws : Laws T) (w : writing.Ghosts T.Denot) (dict : Dict)
    → AnyTwo (numbers.Post T laws w dict) (λ κs a r r' s s'. SameWritten r r' (w.contents a.0.now) (w.contents s.0.now) (w.contents s'.0.now))
numbers_unique T laws w dict κs a r r' s s' p q = written_one r r' (w.contents a.0.now) (w.contents s.0.now) (w.contents s'.0.now) _ p q

pub point_unique : (T : RattleType) (laws : Laws T) (w : writing.Ghosts T.Denot) (dict : Dict)
    → AnyTwo (point.Post T laws w dict) (λ κs a r r' s s'. SameWritten r r' (w.contents a.0.now) (w.contents s.0.now) (w.contents s'.0.now))
point_unique T laws w dict κs a r r' s s' p q = written_one r r' (w.contents a.0.now) (w.contents s.0.now) (w.contents s'.0.now) _ p q

pub refusal_unique : (T : RattleType) (laws : Laws T) (w : writing.Ghosts T.Denot) (dict : Dict)
    → AnyTwo (refusal.Post T laws w dict) (λ κs a r r' s s'. SameWritten r r' (w.contents a.0.now) (w.contents s.0.now) (w.contents s'.0.now))
refusal_unique T laws w dict κs a r r' s s' p q = written_one r r' (w.contents a.0.now) (w.contents s.0.now) (w.contents s'.0.now) _ p q

pub check_unique : (T : RattleType) (laws : Laws T) (w : writing.Ghosts T.Denot) (dict : Dict)
    → AnyTwo (check.Post T laws w dict) (λ κs a r r' s s'. SameWritten r r' (w.contents a.0.now) (w.contents s.0.now) (w.contents s'.0.now))
check_unique T laws w dict κs a r r' s s' p q = written_one r r' (w.contents a.0.now) (w.contents s.0.now) (w.contents s'.0.now) _ p q
