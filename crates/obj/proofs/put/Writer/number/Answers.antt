-- `number` meets its contract: its digits are spelled where there is room for them, and the byte stands after them.
use mathlib.Core.List.{[], ◌∷◌}
use mathlib.Core.Path.{refl, ap}
use Prim.Native.Nat.{ℕ, ◌+◌, ◌-◌, ◌≤◌}
use native.Mathlib.Omega.{arith}
use borrow.Rule.Slice.Mut.{set_vals}
use borrow.Rule.Slice.PartMut.{put_mid}
use lib.ListN.{length}
use Rattle.digits.specs.Decimal.{digits}
use Rattle.digits.proofs.Written.{spelled_many, spelled_from}
use Rattle.obj.specs.Writer.{Wrote, Room}
use Rattle.obj.proofs.Writer.{wrote_both, wrote_byte, wrote_length, room_first, room_second}
use Rattle.obj.proofs.put.Writer.number.Goals as goal
use Rattle.obj.proofs.put.Writer.number.Goals.{After-spell}

-- The digits are written,
spelled : (c : After-spell)
    → let p = c.args.self.now in
    Wrote (digits c.args.n) p (record { out = set_vals (put_mid p.at (length p.out.now - p.at) p.out.now c.spell.new.scratch) p.out; at = p.at + c.spell.result })
spelled c =
    let p = c.args.self.now in
    let room : Room (digits c.args.n) p = room_first (c.args.end ∷ []) c.requires in
    record {
      bytes = spelled_from c.args.n p.at p.out.now room.fits c.spell.ensures;
      at = ap (λ (many : ℕ). p.at + many) (spelled_many c.args.n p.at p.out.now room.fits c.spell.ensures);
      same = refl;
    }

-- and there is room for the byte after them.
room : (c : After-spell) → let p = c.args.self.now in p.at + c.spell.result + 1 ≤ length p.out.now
room c = let here = spelled c in omega (arith, (room_second (c.args.end ∷ []) c.requires here).fits, wrote_length here)

pub overflow_add-next : goal.overflow_add-next
overflow_add-next c = record { fits = omega (arith, room (goal.at.overflow_add-next c).After-spell) }

pub bounds-self-next : goal.bounds-self-next
bounds-self-next c = let here = (goal.at.bounds-self-next c).After-spell in omega (arith, (room_second (c.args.end ∷ []) c.requires (spelled here)).fits)

pub overflow_add-self : goal.overflow_add-self
overflow_add-self c = record { fits = omega (arith, room (goal.at.overflow_add-self c).After-spell) }

pub returns : goal.returns
returns c = wrote_both (spelled (goal.at.returns c).After-spell) (wrote_byte _ _)
