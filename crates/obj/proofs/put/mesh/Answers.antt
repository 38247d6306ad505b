-- `mesh` meets its contract: what is left, written after what is written, is all of the text.
use Rattle.std.proofs.Common.{rules}
use mathlib.Core.List.{◌++◌}
use mathlib.Core.Path.{◌≡◌, refl, sym}
use native.Mathlib.Omega.{arith}
use Rattle.listing.specs.Listing.{overwritten}
use Rattle.obj.specs.declared.put.Writer.{Writer}
use Rattle.obj.specs.Text.{first_line}
use Rattle.obj.specs.Obj.{obj_text}
use Rattle.obj.specs.Writer.{Room}
use Rattle.obj.proofs.Writer.{wrote_both, wrote_as, wrote_whole, room_first, room_second, room_as, leads_start, leads_on, leads_done, leads_room}
use Rattle.obj.proofs.Going.{groups_text, mesh_ready, mesh_text, groups_next, groups_ready, groups_on, groups_done}
use Rattle.obj.proofs.put.mesh.Goals as goal
use Rattle.obj.proofs.put.mesh.Goals.{Start}

-- A writer of the output as it was has room for the text,
room : (c : Start) → {p : Writer} → p.at ≡ 0 → p.out.now ≡ c.args.out.now → let m = c.args.mesh.now in Room (obj_text m.faces m.counts m.quads.now) p
room c {p} at out = record { fits = rw (at, out) (omega (arith, c.requires)) }

-- so for the first line and the groups after it.
room_in_two : (c : Start) → {p : Writer} → p.at ≡ 0 → p.out.now ≡ c.args.out.now → let m = c.args.mesh.now in Room (first_line ++ groups_text m.quads.now m.faces m.counts 0) p
room_in_two c at out = let m = c.args.mesh.now in room_as (mesh_text m.quads.now m.faces m.counts) (room c at out)

pub bytes-requires : goal.bytes-requires
bytes-requires c = room_first _ (room_in_two (goal.at.bytes-requires c).Start refl refl)

pub loop-face-init : goal.loop-face-init
loop-face-init c =
    let faces : c.into_iter-face-iterator.result.a.rest.now ≡ c.args.mesh.now.faces = search rules in
    let counts : c.into_iter-face-iterator.result.b.rest.now ≡ c.args.mesh.now.counts = search rules in
    rw (faces, counts) (mesh_ready c.args.mesh.now.passed, leads_start refl)

pub invariant_of-group : goal.invariant_of-group
invariant_of-group c = let s = c.in-Some.ensures.steps in record { ready = groups_ready _ s.0 s.1 _ c.loop-face.invariant.0 }

pub group-requires : goal.group-requires
group-requires c =
    let s = c.in-Some.ensures.steps in
    let after = room_second _ (room_in_two (goal.at.group-requires c).Start refl refl) c.bytes.ensures in
    room_first _ (room_as (groups_next _ s.0 s.1 _) (leads_room c.loop-face.invariant.1 after))

pub overflow_add-first : goal.overflow_add-first
overflow_add-first c =
    let s = c.in-Some.ensures.steps in
    record { fits = omega (arith, (groups_ready _ s.0 s.1 _ c.loop-face.invariant.0).few) }

pub loop-face-preserved : goal.loop-face-preserved
loop-face-preserved c =
    let s = c.in-Some.ensures.steps in
    let l = c.loop-face in
    (groups_on _ s.0 s.1 _ l.invariant.0, leads_on l.invariant.1 (groups_next _ s.0 s.1 _) c.group.ensures)

pub returns : goal.returns
returns c =
    let m = c.args.mesh.now in
    let groups = leads_done c.loop-face.invariant.1 (groups_done _ _ _ _ c.in-None.ensures.steps) in
    let all = wrote_as (sym (mesh_text m.quads.now m.faces m.counts)) (wrote_both c.bytes.ensures groups) in
    let same : c.loop-face.writer.out.ghost_name ≡ _ = all.same in
    let is : c.loop-face.writer.out.now ≡ overwritten (obj_text m.faces m.counts m.quads.now) c.args.out.now = wrote_whole refl (room (goal.at.returns c).Start refl refl) all in
    record { value = omega (arith, all.at); out_after = search rules }
