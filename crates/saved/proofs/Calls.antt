-- Calls: what every call of the writer leaves, what each of the two undoes of the other, and what a file that was accepted tells of other files. Each theorem is about the contracts themselves, as the functions' generated `Reads` have them
-- (`Post`); the laws before it are about the outcomes that these promise, word for word.
use mathlib.Core.Bool.{not}
use mathlib.Core.List.{List, [], ◌∷◌, ◌++◌, map}
use mathlib.Core.Path.{◌≡◌, refl, sym, ◌∙◌, ap}
use Prim.Native.Nat.{ℕ, suc, ◌+◌, ◌*◌, ◌≤◌, ◌<◌}
use native.Mathlib.Omega.{arith}
use lib.ListN.{length, take, drop, length-append, length-map}
use lib.Seq.{take_at}
use contract.Lifetimes
use borrow.Author.Tests.{le-ltb}
use borrow.Fn.World
use borrow.Fn.Kinds
use denote.Triple.Clauses
use Rattle.geometry.specs.declared.face.OrientedBlockFace.{OrientedBlockFace}
use Rattle.geometry.specs.Checks.{bad_sign}
use Rattle.geometry.specs.Refusal.{accepted, refused, Check, at_place, answer, checked}
use Rattle.geometry.specs.Answers.{meaning}
use Rattle.geometry.specs.Lists.{Each}
use Rattle.geometry.proofs.Refusals.{passes, answer_refused}
use Rattle.voxels.specs.Checks.{bad_faces_from, bad_faces}
use Rattle.voxels.proofs.Faces.{Proper}
use Rattle.saved.proofs.Numbered.{never}
use Rattle.listing.specs.Listing.{overwritten, capacity}
use Rattle.listing.specs.Outcome.{mesh_answer}
use Rattle.listing.specs.Cut.{groups_in, Matched}
use Rattle.greedy.proofs.Call.{call_holds}
use Rattle.greedy.specs.Greedy.{greedy_answer}
use Rattle.greedy.specs.contracts.greedy_quads
use Rattle.greedy.proofs.greedy_quads.Kinds as greedy-quads-kinds
use Rattle.greedy.proofs.greedy_quads.Reads as greedy-quads
use Rattle.writing.specs.Handed.{handed, total, past_list, most_quads, five_checks}
use Rattle.writing.specs.Written.{WriteAnswer, write_answer, WriteOutcome, outcome, accepted_answer}
use Rattle.writing.specs.Statements.{WithinQuad}
use Rattle.saved.specs.Leaves.{WriterLeaves, Writes}
use Rattle.saved.proofs.Numbered.{writer_number, handed_numbered}
use Rattle.writing.proofs.Ordered.{many_refuse, passed_order}
use Rattle.saved.proofs.Checking.{within_quads}
use Rattle.writing.proofs.Outcome.{checks_refuse, short_refused, enough_written}
use Rattle.saved.proofs.Writers.{parts, by_cases, handed_leaves, passed_writes}
use Rattle.writing.proofs.Greedy.{greedy_handed}
use Rattle.saved.specs.Bytes.{Bytes}
use Rattle.saved.specs.Form.{first_form, Mesh, head_count}
use Rattle.saved.specs.Layout.{bytes}
use Rattle.saved.specs.Read.{parse}
use Rattle.saved.specs.Saved.{handed_mesh, file_of, write_form, write_saved, quad_count, mesh_numbers, ReadAnswer, read_answer, reader_answer, read_outcome, read_saved}
use Rattle.saved.specs.Statements.{Fits, Ok, WriteHolds, ReadsBack, WritesBack}
use Rattle.saved.proofs.Roundtrip.{write_read, read_write, one_byte_string, one_mesh}
use Rattle.saved.proofs.Cut.{longer_refused, cut_refused}
use Rattle.saved.proofs.Size.{file_size}
use Rattle.saved.proofs.Handed.{Long, groups_counts, handed_quads, handed_counts, handed_total, handed_numbers, handed_back}
use Rattle.saved.proofs.Savable.{passed_ok}
use Rattle.saved.proofs.Outcome.{read_refused, read_many, read_fits, Took, zero_took, mesh_ok, mesh_long, numbers_length, handed_in}
use Rattle.saved.proofs.Unique.{read_parts}
use Rattle.saved.specs.contracts.write_saved
use Rattle.saved.proofs.write_saved.Kinds as write-saved-kinds
use Rattle.saved.proofs.write_saved.Reads as write-saved
use Rattle.saved.specs.contracts.read_saved
use Rattle.saved.proofs.read_saved.Kinds as read-saved-kinds
use Rattle.saved.proofs.read_saved.Reads as read-saved

-- Section 0's count fits.
head_fits : Fits (head_count first_form)
unfolding head_count
head_fits = omega arith

-- ---- the writer

module _ (faces : List OrientedBlockFace) (counts list : List ℕ) (faces_six : length faces ≡ 6) (counts_six : length counts ≡ 6) where
  abbrev checks : List Check
  checks = five_checks faces counts list

  abbrev mesh : Mesh
  mesh = handed_mesh first_form faces counts list

  abbrev file : List ℕ
  file = file_of first_form faces counts list

  -- The file of a mesh that passes has 34 bytes, and 20 for each quad.
  pub handed_size : checked checks ≡ accepted tt → length file ≡ 34 + 20 * total counts
  unfolding head_count
  handed_size passed = omega (arith, file_size first_form mesh (passed_ok faces counts list faces_six counts_six passed), handed_total first_form faces counts list)

  -- It is read as that mesh.
  handed_read : checked checks ≡ accepted tt → parse first_form file ≡ accepted mesh
  handed_read passed = write_read first_form head_fits mesh (passed_ok faces counts list faces_six counts_six passed)

  -- What a reader makes of that mesh.
  given_back : (was : List ℕ)
      → read_outcome (read_answer (accepted mesh)) (overwritten (mesh_numbers mesh) was) ≡ read_outcome (record { mesh = mesh_answer (accepted counts); faces = faces }) (overwritten (take (5 * total counts) list) was)
  unfolding handed_mesh
  given_back was =
      let five : total counts * 5 ≡ 5 * total counts = omega arith in
      rw (handed_counts first_form faces counts list, handed_numbers first_form faces counts list, five)

  module _ (out : List ℕ) {w : WriteAnswer} {last : List ℕ} (post : outcome w last ≡ write_saved faces counts list out) where
    writer : WriterLeaves checks file out w last
    unfolding write_saved write_form
    writer = handed_leaves 5 faces counts list file out post

    -- A call that answers 0 has passed.
    zero_passed : w.refusal ≡ 0 → checked checks ≡ accepted tt
    unfolding write_saved write_form
    zero_passed is =
        by_cases checks file out (λ (o : WriteOutcome). outcome w last ≡ o → checked checks ≡ accepted tt)
        (λ n p e q.
        let none : n ≡ 0 = sym (ap (λ (o : WriteOutcome). o.answer.refusal) q) ∙ is in
        absurd (never writer_number checks (handed_numbered 5 faces counts list) 0 refl p (e ∙ ap (λ (k : ℕ). refused k p) none)))
        (λ passed less q. passed)
        (λ passed most q. passed)
        post

    pub write_holds : WriteHolds faces counts list out w last
    write_holds =
        record {
          leaves = writer;
          size = λ is. writer.bytes is ∙ handed_size (zero_passed is);
          reads = λ is. ap (parse first_form) (writer.start is) ∙ handed_read (zero_passed is);
          room = λ enough is. omega (arith, (writer.short is).1, handed_size (writer.short is).0);
        }

    -- ---- what it wrote, read

    -- A call of the reader on that gives back what was handed in, or is refused by 9.
    pub reads_back : w.refusal ≡ 0 → (b was : List ℕ) → b ≡ take w.written last → {r : ReadAnswer} {left : List ℕ} → read_outcome r left ≡ read_saved b was → ReadsBack faces counts list was r left
    unfolding read_saved
    reads_back is b was e q =
        let parsed : parse first_form b ≡ accepted mesh = ap (parse first_form) e ∙ write_holds.reads is in
        let all : quad_count mesh ≡ total counts = handed_total first_form faces counts list in
        record {
          enough = λ room. read_parts (q ∙ read_fits first_form b was parsed (rw all room) ∙ given_back was);
          short = λ less. read_parts (q ∙ read_many first_form b was parsed (rw all less));
        }

-- ---- what was read, written

-- Proper faces pass 6.
proper_pass : (k : ℕ) (fs : List OrientedBlockFace) → Each Proper fs → checked (bad_faces_from k fs) ≡ accepted tt
unfolding bad_faces_from Each answer
proper_pass k [] h = refl
proper_pass k (f ∷ fs) h = passes (at_place k (bad_sign f)) (bad_faces_from (k + 1) fs) tt (ap not h.0) ∙ proper_pass (k + 1) fs h.1

-- The mesh of a file, as a reader leaves it in an output.
module _ (b : List ℕ) (are : Bytes b) (m : Mesh) (parsed : parse first_form b ≡ accepted m) (was : List ℕ) where
  abbrev counts_of_lem : List ℕ
  counts_of_lem = map length m.groups

  abbrev list_of : List ℕ
  list_of = overwritten (mesh_numbers m) was

  -- Its file is the bytes that were read,
  file_back : file_of first_form m.faces counts_of_lem list_of ≡ b
  file_back = ap (bytes first_form) (handed_in b are m parsed was) ∙ (read_write first_form b m are parsed).0

  -- and 24, 6 and 12 pass.
  held : total counts_of_lem ≤ capacity 5 (length list_of)
  unfolding overwritten capacity
  held = omega (arith, length-append (mesh_numbers m) (drop (length (mesh_numbers m)) was), numbers_length b are m parsed)

  signs : checked (bad_faces m.faces) ≡ accepted tt
  signs = proper_pass 0 m.faces (mesh_ok b are m parsed).proper

  within : Each WithinQuad (handed 5 m.faces counts_of_lem list_of)
  within = rw (← handed_quads first_form m.faces counts_of_lem list_of (omega arith), handed_in b are m parsed was) (mesh_ok b are m parsed).within

  -- So 13 is left,
  few_pass : total counts_of_lem ≤ most_quads → checked (five_checks m.faces counts_of_lem list_of) ≡ accepted tt
  few_pass few = passed_order 5 m.faces counts_of_lem list_of held signs within few

  many_refused : most_quads < total counts_of_lem → checked (five_checks m.faces counts_of_lem list_of) ≡ refused 13 0
  unfolding answer
  many_refused many =
      let counted : answer (past_list (capacity 5 (length list_of)) counts_of_lem) (total counts_of_lem) ≡ accepted (total counts_of_lem) = passes _ [] (total counts_of_lem) (le-ltb _ _ held) in
      answer_refused (five_checks m.faces counts_of_lem list_of) (total counts_of_lem) (sym (many_refuse 5 m.faces counts_of_lem list_of counted signs (within_quads 0 _ within) many))

  -- and then 15.
  pub writes_back : (out : List ℕ) {w : WriteAnswer} {last : List ℕ} → outcome w last ≡ write_saved m.faces counts_of_lem list_of out → WritesBack b counts_of_lem out w last
  unfolding write_saved write_form
  writes_back out post =
      let cs : List Check = five_checks m.faces counts_of_lem list_of in
      let new : List ℕ = file_of first_form m.faces counts_of_lem list_of in
      record {
        enough = λ few room. parts (post ∙ enough_written cs new out (few_pass few) (rw file_back room) ∙ ap (λ (f : List ℕ). outcome (accepted_answer (length f)) (overwritten f out)) file_back);
        short = λ few less. parts (post ∙ short_refused cs new out (few_pass few) (rw file_back less));
        many = λ many. parts (post ∙ checks_refuse cs new out (many_refused many));
      }

  -- Its numbers stand at the start.
  pub start_numbers : take (5 * total counts_of_lem) list_of ≡ mesh_numbers m
  unfolding overwritten
  start_numbers = take_at (mesh_numbers m) (drop (length (mesh_numbers m)) was) (5 * total counts_of_lem) (numbers_length b are m parsed)

-- ---- two calls of the reader

-- A mesh is known by its faces, its counts and its numbers.
mesh_known : (m n : Mesh) → Each (Each (Long 5)) m.groups → Each (Each (Long 5)) n.groups → m.faces ≡ n.faces → map length m.groups ≡ map length n.groups → mesh_numbers m ≡ mesh_numbers n → m ≡ n
mesh_known m n long-m long-n faces counts numbers =
    sym (handed_back first_form m [] long-m) ∙ rw (faces, counts, numbers) (handed_back first_form n [] long-n)

module _ (b out : List ℕ) {r : ReadAnswer} {last : List ℕ} (post : read_outcome r last ≡ read_saved b out) (zero : r.mesh.refusal ≡ 0) where
  pub took : Took first_form b out r last
  unfolding read_saved
  took = zero_took first_form b out post zero

  -- Its quads at exit are its mesh's.
  took_numbers : Bytes b → take (5 * total r.mesh.counts) last ≡ mesh_numbers took.mesh
  took_numbers are =
      ap (λ (q : ReadAnswer). take (5 * total q.mesh.counts) last) took.answers
      ∙ ap (take (5 * total (map length took.mesh.groups))) took.leaves
      ∙ start_numbers b are took.mesh took.parsed out

  -- What comes after what was read is refused by 16 at 7,
  pub longer_left : (x : ℕ) (more c was : List ℕ) → c ≡ b ++ (x ∷ more) → {q : ReadAnswer} {left : List ℕ} → read_outcome q left ≡ read_saved c was → (q ≡ read_answer (refused 16 7)) × (left ≡ was)
  unfolding read_saved
  longer_left x more c was is e = read_parts (e ∙ read_refused first_form c was (ap (parse first_form) is ∙ longer_refused first_form b took.parsed x more))

  -- and less of it by 16 at a section.
  pub cut_left : (n : ℕ) → n < length b → (c was : List ℕ) → c ≡ take n b → {q : ReadAnswer} {left : List ℕ} → read_outcome q left ≡ read_saved c was → (p : ℕ) × (p ≤ 6) × (q ≡ read_answer (refused 16 p)) × (left ≡ was)
  unfolding read_saved
  cut_left n less c was is e =
      let (p, most, refuses) = cut_refused first_form b took.parsed n less in
      let (answers, stays) = read_parts (e ∙ read_refused first_form c was (ap (parse first_form) is ∙ refuses)) in
      (p, most, answers, stays)

-- A call of the writer on what it left writes what was read.
writes_left : (b : List ℕ) → Bytes b → (out : List ℕ) {r : ReadAnswer} {last : List ℕ} → read_outcome r last ≡ read_saved b out → r.mesh.refusal ≡ 0
    → (faces : List OrientedBlockFace) (counts list : List ℕ) → faces ≡ r.faces → counts ≡ r.mesh.counts → list ≡ last
    → (room : List ℕ) {w : WriteAnswer} {left : List ℕ} → outcome w left ≡ write_saved faces counts list room → WritesBack b r.mesh.counts room w left
writes_left b are out {r} {last} post zero faces counts list fs cs ls room e =
    let t : Took first_form b out r last = took b out post zero in
    let of-mesh : r.mesh.counts ≡ map length t.mesh.groups = ap (λ (a : ReadAnswer). a.mesh.counts) t.answers in
    let its-faces : faces ≡ t.mesh.faces = fs ∙ ap (λ (a : ReadAnswer). a.faces) t.answers in
    let its-counts : counts ≡ map length t.mesh.groups = cs ∙ of-mesh in
    let its-list : list ≡ overwritten (mesh_numbers t.mesh) out = ls ∙ t.leaves in
    rw of-mesh (writes_back b are t.mesh t.parsed out room (rw (its-faces, its-counts, its-list) at e))

-- Two files that are read as one mesh are one.
files_one : (b : List ℕ) → Bytes b → (out : List ℕ) {r : ReadAnswer} {last : List ℕ} → read_outcome r last ≡ read_saved b out → r.mesh.refusal ≡ 0
    → (c : List ℕ) → Bytes c → (was : List ℕ) {q : ReadAnswer} {left : List ℕ} → read_outcome q left ≡ read_saved c was → q.mesh.refusal ≡ 0
    → r.faces ≡ q.faces → r.mesh.counts ≡ q.mesh.counts → take (5 * total r.mesh.counts) last ≡ take (5 * total q.mesh.counts) left → b ≡ c
files_one b are-b out {r} {last} post zero c are-c was {q} {left} post' zero' faces counts quads =
    let t : Took first_form b out r last = took b out post zero in
    let u : Took first_form c was q left = took c was post' zero' in
    let same : t.mesh ≡ u.mesh =
    mesh_known t.mesh u.mesh (mesh_long b are-b t.mesh t.parsed) (mesh_long c are-c u.mesh u.parsed)
    (sym (ap (λ (a : ReadAnswer). a.faces) t.answers) ∙ faces ∙ ap (λ (a : ReadAnswer). a.faces) u.answers)
    (sym (ap (λ (a : ReadAnswer). a.mesh.counts) t.answers) ∙ counts ∙ ap (λ (a : ReadAnswer). a.mesh.counts) u.answers)
    (sym (took_numbers b out post zero are-b) ∙ quads ∙ took_numbers c was post' zero' are-c) in
    one_byte_string first_form b c u.mesh are-b are-c (t.parsed ∙ ap accepted same) u.parsed

-- Two meshes that are handed in, can be saved and have one file are one.
handed_one : (faces : List OrientedBlockFace) (counts list : List ℕ) (faces' : List OrientedBlockFace) (counts' list' : List ℕ)
    → Ok first_form (handed_mesh first_form faces counts list) → Ok first_form (handed_mesh first_form faces' counts' list') → file_of first_form faces counts list ≡ file_of first_form faces' counts' list'
    → (faces ≡ faces') × (counts ≡ counts') × (take (5 * total counts) list ≡ take (5 * total counts') list')
unfolding handed_mesh
handed_one faces counts list faces' counts' list' ok ok' e =
    let same : handed_mesh first_form faces counts list ≡ handed_mesh first_form faces' counts' list' = one_mesh first_form head_fits _ _ ok ok' e in
    let five : total counts * 5 ≡ 5 * total counts = omega arith in
    let five' : total counts' * 5 ≡ 5 * total counts' = omega arith in
    let first : mesh_numbers (handed_mesh first_form faces counts list) ≡ take (5 * total counts) list = handed_numbers first_form faces counts list ∙ ap (λ (n : ℕ). take n list) five in
    let first' : mesh_numbers (handed_mesh first_form faces' counts' list') ≡ take (5 * total counts') list' = handed_numbers first_form faces' counts' list' ∙ ap (λ (n : ℕ). take n list') five' in (
      ap (λ (m : Mesh). m.faces) same,
      sym (handed_counts first_form faces counts list) ∙ ap (λ (m : Mesh). map length m.groups) same ∙ handed_counts first_form faces' counts' list',
      sym first ∙ ap mesh_numbers same ∙ first',
    )

-- ---- the contracts

-- A call of the writer: its arguments are the faces and the counts, six each, the list and the output.
module _ (κs : Lifetimes.Lfts 2) (a : World.ArgsD write_saved.signature κs) (w : World.ResD write_saved.signature κs)
    (s : Clauses.AtExit (Kinds.ended_of 2 write-saved-kinds.ps write-saved-kinds.r) κs) (post : write-saved.Post κs a w s) (faces_six : length a.0 ≡ 6) (counts_six : length a.1.0 ≡ 6) where
  -- What it answers.
  abbrev answered : WriteAnswer
  answered = write_answer (meaning w)

  pub write_call_holds : WriteHolds a.0 a.1.0 a.1.1.0.now a.1.1.1.0.now answered s.1.1.1.0.now
  write_call_holds = write_holds a.0 a.1.0 a.1.1.0.now faces_six counts_six _ post

  module _ (zero : answered.refusal ≡ 0) where
    -- Where it answers 0, every call of the reader on the bytes that it wrote gives back what was handed in, or is refused by 9 alone.
    pub write_then_read : (λs : Lifetimes.Lfts 2) (c : World.ArgsD read_saved.signature λs) (r : World.ResD read_saved.signature λs)
        (t : Clauses.AtExit (Kinds.ended_of 2 read-saved-kinds.ps read-saved-kinds.r) λs)
        → read-saved.Post λs c r t → c.0.now ≡ take answered.written s.1.1.1.0.now → ReadsBack a.0 a.1.0 a.1.1.0.now c.1.0.now (reader_answer (meaning r)) t.1.0.now
    write_then_read λs c r t then e = reads_back a.0 a.1.0 a.1.1.0.now faces_six counts_six _ post zero _ _ e then

    -- Another call of the writer that answers 0 and wrote the same bytes was handed the same faces, counts and quads.
    pub one_mesh_written : (λs : Lifetimes.Lfts 2) (c : World.ArgsD write_saved.signature λs) (v : World.ResD write_saved.signature λs)
        (t : Clauses.AtExit (Kinds.ended_of 2 write-saved-kinds.ps write-saved-kinds.r) λs)
        → write-saved.Post λs c v t → length c.0 ≡ 6 → length c.1.0 ≡ 6 → (write_answer (meaning v)).refusal ≡ 0
        → take answered.written s.1.1.1.0.now ≡ take (write_answer (meaning v)).written t.1.1.1.0.now
        → (a.0 ≡ c.0) × (a.1.0 ≡ c.1.0) × (take (5 * total a.1.0) a.1.1.0.now ≡ take (5 * total c.1.0) c.1.1.0.now)
    one_mesh_written λs c v t other faces-six' counts-six' zero' same =
        handed_one a.0 a.1.0 a.1.1.0.now c.0 c.1.0 c.1.1.0.now
        (passed_ok _ _ _ faces_six counts_six (zero_passed a.0 a.1.0 a.1.1.0.now faces_six counts_six _ post zero))
        (passed_ok _ _ _ faces-six' counts-six' (zero_passed c.0 c.1.0 c.1.1.0.now faces-six' counts-six' _ other zero'))
        (sym ((writer a.0 a.1.0 a.1.1.0.now faces_six counts_six _ post).start zero) ∙ same ∙ (writer c.0 c.1.0 c.1.1.0.now faces-six' counts-six' _ other).start zero')

-- A call of the reader that answers 0: its arguments are the bytes and the output.
module _ (κs : Lifetimes.Lfts 2) (a : World.ArgsD read_saved.signature κs) (r : World.ResD read_saved.signature κs)
    (s : Clauses.AtExit (Kinds.ended_of 2 read-saved-kinds.ps read-saved-kinds.r) κs) (post : read-saved.Post κs a r s) (zero : (reader_answer (meaning r)).mesh.refusal ≡ 0) where
  -- What it answers.
  abbrev told : ReadAnswer
  told = reader_answer (meaning r)

  -- Every call of the writer on its faces, its counts and its output writes the bytes that were read, each of which is one, or is refused by 13 or 15 alone.
  pub read_then_write : Bytes a.0.now → (λs : Lifetimes.Lfts 2) (c : World.ArgsD write_saved.signature λs) (w : World.ResD write_saved.signature λs)
      (t : Clauses.AtExit (Kinds.ended_of 2 write-saved-kinds.ps write-saved-kinds.r) λs)
      → write-saved.Post λs c w t → c.0 ≡ told.faces → c.1.0 ≡ told.mesh.counts → c.1.1.0.now ≡ s.1.0.now
      → WritesBack a.0.now told.mesh.counts c.1.1.1.0.now (write_answer (meaning w)) t.1.1.1.0.now
  read_then_write are λs c w t then faces counts list = writes_left a.0.now are a.1.0.now post zero _ _ _ faces counts list _ then

  -- Every call of the reader on those bytes cut anywhere is refused by 16 at one of the sections, 0 to 6, whatever output it is lent, and leaves that as it was.
  pub cut_call : (λs : Lifetimes.Lfts 2) (c : World.ArgsD read_saved.signature λs) (q : World.ResD read_saved.signature λs)
      (t : Clauses.AtExit (Kinds.ended_of 2 read-saved-kinds.ps read-saved-kinds.r) λs)
      → read-saved.Post λs c q t → (n : ℕ) → n < length a.0.now → c.0.now ≡ take n a.0.now → (p : ℕ) × (p ≤ 6) × (reader_answer (meaning q) ≡ read_answer (refused 16 p)) × (t.1.0.now ≡ c.1.0.now)
  cut_call λs c q t then n less e = cut_left a.0.now a.1.0.now post zero n less _ _ e then

  -- Every call on those bytes with anything after them is refused by 16 at 7, and leaves its output as it was.
  pub longer_call : (λs : Lifetimes.Lfts 2) (c : World.ArgsD read_saved.signature λs) (q : World.ResD read_saved.signature λs)
      (t : Clauses.AtExit (Kinds.ended_of 2 read-saved-kinds.ps read-saved-kinds.r) λs)
      → read-saved.Post λs c q t → (x : ℕ) (more : List ℕ) → c.0.now ≡ a.0.now ++ (x ∷ more) → (reader_answer (meaning q) ≡ read_answer (refused 16 7)) × (t.1.0.now ≡ c.1.0.now)
  longer_call λs c q t then x more e = longer_left a.0.now a.1.0.now post zero x more _ _ e then

  -- Another call that answers 0 and gives the same faces, counts and quads was lent the same bytes.
  pub one_file_read : Bytes a.0.now → (λs : Lifetimes.Lfts 2) (c : World.ArgsD read_saved.signature λs) (q : World.ResD read_saved.signature λs)
      (t : Clauses.AtExit (Kinds.ended_of 2 read-saved-kinds.ps read-saved-kinds.r) λs)
      → read-saved.Post λs c q t → (reader_answer (meaning q)).mesh.refusal ≡ 0 → Bytes c.0.now
      → told.faces ≡ (reader_answer (meaning q)).faces → told.mesh.counts ≡ (reader_answer (meaning q)).mesh.counts
      → take (5 * total told.mesh.counts) s.1.0.now ≡ take (5 * total (reader_answer (meaning q)).mesh.counts) t.1.0.now
      → a.0.now ≡ c.0.now
  one_file_read are λs c q t other zero' are' faces counts quads = files_one a.0.now are a.1.0.now post zero c.0.now are' c.1.0.now other zero' faces counts quads

-- ---- after greedy meshing

-- Lists whose items match are equally long.
matched_long : {A B : Type 0} (P : A → B → Type 0) (l : List A) (m : List B) → Matched P l m → length l ≡ length m
unfolding Matched
matched_long P [] [] h = refl
matched_long P [] (b ∷ m) h = absurd h
matched_long P (a ∷ l) [] h = absurd h
matched_long P (a ∷ l) (b ∷ m) h = ap suc (matched_long P l m h.1)

-- Counts that cut out a group a face are as many as the faces.
counts_long : {A : Type 0} (numbers : ℕ) (read : List ℕ → A) (P : OrientedBlockFace → List A → Type 0) (faces : List OrientedBlockFace) (counts list : List ℕ)
    → Matched P faces (groups_in numbers read counts list) → length counts ≡ length faces
counts_long numbers read P faces counts list h =
    let groups = groups_in numbers read counts list in
    sym (ap length (groups_counts numbers read counts list)) ∙ length-map groups length ∙ sym (matched_long P faces groups h)

-- Of the contract of `greedy_quads` itself: a call of the writer on what a greedy call that answers 0 leaves, with its faces and its counts, writes the file, 34 bytes and 20 for each quad, or it is refused by 15 alone.
pub greedy_saves : (κs : Lifetimes.Lfts 3) (a : World.ArgsD greedy_quads.signature κs) (r : World.ResD greedy_quads.signature κs)
    (s : Clauses.AtExit (Kinds.ended_of 3 greedy-quads-kinds.ps greedy-quads-kinds.r) κs)
    → greedy-quads.Post κs a r s → length a.1.1.1.1.0 ≡ 6 → (greedy_answer (meaning r)).mesh.refusal ≡ 0
    → (out : List ℕ) (w : WriteAnswer) (last : List ℕ) → outcome w last ≡ write_saved a.1.1.1.1.0 (greedy_answer (meaning r)).mesh.counts s.1.1.1.1.1.1.0.now out
    → (length (file_of first_form a.1.1.1.1.0 (greedy_answer (meaning r)).mesh.counts s.1.1.1.1.1.1.0.now) ≡ 34 + 20 * total (greedy_answer (meaning r)).mesh.counts)
    × Writes (file_of first_form a.1.1.1.1.0 (greedy_answer (meaning r)).mesh.counts s.1.1.1.1.1.1.0.now) out w last
unfolding write_saved write_form
greedy_saves κs a r s post six zero out w last e =
    let passed = greedy_handed κs a r s post six zero in
    let counts_six : length (greedy_answer (meaning r)).mesh.counts ≡ 6 = counts_long _ _ _ _ _ _ (call_holds κs a r s post zero).groups ∙ six in
    (handed_size _ _ _ six counts_six passed, passed_writes _ _ out passed e)
