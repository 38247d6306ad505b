-- What every call of the reader leaves, from its whole outcome: `post` is what the contract of `read_saved` ensures, word for word.
use mathlib.Core.Bool.{Bool, true, false, ◌||◌}
use mathlib.Core.List.{List, [], ◌∷◌, ◌++◌, map}
use mathlib.Core.Path.{◌≡◌, refl, sym, ◌∙◌, ap}
use Prim.Native.Nat.{ℕ, zero, suc, ◌+◌, ◌*◌, ◌≤◌, ◌<◌}
use native.Mathlib.Omega.{arith}
use lib.Dec.{eqb, ltb}
use lib.ListN.{length, drop}
use lib.Seq.{drop_at}
use contract.Lifetimes
use borrow.Author.Tests.{lt-ltb, le-ltb, ltb-true, ltb-false}
use borrow.Fn.World
use borrow.Fn.Kinds
use denote.Triple.Clauses
use Rattle.geometry.specs.Refusal.{Answer, accepted, refused, Check, answer}
use Rattle.geometry.specs.Answers.{meaning}
use Rattle.geometry.specs.Lists.{Each}
use Rattle.geometry.proofs.Refusals.{split, applies, passes, accepts_checked, answer_refused, whole_passes}
use Rattle.geometry.proofs.Lists.{each_append}
use Rattle.saved.proofs.Numbered.{Numbered, never}
use Rattle.listing.specs.Listing.{joined, overwritten, capacity}
use Rattle.writing.specs.Handed.{OrientedQuad, numbered, bad_quad_at, total}
use Rattle.saved.proofs.Checking.{total_joined}
use Rattle.saved.specs.Bytes.{Bytes}
use Rattle.saved.specs.Form.{Form, first_form, Mesh, quad_size, head_count}
use Rattle.saved.specs.Read.{after_section, section_checks, file_checks, face_bytes_in, mesh_in, bad_face_bytes_from, bad_face_bytes, mesh_quads, bad_mesh, read_checks, parse}
use Rattle.saved.specs.Saved.{handed_mesh, quad_count, mesh_numbers, fitting, ReadAnswer, read_answer, reader_answer, ReadOutcome, read_outcome, read_form, read_saved}
use Rattle.saved.specs.Statements.{Ok, FilePasses, read_number, ReadHolds}
use Rattle.saved.proofs.Section.{both_false}
use Rattle.saved.proofs.Roundtrip.{read_write}
use Rattle.saved.proofs.Size.{file_size}
use Rattle.saved.proofs.Handed.{Long, long_joined, each_joined, handed_back}
use Rattle.saved.proofs.Savable.{countable_long}
use Rattle.saved.proofs.Unique.{read_parts}
use Rattle.saved.specs.contracts.read_saved
use Rattle.saved.proofs.read_saved.Kinds as read-saved-kinds
use Rattle.saved.proofs.read_saved.Reads as read-saved

-- ---- the numbers that a file's checks give

-- Whether a number is one of theirs: neither 0, by which an accepted call is known, nor 9, which comes after them.
abbrev file_number : ℕ → Bool
file_number n = eqb n 16 || eqb n 17 || eqb n 12

-- A check that gives one of them.
abbrev FileCheck : Check → Type 0
FileCheck c = Numbered file_number c

sections_numbered : (size k n : ℕ) (b : List ℕ) → Each FileCheck (section_checks size k n b)
unfolding section_checks Each
sections_numbered size k zero b = (refl, tt)
sections_numbered size k (suc n) b = (refl, sections_numbered size (k + 1) n (after_section size b))

bytes_numbered : (k : ℕ) (l : List ℕ) → Each FileCheck (bad_face_bytes_from k l)
unfolding bad_face_bytes_from Each
bytes_numbered k [] = tt
bytes_numbered k (b ∷ l) = (refl, bytes_numbered (k + 1) l)

quads_numbered : (k : ℕ) (qs : List OrientedQuad) → Each FileCheck (numbered bad_quad_at k qs)
unfolding numbered Each
quads_numbered k [] = tt
quads_numbered k (q ∷ qs) = (refl, quads_numbered (k + 1) qs)

module _ (form : Form) (b : List ℕ) where
  checks_numbered : Each FileCheck (read_checks form b)
  unfolding read_checks file_checks Each
  checks_numbered =
      each_append FileCheck (file_checks form b ++ bad_face_bytes (face_bytes_in b)) (bad_mesh (mesh_in form b))
      (each_append FileCheck (file_checks form b) (bad_face_bytes (face_bytes_in b)) (refl, sections_numbered (quad_size form.numbers) 1 6 (after_section 1 b)) (bytes_numbered 0 (face_bytes_in b)))
      (quads_numbered 0 (mesh_quads (mesh_in form b)))

  -- A file is never refused by another.
  parse_never : (m : ℕ) → file_number m ≡ false → {n p : ℕ} → parse form b ≡ refused n p → n ≡ m → ⊥
  unfolding parse
  parse_never m other {n} {p} e is =
      never file_number (read_checks form b) checks_numbered m other p (answer_refused (read_checks form b) (mesh_in form b) (e ∙ ap (λ (k : ℕ). refused k p) is))

  -- Each of them is one that the reader answers.
  parse_known : {n p : ℕ} → parse form b ≡ refused n p → read_number n ≡ true
  parse_known {n} {p} e =
      split (read_number n)
      (λ t. t)
      (λ f. absurd (parse_never n (not_read n f) e refl))
    where
      not_read : (n : ℕ) → read_number n ≡ false → file_number n ≡ false
      not_read n f =
          let (others, nine) = both_false (eqb n 0 || eqb n 16 || eqb n 17 || eqb n 12) (eqb n 9) f in
          let (three, twelve) = both_false (eqb n 0 || eqb n 16 || eqb n 17) (eqb n 12) others in
          let (two, seventeen) = both_false (eqb n 0 || eqb n 16) (eqb n 17) three in
          let (none, sixteen) = both_false (eqb n 0) (eqb n 16) two in
          rw (sixteen, seventeen, twelve)

-- ---- the three cases

-- A file is refused, or it is accepted.
told : {P : Type 0} (x : Answer Mesh) → ((n p : ℕ) → x ≡ refused n p → P) → ((m : Mesh) → x ≡ accepted m → P) → P
told (accepted m) refuses accepts = accepts m refl
told (refused n p) refuses accepts = refuses n p refl

module _ (form : Form) (b out : List ℕ) where
  abbrev room : ℕ
  room = capacity form.numbers (length out)

  -- A file that is refused is refused by its reader, and nothing is written;
  pub read_refused : {n p : ℕ} → parse form b ≡ refused n p → read_form form b out ≡ read_outcome (read_answer (refused n p)) out
  unfolding read_form fitting
  read_refused e = rw e

  module _ {m : Mesh} (e : parse form b ≡ accepted m) where
    abbrev nine : Check
    nine = record { number = 9; applies = ltb room (quad_count m); place = room }

    -- one that is accepted is refused by 9 where the output holds fewer quads,
    pub read_many : room < quad_count m → read_form form b out ≡ read_outcome (read_answer (refused 9 room)) out
    unfolding read_form fitting
    read_many h = rw (e, applies nine [] m (lt-ltb room (quad_count m) h))

    -- and else it is told,
    pub fitting_told : quad_count m ≤ room → fitting form b (length out) ≡ accepted m
    unfolding fitting answer
    fitting_told h = rw e (passes nine [] m (le-ltb room (quad_count m) h))

    -- and so it is read.
    pub read_fits : quad_count m ≤ room → read_form form b out ≡ read_outcome (read_answer (accepted m)) (overwritten (mesh_numbers m) out)
    unfolding read_form
    read_fits h = rw (fitting_told h)

  -- What holds in each case holds of every call.
  by_cases : (P : ReadOutcome → Type 0) → ((n p : ℕ) → parse form b ≡ refused n p → P (read_outcome (read_answer (refused n p)) out))
      → ((m : Mesh) → parse form b ≡ accepted m → room < quad_count m → P (read_outcome (read_answer (refused 9 room)) out))
      → ((m : Mesh) → parse form b ≡ accepted m → quad_count m ≤ room → P (read_outcome (read_answer (accepted m)) (overwritten (mesh_numbers m) out)))
      → P (read_form form b out)
  by_cases P refuses many fits =
      told (parse form b)
      (λ n p e. rw (read_refused e) (refuses n p e))
      (λ m e.
      split (ltb room (quad_count m))
      (λ t. let more = ltb-true _ _ t in rw (read_many e more) (many m e more))
      (λ f. let most = ltb-false _ _ f in rw (read_fits e most) (fits m e most)))

-- A call that answers 0: the mesh that it read.
pub record Took (form : Form) (b out : List ℕ) (r : ReadAnswer) (last : List ℕ) : Type 0 where
  pub mesh : Mesh
  pub parsed : parse form b ≡ accepted mesh
  pub fits : quad_count mesh ≤ capacity form.numbers (length out)
  pub answers : r ≡ read_answer (accepted mesh)
  pub leaves : last ≡ overwritten (mesh_numbers mesh) out

pub zero_took : (form : Form) (b out : List ℕ) {r : ReadAnswer} {last : List ℕ} → read_outcome r last ≡ read_form form b out → r.mesh.refusal ≡ 0 → Took form b out r last
zero_took form b out {r} {last} post is =
    by_cases form b out (λ (o : ReadOutcome). read_outcome r last ≡ o → Took form b out r last)
    (λ n p e q. absurd (parse_never form b 0 refl e (sym (ap (λ (o : ReadOutcome). o.answer.mesh.refusal) q) ∙ is)))
    (λ m e more q. let nine : r.mesh.refusal ≡ 9 = ap (λ (o : ReadOutcome). o.answer.mesh.refusal) q in absurd (omega arith))
    (λ m e most q. record { mesh = m; parsed = e; fits = most; answers = (read_parts q).0; leaves = (read_parts q).1 })
    post

-- ---- the mesh of a file

module _ (b : List ℕ) (are : Bytes b) (m : Mesh) (parsed : parse first_form b ≡ accepted m) where
  -- It can be saved,
  pub mesh_ok : Ok first_form m
  mesh_ok = (read_write first_form b m are parsed).1

  pub mesh_long : Each (Each (Long 5)) m.groups
  mesh_long = countable_long 5 m.groups mesh_ok.countable

  -- it has five numbers a quad,
  pub numbers_length : length (mesh_numbers m) ≡ 5 * total (map length m.groups)
  numbers_length = omega (arith, long_joined 5 (joined m.groups) (each_joined (Long 5) m.groups mesh_long), total_joined m.groups)

  -- and its file 20 bytes for each.
  pub file_long : length b ≡ 34 + 20 * total (map length m.groups)
  unfolding head_count
  file_long = omega (arith, ap length (read_write first_form b m are parsed).0, file_size first_form m mesh_ok, total_joined m.groups)

  -- What a reader leaves of it hands it in.
  pub handed_in : (out : List ℕ) → handed_mesh first_form m.faces (map length m.groups) (overwritten (mesh_numbers m) out) ≡ m
  unfolding overwritten
  handed_in out = handed_back first_form m (drop (length (mesh_numbers m)) out) mesh_long

  -- Past its numbers the output stays.
  pub past_stays : (out : List ℕ) → drop (5 * total (map length m.groups)) (overwritten (mesh_numbers m) out) ≡ drop (5 * total (map length m.groups)) out
  unfolding overwritten
  past_stays out = drop_at (mesh_numbers m) (drop (length (mesh_numbers m)) out) (5 * total (map length m.groups)) numbers_length ∙ ap (λ (n : ℕ). drop n out) numbers_length

  pub file_passes : FilePasses b
  unfolding parse
  file_passes = accepts_checked (read_checks first_form b) (mesh_in first_form b) parsed

-- A file that passes is accepted.
passes_parse : (b : List ℕ) → FilePasses b → parse first_form b ≡ accepted (mesh_in first_form b)
unfolding parse
passes_parse b h = sym (whole_passes (read_checks first_form b) (mesh_in first_form b) h refl)

-- An output so long holds so many quads of five numbers, or fewer.
room_more : (long quads : ℕ) → capacity 5 long < quads → long < 5 * quads
unfolding capacity
room_more long quads h = omega arith

room_most : (long quads : ℕ) → quads ≤ capacity 5 long → 5 * quads ≤ long
unfolding capacity
room_most long quads h = omega arith

-- ---- every call

module _ (b out : List ℕ) (are : Bytes b) where
  abbrev Holds : ReadOutcome → Type 0
  Holds o = ReadHolds b out o.answer o.out

  all_hold : Holds (read_saved b out)
  unfolding read_saved total
  all_hold =
      by_cases first_form b out Holds
      (λ n p e. record {
        known = parse_known first_form b e;
        mesh = λ is. absurd (parse_never first_form b 0 refl e is);
        ok = λ is. absurd (parse_never first_form b 0 refl e is);
        size = λ is. absurd (parse_never first_form b 0 refl e is);
        holds = λ is. absurd (parse_never first_form b 0 refl e is);
        stays = refl;
        untouched = λ some. (refl, refl, refl);
        many = λ is. absurd (parse_never first_form b 9 refl e is);
        given = λ passed less. cc (e, passes_parse b passed);
      })
      (λ m e more. record {
        known = refl;
        mesh = λ is. absurd (omega arith);
        ok = λ is. absurd (omega arith);
        size = λ is. absurd (omega arith);
        holds = λ is. absurd (omega arith);
        stays = refl;
        untouched = λ some. (refl, refl, refl);
        many = λ is. (
          file_passes b are m e,
          omega (arith, room_more (length out) (quad_count m) more, file_long b are m e, total_joined m.groups),
          refl,
        );
        given = λ passed less. refl;
      })
      (λ m e most. record {
        known = refl;
        mesh = λ is. rw (handed_in b are m e out) e;
        ok = λ is. rw (handed_in b are m e out) (mesh_ok b are m e);
        size = λ is. file_long b are m e;
        holds = λ is. omega (arith, room_most (length out) (quad_count m) most, total_joined m.groups);
        stays = past_stays b are m e out;
        untouched = λ some. absurd (omega arith);
        many = λ is. absurd (omega arith);
        given = λ passed less. absurd (omega (arith, room_most (length out) (quad_count m) most, file_long b are m e, total_joined m.groups));
      })

  pub read_holds : {r : ReadAnswer} {last : List ℕ} → read_outcome r last ≡ read_saved b out → ReadHolds b out r last
  read_holds {r} {last} post = by (read_outcome r last) post
    where
      by : (o : ReadOutcome) → o ≡ read_saved b out → Holds o
      by o e = rw e all_hold

-- ---- the contract

-- Of the contract of `read_saved` itself: its arguments are the bytes, each of which is one, and the output.
pub read_call_holds : (κs : Lifetimes.Lfts 2) (a : World.ArgsD read_saved.signature κs) (r : World.ResD read_saved.signature κs)
    (s : Clauses.AtExit (Kinds.ended_of 2 read-saved-kinds.ps read-saved-kinds.r) κs)
    → read-saved.Post κs a r s → Bytes a.0.now → ReadHolds a.0.now a.1.0.now (reader_answer (meaning r)) s.1.0.now
read_call_holds κs a r s post are = read_holds _ _ are post
