-- What every writer of bytes leaves, by its checks and its bytes (proofs/Writers.antt).
use Rattle.std.specs.Prelude.{List, ◌≡◌, ℕ, ◌≤◌, ◌<◌, length, take, drop}
use Rattle.geometry.specs.Refusal.{accepted, Check, checked}
use Rattle.listing.specs.Listing.{overwritten}
use Rattle.writing.specs.Written.{WriteAnswer, refused_answer, accepted_answer}

-- Of any writer with such bytes after such checks, by its answer and its output at exit (`writer_leaves`; after the checks of a mesh that is handed in `handed_leaves`):
pub record WriterLeaves (checks : List Check) (new out : List ℕ) (r : WriteAnswer) (last : List ℕ) : Type 0 where
  -- where it answers 0 they stand at the output's start, and so many are the answer;
  pub start : r.refusal ≡ 0 → take r.written last ≡ new
  pub bytes : r.refusal ≡ 0 → r.written ≡ length new
  -- "what isn't written stays", always;
  pub stays : drop r.written last ≡ drop r.written out
  -- where it answers anything else nothing is written;
  pub untouched : 1 ≤ r.refusal → (r.written ≡ 0) × (last ≡ out)
  -- and 15 is given where nothing else is refused and the output is shorter than they are, and only there.
  pub short : r.refusal ≡ 15 → (checked checks ≡ accepted tt) × (length out < length new)
  pub given : checked checks ≡ accepted tt → length out < length new → r ≡ refused_answer 15 0

-- Of a writer whose checks pass (`passed_writes`): it writes its bytes, or it is refused by 15 alone.
pub record Writes (new out : List ℕ) (r : WriteAnswer) (last : List ℕ) : Type 0 where
  pub enough : length new ≤ length out → (r ≡ accepted_answer (length new)) × (last ≡ overwritten new out)
  pub short : length out < length new → (r ≡ refused_answer 15 0) × (last ≡ out)
