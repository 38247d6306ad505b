-- `read` puts what a read gives behind what it took before.
use Rattle.std.proofs.Common.{◌≡◌, ℕ, ◌+◌, ◌-◌, ◌≤◌, Option, Some, None, List, ◌++◌, length, take, rules, refl, sym, ap, ◌∙◌, append_assoc}
use Rattle.std.proofs.Math.Seq.{take-add, take-append_seam, drop-append_seam}
use Rattle.std.proofs.lemmas.List.{take-append-le, length-take-le, places}
use Rattle.std.specs.Io.KnownBytes.{Consumes}
use borrow.Rule.Slice.PartMut.{post_of}
use Rattle.calls.proofs.read.Goals as goal

-- The first bytes, and then n of those that are put behind them.
taken : (front part post : List ℕ) (got n : ℕ) → length front ≡ got → n ≤ length part → take (got + n) (front ++ (part ++ post)) ≡ front ++ take n part
taken front part post got n long within = rw (← long, take-add, take-append_seam, drop-append_seam, take-append-le) refl

-- Bytes that a reader gave, and then others.
consumes_both : (a b c : Option (List ℕ)) (x y : List ℕ) → Consumes a b x → Consumes b c y → Consumes a c (x ++ y)
consumes_both None b c x y p q = tt
consumes_both (Some a) None c x y p q = absurd p
consumes_both (Some a) (Some b) None x y p q = absurd q
consumes_both (Some a) (Some b) (Some c) x y p q = p ∙ ap (λ l. x ++ l) q ∙ sym (append_assoc x y c)

pub loop-got-preserved : goal.loop-got-preserved
loop-got-preserved g c = record {
  within = search (rules, places);
  taken =
      let long : length (take c.loop-got.got c.loop-got.room) ≡ c.loop-got.got = length-take-le c.loop-got.got c.loop-got.room c.loop-got.invariant.within in
      let read = c.in_ok-n.ensures in
      rw (taken (take c.loop-got.got c.loop-got.room) c.read.new.buf (post_of c.loop-got.got (length c.loop-got.room - c.loop-got.got) c.loop-got.room) c.loop-got.got c.in_ok-n.n long read.bound.0)
      (consumes_both _ _ _ _ _ c.loop-got.invariant.taken read.bytes.0);
}
