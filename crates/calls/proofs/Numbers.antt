-- The numbers of a text, as they are read.
use Rattle.std.proofs.Common.{arith, suc, ◌≡◌, ℕ, ◌+◌, ◌*◌, ◌%◌, ◌^◌, Option, Some, is_some, List, ◌∷◌, length, fold, filter_map, take_while, take, drop, refl, ap, sym, ◌∙◌}
use Rattle.std.proofs.Math.Nat.{mod-add-mod}
use Rattle.std.proofs.lemmas.Nat.{mul-mod_first}
use Rattle.std.proofs.lemmas.List.{drop-drop}
use Rattle.std.proofs.lemmas.List.Folds.{fold_along}
use Rattle.std.specs.List.{cons_option, prefix_len}
use Rattle.calls.specs.Text.{digit, is_digit, numeral, unsigned}

-- One digit more, taken modulo m.
digit_wraps : (m base a b d : ℕ) → a ≡ b % m → (a * base % m + d) % m ≡ (b * base + d) % m
digit_wraps m base a b d e =
    mod-add-mod (a * base) m d ∙ rw e (sym (mod-add-mod (b % m * base) m d) ∙ ap (λ x. (x + d) % m) (mul-mod_first b base m) ∙ mod-add-mod (b * base) m d)

-- Taken modulo m at each digit, or once at the end: the number is the same.
fold_wraps : (m base : ℕ) (ds : List ℕ) → fold (λ n d. (n * base % m + d) % m) (0 % m) ds ≡ fold (λ n d. n * base + d) 0 ds % m
fold_wraps m base ds =
    fold_along (λ n d. (n * base % m + d) % m) (λ n d. n * base + d) (λ a b. a ≡ b % m)
    (λ a b d e. digit_wraps m base a b d e) (0 % m) 0 ds refl

-- Of digits that are taken one after another: a digit stands before those past it.
take_one : (k x : ℕ) (text : List ℕ) → take (1 + k) (x ∷ text) ≡ x ∷ take k text
take_one k x text = let on : 1 + k ≡ suc k = omega arith in ap (λ n. take n (x ∷ text)) on

while_next : (f : ℕ → Option ℕ) (x d : ℕ) (text : List ℕ) → Some d ≡ f x
    → take_while (λ b. is_some (f b)) (x ∷ text) ≡ x ∷ take_while (λ b. is_some (f b)) text
while_next f x d text e = rw (← e) (take_one (prefix_len (λ b. is_some (f b)) text) x text)

-- It is taken by the number of those before it,
pub taken_next : (f : ℕ → Option ℕ) (step : ℕ → ℕ → ℕ) (n x d : ℕ) (text : List ℕ) → Some d ≡ f x
    → fold step (step n d) (filter_map f (take_while (λ b. is_some (f b)) text)) ≡ fold step n (filter_map f (take_while (λ b. is_some (f b)) (x ∷ text)))
taken_next f step n x d text e =
    sym (ap (λ l. fold step n (filter_map f l)) (while_next f x d text e)
    ∙ ap (λ o. fold step n (cons_option o (filter_map f (take_while (λ b. is_some (f b)) text)))) (sym e))

-- and what stands past all is past those that are left.
pub past_next : (f : ℕ → Option ℕ) (x d : ℕ) (text : List ℕ) → Some d ≡ f x
    → drop (length (take_while (λ b. is_some (f b)) text)) text ≡ drop (length (take_while (λ b. is_some (f b)) (x ∷ text))) (x ∷ text)
past_next f x d text e = sym (ap (λ l. drop (length l) (x ∷ text)) (while_next f x d text e))

-- Of the digits that a text begins with, the number,
pub unsigned_value : (base r : ℕ) (text : List ℕ)
    → r ≡ fold (λ n d. (n * base % 2 ^ 32 + d) % 2 ^ 32) 0 (filter_map (digit base) (take_while (is_digit base) text))
    → r ≡ (unsigned base text).0
unfolding unsigned numeral
unsigned_value base r text spelt = spelt ∙ fold_wraps (2 ^ 32) base (filter_map (digit base) (take_while (is_digit base) text))

-- and what stands past the byte after them.
pub unsigned_rest : (base : ℕ) (text back rest : List ℕ)
    → back ≡ drop (length (take_while (is_digit base) text)) text → rest ≡ drop 1 back
    → rest ≡ (unsigned base text).1
unfolding unsigned
unsigned_rest base text back rest split past = past ∙ ap (drop 1) split ∙ drop-drop 1 (length (take_while (is_digit base) text)) text
