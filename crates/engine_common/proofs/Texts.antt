-- Texts after the words of a line.
use Rattle.std.proofs.Common.{◌≡◌, ◌≢◌, ℕ, ◌<◌, ◌^◌, List, [], ◌∷◌, ◌++◌, length, take, drop, get_or, Bool, true, false, not, ◌&&◌, eqb, decimal, refl, sym, ap, ap₂, ◌∙◌, arith, append_assoc}
use Rattle.std.specs.List.{list_all}
use Rattle.std.proofs.Math.Seq.{take-append_seam, drop-append_seam, get_or-append_seam}
use Rattle.engine_common.specs.Cuts.{Lacks, IsCut}
use Rattle.engine_common.proofs.CutLemmas.{lacks-append, lacks-cons, lacks-decimal}

both : (a b : Bool) → (a && b) ≡ true → (a ≡ true) × (b ≡ true)
both true true e = (refl, refl)
both true false e = cc
both false b e = cc

other : (x b : ℕ) → not (eqb x b) ≡ true → x ≢ b
other x b e is = grind (arith, e, is)

lacks-none : (b : ℕ) → Lacks b []
lacks-none b i l = absurd (omega arith)

pub lacks-codes : (b : ℕ) (xs : List ℕ) → list_all (λ x. not (eqb x b)) xs ≡ true → Lacks b xs
lacks-codes b [] e = lacks-none b
lacks-codes b (x ∷ xs) e = let parts = both (not (eqb x b)) (list_all (λ x. not (eqb x b)) xs) e in lacks-cons b x xs (other x b parts.0) (lacks-codes b xs parts.1)

pub lacks-last : (n : ℕ) → n < 2 ^ 64 → Lacks 10 (decimal n)
lacks-last n small = lacks-decimal 10 n (omega arith) small

pub lacks-number : (n : ℕ) (later : List ℕ) → n < 2 ^ 64 → Lacks 10 later → Lacks 10 (decimal n ++ (32 ∷ later))
lacks-number n later small h = lacks-append 10 (decimal n) (32 ∷ later) (lacks-last n small) (lacks-cons 10 32 later (omega arith) h)

pub lacks-behind : (front later : List ℕ) → list_all (λ x. not (eqb x 10)) front ≡ true → Lacks 10 later → Lacks 10 (front ++ later)
lacks-behind front later e h = lacks-append 10 front later (lacks-codes 10 front e) h

pub cut_more : (bytes head after more : List ℕ) → IsCut 10 bytes head after → IsCut 10 (bytes ++ more) head (after ++ more)
cut_more bytes head after more cut = record { whole = ap (λ t. t ++ more) cut.whole ∙ append_assoc head (10 ∷ after) more; first = cut.first }

-- the text that follows a submission's words
pub record HasText (after rest : List ℕ) (len : ℕ) : Type 0 where
  pub text : List ℕ
  pub long : length text ≡ len
  pub whole : after ≡ text ++ (10 ∷ rest)

-- words that begin otherwise
pub begins_so : (xs ys : List ℕ) → xs ≡ ys → (get_or xs 0 0 ≡ get_or ys 0 0) × (get_or xs 1 0 ≡ get_or ys 1 0)
begins_so xs ys e = (ap (λ zs. get_or zs 0 0) e, ap (λ zs. get_or zs 1 0) e)

pub behind_text : (text other rest later : List ℕ) (e : ℕ) → length text ≡ length other → text ++ (e ∷ rest) ≡ other ++ (10 ∷ later) → e ≡ 10
behind_text text other rest later e long is =
    sym (get_or-append_seam text e rest 0) ∙ (ap (λ xs. get_or xs (length text) 0) is ∙ (ap (λ n. get_or (other ++ (10 ∷ later)) n 0) long ∙ get_or-append_seam other 10 later 0))

pub one_text : (xs us ys vs : List ℕ) → length xs ≡ length us → xs ++ ys ≡ us ++ vs → (xs ≡ us) × (ys ≡ vs)
one_text xs us ys vs len e = (
  sym (take-append_seam xs ys) ∙ ap₂ take len e ∙ take-append_seam us vs,
  sym (drop-append_seam xs ys) ∙ ap₂ drop len e ∙ drop-append_seam us vs,
)
