-- The words of a first line, and that a removal has the kind and the name that it was made of.
use Rattle.std.proofs.Common.{◌≡◌, ℕ, zero, suc, ◌+◌, List, [], ◌∷◌, ◌++◌, take, Bool, true, false, cond, not, ◌&&◌, eqb, codes, Option, Some, None, option_map, option_and_then, refl, sym, ap, subst, ◌∙◌, append_assoc, arith, rules}
use Rattle.std.specs.List.{list_all, before_first, position_or_len}
use Rattle.command.specs.Cuts.{cut_at}
use Rattle.editor_ledger.specs.Heads.{Head, head_with, head_of, removal}

-- the byte stands nowhere in the list
abbrev pub lacks : ℕ → List ℕ → Bool
lacks c xs = list_all (λ b. not (eqb b c)) xs

pub both : (a b : Bool) → (a && b) ≡ true → (a ≡ true) × (b ≡ true)
both true b is = (refl, is)
both false b is = absurd (cc)

other : (x c : ℕ) → not (eqb x c) ≡ true → eqb x c ≡ false
other x c is = grind arith

-- ---- a line's front

take_one : (n x : ℕ) (xs : List ℕ) → take (1 + n) (x ∷ xs) ≡ x ∷ take n xs
take_one n x xs = let next : 1 + n ≡ suc n = omega arith in ap (λ (k : ℕ). take k (x ∷ xs)) next

before_head : (t : Bool) (c x : ℕ) (xs : List ℕ) → eqb x c ≡ t → lacks c (before_first (λ b. eqb b c) xs) ≡ true
    → lacks c (take (cond (not t) (1 + position_or_len (λ b. eqb b c) xs) 0) (x ∷ xs)) ≡ true
before_head true c x xs is later = refl
before_head false c x xs is later =
    let found : lacks c (x ∷ before_first (λ b. eqb b c) xs) ≡ true = rw is later in
    subst (λ zs. lacks c zs ≡ true) (sym (take_one (position_or_len (λ b. eqb b c) xs) x xs)) found

pub before_lacks : (c : ℕ) (xs : List ℕ) → lacks c (before_first (λ b. eqb b c) xs) ≡ true
before_lacks c [] = refl
before_lacks c (x ∷ xs) = before_head (eqb x c) c x xs refl (before_lacks c xs)

-- what a list lacks, its front lacks
pub take_lacks : (n c : ℕ) (xs : List ℕ) → lacks c xs ≡ true → lacks c (take n xs) ≡ true
take_lacks zero c xs is = refl
take_lacks (suc n) c [] is = refl
take_lacks (suc n) c (x ∷ xs) is =
    let parts = both (not (eqb x c)) (lacks c xs) is in
    rw (parts.0) (take_lacks n c xs parts.1)

pub before_it : (c : ℕ) (xs ys : List ℕ) → lacks c xs ≡ true → before_first (λ b. eqb b c) (xs ++ (c ∷ ys)) ≡ xs
before_it c [] ys is = let here : eqb c c ≡ true = search rules in rw here
before_it c (x ∷ xs) ys is =
    let parts = both (not (eqb x c)) (lacks c xs) is in
    rw (parts.0) (take_one (position_or_len (λ b. eqb b c) (xs ++ (c ∷ ys))) x (xs ++ (c ∷ ys)) ∙ ap (λ zs. x ∷ zs) (before_it c xs ys parts.1))

pub before_none : (c : ℕ) (xs : List ℕ) → lacks c xs ≡ true → before_first (λ b. eqb b c) xs ≡ xs
before_none c [] is = refl
before_none c (x ∷ xs) is =
    let parts = both (not (eqb x c)) (lacks c xs) is in
    rw (parts.0) (take_one (position_or_len (λ b. eqb b c) xs) x xs ∙ ap (λ zs. x ∷ zs) (before_none c xs parts.1))

-- ---- cuts

record IsCut (c : ℕ) (bs : List ℕ) (p : List ℕ × List ℕ) : Type 0 where
  whole : bs ≡ p.0 ++ (c ∷ p.1)
  front : lacks c p.0 ≡ true

cut_later : (c x : ℕ) (xs : List ℕ) (o : Option (List ℕ × List ℕ)) (p : List ℕ × List ℕ) → eqb x c ≡ false
    → ((q : List ℕ × List ℕ) → o ≡ Some q → IsCut c xs q) → option_map (λ (q : List ℕ × List ℕ). (x ∷ q.0, q.1)) o ≡ Some p → IsCut c (x ∷ xs) p
cut_later c x xs None p other later is = cc
cut_later c x xs (Some q) p other later is =
    let found = later q refl in
    let same : (x ∷ q.0, q.1) ≡ p = cc in
    let whole : x ∷ xs ≡ x ∷ (q.0 ++ (c ∷ q.1)) = ap (λ zs. x ∷ zs) found.whole in
    let front : lacks c (x ∷ q.0) ≡ true = rw other found.front in
    subst (λ r. IsCut c (x ∷ xs) r) same (record { whole = whole; front = front })

cut_head : (t : Bool) (c x : ℕ) (xs : List ℕ) (p : List ℕ × List ℕ) → eqb x c ≡ t
    → ((q : List ℕ × List ℕ) → cut_at c xs ≡ Some q → IsCut c xs q)
    → cond t (Some ([], xs)) (option_map (λ q. (x ∷ q.0, q.1)) (cut_at c xs)) ≡ Some p → IsCut c (x ∷ xs) p
cut_head true c x xs p here later is =
    let same : ([], xs) ≡ p = cc in
    let first : x ≡ c = grind arith in
    subst (λ r. IsCut c (x ∷ xs) r) same (record { whole = ap (λ (b : ℕ). b ∷ xs) first; front = refl })
cut_head false c x xs p here later is = cut_later c x xs (cut_at c xs) p here later is

cut_is : (c : ℕ) (bs : List ℕ) (p : List ℕ × List ℕ) → cut_at c bs ≡ Some p → IsCut c bs p
cut_is c [] p is = cc
cut_is c (x ∷ xs) p is = cut_head (eqb x c) c x xs p refl (cut_is c xs) is

pub cut_it : (c : ℕ) (xs ys : List ℕ) → lacks c xs ≡ true → cut_at c (xs ++ (c ∷ ys)) ≡ Some (xs, ys)
cut_it c [] ys is = let here : eqb c c ≡ true = search rules in rw here
cut_it c (x ∷ xs) ys is =
    let parts = both (not (eqb x c)) (lacks c xs) is in
    rw (other x c parts.0, cut_it c xs ys parts.1)

lacks_front : (c : ℕ) (xs ys : List ℕ) → lacks c (xs ++ ys) ≡ true → lacks c xs ≡ true
lacks_front c [] ys is = refl
lacks_front c (x ∷ xs) ys is =
    let parts = both (not (eqb x c)) (lacks c (xs ++ ys)) is in
    rw (parts.0) (lacks_front c xs ys parts.1)

lacks_rest : (c : ℕ) (xs ys : List ℕ) → lacks c (xs ++ ys) ≡ true → lacks c ys ≡ true
lacks_rest c [] ys is = is
lacks_rest c (x ∷ xs) ys is =
    let parts = both (not (eqb x c)) (lacks c (xs ++ ys)) is in
    lacks_rest c xs ys parts.1

lacks_both : (c : ℕ) (xs ys : List ℕ) → lacks c xs ≡ true → lacks c ys ≡ true → lacks c (xs ++ ys) ≡ true
lacks_both c [] ys front rest = rest
lacks_both c (x ∷ xs) ys front rest =
    let parts = both (not (eqb x c)) (lacks c xs) front in
    rw (parts.0) (lacks_both c xs ys parts.1 rest)

-- ---- heads

-- no space and no newline stands in the kind or the name
pub record HasWords (head : Head) : Type 0 where
  pub kind : lacks 32 head.kind ≡ true
  pub kind_line : lacks 10 head.kind ≡ true
  pub name : lacks 32 head.name ≡ true
  pub name_line : lacks 10 head.name ≡ true

second : (line : List ℕ) (first : List ℕ × List ℕ) (o : Option (List ℕ × List ℕ)) (head : Head) → lacks 10 line ≡ true → IsCut 32 line first
    → ((q : List ℕ × List ℕ) → o ≡ Some q → IsCut 32 first.1 q) → option_map (head_with first.0) o ≡ Some head → HasWords head
second line first None head clean cut later is = cc
second line first (Some q) head clean cut later is =
    let found = later q refl in
    let same : head_with first.0 q ≡ head = cc in
    let tail : lacks 10 (32 ∷ first.1) ≡ true = lacks_rest 10 first.0 (32 ∷ first.1) (subst (λ zs. lacks 10 zs ≡ true) cut.whole clean) in
    let whole : lacks 10 (q.0 ++ (32 ∷ q.1)) ≡ true = subst (λ zs. lacks 10 zs ≡ true) found.whole tail in
    let rest : lacks 10 (32 ∷ q.1) ≡ true = lacks_rest 10 q.0 (32 ∷ q.1) whole in
    subst HasWords same (record {
      kind = found.front;
      kind_line = lacks_front 10 q.0 (32 ∷ q.1) whole;
      name = before_lacks 32 q.1;
      name_line = take_lacks (position_or_len (λ b. eqb b 32) q.1) 10 q.1 rest;
    })

first_cut : (line : List ℕ) (o : Option (List ℕ × List ℕ)) (head : Head) → lacks 10 line ≡ true
    → ((q : List ℕ × List ℕ) → o ≡ Some q → IsCut 32 line q)
    → option_and_then (λ p. option_map (head_with p.0) (cut_at 32 p.1)) o ≡ Some head → HasWords head
first_cut line None head clean found is = cc
first_cut line (Some p) head clean found is = second line p (cut_at 32 p.1) head clean (found p refl) (cut_is 32 p.1) is

pub has_words : (text : List ℕ) (head : Head) → head_of text ≡ Some head → HasWords head
has_words text head is =
    let line : List ℕ = before_first (λ b. eqb b 10) text in
    first_cut line (cut_at 32 line) head (before_lacks 10 text) (cut_is 32 line) is

-- the line of a removal
line_of : (head : Head) → HasWords head → before_first (λ b. eqb b 10) (removal head) ≡ codes "remove " ++ (head.kind ++ (32 ∷ head.name))
line_of head words =
    let clean : lacks 10 (codes "remove " ++ (head.kind ++ (32 ∷ head.name))) ≡ true = lacks_both 10 head.kind (32 ∷ head.name) words.kind_line words.name_line in
    let shape : removal head ≡ (codes "remove " ++ (head.kind ++ (32 ∷ head.name))) ++ (10 ∷ []) = ap (λ zs. codes "remove " ++ zs) (sym (append_assoc head.kind (32 ∷ head.name) (10 ∷ []))) in
    ap (before_first (λ b. eqb b 10)) shape ∙ before_it 10 (codes "remove " ++ (head.kind ++ (32 ∷ head.name))) [] clean

-- the head of a removal
pub removal_head : (head : Head) → HasWords head → head_of (removal head) ≡ Some (record { verb = codes "remove"; kind = head.kind; name = head.name })
removal_head head words =
    let inner : cut_at 32 (head.kind ++ (32 ∷ head.name)) ≡ Some (head.kind, head.name) = cut_it 32 head.kind head.name words.kind in
    let named : before_first (λ b. eqb b 32) head.name ≡ head.name = before_none 32 head.name words.name in
    ap (λ line. option_and_then (λ p. option_map (head_with p.0) (cut_at 32 p.1)) (cut_at 32 line)) (line_of head words)
    ∙ ap (option_map (head_with (codes "remove"))) inner
    ∙ ap (λ (n : List ℕ). let h : Head = record { verb = codes "remove"; kind = head.kind; name = n } in Some h) named
