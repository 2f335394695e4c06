-- The sections open after some tokens, tag by tag, and the first fault.
use Rattle.std.proofs.Common.{◌≡◌, ℕ, ◌+◌, ◌-◌, ◌≤◌, max, true, List, [], ◌∷◌, ◌++◌, length, refl, sym, ap, subst, ◌∙◌, arith, append_assoc}
use Rattle.std.proofs.Math.Nat.{max-le, le-max_left, le-max_right}
use Rattle.std.proofs.lemmas.Bool.{false≢true}
use Rattle.mustache_scan.specs.Standalone.{TokenSeen}
use Rattle.mustache_scan.specs.declared.token.TokenKind.{TokenKind}
use Rattle.mustache_scan.specs.declared.token.TokenKind.TheVariants.{Section, Inverted, End}
use Rattle.mustache_parse.specs.Makes.{Makes, none, a_text, a_variable, a_raw, a_partial, a_section, an_inverted, a_comment, delimiters, Ends, depth}
use Rattle.mustache_parse.specs.Nesting.{is_opening, LeavesOpen, none_open, one_open}
use Rattle.mustache_parse.specs.Tree.{Tree, nothing, text, variable, raw, partial, section, inverted, Open}
use Rattle.mustache_parse.proofs.MakesLemmas.{graft}

-- two lists of tokens that make something make it together
makes-append : (ts : List TokenSeen) (a : Tree) → Makes ts a → (us : List TokenSeen) (b : Tree) → Makes us b → Makes (ts ++ us) (graft a b)
makes-append ts a none us b n = n
makes-append ts a (a_text t ts' rest is m) us b n = a_text t (ts' ++ us) (graft rest b) is (makes-append ts' rest m us b n)
makes-append ts a (a_variable t ts' rest is m) us b n = a_variable t (ts' ++ us) (graft rest b) is (makes-append ts' rest m us b n)
makes-append ts a (a_raw t ts' rest is m) us b n = a_raw t (ts' ++ us) (graft rest b) is (makes-append ts' rest m us b n)
makes-append ts a (a_partial t ts' rest is m) us b n = a_partial t (ts' ++ us) (graft rest b) is (makes-append ts' rest m us b n)
makes-append ts a (a_section t inner block e after rest is m ends o) us b n =
    subst (λ (l : List TokenSeen). Makes (t ∷ l) (section t.inside block (graft rest b))) (sym (append_assoc inner (e ∷ after) us))
    (a_section t inner block e (after ++ us) (graft rest b) is m ends (makes-append after rest o us b n))
makes-append ts a (an_inverted t inner block e after rest is m ends o) us b n =
    subst (λ (l : List TokenSeen). Makes (t ∷ l) (inverted t.inside block (graft rest b))) (sym (append_assoc inner (e ∷ after) us))
    (an_inverted t inner block e (after ++ us) (graft rest b) is m ends (makes-append after rest o us b n))
makes-append ts a (a_comment t ts' rest is m) us b n = a_comment t (ts' ++ us) (graft rest b) is (makes-append ts' rest m us b n)
makes-append ts a (delimiters t ts' rest is m) us b n = delimiters t (ts' ++ us) (graft rest b) is (makes-append ts' rest m us b n)

bounded : (a b n : ℕ) → a + n ≤ 64 → b + n ≤ 64 → max a b + n ≤ 64
bounded a b n h k = let m : max a b ≤ 64 - n = max-le (omega arith) (omega arith) in omega arith

of_left : (a b n : ℕ) → max a b + n ≤ 64 → a + n ≤ 64
of_left a b n h = let l = le-max_left a b in omega arith

of_right : (a b n : ℕ) → max a b + n ≤ 64 → b + n ≤ 64
of_right a b n h = let l = le-max_right a b in omega arith

graft-depth : (a b : Tree) (n : ℕ) → depth a + n ≤ 64 → depth b + n ≤ 64 → depth (graft a b) + n ≤ 64
graft-depth nothing b n h k = k
graft-depth (text t rest) b n h k = graft-depth rest b n h k
graft-depth (variable name rest) b n h k = graft-depth rest b n h k
graft-depth (raw name rest) b n h k = graft-depth rest b n h k
graft-depth (partial name indent rest) b n h k = graft-depth rest b n h k
graft-depth (section name block rest) b n h k =
    bounded (depth block + 1) (depth (graft rest b)) n (of_left (depth block + 1) (depth rest) n h) (graft-depth rest b n (of_right (depth block + 1) (depth rest) n h) k)
graft-depth (inverted name block rest) b n h k =
    bounded (depth block + 1) (depth (graft rest b)) n (of_left (depth block + 1) (depth rest) n h) (graft-depth rest b n (of_right (depth block + 1) (depth rest) n h) k)

-- what makes something may follow
pub more : (front : List TokenSeen) (above : List Open) → LeavesOpen front above → (us : List TokenSeen) (b : Tree) → Makes us b → depth b + length above ≤ 64 → LeavesOpen (front ++ us) above
more front above (none_open ts tree m low) us b n room =
    let l = graft-depth tree b 0 (omega arith) (omega arith) in
    none_open (ts ++ us) (graft tree b) (makes-append ts tree m us b n) (omega arith)
more front above (one_open first above' t inner block h opens m low) us b n room =
    let l = graft-depth block b (length above' + 1) (omega arith) (omega arith) in
    subst (λ (l : List TokenSeen). LeavesOpen l (record { name = t.inside; place = t.place } ∷ above')) (sym (append_assoc first (t ∷ inner) us))
    (one_open first above' t (inner ++ us) (graft block b) h opens (makes-append inner block m us b n) (omega arith))

-- what tokens that leave a section open begin with
pub record Innermost (ts : List TokenSeen) (o : Open) (above : List Open) : Type 0 where
  pub front : List TokenSeen
  pub tag : TokenSeen
  pub inner : List TokenSeen
  pub block : Tree
  pub split : ts ≡ front ++ tag ∷ inner
  pub name : tag.inside ≡ o.name
  pub before : LeavesOpen front above
  pub opens : is_opening tag.kind ≡ true
  pub made : Makes inner block
  pub low : depth block + length above + 1 ≤ 64

innermost : (ts : List TokenSeen) (all : List Open) → LeavesOpen ts all → (o : Open) (above : List Open) → all ≡ o ∷ above → Innermost ts o above
innermost ts all (none_open ts' tree m low) o above is = absurd (cc)
innermost ts all (one_open front above' t inner block h opens m low) o above is =
    let same : above' ≡ above = cc in
    let here : record { name = t.inside; place = t.place } ≡ o = cc in
    record {
      front = front;
      tag = t;
      inner = inner;
      block = block;
      split = refl;
      name = ap (λ (o : Open). o.name) here;
      before = subst (LeavesOpen front) same h;
      opens = opens;
      made = m;
      low = subst (λ (l : List Open). depth block + length l + 1 ≤ 64) same low;
    }

-- no section is open where a tree is made
pub record Made (ts : List TokenSeen) : Type 0 where
  pub tree : Tree
  pub made : Makes ts tree
  pub low : depth tree ≤ 64

pub none_open-made : (ts : List TokenSeen) (all : List Open) → LeavesOpen ts all → all ≡ [] → Made ts
none_open-made ts all (none_open ts' tree m low) is = record { tree = tree; made = m; low = low }
none_open-made ts all (one_open front above' t inner block h opens m low) is = absurd (cc)

-- a section with its end
ended_block : (k : TokenKind) (t : TokenSeen) (inner : List TokenSeen) (block : Tree) (e : TokenSeen) → t.kind ≡ k → is_opening k ≡ true → Makes inner block → Ends t.inside e
    → (tree : Tree) × Makes (t ∷ (inner ++ e ∷ [])) tree × (depth tree ≡ max (depth block + 1) 0)
ended_block Section t inner block e is opens m ends = (section t.inside block nothing, a_section t inner block e [] nothing is m ends none, refl)
ended_block Inverted t inner block e is opens m ends = (inverted t.inside block nothing, an_inverted t inner block e [] nothing is m ends none, refl)
ended_block _ t inner block e is opens m ends = absurd (false≢true opens)

pub closed : (front : List TokenSeen) (o : Open) (above : List Open) (e : TokenSeen) → LeavesOpen front (o ∷ above) → e.kind ≡ End → e.inside ≡ o.name → LeavesOpen (front ++ e ∷ []) above
closed front o above e h is same =
    let w = innermost front (o ∷ above) h o above refl in
    let b = ended_block w.tag.kind w.tag w.inner w.block e refl w.opens w.made (record { is_end = is; named = same ∙ sym w.name }) in
    let low = w.low in
    let room : depth b.0 + length above ≤ 64 = rw b.2 (bounded (depth w.block + 1) 0 (length above) (omega arith) (omega arith)) in
    let tokens : w.front ++ (w.tag ∷ (w.inner ++ e ∷ [])) ≡ front ++ e ∷ [] = sym (append_assoc w.front (w.tag ∷ w.inner) (e ∷ [])) ∙ ap (λ (l : List TokenSeen). l ++ e ∷ []) (sym w.split) in
    subst (λ (l : List TokenSeen). LeavesOpen l above) tokens (more w.front above w.before (w.tag ∷ (w.inner ++ e ∷ [])) b.0 b.1 room)
