-- A text and the same text indented are scanned side by side: the tokens of the second nest into what those of the first nest into under the margin.
use Rattle.std.proofs.Common.{◌≡◌, ℕ, zero, suc, ◌+◌, ◌-◌, ◌<◌, ◌≤◌, Bool, true, false, not, List, [], ◌∷◌, ◌++◌, length, max, is_some, slice_range, inl, Option, Some, None, Result, Ok, Err, refl, sym, ap, subst, ◌∙◌, arith, append_assoc, append-nil, length-append}
use Rattle.std.proofs.lemmas.Bool.{false≢true}
use Rattle.mustache_scan.specs.Cutting.{cut, is_padding, is_blank, stripped}
use Rattle.mustache_scan.specs.Names.{Pair, braces}
use Rattle.mustache_scan.specs.Progress.{standalone_of, lines_or, taken, literal_at, tag_at, indent_in, or_wrong, checked}
use Rattle.mustache_scan.specs.Reading.{Opened, tag_after, wrong_inside, name_of, delimiters_after, text_of}
use Rattle.mustache_scan.specs.Standalone.{TokenSeen, is_alone, scanned}
use Rattle.mustache_scan.specs.declared.fault.FaultKind.{FaultKind}
use Rattle.mustache_scan.specs.declared.fault.FaultKind.TheVariants.{UnclosedTag}
use Rattle.mustache_scan.specs.declared.token.TokenKind.{TokenKind}
use Rattle.mustache_scan.specs.declared.token.TokenKind.TheVariants.{Partial}
use Rattle.mustache_scan.proofs.MarksLemmas.{tag-mark}
use Rattle.mustache_scan.proofs.OutcomeLemmas.{begins, ends_well, stops, continues}
use Rattle.mustache_scan.proofs.ProgressLemmas.{IsReadTo}
use Rattle.mustache_scan.proofs.ReadingLemmas.{cut_parts}
use Rattle.mustache_scan.proofs.StandaloneLemmas.{taken_end}
use Rattle.mustache_parse.specs.Indent.{indented}
use Rattle.mustache_parse.specs.Indenting.{spread, after_each, AreBlank}
use Rattle.mustache_parse.specs.Margin.{literal_under, indent_under, text_onto, marked, tag_under, levels_under}
use Rattle.mustache_parse.specs.Tree.{Levels, onto, with_token, levels}
use Rattle.mustache_parse.proofs.IndentLemmas.{AllAre, NoneAre, behind_all, past_blanks, behind_all-none, behind_all-some, moved}
use Rattle.mustache_parse.proofs.SpreadLemmas.{no_newline, after_each-append, stripped-after_each}
use Rattle.mustache_parse.proofs.SpreadNameLemmas.{Solid, Sequences, sequences-solid, after-sequences, wrong_inside-same, delimiters_after-same, name_of-same}
use Rattle.mustache_parse.proofs.SpreadTagLemmas.{spread_opened, cut-solid, tag_after-spread, tag_kind, tag_parts}
use Rattle.mustache_parse.proofs.MarginTextLemmas.{open_under, front_under, Seam, goes-on, ends, open-append, indented-some, indented-seam, spread-seam, no_lines}
use Rattle.mustache_parse.proofs.MarginAloneLemmas.{slice-at, Alike, alike, Chunk, chunk, Next, next-for}
use Rattle.mustache_parse.proofs.MarginLevelLemmas.{levels-literal, chunk-levels, end-levels, tag-levels}

-- ---- parts of texts

-- what a tag takes after it ends before the next opening delimiter
inside-of : (e v before : List ℕ) (q : ℕ) (more : List ℕ) → e ++ v ≡ before ++ q ∷ more → AllAre is_padding e → is_padding q ≡ false → (m : List ℕ) × (before ≡ e ++ m) × (v ≡ m ++ q ∷ more)
inside-of [] v before q more is pad solid = (before, refl, is)
inside-of (b ∷ e) v [] q more is pad solid = let same : b ≡ q = cc in absurd (false≢true (sym solid ∙ ap is_padding (sym same) ∙ pad.0))
inside-of (b ∷ e) v (c ∷ before) q more is pad solid =
    let same : b ≡ c = cc in
    let rest : e ++ v ≡ before ++ q ∷ more = cc in
    let k = inside-of e v before q more rest pad.1 solid in
    (k.0, ap (λ l. c ∷ l) k.1 ∙ ap (λ b. b ∷ (e ++ k.0)) (sym same), k.2)

inside-part : (e v before part after : List ℕ) → e ++ v ≡ before ++ (part ++ after) → AllAre is_padding e → 0 < length part → NoneAre is_padding part → (m : List ℕ) × (before ≡ e ++ m) × (v ≡ m ++ (part ++ after))
inside-part e v before [] after is pad some solid = absurd (omega arith)
inside-part e v before (q ∷ part) after is pad some solid = inside-of e v before q (part ++ after) is pad solid.0

last-byte : (part : List ℕ) → 0 < length part → NoneAre is_padding part → (y : List ℕ) × (c : ℕ) × (part ≡ y ++ c ∷ []) × (is_padding c ≡ false)
last-byte [] some solid = absurd (omega arith)
last-byte (b ∷ []) some solid = ([], b, refl, solid.0)
last-byte (b ∷ c ∷ part) some solid = let k = last-byte (c ∷ part) (omega arith) solid.1 in (b ∷ k.0, k.1, ap (λ l. b ∷ l) k.2, k.3)

cut-behind : (part pre t : List ℕ) → 0 < length part → NoneAre is_padding part → AllAre is_blank pre → cut part (pre ++ t) ≡ behind_all pre (cut part t)
cut-behind [] pre t some solid blank = absurd (omega arith)
cut-behind (p ∷ ps) pre t some solid blank = past_blanks p ps pre t solid.0 blank

shift : (xs lit : List TokenSeen) (x : TokenSeen) (ys : List TokenSeen) → (xs ++ (lit ++ x ∷ [])) ++ ys ≡ xs ++ (lit ++ x ∷ ys)
shift xs lit x ys = append_assoc xs (lit ++ x ∷ []) ys ∙ ap (λ l. xs ++ l) (append_assoc lit (x ∷ []) ys)

ok-same : {A E : Type 0} (a b : A) (r : Result A E) → r ≡ Ok a → r ≡ Ok b → a ≡ b
ok-same a b r one other = cc

-- what is read once a tag is
abbrev Reads : (t rest : List ℕ) (e : Pair) (from : ℕ) (xs : List TokenSeen) (kind : TokenKind) (name : List ℕ) (at past : ℕ) → Type 0
Reads t rest e from xs kind name at past = IsReadTo t rest e (max from (taken t kind at past).1) (xs ++ (literal_at from (slice_range t from (taken t kind at past).0) ++ tag_at t kind name at past ∷ []))

max-of : (a b : ℕ) → a ≤ b → max a b ≡ b
max-of a b le = omega arith

module _ (w : List ℕ) (blank : AllAre is_blank w) (all : AreBlank w) (x x' : List ℕ) (is_indented : x' ≡ indented w x) (ts : List TokenSeen) (has : scanned x ≡ Ok ts) where
  -- Both texts are read so far: the literal that comes begins after what the last tag took.
  record Both (leads : Bool) (rest rest' : List ℕ) (d : Pair) (from from' : ℕ) (xs xs' : List TokenSeen) : Type 0 where
    pub front : List ℕ
    pub eaten : List ℕ
    pub left : List ℕ
    pub pre : List ℕ
    pub whole : x ≡ front ++ rest
    pub rest_is : rest' ≡ pre ++ spread w rest
    pub pre_blank : AllAre is_blank pre
    pub parts : rest ≡ eaten ++ left
    pub padding : AllAre is_padding eaten
    pub seam : Seam leads (front ++ eaten) left
    pub from_is : from ≡ length (front ++ eaten)
    pub from_is' : from' ≡ length (front_under w leads (front ++ eaten))
    pub read : IsReadTo x rest d from xs
    pub read' : IsReadTo x' rest' d from' xs'

  -- The tokens that follow.
  record Rest (leads : Bool) (xs xs' : List TokenSeen) : Type 0 where
    pub ys : List TokenSeen
    pub ys' : List TokenSeen
    pub here : ts ≡ xs ++ ys
    pub there : scanned x' ≡ Ok (xs' ++ ys')
    pub same : levels ys' ≡ levels_under w leads (marked x ys)

  -- what is known of shorter rests
  abbrev Shorter : ℕ → Type 0
  Shorter n = (leads : Bool) (rest rest' : List ℕ) (d : Pair) (from from' : ℕ) (xs xs' : List TokenSeen) → Both leads rest rest' d from from' xs xs' → Sequences d → length rest < n → Rest leads xs xs'

  module _ (leads : Bool) (rest rest' : List ℕ) (d : Pair) (from from' : ℕ) (xs xs' : List TokenSeen) (b : Both leads rest rest' d from from' xs xs') (sequences : Sequences d) where
    abbrev solid : Solid d
    solid = sequences-solid d sequences

    abbrev a : List ℕ
    a = b.front ++ b.eaten

    cut-there : (r : Option (List ℕ × List ℕ)) → cut d.opening rest ≡ r → cut d.opening rest' ≡ behind_all b.pre (moved w r)
    cut-there r is =
        ap (cut d.opening) b.rest_is ∙ cut-behind d.opening b.pre (spread w rest) solid.opens solid.opening b.pre_blank
        ∙ ap (behind_all b.pre) (cut-solid w blank d.opening rest solid.opens solid.opening ∙ ap (moved w) is)

    -- no tag follows
    at-end : cut d.opening rest ≡ None → Rest leads xs xs'
    at-end is =
        let lit' = literal_under w leads false b.left in
        let over : x ≡ a ++ b.left = b.whole ∙ ap (λ l. b.front ++ l) b.parts ∙ sym (append_assoc b.front b.eaten b.left) in
        let over' : x' ≡ front_under w leads a ++ lit' = is_indented ∙ ap (indented w) over ∙ ends w leads a b.left b.left b.seam (omega arith) in
        let lit_is : slice_range x from (length x) ≡ b.left = slice-at x a b.left [] from (length x) (over ∙ ap (λ l. a ++ l) (sym (append-nil b.left))) b.from_is (ap length over) in
        let lit_is' : slice_range x' from' (length x') ≡ lit' = slice-at x' (front_under w leads a) lit' [] from' (length x') (over' ∙ ap (λ l. front_under w leads a ++ l) (sym (append-nil lit'))) b.from_is' (ap length over') in
        let last_here = ends_well x rest d from xs b.read sequences.opening is in
        let last_there = ends_well x' rest' d from' xs' b.read' sequences.opening (cut-there None is ∙ behind_all-none b.pre) in
        record {
          ys = literal_at from b.left;
          ys' = literal_at from' lit';
          here = ok-same ts (xs ++ literal_at from b.left) (scanned x) has (last_here ∙ ap (λ l. Ok (xs ++ literal_at from l)) lit_is);
          there = last_there ∙ ap (λ l. Ok (xs' ++ literal_at from' l)) lit_is';
          same = ap levels (sym (append-nil (literal_at from' lit'))) ∙ levels-literal from' lit' [] ∙ sym (end-levels w x leads from b.left);
        }

    module _ (before after : List ℕ) (is : cut d.opening rest ≡ Some (before, after)) where
      is' : cut d.opening rest' ≡ Some (b.pre ++ after_each w before, spread w after)
      is' = cut-there (Some (before, after)) is ∙ behind_all-some b.pre (after_each w before) (spread w after)

      failed : (kind : FaultKind) → checked (tag_after d.closing after) ≡ Err kind → Rest leads xs xs'
      failed kind wrong = let e : scanned x ≡ Err _ = stops x rest d from xs b.read sequences.opening before after is kind wrong in absurd (cc)

      module _ (o : Opened) (tag_is : tag_after d.closing after ≡ Some o) (right : wrong_inside o.kind (stripped o.inside) ≡ None) where
        abbrev name : List ℕ
        name = stripped o.inside

        abbrev name' : List ℕ
        name' = stripped (after_each w o.inside)

        abbrev r : List ℕ
        r = o.rest

        -- ---- where the tag stands

        ins : (m : List ℕ) × (before ≡ b.eaten ++ m) × (b.left ≡ m ++ (d.opening ++ after))
        ins = inside-part b.eaten b.left before d.opening after (sym b.parts ∙ cut_parts d.opening rest (before, after) is) b.padding solid.opens solid.opening

        abbrev m : List ℕ
        m = ins.0

        abbrev z : List ℕ
        z = a ++ m

        tail : (y : List ℕ) × (c : ℕ) × (d.closing ≡ y ++ c ∷ []) × (is_padding c ≡ false)
        tail = last-byte d.closing solid.closes solid.closing

        body_of : (first : List ℕ) × (after ≡ first ++ (d.closing ++ r))
        body_of = tag_parts d.closing after o tag_is

        abbrev bare : List ℕ
        bare = d.opening ++ (body_of.0 ++ tail.0)

        abbrev c : ℕ
        c = tail.1

        abbrev body : List ℕ
        body = bare ++ c ∷ []

        body_is : d.opening ++ after ≡ body ++ r
        body_is =
            ap (λ l. d.opening ++ l) (body_of.1 ∙ ap (λ l. body_of.0 ++ (l ++ r)) tail.2 ∙ sym (append_assoc body_of.0 (tail.0 ++ c ∷ []) r) ∙ ap (λ l. l ++ r) (sym (append_assoc body_of.0 tail.0 (c ∷ []))))
            ∙ sym (append_assoc d.opening ((body_of.0 ++ tail.0) ++ c ∷ []) r) ∙ ap (λ l. l ++ r) (sym (append_assoc d.opening (body_of.0 ++ tail.0) (c ∷ [])))

        abbrev u : List ℕ
        u = z ++ body

        u_is : u ≡ (z ++ bare) ++ c ∷ []
        u_is = sym (append_assoc z bare (c ∷ []))

        whole_tag : x ≡ u ++ r
        whole_tag =
            b.whole ∙ ap (λ l. b.front ++ l) (b.parts ∙ ap (λ l. b.eaten ++ l) (ins.2 ∙ ap (λ l. m ++ l) body_is))
            ∙ sym (append_assoc b.front b.eaten (m ++ (body ++ r))) ∙ sym (append_assoc a m (body ++ r)) ∙ sym (append_assoc z body r)

        whole_tag' : x' ≡ open_under w u ++ spread w r
        whole_tag' =
            is_indented ∙ ap (indented w) (whole_tag ∙ ap (λ l. l ++ r) u_is) ∙ indented-seam w (z ++ bare) c r (no_newline c tail.3) ∙ ap (λ l. open_under w l ++ spread w r) (sym u_is)

        some : 0 < length b.left
        some = omega (arith, ap length ins.2, length-append m (d.opening ++ after), length-append d.opening after, solid.opens)

        fits : length m ≤ length b.left
        fits = omega (arith, ap length ins.2, length-append m (d.opening ++ after))

        abbrev first : ℕ
        first = length x - length rest + length before

        abbrev past : ℕ
        past = length x - length r

        abbrev first' : ℕ
        first' = length x' - length rest' + length (b.pre ++ after_each w before)

        abbrev past' : ℕ
        past' = length x' - length (spread w r)

        first_is : first ≡ length z
        first_is = omega (arith, ap length b.whole, length-append b.front rest, ap length ins.1, length-append b.eaten m, length-append a m, length-append b.front b.eaten)

        past_is : past ≡ length u
        past_is = omega (arith, ap length whole_tag, length-append u r)

        past_is' : past' ≡ length (open_under w u)
        past_is' = omega (arith, ap length whole_tag', length-append (open_under w u) (spread w r))

        rest_len' : length rest' ≡ length (b.pre ++ after_each w before) + (length (after_each w body) + length (spread w r))
        rest_len' =
            let parts : rest ≡ ((before ++ bare) ++ c ∷ []) ++ r = cut_parts d.opening rest (before, after) is ∙ ap (λ l. before ++ l) body_is ∙ sym (append_assoc before body r) ∙ ap (λ l. l ++ r) (sym (append_assoc before bare (c ∷ []))) in
            let spreads : spread w rest ≡ after_each w (before ++ body) ++ spread w r =
            ap (spread w) parts ∙ spread-seam w (before ++ bare) c r (no_newline c tail.3) ∙ ap (λ l. after_each w l ++ spread w r) (append_assoc before bare (c ∷ [])) in
            omega (
              arith,
              ap length b.rest_is,
              length-append b.pre (spread w rest),
              ap length spreads,
              length-append (after_each w (before ++ body)) (spread w r),
              ap length (after_each-append w before body),
              length-append (after_each w before) (after_each w body),
              length-append b.pre (after_each w before),
            )

        rest_fits : length rest' ≤ length x'
        rest_fits = omega (arith, ap length b.read'.text, length-append (text_of b.read'.pieces) rest')

        first_is' : first' ≡ length (open_under w z)
        first_is' =
            omega (arith, rest_len', rest_fits, ap length whole_tag', length-append (open_under w u) (spread w r), ap length (open-append w z body), length-append (open_under w z) (after_each w body))

        -- ---- what it takes

        abbrev found : Option (ℕ × ℕ)
        found = standalone_of x o.kind (length z) (length u)

        abbrev found' : Option (ℕ × ℕ)
        found' = standalone_of x' o.kind (length (open_under w z)) (length (open_under w u))

        both-alike : Alike w z r (length z) (length u) (length (open_under w z)) (length (open_under w u)) found found'
        both-alike = alike w blank all z body r x x' whole_tag whole_tag' o.kind

        this : Chunk w x x' leads (length a) (length (front_under w leads a)) (length z) (length u) (length (open_under w z)) (length (open_under w u)) found found'
        this = chunk w blank leads a m b.left body r x x' b.seam some fits whole_tag whole_tag' found found' both-alike

        further : Next w r u (is_some found) (lines_or (length z) (length u) found).1 (lines_or (length (open_under w z)) (length (open_under w u)) found').1
        further = next-for w z r u (z ++ bare) c u_is tail.3 (length z) (length (open_under w z)) found found' both-alike

        order : length z ≤ length u
        order = omega (arith, length-append z body)

        within : length u ≤ length x
        within = omega (arith, ap length whole_tag, length-append u r)

        order' : length (open_under w z) ≤ length (open_under w u)
        order' = omega (arith, ap length (open-append w z body), length-append (open_under w z) (after_each w body))

        within' : length (open_under w u) ≤ length x'
        within' = omega (arith, ap length whole_tag', length-append (open_under w u) (spread w r))

        from_max : max from (taken x o.kind (length z) (length u)).1 ≡ (taken x o.kind (length z) (length u)).1
        from_max = max-of from _ (omega (arith, b.from_is, length-append a m, order, taken_end x o.kind (length z) (length u) order within))

        from_max' : max from' (taken x' o.kind (length (open_under w z)) (length (open_under w u))).1 ≡ (taken x' o.kind (length (open_under w z)) (length (open_under w u))).1
        from_max' = max-of from' _ (omega (arith, b.from_is', ap length (goes-on w leads a m b.left b.seam some), length-append (front_under w leads a) (literal_under w leads true m), order', taken_end x' o.kind (length (open_under w z)) (length (open_under w u)) order' within'))

        -- ---- what is read then

        abbrev e : Pair
        e = delimiters_after d o.kind name

        strips : name' ≡ after_each w name
        strips = stripped-after_each w blank o.inside

        ok : checked (tag_after d.closing after) ≡ Ok (record { kind = o.kind; inside = name; rest = r })
        ok = ap checked tag_is ∙ ap (or_wrong (record { kind = o.kind; inside = name; rest = r })) right

        ok' : checked (tag_after d.closing (spread w after)) ≡ Ok (record { kind = o.kind; inside = name'; rest = spread w r })
        ok' =
            ap checked (tag_after-spread w blank d.closing solid.closes solid.closing after ∙ ap (spread_opened w) tag_is)
            ∙ ap (or_wrong (record { kind = o.kind; inside = name'; rest = spread w r })) (ap (wrong_inside o.kind) strips ∙ wrong_inside-same w blank o.kind name ∙ right)

        reads : Reads x r e from xs o.kind name (length z) (length u)
        reads =
            subst (λ n. Reads x r e from xs o.kind name n (length u)) first_is
            (subst (λ n. Reads x r e from xs o.kind name first n) past_is (continues x rest d from xs b.read sequences.opening before after is (record { kind = o.kind; inside = name; rest = r }) ok))

        reads' : Reads x' (spread w r) e from' xs' o.kind name' (length (open_under w z)) (length (open_under w u))
        reads' =
            subst (λ e. Reads x' (spread w r) e from' xs' o.kind name' (length (open_under w z)) (length (open_under w u))) (ap (delimiters_after d o.kind) strips ∙ delimiters_after-same w blank d o.kind name)
            (subst (λ n. Reads x' (spread w r) (delimiters_after d o.kind name') from' xs' o.kind name' n (length (open_under w u))) first_is'
            (subst (λ n. Reads x' (spread w r) (delimiters_after d o.kind name') from' xs' o.kind name' first' n) past_is'
            (continues x' rest' d from' xs' b.read' sequences.opening (b.pre ++ after_each w before) (spread w after) is' (record { kind = o.kind; inside = name'; rest = spread w r }) ok')))

        -- the literal and the tag, in both texts
        abbrev part : List ℕ
        part = slice_range x from (taken x o.kind (length z) (length u)).0

        abbrev part' : List ℕ
        part' = slice_range x' from' (taken x' o.kind (length (open_under w z)) (length (open_under w u))).0

        abbrev token : TokenSeen
        token = tag_at x o.kind name (length z) (length u)

        abbrev token' : TokenSeen
        token' = tag_at x' o.kind name' (length (open_under w z)) (length (open_under w u))

        abbrev xs₂ : List TokenSeen
        xs₂ = xs ++ (literal_at from part ++ token ∷ [])

        abbrev xs₂' : List TokenSeen
        xs₂' = xs' ++ (literal_at from' part' ++ token' ∷ [])

        on : Both (is_some found) r (spread w r) e (max from (taken x o.kind (length z) (length u)).1) (max from' (taken x' o.kind (length (open_under w z)) (length (open_under w u))).1) xs₂ xs₂'
        on = record {
          front = u;
          eaten = further.eaten;
          left = further.left;
          pre = [];
          whole = whole_tag;
          rest_is = refl;
          pre_blank = tt;
          parts = further.parts;
          padding = further.padding;
          seam = further.seam;
          from_is = from_max ∙ further.from_is;
          from_is' = from_max' ∙ further.from_is';
          read = reads;
          read' = reads';
        }

        mark_is : is_some found ≡ is_alone x token
        mark_is = tag-mark x o.kind (length z) (length u) (slice_range x (length z) (length u)) found order within refl refl

        name_is : name_of o.kind name' ≡ name_of o.kind name
        name_is = ap (name_of o.kind) strips ∙ name_of-same w o.kind name (tag_kind d.closing after o tag_is) right

        indent_is : o.kind ≡ Partial → token'.indent ≡ indent_under w (is_some found) token.indent
        indent_is partial =
            ap (λ k. indent_in x' k (taken x' o.kind (length (open_under w z)) (length (open_under w u))).0 (length (open_under w z))) partial
            ∙ this.indent ∙ ap (indent_under w (is_some found)) (ap (λ k. indent_in x k (taken x o.kind (length z) (length u)).0 (length z)) (sym partial))

        with-rest : Rest (is_some found) xs₂ xs₂' → Rest leads xs xs'
        with-rest k =
            let under : Bool → List ℕ → Levels = λ (alone : Bool) (lit : List ℕ).
            onto (text_onto (literal_under w leads (not alone) lit)) (with_token (tag_under w (record { token = token; is_alone = alone })) o.kind (levels_under w alone (marked x k.ys))) in
            let ls = levels_under w (is_some found) (marked x k.ys) in
            record {
              ys = literal_at from part ++ token ∷ k.ys;
              ys' = literal_at from' part' ++ token' ∷ k.ys';
              here = k.here ∙ shift xs (literal_at from part) token k.ys;
              there = k.there ∙ ap (λ l. Ok l) (shift xs' (literal_at from' part') token' k.ys');
              same =
                  levels-literal from' part' (token' ∷ k.ys')
                  ∙ ap (λ l. onto (text_onto l) (with_token token' o.kind (levels k.ys'))) (ap (λ n. slice_range x' n (taken x' o.kind (length (open_under w z)) (length (open_under w u))).0) b.from_is' ∙ this.there)
                  ∙ ap (λ l. onto (text_onto (literal_under w leads (not (is_some found)) this.lit)) (with_token token' o.kind l)) k.same
                  ∙ ap (onto (text_onto (literal_under w leads (not (is_some found)) this.lit)))
                  (tag-levels token' (tag_under w (record { token = token; is_alone = is_some found })) o.kind ls (tag_kind d.closing after o tag_is) name_is indent_is)
                  ∙ ap (under (is_some found)) (sym (ap (λ n. slice_range x n (taken x o.kind (length z) (length u)).0) b.from_is ∙ this.here))
                  ∙ ap (λ c. under c part) mark_is
                  ∙ sym (chunk-levels w x leads from part token k.ys (tag_kind d.closing after o tag_is));
            }

        shorter : length r < length rest
        shorter = omega (arith, ap length b.parts, length-append b.eaten b.left, ap length ins.2, length-append m (d.opening ++ after), ap length body_is, length-append body r, length-append bare (c ∷ []))

      by-fault : (o : Opened) → tag_after d.closing after ≡ Some o → (f : Option FaultKind) → wrong_inside o.kind (stripped o.inside) ≡ f → Shorter (length rest) → Rest leads xs xs'
      by-fault o tag_is (Some kind) wrong more = failed kind (ap checked tag_is ∙ ap (or_wrong (record { kind = o.kind; inside = stripped o.inside; rest = o.rest })) wrong)
      by-fault o tag_is None right more =
          with-rest o tag_is right (more (is_some (found o tag_is right)) o.rest (spread w o.rest) (e o tag_is right) _ _ (xs₂ o tag_is right) (xs₂' o tag_is right) (on o tag_is right) (after-sequences d o.kind (stripped o.inside) sequences) (shorter o tag_is right))

      by-tag : (t : Option Opened) → tag_after d.closing after ≡ t → Shorter (length rest) → Rest leads xs xs'
      by-tag None tag_is more = failed UnclosedTag (ap checked tag_is)
      by-tag (Some o) tag_is more = by-fault o tag_is (wrong_inside o.kind (stripped o.inside)) refl more

    by-cut : (t : Option (List ℕ × List ℕ)) → cut d.opening rest ≡ t → Shorter (length rest) → Rest leads xs xs'
    by-cut None is more = at-end is
    by-cut (Some (before, after)) is more = by-tag before after is (tag_after d.closing after) refl more

  within_n : (n : ℕ) (leads : Bool) (rest rest' : List ℕ) (d : Pair) (from from' : ℕ) (xs xs' : List TokenSeen) → Both leads rest rest' d from from' xs xs' → Sequences d → length rest < n → Rest leads xs xs'
  within_n zero leads rest rest' d from from' xs xs' b sequences less = absurd (omega arith)
  within_n (suc n) leads rest rest' d from from' xs xs' b sequences less =
      by-cut leads rest rest' d from from' xs xs' b sequences (cut d.opening rest) refl
      (λ leads₂ rest₂ rest₂' d₂ from₂ from₂' xs₂ xs₂' b₂ sequences₂ shorter. within_n n leads₂ rest₂ rest₂' d₂ from₂ from₂' xs₂ xs₂' b₂ sequences₂ (omega arith))

  -- the tokens of both texts
  module _ (some : 0 < length x) where
    at_first : Both true x x' braces 0 0 [] []
    at_first = record {
      front = [];
      eaten = [];
      left = x;
      pre = w;
      whole = refl;
      rest_is = is_indented ∙ indented-some w x some;
      pre_blank = blank;
      parts = refl;
      padding = tt;
      seam = inl (inl refl);
      from_is = refl;
      from_is' = ap length (sym (no_lines w));
      read = begins x;
      read' = begins x';
    }

    pub side-by-side : (ys' : List TokenSeen) × (scanned x' ≡ Ok ys') × (levels ys' ≡ levels_under w true (marked x ts))
    side-by-side =
        let all = within_n (length x + 1) true x x' braces 0 0 [] [] at_first (record { opening = refl; closing = refl }) (omega arith) in
        (all.ys', all.there, all.same ∙ ap (λ ys. levels_under w true (marked x ys)) (sym all.here))
