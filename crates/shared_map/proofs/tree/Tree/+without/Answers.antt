use Rattle.std.proofs.Common.{ap, sym, subst, ◌∙◌}
use Rattle.std.proofs.lemmas.Result.{IfOk-weaker}
use Rattle.shared_map.specs.Entries.{IsRising, remove}
use Rattle.shared_map.proofs.Changed.{rising_remove}
use Rattle.shared_map.proofs.Sides.{remove_left, remove_here, remove_right}
use Rattle.shared_map.proofs.tree.Tree.+without.Goals as goal

pub balanced-requires : goal.balanced-requires
balanced-requires g t c =
    let cmp = g.K.Ord.cmp in
    let compare = g.Q.Sought.compare c.args.key in
    let n = c.in-Some.node.now in
    let up = c.in-Some.ensures.rising in
    let less = sym (c.in-Less.ensures ∙ ap (λ e. compare e.0) c.deref.ensures) in
    rw (c.in_ok-left-in-Less.ensures) (subst (IsRising cmp) (remove_left cmp compare (g.met.Q.Sought.is_search c.args.key) n.left n.entry.value n.right up less) (rising_remove cmp compare _ up))

pub joined-requires : goal.joined-requires
joined-requires g t c =
    let cmp = g.K.Ord.cmp in
    let compare = g.Q.Sought.compare c.args.key in
    let n = c.in-Some.node.now in
    let up = c.in-Some.ensures.rising in
    let same = sym (c.in-Equal.ensures ∙ ap (λ e. compare e.0) c.deref.ensures) in
    subst (IsRising cmp) (remove_here cmp compare (g.met.Q.Sought.is_search c.args.key) n.left n.entry.value n.right up same) (rising_remove cmp compare _ up)

pub balanced-requires-in-Greater : goal.balanced-requires-in-Greater
balanced-requires-in-Greater g t c =
    let cmp = g.K.Ord.cmp in
    let compare = g.Q.Sought.compare c.args.key in
    let n = c.in-Some.node.now in
    let up = c.in-Some.ensures.rising in
    let more = sym (c.in-Greater.ensures ∙ ap (λ e. compare e.0) c.deref.ensures) in
    rw (c.in_ok-right-in-Greater.ensures) (subst (IsRising cmp) (remove_right cmp compare (g.met.Q.Sought.is_search c.args.key) n.left n.entry.value n.right up more) (rising_remove cmp compare _ up))

pub returns-in_ok-left-in-Less : goal.returns-in_ok-left-in-Less
returns-in_ok-left-in-Less g t c =
    let cmp = g.K.Ord.cmp in
    let compare = g.Q.Sought.compare c.args.key in
    let n = c.in-Some.node.now in
    let up = c.in-Some.ensures.rising in
    let less = sym (c.in-Less.ensures ∙ ap (λ e. compare e.0) c.deref.ensures) in
    IfOk-weaker c.balanced.result _ _ (λ m e. e ∙ rw (c.in_ok-left-in-Less.ensures) (sym (remove_left cmp compare (g.met.Q.Sought.is_search c.args.key) n.left n.entry.value n.right up less) ∙ sym (ap (remove compare) c.in-Some.ensures.some))) c.balanced.ensures

pub returns-in-Equal : goal.returns-in-Equal
returns-in-Equal g t c =
    let cmp = g.K.Ord.cmp in
    let compare = g.Q.Sought.compare c.args.key in
    let n = c.in-Some.node.now in
    let up = c.in-Some.ensures.rising in
    let same = sym (c.in-Equal.ensures ∙ ap (λ e. compare e.0) c.deref.ensures) in
    IfOk-weaker c.joined.result _ _ (λ m e. e ∙ sym (remove_here cmp compare (g.met.Q.Sought.is_search c.args.key) n.left n.entry.value n.right up same) ∙ sym (ap (remove compare) c.in-Some.ensures.some)) c.joined.ensures

pub returns-in_ok-right-in-Greater : goal.returns-in_ok-right-in-Greater
returns-in_ok-right-in-Greater g t c =
    let cmp = g.K.Ord.cmp in
    let compare = g.Q.Sought.compare c.args.key in
    let n = c.in-Some.node.now in
    let up = c.in-Some.ensures.rising in
    let more = sym (c.in-Greater.ensures ∙ ap (λ e. compare e.0) c.deref.ensures) in
    IfOk-weaker c.balanced-in-Greater.result _ _ (λ m e. e ∙ rw (c.in_ok-right-in-Greater.ensures) (sym (remove_right cmp compare (g.met.Q.Sought.is_search c.args.key) n.left n.entry.value n.right up more) ∙ sym (ap (remove compare) c.in-Some.ensures.some))) c.balanced-in-Greater.ensures
