use Rattle.std.proofs.Common.{Some, ap, sym, subst, ◌∙◌}
use Rattle.shared_map.specs.Entries.{IsRising, find}
use Rattle.shared_map.proofs.Forks.{at_fork}
use Rattle.shared_map.proofs.Sides.{find_left, find_here, find_right}
use Rattle.shared_map.proofs.tree.Tree.+get.Goals as goal

pub returns-in-Less : goal.returns-in-Less
returns-in-Less g t c =
    let compare = g.Q.Sought.compare c.args.key in
    let n = c.in-Some.node.value in
    let is = at_fork c.self.view_is c.in-Some.is in
    let up = subst (IsRising g.K.Ord.cmp) (c.self.view_is ∙ is) c.self.invariant in
    let less = sym (c.in-Less.ensures ∙ ap (λ e. compare e.0) (c.deref-in-Some.ensures ∙ ap (λ f. f.entry.value) c.deref.ensures)) in
    c.get.ensures ∙ ap (λ f. find compare f.left) c.deref-in-Less.ensures ∙ sym (find_left g.K.Ord.cmp compare (g.met.Q.Sought.is_search c.args.key) n.left n.entry.value n.right up less) ∙ sym (ap (find compare) is)

pub returns-in-Equal : goal.returns-in-Equal
returns-in-Equal g t c =
    let compare = g.Q.Sought.compare c.args.key in
    let n = c.in-Some.node.value in
    let is = at_fork c.self.view_is c.in-Some.is in
    let up = subst (IsRising g.K.Ord.cmp) (c.self.view_is ∙ is) c.self.invariant in
    let same = sym (c.in-Equal.ensures ∙ ap (λ e. compare e.0) (c.deref-in-Some.ensures ∙ ap (λ f. f.entry.value) c.deref.ensures)) in
    ap (λ e. Some e.1) (c.deref-in-Equal-2.ensures ∙ ap (λ f. f.entry.value) c.deref-in-Equal.ensures)
    ∙ sym (find_here g.K.Ord.cmp compare (g.met.Q.Sought.is_search c.args.key) n.left n.entry.value n.right up same) ∙ sym (ap (find compare) is)

pub returns-in-Greater : goal.returns-in-Greater
returns-in-Greater g t c =
    let compare = g.Q.Sought.compare c.args.key in
    let n = c.in-Some.node.value in
    let is = at_fork c.self.view_is c.in-Some.is in
    let up = subst (IsRising g.K.Ord.cmp) (c.self.view_is ∙ is) c.self.invariant in
    let more = sym (c.in-Greater.ensures ∙ ap (λ e. compare e.0) (c.deref-in-Some.ensures ∙ ap (λ f. f.entry.value) c.deref.ensures)) in
    c.get-in-Greater.ensures ∙ ap (λ f. find compare f.right) c.deref-in-Greater.ensures ∙ sym (find_right g.K.Ord.cmp compare (g.met.Q.Sought.is_search c.args.key) n.left n.entry.value n.right up more) ∙ sym (ap (find compare) is)
