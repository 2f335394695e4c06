use Rattle.engine_script.proofs.ScriptLemmas.{short_text, bad_end}
use Rattle.engine_script.proofs.script.posted.Goals as goal

pub returns-in-Short : goal.returns-in-Short
returns-in-Short c = short_text c.args.post.node c.args.post.ticket c.args.post.text_len c.args.after.now c.requires c.in-Short.ensures

pub returns-in-Bad : goal.returns-in-Bad
returns-in-Bad c =
    let b = c.in-Bad.ensures in
    bad_end c.args.post.node c.args.post.ticket c.args.post.text_len c.args.after.now b.0 b.2 b.1 c.requires b.3 b.4 b.5
