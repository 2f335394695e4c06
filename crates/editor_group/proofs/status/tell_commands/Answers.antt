use Rattle.std.proofs.Common.{refl, codes}
use Rattle.serde_json.specs.View.{view}
use Rattle.editor_common.specs.Outcomes.{kept}
use Rattle.editor_group.proofs.Telling.{put_both}
use Rattle.editor_group.proofs.status.tell_commands.Goals as goal

pub returns-in_ok-say_made : goal.returns-in_ok-say_made
returns-in_ok-say_made g c =
    let least = view c.from.result in record {
      is = (
        least,
        put_both (codes "commands_at_least") (codes "commands_at_most") least least (view c.from-2.result) _
            (kept c.args.outcome.now) (kept c.put.new.self) (kept c.put-2.new.self)
            c.in_ok-put.ensures.ok refl c.in_ok-put-2.ensures.ok c.from-2.ensures,
      );
    }

pub returns-in_default : goal.returns-in_default
returns-in_default g c =
    let least = view c.from.result in record {
      is = (
        least,
        put_both (codes "commands_at_least") (codes "commands_at_most") least least (view c.from-2.result) _
            (kept c.args.outcome.now) (kept c.put.new.self) (kept c.put-2.new.self)
            c.in_ok-put.ensures.ok refl c.in_ok-put-2.ensures.ok c.from-2.ensures,
      );
    }
