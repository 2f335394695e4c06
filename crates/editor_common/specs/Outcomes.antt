-- The outcome of a word.
use Rattle.serde_json.specs.Data.{Members}
use Rattle.serde_json.specs.View.{members_view}
use Rattle.editor_common.specs.declared.outcome.Outcome.{Outcome}

-- the members that are kept
abbrev pub kept : Outcome → Members
kept outcome = members_view outcome.members.entries
