-- Which faults end what.
use Rattle.std.specs.Prelude.{◌≡◌, ⊤, List, ℕ, ◌++◌, codes, string_bytes}
use Rattle.editor_common.specs.declared.editor_fault.EditorFault.{EditorFault}
use Rattle.editor_common.specs.declared.talk_fault.TalkFault.{TalkFault}
use Rattle.editor_common.specs.declared.talk_fault.TalkFault.TheVariants as talk
use Rattle.editor_common.specs.declared.editor_fault.EditorFault.TheVariants.{File, Write, Stop, Clock}
use Rattle.editor_common.specs.declared.editor_fault.EditorFault.TheVariants.{OutOfMemory}

-- words were made that say why nothing goes on; or an allocation failed, perhaps that of the words
abbrev pub IsStopOrMemory : EditorFault → Type 0
IsStopOrMemory (Stop words) = ⊤
IsStopOrMemory OutOfMemory = ⊤
IsStopOrMemory _ = ⊥

abbrev pub of_talk : TalkFault → EditorFault
of_talk talk.Write = Write
of_talk talk.Clock = Clock
of_talk talk.OutOfMemory = OutOfMemory

-- what the system says of that path, or an allocation failed
abbrev pub IsAtPath : List ℕ → EditorFault → Type 0
IsAtPath path (File name why) = string_bytes name ≡ path
IsAtPath path OutOfMemory = ⊤
IsAtPath path _ = ⊥

-- or what is wrong in the file there, in words that name it first
abbrev pub IsInFile : List ℕ → EditorFault → Type 0
IsInFile path (File name why) = string_bytes name ≡ path
IsInFile path (Stop words) = (rest : List ℕ) × (string_bytes words ≡ path ++ (codes ":" ++ rest))
IsInFile path OutOfMemory = ⊤
IsInFile path _ = ⊥
