-- What is made of a block on the way.
use Rattle.std.specs.Prelude.{◌≡◌, ◌⊎◌, ℕ, List, Option, Some, Ok, Err}
use Rattle.apex_requests.specs.declared.reply.Outcome.TheVariants as O
use Rattle.apex_requests.specs.declared.reply.Reply.{Reply}
use Rattle.apex_syntax.specs.declared.unit.Unit.{Unit as Tree}
use Rattle.fault_words.specs.declared.fault.Fault.{Fault}
use Rattle.tenant_units.specs.Faults.{Tells}
use Rattle.tenant_units.specs.Trees.{block_name, IsBlock}
use Rattle.type_names.specs.declared.fault.TreeFault.{TreeFault}
use Rattle.typed_program.specs.declared.program.Program.{Program}
use Rattle.typed_program.specs.declared.stmt.TypedStmt.{TypedStmt}
use Rattle.stack_code.specs.declared.image.Image.{Image}
use Rattle.reply_text.specs.Lines.{reply_text}
use Rattle.commands.specs.declared.answer.Made.{Made}
use Rattle.commands.specs.declared.answer.Made.TheVariants.{Text, Line}
use Rattle.commands.specs.Exec.{program_of, IsTyped, IsRun, refused_line}

-- the bytes are the text of this tree, and of no other
pub record IsOnlyTree (bytes : List ℕ) (tree : Tree) : Type 0 where
  pub is : IsBlock bytes tree
  pub only : (other : Tree) → IsBlock bytes other → other ≡ tree

-- they are this well-typed block, and no other
pub record IsOnlyBlock (bytes : List ℕ) (block : List TypedStmt) : Type 0 where
  pub is : IsTyped bytes block
  pub only : (other : List TypedStmt) → IsTyped bytes other → other ≡ block

-- a program has them as its only block, well typed
abbrev pub HasOnlyBlock : List ℕ → Program → Type 0
HasOnlyBlock bytes program = (block : List TypedStmt) × (program ≡ program_of (Ok block)) × IsOnlyBlock bytes block

-- it has one block, well typed or not
abbrev pub IsOfBlock : Program → Type 0
IsOfBlock program = ((block : List TypedStmt) × (program ≡ program_of (Ok block))) ⊎ ((fault : TreeFault) × (program ≡ program_of (Err fault)))

abbrev pub text : Reply → Made
text reply = Text (reply_text reply)

abbrev pub line : Fault → Made
line fault = Line (refused_line fault)

-- the text of a reply, or why the request was refused
abbrev pub IsTold : Reply → Made → Type 0
IsTold reply (Text out) = IsRun reply.outcome × (out ≡ reply_text reply)
IsTold reply (Line out) = (fault : Fault) × (reply.outcome ≡ O.Refused fault) × (out ≡ refused_line fault)

-- the line of a fault that the checker found
abbrev pub IsLineOf : List ℕ → TreeFault → Made → Type 0
IsLineOf bytes fault made = (told : Fault) × Tells block_name bytes fault.at fault.word told × (made ≡ line told)

-- the image that is kept of what was made
abbrev pub kept_of : Made → Image → Option Image → Option Image
kept_of (Text out) kept old = Some kept
kept_of (Line out) kept old = old
