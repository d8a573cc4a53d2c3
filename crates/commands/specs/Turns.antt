-- What the answers of `turns` say (docs/promises.md).
use Rattle.std.specs.Prelude.{◌≡◌, ◌⊎◌, ℕ, true, false, List, [], ◌∷◌, ◌++◌, codes, Option, None, Some, Ok, Err}
use Rattle.fault_words.specs.declared.fault.Fault.{Fault}
use Rattle.fault_words.specs.declared.fault.FaultWord.TheVariants.{NotYet}
use Rattle.bundle_read.specs.declared.entries.Bundle.{Bundle}
use Rattle.bundle_read.specs.declared.entries.TenantPlan.{TenantPlan}
use Rattle.bundle_read.specs.Bundles.{IsRead}
use Rattle.reply_text.specs.Lines.{escaped, word_text}
use Rattle.reply_text.specs.Reports.{report}
use Rattle.tenant_parts.specs.declared.part.TenantPart.{TenantPart}
use Rattle.tenant_front.specs.Parts.{IsPart, IsFrontFault}
use Rattle.tenant_runs.specs.Tenants.{AreRan}
use Rattle.turn_lists.specs.declared.turn.Turn.{Turn}
use Rattle.commands.specs.declared.answer.Made.{Made}
use Rattle.commands.specs.declared.answer.Made.TheVariants.{Text, Line}
use Rattle.commands.specs.Answers.{Answered, Outside}
use Rattle.commands.specs.declared.turns.Book.{Book}
use Rattle.commands.specs.declared.turns.Judged.{Judged}
use Rattle.commands.specs.Built.{is_built}

-- ---- what a tenant is

-- a form that isn't built
abbrev pub not_yet_at : List ℕ → Fault
not_yet_at place = record { place = place; word = NotYet }

abbrev pub part_not_yet : Fault
part_not_yet = not_yet_at (codes "part")

-- a tenant is deployed where it is built, and has a part; otherwise it has a fault. What isn't built is told only where nothing else is
-- wrong
abbrev pub Judges : TenantPlan → Option Fault → Option TenantPart → Type 0
Judges plan None (Some part) = IsPart plan part × (is_built plan ≡ true)
Judges plan (Some f) None = IsFrontFault plan f ⊎ ((part : TenantPart) × IsPart plan part × (is_built plan ≡ false) × (f ≡ part_not_yet))
Judges plan None None = ⊥
Judges plan (Some f) (Some part) = ⊥

abbrev pub AreJudged : List TenantPlan → List (Option Fault) → List (Option TenantPart) → Type 0
AreJudged [] faults parts = (faults ≡ []) × (parts ≡ [])
AreJudged (plan ∷ plans) (f ∷ faults) (p ∷ parts) = Judges plan f p × AreJudged plans faults parts
AreJudged (plan ∷ plans) _ _ = ⊥

-- one more is judged
pub record JudgesNext (plan : TenantPlan) (before after : Judged) : Type 0 where
  pub fault : Option Fault
  pub part : Option TenantPart
  pub judges : Judges plan fault part
  pub faults : after.faults ≡ before.faults ++ fault ∷ []
  pub parts : after.parts ≡ before.parts ++ part ∷ []

-- ---- what a bundle comes to

-- each tenant has its part or its fault; the images and the trails in the book are those to which the parts come by the turns of the
-- list and those behind it; and the text tells the trails
pub record IsRun (turns : List Turn) (bundle : Bundle) (book : Book) (text : List ℕ) : Type 0 where
  pub faults : List (Option Fault)
  pub parts : List (Option TenantPart)
  pub judged : AreJudged bundle.tenants faults parts
  pub ran : AreRan parts turns book.images book.trails
  pub prints : text ≡ report bundle.tenants faults book.trails

abbrev pub IsRunText : List Turn → Bundle → Book → Made → Type 0
IsRunText turns bundle book (Text text) = IsRun turns bundle book text
IsRunText turns bundle book (Line line) = ⊥

-- the bytes are a bundle
pub record Runs (turns : List Turn) (book : Book) (bytes text : List ℕ) : Type 0 where
  pub bundle : Bundle
  pub is_bundle : IsRead bytes (Ok bundle)
  pub run : IsRun turns bundle book text

abbrev pub bad_line : Fault → List ℕ
bad_line f = codes "bad bundle at " ++ escaped f.place ++ codes ": " ++ word_text f.word ++ 10 ∷ []

abbrev pub bad_made : Fault → Made
bad_made f = Line (bad_line f)

-- the bytes are no bundle, and the line tells their first fault
pub record Refuses (bytes line : List ℕ) : Type 0 where
  pub fault : Fault
  pub why : IsRead bytes (Err fault)
  pub none : (bundle : Bundle) → IsRead bytes (Ok bundle) → ⊥
  pub is : line ≡ bad_line fault

-- the bytes are a bundle
pub record IsInput (bytes : List ℕ) : Type 0 where
  pub bundle : Bundle
  pub is : IsRead bytes (Ok bundle)

-- a status of `turns` with this list, and the book after it
abbrev pub Turns : List Turn → Book → ℕ → Outside → Type 0
Turns turns book status s = Answered (Runs turns book) Refuses 3 IsInput status s
