-- What the answers of a command say (docs/promises.md).
use Rattle.std.specs.Prelude.{◌≡◌, ℕ, ◌<◌, ◌≤◌, ◌⊎◌, List, length, Option, Some}
use Rattle.apex_io.specs.Outside.{Rose, Takes, IsAtEnd, Adds, Outgrows}
use Rattle.apex_io.specs.Whole.{WriteCause}
use Rattle.commands.specs.declared.answer.Answer.{Answer}
use Rattle.commands.specs.declared.answer.Answer.TheVariants.{Done, ReadFault, WriteFault, NoMemory, TooLong, Refused}
use Rattle.commands.specs.declared.answer.Made.{Made}
use Rattle.commands.specs.declared.answer.Made.TheVariants.{Text, Line}

-- the most bytes that are read
abbrev pub most_bytes : ℕ
most_bytes = 67108864

-- the number that a process ends with; a command that refuses its input has its own
abbrev pub status_of : ℕ → Answer → ℕ
status_of refused Done = 0
status_of refused ReadFault = 2
status_of refused WriteFault = 4
status_of refused NoMemory = 5
status_of refused TooLong = 6
status_of refused Refused = refused

-- the source was read to its end, within the limit
pub record ReadWhole (left later : Option (List ℕ)) (bytes : List ℕ) : Type 0 where
  pub within : length bytes ≤ most_bytes
  pub takes : Takes left bytes later
  pub at_end : IsAtEnd later

-- why it wasn't
abbrev pub NotRead : Answer → Option (List ℕ) → Option (List ℕ) → ℕ → ℕ → Type 0
NotRead Done left later faults faults_later = ⊥
NotRead ReadFault left later faults faults_later = Rose faults faults_later
NotRead WriteFault left later faults faults_later = ⊥
NotRead NoMemory left later faults faults_later = Unit {0}
NotRead TooLong left later faults faults_later = Outgrows most_bytes left later
NotRead Refused left later faults faults_later = ⊥

-- how the writing of a text or a line ends, and what the sink got
abbrev pub WrittenAs : Answer → Answer → List ℕ → Option (List ℕ) → Option (List ℕ) → ℕ → ℕ → Type 0
WrittenAs whole answer text held held_later faults faults_later =
    ((answer ≡ whole) × Adds held text held_later) ⊎ ((answer ≡ WriteFault) × WriteCause text held held_later faults faults_later)

abbrev pub Written : Answer → Made → Option (List ℕ) → Option (List ℕ) → ℕ → ℕ → Type 0
Written answer (Text text) held held_later faults faults_later = WrittenAs Done answer text held held_later faults faults_later
Written answer (Line line) held held_later faults faults_later = WrittenAs Refused answer line held held_later faults faults_later

-- what is seen of a call: the source's bytes before and after it, its faults, and the same of the sink
pub record Outside : Type 0 where
  pub left : Option (List ℕ)
  pub later : Option (List ℕ)
  pub read_faults : ℕ
  pub read_faults_later : ℕ
  pub held : Option (List ℕ)
  pub held_later : Option (List ℕ)
  pub write_faults : ℕ
  pub write_faults_later : ℕ

-- these bytes were there, within the limit, and neither side failed
pub record IsFine (bytes : List ℕ) (s : Outside) : Type 0 where
  pub told : s.left ≡ Some bytes
  pub within : length bytes ≤ most_bytes
  pub reads : Rose s.read_faults s.read_faults_later → ⊥
  pub writes : Rose s.write_faults s.write_faults_later → ⊥

-- of a command: which bytes it runs, with which text; which it refuses, with which line
module _ (Runs Refuses : List ℕ → List ℕ → Type 0) where
  abbrev pub Makes : List ℕ → Made → Type 0
  Makes bytes (Text text) = Runs bytes text
  Makes bytes (Line line) = Refuses bytes line

  -- the cause of each answer, and what the sink got
  abbrev pub Cause : Answer → Outside → Type 0
  Cause Done s = (bytes : List ℕ) × (text : List ℕ) × ReadWhole s.left s.later bytes × Runs bytes text × Adds s.held text s.held_later
  Cause Refused s = (bytes : List ℕ) × (line : List ℕ) × ReadWhole s.left s.later bytes × Refuses bytes line × Adds s.held line s.held_later
  Cause WriteFault s =
      (bytes : List ℕ) × (text : List ℕ) × ReadWhole s.left s.later bytes × (Runs bytes text ⊎ Refuses bytes text) × WriteCause text s.held s.held_later s.write_faults s.write_faults_later
  Cause ReadFault s = Rose s.read_faults s.read_faults_later × (s.held_later ≡ s.held)
  Cause TooLong s = Outgrows most_bytes s.left s.later × (s.held_later ≡ s.held)
  Cause NoMemory s = s.held_later ≡ s.held

  -- a status: it is that of one answer, which has its cause; and which one it is where nothing failed, want of memory apart.
  -- `refused` is the command's own status, `Input` the bytes that it is for
  pub record Answered (refused : ℕ) (Input : List ℕ → Type 0) (status : ℕ) (s : Outside) : Type 0 where
    pub answer : Answer
    pub is : status ≡ status_of refused answer
    pub cause : Cause answer s
    pub complete : (bytes : List ℕ) → IsFine bytes s → Input bytes → (status ≡ 0) ⊎ (status ≡ 5)
    pub refuses : (bytes : List ℕ) → IsFine bytes s → (Input bytes → ⊥) → (status ≡ refused) ⊎ (status ≡ 5)
    pub too_long : (bytes : List ℕ) → s.left ≡ Some bytes → most_bytes < length bytes → (Rose s.read_faults s.read_faults_later → ⊥) → (status ≡ 6) ⊎ (status ≡ 5)
