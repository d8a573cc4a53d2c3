-- The lines of a report (docs/formats.md, "Reports").
use Rattle.std.specs.Prelude.{ℕ, cond, eqb, List, [], ◌∷◌, ◌++◌, codes, decimal}
use Rattle.apex_num.specs.declared.kind.LimitKind.{LimitKind}
use Rattle.apex_num.specs.declared.kind.LimitKind.TheVariants.{Queries, Rows, Dml, Saved, Depth, Steps, Alloc, Calls}
use Rattle.apex_requests.specs.declared.reply.Counts.{Counts}
use Rattle.fault_words.specs.declared.fault.Fault.{Fault}
use Rattle.fault_words.specs.declared.fault.FaultWord.{FaultWord}
use Rattle.fault_words.specs.declared.fault.FaultWord.TheVariants as Word
use Rattle.apex_requests.specs.declared.reply.Outcome.{Outcome}
use Rattle.apex_requests.specs.declared.reply.Outcome.TheVariants.{Ok, Thrown, Limit, Refused}
use Rattle.apex_requests.specs.declared.reply.Reply.{Reply}

-- a backslash, a line feed and a carriage return are printed as two signs
abbrev pub escape : ℕ → List ℕ
escape b = cond (eqb b 92) (92 ∷ 92 ∷ []) (cond (eqb b 10) (92 ∷ 110 ∷ []) (cond (eqb b 13) (92 ∷ 114 ∷ []) (b ∷ [])))

abbrev pub escaped : List ℕ → List ℕ
escaped [] = []
escaped (b ∷ bs) = escape b ++ escaped bs

abbrev pub kind_word : LimitKind → List ℕ
kind_word Queries = codes "queries"
kind_word Rows = codes "rows"
kind_word Dml = codes "dml"
kind_word Saved = codes "saved"
kind_word Depth = codes "depth"
kind_word Steps = codes "steps"
kind_word Alloc = codes "alloc"
kind_word Calls = codes "calls"

-- the word of a fault
abbrev pub word_text : FaultWord → List ℕ
word_text Word.NotUtf8 = codes "NotUtf8"
word_text Word.BadChar = codes "BadChar"
word_text Word.OpenText = codes "OpenText"
word_text Word.OpenComment = codes "OpenComment"
word_text Word.WideLiteral = codes "WideLiteral"
word_text Word.Expected = codes "Expected"
word_text Word.TooDeep = codes "TooDeep"
word_text Word.MixedAndOr = codes "MixedAndOr"
word_text Word.LockedOrder = codes "LockedOrder"
word_text Word.TooManyLevels = codes "TooManyLevels"
word_text Word.UnknownType = codes "UnknownType"
word_text Word.DoubleRefused = codes "DoubleRefused"
word_text Word.UnknownName = codes "UnknownName"
word_text Word.NotVisible = codes "NotVisible"
word_text Word.Duplicate = codes "Duplicate"
word_text Word.WrongType = codes "WrongType"
word_text Word.WrongArguments = codes "WrongArguments"
word_text Word.NotWritable = codes "NotWritable"
word_text Word.BadParent = codes "BadParent"
word_text Word.MissingMethod = codes "MissingMethod"
word_text Word.NoReturn = codes "NoReturn"
word_text Word.MisplacedJump = codes "MisplacedJump"
word_text Word.BadQuery = codes "BadQuery"
word_text Word.BadTrigger = codes "BadTrigger"
word_text Word.BadName = codes "BadName"
word_text Word.BadPrefix = codes "BadPrefix"
word_text Word.UnknownRole = codes "UnknownRole"
word_text Word.RoleLoop = codes "RoleLoop"
word_text Word.UnknownObject = codes "UnknownObject"
word_text Word.TooManyMasters = codes "TooManyMasters"
word_text Word.MasterLoop = codes "MasterLoop"
word_text Word.BadLength = codes "BadLength"
word_text Word.BadRollup = codes "BadRollup"
word_text Word.BadRule = codes "BadRule"
word_text Word.UnknownField = codes "UnknownField"
word_text Word.BadCell = codes "BadCell"
word_text Word.BadId = codes "BadId"
word_text Word.Missing = codes "Missing"
word_text Word.UnknownRow = codes "UnknownRow"
word_text Word.NotJson = codes "NotJson"
word_text Word.UnknownKey = codes "UnknownKey"
word_text Word.WrongKind = codes "WrongKind"
word_text Word.BadValue = codes "BadValue"
word_text Word.TooMany = codes "TooMany"
word_text Word.NotYet = codes "NotYet"

-- where a fault stands, and what it is
abbrev pub fault_text : Fault → List ℕ
fault_text f = escaped f.place ++ codes " " ++ word_text f.word

abbrev pub counts_text : Counts → ℕ → List ℕ
counts_text c ops =
    codes "queries=" ++ decimal c.queries ++ codes " rows=" ++ decimal c.rows ++ codes " dml=" ++ decimal c.dml ++ codes " saved=" ++ decimal c.saved ++ codes " steps=" ++ decimal c.steps ++ codes " ops=" ++ decimal ops

-- an exception that nothing caught: its class and its message
abbrev pub thrown_text : List ℕ → List ℕ → List ℕ
thrown_text class text = codes "thrown " ++ class ++ codes ": " ++ escaped text

abbrev pub limit_text : LimitKind → ℕ → List ℕ
limit_text k n = codes "limit " ++ kind_word k ++ codes " " ++ decimal n

-- each debug line on a line of its own
abbrev pub debug_text : List (List ℕ) → List ℕ
debug_text [] = []
debug_text (d ∷ ds) = codes "| " ++ escaped d ++ 10 ∷ debug_text ds

abbrev pub counted : Reply → List ℕ → List ℕ
counted r outcome = counts_text r.counts r.ops ++ codes " " ++ outcome

-- what a line says of a reply; of a refused request only why
abbrev pub line_by : Outcome → Reply → List ℕ
line_by Ok r = counted r (codes "ok")
line_by (Thrown class text) r = counted r (thrown_text class text)
line_by (Limit k n) r = counted r (limit_text k n)
line_by (Refused f) r = codes "refused " ++ fault_text f

-- that line to its end, and the debug lines
abbrev pub reply_text : Reply → List ℕ
reply_text r = line_by r.outcome r ++ 10 ∷ debug_text r.debug
