-- What a member declares, or its first fault (docs/language.md, "Members"), without what stands in its body.
use Rattle.std.specs.Prelude.{ℕ, ◌&&◌, ◌||◌, nat_lt, Bool, cond, List, [], ◌∷◌, ◌++◌, length, bytes_eq}
use Rattle.fault_words.specs.declared.fault.FaultWord.TheVariants.{BadParent, Duplicate, UnknownName}
use Rattle.apex_syntax.specs.declared.expr.TypeTree.{TypeTree}
use Rattle.apex_syntax.specs.declared.unit.ParamTree.{ParamTree}
use Rattle.apex_syntax.specs.declared.unit.ResultTree.{ResultTree}
use Rattle.apex_syntax.specs.declared.unit.ResultTree.TheVariants as R
use Rattle.apex_syntax.specs.declared.word.Word.{Word}
use Rattle.class_walk.specs.Headers.{Nothing}
use Rattle.local_scopes.specs.Locals.{fresh, local}
use Rattle.static_types.specs.declared.kind.ValueType.{ValueType}
use Rattle.type_names.specs.TypeTrees.{Known, type_of}
use Rattle.type_names.specs.Walks.{Walk, Gives, wrong, onward}

abbrev pub Locals : Type 0
Locals = List (List ℕ × ValueType)

-- parameters from left to right, each its type, and then its name, which no parameter before it has: the locals that
-- they are
abbrev pub params_walk : Known → Locals → List ParamTree → Walk Locals
params_walk known locals [] = Gives locals
params_walk known locals (p ∷ ps) =
    onward (type_of known p.kind) (λ kind.
    onward (fresh locals p.name) (λ _. params_walk known (locals ++ local p.name kind ∷ []) ps))

abbrev pub result_walk : Known → ResultTree → Walk Nothing
result_walk known (R.Void span) = Gives tt
result_walk known (R.Type tree) = onward (type_of known tree) (λ _. Gives tt)

abbrev pub once : Bool → ℕ → Walk Nothing
once duplicate at = cond duplicate (wrong Duplicate at) (Gives tt)

abbrev pub field_walk : Known → TypeTree → Word → Bool → Walk ValueType
field_walk known kind w duplicate = onward (type_of known kind) (λ k. onward (once duplicate w.span.from) (λ _. Gives k))

-- at a method's name is told that it is named twice, and then that it doesn't override as it may
abbrev pub method_name_walk : Bool → Bool → ℕ → Walk Nothing
method_name_walk duplicate overrides_well at = cond duplicate (wrong Duplicate at) (cond overrides_well (Gives tt) (wrong BadParent at))

abbrev pub signature_walk : Known → ResultTree → Word → List ParamTree → Bool → Bool → Walk Locals
signature_walk known result w params duplicate overrides_well =
    onward (result_walk known result) (λ _.
    onward (method_name_walk duplicate overrides_well w.span.from) (λ _. params_walk known [] params))

-- a constructor has its class's name, and an exception has its own ones with none and with one parameter
abbrev pub named_walk : List ℕ → Word → Walk Nothing
named_walk class w = cond (bytes_eq class w.name) (Gives tt) (wrong UnknownName w.span.from)

abbrev pub constructor_walk : Known → List ℕ → Bool → Word → List ParamTree → Bool → Walk Locals
constructor_walk known class is_exception w params duplicate =
    onward (named_walk class w) (λ _.
    onward (once (duplicate || (is_exception && nat_lt (length params) 2)) w.span.from) (λ _. params_walk known [] params))
